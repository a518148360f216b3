-- Copies into a target: a local, a place in RAM, or a range of bits, of whole bytes or with the bits around it kept.
use Prim.Native.Nat.{ℕ, suc, ◌+◌, ◌/◌, ◌%◌, ◌≤◌, ◌<◌}
use mathlib.Core.Path.{◌≡◌, refl, ◌∙◌}
use mathlib.Core.Bool.{Bool, true, false, ◌&&◌}
use mathlib.Core.List.{List, [], ◌∷◌}
use mathlib.Core.Option.{none, some}
use native.Mathlib.Omega.{arith}
use lib.Dec.{eqb, leb, ltb}
use borrow.Author.Tests.{leb-true, leb-false, lt-ltb, le-ltb}
use Rattle.prelude.specs.Base as definition
use Rattle.prelude.specs.Base.{or_else, is_some, when◌then◌else◌}
use Rattle.definition.specs.Refusals.{refusal_number, shift_too_far, offset_too_far, not_assignable}
use Rattle.definition.specs.Operations.{Operation, operation_number}
use Rattle.definition.specs.Value.{kind_number, Value, constant, slice_bytes}
use Rattle.definition.specs.Sizes as sizes
use Rattle.definition.specs.Sizes.{at}
use Rattle.definition.specs.Walk as walks
use Rattle.definition.specs.Walk.{ExprValue, State, Env, Outcome, done, stopped, on, require}
use Rattle.definition.specs.Expressions as expressions
use Rattle.definition.specs.Statements as d
use Rattle.definition.specs.ActionList.{or_none}
use Rattle.definition.proofs.Openers.{base_opens}
use Rattle.list_pushes.specs.declared.push.State.{State as WordState}
use Rattle.list_pushes.specs.declared.push.Env.{Env as WordEnv}
use Rattle.list_pushes.specs.Outcomes.{Read}
use Rattle.list_pushes.specs.Pushes.{ReadOut, read}
use Rattle.list_refinement.specs.Encoding.{enc_v, Sound, first_of, second_of}
use Rattle.list_refinement.proofs.Settled.{size_is, known_small}
use Rattle.list_refinement.proofs.Seen.{Seen, no, yes, seen_read}
use Rattle.list_values.specs.Values as words
use Rattle.list_values.specs.Outcomes.{Slice}
use Rattle.expr_reading.specs.Reading.{byte_aligned, slice_read, sliced, read_value}
use Rattle.stmt_walk.specs.Outcomes.{Walk}
use Rattle.stmt_walk.specs.Walks.{Stepped, stepped, step_read, stop, read_then}
use Rattle.stmt_assignments.specs.Copies.{merge_bits, extend_bits, insert_in, insert_bits, keep_bits, write_bits, copy_bits, read_sliced, copy_bytes, copy_range, copy_ram, copy_into}
use Rattle.expr_refinement.proofs.Encodings.{sound_more, stood_more}
use Rattle.expr_refinement.proofs.Answers.{bind_read, bind_tmp, bind_unless, acts, temps, word, Refines, refines_map, refines_stopped}
use Rattle.expr_refinement.proofs.Below.{Spare}
use Rattle.expr_refinement.proofs.Reading.{to_of, and_applies, constant-sound, read_value_lem, read-operand}
use Rattle.stmt_refinement.proofs.Views.{seen_step, begun_in, stop_seen, map_seen, read_seen, refines_as, step_stops, Goes, on_assoc}
use Rattle.stmt_refinement.proofs.Given.{below}
use Rattle.stmt_refinement.proofs.Stores.{store_is}
use Rattle.stmt_refinement.proofs.ReadInto.{read_to_lem}
use Rattle.list_refinement.specs.RuleKinds.{kind_of}
use Rattle.expr_refinement.specs.Encoding.{enc_x, SoundX, Applies, tmps, count, Stood}
use Rattle.stmt_refinement.specs.Standing.{Beside, beside, Given}

left_applies : (u v : Value) → Applies Operation.IntLeft (u ∷ v ∷ [])
unfolding kind_of at is_some operation_number
left_applies u v n to = ((refl, refl, refl), refl)

or_applies : (u v : Value) → Applies Operation.IntOr (u ∷ v ∷ [])
unfolding kind_of at is_some operation_number
or_applies u v n to = ((refl, refl, refl), refl)

extend_applies : (v : Value) → Applies Operation.ZeroExtend (v ∷ [])
unfolding kind_of operation_number
extend_applies v n to = (tt, refl)

map_map : {A : Type 0} (c : ℕ × Beside) (x : Seen A) → map_seen (λ _. c) x ≡ map_seen (λ (_ : Unit {0}). c) (map_seen (λ _. tt {0}) x)
unfolding map_seen
map_map c (no n) = refl
map_map c (yes a st b m) = refl

module _ (s t : List ℕ) (e : Env) (front tail rest : List ℕ) (we : WordEnv) (given : Given s t e front tail rest we) (spare : ℕ) (room : Spare spare tail) where
  abbrev A : State → List ℕ
  A st = acts e.section front tail rest st

  abbrev M : State → List ℕ
  M st = temps e.section front tail rest st

  abbrev W : State → WordState
  W st = word e.section front tail rest st

  abbrev Stands : State → Type 0
  Stands st = Stood e.section tail rest spare st

  abbrev Reads : State → ReadOut → Outcome Value → Type 0
  Reads st x o = Refines e.section front tail rest spare st enc_v (Sound e.section) (seen_read x) o

  -- an answer whose value does not count
  unfoldable pub seen_void : ReadOut → Seen (Unit {0})
  seen_void x = map_seen (λ _. tt {0}) (seen_read x)

  abbrev Void : State → ReadOut → Outcome (Unit {0}) → Type 0
  Void st x o = Refines e.section front tail rest spare st (λ (_ : Unit {0}). tt {0}) (λ n (_ : Unit {0}). Unit {0}) (seen_void x) o

  void_no : (n : ℕ) (a m : List ℕ) → seen_void (read (Read.No n) a m) ≡ no n
  unfolding seen_void map_seen seen_read
  void_no n a m = refl

  void : (st : State) (x : ReadOut) (o : Outcome Value) → Reads st x o → Void st x (on e o λ _. λ e1 st1. done tt st1)
  unfolding seen_void
  void st x o r =
      refines_map e.section front tail rest spare e st (λ (_ : Value). tt {0}) (Sound e.section) (λ (_ : Unit {0}). tt {0}) (λ n (_ : Unit {0}). Unit {0}) (λ _. tt) (map_seen (λ _. tt {0}) (seen_read x)) o
      (refines_as e.section front tail rest spare st enc_v (Sound e.section) (λ _. tt {0}) (seen_read x) (map_seen (λ _. tt {0}) (seen_read x)) o r refl) (λ a. refl) (λ n a p. tt)

  more : (st st1 : State) → count st ≤ count st1 → (v : Value) → Sound e.section (count st) v → Sound e.section (count st1) v
  more st st1 l v h = sound_more e.section (count st) (count st1) l v h

  abbrev merged : Value → Value → Value → ℕ → walks.Walk (Unit {0})
  merged to prev tmp from e0 st = on e0 (walks.op Operation.IntLeft 0 (tmp ∷ constant from ∷ []) (some tmp) e0 st) λ _ e1 st1. on e1 (walks.op Operation.IntOr 0 (prev ∷ tmp ∷ []) (some to) e1 st1) λ _ e2 st2. done tt st2

  merge_bits_lem : (st : State) → Stands st → (to prev tmp : Value) (from : ℕ) → Sound e.section (count st) to → Sound e.section (count st) prev → Sound e.section (count st) tmp
      → Void st (merge_bits s t (A st) (M st) we (enc_v to) (enc_v prev) (enc_v tmp) from (W st)) (merged to prev tmp from e st)
  unfolding merge_bits operation_number first_of second_of kind_number or_none or_else
  merge_bits_lem st f to prev tmp from a b c =
      bind_read e.section front tail rest spare spare e st (Sound e.section) seen_void (λ (_ : Unit {0}). tt {0}) (λ n (_ : Unit {0}). Unit {0}) (λ _ e1 st1. on e1 (walks.op Operation.IntOr 0 (prev ∷ tmp ∷ []) (some to) e1 st1) λ _ e2 st2. done tt st2) enc_v _ _ _ _
      ((below s t e front tail rest we given).ops spare st room (stood_more (suc spare) (omega arith) f) Operation.IntLeft 0 (tmp ∷ constant from ∷ []) tmp (omega arith) (left_applies tmp (constant from)) (c, (constant-sound e.section (count st) from, tt)) c)
      (λ n x y. void_no n x y)
      λ v st1 r h. let l = r.later.temporaries in void st1 _ _
      ((below s t e front tail rest we given).ops spare st1 room (stood_more (suc spare) (omega arith) r.stood) Operation.IntOr 0 (prev ∷ tmp ∷ []) to (omega arith) (or_applies prev tmp) (more st st1 l prev b, (more st st1 l tmp c, tt)) (more st st1 l to a))

  extend_bits_lem : (st : State) → Stands st → (v tmp : Value) (bits : ℕ) → Sound e.section (count st) v → Sound e.section (count st) tmp
      → Reads st (extend_bits s t (A st) (M st) we (enc_v v) (enc_v tmp) bits (W st)) (on e (walks.op Operation.ZeroExtend 0 (v ∷ []) (some tmp) e st) λ _. walks.op Operation.IntAnd 0 (tmp ∷ constant (expressions.mask bits) ∷ []) (some tmp))
  unfolding extend_bits operation_number first_of second_of kind_number or_none or_else
  extend_bits_lem st f v tmp bits a c =
      bind_read e.section front tail rest spare spare e st (Sound e.section) seen_read enc_v (Sound e.section) (λ _. walks.op Operation.IntAnd 0 (tmp ∷ constant (expressions.mask bits) ∷ []) (some tmp)) enc_v _ _ _ _
      ((below s t e front tail rest we given).ops spare st room (stood_more (suc spare) (omega arith) f) Operation.ZeroExtend 0 (v ∷ []) tmp (omega arith) (extend_applies v) (a, tt) c)
      (λ n x y. unfold seen_read in refl)
      λ u st1 r h. let k = more st st1 r.later.temporaries tmp c in
      (below s t e front tail rest we given).ops spare st1 room (stood_more (suc spare) (omega arith) r.stood) Operation.IntAnd 0 (tmp ∷ constant (expressions.mask bits) ∷ []) tmp (omega arith) (and_applies tmp (constant (expressions.mask bits))) (k, (constant-sound e.section (count st1) (expressions.mask bits), tt)) k

  insert_in_lem : (st : State) → Stands st → (v to prev tmp : Value) (from bits : ℕ) → Sound e.section (count st) v → Sound e.section (count st) to → Sound e.section (count st) prev → Sound e.section (count st) tmp
      → Void st (insert_in s t (A st) (M st) we (enc_v v) (enc_v to) (enc_v prev) (enc_v tmp) from bits (W st))
      (on e (walks.op Operation.ZeroExtend 0 (v ∷ []) (some tmp) e st) λ _ e1 st1. on e1 (walks.op Operation.IntAnd 0 (tmp ∷ constant (expressions.mask bits) ∷ []) (some tmp) e1 st1) λ _. merged to prev tmp from)
  unfolding insert_in
  insert_in_lem st f v to prev tmp from bits a b c g =
      rw (← on_assoc e (walks.op Operation.ZeroExtend 0 (v ∷ []) (some tmp) e st) (λ _. walks.op Operation.IntAnd 0 (tmp ∷ constant (expressions.mask bits) ∷ []) (some tmp)) (λ _. merged to prev tmp from))
      (bind_read e.section front tail rest spare spare e st (Sound e.section) seen_void (λ (_ : Unit {0}). tt {0}) (λ n (_ : Unit {0}). Unit {0}) (λ _. merged to prev tmp from) enc_v _ _ _ _
      (extend_bits_lem st f v tmp bits a g) (λ n x y. void_no n x y)
      λ u st1 r h. let l = r.later.temporaries in merge_bits_lem st1 r.stood to prev tmp from (more st st1 l to b) (more st st1 l prev c) (more st st1 l tmp g))

  abbrev inserted : Value → Value → Value → ℕ → ℕ → walks.Walk (Unit {0})
  inserted v to prev from bits e0 st = on e0 (walks.add_tmp none (sizes.size_of e0.section (tmps st) to) e0 st) λ tmp e1 st1. on e1 (walks.op Operation.ZeroExtend 0 (v ∷ []) (some tmp) e1 st1)
      λ _ e2 st2. on e2 (walks.op Operation.IntAnd 0 (tmp ∷ constant (expressions.mask bits) ∷ []) (some tmp) e2 st2) λ _. merged to prev tmp from

  insert_bits_lem : (st : State) → Stands st → (v to prev : Value) (from bits : ℕ) → Sound e.section (count st) v → Sound e.section (count st) to → Sound e.section (count st) prev
      → Void st (insert_bits s t (A st) (M st) we (enc_v v) (enc_v to) (enc_v prev) from bits (W st)) (inserted v to prev from bits e st)
  unfolding insert_bits
  insert_bits_lem st f v to prev from bits a b c =
      rw (size_is s t e.section given.sizes rest (tmps st) f.sizes to b)
      (bind_tmp e.section front tail rest spare spare e st (Sound e.section) seen_void (λ (_ : Unit {0}). tt {0}) (λ n (_ : Unit {0}). Unit {0}) (λ tmp e1 st1. on e1 (walks.op Operation.ZeroExtend 0 (v ∷ []) (some tmp) e1 st1) λ _ e2 st2. on e2 (walks.op Operation.IntAnd 0 (tmp ∷ constant (expressions.mask bits) ∷ []) (some tmp) e2 st2) λ _. merged to prev tmp from) enc_v (A st) _ _
      (λ tmp st1 x u. insert_in s t x u we (enc_v v) (enc_v to) (enc_v prev) tmp from bits st1) _
      ((below s t e front tail rest we given).adds spare st room f (sizes.size_of e.section (tmps st) to) (known_small s t e.section given.sizes rest (tmps st) f.sizes to b)) (λ n m. void_no n (A st) m)
      λ tmp st1 r g. let l = r.later.temporaries in insert_in_lem st1 r.stood v to prev tmp from bits (more st st1 l v a) (more st st1 l to b) (more st st1 l prev c) g)

  abbrev kept : Value → Value → Value → ℕ → ℕ → walks.Walk (Unit {0})
  kept v to prev from bits e0 st = on e0 (walks.op Operation.IntAnd 0 (to ∷ constant (d.mask_but from bits) ∷ []) (some prev) e0 st) λ _. inserted v to prev from bits

  keep_bits_lem : (st : State) → Stands st → (v to prev : Value) (from bits : ℕ) → Sound e.section (count st) v → Sound e.section (count st) to → Sound e.section (count st) prev
      → Void st (keep_bits s t (A st) (M st) we (enc_v v) (enc_v to) (enc_v prev) from bits (W st)) (kept v to prev from bits e st)
  unfolding keep_bits operation_number first_of second_of kind_number or_none or_else
  keep_bits_lem st f v to prev from bits a b c =
      bind_read e.section front tail rest spare spare e st (Sound e.section) seen_void (λ (_ : Unit {0}). tt {0}) (λ n (_ : Unit {0}). Unit {0}) (λ _. inserted v to prev from bits) enc_v _ _ _ _
      ((below s t e front tail rest we given).ops spare st room (stood_more (suc spare) (omega arith) f) Operation.IntAnd 0 (to ∷ constant (d.mask_but from bits) ∷ []) prev (omega arith) (and_applies to (constant (d.mask_but from bits))) (b, (constant-sound e.section (count st) (d.mask_but from bits), tt)) c)
      (λ n x y. void_no n x y)
      λ u st1 r h. let l = r.later.temporaries in insert_bits_lem st1 r.stood v to prev from bits (more st st1 l v a) (more st st1 l to b) (more st st1 l prev c)

  write-bits : (st : State) → Stands st → (v to : Value) (from bits : ℕ) → Sound e.section (count st) v → Sound e.section (count st) to
      → Void st (write_bits s t (A st) (M st) we (enc_v v) (enc_v to) from bits (W st))
      (on e (require (ltb from 64) shift_too_far e st) λ _ e1 st1. on e1 (walks.add_tmp none (sizes.size_of e1.section (tmps st1) to) e1 st1) λ prev. kept v to prev from bits)
  unfolding write_bits
  write-bits st f v to from bits a b =
      rw (size_is s t e.section given.sizes rest (tmps st) f.sizes to b)
      (bind_unless e.section front tail rest spare e st seen_void (λ (_ : Unit {0}). tt {0}) (λ n (_ : Unit {0}). Unit {0}) (leb 64 from) shift_too_far _ (read (Read.No 41) (A st) (M st)) (λ _ e1 st1. on e1 (walks.add_tmp none (sizes.size_of e1.section (tmps st1) to) e1 st1) λ prev. kept v to prev from bits)
      (unfold refusal_number in void_no 41 (A st) (M st))
      (λ q. bind_tmp e.section front tail rest spare spare e st (Sound e.section) seen_void (λ (_ : Unit {0}). tt {0}) (λ n (_ : Unit {0}). Unit {0}) (λ prev. kept v to prev from bits) enc_v (A st) _ _
      (λ prev st1 x u. keep_bits s t x u we (enc_v v) (enc_v to) prev from bits st1) _
      ((below s t e front tail rest we given).adds spare st room f (sizes.size_of e.section (tmps st) to) (known_small s t e.section given.sizes rest (tmps st) f.sizes to b)) (λ n m. void_no n (A st) m)
      λ prev st1 r g. let l = r.later.temporaries in keep_bits_lem st1 r.stood v to prev from bits (more st st1 l v a) (more st st1 l to b) g)
      (ltb from 64) (λ q. let k = leb-false 64 from q in lt-ltb from 64 (omega arith)) (λ q. let k = leb-true 64 from q in le-ltb from 64 (omega arith)))

  abbrev writing : Value → ℕ → ℕ → Value → walks.Walk (Unit {0})
  writing to from bits v e0 st0 = on e0 (require (ltb from 64) shift_too_far e0 st0) λ _ e1 st1. on e1 (walks.add_tmp none (sizes.size_of e1.section (tmps st1) to) e1 st1) λ prev. kept v to prev from bits

  copy_bits_lem : (st : State) → Stands st → (x : ExprValue) (to : Value) (from bits : ℕ) → SoundX e.section (count st) x → Sound e.section (count st) to
      → Void st (copy_bits s t (A st) (M st) we (enc_x x) (enc_v to) from bits (W st)) (d.write_bits x to from bits e st)
  unfolding copy_bits
  copy_bits_lem st f x to from bits h b =
      rw split (bind_read e.section front tail rest spare spare e st (Sound e.section) seen_void (λ (_ : Unit {0}). tt {0}) (λ n (_ : Unit {0}). Unit {0}) (writing to from bits) enc_v _ _ _ _
      (read-operand s t e front tail rest we (below s t e front tail rest we given) spare room st f x h) (λ n y z. void_no n y z)
      λ v st1 r g. write-bits st1 r.stood v to from bits g (more st st1 r.later.temporaries to b))
    where
      split : d.write_bits x to from bits e st ≡ on e (expressions.read_value x none e st) (writing to from bits)
      split = unfold d.write_bits on in refl

  copy_bytes_lem : (st : State) → Stands st → (x : ExprValue) (to : Value) (from bits : ℕ) → bits ≤ 16384 → SoundX e.section (count st) x → Sound e.section (count st) to
      → Void st (copy_bytes s t (A st) (M st) we (enc_x x) (enc_v to) from bits (W st)) (on e (walks.sliced (from / 8) (bits / 8) to e st) (d.read_to x))
  unfolding copy_bytes sliced words.slice_bytes walks.sliced
  copy_bytes_lem st f x to from bits l h b = go (leb (to.offset + from / 8) 65535) refl
    where
      go : (c : Bool) → leb (to.offset + from / 8) 65535 ≡ c
          → Void st (read_sliced (slice_read (when c then Slice.Is (record { kind = kind_number to.kind; number = to.number; offset = to.offset + from / 8; size = bits / 8 }) else Slice.No 42) (W st)) s t (A st) (M st) we (enc_x x))
          (on e (on e (require c offset_too_far e st) λ _ e1 st1. done (slice_bytes (from / 8) (bits / 8) to) st1) (d.read_to x))
      go true q = unfold read_sliced slice_read require on d.read_to in
          let k = leb-true (to.offset + from / 8) 65535 q in
          void st (read_value s t (A st) (M st) we (enc_x x) true (record { kind = kind_number to.kind; number = to.number; offset = to.offset + from / 8; size = bits / 8 }) (W st)) (expressions.read_value x (some (slice_bytes (from / 8) (bits / 8) to)) e st) (unfold is_some to_of or_none or_else in read_value_lem s t e front tail rest we (below s t e front tail rest we given) spare room st f x (some (slice_bytes (from / 8) (bits / 8) to)) h (record { number = b.number; offset = k; size = unfold or_else in omega arith }))
      go false q = unfold read_sliced slice_read require on in rw (void_no 42 (A st) (M st)) (refines_stopped e.section front tail rest spare st (λ (_ : Unit {0}). tt {0}) (λ n (_ : Unit {0}). Unit {0}) 42 offset_too_far (unfold refusal_number in refl))

  aligned_is : (from bits : ℕ) → byte_aligned from bits ≡ expressions.byte_aligned from bits
  unfolding byte_aligned expressions.byte_aligned
  aligned_is from bits = go (eqb (from % 8) 0) (eqb (bits % 8) 0)
    where
      go : (a b : Bool) → (when a then b else false) ≡ a && b
      go true b = refl
      go false b = refl

  copy_range_lem : (st : State) → Stands st → (x : ExprValue) (to : Value) (from bits : ℕ) → bits ≤ 16384 → SoundX e.section (count st) x → Sound e.section (count st) to
      → Void st (copy_range s t (A st) (M st) we (enc_x x) (enc_v to) from bits (W st)) (d.copy_into x (d.Destination.BitRange to from bits) e st)
  unfolding copy_range d.copy_into
  copy_range_lem st f x to from bits l h b = rw (aligned_is from bits) (go (expressions.byte_aligned from bits))
    where
      go : (c : Bool) → Void st (when c then copy_bytes s t (A st) (M st) we (enc_x x) (enc_v to) from bits (W st) else copy_bits s t (A st) (M st) we (enc_x x) (enc_v to) from bits (W st))
          ((definition.when◌then◌else◌ c (λ e1 st1. on e1 (walks.sliced (from / 8) (bits / 8) to e1 st1) (d.read_to x)) (d.write_bits x to from bits)) e st)
      go true = unfold base_opens in copy_bytes_lem st f x to from bits l h b
      go false = unfold base_opens in copy_bits_lem st f x to from bits h b

  module _ (w : Walk) (next : ℕ) where
    abbrev Ends : State → Stepped → Outcome (Unit {0}) → Type 0
    Ends st x o = Goes e.section front tail rest spare st next (beside w) (begun_in w) x o

    void_ends : (st : State) (x : ReadOut) (o : Outcome (Unit {0})) → Void st x o → Ends st (step_read x (read_then next w)) o
    unfolding seen_void
    void_ends st x o r = refines_as e.section front tail rest spare st (λ (_ : Unit {0}). tt {0}) (λ n (_ : Unit {0}). Unit {0}) (λ _. (next, beside w)) (map_seen (λ _. tt {0}) (seen_read x)) _ o r (read_seen x next w ∙ map_map (next, beside w) (seen_read x))

    copy_ram_lem : (st : State) → Stands st → (x : ExprValue) (pointer : Value) (size : ℕ) → size < 65535 → SoundX e.section (count st) x → Sound e.section (count st) pointer
        → Ends st (copy_ram s t (A st) (M st) we (enc_x x) (enc_v pointer) size next (W st) w) (on e (expressions.read_value x none e st) λ v. d.store size pointer v)
    unfolding copy_ram
    copy_ram_lem st f x pointer size l h b =
        bind_read e.section front tail rest spare spare e st (Sound e.section) (seen_step (begun_in w)) (λ (_ : Unit {0}). (next, beside w)) (λ n (_ : Unit {0}). Unit {0}) (λ v. d.store size pointer v) enc_v _ _ _ _
        (read-operand s t e front tail rest we (below s t e front tail rest we given) spare room st f x h) (λ n y z. stop_seen n w y z)
        λ v st1 r g. store_is s t e front tail rest we given spare room w next st1 r.stood pointer size v l (more st st1 r.later.temporaries pointer b) g

    not_assignable_lem : (st : State) → Ends st (stepped (stop 37 w) (A st) (M st)) (stopped not_assignable st.sizing.begun 0)
    not_assignable_lem st = step_stops e.section front tail rest spare st _ _ w (A st) (M st) 37 not_assignable (unfold refusal_number in refl)

    -- into what a target was resolved to
    pub copy_into_lem : (st : State) → Stands st → (x y : ExprValue) → SoundX e.section (count st) x → SoundX e.section (count st) y
        → Ends st (copy_into s t (A st) (M st) we (enc_x x) (enc_x y) next (W st) w) (on e (d.as_destination y e st) (d.copy_into x))
    copy_into_lem st f x (ExprValue.Local v) h g = unfold copy_into enc_x d.as_destination on d.copy_into in read_to_lem s t e front tail rest we given spare room w next st f x v h g
    copy_into_lem st f x (ExprValue.RamRef v z) h g = unfold copy_into enc_x d.as_destination on d.copy_into in copy_ram_lem st f x v z g.1 h g.0
    copy_into_lem st f x (ExprValue.BitRange v from bits) h g =
        unfold copy_into enc_x d.as_destination on in void_ends st (copy_range s t (A st) (M st) we (enc_x x) (enc_v v) from bits (W st)) (d.copy_into x (d.Destination.BitRange v from bits) e st) (copy_range_lem st f x v from bits (omega (arith, g.1)) h g.0)
    copy_into_lem st f x (ExprValue.Unbound v) h g = unfold copy_into enc_x d.as_destination on in not_assignable_lem st
    copy_into_lem st f x (ExprValue.Const n z) h g = unfold copy_into enc_x d.as_destination on in not_assignable_lem st
    copy_into_lem st f x (ExprValue.Apply op n vs) h g = unfold copy_into enc_x d.as_destination on in not_assignable_lem st
    copy_into_lem st f x (ExprValue.RegisterRef v z) h g = unfold copy_into enc_x d.as_destination on in not_assignable_lem st
    copy_into_lem st f x (ExprValue.AddressOf v z) h g = unfold copy_into enc_x d.as_destination on in not_assignable_lem st
