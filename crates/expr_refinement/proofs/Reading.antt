-- Reading: what an expression means becomes an operand, in the output where one is given, as the definition has it.
use Prim.Native.Nat.{ℕ, suc, ◌+◌, ◌/◌, ◌%◌, ◌≤◌, ◌<◌}
use mathlib.Core.Path.{◌≡◌, refl}
use mathlib.Core.Bool.{Bool, true, false, ◌&&◌}
use mathlib.Core.List.{List, [], ◌∷◌}
use mathlib.Core.Option.{Option, none, some}
use native.Mathlib.Omega.{arith}
use lib.ListN.{length}
use lib.Dec.{eqb, leb}
use borrow.Author.Tests.{leb-true}
use Rattle.prelude.specs.Base as definition
use Rattle.prelude.specs.Base.{or_else, and_then, is_some, when◌then◌else◌}
use Rattle.definition.specs.Refusals.{refusal_number, address_of_offset, offset_too_far}
use Rattle.definition.specs.Operations.{Operation, operation_number}
use Rattle.definition.specs.Value.{kind_number, Value, local, constant, with_size, slice_bytes, truncate, ActionKind, SemanticAction, operation_of}
use Rattle.definition.specs.Ast.{Section}
use Rattle.definition.specs.Sizes as sizes
use Rattle.definition.specs.Sizes.{at}
use Rattle.definition.specs.Walk as w
use Rattle.definition.specs.Walk.{ExprValue, State, Env, Outcome, done, on, Walk}
use Rattle.definition.specs.Expressions as d
use Rattle.definition.specs.ActionList.{or_none, action_kind_number, operation_word, places_label}
use Rattle.definition.proofs.Openers.{base_opens}
use Rattle.list_values.specs.declared.value.Value.{Value as WordValue}
use Rattle.list_values.specs.Outcomes.{Slice}
use Rattle.list_pushes.specs.declared.push.State.{State as WordState}
use Rattle.list_pushes.specs.declared.push.Env.{Env as WordEnv}
use Rattle.list_pushes.specs.Outcomes.{Read}
use Rattle.list_pushes.specs.Outcomes.{Pushed}
use Rattle.list_values.specs.Base.{Listed, listed}
use Rattle.list_values.specs.Values as words
use Rattle.list_values.specs.Values.{absent}
use Rattle.list_pushes.specs.Pushes.{ReadOut, read, on_read, output_or, push, op_to, op}
use Rattle.list_refinement.specs.Encoding.{enc_v, Sound, Each, EachOption, first_of, second_of, output_of}
use Rattle.list_refinement.proofs.Settled.{size_is, known_small}
use Rattle.list_refinement.proofs.Seen.{yes, no, seen_read, seen_tmp, seen_push}
use Rattle.expr_reading.specs.Outcomes.{Stated}
use Rattle.expr_reading.specs.Reading.{needed_bytes, set_stated, take_stated, copy_to, byte_aligned, slice_read, sliced, shift_to, shift_and_mask, part_of, read_slice, pushed_to, pushed_out, read_address, load_to, load, load_register_to, load_register, read_value, read_operand}
use Rattle.expr_refinement.proofs.Encodings.{sound_more, each_more, stood_more}
use Rattle.expr_refinement.proofs.Answers.{bind, bind_read, bind_tmp, bind_require, acts, temps, word, Refines, refines_done, refines_stopped}
use Rattle.expr_refinement.proofs.Below.{Spare, Below, seen_stated}
use Rattle.expr_refinement.proofs.Stated.{set_stated_lem, take_stated_lem}
use Rattle.list_refinement.specs.RuleKinds.{kind_of}
use Rattle.expr_refinement.specs.Encoding.{enc_x, Applies, Small, SoundX, tmps, count, Stood}

-- the value that stands for an output that may be given
unfoldable pub to_of : Option Value → WordValue
to_of none = absent
to_of (some v) = enc_v v

pub copy_applies : (v : Value) → Applies Operation.Copy (v ∷ [])
unfolding kind_of at is_some operation_number
copy_applies v n to = ((refl, refl), refl)

pub load_applies : (v : Value) → Applies Operation.Load (v ∷ [])
unfolding kind_of at is_some operation_number
load_applies v n to = (refl, refl)

pub right_applies : (u v : Value) → Applies Operation.IntRight (u ∷ v ∷ [])
unfolding kind_of at is_some operation_number
right_applies u v n to = ((refl, refl, refl), refl)

pub and_applies : (u v : Value) → Applies Operation.IntAnd (u ∷ v ∷ [])
unfolding kind_of at is_some operation_number
and_applies u v n to = ((refl, refl, refl), refl)

pub constant-sound : (sec : Section) (n c : ℕ) → Sound sec n (constant c)
unfolding or_else
constant-sound sec n c = record { number = tt; offset = omega arith; size = omega arith }

option_more : (sec : Section) (n k : ℕ) → n ≤ k → (to : Option Value) → EachOption (Sound sec n) to → EachOption (Sound sec k) to
option_more sec n k l none f = tt
option_more sec n k l (some v) f = sound_more sec n k l v f

module _ (s t : List ℕ) (e : Env) (front tail rest : List ℕ) (we : WordEnv) (below : Below s t e front tail rest we) (spare : ℕ) (room : Spare spare tail) where
  abbrev sec : Section
  sec = e.section

  abbrev A : State → List ℕ
  A st = acts e.section front tail rest st

  abbrev M : State → List ℕ
  M st = temps e.section front tail rest st

  abbrev W : State → WordState
  W st = word e.section front tail rest st

  abbrev pub Stands : State → Type 0
  Stands st = Stood e.section tail rest spare st

  -- an answer with a value
  abbrev pub Reads : State → ReadOut → Outcome Value → Type 0
  Reads st x o = Refines e.section front tail rest spare st enc_v (Sound e.section) (seen_read x) o

  pub copy_to_lem : (st : State) → Stands st → (to : Option Value) (v : Value) → EachOption (Sound e.section (count st)) to → Sound e.section (count st) v
      → Reads st (copy_to s t (A st) (M st) we (is_some to) (to_of to) (enc_v v) (W st)) (d.copy_to to v e st)
  unfolding copy_to is_some to_of d.copy_to seen_read operation_number first_of second_of
  copy_to_lem st f none v g h = refines_done e.section front tail rest spare st enc_v (Sound e.section) v (enc_v v) f h refl
  copy_to_lem st f (some to) v g h = below.ops spare st room (stood_more (suc spare) (omega arith) f) Operation.Copy 0 (v ∷ []) to (omega arith) (copy_applies v) (h, tt) g

  -- the output given, else a fresh temporary
  output : (st : State) → Stands st → (size : Option ℕ) (to : Option Value) → Small size → EachOption (Sound e.section (count st)) to
      → Refines e.section front tail rest spare st enc_v (Sound e.section) (seen_tmp (A st) (output_or (M st) (is_some to) (to_of to) (or_none size) (W st))) (w.output_or size to e st)
  unfolding output_or is_some to_of w.output_or
  output st f size none h g = below.adds spare st room f size h
  output st f size (some v) h g = unfold seen_tmp in refines_done e.section front tail rest spare st enc_v (Sound e.section) v (enc_v v) f g refl

  -- an operation
  pub operation : (st : State) → Stands st → (code : Operation) (n : ℕ) (vs : List Value) (to : Option Value) → length vs ≤ 2 → Applies code vs → Each (Sound e.section (count st)) vs → EachOption (Sound e.section (count st)) to
      → Reads st (op s t (A st) (M st) we (operation_number code) n (length vs) (is_some to) (to_of to) (first_of vs) (second_of vs) (W st)) (w.op code n vs to e st)
  unfolding op
  operation st f code n vs to few ok h g =
      rw (split to) (bind_tmp e.section front tail rest spare spare e st (Sound e.section) seen_read enc_v (Sound e.section) (λ v. w.op code n vs (some v)) enc_v (A st)
      (output_or (M st) (is_some to) (to_of to) 65535 (W st)) (w.output_or none to e st)
      (λ v st1 a m. op_to s t a m we (operation_number code) n (length vs) v (first_of vs) (second_of vs) st1) _
      (unfold or_none or_else in output st f none to (unfold or_else in omega arith) g) (λ k m. unfold seen_read in refl)
      λ v st1 r p. below.ops spare st1 room (stood_more (suc spare) (omega arith) r.stood) code n vs v few ok (each_more (Sound e.section (count st)) (Sound e.section (count st1)) (sound_more e.section (count st) (count st1) r.later.temporaries) vs h) p)
    where
      split : (to : Option Value) → w.op code n vs to e st ≡ on e (w.output_or none to e st) (λ v. w.op code n vs (some v))
      split to = unfold w.op w.output_or on in refl

  -- two operations on a temporary
  on_assoc : {A B C : Type 0} (o : Outcome A) (f : A → Walk B) (g : B → Walk C) → on e (on e o f) g ≡ on e o (λ a e1 st1. on e1 (f a e1 st1) g)
  unfolding on
  on_assoc (done a st) f g = refl
  on_assoc (w.stopped r ordinal errors) f g = refl

  abbrev masking : Value → ℕ → Value → Walk Value
  masking tmp bits v = w.op Operation.IntAnd 0 (tmp ∷ constant (d.mask bits) ∷ []) (some tmp)

  shift_to_lem : (st : State) → Stands st → (v tmp : Value) (from bits : ℕ) → Sound e.section (count st) v → Sound e.section (count st) tmp
      → Reads st (shift_to s t (A st) (M st) we (enc_v v) (enc_v tmp) from bits (W st)) (on e (w.op Operation.IntRight 0 (v ∷ constant from ∷ []) (some tmp) e st) (masking tmp bits))
  unfolding shift_to operation_number first_of second_of kind_number or_none or_else
  shift_to_lem st f v tmp from bits h g =
      bind_read e.section front tail rest spare spare e st (Sound e.section) seen_read enc_v (Sound e.section) (masking tmp bits) enc_v _ _ _ _
      (below.ops spare st room (stood_more (suc spare) (omega arith) f) Operation.IntRight 0 (v ∷ constant from ∷ []) tmp (omega arith) (right_applies v (constant from)) (h, (constant-sound e.section (count st) from, tt)) g)
      (λ n a m. unfold seen_read in refl)
      λ u st1 r p.
      let k = sound_more e.section (count st) (count st1) r.later.temporaries tmp g in
      below.ops spare st1 room (stood_more (suc spare) (omega arith) r.stood) Operation.IntAnd 0 (tmp ∷ constant (d.mask bits) ∷ []) tmp (omega arith) (and_applies tmp (constant (d.mask bits))) (k, (constant-sound e.section (count st1) (d.mask bits), tt)) k

  shift_and_mask_lem : (st : State) → Stands st → (v : Value) (from bits : ℕ) → Sound e.section (count st) v → bits ≤ 16384
      → Reads st (shift_and_mask s t (A st) (M st) we (enc_v v) from bits (W st)) (d.shift_and_mask v from bits e st)
  unfolding shift_and_mask d.shift_and_mask on
  shift_and_mask_lem st f v from bits h l =
      rw (size_is s t e.section below.sizes rest (tmps st) f.sizes v h)
      (bind_tmp e.section front tail rest spare spare e st (Sound e.section) seen_read enc_v (Sound e.section) _ enc_v (A st) _ _
      (λ tmp st1 a m. on_read (shift_to s t a m we (enc_v v) tmp from bits st1)
      (λ _ st2 b u. read (Read.Value (record { kind = tmp.kind; number = tmp.number; offset = tmp.offset; size = needed_bytes bits }) st2) b u)
      (λ n b u. read (Read.No n) b u)) _
      (below.adds spare st room f (sizes.size_of e.section (tmps st) v) (known_small s t e.section below.sizes rest (tmps st) f.sizes v h)) (λ n m. unfold seen_read in refl)
      λ tmp st1 r p.
      rw (← on_assoc (w.op Operation.IntRight 0 (v ∷ constant from ∷ []) (some tmp) e st1) (masking tmp bits) (λ _. λ e2 st2. done (truncate (needed_bytes bits) tmp) st2))
      (bind_read e.section front tail rest spare spare e st1 (Sound e.section) seen_read enc_v (Sound e.section) (λ _. λ e2 st2. done (truncate (needed_bytes bits) tmp) st2) enc_v _ _ _ _
      (shift_to_lem st1 r.stood v tmp from bits (sound_more e.section (count st) (count st1) r.later.temporaries v h) p) (λ n a m. unfold seen_read in refl)
      λ u st2 q k. let g = sound_more e.section (count st1) (count st2) q.later.temporaries tmp p in
      unfold seen_read in refines_done e.section front tail rest spare st2 enc_v (Sound e.section) (truncate (needed_bytes bits) tmp) _ q.stood (record { number = g.number; offset = g.offset; size = unfold or_else in omega arith }) (unfold or_none or_else in refl)))

  aligned_is : (from bits : ℕ) → byte_aligned from bits ≡ d.byte_aligned from bits
  unfolding byte_aligned d.byte_aligned
  aligned_is from bits = go (eqb (from % 8) 0) (eqb (bits % 8) 0)
    where
      go : (a b : Bool) → (when a then b else false) ≡ a && b
      go true b = refl
      go false b = refl

  slice : (st : State) → Stands st → (v : Value) (more size : ℕ) → Sound e.section (count st) v → size < 65535
      → Reads st (read (sliced (enc_v v) more size (W st)) (A st) (M st)) (w.sliced more size v e st)
  unfolding sliced words.slice_bytes w.sliced
  slice st f v more size h l = go (leb (v.offset + more) 65535) refl
    where
      go : (b : Bool) → leb (v.offset + more) 65535 ≡ b
          → Reads st (read (slice_read (when b then Slice.Is (record { kind = kind_number v.kind; number = v.number; offset = v.offset + more; size = size }) else Slice.No 42) (W st)) (A st) (M st))
          (on e (w.require b offset_too_far e st) λ _. λ e1 st1. done (slice_bytes more size v) st1)
      go true q = unfold slice_read seen_read w.require on in
          refines_done e.section front tail rest spare st enc_v (Sound e.section) (slice_bytes more size v) _ f (record { number = h.number; offset = leb-true (v.offset + more) 65535 q; size = unfold or_else in l }) (unfold or_none or_else in refl)
      go false q = unfold slice_read seen_read w.require on in
          refines_stopped e.section front tail rest spare st enc_v (Sound e.section) 42 offset_too_far (unfold refusal_number in refl)

  pub read_slice_lem : (st : State) → Stands st → (v : Value) (from bits : ℕ) (to : Option Value) → Sound e.section (count st) v → bits ≤ 16384 → EachOption (Sound e.section (count st)) to
      → Reads st (read_slice s t (A st) (M st) we (enc_v v) from bits (is_some to) (to_of to) (W st)) (d.read_slice v from bits to e st)
  unfolding read_slice d.read_slice part_of base_opens
  read_slice_lem st f v from bits to h l g =
      bind_read e.section front tail rest spare spare e st (Sound e.section) seen_read enc_v (Sound e.section) (d.copy_to to) enc_v _ _ _ _
      (rw (aligned_is from bits) (go (d.byte_aligned from bits))) (λ n a m. unfold seen_read in refl)
      λ u st1 r p. copy_to_lem st1 r.stood to u (option_more e.section (count st) (count st1) r.later.temporaries to g) p
    where
      go : (b : Bool) → Reads st (when b then read (sliced (enc_v v) (from / 8) (bits / 8) (W st)) (A st) (M st) else shift_and_mask s t (A st) (M st) we (enc_v v) from bits (W st))
          ((definition.when◌then◌else◌ b (w.sliced (from / 8) (bits / 8) v) (d.shift_and_mask v from bits)) e st)
      go true = slice st f v (from / 8) (bits / 8) h (omega arith)
      go false = shift_and_mask_lem st f v from bits h l

  -- an action pushed, and the output that it was given
  pushed_out_lem : (from : State) (a m : List ℕ) (kind n : ℕ) (x : WordValue) (wst : WordState) (o : Outcome (Unit {0})) (v : Value)
      → Refines e.section front tail rest spare from (λ _. tt {0}) (λ n (_ : Unit {0}). Unit {0}) (seen_push m (push a kind 0 n 1 (enc_v v) x absent wst)) o → Sound e.section (count from) v
      → Reads from (pushed_out (push a kind 0 n 1 (enc_v v) x absent wst) (enc_v v) m) (on e o (λ _. λ e1 st1. done v st1))
  unfolding seen_push seen_read pushed_out pushed_to
  pushed_out_lem from a m kind n x wst o v r g =
      bind e.section front tail rest spare spare e from (λ _. tt {0}) (λ n (_ : Unit {0}). Unit {0}) seen_read enc_v (Sound e.section) (λ _. λ e1 st1. done v st1)
      (seen_push m (push a kind 0 n 1 (enc_v v) x absent wst)) o (pushed_out (push a kind 0 n 1 (enc_v v) x absent wst) (enc_v v) m) (λ _ st1 b u. read (Read.Value (enc_v v) st1) b u) r
      (λ _ st1 q p. unfold seen_read in refines_done e.section front tail rest spare st1 enc_v (Sound e.section) v (enc_v v) q.stood (sound_more e.section (count from) (count st1) q.later.temporaries v g) refl)
      (go (push a kind 0 n 1 (enc_v v) x absent wst)) (stop (push a kind 0 n 1 (enc_v v) x absent wst))
    where
      go : (y : Listed Pushed) (z : Unit {0}) (st1 : WordState) (b u : List ℕ) → seen_push m y ≡ yes z st1 b u → seen_read (pushed_out y (enc_v v) m) ≡ seen_read (read (Read.Value (enc_v v) st1) b u)
      go (listed (Pushed.Done st2) c) z st1 b u h = (let p : st2 ≡ st1 = cc in let q : c ≡ b = cc in let r : m ≡ u = cc in rw (p, q, r))
      go (listed (Pushed.No k) c) z st1 b u h = cc

      stop : (y : Listed Pushed) (k : ℕ) → seen_push m y ≡ no k → seen_read (pushed_out y (enc_v v) m) ≡ no k
      stop (listed (Pushed.Done st2) c) k h = cc
      stop (listed (Pushed.No j) c) k h = (let p : j ≡ k = cc in rw p)

  pub read_address_lem : (st : State) → Stands st → (base : Value) (size : Option ℕ) (to : Option Value) → Sound e.section (count st) base → Small size → EachOption (Sound e.section (count st)) to
      → Reads st (read_address (A st) (M st) (enc_v base) (or_none size) (is_some to) (to_of to) (W st)) (d.read_value (ExprValue.AddressOf base size) to e st)
  unfolding read_address d.read_value
  read_address_lem st f base size to h l g =
      bind_require e.section front tail rest spare e st seen_read enc_v (Sound e.section) (eqb base.offset 0) address_of_offset _ _ _ (unfold seen_read refusal_number in refl)
      λ q. bind_tmp e.section front tail rest spare spare e st (Sound e.section) seen_read enc_v (Sound e.section) _ enc_v (A st) _ _
      (λ v st1 a m. pushed_out (push a 1 0 0 1 v (record { kind = kind_number base.kind; number = base.number; offset = 0; size = 65535 }) absent st1) v m) _
      (output st f size to l g) (λ n m. unfold seen_read in refl)
      λ v st1 r p.
      let b = sound_more e.section (count st) (count st1) r.later.temporaries base h in
      pushed_out_lem st1 (A st1) (M st1) 1 0 _ (W st1) _ v
      (unfold action_kind_number operation_word operation_of output_of first_of second_of or_none or_else in
      (below.pushes spare st1 room (stood_more (4 + spare) (omega arith) r.stood) (record { kind = ActionKind.AddressOf; number = 0; inputs = local base.kind base.number ∷ []; output = some v }) (omega arith)
      (record { inputs = (record { number = b.number; offset = omega arith; size = unfold or_else in omega arith }, tt); output = p }) (unfold places_label and_then in refl))) p

  pub read_ram : (st : State) → Stands st → (pointer : Value) (size : ℕ) (to : Option Value) → Sound e.section (count st) pointer → size < 65535 → EachOption (Sound e.section (count st)) to
      → Reads st (load s t (A st) (M st) we (enc_v pointer) size (is_some to) (to_of to) (W st)) (d.read_value (ExprValue.RamRef pointer size) to e st)
  unfolding load d.read_value seen_stated load_to
  read_ram st f pointer size to h l g =
      bind_tmp e.section front tail rest spare spare e st (Sound e.section) seen_read enc_v (Sound e.section) _ enc_v (A st) _ _
      (λ v st1 a m. load_to s t a we (enc_v pointer) (take_stated s t m v size st1)) _
      (unfold or_none or_else in output st f none to (unfold or_else in omega arith) g) (λ n m. unfold seen_read in refl)
      λ v st1 r p.
      bind e.section front tail rest (suc spare) spare e st1 enc_v (Sound e.section) seen_read enc_v (Sound e.section) (λ out. w.op Operation.Load 0 (pointer ∷ []) (some out))
      (seen_stated (A st1) (take_stated s t (M st1) (enc_v v) size (W st1))) (d.take_stated size v e st1) (load_to s t (A st1) we (enc_v pointer) (take_stated s t (M st1) (enc_v v) size (W st1)))
      (λ u st2 a m. op_to s t a m we 58 0 1 u (enc_v pointer) absent st2)
      (take_stated_lem s t e front tail rest below.sizes spare room st1 r.stood size v l p)
      (λ u st2 q k. let j = sound_more e.section (count st) (count st2) (omega (arith, r.later.temporaries, q.later.temporaries)) pointer h in
      unfold operation_number first_of second_of in below.ops spare st2 room q.stood Operation.Load 0 (pointer ∷ []) u (omega arith) (load_applies pointer) (j, tt) k)
      (go (A st1) (take_stated s t (M st1) (enc_v v) size (W st1))) (stop (A st1) (take_stated s t (M st1) (enc_v v) size (W st1)))
    where
      go : (c : List ℕ) (x : Listed Stated) (u : WordValue) (st2 : WordState) (a m : List ℕ) → seen_stated c x ≡ yes u st2 a m → seen_read (load_to s t c we (enc_v pointer) x) ≡ seen_read (op_to s t a m we 58 0 1 u (enc_v pointer) absent st2)
      go c (listed out b) u st2 a m q = (let p : out.v ≡ u = cc in let r : out.st ≡ st2 = cc in let i : c ≡ a = cc in let j : b ≡ m = cc in rw (p, r, i, j))

      stop : (c : List ℕ) (x : Listed Stated) (k : ℕ) → seen_stated c x ≡ no k → seen_read (load_to s t c we (enc_v pointer) x) ≡ no k
      stop c (listed out b) k q = cc

  abbrev loading : Value → ℕ → Value → SemanticAction
  loading pointer size out = record { kind = ActionKind.LoadRegister; number = size; inputs = pointer ∷ []; output = some out }

  pub read-register : (st : State) → Stands st → (pointer : Value) (size : ℕ) (to : Option Value) → Sound e.section (count st) pointer → size < 65535 → EachOption (Sound e.section (count st)) to
      → Reads st (load_register s t (A st) (M st) (enc_v pointer) size (is_some to) (to_of to) (W st)) (d.read_value (ExprValue.RegisterRef pointer size) to e st)
  unfolding load_register d.read_value seen_stated load_register_to
  read-register st f pointer size to h l g =
      bind_tmp e.section front tail rest spare spare e st (Sound e.section) seen_read enc_v (Sound e.section) _ enc_v (A st) _ _
      (λ v st1 a m. load_register_to a (enc_v pointer) size (set_stated s t m v size st1)) _
      (unfold or_none or_else in output st f (some size) to l g) (λ n m. unfold seen_read in refl)
      λ v st1 r p.
      bind e.section front tail rest (suc spare) spare e st1 enc_v (Sound e.section) seen_read enc_v (Sound e.section) (λ out. λ e2 st2. on e2 (w.push (loading pointer size out) e2 st2) (λ _. λ e3 st3. done out st3))
      (seen_stated (A st1) (set_stated s t (M st1) (enc_v v) size (W st1))) (d.set_stated size v e st1) (load_register_to (A st1) (enc_v pointer) size (set_stated s t (M st1) (enc_v v) size (W st1)))
      (λ u st2 a m. pushed_out (push a 2 0 size 1 u (enc_v pointer) absent st2) u m)
      (set_stated_lem s t e front tail rest below.sizes spare room st1 r.stood size v l p)
      (λ u st2 q k. let j = sound_more e.section (count st) (count st2) (omega (arith, r.later.temporaries, q.later.temporaries)) pointer h in
      pushed_out_lem st2 (A st2) (M st2) 2 size (enc_v pointer) (W st2) (w.push (loading pointer size u) e st2) u
      (unfold action_kind_number operation_word operation_of output_of first_of second_of in
      below.pushes spare st2 room (stood_more (4 + spare) (omega arith) q.stood) (loading pointer size u) (omega arith) (record { inputs = (j, tt); output = k }) (unfold places_label operation_of and_then or_else in refl)) k)
      (go (A st1) (set_stated s t (M st1) (enc_v v) size (W st1))) (stop (A st1) (set_stated s t (M st1) (enc_v v) size (W st1)))
    where
      go : (c : List ℕ) (x : Listed Stated) (u : WordValue) (st2 : WordState) (a m : List ℕ) → seen_stated c x ≡ yes u st2 a m → seen_read (load_register_to c (enc_v pointer) size x) ≡ seen_read (pushed_out (push a 2 0 size 1 u (enc_v pointer) absent st2) u m)
      go c (listed out b) u st2 a m q = (let p : out.v ≡ u = cc in let r : out.st ≡ st2 = cc in let i : c ≡ a = cc in let j : b ≡ m = cc in rw (p, r, i, j))

      stop : (c : List ℕ) (x : Listed Stated) (k : ℕ) → seen_stated c x ≡ no k → seen_read (load_register_to c (enc_v pointer) size x) ≡ no k
      stop c (listed out b) k q = cc

  -- what an expression means, in the output where one is given
  pub read_value_lem : (st : State) → Stands st → (x : ExprValue) (to : Option Value) → SoundX e.section (count st) x → EachOption (Sound e.section (count st)) to
      → Reads st (read_value s t (A st) (M st) we (enc_x x) (is_some to) (to_of to) (W st)) (d.read_value x to e st)
  unfolding read_value enc_x d.read_value
  read_value_lem st f (ExprValue.Local v) to h g = copy_to_lem st f to v g h
  read_value_lem st f (ExprValue.Unbound v) to h g = copy_to_lem st f to v g h
  read_value_lem st f (ExprValue.Const n size) to h g = unfold kind_number in copy_to_lem st f to (with_size size (constant n)) g (record { number = tt; offset = omega arith; size = h })
  read_value_lem st f (ExprValue.Apply code n vs) to h g = operation st f code n vs to h.0 h.1 h.2 g
  read_value_lem st f (ExprValue.RamRef v size) to h g = read_ram st f v size to h.0 h.1 g
  read_value_lem st f (ExprValue.RegisterRef v size) to h g = read-register st f v size to h.0 h.1 g
  read_value_lem st f (ExprValue.AddressOf v size) to h g = read_address_lem st f v size to h.0 h.1 g
  read_value_lem st f (ExprValue.BitRange v from bits) to h g = read_slice_lem st f v from bits to h.0 (omega (arith, h.1)) g

  -- as an operand
  pub read-operand : (st : State) → Stands st → (x : ExprValue) → SoundX e.section (count st) x → Reads st (read_operand s t (A st) (M st) we (enc_x x) (W st)) (d.read_value x none e st)
  unfolding read_operand
  read-operand st f x h = unfold is_some to_of in read_value_lem st f x none h tt
