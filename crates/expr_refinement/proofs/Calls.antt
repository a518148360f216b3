-- Calls in expressions: whom a name calls, the arguments of a user op from the third on and then the first two, and a
-- part of a local, each as the definition has it.
use Prim.Native.Nat.{ℕ, zero, suc, ◌+◌, ◌-◌, ◌%◌, ◌≤◌, ◌<◌}
use mathlib.Core.Path.{◌≡◌, refl, ◌∙◌, ap}
use mathlib.Core.List.{List, [], ◌∷◌}
use mathlib.Core.Option.{Option, none, some}
use native.Mathlib.Omega.{arith}
use lib.ListN.{length, get_or, get_elem?, take, drop}
use lib.Dec.{eqb, leb, ltb}
use borrow.Author.Tests.{lt-ltb, ne_eqb}
use Rattle.definition.specs.Refusals.{refusal_number, subpiece_argument}
use Rattle.definition.specs.Operations.{Operation, operation_number}
use Rattle.definition.specs.Value.{Value}
use Rattle.definition.specs.Ast.{Args, Section}
use Rattle.definition.specs.Spellings.{translate_inbuilt_func}
use Rattle.definition.specs.Walk as w
use Rattle.definition.specs.Walk.{ExprValue, State, Env, Outcome, done, stopped, on, Walk, require, expect}
use Rattle.definition.specs.Scope.{find, globals, Meaning, means, wrong, inner_meaning, meaning_of, meaning, meant, resolve_ident}
use Rattle.definition.specs.Expressions as d
use Rattle.list_values.specs.declared.value.Value.{Value as WordValue}
use Rattle.list_pushes.specs.declared.push.State.{State as WordState}
use Rattle.list_pushes.specs.declared.push.Env.{Env as WordEnv}
use Rattle.list_pushes.specs.Outcomes.{Read}
use Rattle.prelude.specs.Base.{when◌then◌else◌}
use Rattle.list_values.specs.Values.{absent}
use Rattle.list_pushes.specs.Pushes.{ReadOut, read, PushedOut}
use Rattle.file_refinement.specs.Holds.{Holds, spelled_at}
use Rattle.expr_inbuilts.specs.Inbuilts.{inbuilt_at}
use Rattle.list_refinement.specs.Encoding.{enc_v, Sound, Each, first_of, second_of}
use Rattle.list_refinement.proofs.Seen.{yes, no, seen_read, seen_pushed}
use Rattle.expr_terms.specs.Outcomes.{Expr}
use Rattle.expr_scope.specs.Slots.{arg_at}
use Rattle.expr_terms.specs.Answers.{ExprOut, resolved, expr_of, after}
use Rattle.expr_reading.specs.Reading.{read_operand}
use Rattle.expr_terms.specs.Calls.{inbuilt_or, callee_of, pass_arg, pass_from, pass_args, applied, user_op_two, user_op_some, call_user_op, only_integer, subpiece_from, subpiece_of, subpiece_meant, subpiece}
use Rattle.expr_refinement.proofs.Inbuilts.{inbuilt_words, inbuilt_found}
use Rattle.expr_refinement.proofs.Encodings.{sound_more, x_more, each_more}
use Rattle.expr_refinement.proofs.Answers.{bind, bind_read, bind_pushed, bind_unless, acts, temps, word, seen_expr, Refines, refines_done, refines_stopped}
use Rattle.expr_refinement.proofs.Below.{Spare, Below}
use Rattle.expr_refinement.proofs.Scopes.{meaning-sound, ident_is, lookup_is}
use Rattle.expr_refinement.proofs.Reading.{read-operand}
use Rattle.expr_refinement.proofs.Slices.{not_less, less, Means, means-done}
use Rattle.list_refinement.specs.RuleKinds.{kind_of}
use Rattle.expr_refinement.specs.Encoding.{enc_x, SoundX, Applies, count, Stood, enc_m, Scoped, enc_symbol, BitRangesFit, SoundM}

-- the arguments stand in their slots, the first of these in slot i
abbrev pub ArgsIn : List ℕ → ℕ → List ExprValue → Type 0
ArgsIn args i [] = Unit {0}
ArgsIn args i (x ∷ xs) = (arg_at args i ≡ enc_x x) × ArgsIn args (suc i) xs

pub user_applies : (vs : List Value) → Applies Operation.PcodeOp vs
unfolding kind_of operation_number
user_applies vs n to = (tt, refl)

pub part_applies : (vs : List Value) → Applies Operation.Subpiece vs
unfolding kind_of operation_number
part_applies vs n to = (tt, refl)

pub on_assoc : {A B C : Type 0} (e : Env) (o : Outcome A) (f : A → Walk B) (g : B → Walk C) → on e (on e o f) g ≡ on e o (λ a e1 st1. on e1 (f a e1 st1) g)
unfolding on
on_assoc e (done a st) f g = refl
on_assoc e (stopped r ordinal errors) f g = refl

-- Whom a name calls.

get_d_some : {A : Type 0} (l : List A) (i : ℕ) (a z : A) → get_elem? l i ≡ some a → get_or l i z ≡ a
get_d_some [] i a z h = cc
get_d_some (x ∷ l) zero a z h = cc
get_d_some (x ∷ l) (suc i) a z h = get_d_some l i a z h

module _ (s t : List ℕ) (sec : Section) (holds : Holds s t sec) (name : ℕ) (known : name < length sec.names) where
  below_limit : name < 1024
  below_limit = let l = holds.limits.names in let k = holds.name_count in omega arith

  -- the built-in function of the name
  pub inbuilt_is : inbuilt_at s (get_or t (name % 1024) 0) ≡ inbuilt_words (translate_inbuilt_func (get_or sec.names name []))
  unfolding inbuilt_at
  inbuilt_is =
      let l = below_limit in
      let p : name % 1024 ≡ name = omega arith in
      let q : get_or t name 0 + 1 ≡ suc (get_or t name 0) = omega arith in
      rw (p, q, get_d_some sec.names name (spelled_at s (get_or t name 0)) [] (holds.spelling name known)) (inbuilt_found (spelled_at s (get_or t name 0)))

  pub callee_is : (n : ℕ) → callee_of s t name n ≡ inbuilt_or (inbuilt_words (translate_inbuilt_func (get_or sec.names name []))) (enc_symbol (find name (globals sec))) n
  unfolding callee_of
  callee_is n = rw (inbuilt_is, lookup_is s t sec holds name below_limit)

module _ (s t : List ℕ) (e : Env) (front tail rest : List ℕ) (we : WordEnv) (below : Below s t e front tail rest we) (spare : ℕ) (room : Spare spare tail) where
  abbrev A : State → List ℕ
  A st = acts e.section front tail rest st

  abbrev M : State → List ℕ
  M st = temps e.section front tail rest st

  abbrev W : State → WordState
  W st = word e.section front tail rest st

  abbrev Pushes : State → PushedOut → Outcome (Unit {0}) → Type 0
  Pushes st x o = Refines e.section front tail rest spare st (λ _. tt {0}) (λ n (_ : Unit {0}). Unit {0}) (seen_pushed x) o

  xs_more : (n k : ℕ) → n ≤ k → (xs : List ExprValue) → Each (SoundX e.section n) xs → Each (SoundX e.section k) xs
  xs_more n k l xs h = each_more (SoundX e.section n) (SoundX e.section k) (x_more e.section n k l) xs h

  pass-arg : (st : State) → Stood e.section tail rest spare st → (i : ℕ) (x : ExprValue) → SoundX e.section (count st) x
      → Pushes st (pass_arg s t (A st) (M st) (enc_x x) i we (W st)) (on e (d.read_value x none e st) (λ v. w.op_no_output Operation.Arg i (v ∷ [])))
  unfolding pass_arg
  pass-arg st f i x h =
      bind_read e.section front tail rest spare spare e st (Sound e.section) seen_pushed (λ _. tt {0}) (λ n (_ : Unit {0}). Unit {0}) (λ v. w.op_no_output Operation.Arg i (v ∷ [])) enc_v _ _ _ _
      (read-operand s t e front tail rest we below spare room st f x h) (λ n a m. unfold seen_pushed in refl)
      λ v st1 r p. below.args spare st1 room r.stood i v p

  pass_from_lem : (xs : List ExprValue) (i j : ℕ) → i ≡ j + 2 → (args : List ℕ) → ArgsIn args i xs → (st : State) → Stood e.section tail rest spare st → Each (SoundX e.section (count st)) xs
      → Pushes st (pass_from (length xs) i s t (A st) (M st) args we (W st)) (d.pass_args j xs e st)
  unfolding pass_from d.pass_args
  pass_from_lem [] i j q args g st f h = unfold seen_pushed in refines_done e.section front tail rest spare st (λ _. tt {0}) (λ n (_ : Unit {0}). Unit {0}) tt tt f tt refl
  pass_from_lem (x ∷ xs) i j q args g st f h =
      let k : i - 2 ≡ j = omega arith in
      rw (g.0, k, ← on_assoc e (d.read_value x none e st) (λ v. w.op_no_output Operation.Arg j (v ∷ [])) (λ _. d.pass_args (suc j) xs))
      (bind_pushed e.section front tail rest spare spare e st (λ n (_ : Unit {0}). Unit {0}) seen_pushed (λ _. tt {0}) (λ n (_ : Unit {0}). Unit {0}) (λ _. d.pass_args (suc j) xs) _ _ _ _
      (pass-arg st f j x h.0) (λ n a m. unfold seen_pushed in refl)
      λ _ st1 r p. pass_from_lem xs (suc i) (suc j) (omega arith) args g.1 st1 r.stood (xs_more (count st) (count st1) r.later.temporaries xs h.1))

  pass-rest : (xs : List ExprValue) (args : List ℕ) → ArgsIn args 0 xs → (st : State) → Stood e.section tail rest spare st → Each (SoundX e.section (count st)) xs
      → Pushes st (pass_args s t (A st) (M st) args (length xs) we (W st)) (d.pass_args 0 (drop 2 xs) e st)
  unfolding pass_args
  pass-rest [] args g st f h = pass_from_lem [] 2 0 refl args tt st f tt
  pass-rest (x ∷ []) args g st f h = pass_from_lem [] 2 0 refl args tt st f tt
  pass-rest (x ∷ y ∷ zs) args g st f h = let k : suc (suc (length zs)) - 2 ≡ length zs = omega arith in rw k (pass_from_lem zs 2 0 refl args g.1.1 st f h.1.1)

  module _ (id next : ℕ) where
    abbrev Answers : State → ExprOut → Outcome ExprValue → Type 0
    Answers st x o = Means s t e front tail rest we below spare room next st x o

    abbrev calls : List Value → Walk ExprValue
    calls vs = λ e1 st1. done (ExprValue.Apply Operation.PcodeOp id vs) st1

    read_second : (y : ExprValue) (args : List ℕ) → arg_at args 1 ≡ enc_x y → (v : Value) (n : ℕ) (st : State) → Stood e.section tail rest spare st → SoundX e.section (count st) y → Sound e.section (count st) v
        → Answers st (when ltb 1 (suc (suc n)) then user_op_two s t (A st) (M st) args id next (enc_v v) we (W st) else resolved (applied 63 id 1 (enc_v v) absent next (W st)) (A st) (M st))
        (on e (on e (d.read_all (y ∷ []) e st) (λ vs. λ e2 st2. done (v ∷ vs) st2)) calls)
    unfolding user_op_two
    read_second y args g v n st f h k =
        let q : on e (on e (d.read_all (y ∷ []) e st) (λ vs. λ e2 st2. done (v ∷ vs) st2)) calls ≡ on e (d.read_value y none e st) (λ u. calls (v ∷ u ∷ [])) = unfold d.read_all on in
        ap (λ (o : Outcome (List Value)). on e o calls) (on_assoc e (d.read_value y none e st) (λ u. λ e1 st1. done (u ∷ []) st1) (λ vs. λ e2 st2. done (v ∷ vs) st2)) ∙ on_assoc e (d.read_value y none e st) (λ u. λ e1 st1. done (v ∷ u ∷ []) st1) calls in
        rw (lt-ltb 1 (suc (suc n)) (omega arith), q, g)
        (bind_read e.section front tail rest spare spare e st (Sound e.section) seen_expr (λ (x : ExprValue). (enc_x x, next)) (SoundX e.section) (λ u. calls (v ∷ u ∷ [])) enc_v _ _ _ _
        (read-operand s t e front tail rest we below spare room st f y h) (λ n a m. unfold seen_expr in refl)
        λ u st1 r p. unfold enc_x operation_number first_of second_of in means-done s t e front tail rest we below spare room next st1 r.stood (ExprValue.Apply Operation.PcodeOp id (v ∷ u ∷ [])) (omega arith, user_applies (v ∷ u ∷ []), (sound_more e.section (count st) (count st1) r.later.temporaries v k, (p, tt))))

    -- the first two
    read-two : (xs : List ExprValue) (args : List ℕ) → ArgsIn args 0 xs → (st : State) → Stood e.section tail rest spare st → Each (SoundX e.section (count st)) xs
        → Answers st (when eqb (length xs) 0 then resolved (applied 63 id 0 absent absent next (W st)) (A st) (M st) else user_op_some s t (A st) (M st) args (length xs) id next we (W st)) (on e (d.read_all (take 2 xs) e st) calls)
    read-two [] args g st f h =
        unfold d.read_all on enc_x operation_number first_of second_of in means-done s t e front tail rest we below spare room next st f (ExprValue.Apply Operation.PcodeOp id []) (omega arith, user_applies [], tt)
    read-two (x ∷ []) args g st f h =
        let q : on e (d.read_all (x ∷ []) e st) calls ≡ on e (d.read_value x none e st) (λ v. calls (v ∷ [])) = unfold d.read_all on in on_assoc e (d.read_value x none e st) (λ v. λ e1 st1. done (v ∷ []) st1) calls in
        rw q (unfold user_op_some in rw g.0 (bind_read e.section front tail rest spare spare e st (Sound e.section) seen_expr (λ (x : ExprValue). (enc_x x, next)) (SoundX e.section) (λ v. calls (v ∷ [])) enc_v _ _ _ _
        (read-operand s t e front tail rest we below spare room st f x h.0) (λ n a m. unfold seen_expr in refl)
        λ v st1 r p. unfold enc_x operation_number first_of second_of in means-done s t e front tail rest we below spare room next st1 r.stood (ExprValue.Apply Operation.PcodeOp id (v ∷ [])) (omega arith, user_applies (v ∷ []), (p, tt))))
    read-two (x ∷ y ∷ zs) args g st f h =
        let q : on e (d.read_all (x ∷ y ∷ []) e st) calls ≡ on e (d.read_value x none e st) (λ v. λ e1 st1. on e1 (on e1 (d.read_all (y ∷ []) e1 st1) (λ vs. λ e2 st2. done (v ∷ vs) st2)) calls) = unfold d.read_all on in
        on_assoc e (d.read_value x none e st) (λ v. λ e1 st1. on e1 (d.read_all (y ∷ []) e1 st1) (λ vs. λ e2 st2. done (v ∷ vs) st2)) calls in
        rw (ne_eqb (suc (suc (length zs))) 0 (λ i. omega arith), q) (unfold user_op_some in rw g.0 (bind_read e.section front tail rest spare spare e st (Sound e.section) seen_expr (λ (x : ExprValue). (enc_x x, next)) (SoundX e.section)
        (λ v. λ e1 st1. on e1 (on e1 (d.read_all (y ∷ []) e1 st1) (λ vs. λ e2 st2. done (v ∷ vs) st2)) calls) enc_v _ _ _ _
        (read-operand s t e front tail rest we below spare room st f x h.0) (λ n a m. unfold seen_expr in refl)
        λ v st1 r p. read_second y args g.1.0 v (length zs) st1 r.stood (x_more e.section (count st) (count st1) r.later.temporaries y h.1.0) p))

    pub user-op : (xs : List ExprValue) (args : List ℕ) → ArgsIn args 0 xs → (st : State) → Stood e.section tail rest spare st → Each (SoundX e.section (count st)) xs
        → Answers st (call_user_op s t (A st) (M st) args (length xs) id next we (W st)) (d.call_user_op id xs e st)
    unfolding call_user_op d.call_user_op
    user-op xs args g st f h =
        bind_pushed e.section front tail rest spare spare e st (λ n (_ : Unit {0}). Unit {0}) seen_expr (λ (x : ExprValue). (enc_x x, next)) (SoundX e.section) (λ _. λ e1 st1. on e1 (d.read_all (take 2 xs) e1 st1) calls) _ _ _ _
        (pass-rest xs args g st f h) (λ n a m. unfold seen_expr in refl)
        λ _ st1 r p. read-two xs args g st1 r.stood (xs_more (count st) (count st1) r.later.temporaries xs h)

-- The one argument that is a number, and the position behind it; without one the words have a number past 255.
abbrev pub Only : Option ℕ → ℕ → ℕ → ℕ → Type 0
Only (some k) offset end next = (offset ≡ k) × (end ≡ next)
Only none offset end next = 255 < offset

module _ (s t : List ℕ) (e : Env) (p front tail rest : List ℕ) (we : WordEnv) (below : Below s t e front tail rest we) (holds : Holds s t e.section) (ranges : BitRangesFit e.section) (spare : ℕ) (room : Spare spare tail) (next : ℕ) where
  abbrev A2 : State → List ℕ
  A2 st = acts e.section front tail rest st

  abbrev M2 : State → List ℕ
  M2 st = temps e.section front tail rest st

  abbrev W2 : State → WordState
  W2 st = word e.section front tail rest st

  abbrev Answers2 : State → ExprOut → Outcome ExprValue → Type 0
  Answers2 st x o = Means s t e front tail rest we below spare room next st x o

  abbrev piece : Args → Value → Walk ExprValue
  piece args v = λ e1 st1. on e1 (expect subpiece_argument (d.only_integer args) e1 st1) λ n. λ e2 st2. on e2 (require (leb n 255) subpiece_argument e2 st2) λ _. λ e3 st3. done (ExprValue.Apply Operation.Subpiece n (v ∷ [])) st3

  piece_from : (st : State) → Stood e.section tail rest spare st → (o : Option ℕ) (offset end : ℕ) → Only o offset end next → (v : Value) → Sound e.section (count st) v
      → Answers2 st (resolved (subpiece_from offset end (enc_v v) (W2 st)) (A2 st) (M2 st)) (on e (expect subpiece_argument o e st) λ n. λ e2 st2. on e2 (require (leb n 255) subpiece_argument e2 st2) λ _. λ e3 st3. done (ExprValue.Apply Operation.Subpiece n (v ∷ [])) st3)
  unfolding subpiece_from expect on
  piece_from st f none offset end h v g =
      rw (lt-ltb 255 offset h) (unfold seen_expr in refines_stopped e.section front tail rest spare st (λ (x : ExprValue). (enc_x x, next)) (SoundX e.section) 35 subpiece_argument (unfold refusal_number in refl))
  piece_from st f (some k) offset end h v g =
      rw (h.0, h.1) (bind_unless e.section front tail rest spare e st (λ (x : Expr). seen_expr (resolved x (A2 st) (M2 st))) (λ (x : ExprValue). (enc_x x, next)) (SoundX e.section) (ltb 255 k) subpiece_argument (applied 66 k 1 (enc_v v) absent next (W2 st)) (Expr.No 35)
      (λ _. λ e3 st3. done (ExprValue.Apply Operation.Subpiece k (v ∷ [])) st3) (unfold seen_expr refusal_number in refl)
      (λ q. unfold enc_x operation_number first_of second_of in means-done s t e front tail rest we below spare room next st f (ExprValue.Apply Operation.Subpiece k (v ∷ [])) (omega arith, part_applies (v ∷ []), (g, tt)))
      (leb k 255) (not_less 255 k) (less 255 k))

  piece_of : (st : State) → Stood e.section tail rest spare st → (x : ExprValue) → SoundX e.section (count st) x → (args : Args) (pos n : ℕ) → Only (d.only_integer args) (only_integer s pos n) (after pos 13) next
      → Answers2 st (expr_of (read_operand s t (A2 st) (M2 st) we (enc_x x) (W2 st)) (subpiece_of s pos n)) (on e (d.read_value x none e st) (piece args))
  piece_of st f x h args pos n only =
      bind e.section front tail rest spare spare e st enc_v (Sound e.section) seen_expr (λ (x : ExprValue). (enc_x x, next)) (SoundX e.section) (piece args)
      (seen_read (read_operand s t (A2 st) (M2 st) we (enc_x x) (W2 st))) (d.read_value x none e st) (expr_of (read_operand s t (A2 st) (M2 st) we (enc_x x) (W2 st)) (subpiece_of s pos n))
      (λ u st1 a m. resolved (subpiece_from (only_integer s pos n) (after pos 13) u st1) a m)
      (read-operand s t e front tail rest we below spare room st f x h)
      (λ v st1 r q. piece_from st1 r.stood (d.only_integer args) (only_integer s pos n) (after pos 13) only v q)
      (go (read_operand s t (A2 st) (M2 st) we (enc_x x) (W2 st))) (stop (read_operand s t (A2 st) (M2 st) we (enc_x x) (W2 st)))
    where
      go : (y : ReadOut) (v : WordValue) (st1 : WordState) (a m : List ℕ) → seen_read y ≡ yes v st1 a m → seen_expr (expr_of y (subpiece_of s pos n)) ≡ seen_expr (resolved (subpiece_from (only_integer s pos n) (after pos 13) v st1) a m)
      go (read (Read.Value u st2) b w) v st1 a m q = unfold seen_read expr_of subpiece_of in (let i : u ≡ v = cc in let j : st2 ≡ st1 = cc in let k : b ≡ a = cc in let l : w ≡ m = cc in rw (i, j, k, l))
      go (read (Read.No n) b w) v st1 a m q = unfold seen_read in cc

      stop : (y : ReadOut) (j : ℕ) → seen_read y ≡ no j → seen_expr (expr_of y (subpiece_of s pos n)) ≡ no j
      stop (read (Read.Value u st2) b w) j q = unfold seen_read in cc
      stop (read (Read.No k) b w) j q = unfold seen_read expr_of subpiece_of seen_expr in (let i : k ≡ j = cc in rw i)

  pub sub_piece : (st : State) → Stood e.section tail rest spare st → Scoped t p we st → (name : ℕ) → name < 1024 → (args : Args) (pos n : ℕ) → Only (d.only_integer args) (only_integer s pos n) (after pos 13) next
      → Answers2 st (subpiece s t p (A2 st) (M2 st) pos name n we (W2 st)) (d.subpiece name args e st)
  unfolding subpiece d.subpiece resolve_ident meaning on
  sub_piece st f c name known args pos n h =
      rw (ident_is s t e p we holds st c name known) (go (meaning_of e.section (inner_meaning e.section st.scope name) name) (meaning-sound e.section tail rest spare st name ranges f))
    where
      go : (x : Meaning) → SoundM e.section (count st) x
          → Answers2 st (subpiece_meant (enc_m x) s t (A2 st) (M2 st) pos n we (W2 st)) (on e (on e (on e (done x st) meant) (λ x. d.read_value x none)) (piece args))
      go (means x) k = unfold enc_m subpiece_meant on meant in piece_of st f x k args pos n h
      go (wrong r) k = unfold enc_m subpiece_meant on meant seen_expr in refines_stopped e.section front tail rest spare st (λ (x : ExprValue). (enc_x x, next)) (SoundX e.section) (refusal_number r) r refl
