-- Expressions: the walk over their prefix code resolves each to what the definition resolves it to.
use Prim.Native.Nat.{ℕ, zero, suc, ◌+◌, ◌*◌, ◌≤◌, ◌<◌, max}
use mathlib.Core.Path.{◌≡◌, refl, sym, ◌∙◌, ap}
use mathlib.Core.Bool.{Bool, true, false}
use mathlib.Core.List.{List, [], ◌∷◌}
use mathlib.Core.Option.{Option, none, some}
use native.Mathlib.Nat.{add-zero}
use Rattle.std.proofs.Math.Nat.{max-eq_left, max-eq_right}
use native.Mathlib.Omega.{arith}
use lib.ListN.{length, get_or, drop, replicate, length-replicate}
use lib.Dec.{eqb}
use borrow.Author.Tests.{eqb-true, ne_eqb, lt-ltb}
use Rattle.access.specs.Le.{le16, le64}
use Rattle.prelude.specs.Base as definition
use Rattle.prelude.specs.Base.{or_else, when◌then◌else◌, contains}
use Rattle.definition.specs.Refusals.{Refusal, refusal_number, address_of_non_local, constant_pool, argument_count, macro_in_expression}
use Rattle.definition.specs.Operations.{Operation, operation_number}
use Rattle.definition.specs.Value.{Value}
use Rattle.definition.specs.Ast.{PcodeOp, PcodeExpr, Args, no_args, arg, Section}
use Rattle.definition.specs.SectionFile.{Parsed, parsed, refused, Read, expr_within, args_of}
use Rattle.definition.specs.SectionFile as file
use Rattle.definition.specs.Walk as w
use Rattle.definition.specs.Walk.{ExprValue, State, Env, Outcome, done, stopped, on, expect}
use Rattle.definition.specs.Scope as scope
use Rattle.definition.specs.Spellings.{Inbuilt, translate_inbuilt_func}
use Rattle.definition.specs.Scope.{find, Symbol, globals, Meaning, means, wrong, meaning, meant}
use Rattle.definition.specs.Expressions as d
use Rattle.definition.specs.ActionList.{or_none}
pub use Rattle.list_refinement.proofs.FromSection.{absent-word}
use Rattle.list_values.specs.declared.value.Value.{Value as WordValue}
use Rattle.list_pushes.specs.declared.push.State.{State as WordState}
use Rattle.list_pushes.specs.declared.push.Env.{Env as WordEnv}
use Rattle.list_pushes.specs.Outcomes.{Read as WordRead}
use Rattle.list_pushes.specs.Operations.{unary as one_input, binary as two_inputs}
use Rattle.list_pushes.specs.Pushes.{ReadOut, read}
use Rattle.file_syntax.specs.Cursors.{Cursor}
use Rattle.file_refinement.specs.Holds.{Holds, absent_at}
use Rattle.file_refinement.proofs.Inversion.{OpAt, CallAt, expr-begun, nothing_deeper, ident_at, integer_at, address_of_at, truncate_at, slice_bits_at, op_at, deref_at, constant_pool_at, call_at, arg_at_lem, no_arg_at}
use Rattle.list_refinement.specs.Encoding.{enc_v, Sound, Each, first_of, second_of}
use Rattle.list_refinement.proofs.Seen.{yes, no, seen_read, outcome}
use Rattle.expr_scope.specs.declared.scope.ExprValue.{ExprValue as WordExpr}
use Rattle.expr_terms.specs.Outcomes.{Expr}
use Rattle.expr_terms.specs.Outcomes.{Operand}
use Rattle.expr_terms.specs.Outcomes.{Callee}
use Rattle.expr_scope.specs.Outcomes.{Symbol as WordSymbol}
use Rattle.expr_terms.specs.Answers.{ExprOut, resolved, OperandOut, operand, operand_of, applied_to, after}
use Rattle.expr_scope.specs.Slots.{arg_at, put_arg}
use Rattle.expr_reading.specs.Reading.{read_operand}
use Rattle.expr_terms.specs.Calls as calls
use Rattle.expr_terms.specs.Calls.{inbuilt_or, call_user_op, subpiece}
use Rattle.expr_terms.specs.Addresses.{resolve_address}
use Rattle.expr_resolver.specs.Expressions as words
use Rattle.expr_resolver.specs.Expressions.{value_then, local_address, address_meant, address_of, atom, skip_expr, order, order_of, operands_around, operands_of, apply1, apply2, part_at, with_part, expr_value, part, binary, by_code, resolve_expr}
use Rattle.expr_refinement.proofs.Inbuilts.{inbuilt_words}
use Rattle.expr_refinement.proofs.Encodings.{sound_more, x_more}
use Rattle.expr_refinement.proofs.Answers.{bind, bind_expr, bind_operand, bind_args, acts, temps, word, seen_expr, seen_operand, seen_args, Refines, refines_done, refines_stopped, refines_map, weaken}
use Rattle.expr_refinement.proofs.Below.{Spare, Below}
use Rattle.expr_refinement.proofs.Scopes.{meaning-sound, ident, eqb_swap, scoped-later, ident_is}
use Rattle.expr_refinement.proofs.Reading.{read-operand}
use Rattle.expr_refinement.proofs.Slices.{means-done, slice_bits_lem}
use Rattle.expr_refinement.proofs.Addresses.{address}
use Rattle.expr_refinement.proofs.Operators.{Applies2, OrderIs, order_is, Taking, one, two, inbuilt_takes}
use Rattle.expr_refinement.proofs.Slots.{arg_length, arg_again, arg_other, arg_behind}
use Rattle.expr_refinement.proofs.Calls.{user-op, ArgsIn, on_assoc, callee_is, Only, sub_piece}
use Rattle.expr_refinement.proofs.Positions.{starts, ident_ends, integer_ends, address_of_ends, truncate_ends, slice_ends, call-inside, drop_same, ends, end_behind, deeper, begins}
use Rattle.expr_refinement.specs.Encoding.{enc_x, SoundX, Applies, count, Stood, enc_m, Scoped, enc_symbol, BitRangesFit, SoundM}

pub after_is : (pos n : ℕ) → pos < 65536 → n < 65536 → after pos n ≡ pos + n
unfolding after
after_is pos n h k = rw (lt-ltb pos 65536 h, lt-ltb n 65536 k)

-- a u16 that may be absent
pub small_or : (z : Option ℕ) → ((y : ℕ) → z ≡ some y → y < 1025) → or_else 0 z < 65535
unfolding or_else
small_or none h = omega arith
small_or (some n) h = let k = h n refl in omega arith

-- arguments that were read

args_count : (item : Read PcodeExpr) (n : ℕ) (u : List ℕ) (xs : Args) (t : List ℕ) → args_of item n u ≡ parsed xs t → d.arg_count xs ≡ n
unfolding args_of d.arg_count file.on
args_count item zero u xs t h = let q : xs ≡ no_args = cc in rw q
args_count item (suc n) u xs t h = one (λ v ys w g. args_count item n v ys w g) (item u) h
  where
    more : (x : PcodeExpr) (y : Parsed Args) → ((ys : Args) (v : List ℕ) → y ≡ parsed ys v → d.arg_count ys ≡ n) → file.on y (λ ys v. parsed (arg x ys) v) ≡ parsed xs t → d.arg_count xs ≡ suc n
    more x (parsed ys v) g k = let q : xs ≡ arg x ys = cc in rw q (ap suc (g ys v refl))
    more x (refused r) g k = cc

    one : ((v : List ℕ) (ys : Args) (w : List ℕ) → args_of item n v ≡ parsed ys w → d.arg_count ys ≡ n) → (y : Parsed PcodeExpr) → file.on y (λ x v. file.on (args_of item n v) (λ ys w. parsed (arg x ys) w)) ≡ parsed xs t → d.arg_count xs ≡ suc n
    one ih (parsed x v) k = more x (args_of item n v) (ih v) k
    one ih (refused r) k = cc

-- an expression is an integer by its code alone
abbrev IntegerOr : Bool → List ℕ → ℕ → PcodeExpr → ℕ → Type 0
IntegerOr true s pos x next = (x ≡ PcodeExpr.Integer (le64 s (pos + 1))) × (next ≡ pos + 9)
IntegerOr false s pos x next = d.as_integer x ≡ none

integer_code : (s : List ℕ) (m deep pos : ℕ) (x : PcodeExpr) (next : ℕ) → expr_within m (suc deep) (drop pos s) ≡ parsed x (drop next s) → next ≤ length s → (code : ℕ) → get_or s pos 0 ≡ code → code < 9 → IntegerOr (eqb code 1) s pos x next
unfolding d.as_integer
integer_code s m deep pos x next h i zero c l = rw (ident_at s m deep pos x (drop next s) c h).is
integer_code s m deep pos x next h i (suc zero) c l = ((integer_at s m deep pos x (drop next s) c h).is, integer_ends s m deep pos x next h i c)
integer_code s m deep pos x next h i (suc (suc zero)) c l = rw (address_of_at s m deep pos x (drop next s) c h).is
integer_code s m deep pos x next h i (suc (suc (suc zero))) c l = rw (truncate_at s m deep pos x (drop next s) c h).is
integer_code s m deep pos x next h i (suc (suc (suc (suc zero)))) c l = rw (slice_bits_at s m deep pos x (drop next s) c h).is
integer_code s m deep pos x next h i (suc (suc (suc (suc (suc zero))))) c l = rw (op_at s m deep pos x (drop next s) c h).is
integer_code s m deep pos x next h i (suc (suc (suc (suc (suc (suc zero)))))) c l = rw (deref_at s m deep pos x (drop next s) c h).is
integer_code s m deep pos x next h i (suc (suc (suc (suc (suc (suc (suc zero))))))) c l = rw (constant_pool_at s m deep pos x (drop next s) c h).is
integer_code s m deep pos x next h i (suc (suc (suc (suc (suc (suc (suc (suc zero)))))))) c l = rw (call_at s m deep pos x (drop next s) c h).is
integer_code s m deep pos x next h i (suc (suc (suc (suc (suc (suc (suc (suc (suc n))))))))) c l = absurd (omega arith)

integer_or : (s : List ℕ) (m deep pos : ℕ) (x : PcodeExpr) (next : ℕ) → expr_within m deep (drop pos s) ≡ parsed x (drop next s) → next ≤ length s → IntegerOr (eqb (get_or s pos 0) 1) s pos x next
integer_or s m zero pos x next h i = absurd (nothing_deeper s m pos x (drop next s) h)
integer_or s m (suc deep) pos x next h i = integer_code s m deep pos x next h i (get_or s pos 0) refl (expr-begun s m deep pos x (drop next s) h).known

-- one or two arguments that were read
record OneArg (s : List ℕ) (m deep pos : ℕ) (xs : Args) (next : ℕ) : Type 0 where
  first : PcodeExpr
  reads : expr_within m deep (drop pos s) ≡ parsed first (drop next s)
  is : xs ≡ arg first no_args

one-arg : (s : List ℕ) (m deep pos : ℕ) (xs : Args) (next : ℕ) → pos ≤ length s → args_of (expr_within m deep) 1 (drop pos s) ≡ parsed xs (drop next s) → OneArg s m deep pos xs next
one-arg s m deep pos xs next i h =
    let l = arg_at_lem s m deep 0 pos xs (drop next s) i h in
    let o = no_arg_at s m deep l.first_end l.others (drop l.others-end s) l.others-reads in
    record { first = l.first; reads = l.first_reads ∙ ap (parsed l.first) (sym (l.rest ∙ o.rest)); is = l.is ∙ ap (arg l.first) o.is }

record TwoArgs (s : List ℕ) (m deep pos : ℕ) (xs : Args) (next : ℕ) : Type 0 where
  first : PcodeExpr
  end : ℕ
  inside : end ≤ length s
  reads : expr_within m deep (drop pos s) ≡ parsed first (drop end s)
  second : PcodeExpr
  follows : expr_within m deep (drop end s) ≡ parsed second (drop next s)
  is : xs ≡ arg first (arg second no_args)

two_args : (s : List ℕ) (m deep pos : ℕ) (xs : Args) (next : ℕ) → pos ≤ length s → args_of (expr_within m deep) 2 (drop pos s) ≡ parsed xs (drop next s) → TwoArgs s m deep pos xs next
two_args s m deep pos xs next i h =
    let l = arg_at_lem s m deep 1 pos xs (drop next s) i h in
    let others : args_of (expr_within m deep) 1 (drop l.first_end s) ≡ parsed l.others (drop next s) = l.others-reads ∙ ap (parsed l.others) (sym l.rest) in
    let o = one-arg s m deep l.first_end l.others next l.first_inside others in
    record { first = l.first; end = l.first_end; inside = l.first_inside; reads = l.first_reads; second = o.first; follows = o.reads; is = l.is ∙ ap (arg l.first) o.is }

-- no argument, or more than one, is no number
no_args_lem : (s : List ℕ) (m deep pos : ℕ) (xs : Args) (t : List ℕ) → args_of (expr_within m deep) 0 (drop pos s) ≡ parsed xs t → d.only_integer xs ≡ none
unfolding d.only_integer
no_args_lem s m deep pos xs t h = rw (no_arg_at s m deep pos xs t h).is

many_args : (s : List ℕ) (m deep pos n : ℕ) (xs : Args) (t : List ℕ) → pos ≤ length s → args_of (expr_within m deep) (suc (suc n)) (drop pos s) ≡ parsed xs t → d.only_integer xs ≡ none
unfolding d.only_integer
many_args s m deep pos n xs t i h =
    let l = arg_at_lem s m deep (suc n) pos xs t i h in
    let o = arg_at_lem s m deep n l.first_end l.others (drop l.others-end s) l.first_inside l.others-reads in
    rw (l.is, o.is)

-- the one argument of a call at a position, where it is a number
module _ (s : List ℕ) (m deep pos n : ℕ) (xs : Args) (next : ℕ) (starts : pos + 4 ≤ length s) (short : length s ≤ 65280) (inside : next ≤ length s) (reads : args_of (expr_within m deep) n (drop (pos + 4) s) ≡ parsed xs (drop next s)) where
  none_of : (o : Option ℕ) (offset : ℕ) → o ≡ none → 255 < offset → Only o offset (after pos 13) next
  none_of none offset h k = k
  none_of (some i) offset h k = cc

  by_code_lem : (g : OneArg s m deep (pos + 4) xs next) (b : Bool) → IntegerOr b s (pos + 4) g.first next → Only (d.only_integer xs) (when b then le64 s (after pos 5) else 18446744073709551615) (after pos 13) next
  by_code_lem g true h =
      let a : after pos 5 ≡ pos + 4 + 1 = after_is pos 5 (omega arith) (omega arith) ∙ omega arith in
      let b : after pos 13 ≡ next = after_is pos 13 (omega arith) (omega arith) ∙ omega (arith, h.1) in
      let o : d.only_integer xs ≡ some (le64 s (pos + 4 + 1)) = unfold d.only_integer d.as_integer in rw (g.is, h.0) in
      rw o (ap (le64 s) a, b)
  by_code_lem g false h = none_of (d.only_integer xs) 18446744073709551615 (unfold d.only_integer in rw g.is h) (omega arith)

  pub only_integer_lem : Only (d.only_integer xs) (calls.only_integer s pos n) (after pos 13) next
  unfolding calls.only_integer
  only_integer_lem = go n refl
    where
      go : (k : ℕ) → n ≡ k → Only (d.only_integer xs) (when eqb k 1 then (when eqb (get_or s (pos + 4) 0) 1 then le64 s (after pos 5) else 18446744073709551615) else 18446744073709551615) (after pos 13) next
      go zero h = none_of (d.only_integer xs) 18446744073709551615 (no_args_lem s m deep (pos + 4) xs (drop next s) (rw h at reads)) (omega arith)
      go (suc zero) h = let g = one-arg s m deep (pos + 4) xs next starts (rw h at reads) in by_code_lem g (eqb (get_or s (pos + 4) 0) 1) (integer_or s m deep (pos + 4) g.first next g.reads inside)
      go (suc (suc k)) h = rw (ne_eqb (suc (suc k)) 1 (λ z. omega arith)) (none_of (d.only_integer xs) 18446744073709551615 (many_args s m deep (pos + 4) k xs (drop next s) starts (rw h at reads)) (omega arith))

-- the arguments' words, from slot i on
unfoldable pub filled_args : List ℕ → ℕ → List ExprValue → List ℕ
filled_args args i [] = args
filled_args args i (x ∷ xs) = filled_args (put_arg args i (enc_x x)) (suc i) xs

-- a slot in front stays
filled_before : (xs : List ExprValue) (args : List ℕ) (i j : ℕ) → j < i → i + length xs ≤ 8 → arg_at (filled_args args i xs) j ≡ arg_at args j
unfolding filled_args
filled_before [] args i j h l = refl
filled_before (x ∷ xs) args i j h l = filled_before xs (put_arg args i (enc_x x)) (suc i) j (omega arith) (omega arith) ∙ arg_other args j i (enc_x x) h (omega arith)

pub filled_in : (sec : Section) (n : ℕ) (xs : List ExprValue) (args : List ℕ) (i : ℕ) → 64 ≤ length args → i + length xs ≤ 8 → Each (SoundX sec n) xs → ArgsIn (filled_args args i xs) i xs
unfolding filled_args
filled_in sec n [] args i h l f = tt
filled_in sec n (x ∷ xs) args i h l f = (
  filled_before xs (put_arg args i (enc_x x)) (suc i) i (omega arith) (omega arith) ∙ arg_again sec n args i x h f.0,
  filled_in sec n xs (put_arg args i (enc_x x)) (suc i) (rw (arg_length args i (enc_x x)) h) (omega arith) f.1,
)

-- what stands behind the slots stays
pub filled_behind : (xs : List ExprValue) (args : List ℕ) (i j : ℕ) → 64 ≤ j → get_or (filled_args args i xs) j 0 ≡ get_or args j 0
unfolding filled_args
filled_behind [] args i j h = refl
filled_behind (x ∷ xs) args i j h = filled_behind xs (put_arg args i (enc_x x)) (suc i) j h ∙ arg_behind args i (enc_x x) j h

module _ (s t : List ℕ) (e : Env) (p front tail rest : List ℕ) (we : WordEnv) (below : Below s t e front tail rest we) (holds : Holds s t e.section) (ranges : BitRangesFit e.section)
    (spare : ℕ) (room : Spare spare tail) (short : length s ≤ 65280) where
  abbrev A : State → List ℕ
  A st = acts e.section front tail rest st

  abbrev M : State → List ℕ
  M st = temps e.section front tail rest st

  abbrev W : State → WordState
  W st = word e.section front tail rest st

  abbrev Stands : State → Type 0
  Stands st = Stood e.section tail rest spare st

  abbrev Scopes : State → Type 0
  Scopes st = Scoped t p we st

  -- an answer with what an expression means, or with its value, and the position behind it
  abbrev pub Answers : ℕ → State → ExprOut → Outcome ExprValue → Type 0
  Answers next st x o = Refines e.section front tail rest spare st (λ (x : ExprValue). (enc_x x, next)) (SoundX e.section) (seen_expr x) o

  abbrev pub Gives : ℕ → State → OperandOut → Outcome Value → Type 0
  Gives next st x o = Refines e.section front tail rest spare st (λ (v : Value). (enc_v v, next)) (Sound e.section) (seen_operand x) o

  -- an expression at a position, read within a depth
  abbrev pub ReadAt : ℕ → ℕ → PcodeExpr → ℕ → Type 0
  ReadAt deep pos x next = expr_within (le16 s 2) deep (drop pos s) ≡ parsed x (drop next s)

  -- all expressions within a depth are resolved as the definition resolves them
  abbrev pub Resolves : ℕ → Type 0
  Resolves deep = (pos : ℕ) (x : PcodeExpr) (next : ℕ) → ReadAt deep pos x next → next ≤ length s → (st : State) → Stood e.section tail rest spare st → Scoped t p we st
      → Refines e.section front tail rest spare st (λ (x : ExprValue). (enc_x x, next)) (SoundX e.section)
      (seen_expr (resolve_expr deep s t p we pos (acts e.section front tail rest st) (temps e.section front tail rest st) (word e.section front tail rest st))) (d.resolve_expr x e st)

  stops : (next : ℕ) (st : State) (n : ℕ) (r : Refusal) → n ≡ refusal_number r → Answers next st (resolved (Expr.No n) (A st) (M st)) (stopped r st.sizing.begun 0)
  unfolding seen_expr
  stops next st n r h = refines_stopped e.section front tail rest spare st _ (SoundX e.section) n r h

  answers : (next : ℕ) (st : State) → Stands st → (x : ExprValue) → SoundX e.section (count st) x → Answers next st (resolved (Expr.Value next (enc_x x) (W st)) (A st) (M st)) (done x st)
  answers next st f x h = means-done s t e front tail rest we below spare room next st f x h

  names-few : le16 s 2 ≤ 1024
  names-few = holds.limits.names

  -- the address of a local
  local_address_lem : (next : ℕ) (st : State) → Stands st → (size : Option ℕ) → or_else 0 size < 65535 → (x : ExprValue) → SoundX e.section (count st) x
      → Answers next st (resolved (local_address (enc_x x) (or_none size) next (W st)) (A st) (M st)) (on e (expect address_of_non_local (d.as_local x) e st) λ base. λ e1 st1. done (ExprValue.AddressOf base size) st1)
  unfolding local_address enc_x d.as_local expect on
  local_address_lem next st f size l (ExprValue.Local v) h = unfold enc_x in answers next st f (ExprValue.AddressOf v size) (h, l)
  local_address_lem next st f size l (ExprValue.Unbound v) h = stops next st 30 _ (unfold refusal_number in refl)
  local_address_lem next st f size l (ExprValue.Const n z) h = stops next st 30 _ (unfold refusal_number in refl)
  local_address_lem next st f size l (ExprValue.Apply op n vs) h = stops next st 30 _ (unfold refusal_number in refl)
  local_address_lem next st f size l (ExprValue.RamRef v z) h = stops next st 30 _ (unfold refusal_number in refl)
  local_address_lem next st f size l (ExprValue.RegisterRef v z) h = stops next st 30 _ (unfold refusal_number in refl)
  local_address_lem next st f size l (ExprValue.AddressOf v z) h = stops next st 30 _ (unfold refusal_number in refl)
  local_address_lem next st f size l (ExprValue.BitRange v from bits) h = stops next st 30 _ (unfold refusal_number in refl)

  address_meant_lem : (next : ℕ) (st : State) → Stands st → (size : Option ℕ) → or_else 0 size < 65535 → (name : ℕ) → (c : Scopes st) (known : name < 1024) (x : Meaning) → SoundM e.section (count st) x
      → Answers next st (resolved (address_meant (enc_m x) (or_none size) next (W st)) (A st) (M st)) (on e (on e (done x st) meant) λ x. λ e1 st1. on e1 (expect address_of_non_local (d.as_local x) e1 st1) λ base. λ e2 st2. done (ExprValue.AddressOf base size) st2)
  unfolding address_meant enc_m on meant
  address_meant_lem next st f size l name c known (means x) h = local_address_lem next st f size l x h
  address_meant_lem next st f size l name c known (wrong r) h = stops next st (refusal_number r) r refl

  -- the same with the words of what may be absent
  address_named : (next : ℕ) (st : State) → Stands st → (size : Option ℕ) (n : ℕ) → or_none size ≡ n → or_else 0 size < 65535 → (name : ℕ) → (c : Scopes st) (known : name < 1024) (x : Meaning) → SoundM e.section (count st) x
      → Answers next st (resolved (address_meant (enc_m x) n next (W st)) (A st) (M st)) (on e (on e (done x st) meant) λ x. λ e1 st1. on e1 (expect address_of_non_local (d.as_local x) e1 st1) λ base. λ e2 st2. done (ExprValue.AddressOf base size) st2)
  address_named next st f size n q l name c known x h = rw (← q) (address_meant_lem next st f size l name c known x h)

  address_at : (next : ℕ) (st : State) → Stands st → (space size : Option ℕ) (a b : ℕ) → or_none space ≡ a → or_none size ≡ b → (x : ExprValue) → ((y : ℕ) → space ≡ some y → y < 1024) → or_else 0 size < 65535 → SoundX e.section (count st) x
      → Answers next st (resolve_address s t (A st) (M st) we a b (enc_x x) next (W st)) ((definition.when◌then◌else◌ (contains e.section.header.const space) (d.in_const_space size x) (d.address_in space size x)) e st)
  address_at next st f space size a b p q x k l h = rw (← p, ← q) (address s t e front tail rest we below holds spare room next st f space size x k l h)

  -- an operand made of what was read
  pub operand_of_lem : (next : ℕ) (st : State) (y : ReadOut) (o : Outcome Value) → Refines e.section front tail rest spare st enc_v (Sound e.section) (seen_read y) o → Gives next st (operand_of y (value_then next)) o
  operand_of_lem next st y o r = record { same = go y o r.same; goes = r.goes; stops = r.stops }
    where
      go : (y : ReadOut) (o : Outcome Value) → seen_read y ≡ outcome front tail rest enc_v o → seen_operand (operand_of y (value_then next)) ≡ outcome front tail rest (λ (v : Value). (enc_v v, next)) o
      go (read (WordRead.Value v st1) a m) (done u st2) q = unfold seen_read seen_operand operand_of value_then outcome in (let i : v ≡ enc_v u = cc in let j : st1 ≡ W st2 = cc in let k : a ≡ A st2 = cc in let l : m ≡ M st2 = cc in rw (i, j, k, l))
      go (read (WordRead.Value v st1) a m) (stopped r ordinal errors) q = unfold seen_read outcome in cc
      go (read (WordRead.No n) a m) (done u st2) q = unfold seen_read outcome in cc
      go (read (WordRead.No n) a m) (stopped r ordinal errors) q = unfold seen_read seen_operand operand_of value_then outcome in (let i : n ≡ refusal_number r = cc in rw i)

  -- an expression resolved, then read
  pub value_at_lem : (deep : ℕ) → Resolves deep → (pos : ℕ) (x : PcodeExpr) (next : ℕ) → ReadAt deep pos x next → next ≤ length s → (st : State) → Stands st → Scopes st
      → Gives next st (expr_value (resolve_expr deep s t p we) s t we pos (A st) (M st) (W st)) (on e (d.resolve_expr x e st) λ y. d.read_value y none)
  unfolding expr_value
  value_at_lem deep walks pos x next h i st f c =
      bind_expr e.section front tail rest spare spare e st (SoundX e.section) seen_operand (λ (v : Value). (enc_v v, next)) (Sound e.section) (λ y. d.read_value y none) (λ (x : ExprValue). (enc_x x, next)) _ _ _ _
      (walks pos x next h i st f c) (λ n a m. unfold seen_operand in refl)
      λ y st1 r g. operand_of_lem next st1 (read_operand s t (A st1) (M st1) we (enc_x y) (W st1)) (d.read_value y none e st1) (read-operand s t e front tail rest we below spare room st1 r.stood y g)

  -- an operation on a value and an operand
  apply_second : (op : Operation) → Applies2 op → (v : Value) (end mid next : ℕ) → max end mid ≡ next → (st : State) → Sound e.section (count st) v → (y : OperandOut) (o : Outcome Value) → Gives mid st y o
      → Answers next st (applied_to y (apply2 (operation_number op) (enc_v v) end)) (on e o λ right. λ e1 st1. done (ExprValue.Apply op 0 (v ∷ right ∷ [])) st1)
  unfolding seen_operand applied_to apply2 seen_expr
  apply_second op ok v end mid next q st h y o r =
      bind e.section front tail rest spare spare e st (λ (v : Value). (enc_v v, mid)) (Sound e.section) seen_expr (λ (x : ExprValue). (enc_x x, next)) (SoundX e.section) (λ right. λ e1 st1. done (ExprValue.Apply op 0 (v ∷ right ∷ [])) st1)
      (seen_operand y) o (applied_to y (apply2 (operation_number op) (enc_v v) end)) (λ u st1 a m. resolved (Expr.Value (max end u.1) (WordExpr.Apply (two_inputs (operation_number op) (enc_v v) u.0)) st1) a m) r
      (λ u st1 g k. rw q (unfold enc_x first_of second_of in answers next st1 g.stood (ExprValue.Apply op 0 (v ∷ u ∷ [])) (omega arith, ok v u, (sound_more e.section (count st) (count st1) g.later.temporaries v h, (k, tt)))))
      (go y) (stop y)
    where
      go : (y : OperandOut) (u : WordValue × ℕ) (st1 : WordState) (a m : List ℕ) → seen_operand y ≡ yes u st1 a m → seen_expr (applied_to y (apply2 (operation_number op) (enc_v v) end)) ≡ seen_expr (resolved (Expr.Value (max end u.1) (WordExpr.Apply (two_inputs (operation_number op) (enc_v v) u.0)) st1) a m)
      go (operand (Operand.Value z n st2) b w) u st1 a m q = (let i : (z, n) ≡ u = cc in let j : st2 ≡ st1 = cc in let k : b ≡ a = cc in let l : w ≡ m = cc in rw (← i, j, k, l))
      go (operand (Operand.No n) b w) u st1 a m q = cc

      stop : (y : OperandOut) (n : ℕ) → seen_operand y ≡ no n → seen_expr (applied_to y (apply2 (operation_number op) (enc_v v) end)) ≡ no n
      stop (operand (Operand.Value z k st2) b w) n q = cc
      stop (operand (Operand.No k) b w) n q = (let i : k ≡ n = cc in rw i)

  -- one operand after the other
  both : (deep : ℕ) → Resolves deep → (op : Operation) → Applies2 op → (first : ℕ) (x : PcodeExpr) (end : ℕ) → ReadAt deep first x end → end ≤ length s → (second : ℕ) (y : PcodeExpr) (mid : ℕ) → ReadAt deep second y mid → mid ≤ length s → (next : ℕ) → max end mid ≡ next
      → (st : State) → Stands st → Scopes st
      → Answers next st (binary (resolve_expr deep s t p we) s t we (order (operation_number op) first second) (A st) (M st) (W st)) (d.binary op (d.value_of (d.resolve_expr x)) (d.value_of (d.resolve_expr y)) e st)
  unfolding binary d.binary
  both deep walks op ok first x end h i second y mid g j next q st f c =
      bind_operand e.section front tail rest spare spare e st (Sound e.section) seen_expr (λ (x : ExprValue). (enc_x x, next)) (SoundX e.section) (λ left. λ e1 st1. on e1 (d.value_of (d.resolve_expr y) e1 st1) λ right. λ e2 st2. done (ExprValue.Apply op 0 (left ∷ right ∷ [])) st2)
      (λ (v : Value). (enc_v v, end)) _ _ _ _
      (value_at_lem deep walks first x end h i st f c) (λ n a m. unfold seen_expr in refl)
      λ v st1 r k. apply_second op ok v end mid next q st1 k _ _ (value_at_lem deep walks second y mid g j st1 r.stood (scoped-later t p we st st1 r.later c))

  -- the arguments, resolved only, into their slots
  abbrev pub ArgsDone : ℕ → ℕ → List ExprValue → Type 0
  ArgsDone k n xs = Each (SoundX e.section n) xs × (length xs ≡ k)

  abbrev ArgsBehind : ExprValue → ℕ → ℕ → List ExprValue → Type 0
  ArgsBehind v k n xs = (ys : List ExprValue) × (xs ≡ v ∷ ys) × ArgsDone k n ys

  pub resolve_args_lem : (deep : ℕ) → Resolves deep → (k i pos : ℕ) (xs : Args) (next : ℕ) (args : List ℕ) → args_of (expr_within (le16 s 2) deep) k (drop pos s) ≡ parsed xs (drop next s) → pos ≤ length s → next ≤ length s → (st : State) → Stands st → Scopes st
      → Refines e.section front tail rest spare st (λ (vs : List ExprValue). (filled_args args i vs, next)) (ArgsDone k) (seen_args (words.resolve_args (resolve_expr deep s t p we) k i pos (A st) (M st) args (W st))) (d.resolve_args xs e st)
  unfolding words.resolve_args d.resolve_args
  resolve_args_lem deep walks zero i pos xs next args h a b st f c =
      let l = no_arg_at s (le16 s 2) deep pos xs (drop next s) h in
      let k = drop_same s next pos b a l.rest in
      rw (l.is, ← k) (unfold seen_args filled_args in refines_done e.section front tail rest spare st (λ (vs : List ExprValue). (filled_args args i vs, next)) (ArgsDone 0) [] (args, next) f (tt, refl) refl)
  resolve_args_lem deep walks (suc k) i pos xs next args h a b st f c =
      let l = arg_at_lem s (le16 s 2) deep k pos xs (drop next s) a h in
      let others : args_of (expr_within (le16 s 2) deep) k (drop l.first_end s) ≡ parsed l.others (drop next s) = l.others-reads ∙ ap (parsed l.others) (sym l.rest) in
      rw l.is (
      bind_expr e.section front tail rest spare spare e st (SoundX e.section) seen_args (λ (vs : List ExprValue). (filled_args args i vs, next)) (ArgsDone (suc k)) (λ v. λ e1 st1. on e1 (d.resolve_args l.others e1 st1) λ vs. λ e2 st2. done (v ∷ vs) st2)
      (λ (x : ExprValue). (enc_x x, l.first_end)) _ _ _ _
      (walks pos l.first l.first_end l.first_reads l.first_inside st f c) (λ n a m. unfold seen_args in refl)
      λ v st1 r g.
      weaken e.section front tail rest spare spare st1 (λ (vs : List ExprValue). (filled_args args i vs, next)) (ArgsBehind v k) (ArgsDone (suc k)) _ _
      (refines_map e.section front tail rest spare e st1 (λ (vs : List ExprValue). (filled_args (put_arg args i (enc_x v)) (suc i) vs, next)) (ArgsDone k) (λ (vs : List ExprValue). (filled_args args i vs, next)) (ArgsBehind v k) (λ vs. v ∷ vs) _ _
      (resolve_args_lem deep walks k (suc i) l.first_end l.others next (put_arg args i (enc_x v)) others l.first_inside b st1 r.stood (scoped-later t p we st st1 r.later c))
      (λ vs. unfold filled_args in refl) (λ n vs q. (vs, refl, q)))
      (λ vs u m o q. (o, rw q.1 ((x_more e.section (count st1) (count u) o.later.temporaries v g, q.2.0), ap suc q.2.1))))

  -- a built-in function of one argument
  apply_first : (op : Operation) → ((v : Value) → Applies op (v ∷ [])) → (next : ℕ) (st : State) (y : OperandOut) (o : Outcome Value) → Gives next st y o
      → Answers next st (applied_to y (apply1 (operation_number op))) (on e o λ v. λ e1 st1. done (ExprValue.Apply op 0 (v ∷ [])) st1)
  unfolding seen_operand applied_to apply1 seen_expr
  apply_first op ok next st y o r =
      bind e.section front tail rest spare spare e st (λ (v : Value). (enc_v v, next)) (Sound e.section) seen_expr (λ (x : ExprValue). (enc_x x, next)) (SoundX e.section) (λ v. λ e1 st1. done (ExprValue.Apply op 0 (v ∷ [])) st1)
      (seen_operand y) o (applied_to y (apply1 (operation_number op))) (λ u st1 a m. resolved (Expr.Value u.1 (WordExpr.Apply (one_input (operation_number op) u.0)) st1) a m) r
      (λ u st1 g k. unfold enc_x first_of second_of in answers next st1 g.stood (ExprValue.Apply op 0 (u ∷ [])) (omega arith, ok u, (k, tt)))
      (go y) (stop y)
    where
      go : (y : OperandOut) (u : WordValue × ℕ) (st1 : WordState) (a m : List ℕ) → seen_operand y ≡ yes u st1 a m → seen_expr (applied_to y (apply1 (operation_number op))) ≡ seen_expr (resolved (Expr.Value u.1 (WordExpr.Apply (one_input (operation_number op) u.0)) st1) a m)
      go (operand (Operand.Value z n st2) b w) u st1 a m q = (let i : (z, n) ≡ u = cc in let j : st2 ≡ st1 = cc in let k : b ≡ a = cc in let l : w ≡ m = cc in rw (← i, j, k, l))
      go (operand (Operand.No n) b w) u st1 a m q = cc

      stop : (y : OperandOut) (n : ℕ) → seen_operand y ≡ no n → seen_expr (applied_to y (apply1 (operation_number op))) ≡ no n
      stop (operand (Operand.Value z k st2) b w) n q = cc
      stop (operand (Operand.No k) b w) n q = (let i : k ≡ n = cc in rw i)

  module _ (deep : ℕ) (small : suc deep ≤ 32) (walks : Resolves deep) (pos : ℕ) (x : PcodeExpr) (next : ℕ) (reads : ReadAt (suc deep) pos x next) (inside : next ≤ length s) (st : State) (f : Stands st) (c : Scopes st) where
    abbrev Done : ℕ → Type 0
    Done code = Answers next st (by_code (resolve_expr deep s t p we) code s t p we pos (A st) (M st) (W st)) (d.resolve_expr x e st)

    inside_pos : pos + 1 ≤ length s
    inside_pos = starts s (le16 s 2) deep pos x next reads inside

    ahead : (n : ℕ) → n < 100 → after pos n ≡ pos + n
    ahead n h = let a = inside_pos in after_is pos n (omega arith) (omega arith)

    name_case : get_or s pos 0 ≡ 0 → Done 0
    unfolding by_code atom d.resolve_expr
    name_case q =
        let i = ident_at s (le16 s 2) deep pos x (drop next s) q reads in
        let k = ident_ends s (le16 s 2) deep pos x next reads inside q in
        let l = names-few in
        rw (i.is, ahead 3 (omega arith), ← k) (ident s t e p front tail rest we holds spare st c (le16 s (pos + 1)) (omega (arith, i.name_below)) ranges f next)

    integer_case : get_or s pos 0 ≡ 1 → Done 1
    unfolding by_code atom d.resolve_expr
    integer_case q =
        let i = integer_at s (le16 s 2) deep pos x (drop next s) q reads in
        let k = integer_ends s (le16 s 2) deep pos x next reads inside q in
        rw (i.is, ahead 9 (omega arith), ahead 1 (omega arith), ← k) (unfold enc_x or_none or_else in answers next st f (ExprValue.Const (le64 s (pos + 1)) none) (unfold or_else in omega arith))

    address_case : get_or s pos 0 ≡ 2 → Done 2
    unfolding by_code atom address_of d.resolve_expr scope.resolve_ident meaning on
    address_case q =
        let i = address_of_at s (le16 s 2) deep pos x (drop next s) q reads in
        let k = address_of_ends s (le16 s 2) deep pos x next reads inside q in
        let l = names-few in
        let known : le16 s (pos + 3) < 1024 = omega (arith, i.name_below) in
        rw (i.is, ahead 5 (omega arith), ← k, ident_is s t e p we holds st c (le16 s (pos + 3)) known)
        (address_named next st f (absent_at s (pos + 1)) (le16 s (pos + 1)) (absent-word s (pos + 1)) (small_or (absent_at s (pos + 1)) i.size_below) (le16 s (pos + 3)) c known _ (meaning-sound e.section tail rest spare st (le16 s (pos + 3)) ranges f))

    truncate_case : get_or s pos 0 ≡ 3 → Done 3
    unfolding by_code part part_at with_part d.resolve_expr
    truncate_case q =
        let i = truncate_at s (le16 s 2) deep pos x (drop next s) q reads in
        let k = truncate_ends s (le16 s 2) deep pos x next reads inside i.value i.value_end i.value_reads i.value_inside q in
        rw (i.is, ahead 1 (omega arith))
        (bind_expr e.section front tail rest spare spare e st (SoundX e.section) seen_expr (λ (x : ExprValue). (enc_x x, next)) (SoundX e.section) (d.slice_bits 0 (8 * le16 s i.value_end)) (λ (x : ExprValue). (enc_x x, i.value_end)) _ _ _ _
        (walks (pos + 1) i.value i.value_end i.value_reads i.value_inside st f c) (λ n a m. unfold seen_expr in refl)
        λ y st1 r h. rw (after_is i.value_end 2 (omega (arith, i.value_inside)) (omega arith), ← k, add-zero i.value_end) (slice_bits_lem s t e front tail rest we below spare room next st1 r.stood 0 (8 * le16 s i.value_end) y h (omega (arith, i.size_below))))

    slice_case : get_or s pos 0 ≡ 4 → Done 4
    unfolding by_code part part_at with_part d.resolve_expr
    slice_case q =
        let i = slice_bits_at s (le16 s 2) deep pos x (drop next s) q reads in
        let k = slice_ends s (le16 s 2) deep pos x next reads inside i.value i.value_end i.value_reads i.value_inside q in
        rw (i.is, ahead 1 (omega arith))
        (bind_expr e.section front tail rest spare spare e st (SoundX e.section) seen_expr (λ (x : ExprValue). (enc_x x, next)) (SoundX e.section) (d.slice_bits (le16 s i.value_end) (le16 s (i.value_end + 2))) (λ (x : ExprValue). (enc_x x, i.value_end)) _ _ _ _
        (walks (pos + 1) i.value i.value_end i.value_reads i.value_inside st f c) (λ n a m. unfold seen_expr in refl)
        λ y st1 r h. rw (after_is i.value_end 4 (omega (arith, i.value_inside)) (omega arith), ← k, add-zero i.value_end) (slice_bits_lem s t e front tail rest we below spare room next st1 r.stood (le16 s i.value_end) (le16 s (i.value_end + 2)) y h (omega (arith, i.first_below, i.count-below))))

    deref_case : get_or s pos 0 ≡ 6 → Done 6
    unfolding by_code part part_at with_part d.resolve_expr d.resolve_address on
    deref_case q =
        let i = deref_at s (le16 s 2) deep pos x (drop next s) q reads in
        let k = drop_same s next i.pointer-end inside i.pointer-inside i.rest in
        let l = names-few in
        rw (i.is, ahead 5 (omega arith))
        (bind_expr e.section front tail rest spare spare e st (SoundX e.section) seen_expr (λ (x : ExprValue). (enc_x x, next)) (SoundX e.section)
        (λ y. λ e1 st1. (definition.when◌then◌else◌ (contains e1.section.header.const (absent_at s (pos + 1))) (d.in_const_space (absent_at s (pos + 3)) y) (d.address_in (absent_at s (pos + 1)) (absent_at s (pos + 3)) y)) e1 st1) (λ (x : ExprValue). (enc_x x, i.pointer-end)) _ _ _ _
        (walks (pos + 5) i.pointer i.pointer-end i.pointer-reads i.pointer-inside st f c) (λ n a m. unfold seen_expr in refl)
        λ y st1 r h. rw (← k)
        (address_at next st1 r.stood (absent_at s (pos + 1)) (absent_at s (pos + 3)) (le16 s (pos + 1)) (le16 s (pos + 3)) (absent-word s (pos + 1)) (absent-word s (pos + 3)) y (λ z g. omega (arith, i.space-below z g)) (small_or (absent_at s (pos + 3)) i.size_below) h))

    pool_case : get_or s pos 0 ≡ 7 → Done 7
    unfolding by_code d.resolve_expr
    pool_case q =
        let i = constant_pool_at s (le16 s 2) deep pos x (drop next s) q reads in
        rw i.is (stops next st 32 constant_pool (unfold refusal_number in refl))

    operator_case : get_or s pos 0 ≡ 5 → Done 5
    unfolding by_code words.resolve_op operands_of operands_around skip_expr d.resolve_expr
    operator_case q =
        let i = op_at s (le16 s 2) deep pos x (drop next s) q reads in
        let k = drop_same s next i.b_end inside i.b_inside i.rest in
        let g = ends s (le16 s 2) 32 (pos + 1) 0 i.a i.a_end (deeper s (le16 s 2) deep 32 (omega arith) (pos + 1) i.a (drop i.a_end s) i.a_reads) inside_pos i.a_inside in
        let at-end = ap (λ (u : Cursor). u.at) g.is in
        let begun : i.a_end + 1 ≤ length s = (let b = begins s (le16 s 2) deep (i.a_end + 1) i.b (drop i.b_end s) i.b_reads in omega arith) in
        let mono = end_behind s (le16 s 2) deep (i.a_end + 1) i.b i.b_end i.b_reads begun i.b_inside in
        rw (i.is, ahead 1 (omega arith), at-end, after_is i.a_end 1 (omega (arith, i.a_inside)) (omega arith), add-zero i.a_end)
        (by_order i k mono i.op (order_is (get_or s i.a_end 0) i.op i.op_is))
      where
        by_order : (i : OpAt s (le16 s 2) deep pos x (drop next s)) → next ≡ i.b_end → i.a_end + 1 ≤ i.b_end → (o : PcodeOp) → OrderIs o (get_or s i.a_end 0)
            → Answers next st (binary (resolve_expr deep s t p we) s t we (order_of (get_or s i.a_end 0) (pos + 1) (i.a_end + 1)) (A st) (M st) (W st)) (d.resolve_op o (d.value_of (d.resolve_expr i.a)) (d.value_of (d.resolve_expr i.b)) e st)
        by_order i k l (PcodeOp.plain op) h = unfold order_of d.resolve_op in
            rw (h.0, ← h.1) (both deep walks op h.2 (pos + 1) i.a i.a_end i.a_reads i.a_inside (i.a_end + 1) i.b i.b_end i.b_reads i.b_inside next (max-eq_right {n = i.a_end} {m = i.b_end} (omega arith) ∙ sym k) st f c)
        by_order i k l (PcodeOp.greater op) h = unfold order_of d.resolve_op in
            rw (h.0, ← h.1) (both deep walks op h.2 (i.a_end + 1) i.b i.b_end i.b_reads i.b_inside (pos + 1) i.a i.a_end i.a_reads i.a_inside next (max-eq_left {n = i.b_end} {m = i.a_end} (omega arith) ∙ sym k) st f c)

    -- a call: its name, the count of its arguments, and they
    module _ (q : get_or s pos 0 ≡ 8) where
      abbrev Read8 : Type 0
      Read8 = CallAt s (le16 s 2) deep pos x (drop next s)

      abbrev num : ℕ
      num = get_or s (pos + 3) 0

      module _ (i : Read8) (k : next ≡ i.args_end) where
        args_read_lem : args_of (expr_within (le16 s 2) deep) num (drop (pos + 4) s) ≡ parsed i.args (drop next s)
        args_read_lem = i.args_reads ∙ ap (λ (n : ℕ). parsed i.args (drop n s)) (sym k)

        user_case : (id : ℕ) → pos + 4 ≤ length s → Answers next st (words.user_op (resolve_expr deep s t p we) s t we pos id num (A st) (M st) (W st)) (on e (d.resolve_args i.args e st) (d.call_user_op id))
        unfolding words.user_op
        user_case id l =
            rw (ahead 4 (omega arith)) (bind_args e.section front tail rest spare spare e st (ArgsDone num) seen_expr (λ (x : ExprValue). (enc_x x, next)) (SoundX e.section) (d.call_user_op id) (λ (vs : List ExprValue). (filled_args (replicate 64 0) 0 vs, next)) _ _ _ _
            (resolve_args_lem deep walks num 0 (pos + 4) i.args next (replicate 64 0) args_read_lem l inside st f c) (λ n a m. unfold seen_expr in refl)
            λ vs st1 r g. rw (← g.1) (user-op s t e front tail rest we below spare room id next vs (filled_args (replicate 64 0) 0 vs) (filled_in e.section (count st1) vs (replicate 64 0) 0 (omega (arith, length-replicate {A = ℕ} 64 0)) (omega (arith, g.1, i.count-below)) g.0) st1 r.stood g.0))

        piece_case : pos + 4 ≤ length s → Answers next st (subpiece s t p (A st) (M st) pos (le16 s (pos + 1)) num we (W st)) (d.subpiece (le16 s (pos + 1)) i.args e st)
        piece_case l = let b = names-few in sub_piece s t e p front tail rest we below holds ranges spare room next st f c (le16 s (pos + 1)) (omega (arith, i.name_below)) i.args pos num (only_integer_lem s (le16 s 2) deep pos num i.args next l short inside args_read_lem)

        symbol_case : pos + 4 ≤ length s → (y : Option Symbol)
            → Answers next st (words.call_named (resolve_expr deep s t p we) s t p we pos (le16 s (pos + 1)) num (calls.symbol_called (enc_symbol y)) (A st) (M st) (W st)) (d.call_symbol (le16 s (pos + 1)) i.args (d.resolve_args i.args) y e st)
        unfolding words.call_named calls.symbol_called enc_symbol d.call_symbol
        symbol_case l none = piece_case l
        symbol_case l (some (Symbol.UserOp id)) = user_case id l
        symbol_case l (some (Symbol.Macro id m)) = stops next st 34 macro_in_expression (unfold refusal_number in refl)
        symbol_case l (some (Symbol.Space id x)) = piece_case l
        symbol_case l (some (Symbol.Register id x)) = piece_case l
        symbol_case l (some (Symbol.BitRange id x)) = piece_case l
        symbol_case l (some (Symbol.Table id x)) = piece_case l
        symbol_case l (some (Symbol.Other id)) = piece_case l

        -- a built-in function
        one_case : (g : Inbuilt) → ((v : Value) → Applies g.op (v ∷ [])) → pos + 4 ≤ length s → num ≡ 1
            → Answers next st (words.call_inbuilt (resolve_expr deep s t p we) s t we pos (record { op = operation_number g.op; arguments = 1 }) (A st) (M st) (W st)) (on e (d.resolve_arg_values i.args e st) λ vs. λ e1 st1. done (ExprValue.Apply g.op 0 vs) st1)
        unfolding words.call_inbuilt
        one_case g ok l h =
            let o = one-arg s (le16 s 2) deep (pos + 4) i.args next l (rw h at args_read_lem) in
            let r : on e (d.resolve_arg_values (arg o.first no_args) e st) (λ vs. λ e1 st1. done (ExprValue.Apply g.op 0 vs) st1) ≡ on e (d.value_of (d.resolve_expr o.first) e st) (λ v. λ e1 st1. done (ExprValue.Apply g.op 0 (v ∷ [])) st1) = unfold d.resolve_arg_values on in
            on_assoc e (d.value_of (d.resolve_expr o.first) e st) (λ v. λ e1 st1. done (v ∷ []) st1) (λ vs. λ e1 st1. done (ExprValue.Apply g.op 0 vs) st1) in
            rw (o.is, ahead 4 (omega arith), r) (apply_first g.op ok next st _ _ (value_at_lem deep walks (pos + 4) o.first next o.reads inside st f c))

        second_of_lem : (g : Inbuilt) → Applies2 g.op → (end : ℕ) (y : PcodeExpr) → ReadAt deep end y next → (v : Value) (st1 : State) → Stands st1 → Scopes st1 → Sound e.section (count st1) v
            → Answers next st1 (applied_to (expr_value (resolve_expr deep s t p we) s t we end (A st1) (M st1) (W st1)) (apply2 (operation_number g.op) (enc_v v) 0))
            (on e (on e (d.resolve_arg_values (arg y no_args) e st1) λ vs. λ e2 st2. done (v ∷ vs) st2) (λ vs. λ e2 st2. done (ExprValue.Apply g.op 0 vs) st2))
        second_of_lem g ok end y h v st1 f1 c1 k =
            let r : on e (on e (d.resolve_arg_values (arg y no_args) e st1) λ vs. λ e2 st2. done (v ∷ vs) st2) (λ vs. λ e2 st2. done (ExprValue.Apply g.op 0 vs) st2) ≡ on e (d.value_of (d.resolve_expr y) e st1) (λ u. λ e2 st2. done (ExprValue.Apply g.op 0 (v ∷ u ∷ [])) st2) = unfold d.resolve_arg_values on in
            ap (λ (o : Outcome (List Value)). on e o (λ vs. λ e2 st2. done (ExprValue.Apply g.op 0 vs) st2)) (on_assoc e (d.value_of (d.resolve_expr y) e st1) (λ u. λ e2 st2. done (u ∷ []) st2) (λ vs. λ e2 st2. done (v ∷ vs) st2))
            ∙ on_assoc e (d.value_of (d.resolve_expr y) e st1) (λ u. λ e2 st2. done (v ∷ u ∷ []) st2) (λ vs. λ e2 st2. done (ExprValue.Apply g.op 0 vs) st2) in
            rw r (apply_second g.op ok v 0 next next (max-eq_right {n = 0} {m = next} (omega arith)) st1 k _ _ (value_at_lem deep walks end y next h inside st1 f1 c1))

        two_case : (g : Inbuilt) → Applies2 g.op → pos + 4 ≤ length s → num ≡ 2
            → Answers next st (words.call_inbuilt (resolve_expr deep s t p we) s t we pos (record { op = operation_number g.op; arguments = 2 }) (A st) (M st) (W st)) (on e (d.resolve_arg_values i.args e st) λ vs. λ e1 st1. done (ExprValue.Apply g.op 0 vs) st1)
        unfolding words.call_inbuilt words.second_of
        two_case g ok l h =
            let o = two_args s (le16 s 2) deep (pos + 4) i.args next l (rw h at args_read_lem) in
            let r : on e (d.resolve_arg_values (arg o.first (arg o.second no_args)) e st) (λ vs. λ e1 st1. done (ExprValue.Apply g.op 0 vs) st1)
            ≡ on e (d.value_of (d.resolve_expr o.first) e st) (λ v. λ e1 st1. on e1 (on e1 (d.resolve_arg_values (arg o.second no_args) e1 st1) λ vs. λ e2 st2. done (v ∷ vs) st2) (λ vs. λ e2 st2. done (ExprValue.Apply g.op 0 vs) st2)) = unfold d.resolve_arg_values on in
            on_assoc e (d.value_of (d.resolve_expr o.first) e st) (λ v. λ e1 st1. on e1 (d.resolve_arg_values (arg o.second no_args) e1 st1) λ vs. λ e2 st2. done (v ∷ vs) st2) (λ vs. λ e1 st1. done (ExprValue.Apply g.op 0 vs) st1) in
            rw (o.is, ahead 4 (omega arith), r)
            (bind_operand e.section front tail rest spare spare e st (Sound e.section) seen_expr (λ (x : ExprValue). (enc_x x, next)) (SoundX e.section)
            (λ v. λ e1 st1. on e1 (on e1 (d.resolve_arg_values (arg o.second no_args) e1 st1) λ vs. λ e2 st2. done (v ∷ vs) st2) (λ vs. λ e2 st2. done (ExprValue.Apply g.op 0 vs) st2)) (λ (v : Value). (enc_v v, o.end)) _ _ _ _
            (value_at_lem deep walks (pos + 4) o.first o.end o.reads o.inside st f c) (λ n a m. unfold seen_expr in refl)
            λ v st1 m k. second_of_lem g ok o.end o.second o.follows v st1 m.stood (scoped-later t p we st st1 m.later c) k)

        taking_case : (g : Inbuilt) → Taking g → pos + 4 ≤ length s → num ≡ g.arguments
            → Answers next st (words.call_inbuilt (resolve_expr deep s t p we) s t we pos (record { op = operation_number g.op; arguments = g.arguments }) (A st) (M st) (W st)) (on e (d.resolve_arg_values i.args e st) λ vs. λ e1 st1. done (ExprValue.Apply g.op 0 vs) st1)
        taking_case g (one a ok) l h = rw a (one_case g ok l (h ∙ a))
        taking_case g (two a ok) l h = rw a (two_case g ok l (h ∙ a))

        some-arguments : (g : Inbuilt) → Taking g → eqb g.arguments 0 ≡ false
        some-arguments g (one a ok) = rw a
        some-arguments g (two a ok) = rw a

        inbuilt_case : (g : Inbuilt) → Taking g → pos + 4 ≤ length s → (y : WordSymbol)
            → Answers next st (words.call_named (resolve_expr deep s t p we) s t p we pos (le16 s (pos + 1)) num (inbuilt_or (inbuilt_words (some g)) y num) (A st) (M st) (W st)) (d.call_inbuilt g i.args (d.resolve_arg_values i.args) e st)
        unfolding inbuilt_or inbuilt_words d.call_inbuilt
        inbuilt_case g k l y =
            let n = args_count (expr_within (le16 s 2) deep) num (drop (pos + 4) s) i.args (drop next s) args_read_lem in
            rw (some-arguments g k, n, eqb_swap num g.arguments) (by (eqb g.arguments num) refl)
          where
            by : (b : Bool) → eqb g.arguments num ≡ b → Answers next st (words.call_named (resolve_expr deep s t p we) s t p we pos (le16 s (pos + 1)) num (when b then Callee.Inbuilt (record { op = operation_number g.op; arguments = g.arguments }) else Callee.No 33) (A st) (M st) (W st))
                (on e (w.require b argument_count e st) λ _. λ e1 st1. on e1 (d.resolve_arg_values i.args e1 st1) λ vs. λ e2 st2. done (ExprValue.Apply g.op 0 vs) st2)
            by true h = unfold words.call_named w.require on in taking_case g k l (sym (eqb-true g.arguments num h))
            by false h = unfold words.call_named w.require on in stops next st 33 argument_count (unfold refusal_number in refl)

        call-done : pos + 4 ≤ length s → Answers next st (words.resolve_call (resolve_expr deep s t p we) s t p we pos (A st) (M st) (W st)) (d.resolve_call (le16 s (pos + 1)) i.args (d.resolve_arg_values i.args) (d.resolve_args i.args) e st)
        unfolding words.resolve_call d.resolve_call on
        call-done l =
            rw (callee_is s t e.section holds (le16 s (pos + 1)) (rw holds.name_count i.name_below) num)
            (by (translate_inbuilt_func (get_or e.section.names (le16 s (pos + 1)) [])) refl)
          where
            by : (g : Option Inbuilt) → translate_inbuilt_func (get_or e.section.names (le16 s (pos + 1)) []) ≡ g
                → Answers next st (words.call_named (resolve_expr deep s t p we) s t p we pos (le16 s (pos + 1)) num (inbuilt_or (inbuilt_words g) (enc_symbol (find (le16 s (pos + 1)) (globals e.section))) num) (A st) (M st) (W st)) (d.call_named (le16 s (pos + 1)) i.args (d.resolve_arg_values i.args) (d.resolve_args i.args) g e st)
            by (some g) h = unfold d.call_named in inbuilt_case g (inbuilt_takes (get_or e.section.names (le16 s (pos + 1)) []) g h) l (enc_symbol (find (le16 s (pos + 1)) (globals e.section)))
            by none h = unfold d.call_named scope.lookup inbuilt_or inbuilt_words on in (symbol_case l (find (le16 s (pos + 1)) (globals e.section)))

      call_case : Done 8
      unfolding by_code d.resolve_expr
      call_case =
          let i = call_at s (le16 s 2) deep pos x (drop next s) q reads in
          let k = drop_same s next i.args_end inside i.args_inside i.rest in
          rw i.is (call-done i k (call-inside s (le16 s 2) deep pos x next reads inside q))

    code_case : (code : ℕ) → get_or s pos 0 ≡ code → code < 9 → Done code
    code_case zero q h = name_case q
    code_case (suc zero) q h = integer_case q
    code_case (suc (suc zero)) q h = address_case q
    code_case (suc (suc (suc zero))) q h = truncate_case q
    code_case (suc (suc (suc (suc zero)))) q h = slice_case q
    code_case (suc (suc (suc (suc (suc zero))))) q h = operator_case q
    code_case (suc (suc (suc (suc (suc (suc zero)))))) q h = deref_case q
    code_case (suc (suc (suc (suc (suc (suc (suc zero))))))) q h = pool_case q
    code_case (suc (suc (suc (suc (suc (suc (suc (suc zero)))))))) q h = call_case q
    code_case (suc (suc (suc (suc (suc (suc (suc (suc (suc n))))))))) q h = absurd (omega arith)

  step_is : (deep pos : ℕ) (a m : List ℕ) (st : WordState) → resolve_expr (suc deep) s t p we pos a m st ≡ by_code (resolve_expr deep s t p we) (get_or s (pos + 0) 0) s t p we pos a m st
  unfolding resolve_expr
  step_is deep pos a m st = refl

  -- An expression at a position is resolved as the definition resolves it.
  pub resolve-expr : (deep : ℕ) → deep ≤ 32 → Resolves deep
  resolve-expr zero l pos x next h i st f c = absurd (nothing_deeper s (le16 s 2) pos x (drop next s) h)
  resolve-expr (suc deep) l pos x next h i st f c =
      rw (step_is deep pos (A st) (M st) (W st), add-zero pos) (code_case deep l (resolve-expr deep (omega arith)) pos x next h i st f c (get_or s pos 0) refl (expr-begun s (le16 s 2) deep pos x (drop next s) h).known)
