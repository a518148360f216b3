-- The place that a pointer in a space refers to, as the definition has it.
use Prim.Native.Nat.{ℕ, zero, suc, ◌+◌, ◌*◌, ◌%◌, ◌≤◌, ◌<◌}
use mathlib.Core.Path.{◌≡◌, refl, sym, ◌∙◌, subst}
use mathlib.Core.Bool.{Bool, true, false}
use mathlib.Core.List.{List}
use mathlib.Core.Option.{Option, none, some}
use native.Mathlib.Omega.{arith}
use lib.ListN.{length, get_or, get_elem?}
use lib.Dec.{eqb}
use borrow.Author.Tests.{ne_eqb}
use Rattle.access.specs.Le.{le16}
use Rattle.prelude.specs.Base as definition
use Rattle.prelude.specs.Base.{◌or◌, or_else, and_then, when◌then◌else◌, contains}
use Rattle.definition.specs.Refusals.{Refusal, refusal_number, undefined, wrong_kind, no_default_space}
use Rattle.definition.specs.Value.{Value}
use Rattle.definition.specs.Ast.{SpaceKind, Space as SpaceEntry}
use Rattle.definition.specs.Walk.{ExprValue, State, Env, Outcome, done, stopped, on, expect}
use Rattle.definition.specs.Scope.{find, Symbol, globals, lookup, as_space}
use Rattle.definition.specs.Expressions as d
use Rattle.definition.specs.ActionList.{or_none}
use Rattle.definition.proofs.Openers.{base_opens}
use Rattle.list_values.specs.declared.value.Value.{Value as WordValue}
use Rattle.list_pushes.specs.declared.push.State.{State as WordState}
use Rattle.list_pushes.specs.declared.push.Env.{Env as WordEnv}
use Rattle.list_pushes.specs.Outcomes.{Read}
use Rattle.list_values.specs.Sizes.{entry}
use Rattle.list_pushes.specs.Pushes.{ReadOut, read}
use Rattle.file_refinement.specs.Holds.{Holds, space_at, space_kind, absent_at}
use Rattle.definition_guarantee.proofs.Tests.{some_same}
use Rattle.definition_guarantee.proofs.Globals.{place-below, FoundPlaced, found_placed}
use Rattle.list_refinement.specs.Encoding.{enc_v, Sound}
use Rattle.list_refinement.proofs.Seen.{yes, no, seen_read}
use Rattle.expr_terms.specs.Outcomes.{Expr}
use Rattle.expr_terms.specs.Outcomes.{Space}
use Rattle.expr_terms.specs.Answers.{ExprOut, resolved, expr_of}
use Rattle.expr_reading.specs.Reading.{read_operand}
use Rattle.expr_terms.specs.Addresses.{or_size, in_const_space, kind_of_space, space_of, named_space, default_space, resolve_space, reference_to, reference, in_space, address_in, resolve_address}
use Rattle.expr_refinement.proofs.Answers.{bind, acts, temps, word, seen_expr, refines_stopped}
use Rattle.expr_refinement.proofs.Below.{Spare, Below}
use Rattle.expr_refinement.proofs.Scopes.{eqb_swap, lookup_is}
use Rattle.expr_refinement.proofs.Reading.{read-operand}
use Rattle.expr_refinement.proofs.Slices.{Means, means-done}
use Rattle.expr_refinement.specs.Encoding.{enc_x, Small, SoundX, count, Stood, enc_symbol}

-- the byte of a kind; all but two are others
pub data IsKind : SpaceKind → ℕ → Type 0 where
  ram : IsKind SpaceKind.RamSpace 0
  register : IsKind SpaceKind.RegisterSpace 1
  other : (n : ℕ) → IsKind SpaceKind.OtherSpace (2 + n)

kind_of_lem : (n : ℕ) → IsKind (space_kind n) n
unfolding space_kind
kind_of_lem zero = ram
kind_of_lem (suc zero) = register
kind_of_lem (suc (suc n)) = let p : suc (suc n) ≡ 2 + n = omega arith in subst (IsKind SpaceKind.OtherSpace) (sym p) (other n)

-- what the words find is what the definition's walk finds
pub data Finds (st : State) : Space → Outcome SpaceEntry → Type 0 where
  found : (x : SpaceEntry) (n : ℕ) → IsKind x.kind n → Finds st (Space.Kind n) (done x st)
  lost : (r : Refusal) (n : ℕ) → n ≡ refusal_number r → Finds st (Space.No n) (stopped r st.sizing.begun 0)

or_size_lem : (a b : Option ℕ) → Small a → or_size (or_none a) (or_none b) ≡ or_none (a or b)
unfolding or_size or_none or_else ◌or◌
or_size_lem none b h = refl
or_size_lem (some n) b h = rw (ne_eqb n 65535 (λ q. omega arith))

or_zero : (a : Option ℕ) → Small a → or_size (or_none a) 0 ≡ or_else 0 a
unfolding or_size or_none or_else
or_zero none h = refl
or_zero (some n) h = rw (ne_eqb n 65535 (λ q. omega arith))

or_small : (a b : Option ℕ) → Small a → Small b → Small (a or b)
unfolding ◌or◌ or_else
or_small none b h k = k
or_small (some n) b h k = h

module _ (s t : List ℕ) (e : Env) (holds : Holds s t e.section) (st : State) where
  space-place : (i : ℕ) → i < length e.section.spaces → entry t 0 (i % 65536 * 5) ≡ get_or t 3328 0 + 5 * i
  unfolding entry
  space-place i h =
      let l : length e.section.spaces ≤ 8 = rw holds.spaces.count holds.limits.spaces in
      let p : i % 65536 ≡ i = omega arith in
      let q : i * 5 % 1048576 ≡ 5 * i = omega arith in
      rw (p, q)

  space_finds : (i : ℕ) (x : SpaceEntry) → get_elem? e.section.spaces i ≡ some x → Finds st (kind_of_space s t i) (done x st)
  unfolding kind_of_space space_at
  space_finds i x q =
      let h = place-below e.section.spaces i x q in
      let z : get_or t 3328 0 + (2 + 3) * i ≡ get_or t 3328 0 + 5 * i = omega arith in
      rw (space-place i h, ← some_same (sym (holds.spaces.element i h) ∙ q), z) (found _ _ (kind_of_lem _))

  named_finds : (y : Option Symbol) → FoundPlaced e.section y → Finds st (space_of s t (enc_symbol y)) (as_space y e st)
  unfolding space_of enc_symbol as_space
  named_finds none h = lost undefined 22 (unfold refusal_number in refl)
  named_finds (some (Symbol.Space i x)) h = space_finds i x h
  named_finds (some (Symbol.Register i x)) h = lost wrong_kind 23 (unfold refusal_number in refl)
  named_finds (some (Symbol.BitRange i x)) h = lost wrong_kind 23 (unfold refusal_number in refl)
  named_finds (some (Symbol.Table i x)) h = lost wrong_kind 23 (unfold refusal_number in refl)
  named_finds (some (Symbol.UserOp i)) h = lost wrong_kind 23 (unfold refusal_number in refl)
  named_finds (some (Symbol.Macro i x)) h = lost wrong_kind 23 (unfold refusal_number in refl)
  named_finds (some (Symbol.Other i)) h = lost wrong_kind 23 (unfold refusal_number in refl)

  default_finds : (b : Bool) → eqb (le16 s 24) 65535 ≡ b → absent_at s 24 ≡ (definition.when◌then◌else◌ b none (some (le16 s 24)))
      → Finds st (when b then Space.No 39 else kind_of_space s t (le16 s 24)) (expect no_default_space (and_then (definition.when◌then◌else◌ b none (some (le16 s 24))) (get_elem? e.section.spaces)) e st)
  unfolding base_opens expect
  default_finds true q h = lost no_default_space 39 (unfold refusal_number in refl)
  default_finds false q h =
      let g : absent_at s 24 ≡ some (le16 s 24) = h in
      let k : le16 s 24 < le16 s 4 = holds.limits.default_space (le16 s 24) g in
      let l : length e.section.spaces ≡ le16 s 4 = holds.spaces.count in
      let x = holds.spaces.element (le16 s 24) (omega arith) in
      rw x (space_finds (le16 s 24) _ x)

  pub space_found : (space : Option ℕ) → ((y : ℕ) → space ≡ some y → y < 1024) → Finds st (resolve_space s t (or_none space)) (d.resolve_space space e st)
  unfolding resolve_space d.resolve_space or_none or_else default_space named_space lookup on
  space_found none h =
      subst (λ (x : Option ℕ). Finds st (when eqb (le16 s 24) 65535 then Space.No 39 else kind_of_space s t (le16 s 24)) (expect no_default_space (and_then x (get_elem? e.section.spaces)) e st)) (sym holds.default_space) (default_finds (eqb (le16 s 24) 65535) refl refl)
  space_found (some n) h =
      let k = h n refl in
      rw (ne_eqb n 65535 (λ q. omega arith), lookup_is s t e.section holds n k) (named_finds (find n (globals e.section)) (found_placed e.section n _ refl))

  pub const_is : (space : Option ℕ) → ((y : ℕ) → space ≡ some y → y < 1024) → eqb (or_none space) (le16 s 30) ≡ contains e.section.header.const space
  unfolding or_none or_else contains
  const_is none h = let k = holds.limits.const in let l = holds.limits.names in ne_eqb 65535 (le16 s 30) (λ q. omega arith)
  const_is (some n) h = rw (← holds.const) (eqb_swap n e.section.header.const)

module _ (s t : List ℕ) (e : Env) (front tail rest : List ℕ) (we : WordEnv) (below : Below s t e front tail rest we) (holds : Holds s t e.section) (spare : ℕ) (room : Spare spare tail) (next : ℕ) where
  abbrev A : State → List ℕ
  A st = acts e.section front tail rest st

  abbrev M : State → List ℕ
  M st = temps e.section front tail rest st

  abbrev W : State → WordState
  W st = word e.section front tail rest st

  abbrev Answers : State → ExprOut → Outcome ExprValue → Type 0
  Answers st x o = Means s t e front tail rest we below spare room next st x o

  refused : (st : State) (n : ℕ) (r : Refusal) → n ≡ refusal_number r → Answers st (resolved (Expr.No n) (A st) (M st)) (stopped r st.sizing.begun 0)
  unfolding seen_expr
  refused st n r h = refines_stopped e.section front tail rest spare st _ (SoundX e.section) n r h

  in_const : (st : State) → Stood e.section tail rest spare st → (size : Option ℕ) (x : ExprValue) → Small size → SoundX e.section (count st) x
      → Answers st (resolved (in_const_space (enc_x x) (or_none size) next (W st)) (A st) (M st)) (d.in_const_space size x e st)
  unfolding in_const_space enc_x d.in_const_space
  in_const st f size (ExprValue.Local v) l h = rw (or_size_lem size v.size l) (unfold enc_x in means-done s t e front tail rest we below spare room next st f (ExprValue.Local (record { kind = v.kind; number = v.number; offset = v.offset; size = size or v.size })) (record { number = h.number; offset = h.offset; size = or_small size v.size l h.size }))
  in_const st f size (ExprValue.Const n z) l h = rw (or_size_lem size z l) (unfold enc_x in means-done s t e front tail rest we below spare room next st f (ExprValue.Const n (size or z)) (or_small size z l h))
  in_const st f size (ExprValue.Unbound v) l h = refused st 38 _ (unfold refusal_number in refl)
  in_const st f size (ExprValue.Apply op n vs) l h = refused st 38 _ (unfold refusal_number in refl)
  in_const st f size (ExprValue.RamRef v z) l h = refused st 38 _ (unfold refusal_number in refl)
  in_const st f size (ExprValue.RegisterRef v z) l h = refused st 38 _ (unfold refusal_number in refl)
  in_const st f size (ExprValue.AddressOf v z) l h = refused st 38 _ (unfold refusal_number in refl)
  in_const st f size (ExprValue.BitRange v from bits) l h = refused st 38 _ (unfold refusal_number in refl)

  refers : (st : State) → Stood e.section tail rest spare st → (k : SpaceKind) (n : ℕ) → IsKind k n → (size : Option ℕ) (v : Value) → Small size → Sound e.section (count st) v
      → Answers st (resolved (reference_to n (or_none size) next (enc_v v) (W st)) (A st) (M st)) (d.reference k v (or_else 0 size) e st)
  unfolding reference_to d.reference
  refers st f SpaceKind.RamSpace n ram size v l h = rw (or_zero size l) (unfold enc_x in means-done s t e front tail rest we below spare room next st f (ExprValue.RamRef v (or_else 0 size)) (h, l))
  refers st f SpaceKind.RegisterSpace n register size v l h = rw (or_zero size l) (unfold enc_x in means-done s t e front tail rest we below spare room next st f (ExprValue.RegisterRef v (or_else 0 size)) (h, l))
  refers st f SpaceKind.OtherSpace n (other m) size v l h = rw (ne_eqb (2 + m) 0 (λ q. omega arith), ne_eqb (2 + m) 1 (λ q. omega arith)) (refused st 40 _ (unfold refusal_number in refl))

  referred : (st : State) → Stood e.section tail rest spare st → (k : SpaceKind) (n : ℕ) → IsKind k n → (size : Option ℕ) (x : ExprValue) → Small size → SoundX e.section (count st) x
      → Answers st (expr_of (read_operand s t (A st) (M st) we (enc_x x) (W st)) (reference n (or_none size) next)) (on e (d.read_value x none e st) (λ pointer. d.reference k pointer (or_else 0 size)))
  referred st f k n i size x l h =
      bind e.section front tail rest spare spare e st enc_v (Sound e.section) seen_expr (λ (x : ExprValue). (enc_x x, next)) (SoundX e.section) (λ pointer. d.reference k pointer (or_else 0 size))
      (seen_read (read_operand s t (A st) (M st) we (enc_x x) (W st))) (d.read_value x none e st) (expr_of (read_operand s t (A st) (M st) we (enc_x x) (W st)) (reference n (or_none size) next))
      (λ u st1 a m. resolved (reference_to n (or_none size) next u st1) a m)
      (read-operand s t e front tail rest we below spare room st f x h)
      (λ v st1 r p. refers st1 r.stood k n i size v l p)
      (go (read_operand s t (A st) (M st) we (enc_x x) (W st))) (stop (read_operand s t (A st) (M st) we (enc_x x) (W st)))
    where
      go : (y : ReadOut) (v : WordValue) (st1 : WordState) (a m : List ℕ) → seen_read y ≡ yes v st1 a m → seen_expr (expr_of y (reference n (or_none size) next)) ≡ seen_expr (resolved (reference_to n (or_none size) next v st1) a m)
      go (read (Read.Value u st2) b w) v st1 a m q = unfold seen_read expr_of reference in (let i : u ≡ v = cc in let j : st2 ≡ st1 = cc in let k : b ≡ a = cc in let l : w ≡ m = cc in rw (i, j, k, l))
      go (read (Read.No n) b w) v st1 a m q = unfold seen_read in cc

      stop : (y : ReadOut) (j : ℕ) → seen_read y ≡ no j → seen_expr (expr_of y (reference n (or_none size) next)) ≡ no j
      stop (read (Read.Value u st2) b w) j q = unfold seen_read in cc
      stop (read (Read.No k) b w) j q = unfold seen_read expr_of reference seen_expr in (let i : k ≡ j = cc in rw i)

  address_in_lem : (st : State) → Stood e.section tail rest spare st → (space size : Option ℕ) (x : ExprValue) → ((y : ℕ) → space ≡ some y → y < 1024) → Small size → SoundX e.section (count st) x
      → Answers st (address_in s t (A st) (M st) we (or_none space) (or_none size) (enc_x x) next (W st)) (d.address_in space size x e st)
  unfolding address_in d.address_in
  address_in_lem st f space size x k l h = go (resolve_space s t (or_none space)) (d.resolve_space space e st) (space_found s t e holds st space k)
    where
      go : (y : Space) (o : Outcome SpaceEntry) → Finds st y o → Answers st (in_space y s t (A st) (M st) we (or_none size) (enc_x x) next (W st)) (on e o (λ to. λ e st. on e (d.read_value x none e st) λ pointer. d.reference to.kind pointer (or_else 0 size)))
      go y o (found to n i) = unfold in_space on in referred st f to.kind n i size x l h
      go y o (lost r n q) = unfold in_space on in refused st n r q

  -- the place that a pointer, already resolved, refers to
  pub address : (st : State) → Stood e.section tail rest spare st → (space size : Option ℕ) (x : ExprValue) → ((y : ℕ) → space ≡ some y → y < 1024) → Small size → SoundX e.section (count st) x
      → Answers st (resolve_address s t (A st) (M st) we (or_none space) (or_none size) (enc_x x) next (W st)) ((definition.when◌then◌else◌ (contains e.section.header.const space) (d.in_const_space size x) (d.address_in space size x)) e st)
  unfolding resolve_address
  address st f space size x k l h = rw (const_is s t e holds st space k) (go (contains e.section.header.const space))
    where
      go : (b : Bool) → Answers st (when b then resolved (in_const_space (enc_x x) (or_none size) next (W st)) (A st) (M st) else address_in s t (A st) (M st) we (or_none space) (or_none size) (enc_x x) next (W st)) ((definition.when◌then◌else◌ b (d.in_const_space size x) (d.address_in space size x)) e st)
      go true = unfold base_opens in in_const st f size x l h
      go false = unfold base_opens in address_in_lem st f space size x k l h
