-- An action's kind and operation, by their numbers: what the definition's tables say of an operation is what the chains of
-- tests say of its number.
use Rattle.std.proofs.lemmas.Bool.Decides.{nat_tests}
use Prim.Native.Nat.{ℕ, zero, suc, ◌≤◌, ◌<◌}
use mathlib.Core.Path.{◌≡◌, refl, sym, ◌∙◌}
use mathlib.Core.Bool.{Bool, true, false, ◌&&◌}
use mathlib.Core.List.{List, [], ◌∷◌, ◌++◌, map}
use mathlib.Core.Option.{Option, none, some}
use native.Mathlib.Omega.{arith}
use Rattle.std.proofs.lemmas.Grind.{common_steps}
use lib.Dec.{eqb, leb, ltb}
use borrow.Author.Tests.{eq-eqb, ltb-true, ltb-false, eqb-true, eqb-false}
use Rattle.prelude.specs.Base.{when◌then◌else◌, ◌or◌, or_else, and_then, is_some, any, first}
use Rattle.definition.specs.Operations.{Operation, operation_number}
use Rattle.definition.specs.Value.{ActionKind, operation_of}
use Rattle.definition.specs.Sizes.{in0, in1, out, one, pointer, Step, equal, exactly, by_default, rules, rule_of}
use Rattle.definition.specs.ActionList.{action_kind_number, operation_word}
use Rattle.definition.specs.Checker.{Shape, shapes, with_output, no_output, operation_numbered, op_numbered, action_kind_numbered, same_count, shape_of}
use Rattle.definition.proofs.EveryOperation.{alike}
use Rattle.definition.proofs.Openers.{operations_opens}
use Rattle.list_checker.specs.Action.{Row, triple, shift, comparison, boolean, negation, same, tested, free, load, store, branch, condition, label, user, argument, invalid, unknown, row_of}

-- no operation has a number from 66 on
row_above : (op : ℕ) → 66 ≤ op → row_of op ≡ unknown
unfolding row_of
row_above op l = grind (arith, common_steps)

abbrev pub pcode_op_pairs : List (ℕ × Bool)
pcode_op_pairs = map no_output (0 ∷ 1 ∷ 2 ∷ 3 ∷ 4 ∷ 5 ∷ 6 ∷ 7 ∷ 8 ∷ []) ++ map with_output (0 ∷ 1 ∷ 2 ∷ [])

-- The shape of an operation's row, and the steps of its sizes.

unfoldable pub shape_of_row : Row → Option Shape
shape_of_row triple = some (record { counts = with_output 2 ∷ []; below = 1 })
shape_of_row shift = some (record { counts = with_output 2 ∷ []; below = 1 })
shape_of_row comparison = some (record { counts = with_output 2 ∷ []; below = 1 })
shape_of_row boolean = some (record { counts = with_output 2 ∷ []; below = 1 })
shape_of_row negation = some (record { counts = with_output 1 ∷ []; below = 1 })
shape_of_row same = some (record { counts = with_output 1 ∷ []; below = 1 })
shape_of_row tested = some (record { counts = with_output 1 ∷ []; below = 1 })
shape_of_row free = some (record { counts = with_output 1 ∷ []; below = 1 })
shape_of_row load = some (record { counts = with_output 1 ∷ []; below = 1 })
shape_of_row store = some (record { counts = no_output 2 ∷ []; below = 1 })
shape_of_row branch = some (record { counts = no_output 2 ∷ []; below = 3 })
shape_of_row condition = some (record { counts = no_output 2 ∷ []; below = 256 })
shape_of_row label = some (record { counts = no_output 0 ∷ []; below = 256 })
shape_of_row user = some (record { counts = pcode_op_pairs; below = 256 })
shape_of_row argument = some (record { counts = no_output 1 ∷ []; below = 6 })
shape_of_row invalid = some (record { counts = no_output 0 ∷ []; below = 1 })
shape_of_row unknown = none

unfoldable pub steps_of : Row → List Step
steps_of triple = equal (in0 ∷ in1 ∷ out ∷ []) ∷ []
steps_of shift = equal (in0 ∷ out ∷ []) ∷ by_default in1 pointer ∷ []
steps_of comparison = equal (in0 ∷ in1 ∷ []) ∷ exactly out one ∷ []
steps_of boolean = exactly in0 one ∷ exactly in1 one ∷ exactly out one ∷ []
steps_of negation = exactly in0 one ∷ exactly in1 one ∷ exactly out one ∷ []
steps_of same = equal (in0 ∷ out ∷ []) ∷ []
steps_of tested = exactly out one ∷ []
steps_of free = []
steps_of load = exactly in0 pointer ∷ []
steps_of store = exactly in0 pointer ∷ []
steps_of branch = exactly in0 one ∷ by_default in1 pointer ∷ []
steps_of condition = exactly in0 one ∷ []
steps_of label = []
steps_of user = []
steps_of argument = []
steps_of invalid = []
steps_of unknown = []

-- what the tables say of an operation
pub record Tabled (t s : ℕ) (o : Operation) : Type 0 where
  pub shape : shape_of t s (ActionKind.Op o) ≡ shape_of_row (row_of (operation_number o))
  pub steps : rule_of o ≡ steps_of (row_of (operation_number o))

pub tabled : (t s : ℕ) (o : Operation) → Tabled t s o
unfolding operations_opens shapes shape_of shape_of_row rules rule_of steps_of row_of
tabled t s o = record {
  shape = alike (λ o. shape_of t s (ActionKind.Op o)) (λ o. shape_of_row (row_of (operation_number o))) refl o;
  steps = alike rule_of (λ o. steps_of (row_of (operation_number o))) refl o;
}

-- Numbers read as operations.

first_from : {A B : Type 0} (f : A → Option B) (P : B → Type 0) → ((x : A) (b : B) → f x ≡ some b → P b) → (xs : List A) (b : B) → first f xs ≡ some b → P b
unfolding first ◌or◌
first_from f P h [] b e = cc
first_from {A} {B} f P h (x ∷ xs) b e = go (λ p. first_from f P h xs b p) (f x) refl e
  where
    go : (first f xs ≡ some b → P b) → (y : Option B) → f x ≡ y → y or first f xs ≡ some b → P b
    go rest none p e = rest e
    go rest (some c) p e = h x b (p ∙ e)

operation_number_lem : (n : ℕ) (o : Operation) → operation_numbered n ≡ some o → operation_number o ≡ n
unfolding operation_numbered
operation_number_lem n o e =
    first_from _ (λ o. operation_number o ≡ n) (λ row b p. first_from _ (λ o. operation_number o ≡ n) (λ x b p. go x b (eqb n (operation_number x)) refl p) row.operations b p) shapes o e
  where
    go : (x b : Operation) (t : Bool) → eqb n (operation_number x) ≡ t → (when t then some x else none) ≡ some b → operation_number b ≡ n
    go x b true q p = let z : x ≡ b = cc in rw (← z) (sym (eqb-true _ _ q))
    go x b false q p = cc

unfoldable below : ℕ → List ℕ
below zero = []
below (suc n) = n ∷ below n

-- functions that give the same over the numbers below n give the same for each of them
at_below : {A : Type 0} (f g : ℕ → A) (n m : ℕ) → map f (below n) ≡ map g (below n) → m < n → f m ≡ g m
unfolding below
at_below f g zero m h l = absurd (omega arith)
at_below f g (suc n) m h l = go (at_below f g n m) (eqb m n) refl
  where
    go : (map f (below n) ≡ map g (below n) → m < n → f m ≡ g m) → (b : Bool) → eqb m n ≡ b → f m ≡ g m
    go rest true e = let k : f n ≡ g n = cc in rw (eqb-true m n e) k
    go rest false e = let k : map f (below n) ≡ map g (below n) = cc in let d : m ≡ n → ⊥ = eqb-false m n e in rest k (omega arith)

-- a number below 66 that is no operation's has no row
none_below : (n : ℕ) → n < 66 → (when is_some (operation_numbered n) then unknown else row_of n) ≡ unknown
unfolding below operation_numbered shapes operations_opens row_of
none_below n = at_below (λ n. when is_some (operation_numbered n) then unknown else row_of n) (λ n. unknown) 66 n refl

operation_none : (n : ℕ) → operation_numbered n ≡ none → row_of n ≡ unknown
unfolding is_some
operation_none n e = go (ltb n 66) refl
  where
    go : (b : Bool) → ltb n 66 ≡ b → row_of n ≡ unknown
    go true h = rw e at (none_below n (ltb-true _ _ h))
    go false h = row_above n (ltb-false _ _ h)

-- Numbers read as kinds.

-- only an Op has an operation
unfoldable pub operation_right : ℕ → ℕ → Bool
operation_right kind op = when eqb kind 0 then true else eqb op 0

pub record KindIs (k op : ℕ) (kind : ActionKind) : Type 0 where
  pub number : action_kind_number kind ≡ k
  pub right : eqb op (operation_word (operation_of kind)) ≡ operation_right k op

op_is : (op : ℕ) (x : Option Operation) → operation_numbered op ≡ x → (kind : ActionKind) → and_then x (λ o. some (ActionKind.Op o)) ≡ some kind → KindIs 0 op kind
unfolding and_then action_kind_number operation_of operation_word operation_right
op_is op none p kind e = cc
op_is op (some o) p kind e =
    let z : ActionKind.Op o ≡ kind = cc in
    rw (← z) (record { number = refl; right = eq-eqb op (operation_number o) (sym (operation_number_lem op o p)) })

pub kind_is : (k op : ℕ) (kind : ActionKind) → action_kind_numbered k op ≡ some kind → KindIs k op kind
unfolding action_kind_numbered op_numbered or_else action_kind_number operation_of operation_word operation_right
kind_is zero op kind e = op_is op (operation_numbered op) refl kind e
kind_is (suc zero) op kind e = let z : ActionKind.AddressOf ≡ kind = cc in rw (← z) (record { number = refl; right = refl })
kind_is (suc (suc zero)) op kind e = let z : ActionKind.LoadRegister ≡ kind = cc in rw (← z) (record { number = refl; right = refl })
kind_is (suc (suc (suc zero))) op kind e = let z : ActionKind.StoreRegister ≡ kind = cc in rw (← z) (record { number = refl; right = refl })
kind_is (suc (suc (suc (suc zero)))) op kind e = let z : ActionKind.DelaySlot ≡ kind = cc in rw (← z) (record { number = refl; right = refl })
kind_is (suc (suc (suc (suc (suc zero))))) op kind e = let z : ActionKind.Build ≡ kind = cc in rw (← z) (record { number = refl; right = refl })
kind_is (suc (suc (suc (suc (suc (suc k)))))) op kind e = cc

-- a number that is no kind's, or 0 with a number that is no operation's
pub data NoKind : ℕ → ℕ → Type 0 where
  no_operation : {op : ℕ} → row_of op ≡ unknown → NoKind 0 op
  no_kind : {k op : ℕ} → 6 ≤ k → NoKind k op

op_none : (op : ℕ) (x : Option Operation) → operation_numbered op ≡ x → and_then x (λ o. some (ActionKind.Op o)) ≡ none → row_of op ≡ unknown
unfolding and_then
op_none op none p e = operation_none op p
op_none op (some o) p e = cc

pub kind_none : (k op : ℕ) → action_kind_numbered k op ≡ none → NoKind k op
unfolding action_kind_numbered op_numbered or_else
kind_none zero op e = no_operation (op_none op (operation_numbered op) refl e)
kind_none (suc zero) op e = cc
kind_none (suc (suc zero)) op e = cc
kind_none (suc (suc (suc zero))) op e = cc
kind_none (suc (suc (suc (suc zero)))) op e = cc
kind_none (suc (suc (suc (suc (suc zero))))) op e = cc
kind_none (suc (suc (suc (suc (suc (suc k)))))) op e = no_kind {k = suc (suc (suc (suc (suc (suc k)))))} (omega arith)

-- Counts and shapes.

pub one-count : (n m : ℕ) (b o : Bool) → any (same_count (n, b)) ((m, o) ∷ []) ≡ same_count (n, b) (m, o)
unfolding any
one-count n m b o = grind (arith, nat_tests)

no_outputs : (n : ℕ) (xs : List ℕ) (ys : List (ℕ × Bool)) → any (same_count (n, true)) (map no_output xs ++ ys) ≡ any (same_count (n, true)) ys
unfolding any same_count
no_outputs n [] ys = refl
no_outputs n (x ∷ xs) ys = go (eqb n x) (no_outputs n xs ys)
  where
    go : (b : Bool) {c d : Bool} → c ≡ d → (when b && false then true else c) ≡ d
    go true e = e
    go false e = e

few_outputs : (n : ℕ) → any (same_count (n, true)) (map with_output (0 ∷ 1 ∷ 2 ∷ [])) ≡ leb n 2
unfolding any same_count
few_outputs n = grind (arith, nat_tests)

to_eight : (n : ℕ) → any (same_count (n, false)) pcode_op_pairs ≡ leb n 8
unfolding any same_count
to_eight n = grind (arith, nat_tests)

pub pcode_op-counts : (n : ℕ) (b : Bool) → any (same_count (n, b)) pcode_op_pairs ≡ (when b then leb n 2 else leb n 8)
pcode_op-counts n true = no_outputs n (0 ∷ 1 ∷ 2 ∷ 3 ∷ 4 ∷ 5 ∷ 6 ∷ 7 ∷ 8 ∷ []) (map with_output (0 ∷ 1 ∷ 2 ∷ [])) ∙ few_outputs n
pcode_op-counts n false = to_eight n

-- a shape's counts and number
abbrev pub shaped : ℕ → Bool → ℕ → Option Shape → Bool
shaped n b number x = or_else false (and_then x λ (shape : Shape). some (any (same_count (n, b)) shape.counts && ltb number shape.below))
