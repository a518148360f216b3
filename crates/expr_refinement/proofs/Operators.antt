-- Operators and built-in functions: the numbers of their operations, and that those apply to their inputs.
use Prim.Native.Nat.{ℕ, zero, suc, ◌+◌}
use mathlib.Core.Path.{◌≡◌, refl, subst}
use mathlib.Core.Bool.{Bool, true, false, ◌&&◌, ◌||◌, not}
use mathlib.Core.List.{List, [], ◌∷◌}
use mathlib.Core.Option.{some}
use native.Mathlib.Omega.{arith}
use lib.ListN.{length, get_elem?}
use lib.Dec.{eqb, ltb}
use borrow.Author.Tests.{not-true, eqb-true}
use Rattle.prelude.specs.Base.{is_some, all, same_numbers}
use Rattle.definition.specs.Operations.{Operation, operation_number, is_op}
use Rattle.definition.specs.Value.{Value}
use Rattle.definition.specs.Ast.{PcodeOp}
use Rattle.definition.specs.SectionFile.{pcode_ops}
use Rattle.definition.specs.Spellings.{Inbuilt, inbuilt, inbuilts, translate_inbuilt_func}
use Rattle.definition.proofs.Openers.{operations_opens}
use Rattle.definition_guarantee.proofs.Tests.{and_true, all_at, first_from, chosen}
use Rattle.list_refinement.proofs.FromWalk.{suits, suited}
use Rattle.expr_resolver.specs.Expressions.{operation_of}
use Rattle.list_refinement.specs.RuleKinds.{kind_of}
use Rattle.expr_refinement.specs.Encoding.{op_action, Applies}

-- an operation with so many inputs and an output has what its rule needs, and places no label
takes : Operation → ℕ → Bool
takes op n = suits (kind_of op) n true && not (is_op Operation.PcodeLabel op)

takes_applies : (op : Operation) (vs : List Value) → takes op (length vs) ≡ true → Applies op vs
unfolding takes is_some
takes_applies op vs h n to = let k = and_true _ _ h in (suited (op_action op n vs (some to)) (kind_of op) k.0, not-true _ k.1)

-- an operation applies to any two inputs
abbrev pub Applies2 : Operation → Type 0
Applies2 op = (u v : Value) → Applies op (u ∷ v ∷ [])

-- the order in which an operator's operands are resolved, and its operation, by its code
abbrev pub OrderIs : PcodeOp → ℕ → Type 0
OrderIs (PcodeOp.plain op) code = (ltb code 33 ≡ true) × (operation_number op ≡ code) × Applies2 op
OrderIs (PcodeOp.greater op) code = (ltb code 33 ≡ false) × (operation_number op ≡ operation_of code) × Applies2 op

-- the same as a test
coded : ℕ → PcodeOp → Bool
coded code (PcodeOp.plain op) = (ltb code 33 && eqb (operation_number op) code) && takes op 2
coded code (PcodeOp.greater op) = (not (ltb code 33) && eqb (operation_number op) (operation_of code)) && takes op 2

coded_is : (o : PcodeOp) (code : ℕ) → coded code o ≡ true → OrderIs o code
unfolding coded
coded_is (PcodeOp.plain op) code h =
    let k = and_true _ _ h in let j = and_true _ _ k.0 in
    (j.0, eqb-true _ _ j.1, λ u v. takes_applies op (u ∷ v ∷ []) k.1)
coded_is (PcodeOp.greater op) code h =
    let k = and_true _ _ h in let j = and_true _ _ k.0 in
    (not-true _ j.0, eqb-true _ _ j.1, λ u v. takes_applies op (u ∷ v ∷ []) k.1)

-- all operators, the first with the code i
all_coded : ℕ → List PcodeOp → Bool
all_coded i [] = true
all_coded i (o ∷ os) = coded i o && all_coded (suc i) os

coded_at : (os : List PcodeOp) (i code : ℕ) (o : PcodeOp) → all_coded i os ≡ true → get_elem? os code ≡ some o → coded (i + code) o ≡ true
unfolding all_coded
coded_at [] i code o h q = cc
coded_at (x ∷ os) i zero o h q = let p : x ≡ o = cc in let r : i + 0 ≡ i = omega arith in rw (r, ← p) (and_true (coded i x) (all_coded (suc i) os) h).0
coded_at (x ∷ os) i (suc code) o h q = let r : i + suc code ≡ suc i + code = omega arith in rw r (coded_at os (suc i) code o (and_true (coded i x) (all_coded (suc i) os) h).1 q)

all_coded_lem : all_coded 0 pcode_ops ≡ true
unfolding all_coded coded takes suits pcode_ops operations_opens operation_of kind_of
all_coded_lem = refl

pub order_is : (code : ℕ) (o : PcodeOp) → get_elem? pcode_ops code ≡ some o → OrderIs o code
order_is code o h = let r : 0 + code ≡ code = omega arith in coded_is o code (rw r at (coded_at pcode_ops 0 code o all_coded_lem h))

-- a built-in function has one argument or two
pub data Taking (f : Inbuilt) : Type 0 where
  one : f.arguments ≡ 1 → ((v : Value) → Applies f.op (v ∷ [])) → Taking f
  two : f.arguments ≡ 2 → Applies2 f.op → Taking f

-- the same as a test
taking : Inbuilt → Bool
taking f = (eqb f.arguments 1 || eqb f.arguments 2) && takes f.op f.arguments

taking_is : (f : Inbuilt) → taking f ≡ true → Taking f
unfolding taking
taking_is f h = let k = and_true _ _ h in go (eqb f.arguments 1) refl k.0 k.1
  where
    go : (b : Bool) → eqb f.arguments 1 ≡ b → b || eqb f.arguments 2 ≡ true → takes f.op f.arguments ≡ true → Taking f
    go true e p q = let n = eqb-true _ _ e in one n (λ v. takes_applies f.op (v ∷ []) (rw n at q))
    go false e p q = let n = eqb-true f.arguments 2 p in two n (λ u v. takes_applies f.op (u ∷ v ∷ []) (rw n at q))

all_taking : all taking inbuilts ≡ true
unfolding taking takes suits inbuilts inbuilt kind_of operations_opens
all_taking = refl

pub inbuilt_takes : (name : List ℕ) (f : Inbuilt) → translate_inbuilt_func name ≡ some f → Taking f
unfolding translate_inbuilt_func
inbuilt_takes name f h =
    let q = first_from _ inbuilts f h in
    let d : q.1 ≡ f = chosen (same_numbers name q.1.spelling) q.1 f q.3 in
    subst Taking d (taking_is q.1 (all_at taking inbuilts q.0 q.1 all_taking q.2))
