-- Three of document 01's sentences as laws, each for all that it speaks of.
use Prim.Native.Nat.{ℕ}
use mathlib.Core.Path.{◌≡◌, refl}
use mathlib.Core.List.{[], ◌∷◌, map}
use mathlib.Core.Option.{some}
use lib.ListN.{drop, replicate}
use borrow.Author.Tests.{eq-eqb}
use Rattle.definition.specs.Operations.{Operation, operators}
use Rattle.definition.specs.Value.{Value}
use Rattle.definition.specs.SectionFile.{pcode_ops}
use Rattle.definition.specs.Sizes.{in0, in1, out, one, equal, exactly, rule_of}
use Rattle.definition.specs.Walk.{ExprValue, Walk}
use Rattle.definition.specs.Scope.{find, bind_params}
use Rattle.definition.specs.Expressions.{binary, resolve_op}
use Rattle.definition.proofs.Openers.{base_opens, sizes_opens}

-- "The six greater operators swap operands before either is resolved."
pub greater_swapped : (a b : Walk Value) →
    map (λ o. resolve_op o a b) (drop 33 pcode_ops)
    ≡ map (λ op. binary op b a) (Operation.IntLess ∷ Operation.IntLessEqual
    ∷ Operation.IntSignedLess ∷ Operation.IntSignedLessEqual ∷ Operation.FloatLess ∷ Operation.FloatLessEqual ∷ [])
unfolding pcode_ops operators resolve_op
greater_swapped a b = refl

-- "Inputs equal, output 1: carries and comparisons."
pub comparisons_ruled :
    map rule_of (Operation.IntCarry ∷ Operation.IntSignedCarry ∷ Operation.IntSignedBorrow
    ∷ Operation.IntSignedLess ∷ Operation.IntSignedLessEqual ∷ Operation.IntLess ∷ Operation.IntLessEqual ∷ Operation.IntEqual ∷ Operation.IntNotEqual
    ∷ Operation.FloatLess ∷ Operation.FloatLessEqual ∷ Operation.FloatEqual ∷ Operation.FloatNotEqual ∷ [])
    ≡ replicate 13 (equal (in0 ∷ in1 ∷ []) ∷ exactly out one ∷ [])
unfolding sizes_opens
comparisons_ruled = refl

-- "The later of two equal parameters counts."
pub later_parameter : (n : ℕ) (x y : ExprValue) → find n (bind_params (n ∷ n ∷ []) (x ∷ y ∷ []) []) ≡ some y
unfolding find bind_params base_opens
later_parameter n x y = rw (eq-eqb n n refl) refl
