-- An answer with the one list that a function was lent.
use Rattle.std.specs.Prelude.{ℕ, List}

pub data Listed (R : Type 0) : Type 0 where
  listed : R → List ℕ → Listed R

unfoldable pub then_l : {R A : Type 0} → Listed R → (R → List ℕ → A) → A
then_l (listed r l) f = f r l
