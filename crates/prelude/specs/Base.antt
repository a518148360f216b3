-- What antt's libraries lack: a test that chooses, a few functions on options and lists.
use Rattle.std.specs.Prelude.{ℕ, suc, ◌+◌, Bool, true, false, cond, List, [], ◌∷◌, eqb}
use Rattle.std.proofs.Math.Option.{Option, none, some}

infix 1 when◌then◌else◌
abbrev pub when◌then◌else◌ : {A : Type 0} → Bool → A → A → A
when◌then◌else◌ b x y = cond b x y

infixr 20 ◌or◌
unfoldable pub ◌or◌ : {A : Type 0} → Option A → Option A → Option A
◌or◌ (some a) b = some a
◌or◌ none b = b

-- what an option holds, or d
unfoldable pub or_else : {A : Type 0} → A → Option A → A
or_else d (some a) = a
or_else d none = d

unfoldable pub and_then : {A B : Type 0} → Option A → (A → Option B) → Option B
and_then (some a) f = f a
and_then none f = none

unfoldable pub is_some : {A : Type 0} → Option A → Bool
is_some (some a) = true
is_some none = false

-- whether an option holds this number
unfoldable pub contains : ℕ → Option ℕ → Bool
contains n (some m) = eqb n m
contains n none = false

unfoldable pub any : {A : Type 0} → (A → Bool) → List A → Bool
any p [] = false
any p (x ∷ xs) = when p x then true else any p xs

unfoldable pub all : {A : Type 0} → (A → Bool) → List A → Bool
all p [] = true
all p (x ∷ xs) = when p x then all p xs else false

unfoldable pub filter : {A : Type 0} → (A → Bool) → List A → List A
filter p [] = []
filter p (x ∷ xs) = when p x then x ∷ filter p xs else filter p xs

unfoldable pub is_empty : {A : Type 0} → List A → Bool
is_empty [] = true
is_empty (x ∷ xs) = false

-- the first that f finds
unfoldable pub first : {A B : Type 0} → (A → Option B) → List A → Option B
first f [] = none
first f (x ∷ xs) = f x or first f xs

-- the index of the first that passes, counted from i
unfoldable pub position : {A : Type 0} → (A → Bool) → ℕ → List A → Option ℕ
position p i [] = none
position p i (x ∷ xs) = when p x then some i else position p (suc i) xs

unfoldable pub sum : List ℕ → ℕ
sum [] = 0
sum (x ∷ xs) = x + sum xs

unfoldable pub same_numbers : List ℕ → List ℕ → Bool
same_numbers [] [] = true
same_numbers [] (y ∷ ys) = false
same_numbers (x ∷ xs) [] = false
same_numbers (x ∷ xs) (y ∷ ys) = when eqb x y then same_numbers xs ys else false
