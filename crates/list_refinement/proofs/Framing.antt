-- Words in the middle of a list: reading and writing there is reading and writing the part.
use Prim.Native.Nat.{ℕ, suc, ◌+◌, ◌*◌, ◌<◌, ◌%◌}
use mathlib.Core.Path.{◌≡◌, ◌∙◌, ap}
use mathlib.Core.List.{List, [], ◌∷◌, ◌++◌}
use native.Mathlib.Omega.{arith}
use native.Mathlib.Nat.{zero-add}
use lib.ListN.{length, get_or, set, get_or-append}
use lib.Seq.{get_or-append-add, set-append_left}
use Rattle.list_values.specs.Values.{value_of, value_at, put_size}

pub set_append_add : (xs ys : List ℕ) (n x : ℕ) → set (xs ++ ys) (length xs + n) x ≡ xs ++ set ys n x
set_append_add [] ys n x = rw (zero-add n)
set_append_add (y ∷ xs) ys n x = let e : suc (length xs) + n
    ≡ suc (length xs + n) = omega arith in rw e (ap (λ (l : List ℕ). y ∷ l) (set_append_add xs ys n x))

module _ (pre ws post : List ℕ) (at : ℕ) (begins : length pre ≡ at) where
  pub get_in : (i : ℕ) → i < length ws → get_or (pre ++ (ws ++ post)) (at + i) 0 ≡ get_or ws i 0
  get_in i h = rw (← begins) (get_or-append-add pre (ws ++ post) i 0 ∙ get_or-append ws post 0 i h)

  pub set_in : (i x : ℕ) → i < length ws → set (pre ++ (ws ++ post)) (at + i) x ≡ pre ++ (set ws i x ++ post)
  set_in i x h = rw (← begins) (set_append_add pre (ws ++ post) i x ∙ ap (λ (l : List ℕ). pre ++ l) (set-append_left ws post i x h))

  pub value_in : (i : ℕ) → i + 1 < length ws → value_at (pre ++ (ws ++ post)) at i ≡ value_of (get_or ws i 0) (get_or ws (i + 1) 0)
  unfolding value_at
  value_in i h = rw (get_in i (omega arith), get_in (i + 1) h)

  pub size_in : (i n : ℕ) → i + 1 < length ws → put_size (pre ++ (ws ++ post)) at i n
      ≡ pre ++ (set ws (i + 1) (get_or ws (i + 1) 0 % 16777216 + n % 65536 * 16777216) ++ post)
  unfolding put_size
  size_in i n h = rw (get_in (i + 1) h, set_in (i + 1) _ h)
