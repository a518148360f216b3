-- The turns of a loop: the first, one more, the last.
use mathlib.Core.Path.{◌≡◌}
use Prim.Native.Nat.{ℕ, suc, ◌+◌, ◌-◌, ◌≤◌, ◌<◌}
use native.Mathlib.Omega.{arith}
use Rattle.access.specs.Loops.{run, run_down}

-- what is left of n turns after i is one turn, and what is left after that
pub one_less : (n i : ℕ) → i < n → n - i ≡ suc (n - (i + 1))
one_less n i h = omega arith

pub run_start : {A : Type 0} (n : ℕ) (f : ℕ → A → A) (x : A) → run (n - 0) 0 f x ≡ run n 0 f x
run_start n f x = let z : n - 0 ≡ n = omega arith in rw z

pub run_again : {A : Type 0} (n i : ℕ) (f : ℕ → A → A) (x y w : A) → i < n → run (n - i) i f x ≡ w → y ≡ f i x → run (n - (i + 1)) (i + 1) f y ≡ w
unfolding run
run_again n i f x y w h e p =
    let z : n - i ≡ suc (n - (i + 1)) = omega arith in
    let o : i + 1 ≡ suc i = omega arith in
    rw (p, o) (rw (z, o) at e)

pub run_end : {A : Type 0} (n i : ℕ) (f : ℕ → A → A) (x w : A) → n ≤ i → run (n - i) i f x ≡ w → x ≡ w
unfolding run
run_end n i f x w h e = let z : n - i ≡ 0 = omega arith in rw z at e

pub down_again : {A : Type 0} (i : ℕ) (f : ℕ → A → A) (x y w : A) → 0 < i → run_down i f x ≡ w → y ≡ f (i - 1) x → run_down (i - 1) f y ≡ w
unfolding run_down
down_again i f x y w h e p =
    let z : i ≡ suc (i - 1) = omega arith in
    let g : run_down (suc (i - 1)) f x ≡ w = rw (← z) e in
    rw p g

pub down_end : {A : Type 0} (i : ℕ) (f : ℕ → A → A) (x w : A) → i ≤ 0 → run_down i f x ≡ w → x ≡ w
unfolding run_down
down_end i f x w h e = let z : i ≡ 0 = omega arith in rw z at e
