-- One law for each way out of the functions over names.
use mathlib.Core.Path.{◌≡◌}
use mathlib.Core.Bool.{Bool, true, false}
use mathlib.Core.List.{List}
use Prim.Native.Nat.{ℕ, suc, ◌+◌, ◌-◌, ◌%◌, ◌≤◌, ◌<◌}
use native.Mathlib.Nat.{add-zero}
use native.Mathlib.Omega.{arith}
use lib.ListN.{get_or, set}
use borrow.Author.Tests.{eq-eqb}
use Rattle.prelude.specs.Base.{when◌then◌else◌}
use Rattle.access.specs.Le.{le16}
use Rattle.file_syntax.specs.Cursors.{Cursor}
use Rattle.file_section.specs.Names.{reading, rest_alike, alike, known, spelling, name_at}

pub alike-rest : (s : List ℕ) (a b x y l : ℕ) (r : Bool) → (x ≡ le16 s a) × (x < 65536) → (y ≡ le16 s b) × (y < 65536) → x ≡ y → (l ≡ get_or s (a + 0) 0) × (l < 256) → r ≡ rest_alike s a b l → r ≡ alike s a b
unfolding alike
alike-rest s a b x y l r p q d h e =
    let z : l ≡ get_or s a 0 = rw add-zero at h.0 in
    rw (← p.0, ← q.0, eq-eqb x y d, ← z) e

known_open : (s t : List ℕ) (p i j : ℕ) (w : Bool) → i ≡ suc j → known s t p i ≡ w → (when alike s p (get_or t j 0) then true else known s t p j) ≡ w
unfolding known
known_open s t p i j w n z = rw n at z

pub known_hit : (s t : List ℕ) (p i q x : ℕ) (h w : Bool) → 0 < i → q ≡ get_or t (i - 1) 0 → x ≡ q → h ≡ alike s p x → h ≡ true → known s t p i ≡ w → true ≡ w
known_hit s t p i q x h w l e f g k z =
    let a : alike s p (get_or t (i - 1) 0) ≡ true = rw (← e, ← f, ← g) k in
    rw a at (known_open s t p i (i - 1) w (omega arith) z)

pub known_miss : (s t : List ℕ) (p i q x : ℕ) (h w : Bool) → 0 < i → q ≡ get_or t (i - 1) 0 → x ≡ q → h ≡ alike s p x → h ≡ false → known s t p i ≡ w → known s t p (i - 1) ≡ w
known_miss s t p i q x h w l e f g k z =
    let a : alike s p (get_or t (i - 1) 0) ≡ false = rw (← e, ← f, ← g) k in
    rw a at (known_open s t p i (i - 1) w (omega arith) z)

pub known-end : (s t : List ℕ) (p i : ℕ) (w : Bool) → i ≤ 0 → known s t p i ≡ w → false ≡ w
unfolding known
known-end s t p i w h e = let z : i ≡ 0 = omega arith in rw z at e

pub name_turn : (s t t' : List ℕ) (i l : ℕ) (c e : Cursor) → e ≡ spelling s t i c → l ≡ c.at % 65536 → t' ≡ set t i l → reading e t' ≡ name_at s i (reading c t)
unfolding name_at
name_turn s t t' i l c e p q h = rw (p, h, q)
