-- A number that was read and not refused.
use mathlib.Core.Path.{◌≡◌, refl}
use mathlib.Core.Bool.{Bool, true, false}
use mathlib.Core.List.{List}
use Prim.Native.Nat.{ℕ, ◌+◌, ◌≤◌, ◌<◌}
use native.Mathlib.Omega.{arith}
use lib.ListN.{length}
use lib.Dec.{eqb, leb, ltb}
use borrow.Author.Tests.{eqb-true, eqb-false, ltb-true, leb-true}
use Rattle.prelude.specs.Base.{when◌then◌else◌}
use Rattle.access.specs.Le.{le16}
use Rattle.file_syntax.specs.Cursors.{Cursor, cursor, number, u16, u16or}

pub record Read (v n len lim : ℕ) (c r : Cursor) : Type 0 where
  pub good : c.bad ≡ 0
  pub fits : c.at + n ≤ len
  pub below : v < lim
  pub next : r.at ≡ c.at + n

number_read : (v n len lim k : ℕ) (c : Cursor) → 0 < k → (number v n len lim k c).bad ≡ 0 → Read v n len lim c (number v n len lim k c)
unfolding number
number_read v n len lim k c l e = go (eqb c.bad 0) (leb (c.at + n) len) (ltb v lim) refl refl refl e
  where
    go : (a b d : Bool) → eqb c.bad 0 ≡ a → leb (c.at + n) len ≡ b → ltb v lim ≡ d →
        (when a then (when b then (when d then cursor (c.at + n) 0 v else cursor c.at k 0) else cursor c.at 3 0) else c).bad ≡ 0 →
        Read v n len lim c (when a then (when b then (when d then cursor (c.at + n) 0 v else cursor c.at k 0) else cursor c.at 3 0) else c)
    go true true true p f q z = record { good = eqb-true _ _ p; fits = leb-true _ _ f; below = ltb-true _ _ q; next = refl }
    go true true false p f q z = absurd (omega arith)
    go true false d p f q z = absurd (omega arith)
    go false b d p f q z = absurd (eqb-false _ _ p z)

pub u16-read : (s : List ℕ) (lim k : ℕ) (c : Cursor) → 0 < k → (u16 s lim k c).bad ≡ 0 → Read (le16 s c.at) 2 (length s) lim c (u16 s lim k c)
unfolding u16
u16-read s lim k c l e = number_read (le16 s c.at) 2 (length s) lim k c l e

pub u16or-read : (s : List ℕ) (lim k : ℕ) (c : Cursor) → 0 < k → (u16or s lim k c).bad ≡ 0 → Read (le16 s c.at) 2 (length s) (when eqb (le16 s c.at) 65535 then 65536 else lim) c (u16or s lim k c)
unfolding u16or
u16or-read s lim k c l e = number_read (le16 s c.at) 2 (length s) (when eqb (le16 s c.at) 65535 then 65536 else lim) k c l e
