-- What a header that is not refused tells.
use mathlib.Core.Path.{◌≡◌}
use mathlib.Core.List.{List}
use Prim.Native.Nat.{ℕ, suc, ◌≤◌, ◌<◌}
use native.Mathlib.Omega.{arith}
use Rattle.access.specs.Le.{le16}
use Rattle.file_syntax.specs.Cursors.{Cursor, cursor, u16}
use Rattle.file_section.specs.Headers.{global_counts, counts, roles, header}
use Rattle.file_syntax.proofs.CursorLaws.{u16-read, u16or-read}

-- a header that is not refused has at most 1,024 names
good : (s : List ℕ) (lim k : ℕ) (c : Cursor) → (u16 s lim (suc k) c).bad ≡ 0 → c.bad ≡ 0
good s lim k c e = (u16-read s lim (suc k) c (omega arith) e).good

roles_good : (s : List ℕ) (c : Cursor) → (roles s c).bad ≡ 0 → c.bad ≡ 0
unfolding roles
roles_good s c e = (u16or-read s (le16 s 4) 5 c (omega arith) (good s (le16 s 2) 4 _ (good s (le16 s 2) 4 _ (good s (le16 s 2) 4 _ (good s (le16 s 2) 4 _ e))))).good

counts_good : (s : List ℕ) (c : Cursor) → (counts s c).bad ≡ 0 → c.bad ≡ 0
unfolding counts
counts_good s c e = good s 65 3 _ (good s 33 3 _ (good s 1025 3 _ e))

names-few : (s : List ℕ) → (global_counts s (cursor 0 0 0)).bad ≡ 0 → le16 s 2 < 1025
unfolding global_counts
names-few s e =
    let g = good s 9 3 _ (good s 1025 3 _ (good s 1025 3 _ (good s 257 3 _ (good s 257 3 _ (good s 129 3 _ (good s 1025 3 _ e)))))) in
    let r = u16-read s 1025 4 (u16 s 1 4 (cursor 0 0 0)) (omega arith) g in
    let z : (u16 s 1 4 (cursor 0 0 0)).at ≡ 2 = (u16-read s 1 4 (cursor 0 0 0) (omega arith) r.good).next in
    rw z at r.below

pub header-few : (s : List ℕ) (h : Cursor) (m : ℕ) → h ≡ header s → h.bad ≡ 0 → (m ≡ le16 s 2) × (m < 65536) → m ≤ 1024
unfolding header
header-few s h m e z p =
    let b : (header s).bad ≡ 0 = rw e at z in
    omega (arith, names-few s (counts_good s _ (roles_good s _ b)))

pub ruleset few = (header-few)
