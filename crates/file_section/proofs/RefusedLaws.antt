-- A refused cursor passes each word of the section unchanged.
use mathlib.Core.Path.{◌≡◌, refl}
use mathlib.Core.Bool.{Bool, true, false}
use mathlib.Core.List.{List}
use Prim.Native.Nat.{ℕ, ◌-◌}
use lib.ListN.{length}
use Rattle.prelude.specs.Base.{when◌then◌else◌}
use Rattle.std.specs.declared.num.NonZeroU64.{NonZeroU64}
use Rattle.access.specs.Le.{le16}
use Rattle.file_syntax.specs.Cursors.{refuse}
use Rattle.file_syntax.proofs.RefusedLaws.{refused, not_zero, refuse_passes, u8_passes, u16_passes, u16or_passes, skip_passes, counted_passes, counted_refused, body_passes}
use Rattle.file_section.specs.Names.{reading, spelling}
use Rattle.file_section.specs.Headers.{counts, roles}
use Rattle.file_section.specs.Lists.{mark, Which, which_of, after_name, after, params, macro_head, named}
use Rattle.file_section.specs.Stream.{zeros, tail}

pub counts_passes : (s : List ℕ) (p : ℕ) (r : NonZeroU64) (x : ℕ) → counts s (refused p r x) ≡ refused p r x
unfolding counts
counts_passes s p r x = rw (u16_passes s 65 4 p r x, u16_passes s 33 4 p r x) (u16_passes s 1025 4 p r x)

pub roles_passes : (s : List ℕ) (p : ℕ) (r : NonZeroU64) (x : ℕ) → roles s (refused p r x) ≡ refused p r x
unfolding roles
roles_passes s p r x = simp (u16or_passes s (le16 s 4) 5 p r x, u16_passes s (le16 s 2) 5 p r x)

pub spelling_passes : (s t : List ℕ) (i p : ℕ) (r : NonZeroU64) (x : ℕ) → spelling s t i (refused p r x) ≡ refused p r x
unfolding spelling
spelling_passes s t i p r x = rw (u8_passes s 25 4 p r x, not_zero r)

pub mark_passes : (at v p : ℕ) (r : NonZeroU64) (x : ℕ) (t : List ℕ) → mark at v (reading (refused p r x) t) ≡ reading (refused p r x) t
unfolding mark
mark_passes at v p r x t = rw (not_zero r)

pub named_passes : (k : ℕ) (s : List ℕ) (i p : ℕ) (r : NonZeroU64) (x : ℕ) (t : List ℕ) → named k s i (reading (refused p r x) t) ≡ reading (refused p r x) t
unfolding named
named_passes k s i p r x t = rw (u16_passes s (le16 s 2) 5 p r x) (mark_passes _ _ p r x t)

after_name_passes : (w : Which) (s : List ℕ) (p : ℕ) (r : NonZeroU64) (x : ℕ) → after_name w s (refused p r x) ≡ refused p r x
unfolding after_name
after_name_passes Which.spaces s p r x = rw (u8_passes s 3 3 p r x) (u16_passes s 1025 4 p r x)
after_name_passes Which.registers s p r x = u16_passes s 1025 4 p r x
after_name_passes Which.bit_ranges s p r x = rw (u16_passes s (le16 s 6) 5 p r x, u16_passes s 8193 4 p r x) (u16_passes s 8193 4 p r x)
after_name_passes Which.tables s p r x = u16or_passes s 1025 4 p r x
after_name_passes Which.user_ops s p r x = refl
after_name_passes Which.macros s p r x = refl
after_name_passes Which.others s p r x = refl
after_name_passes Which.fields s p r x = u16or_passes s 1025 4 p r x
after_name_passes Which.subtables s p r x = u16_passes s (le16 s 10) 5 p r x

pub after_passes : (k : ℕ) (s : List ℕ) (p : ℕ) (r : NonZeroU64) (x : ℕ) → after k s (refused p r x) ≡ refused p r x
unfolding after
after_passes k s p r x = after_name_passes (which_of k) s p r x

pub params_passes : (s : List ℕ) (m p : ℕ) (r : NonZeroU64) (x : ℕ) → params s m (refused p r x) ≡ refused p r x
unfolding params
params_passes s m p r x = counted_refused _ p r x (u16_passes s m 5 p r x)

pub macro_head_passes : (s : List ℕ) (m p : ℕ) (r : NonZeroU64) (x : ℕ) → macro_head s m (refused p r x) ≡ refused p r x
unfolding macro_head
macro_head_passes s m p r x = rw (u8_passes s 9 4 p r x, params_passes s m p r x) (u16_passes s 1025 4 p r x)

pub tail_passes : (s : List ℕ) (p : ℕ) (r : NonZeroU64) (x : ℕ) → tail s (refused p r x) ≡ refused p r x
unfolding tail
tail_passes s p r x = go (zeros (length s - p) p s)
  where
    go : (b : Bool) → (when b then refused p r x else refuse 3 (refused p r x)) ≡ refused p r x
    go true = refl
    go false = refuse_passes 3 p r x

pub ruleset passing = (u8_passes, u16_passes, u16or_passes, skip_passes, refuse_passes, counted_passes, body_passes, counts_passes, roles_passes, spelling_passes, mark_passes, named_passes, after_passes, params_passes, macro_head_passes, tail_passes)
