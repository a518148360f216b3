-- An expression by the depth that is left.
use mathlib.Core.Path.{◌≡◌, refl}
use mathlib.Core.List.{List}
use Prim.Native.Nat.{ℕ, zero, suc, ◌-◌}
use native.Mathlib.Numerals.{sub-one}
use Rattle.std.specs.declared.num.NonZeroU64.{NonZeroU64}
use Rattle.file_syntax.specs.Cursors.{Cursor, refuse, code}
use Rattle.file_syntax.specs.Expressions.{kind_of, after_code, expr}
use Rattle.file_syntax.proofs.RefusedLaws.{refused, refuse_passes, after_code_passes, u8_passes, u16_passes, u16or_passes, skip_passes, counted_passes, expr_passes, exprs_passes}

pub deepest : (d : ℕ) (s : List ℕ) (m : ℕ) (c : Cursor) → d ≡ 0 → expr d s m c ≡ refuse 4 (code s 9 c)
unfolding expr
deepest d s m c z = rw z

pub deeper : (d : ℕ) (s : List ℕ) (m : ℕ) (c : Cursor) → (d ≡ 0 → ⊥) → expr d s m c ≡ after_code (kind_of (code s 9 c).val) s m (expr (d - 1) s m) (code s 9 c)
unfolding expr
deeper zero s m c z = absurd (z refl)
deeper (suc d) s m c z = rw sub-one

-- where the code is refused, nothing follows
pub code_refused : (d : ℕ) (s : List ℕ) (m p : ℕ) (r : NonZeroU64) (x : ℕ) (c : Cursor) → code s 9 c ≡ refused p r x → expr d s m c ≡ refused p r x
unfolding expr
code_refused zero s m p r x c e = rw e (refuse_passes 4 p r x)
code_refused (suc d) s m p r x c e = rw e (after_code_passes (kind_of x) s m (expr d s m) p r x (expr_passes d s m p r x))

pub ruleset expr_laws = (code_refused, deepest, deeper, u8_passes, u16_passes, u16or_passes, skip_passes, counted_passes, expr_passes, exprs_passes)
