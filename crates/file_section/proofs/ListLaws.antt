-- One law for each way out of the functions over the lists and of the whole stream.
use mathlib.Core.Path.{◌≡◌, refl}
use mathlib.Core.List.{List}
use Prim.Native.Nat.{ℕ, ◌+◌, ◌-◌, ◌*◌, ◌%◌, ◌≤◌, ◌<◌}
use native.Mathlib.Omega.{arith}
use lib.ListN.{set}
use Rattle.access.specs.Le.{le16}
use Rattle.file_syntax.specs.Cursors.{Cursor}
use Rattle.access.specs.Loops.{run}
use Rattle.file_syntax.specs.Statements.{body}
use Rattle.file_section.specs.Names.{reading}
use Rattle.file_section.specs.Lists.{macro_head, noted, macro, entry, list}
use Rattle.access.proofs.LoopLaws.{run_start, run_again, run_end}

pub macro_opened : (s : List ℕ) (m i : ℕ) (c : Cursor) (t : List ℕ) → macro s m i (reading c t) ≡ reading (body s m (macro_head s m c).val (macro_head s m c)) (noted i c.at (macro_head s m c).val t)
unfolding macro
macro_opened s m i c t = refl

pub list_law : (s : List ℕ) (k n m i l : ℕ) (c₀ c : Cursor) (t₀ t1 t : List ℕ) → l ≡ c₀.at % 65536 → t1 ≡ set t₀ (3328 + k) l → (m ≡ le16 s (4 + 2 * k)) × (m < 65536) → n ≡ m % 65536 → n ≤ i → run (n - i) i (entry k s) (reading c t) ≡ run n 0 (entry k s) (reading c₀ t1) → reading c t ≡ list s k (reading c₀ t₀)
unfolding list
list_law s k n m i l c₀ c t₀ t1 t p q hm z h e =
    let z' : n ≡ m = omega arith in
    rw (← p, ← q, ← hm.0, ← z') (run_end n i (entry k s) _ _ h e)

pub ruleset list_laws = (list_law, run_start, run_again)
