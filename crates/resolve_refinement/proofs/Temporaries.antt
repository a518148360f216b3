-- The temporaries as the answer has them: zeros behind them.
use Prim.Native.Nat.{ℕ, zero, suc, ◌+◌, ◌-◌, ◌≤◌}
use mathlib.Core.Path.{◌≡◌, refl, sym, ap}
use mathlib.Core.List.{List, [], ◌∷◌, ◌++◌, map, append-nil}
use native.Mathlib.Omega.{arith}
use lib.ListN.{length, drop, replicate, length-append, length-drop, length-map}
use lib.Seq.{take_at}
use Rattle.definition.specs.Value.{Temporary}
use Rattle.definition.specs.ActionList.{filled, temporary_word}
use Rattle.list_end.specs.End.{zero_from}
use Rattle.list_refinement.specs.Encoding.{temporaries_in}
use Rattle.list_refinement.proofs.Fixing.{filled_append}

filled-zeros : (n : ℕ) → filled n [] ≡ replicate n 0
unfolding filled
filled-zeros zero = refl
filled-zeros (suc n) = ap (λ (l : List ℕ). 0 ∷ l) (filled-zeros n)

zero_behind : (ws rest : List ℕ) (from n : ℕ) → length ws ≡ from → length ws + length rest ≡ n → zero_from (ws ++ rest) from ≡ filled n ws
unfolding zero_from
zero_behind ws rest from n e h =
    let k : length (ws ++ rest) - from ≡ length rest = rw (length-append ws rest) (omega arith) in
    rw (take_at ws rest from e, k, ← filled-zeros (length rest), ← filled_append ws [] n (length rest) (sym h), append-nil ws)

pub exit_temporaries : (rest : List ℕ) (ts : List Temporary) (n : ℕ) → n ≡ length ts → length ts ≤ length rest → zero_from (temporaries_in rest ts) n ≡ filled (length rest) (map temporary_word ts)
exit_temporaries rest ts n e h =
    let k : length (map temporary_word ts) ≡ length ts = length-map ts temporary_word in
    let l : length (map temporary_word ts) + length (drop (length ts) rest) ≡ length rest = rw (k, length-drop (length ts) rest) (omega arith) in
    rw e (zero_behind (map temporary_word ts) (drop (length ts) rest) (length ts) (length rest) k l)
