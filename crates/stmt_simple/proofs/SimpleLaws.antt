-- The search for a subtable; and the export of what is read.
use Rattle.std.proofs.Common.{◌≡◌, ap, refl, sym, ◌∙◌, ℕ, suc, zero, ◌+◌, ◌*◌, ◌%◌, Bool, true, false, cond, eqb, List, Option, Some, unwrap_or, option_map, arith}
use Rattle.std.specs.List.{find, range_with_len}
use Rattle.std.proofs.lemmas.Iterator.Adapters.{option_map_id}
use Rattle.access.specs.Le.{le16}
use Rattle.list_values.specs.Sizes.{entry}
use Rattle.list_pushes.specs.declared.push.State.{State}
use Rattle.list_pushes.specs.declared.push.Env.{Env}
use Rattle.list_pushes.specs.Outcomes.{Read}
use Rattle.list_pushes.specs.Pushes.{read}
use Rattle.expr_scope.specs.declared.scope.Access.{Access}
use Rattle.expr_scope.specs.declared.scope.ExprValue.{ExprValue}
use Rattle.expr_reading.specs.Reading.{read_operand}
use Rattle.stmt_walk.specs.Outcomes.{Walk, Step}
use Rattle.stmt_walk.specs.Walks.{stepped, step_read}
use Rattle.stmt_simple.specs.Simple.{find_subtable, export_value, export_read, export_of}

-- the first of some subtables that has a table, as the search for it finds it
module _ (s t : List ℕ) (table m : ℕ) where
  step : (b : Bool) (i : ℕ) (rest : Option ℕ) (r : ℕ) → unwrap_or rest m ≡ r → unwrap_or (cond b (Some i) rest) m ≡ cond b i r
  step true i rest r e = refl
  step false i rest r e = e

  found : (n i : ℕ) → i + n ≡ m → unwrap_or (find (λ k. eqb (le16 s (entry t 8 (k % 65536 * 4) + 2)) table) (range_with_len i n)) m ≡ find_subtable n i s t table
  unfolding find_subtable
  found zero i e = omega arith
  found (suc n) i e =
      let o : i + 1 ≡ suc i = omega arith in
      let r : unwrap_or (find (λ k. eqb (le16 s (entry t 8 (k % 65536 * 4) + 2)) table) (range_with_len (i + 1) n)) m ≡ find_subtable n (suc i) s t table = rw o (found n (suc i) (omega arith)) in
      step (eqb (le16 s (entry t 8 (i % 65536 * 4) + 2)) table) i (find (λ k. eqb (le16 s (entry t 8 (k % 65536 * 4) + 2)) table) (range_with_len (i + 1) n)) (find_subtable n (suc i) s t table) r

  pub found_law : (r : Option ℕ) → option_map (λ k. k) r ≡ find (λ k. eqb (le16 s (entry t 8 (k % 65536 * 4) + 2)) table) (range_with_len 0 m) → unwrap_or r m ≡ find_subtable m 0 s t table
  found_law r e = ap (λ o. unwrap_or o m) (sym (option_map_id r) ∙ e) ∙ found m 0 (omega arith)

-- what is no reference is exported as it is read
module _ (s t a m : List ℕ) (e : Env) (x : ExprValue) (next : ℕ) (st : State) (w : Walk) (r : Read) (a1 m1 : List ℕ) (z : Step) where
  export-read : read r a1 m1 ≡ read_operand s t a m e x st → z ≡ export_value next w r → stepped z a1 m1 ≡ export_read s t a m e x next st w
  unfolding export_read step_read
  export-read f h = rw (← f, h)

pub export_other : (s t a m : List ℕ) (e : Env) (x : ExprValue) (next : ℕ) (st : State) (w : Walk) (r : Read) (a1 m1 : List ℕ) (z : Step) → ((y : Access) → x ≡ ExprValue.RamRef y → ⊥) → ((y : Access) → x ≡ ExprValue.RegisterRef y → ⊥) →
    read r a1 m1 ≡ read_operand s t a m e x st → z ≡ export_value next w r → stepped z a1 m1 ≡ export_of s t a m e x next st w
unfolding export_of
export_other s t a m e (ExprValue.RamRef y) next st w r a1 m1 z p q = absurd (p y refl)
export_other s t a m e (ExprValue.RegisterRef y) next st w r a1 m1 z p q = absurd (q y refl)
export_other s t a m e (ExprValue.Local v) next st w r a1 m1 z p q = export-read s t a m e (ExprValue.Local v) next st w r a1 m1 z
export_other s t a m e (ExprValue.Unbound v) next st w r a1 m1 z p q = export-read s t a m e (ExprValue.Unbound v) next st w r a1 m1 z
export_other s t a m e (ExprValue.Const n k) next st w r a1 m1 z p q = export-read s t a m e (ExprValue.Const n k) next st w r a1 m1 z
export_other s t a m e (ExprValue.Apply operation) next st w r a1 m1 z p q = export-read s t a m e (ExprValue.Apply operation) next st w r a1 m1 z
export_other s t a m e (ExprValue.AddressOf v k) next st w r a1 m1 z p q = export-read s t a m e (ExprValue.AddressOf v k) next st w r a1 m1 z
export_other s t a m e (ExprValue.BitRange b) next st w r a1 m1 z p q = export-read s t a m e (ExprValue.BitRange b) next st w r a1 m1 z
