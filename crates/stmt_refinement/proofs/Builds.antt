-- Builds: the name's table is found among the globals, and the first subtable of that table is built.
use Prim.Native.Nat.{ℕ, suc, ◌+◌, ◌*◌, ◌%◌, ◌≤◌, ◌<◌}
use mathlib.Core.Path.{◌≡◌, refl, sym, ◌∙◌}
use mathlib.Core.Bool.{Bool, true, false}
use mathlib.Core.List.{List, [], ◌∷◌}
use mathlib.Core.Option.{Option, none, some}
use native.Mathlib.Omega.{arith}
use lib.ListN.{length, get_elem?}
use lib.Dec.{eqb}
use borrow.Author.Tests.{lt-ltb, le-ltb}
use Rattle.access.specs.Le.{le16}
use Rattle.prelude.specs.Base as definition
use Rattle.prelude.specs.Base.{or_else, position, when◌then◌else◌}
use Rattle.definition.specs.Refusals.{Refusal, refusal_number, undefined, wrong_kind, absent_table}
use Rattle.definition.specs.Value.{ActionKind, SemanticAction, operation_of}
use Rattle.definition.specs.Ast.{Subtable}
use Rattle.definition.specs.Walk.{State, Env, Outcome, stopped, on, expect}
use Rattle.definition.specs.Walk as walks
use Rattle.definition.specs.Scope.{find, Symbol, globals, lookup, as_table}
use Rattle.definition.specs.Statements as d
use Rattle.definition.specs.ActionList.{or_none, action_kind_number, operation_word}
use Rattle.definition.proofs.Openers.{base_opens}
use Rattle.list_pushes.specs.declared.push.Env.{Env as WordEnv}
use Rattle.list_values.specs.Base.{Listed, listed, then_l}
use Rattle.list_values.specs.Sizes.{entry}
use Rattle.file_refinement.specs.Holds.{subtable_at}
use Rattle.definition_guarantee.proofs.Tests.{some_same}
use Rattle.definition_guarantee.proofs.Globals.{place-below}
use Rattle.expr_terms.specs.Answers.{after}
use Rattle.stmt_walk.specs.Outcomes.{Walk}
use Rattle.stmt_walk.specs.Outcomes.{Step}
use Rattle.stmt_walk.specs.Walks.{stepped, stop}
use Rattle.stmt_simple.specs.Simple.{find_subtable, build_subtable, build_table, build_symbol, build}
use Rattle.expr_refinement.proofs.Encodings.{stood_more}
use Rattle.expr_refinement.proofs.Answers.{acts, temps, word}
use Rattle.expr_refinement.proofs.Below.{Spare}
use Rattle.expr_refinement.proofs.Scopes.{eqb_swap, lookup_is}
use Rattle.expr_refinement.proofs.Pushing.{no_operation_lem}
use Rattle.stmt_refinement.proofs.Views.{step_stops, Goes, step_push}
use Rattle.stmt_refinement.proofs.Given.{below}
use Rattle.list_refinement.specs.Encoding.{first_of, second_of, output_of}
use Rattle.expr_refinement.specs.Encoding.{Stood, enc_symbol}
use Rattle.stmt_refinement.specs.Standing.{Beside, Given, walk_of}

position-below : {A : Type 0} (q : A → Bool) (i : ℕ) (xs : List A) (j : ℕ) → position q i xs ≡ some j → j < i + length xs
unfolding position base_opens
position-below q i [] j h = let z : ◌≡◌ {A = ℕ} 0 1 = cc in absurd (omega arith)
position-below {A} q i (x ∷ xs) j h = go (q x) (position-below q (suc i) xs j) h
  where
    go : (b : Bool) → (position q (suc i) xs ≡ some j → j < suc i + length xs) → (definition.when◌then◌else◌ b (some i) (position q (suc i) xs)) ≡ some j → j < i + suc (length xs)
    go true f h = let p : i ≡ j = cc in omega arith
    go false f h = let p = f h in omega arith

subtable_found : (s t : List ℕ) (table i : ℕ) (xs : List Subtable) → ((j : ℕ) (x : Subtable) → get_elem? xs j ≡ some x → le16 s (entry t 8 ((i + j) % 65536 * 4) + 2) ≡ x.table)
    → find_subtable (length xs) i s t table ≡ or_else (i + length xs) (position (λ (x : Subtable). eqb table x.table) i xs)
unfolding find_subtable position base_opens
subtable_found s t table i [] h = omega arith
subtable_found s t table i (x ∷ xs) h =
    let z : i + 0 ≡ i = omega arith in
    let first : le16 s (entry t 8 (i % 65536 * 4) + 2) ≡ x.table = rw z at (h 0 x refl) in
    rw (first, eqb_swap x.table table) (go (eqb table x.table) (subtable_found s t table (suc i) xs (λ j y q. let k : suc i + j ≡ i + suc j = omega arith in rw k (h (suc j) y q))))
  where
    go : (b : Bool) → find_subtable (length xs) (suc i) s t table ≡ or_else (suc i + length xs) (position (λ (x : Subtable). eqb table x.table) (suc i) xs)
        → (when b then i else find_subtable (length xs) (suc i) s t table) ≡ or_else (i + suc (length xs)) (definition.when◌then◌else◌ b (some i) (position (λ (x : Subtable). eqb table x.table) (suc i) xs))
    go true q = refl
    go false q = let k : suc i + length xs ≡ i + suc (length xs) = omega arith in rw k at q

module _ (s t : List ℕ) (e : Env) (front tail rest : List ℕ) (we : WordEnv) (given : Given s t e front tail rest we) (spare : ℕ) (room : Spare spare tail) (b : Beside) (st : State) (stood : Stood e.section tail rest spare st) (pos : ℕ) where
  abbrev A : List ℕ
  A = acts e.section front tail rest st

  abbrev M : List ℕ
  M = temps e.section front tail rest st

  abbrev w : Walk
  w = walk_of b (word e.section front tail rest st)

  -- where only the actions are lent
  abbrev Builds : Listed Step → Outcome (Unit {0}) → Type 0
  Builds x o = Goes e.section front tail rest spare st (after pos 3) b (or_none st.sizing.begun) (then_l x (λ r c. stepped r c M)) o

  stops : (n : ℕ) (r : Refusal) → n ≡ refusal_number r → Builds (listed (stop n w) A) (stopped r st.sizing.begun 0)
  unfolding then_l
  stops n r h = step_stops e.section front tail rest spare st _ _ w A M n r h

  abbrev building : ℕ → SemanticAction
  building i = record { kind = ActionKind.Build; number = i; inputs = []; output = none }

  build_found : (o : Option ℕ) → ((j : ℕ) → o ≡ some j → j < length e.section.subtables)
      → Builds (build_subtable (or_else (length e.section.subtables) o) (length e.section.subtables) A pos w) (on e (expect absent_table o e st) λ i. walks.push (building i))
  unfolding build_subtable expect on or_else
  build_found none h = rw (le-ltb (length e.section.subtables) (length e.section.subtables) (omega arith)) (stops 24 absent_table (unfold refusal_number in refl))
  build_found (some i) h =
      rw (lt-ltb i (length e.section.subtables) (h i refl))
      (step_push e.section front tail rest spare st _ M _ (after pos 3) w
      (unfold action_kind_number operation_word operation_of output_of first_of second_of in
      (below s t e front tail rest we given).pushes spare st room (stood_more (4 + spare) (omega arith) stood) (building i) (omega arith) (record { inputs = tt; output = tt }) (no_operation_lem _ refl)))

  placed : (j : ℕ) (x : Subtable) → get_elem? e.section.subtables j ≡ some x → le16 s (entry t 8 ((0 + j) % 65536 * 4) + 2) ≡ x.table
  unfolding entry subtable_at
  placed j x q =
      let l = place-below e.section.subtables j x q in
      let c : length e.section.subtables ≤ 32 = rw given.holds.subtables.count given.holds.limits.subtables in
      let a : (0 + j) % 65536 * 4 % 1048576 ≡ (2 + 2) * j = omega arith in
      rw (a, ← some_same (sym (given.holds.subtables.element j l) ∙ q))

  abbrev subtable_of : ℕ → Option ℕ
  subtable_of table = position (λ (x : Subtable). eqb table x.table) 0 e.section.subtables

  build-table : (table : ℕ) → Builds (build_table s t A table pos w) (on e (expect absent_table (subtable_of table) e st) λ i. walks.push (building i))
  unfolding build_table
  build-table table =
      let z : 0 + length e.section.subtables ≡ length e.section.subtables = omega arith in
      rw (← given.holds.subtables.count, subtable_found s t table 0 e.section.subtables placed, z)
      (build_found (subtable_of table) (λ j q. omega (arith, position-below (λ (x : Subtable). eqb table x.table) 0 e.section.subtables j q)))

  build_symbol_lem : (y : Option Symbol)
      → Builds (build_symbol (enc_symbol y) s t A pos w) (on e (as_table y e st) λ table. λ e st. on e (expect absent_table (position (λ (x : Subtable). eqb table x.table) 0 e.section.subtables) e st) λ i. walks.push (building i))
  unfolding build_symbol enc_symbol as_table on
  build_symbol_lem none = stops 22 undefined (unfold refusal_number in refl)
  build_symbol_lem (some (Symbol.Table i x)) = build-table i
  build_symbol_lem (some (Symbol.Space i x)) = stops 23 wrong_kind (unfold refusal_number in refl)
  build_symbol_lem (some (Symbol.Register i x)) = stops 23 wrong_kind (unfold refusal_number in refl)
  build_symbol_lem (some (Symbol.BitRange i x)) = stops 23 wrong_kind (unfold refusal_number in refl)
  build_symbol_lem (some (Symbol.UserOp i)) = stops 23 wrong_kind (unfold refusal_number in refl)
  build_symbol_lem (some (Symbol.Macro i x)) = stops 23 wrong_kind (unfold refusal_number in refl)
  build_symbol_lem (some (Symbol.Other i)) = stops 23 wrong_kind (unfold refusal_number in refl)

  pub build_is : le16 s (pos + 1) < 1024 → Builds (build s t A pos w) (d.build (le16 s (pos + 1)) e st)
  unfolding build d.build lookup on
  build_is h = rw (lookup_is s t e.section given.holds (le16 s (pos + 1)) h) (build_symbol_lem (find (le16 s (pos + 1)) (globals e.section)))
