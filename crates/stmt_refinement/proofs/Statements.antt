-- Any statement follows the definition, where entering a macro does: a call by what it calls, every other kind by its code.
use Prim.Native.Nat.{ℕ, ◌+◌, ◌^◌, ◌≤◌, ◌<◌}
use mathlib.Core.Path.{◌≡◌, refl}
use mathlib.Core.Bool.{Bool, true, false}
use mathlib.Core.List.{List, [], ◌∷◌}
use native.Mathlib.Omega.{arith}
use lib.ListN.{length, get_or, drop}
use lib.Dec.{eqb}
use borrow.Author.Tests.{eqb-true}
use Rattle.access.specs.Le.{le16}
use Rattle.prelude.specs.Base as definition
use Rattle.prelude.specs.Base.{sum, when◌then◌else◌}
use Rattle.definition.specs.Value.{SemanticAction}
use Rattle.definition.specs.Ast.{Statement}
use Rattle.definition.specs.SectionFile.{parsed, statement}
use Rattle.definition.specs.Walk.{State, Env}
use Rattle.definition.specs.Statements as d
use Rattle.definition.specs.ActionList.{places_label, labels_placed}
use Rattle.definition.proofs.Openers.{base_opens}
use Rattle.definition_guarantee.specs.Limits.{StatementWithin, WithinLimits}
use Rattle.list_pushes.specs.declared.push.Env.{Env as WordEnv}
use Rattle.stmt_walk.specs.Walks.{Walked, beside_p}
use Rattle.stmt_simple.specs.Calls.{called_of}
use Rattle.stmt_bodies.specs.Statements.{other_statement, call_statement, statement_by, enter_macro}
use Rattle.expr_refinement.proofs.Answers.{acts, temps, word}
use Rattle.expr_refinement.proofs.Below.{Spare}
use Rattle.stmt_refinement.proofs.Steps.{Steps, Follows}
use Rattle.stmt_refinement.proofs.Ends.{call-inside}
use Rattle.stmt_refinement.proofs.StatementKinds.{labels_of, other_statement-steps}
use Rattle.stmt_refinement.proofs.CallKinds.{is_macro, other_call-steps}
use Rattle.stmt_refinement.proofs.Bodies.{enter_of, Begun, StatementFollows, EnterFollows}
use Rattle.stmt_refinement.proofs.MacroCalls.{macro-statement}
use Rattle.stmt_refinement.proofs.Following.{steps_follow}
use Rattle.stmt_refinement.specs.Standing.{Beside, walk_of}

-- no more labels are placed than there are actions
placed-few : (xs : List SemanticAction) → labels_placed xs ≤ length xs
unfolding labels_placed sum
placed-few [] = omega arith
placed-few (x ∷ xs) = let h = placed-few xs in go (places_label x) h
  where
    go : (b : Bool) → labels_placed xs ≤ length xs → (definition.when◌then◌else◌ b 1 0) + labels_placed xs ≤ length (x ∷ xs)
    go true h = unfold base_opens in omega arith
    go false h = unfold base_opens in omega arith

module _ (s t : List ℕ) (e : Env) (front tail rest : List ℕ) (spare : ℕ) (room : Spare spare tail) (limits : WithinLimits e.section) (deep : ℕ) (enters : EnterFollows s t e front tail rest spare deep)
    (we : WordEnv) (p : List ℕ) (b : Beside) (st : State) (ordinal : ℕ) (begun : Begun s t e front tail rest spare we p b st ordinal)
    (pos : ℕ) (x : Statement) (next : ℕ) (reads : statement (le16 s 2) (drop pos s) ≡ parsed x (drop next s)) (starts : pos ≤ length s) (inside : next ≤ length s) (within : StatementWithin x) where
  abbrev F : Walked → Type 0
  F y = Follows t e front tail rest we spare b st next y (d.resolve_statement (enter_of deep) x e st)

  abbrev A : List ℕ
  A = acts e.section front tail rest st

  abbrev M : List ℕ
  M = temps e.section front tail rest st

  few : b.placed + 1 < 2 ^ 64
  few =
      let k = placed-few st.actions in
      let j = begun.between.standing.stood.actions in
      let i = begun.between.placed in
      omega arith

  follow : (placing : ℕ) (y : Walked) → Steps t e front tail rest we spare placing b st next y (d.resolve_statement (enter_of deep) x e st) → F y
  follow placing y h = steps_follow s t e front tail rest spare limits deep we p b st ordinal begun x within placing next y h

  called : get_or s pos 0 ≡ 7 → (macro : Bool) → is_macro (called_of s t (le16 s (pos + 1))) ≡ macro → F (beside_p p (call_statement (enter_macro deep s t) s t p A M we pos (walk_of b (word e.section front tail rest st))))
  called c true h = macro-statement s t e front tail rest spare room limits deep enters we p b st ordinal begun pos x next reads (call-inside s (le16 s 2) pos x next reads inside c) inside within c h
  called c false h = follow 0 _ (other_call-steps s t e p front tail rest we begun.between.given spare room b st begun.between.standing (enter_of deep) (enter_macro deep s t) pos x next reads inside c h)

  by_code_lem : (call : Bool) → eqb (get_or s pos 0) 7 ≡ call → F (when call then beside_p p (call_statement (enter_macro deep s t) s t p A M we pos (walk_of b (word e.section front tail rest st))) else other_statement (get_or s pos 0) s t p A M we pos (walk_of b (word e.section front tail rest st)))
  by_code_lem true h = called (eqb-true (get_or s pos 0) 7 h) (is_macro (called_of s t (le16 s (pos + 1)))) refl
  by_code_lem false h = follow (labels_of (get_or s pos 0)) _ (other_statement-steps s t e p front tail rest we begun.between.given spare room b few st begun.between.standing (enter_of deep) pos x next reads inside h)

  one_follows : F (statement_by (get_or s (pos + 0) 0) (enter_macro deep s t) s t we pos p A M (walk_of b (word e.section front tail rest st)))
  unfolding statement_by
  one_follows = let z : pos + 0 ≡ pos = omega arith in rw z (by_code_lem (eqb (get_or s pos 0) 7) refl)

pub statements_follow : (s t : List ℕ) (e : Env) (front tail rest : List ℕ) (spare : ℕ) → Spare spare tail → WithinLimits e.section → (deep : ℕ) → EnterFollows s t e front tail rest spare deep → StatementFollows s t e front tail rest spare deep
statements_follow s t e front tail rest spare room limits deep enters = record {
  follows = one_follows s t e front tail rest spare room limits deep enters;
}
