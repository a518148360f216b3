-- Every statement but a call, as a step, by its code; a label statement places one label, the others none.
use Prim.Native.Nat.{ℕ, zero, suc, ◌+◌, ◌^◌, ◌≤◌, ◌<◌}
use mathlib.Core.Path.{◌≡◌, refl}
use mathlib.Core.Bool.{false}
use mathlib.Core.List.{List}
use native.Mathlib.Omega.{arith}
use lib.ListN.{length, get_or, drop}
use lib.Dec.{eqb}
use Rattle.access.specs.Le.{le16}
use Rattle.definition.specs.Ast.{Statement, Macro}
use Rattle.definition.specs.SectionFile.{parsed, statement}
use Rattle.definition.specs.Walk as walks
use Rattle.definition.specs.Walk.{ExprValue, State, Env}
use Rattle.definition.specs.Statements as d
use Rattle.list_pushes.specs.declared.push.Env.{Env as WordEnv}
use Rattle.prelude.specs.Base.{when◌then◌else◌}
use Rattle.file_refinement.proofs.Inversion.{statement-begun}
use Rattle.stmt_bodies.specs.Statements.{other_statement}
use Rattle.expr_refinement.proofs.Answers.{acts, temps, word}
use Rattle.expr_refinement.proofs.Below.{Spare}
use Rattle.stmt_refinement.proofs.Steps.{Steps}
use Rattle.stmt_refinement.proofs.Simples.{simple-steps}
use Rattle.stmt_refinement.proofs.Branches.{branch_case, cond_branch_case, label_case}
use Rattle.stmt_refinement.specs.Standing.{Beside, Given, walk_of, Standing}

unfoldable pub labels_of : ℕ → ℕ
labels_of code = when eqb code 10 then 1 else 0

module _ (s t : List ℕ) (e : Env) (p front tail rest : List ℕ) (we : WordEnv) (given : Given s t e front tail rest we) (spare : ℕ) (room : Spare spare tail) (b : Beside) (room64 : b.placed + 1 < 2 ^ 64)
    (from : State) (stand : Standing t e tail rest we spare p b from) (enter : ℕ → Macro → List ExprValue → walks.Walk (Unit {0}))
    (pos : ℕ) (x : Statement) (next : ℕ) (reads : statement (le16 s 2) (drop pos s) ≡ parsed x (drop next s)) (inside : next ≤ length s) where
  abbrev Done : ℕ → Type 0
  Done code = Steps t e front tail rest we spare (labels_of code) b from next (other_statement code s t p (acts e.section front tail rest from) (temps e.section front tail rest from) we pos (walk_of b (word e.section front tail rest from))) (d.resolve_statement enter x e from)

  by_code_lem : (code : ℕ) → get_or s pos 0 ≡ code → code < 11 → eqb code 7 ≡ false → Done code
  unfolding labels_of other_statement
  by_code_lem zero c l h = simple-steps s t e p front tail rest we given spare room b from stand enter pos x next reads inside 0 c (omega arith)
  by_code_lem (suc zero) c l h = simple-steps s t e p front tail rest we given spare room b from stand enter pos x next reads inside 1 c (omega arith)
  by_code_lem (suc (suc zero)) c l h = simple-steps s t e p front tail rest we given spare room b from stand enter pos x next reads inside 2 c (omega arith)
  by_code_lem (suc (suc (suc zero))) c l h = simple-steps s t e p front tail rest we given spare room b from stand enter pos x next reads inside 3 c (omega arith)
  by_code_lem (suc (suc (suc (suc zero)))) c l h = simple-steps s t e p front tail rest we given spare room b from stand enter pos x next reads inside 4 c (omega arith)
  by_code_lem (suc (suc (suc (suc (suc zero))))) c l h = simple-steps s t e p front tail rest we given spare room b from stand enter pos x next reads inside 5 c (omega arith)
  by_code_lem (suc (suc (suc (suc (suc (suc zero)))))) c l h = simple-steps s t e p front tail rest we given spare room b from stand enter pos x next reads inside 6 c (omega arith)
  by_code_lem (suc (suc (suc (suc (suc (suc (suc zero))))))) c l h = let z : ◌≡◌ {A = ℕ} 0 1 = cc in absurd (omega arith)
  by_code_lem (suc (suc (suc (suc (suc (suc (suc (suc zero)))))))) c l h = branch_case s t e p front tail rest we given spare room b room64 from stand enter pos x next reads inside c
  by_code_lem (suc (suc (suc (suc (suc (suc (suc (suc (suc zero))))))))) c l h = cond_branch_case s t e p front tail rest we given spare room b room64 from stand enter pos x next reads inside c
  by_code_lem (suc (suc (suc (suc (suc (suc (suc (suc (suc (suc zero)))))))))) c l h = label_case s t e p front tail rest we given spare room b room64 from stand enter pos x next reads inside c
  by_code_lem (suc (suc (suc (suc (suc (suc (suc (suc (suc (suc (suc n))))))))))) c l h = absurd (omega arith)

  pub other_statement-steps : eqb (get_or s pos 0) 7 ≡ false → Done (get_or s pos 0)
  other_statement-steps h = by_code_lem (get_or s pos 0) refl (statement-begun s (le16 s 2) pos x (drop next s) reads).known h
