-- The walk over the section's own statements begins as the definition's does, and so follows it if statements do.
use Prim.Native.Nat.{ℕ, ◌/◌, ◌≤◌}
use mathlib.Core.Path.{◌≡◌, refl, sym, ◌∙◌, subst}
use mathlib.Core.List.{List}
use native.Mathlib.Omega.{arith}
use lib.ListN.{length, get_or, drop}
use lib.Seq.{take-length}
use Rattle.access.specs.Le.{le16}
use Rattle.prelude.specs.Base.{sum}
use Rattle.definition.specs.Ast.{Macro, Section}
use Rattle.definition.specs.Statements as d
use Rattle.definition.specs.End.{at_start}
use Rattle.definition.specs.ActionList.{labels_placed}
use Rattle.definition_guarantee.specs.Limits.{WithinLimits}
use Rattle.definition_guarantee.proofs.Outcomes.{start_kept}
use Rattle.stmt_bodies.specs.Statements.{resolve_body}
use Rattle.file_refinement.specs.Holds.{Holds}
use Rattle.list_refinement.proofs.FromSection.{TablesNamed}
use Rattle.resolve_file.specs.Files as w
use Rattle.resolve_file.specs.Files.{start_env}
use Rattle.expr_refinement.proofs.Answers.{acts, temps, word}
use Rattle.stmt_refinement.proofs.Steps.{Follows}
use Rattle.stmt_refinement.proofs.MacroPlaces.{ordinal_is, ordinal-small}
use Rattle.stmt_refinement.proofs.Bodies.{Between, EnterFollows, StatementFollows, body_follows}
use Rattle.resolve_refinement.proofs.Start.{start_scope, room_of, start_beside, front_of, tail_of, start_given, start_standing}
use Rattle.resolve_refinement.proofs.Sections.{Walks}
use Rattle.expr_refinement.specs.Encoding.{BitRangesFit}
use Rattle.stmt_refinement.specs.Standing.{walk_of}

module _ (s t : List ℕ) (sec : Section) (holds : Holds s t sec) (within : WithinLimits sec) (tables : TablesNamed sec) (ranges : BitRangesFit sec) (short : length s ≤ 65280) (a m : List ℕ) (room : length sec.subtables ≤ length a / 24) where
  start_between : Between s t (room_of sec a m) (front_of sec a) (tail_of sec a) m 0 (start_env (w.pointer_size s t)) start_scope (start_beside sec) (at_start sec)
  unfolding at_start labels_placed sum
  start_between = record {
    given = start_given s t sec holds within tables ranges short a m room;
    standing = start_standing s t sec holds within tables ranges short a m room;
    kept = start_kept (room_of sec a m) room;
    placed = refl;
  }

  ordinals : d.ordinal_after sec.macros ≡ get_or t 3338 0
  ordinals = ordinal_is sec.macros ∙ sym holds.own_ordinal

  few_ordinals : d.ordinal_after sec.macros ≤ 131072
  few_ordinals = subst (λ (xs : List Macro). d.ordinal_after xs ≤ 131072) (take-length sec.macros) (ordinal-small s t sec holds (length sec.macros))

  pub section_walks : ((deep : ℕ) → EnterFollows s t (room_of sec a m) (front_of sec a) (tail_of sec a) m 0 deep → StatementFollows s t (room_of sec a m) (front_of sec a) (tail_of sec a) m 0 deep) → Walks s t sec a m
  section_walks statements =
      let x = body_follows s t (room_of sec a m) (front_of sec a) (tail_of sec a) m 0 within statements (start_env (w.pointer_size s t)) (le16 s 22) (d.ordinal_after sec.macros) (get_or t 3337 0) sec.statements (drop holds.statements.after s)
      holds.statements.reads holds.statements.inside within.statements (let l = holds.limits.statements in omega (arith, few_ordinals)) start_scope (start_beside sec) (at_start sec) start_between in
      record {
        next = x.0;
        follows = subst (λ (n : ℕ). Follows t (room_of sec a m) (front_of sec a) (tail_of sec a) m (start_env (w.pointer_size s t)) 0 (start_beside sec) (at_start sec) x.0
            (resolve_body 16 s t start_scope (acts sec (front_of sec a) (tail_of sec a) m (at_start sec)) (temps sec (front_of sec a) (tail_of sec a) m (at_start sec)) (start_env (w.pointer_size s t)) (get_or t 3337 0) (le16 s 22) n (walk_of (start_beside sec) (word sec (front_of sec a) (tail_of sec a) m (at_start sec))))
            (d.resolve_body 16 (d.ordinal_after sec.macros) sec.statements (room_of sec a m) (at_start sec))) ordinals x.1;
      }
