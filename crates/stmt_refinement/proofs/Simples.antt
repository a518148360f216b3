-- Statements of one step, as steps: unimplemented, the export, locals, builds, copies and stores.
use Prim.Native.Nat.{ℕ, zero, suc, ◌+◌, ◌≤◌, ◌<◌}
use mathlib.Core.Path.{◌≡◌, refl, sym, ◌∙◌, subst}
use mathlib.Core.List.{List}
use native.Mathlib.Omega.{arith}
use lib.ListN.{length, get_or, drop}
use Rattle.access.specs.Le.{le16}
use Rattle.definition.specs.Refusals.{refusal_number}
use Rattle.definition.specs.Value.{Export}
use Rattle.definition.specs.Ast.{Statement, Macro}
use Rattle.definition.specs.SectionFile.{parsed, statement}
use Rattle.definition.specs.Walk as walks
use Rattle.definition.specs.Walk.{ExprValue, State, Env, Outcome, done, stopped, on, with_export}
use Rattle.definition.specs.Scope as scope
use Rattle.definition.specs.Expressions as expressions
use Rattle.definition.specs.Statements as d
use Rattle.definition.specs.ActionList.{or_none}
use Rattle.definition_guarantee.proofs.Outcomes.{positive}
use Rattle.list_pushes.specs.declared.push.State.{State as WordState}
use Rattle.list_pushes.specs.declared.push.Env.{Env as WordEnv}
use Rattle.list_values.specs.Base.{Listed, listed, then_l}
use Rattle.file_refinement.specs.Holds.{absent_at}
use Rattle.file_refinement.proofs.Inversion.{unimplemented_at, export_at, local_at, local_assignment_at, build_at, copy_at, store_at_lem}
use Rattle.list_refinement.proofs.Seen.{outcome}
use Rattle.expr_terms.specs.Answers.{after}
use Rattle.expr_scope.specs.Scopes.{named_tmp}
use Rattle.stmt_walk.specs.Outcomes.{Step}
use Rattle.stmt_walk.specs.Walks.{Stepped, stepped, Walked, walked, step_read, beside_p, read_then}
use Rattle.stmt_simple.specs.Simple.{unimplemented, export_statement, local_statement, local_assignment, build}
use Rattle.stmt_assignments.specs.Stores.{store_statement}
use Rattle.stmt_assignments.specs.Copies.{copy_statement}
use Rattle.stmt_bodies.specs.Statements.{beside_a, simple}
use Rattle.expr_refinement.proofs.Answers.{acts, temps, word, Refines}
use Rattle.expr_refinement.proofs.Below.{Spare}
use Rattle.expr_refinement.proofs.Positions.{drop_same}
use Rattle.expr_refinement.proofs.Expressions.{after_is, absent-word, small_or}
use Rattle.stmt_refinement.proofs.Views.{seen_step, with_exported, on_assoc}
use Rattle.stmt_refinement.proofs.Simple.{unimplemented_is, export_is}
use Rattle.stmt_refinement.proofs.Builds.{build_is}
use Rattle.stmt_refinement.proofs.Stores.{store-statement_is}
use Rattle.stmt_refinement.proofs.Steps.{Steps}
use Rattle.stmt_refinement.proofs.Stepping.{steps-stop, seen_next, seen_stop, standing_later, framed_later, steps_goes}
use Rattle.stmt_refinement.proofs.Naming.{steps-local}
use Rattle.stmt_refinement.proofs.Targets.{assignment_steps, copy_steps}
use Rattle.stmt_refinement.proofs.Ends.{starts, unimplemented_ends, local_ends, build_ends}
use Rattle.expr_refinement.specs.Encoding.{count}
use Rattle.stmt_refinement.specs.Standing.{Beside, Given, walk_of, SoundExport, Standing, Framed}

module _ (s t : List ℕ) (e : Env) (p front tail rest : List ℕ) (we : WordEnv) (given : Given s t e front tail rest we) (spare : ℕ) (room : Spare spare tail) (b : Beside)
    (from : State) (stand : Standing t e tail rest we spare p b from) where
  abbrev A : List ℕ
  A = acts e.section front tail rest from

  abbrev M : List ℕ
  M = temps e.section front tail rest from

  abbrev W : WordState
  W = word e.section front tail rest from

  abbrev Ends : ℕ → Walked → Outcome (Unit {0}) → Type 0
  Ends next x o = Steps t e front tail rest we spare 0 b from next x o

  -- an export is beside the words
  standing_export : (y : Export) (u : State) → SoundExport e.section (count u) y → Standing t e tail rest we spare p b u → Standing t e tail rest we spare p (with_exported y b) (with_export y u)
  standing_export y u g h = let f = h.stood in record {
    stood = record { actions = f.actions; temporaries = f.temporaries; sizes = f.sizes; errors = f.errors; sound = f.sound; params = f.params; mapping = f.mapping };
    scoped = record { params = h.scoped.params; counted = h.scoped.counted; locals = h.scoped.locals };
    labelled = h.labelled;
    labels = h.labels;
    few = h.few;
    statements = h.statements;
    export = refl;
    export_sound = g;
    long = h.long;
  }

  framed_export : (y : Export) (u : State) → Framed b from b u → Framed b from (with_exported y b) (with_export y u)
  framed_export y u f = record { labels = f.labels; temporaries = f.temporaries }

  exported : (next : ℕ) (x : Stepped) (o : Outcome Export) → Refines e.section front tail rest spare from (λ (y : Export). (next, with_exported y b)) (SoundExport e.section) (seen_step (or_none from.sizing.begun) x) o
      → Ends next (beside_p p x) (on e o λ y e1 st1. done tt (with_export y st1))
  unfolding on outcome
  exported next x (done y u) r =
      let j = r.goes y u refl in
      Steps.goes (with_export y u) p (with_exported y b) refl (seen_next _ x p (next, with_exported y b) _ _ _ r.same)
      (standing_export y u j.1 (standing_later t e front tail rest we spare p b from u stand j.0)) (framed_export y u (framed_later t e front tail rest we spare b from u j.0))
      (omega arith) (j.0.later.placed ∙ omega arith)
  exported next x (stopped c ordinal errors) r =
      let j = seen_stop (or_none from.sizing.begun) x p (refusal_number c) (positive c) r.same in
      steps-stop t e front tail rest we spare 0 b from next _ c ordinal errors (refusal_number c) (or_none from.sizing.begun) p j.0 j.1 (r.stops c ordinal errors refl) refl refl j.2

  module _ (enter : ℕ → Macro → List ExprValue → walks.Walk (Unit {0})) (pos : ℕ) (x : Statement) (next : ℕ) (reads : statement (le16 s 2) (drop pos s) ≡ parsed x (drop next s)) (inside : next ≤ length s) where
    abbrev Done : Walked → Type 0
    Done y = Ends next y (d.resolve_statement enter x e from)

    start : pos + 1 ≤ length s
    start = starts s (le16 s 2) pos x next reads inside

    behind : (n : ℕ) → n < 65536 → next ≡ pos + n → after pos n ≡ next
    behind n l q = let i = start in after_is pos n (omega (arith, given.short)) l ∙ sym q

    known : (n : ℕ) → n < le16 s 2 → n < 1024
    known n h = omega (arith, given.holds.limits.names)

    moved : (end : ℕ) (y : Walked) (o : Outcome (Unit {0})) → next ≡ end → Ends end y o → Ends next y o
    moved end y o q h = subst (λ (n : ℕ). Ends n y o) (sym q) h

    unimplemented_case : get_or s pos 0 ≡ 0 → Done (beside_p p (unimplemented s t A M we pos (walk_of b W)))
    unfolding d.resolve_statement
    unimplemented_case c =
        let i = unimplemented_at s (le16 s 2) pos x (drop next s) c reads in
        let q = behind 1 (omega arith) (unimplemented_ends s (le16 s 2) pos x next reads inside c) in
        rw i.is (steps_goes t e front tail rest we spare p b from next _ _ _ stand refl (rw q at (unimplemented_is s t e front tail rest we given spare room b from stand.stood pos)))

    export_case : get_or s pos 0 ≡ 1 → Done (beside_p p (export_statement s t p A M we pos (walk_of b W)))
    unfolding d.resolve_statement
    export_case c =
        let i = export_at s (le16 s 2) pos x (drop next s) c reads in
        let q = drop_same s next i.value_end inside i.value_inside i.rest in
        let o = on_assoc e (expressions.resolve_expr i.value e from) (λ y. d.export_of y (d.as_reference y)) (λ y e1 st1. done (tt {0}) (with_export y st1)) in
        rw (i.is, ← o) (moved i.value_end _ _ q (exported i.value_end _ _ (export_is s t e front tail rest we given spare room b p from stand.stood stand.scoped pos start x (drop next s) i)))

    local_case : get_or s pos 0 ≡ 2 → Done (beside_a A (local_statement s t p M we pos (walk_of b W)))
    unfolding d.resolve_statement local_statement
    local_case c =
        let i = local_at s (le16 s 2) pos x (drop next s) c reads in
        let q = behind 5 (omega arith) (local_ends s (le16 s 2) pos x next reads inside c) in
        rw (i.is, q)
        (subst (λ (z : ℕ). Ends next (beside_a A (step_read (named_tmp t p M we (le16 s (pos + 1)) z W) (read_then next (walk_of b W)))) (on e (scope.named_tmp (le16 s (pos + 1)) (absent_at s (pos + 3)) e from) λ _ e1 st1. done tt st1)) (absent-word s (pos + 3))
        (steps-local s t e p front tail rest we given spare b from stand (le16 s (pos + 1)) (known (le16 s (pos + 1)) i.name_below) (absent_at s (pos + 3)) (small_or (absent_at s (pos + 3)) i.size_below) next))

    assignment_case : get_or s pos 0 ≡ 3 → Done (local_assignment s t p A M we pos (walk_of b W))
    unfolding d.resolve_statement
    assignment_case c =
        let i = local_assignment_at s (le16 s 2) pos x (drop next s) c reads in
        let q = drop_same s next i.expr-end inside i.expr-inside i.rest in
        let l = start in
        rw i.is (moved i.expr-end _ _ q (assignment_steps s t e front tail rest we given spare room b p from stand pos (omega arith) x (drop next s) i))

    build-beside : (x : Listed Step) (m : List ℕ) → beside_p p (then_l x (λ r c. stepped r c m)) ≡ then_l x (λ r c. walked r p c m)
    unfolding beside_p then_l
    build-beside (listed r c) m = refl

    build_case : get_or s pos 0 ≡ 4 → Done (then_l (build s t A pos (walk_of b W)) (λ r c. walked r p c M))
    unfolding d.resolve_statement
    build_case c =
        let i = build_at s (le16 s 2) pos x (drop next s) c reads in
        let q = behind 3 (omega arith) (build_ends s (le16 s 2) pos x next reads inside c) in
        rw (i.is, ← build-beside (build s t A pos (walk_of b W)) M) (steps_goes t e front tail rest we spare p b from next _ _ _ stand refl (rw q at (build_is s t e front tail rest we given spare room b from stand.stood pos (known (le16 s (pos + 1)) i.name_below))))

    copy_case : get_or s pos 0 ≡ 5 → Done (copy_statement s t p A M we pos (walk_of b W))
    unfolding d.resolve_statement
    copy_case c =
        let i = copy_at s (le16 s 2) pos x (drop next s) c reads in
        let q = drop_same s next i.to_end inside i.to_inside i.rest in
        rw i.is (moved i.to_end _ _ q (copy_steps s t e p front tail rest we given spare room b from stand pos start x (drop next s) i))

    store_case : get_or s pos 0 ≡ 6 → Done (beside_p p (store_statement s t p A M we pos (walk_of b W)))
    unfolding d.resolve_statement
    store_case c =
        let i = store_at_lem s (le16 s 2) pos x (drop next s) c reads in
        let q = drop_same s next i.value_end inside i.value_inside i.rest in
        let l = start in
        rw i.is (moved i.value_end _ _ q (steps_goes t e front tail rest we spare p b from i.value_end _ _ _ stand refl
        (store-statement_is s t e front tail rest we given spare room b p from pos (omega arith) x (drop next s) i stand.stood stand.scoped)))

    -- the codes below 7
    pub simple-steps : (code : ℕ) → get_or s pos 0 ≡ code → code < 7 → Done (simple code s t p A M we pos (walk_of b W))
    unfolding simple
    simple-steps zero c l = unimplemented_case c
    simple-steps (suc zero) c l = export_case c
    simple-steps (suc (suc zero)) c l = local_case c
    simple-steps (suc (suc (suc zero))) c l = assignment_case c
    simple-steps (suc (suc (suc (suc zero)))) c l = build_case c
    simple-steps (suc (suc (suc (suc (suc zero))))) c l = copy_case c
    simple-steps (suc (suc (suc (suc (suc (suc zero)))))) c l = store_case c
    simple-steps (suc (suc (suc (suc (suc (suc (suc n))))))) c l = absurd (omega arith)
