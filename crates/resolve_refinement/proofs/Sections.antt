-- A section resolved: room for the Builds, the walk over its statements, the end. The answer is the definition's.
use Prim.Native.Nat.{ℕ, ◌-◌, ◌*◌, ◌/◌, ◌^◌, ◌≤◌, ◌<◌}
use mathlib.Core.Path.{◌≡◌, refl, sym, ◌∙◌, ap, subst}
use mathlib.Core.Bool.{Bool, true, false}
use mathlib.Core.List.{List}
use mathlib.Core.Option.{none, some}
use native.Mathlib.Omega.{arith}
use lib.ListN.{length, get_or, replicate, length-replicate}
use lib.Dec.{leb, ltb}
use borrow.Author.Tests.{ltb-true, ltb-false, le-leb, lt-leb}
use Rattle.access.specs.Le.{le16}
use Rattle.prelude.specs.Base.{or_else, when◌then◌else◌}
use Rattle.definition.specs.Refusals.{refusal_number, list_full}
use Rattle.definition.specs.Ast.{Section}
use Rattle.definition.specs.Walk.{State, Env, Outcome, on, require}
use Rattle.definition.specs.Statements as statements
use Rattle.definition.specs.End as d
use Rattle.definition.specs.End.{at_start}
use Rattle.definition.specs.ActionList.{or_none, labels_placed, answered, room_for}
use Rattle.definition_guarantee.specs.Limits.{WithinLimits}
use Rattle.definition_guarantee.proofs.Kept.{Kept, small_section}
use Rattle.list_values.specs.Values.{place}
use Rattle.list_end.specs.End.{zero_from}
use Rattle.stmt_walk.specs.Walks.{Stepped, Walked, without_p}
use Rattle.stmt_bodies.specs.Statements.{resolve_body}
use Rattle.file_refinement.specs.Holds.{Holds}
use Rattle.list_refinement.proofs.FromSection.{TablesNamed, sizes_hold_lem}
use Rattle.list_refinement.proofs.Passes.{place_is}
use Rattle.list_refinement.proofs.AtStart.{start_actions, start_temporaries, start_state}
use Rattle.resolve_answer.specs.Answers.{Resolved, resolved_to, refused}
use Rattle.resolve_answer.specs.Ends.{finish}
use Rattle.resolve_file.specs.Files as w
use Rattle.resolve_file.specs.Files.{start_env, walk_section, resolve_walked}
use Rattle.expr_refinement.proofs.Answers.{acts, temps, word}
use Rattle.stmt_refinement.proofs.Steps.{Follows}
use Rattle.resolve_refinement.specs.Answers.{as_answer}
use Rattle.resolve_refinement.proofs.Answers.{refused_is}
use Rattle.resolve_refinement.proofs.Finish.{end_is}
use Rattle.resolve_refinement.proofs.Start.{pointer_is, start_scope, room_of, start_beside, front_of, tail_of, front_length, lent_length}
use Rattle.stmt_refinement.specs.Standing.{Beside, walk_of, Standing}

-- A lent list keeps its length: the contract of a function that is lent one knows it.
abbrev pub Lengths : ℕ → ℕ → Resolved → Type 0
Lengths la lt (resolved_to r a m) = (length a ≡ la) × (length m ≡ lt)

zeroed_length : (l : List ℕ) → length (zero_from l 0) ≡ length l
unfolding zero_from
zeroed_length l = length-replicate {A = ℕ} (length l - 0) 0 ∙ omega arith

refused_lengths : (a m : List ℕ) (la lt n ordinal errors : ℕ) → Lengths la lt (refused a m n ordinal errors) → (length a ≡ la) × (length m ≡ lt)
unfolding refused
refused_lengths a m la lt n ordinal errors h = (sym (zeroed_length a) ∙ h.0, sym (zeroed_length m) ∙ h.1)

module _ (s t : List ℕ) (sec : Section) (a m : List ℕ) where
  -- The walk over the section's own statements follows the definition.
  pub record Walks : Type 0 where
    pub next : ℕ
    pub follows : Follows t (room_of sec a m) (front_of sec a) (tail_of sec a) m (start_env (w.pointer_size s t)) 0 (start_beside sec) (at_start sec) next
        (resolve_body 16 s t start_scope (acts sec (front_of sec a) (tail_of sec a) m (at_start sec)) (temps sec (front_of sec a) (tail_of sec a) m (at_start sec)) (start_env (w.pointer_size s t)) (get_or t 3337 0) (le16 s 22) (get_or t 3338 0) (walk_of (start_beside sec) (word sec (front_of sec a) (tail_of sec a) m (at_start sec))))
        (statements.resolve_body 16 (statements.ordinal_after sec.macros) sec.statements (room_of sec a m) (at_start sec))

module _ (s t : List ℕ) (sec : Section) (holds : Holds s t sec) (within : WithinLimits sec) (tables : TablesNamed sec) (a m : List ℕ) (short : length a < 2 ^ 60) (shorter : length m < 2 ^ 60) where
  abbrev e : Env
  e = room_of sec a m

  subtables_are : le16 s 20 ≡ length sec.subtables
  subtables_are = sym holds.subtables.count

  few : length sec.subtables ≤ 32
  few = let n = holds.subtables.count in let l = holds.limits.subtables in omega arith

  module _ (room : length sec.subtables ≤ length a / 24) (walks : Walks s t sec a m) where
    tail-short : length (tail_of sec a) < 2 ^ 60
    tail-short = omega (arith, lent_length sec a room)

    -- at the start the lists are as they were lent
    start_walk : walk_of (start_beside sec) (word sec (front_of sec a) (tail_of sec a) m (at_start sec)) ≡ w.at_start (length sec.subtables)
    start_walk =
        let base : place 0 (length sec.subtables) ≡ 24 * length sec.subtables = place_is 0 (length sec.subtables) (omega arith) (omega (arith, few)) ∙ omega arith in
        ap (walk_of (start_beside sec)) (start_state (length (front_of sec a)) sec)
        ∙ ap (λ (n : ℕ). walk_of (start_beside sec) (record { end = n; temporaries = 0; sizing = record { begun = 65535; errors = 0; first = 65535 } })) (front_length sec a room ∙ sym base)

    start_temporaries_are : temps sec (front_of sec a) (tail_of sec a) m (at_start sec) ≡ m
    unfolding at_start
    start_temporaries_are = start_temporaries m

    start_actions_are : acts sec (front_of sec a) (tail_of sec a) m (at_start sec) ≡ a
    unfolding at_start
    start_actions_are = start_actions (24 * length sec.subtables) a

    begins : walk_section s t a m (length sec.subtables) (w.pointer_size s t)
        ≡ without_p (resolve_body 16 s t start_scope (acts sec (front_of sec a) (tail_of sec a) m (at_start sec)) (temps sec (front_of sec a) (tail_of sec a) m (at_start sec)) (start_env (w.pointer_size s t)) (get_or t 3337 0) (le16 s 22) (get_or t 3338 0) (walk_of (start_beside sec) (word sec (front_of sec a) (tail_of sec a) m (at_start sec))))
    unfolding walk_section start_scope
    begins = λ i. without_p (resolve_body 16 s t (replicate 406 0) (sym start_actions_are i) (sym start_temporaries_are i) (start_env (w.pointer_size s t)) (get_or t 3337 0) (le16 s 22) (get_or t 3338 0) (sym start_walk i))

    finishes : (c : Beside) (u : State) (q : List ℕ) → Standing t e (tail_of sec a) m (start_env (w.pointer_size s t)) 0 q c u → Kept e u → c.placed ≡ labels_placed u.actions
        → as_answer (finish s t (acts sec (front_of sec a) (tail_of sec a) m u) (temps sec (front_of sec a) (tail_of sec a) m u) (w.pointer_size s t) (walk_of c (word sec (front_of sec a) (tail_of sec a) m u))) ≡ answered (length a) (length m) (d.finish e u)
    finishes c u q standing kept placed =
        let front = front_of sec a in let tail = tail_of sec a in
        let x = end_is s t e front tail m (sizes_hold_lem s t sec holds (small_section sec within) tables) (small_section sec within) few (front_length sec a room) tail-short shorter 0 (omega (arith, tail-short)) c u standing.stood kept
        (record { export = (standing.export, standing.export_sound); placed = placed; statements = standing.statements }) subtables_are in
        (λ i. as_answer (finish s t (acts sec front tail m u) (temps sec front tail m u) (pointer_is s t sec holds i) (walk_of c (word sec front tail m u)))) ∙ x ∙ ap (λ (n : ℕ). answered n (length m) (d.finish e u)) (lent_length sec a room)

    ends : {next : ℕ} (x : Walked) (o : Outcome (Unit {0})) → Follows t e (front_of sec a) (tail_of sec a) m (start_env (w.pointer_size s t)) 0 (start_beside sec) (at_start sec) next x o
        → Lengths (length a) (length m) (resolve_walked s t (w.pointer_size s t) (without_p x)) → as_answer (resolve_walked s t (w.pointer_size s t) (without_p x)) ≡ answered (length a) (length m) (on e o (λ _. d.finish))
    unfolding resolve_walked without_p on answered or_none or_else
    ends x o (Follows.goes u q c i j standing kept placed framed) l = rw (i, j) (finishes c u q standing kept placed)
    ends x o (Follows.stops r ordinal q b n i j) l =
        let k = refused_lengths b n (length a) (length m) (refusal_number r) ordinal 0 (subst (λ (x : Walked). Lengths (length a) (length m) (resolve_walked s t (w.pointer_size s t) (without_p x))) j l) in
        rw (i, j) (refused_is b n (length a) (length m) r (some ordinal) 0 k.0 k.1)

  abbrev body : Env → State → Outcome (Unit {0})
  body = statements.resolve_body 16 (statements.ordinal_after sec.macros) sec.statements

  abbrev chosen : Bool → Resolved
  chosen b = when b then refused a m 12 65535 0 else resolve_walked s t (w.pointer_size s t) (walk_section s t a m (length sec.subtables) (w.pointer_size s t))

  tested : (length sec.subtables ≤ length a / 24 → Walks s t sec a m) → (b : Bool) → ltb (length a / 24) (length sec.subtables) ≡ b → Lengths (length a) (length m) (chosen b)
      → as_answer (chosen b) ≡ answered (length a) (length m) (on e (on e (require (leb (length sec.subtables) (length a / 24)) list_full e (at_start sec)) (λ _. body)) (λ _. d.finish))
  unfolding on require answered at_start or_none or_else refusal_number
  tested walks true h l = rw (lt-leb (length sec.subtables) (length a / 24) (ltb-true _ _ h)) (refused_is a m (length a) (length m) list_full none 0 refl refl)
  tested walks false h l =
      let room : length sec.subtables ≤ length a / 24 = ltb-false (length a / 24) (length sec.subtables) h in
      rw (le-leb (length sec.subtables) (length a / 24) room)
      (ap (λ (x : Stepped). as_answer (resolve_walked s t (w.pointer_size s t) x)) (begins room (walks room))
      ∙ ends room (walks room) _ _ (walks room).follows (subst (λ (x : Stepped). Lengths (length a) (length m) (resolve_walked s t (w.pointer_size s t) x)) (begins room (walks room)) l))

  pub section_is : (length sec.subtables ≤ length a / 24 → Walks s t sec a m) → Lengths (length a) (length m) (w.resolve_section s t a m)
      → as_answer (w.resolve_section s t a m) ≡ answered (length a) (length m) (d.resolve_section (room_for sec (length a) (length m)) (at_start sec))
  unfolding w.resolve_section d.resolve_section d.resolve_statements room_for on
  section_is walks l = rw subtables_are (tested walks (ltb (length a / 24) (length sec.subtables)) refl (rw subtables_are at l))
