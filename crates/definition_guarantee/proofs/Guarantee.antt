-- THE GUARANTEE: the action list of a section that the definition accepts passes the checker, if the premise holds.
use Prim.Native.Nat.{ℕ, ◌*◌, ◌/◌, ◌≤◌}
use mathlib.Core.Path.{◌≡◌, refl}
use mathlib.Core.Bool.{true}
use mathlib.Core.List.{List}
use native.Mathlib.Omega.{arith}
use lib.ListN.{length}
use Rattle.prelude.specs.Base.{is_empty}
use Rattle.definition.specs.Ast.{Section}
use Rattle.definition.specs.SectionFile.{Parsed, parsed, refused, read}
use Rattle.definition.specs.Sizes.{pointer_size}
use Rattle.definition.specs.Walk.{Env, Outcome, done, stopped}
use Rattle.definition.specs.End.{Semantics, finish, resolve_statements, resolve_section, at_start}
use Rattle.definition.specs.ActionList.{accepted_result, refusal_result, refusal, accepted, answered, room_for, when_read, resolve_read, resolve}
use Rattle.definition.specs.Checker.{check}
use Rattle.definition.specs.Premise.{late_in, premise_failures, premise}
use Rattle.definition.specs.Passing.{subtable_count, pointer_size_in}
use Rattle.definition_guarantee.specs.Guarantee.{AcceptedListsPass, AcceptedFilesPass}
use Rattle.definition_guarantee.proofs.Finish.{on_done}
use Rattle.definition_guarantee.proofs.Ending.{end-passes}
use Rattle.definition_guarantee.proofs.Limits.{read_within}
use Rattle.definition_guarantee.proofs.Kept.{small_section}
use Rattle.definition_guarantee.proofs.Outcomes.{walk_in_order, late_none, positive}

room : (la : ℕ) → 24 * (la / 24) ≤ la
room la = omega arith

pub accepted-lists-pass : AcceptedListsPass
unfolding resolve_section room_for premise premise_failures late_in when_read
accepted-lists-pass file rest la lt sec x s r h p =
    let e : Env = room_for sec la lt in
    let w = read_within file rest sec r in
    let q = on_done e (resolve_statements e (at_start sec)) (λ _. finish) x s h in
    let held : is_empty (late_in la lt (parsed sec rest)) ≡ true = rw r at p in
    end-passes e la q.1 s x (room la) (small_section sec w) (walk_in_order e q.1 q.0 w q.2) q.3
    (late_none e q.1 q.0 q.2 held)

-- The same of a file's answer alone.

answer-passes : (file rest : List ℕ) (la lt : ℕ) (sec : Section) (x : Outcome Semantics) → read file ≡ parsed sec rest
    → resolve_section (room_for sec la lt) (at_start sec) ≡ x → (answered la lt x).result.refusal ≡ 0 → premise file la lt ≡ true
    → check (answered la lt x).actions (answered la lt x).result.actions (answered la lt x).result.temporaries (length sec.subtables)
    (pointer_size sec) ≡ true
unfolding answered accepted accepted_result refusal refusal_result
answer-passes file rest la lt sec (done x s) r h z p = accepted-lists-pass file rest la lt sec x s r h p
answer-passes file rest la lt sec (stopped q o k) r h z p = let n = positive q in absurd (omega arith)

file-passes : (file : List ℕ) (la lt : ℕ) (x : Parsed Section) → read file ≡ x → (resolve_read la lt x).result.refusal ≡ 0
    → premise file la lt ≡ true
    → check (resolve_read la lt x).actions (resolve_read la lt x).result.actions (resolve_read la lt x).result.temporaries (subtable_count x)
    (pointer_size_in x) ≡ true
unfolding resolve_read when_read subtable_count pointer_size_in refusal refusal_result
file-passes file la lt (parsed sec rest) r z p = answer-passes file rest la lt sec (resolve_section (room_for sec la lt) (at_start sec))
    r refl z p
file-passes file la lt (refused q) r z p = let n = positive q in absurd (omega arith)

pub accepted_files_pass : AcceptedFilesPass
unfolding resolve
accepted_files_pass file la lt z p = file-passes file la lt (read file) refl z p
