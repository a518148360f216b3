-- THE GUARANTEE: the action list of a section that the definition accepts passes the checker, if the premise holds; and
-- what passes the checker is right.
use Rattle.std.specs.Prelude.{ℕ, ◌≡◌, ◌↔◌, true, List, length}
use Rattle.definition.specs.Ast.{Section}
use Rattle.definition.specs.SectionFile.{parsed, read}
use Rattle.definition.specs.Sizes.{pointer_size}
use Rattle.definition.specs.Walk.{State, done}
use Rattle.definition.specs.End.{Semantics, resolve_section, at_start}
use Rattle.definition.specs.ActionList.{filled, list_words, room_for, resolve}
use Rattle.definition.specs.Checker.{check}
use Rattle.definition.specs.Right.{Right}
use Rattle.definition.specs.Premise.{premise}
use Rattle.definition.specs.Passing.{passes}

-- For every file and every pair of list lengths: if the definition accepts the file's section and the premise holds, the
-- words of its action list pass the checker, with the list's action and temporary counts, the section's subtable count
-- and its pointer size.
abbrev pub AcceptedListsPass : Type 0
AcceptedListsPass =
    (file rest : List ℕ) (lent_actions lent_temporaries : ℕ) (sec : Section) (x : Semantics) (s : State)
    → read file ≡ parsed sec rest
    → resolve_section (room_for sec lent_actions lent_temporaries) (at_start sec)
    ≡ done x s → premise file lent_actions lent_temporaries ≡ true
    → check (filled lent_actions (list_words x.actions))
    (length x.actions) (length x.temporaries) (length sec.subtables) (pointer_size sec) ≡ true

-- For every file and every pair of list lengths: if the answer has no refusal and the premise holds, its action list
-- passes the checker.
abbrev pub AcceptedFilesPass : Type 0
AcceptedFilesPass =
    (file : List ℕ) (lent_actions lent_temporaries : ℕ)
    → (resolve file lent_actions lent_temporaries).result.refusal ≡ 0 → premise file lent_actions lent_temporaries ≡ true
    → passes file lent_actions lent_temporaries ≡ true

-- The checker accepts exactly the right lists.
abbrev pub AcceptsExactly : Type 0
AcceptsExactly =
    (ws : List ℕ) (actions temporaries subtables pointer_size : ℕ)
    → (check ws actions temporaries subtables pointer_size ≡ true) ↔ Right ws actions temporaries subtables pointer_size
