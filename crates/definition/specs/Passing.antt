-- DEMAND 3: whether the action list of a file's answer passes the checker, with the answer's own counts and those of
-- the section.
use Rattle.std.specs.Prelude.{ℕ, Bool, false, List, eqb, length}
use Rattle.prelude.specs.Base.{when◌then◌else◌}
use Rattle.definition.specs.Ast.{Section}
use Rattle.definition.specs.SectionFile.{Parsed, read}
use Rattle.definition.specs.Sizes.{pointer_size}
use Rattle.definition.specs.ActionList.{Answer, when_read, resolve}
use Rattle.definition.specs.Checker.{check}

-- the section's subtable count and pointer size
unfoldable pub subtable_count : Parsed Section → ℕ
subtable_count = when_read (λ r. 0) (λ sec. length sec.subtables)

unfoldable pub pointer_size_in : Parsed Section → ℕ
pointer_size_in = when_read (λ r. 0) pointer_size

abbrev pub passes : List ℕ → ℕ → ℕ → Bool
passes file lent_actions lent_temporaries =
    let a : Answer = resolve file lent_actions lent_temporaries in
    let x : Parsed Section = read file in
    check a.actions a.result.actions a.result.temporaries (subtable_count x) (pointer_size_in x)

-- the section is accepted, and its list passes
unfoldable pub checked : List ℕ → ℕ → ℕ → Bool
checked file lent_actions lent_temporaries =
    when eqb (resolve file lent_actions lent_temporaries).result.refusal 0
    then passes file lent_actions lent_temporaries else false
