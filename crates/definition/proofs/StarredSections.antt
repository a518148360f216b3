-- The starred sections are what the definitions say of their files: computed, the whole table at once.
use mathlib.Core.Path.{◌≡◌, refl}
use mathlib.Core.List.{map}
use Rattle.definition.specs.Starred.{WorkedSection, worked, starred_sections}
use Rattle.definition.proofs.Openers.{starred_opens}

pub starred_sections_lem : map (λ (x : WorkedSection). worked x.file) starred_sections ≡ starred_sections
unfolding starred_opens
starred_sections_lem = refl
