-- Blocks: the number of a reading's refusal, and the payloads joined.
use Rattle.std.specs.Prelude.{ℕ, zero, suc, List, [], ◌++◌, take, drop}
use Rattle.definition.specs.Refusals.{refusal_number}
use Rattle.definition.specs.SectionFile.{Parsed, parsed, refused}

-- 0, or document 01's number of the refusal
unfoldable pub refusal_of : {A : Type 0} → Parsed A → ℕ
refusal_of (parsed a s) = 0
refusal_of (refused r) = refusal_number r

-- the payloads of n blocks
unfoldable pub joined : ℕ → List ℕ → List ℕ
joined zero file = []
joined (suc n) file = take 510 file ++ joined n (drop 512 file)
