-- What statements are given, what the words of a walk and the definition's state have in common between statements, and what
-- statements leave for the callers of a macro.
use Rattle.std.specs.Prelude.{ℕ, ◌≤◌, ◌+◌, ◌<◌, ◌≡◌, List, length}
use Rattle.std.proofs.Math.Option.{Option, none, some}
use Rattle.definition.specs.Value.{Export}
use Rattle.definition.specs.Ast.{Section}
use Rattle.definition.specs.Walk.{State, Env, Label}
use Rattle.definition.specs.ActionList.{export_kind_number}
use Rattle.prelude.specs.Base.{when◌then◌else◌}
use Rattle.list_refinement.specs.Encoding.{enc_v, Sound, SizesHold, Lent, EachOption}
use Rattle.stmt_walk.specs.Outcomes.{Walk}
use Rattle.stmt_walk.specs.Outcomes.{Export as WordExport}
use Rattle.definition.specs.Sizes.{pointer_size}
use Rattle.list_pushes.specs.declared.push.State.{State as WordState}
use Rattle.list_pushes.specs.declared.push.Env.{Env as WordEnv}
use Rattle.file_refinement.specs.Holds.{Holds}
use Rattle.expr_refinement.specs.Encoding.{Stood, Scoped, BitRangesFit, count}
use Rattle.definition.specs.Scope.{find}
use Rattle.expr_scope.specs.Smalls.{small}
use Rattle.stmt_branches.specs.Labels.{label_place}

-- what a walk has beside the state of expressions
pub record Beside : Type 0 where
  pub labels : ℕ
  pub placed : ℕ
  pub statements : ℕ
  pub export : WordExport

abbrev pub beside : Walk → Beside
beside w = record { labels = w.labels; placed = w.placed; statements = w.statements; export = w.export }

-- the walk with this beside a state
abbrev pub walk_of : Beside → WordState → Walk
walk_of b st = record { st = st; labels = b.labels; placed = b.placed; statements = b.statements; export = b.export }

-- What statements are given: the stream s and its table t hold the section, the lists are lent, and the stream is short.
pub record Given (s t : List ℕ) (e : Env) (front tail rest : List ℕ) (we : WordEnv) : Type 0 where
  pub lent : Lent e front tail rest
  pub sizes : SizesHold s t e.section
  pub holds : Holds s t e.section
  pub ranges : BitRangesFit e.section
  pub short : length s ≤ 65280
  pub pointer : we.pointer ≡ pointer_size e.section

-- the export: 0 none, else its kind from 1 on, its value and its access size
abbrev pub enc_e : Export → WordExport
enc_e x = record { kind = export_kind_number x.kind; v = enc_v x.value; size = x.access_size }

abbrev pub ExportIs : Option Export → WordExport → Type 0
ExportIs none x = (x.kind ≡ 0) × (x.size ≡ 0)
ExportIs (some y) x = x ≡ enc_e y

-- an export whose value and access size its words hold
pub record SoundExport (sec : Section) (n : ℕ) (x : Export) : Type 0 where
  pub value : Sound sec n x.value
  pub size : x.access_size < 65535

-- one more than the number of a label, 512 more once it is placed, and 0 for none
unfoldable pub label_number : Option Label → ℕ
label_number none = 0
label_number (some l) = l.id + 1 + (when l.defined then 512 else 0)

-- the labels of a scope, all with numbers below n
pub record LabelsIn (p : List ℕ) (n : ℕ) (labels : List (ℕ × Label)) : Type 0 where
  pub same : (name : ℕ) → name < 1024 → small p (label_place name) ≡ label_number (find name labels)
  pub below : (name : ℕ) (l : Label) → find name labels ≡ some l → l.id < n

-- The scope's list p, what is beside the state of expressions, and the lent words hold the definition's state.
pub record Standing (t : List ℕ) (e : Env) (tail rest : List ℕ) (we : WordEnv) (spare : ℕ) (p : List ℕ) (b : Beside) (st : State) : Type 0 where
  pub stood : Stood e.section tail rest spare st
  pub scoped : Scoped t p we st
  pub labelled : LabelsIn p b.labels st.scope.labels
  pub labels : b.labels ≡ st.next_label
  pub few : b.labels ≤ 256
  pub statements : b.statements ≡ st.statements
  pub export : ExportIs st.export b.export
  pub export_sound : EachOption (SoundExport e.section (count st)) st.export
  pub long : length p ≡ 406

-- From b and from to c and u labels and temporaries only grow, so that what a caller knows of its own still holds.
pub record Framed (b : Beside) (from : State) (c : Beside) (u : State) : Type 0 where
  pub labels : b.labels ≤ c.labels
  pub temporaries : count from ≤ count u
