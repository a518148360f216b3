-- A stated size of a RAM or register access, set on a value: the words are the definition's.
use Prim.Native.Nat.{ℕ, suc, ◌<◌}
use mathlib.Core.Path.{◌≡◌, refl}
use mathlib.Core.Bool.{Bool, true, false}
use mathlib.Core.List.{List}
use mathlib.Core.Option.{Option, none, some}
use native.Mathlib.Omega.{arith}
use lib.Dec.{eqb}
use borrow.Author.Tests.{ne_eqb}
use Rattle.prelude.specs.Base as definition
use Rattle.prelude.specs.Base.{or_else, when◌then◌else◌}
use Rattle.definition.specs.Value.{kind_number, Value, truncate}
use Rattle.definition.specs.Sizes as sizes
use Rattle.definition.specs.Walk as w
use Rattle.definition.specs.Walk.{State, Env, Outcome, done, on}
use Rattle.definition.specs.Expressions as d
use Rattle.definition.specs.ActionList.{or_none}
use Rattle.definition.proofs.Openers.{base_opens}
use Rattle.list_pushes.specs.declared.push.State.{State as WordState}
use Rattle.list_values.specs.Base.{Listed, listed}
use Rattle.list_refinement.specs.Encoding.{SizesHold, enc_v, Sound}
use Rattle.list_refinement.proofs.Settled.{size_is, known_small}
use Rattle.expr_reading.specs.Outcomes.{Stated}
use Rattle.expr_reading.specs.Reading.{stated, set_size, set_stated, take_stated}
use Rattle.expr_refinement.proofs.Encodings.{stood_more}
use Rattle.expr_refinement.proofs.Answers.{acts, temps, word, Refines, refines_done}
use Rattle.expr_refinement.proofs.Below.{Spare, seen_stated, set_size_lem}
use Rattle.expr_refinement.specs.Encoding.{Small, tmps, count, Stood}

module _ (s t : List ℕ) (e : Env) (front tail rest : List ℕ) (holds : SizesHold s t e.section) (spare : ℕ) (room : Spare spare tail) where
  abbrev A : State → List ℕ
  A st = acts e.section front tail rest st

  abbrev M : State → List ℕ
  M st = temps e.section front tail rest st

  abbrev W : State → WordState
  W st = word e.section front tail rest st

  abbrev Stands : State → Type 0
  Stands st = Stood e.section tail rest spare st

  -- an answer with a value that only changed sizes; it may have made an error
  abbrev Sets : State → Listed Stated → Outcome Value → Type 0
  Sets st x o = Refines e.section front tail rest (suc spare) st enc_v (Sound e.section) (seen_stated (A st) x) o

  same-stated : (st : State) → Stands st → (v : Value) → Sound e.section (count st) v → Sets st (listed (stated (enc_v v) (W st)) (M st)) (done v st)
  unfolding seen_stated
  same-stated st f v h = refines_done e.section front tail rest (suc spare) st enc_v (Sound e.section) v (enc_v v) (stood_more (suc spare) (omega arith) f) h refl

  pub set_stated_lem : (st : State) → Stands st → (size : ℕ) (v : Value) → size < 65535 → Sound e.section (count st) v → Sets st (set_stated s t (M st) (enc_v v) size (W st)) (d.set_stated size v e st)
  unfolding set_stated d.set_stated
  set_stated_lem st f size v l h = go (eqb size 0)
    where
      go : (b : Bool) → Sets st (when b then listed (stated (enc_v v) (W st)) (M st) else set_size s t (M st) (enc_v v) size (W st)) ((definition.when◌then◌else◌ b (w.pure v) (w.by_sizes λ sec. sizes.set_size sec size v)) e st)
      go true = unfold base_opens in same-stated st f v h
      go false = unfold base_opens in set_size_lem s t e front tail rest holds spare st room f v size l h

  pub take_stated_lem : (st : State) → Stands st → (size : ℕ) (v : Value) → size < 65535 → Sound e.section (count st) v → Sets st (take_stated s t (M st) (enc_v v) size (W st)) (d.take_stated size v e st)
  unfolding take_stated d.take_stated
  take_stated_lem st f size v l h =
      rw (size_is s t e.section holds rest (tmps st) f.sizes v h)
      (go (eqb size 0) (sizes.size_of e.section (tmps st) v) refl (known_small s t e.section holds rest (tmps st) f.sizes v h))
    where
      known : (z : Option ℕ) → Small z → Sets st (when eqb (or_none z) 65535 then set_size s t (M st) (enc_v v) size (W st) else listed (stated (record { kind = kind_number v.kind; number = v.number; offset = v.offset; size = size }) (W st)) (M st)) (d.take_known z size v e st)
      known none k = unfold or_none or_else d.take_known in set_size_lem s t e front tail rest holds spare st room f v size l h
      known (some n) k = unfold or_none or_else d.take_known in rw (ne_eqb n 65535 (λ q. omega arith))
          (unfold seen_stated in refines_done e.section front tail rest (suc spare) st enc_v (Sound e.section) (truncate size v) _ (stood_more (suc spare) (omega arith) f) (record { number = h.number; offset = h.offset; size = l }) refl)

      go : (b : Bool) (z : Option ℕ) → sizes.size_of e.section (tmps st) v ≡ z → Small z
          → Sets st (when b then listed (stated (enc_v v) (W st)) (M st) else when eqb (or_none z) 65535 then set_size s t (M st) (enc_v v) size (W st) else listed (stated (record { kind = kind_number v.kind; number = v.number; offset = v.offset; size = size }) (W st)) (M st))
          ((definition.when◌then◌else◌ b (w.pure v) (λ e st. on e (w.known_size v e st) λ known. d.take_known known size v)) e st)
      go true z q k = unfold base_opens in same-stated st f v h
      go false z q k = unfold base_opens on in rw q (known z k)
