-- A statement begins: it has its ordinal, may not follow an export, and is counted up to 4,096, as in the definition.
use Prim.Native.Nat.{ℕ, ◌+◌, ◌<◌}
use mathlib.Core.Path.{◌≡◌, refl}
use mathlib.Core.Bool.{Bool, true, false, not}
use mathlib.Core.Option.{Option, none, some}
use native.Mathlib.Omega.{arith}
use lib.Dec.{eqb, leb}
use borrow.Author.Tests.{leb-true, leb-false, eq-eqb}
use Rattle.prelude.specs.Base.{is_some, or_else, when◌then◌else◌}
use Rattle.definition.specs.Refusals.{Refusal, refusal_number, after_export, too_many_statements}
use Rattle.definition.specs.Value.{ExportKind, Export}
use Rattle.definition.specs.Walk.{State, Env, Outcome, done, stopped, on, require}
use Rattle.definition.specs.Statements as d
use Rattle.definition.specs.ActionList.{or_none, export_kind_number}
use Rattle.list_refinement.specs.Encoding.{enc_s}
use Rattle.stmt_walk.specs.Outcomes.{Step}
use Rattle.stmt_bodies.specs.Statements.{begun, begin}
use Rattle.stmt_refinement.specs.Standing.{Beside, ExportIs, walk_of}

-- what is beside a walk after one statement more
abbrev pub one_more : Beside → Beside
one_more b = record { labels = b.labels; placed = b.placed; statements = b.statements + 1; export = b.export }

-- the state of a statement that has begun
abbrev pub started : ℕ → State → State
started ordinal st = d.counted (d.begin_at ordinal st)

-- Both begin, or both refuse with the same number and the statement's own ordinal.
pub data Begins (base ordinal : ℕ) (b : Beside) (st : State) (x : Step) (o : Outcome (Unit {0})) : Type 0 where
  begins : x ≡ Step.Next 0 (walk_of (one_more b) (enc_s base (started ordinal st))) → o ≡ done tt (started ordinal st) → st.statements < 4096 → st.export ≡ none → Begins base ordinal b st x o
  refuses : (r : Refusal) → x ≡ Step.Stop (refusal_number r) ordinal → o ≡ stopped r (some ordinal) 0 → Begins base ordinal b st x o

module _ (e : Env) (base ordinal : ℕ) (b : Beside) (st : State) (same : b.statements ≡ st.statements) (export : ExportIs st.export b.export) where
  exported : (x : Option Export) → ExportIs x b.export → eqb b.export.kind 0 ≡ not (is_some x)
  exported none h = unfold is_some in eq-eqb b.export.kind 0 h.0
  exported (some y) h = unfold is_some in rw h (go y.kind)
    where
      go : (k : ExportKind) → eqb (export_kind_number k) 0 ≡ false
      go ExportKind.PlainValue = unfold export_kind_number in refl
      go ExportKind.RamRef = unfold export_kind_number in refl
      go ExportKind.RegisterRef = unfold export_kind_number in refl

  pub begin_is : Begins base ordinal b st (begin ordinal (walk_of b (enc_s base st))) (d.begin ordinal e st)
  unfolding begin d.begin d.begin_at d.counted on
  begin_is = rw (exported st.export export) (go st.export refl (leb 4096 b.statements) refl (leb (st.statements + 1) 4096) refl)
    where
      go : (x : Option Export) → st.export ≡ x → (c : Bool) → leb 4096 b.statements ≡ c → (l : Bool) → leb (st.statements + 1) 4096 ≡ l
          → Begins base ordinal b st (when not (is_some x) then (when c then Step.Stop 10 ordinal else Step.Next 0 (begun ordinal (b.statements + 1) (walk_of b (enc_s base st)))) else Step.Stop 20 ordinal)
          (on e (require (not (is_some x)) after_export e (d.begin_at ordinal st)) λ _ e1 st1. on e1 (require l too_many_statements e1 st1) λ _ e2 st2. done tt (d.counted st2))
      go (some y) q c p l r = unfold is_some require on d.begin_at in refuses after_export (unfold refusal_number in refl) refl
      go none q true p true r = let k = leb-true 4096 b.statements p in let j = leb-true (st.statements + 1) 4096 r in absurd (omega (arith, same))
      go none q true p false r = unfold is_some require on d.begin_at in refuses too_many_statements (unfold refusal_number in refl) refl
      go none q false p true r = unfold is_some require on d.begin_at d.counted or_none or_else in begins refl refl (let j = leb-true (st.statements + 1) 4096 r in omega arith) q
      go none q false p false r = let k = leb-false 4096 b.statements p in let j = leb-false (st.statements + 1) 4096 r in absurd (omega (arith, same))
