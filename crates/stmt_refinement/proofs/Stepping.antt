-- A statement's answer as a step of the walk: what stands and is framed after expressions, pushes and a new local, and how
-- steps follow each other.
use Prim.Native.Nat.{ℕ, ◌+◌, ◌≤◌, ◌<◌}
use mathlib.Core.Path.{◌≡◌, refl, sym, ◌∙◌, ap, subst}
use mathlib.Core.Bool.{Bool, true, false}
use mathlib.Core.List.{List}
use mathlib.Core.Option.{Option, none, some}
use native.Mathlib.Omega.{arith}
use lib.Dec.{eqb}
use borrow.Author.Tests.{eqb-true}
use Rattle.definition.specs.Refusals.{Refusal, refusal_number}
use Rattle.definition.specs.Value.{Value, Export}
use Rattle.definition.specs.Walk as walks
use Rattle.definition.specs.Walk.{ExprValue, Scope, State, Env, Outcome, done, stopped, on}
use Rattle.definition.specs.ActionList.{or_none, labels_placed}
use Rattle.definition_guarantee.proofs.Outcomes.{positive}
use Rattle.list_values.specs.declared.value.Value.{Value as WordValue}
use Rattle.list_pushes.specs.declared.push.State.{State as WordState}
use Rattle.list_pushes.specs.declared.push.Env.{Env as WordEnv}
use Rattle.prelude.specs.Base.{when◌then◌else◌}
use Rattle.list_refinement.specs.Encoding.{enc_v, Sound, EachOption}
use Rattle.list_refinement.proofs.Seen.{Seen, no, yes, outcome}
use Rattle.expr_scope.specs.declared.scope.ExprValue.{ExprValue as WordExpr}
use Rattle.expr_terms.specs.Outcomes.{Expr}
use Rattle.expr_terms.specs.Outcomes.{Operand}
use Rattle.expr_terms.specs.Answers.{ExprOut, resolved, on_expr, OperandOut, operand, on_operand}
use Rattle.stmt_walk.specs.Outcomes.{Step}
use Rattle.stmt_walk.specs.Walks.{Stepped, stepped, Walked, walked, beside_p}
use Rattle.expr_refinement.proofs.Encodings.{sound_more}
use Rattle.expr_refinement.proofs.Answers.{acts, temps, word, seen_expr, seen_operand, Halts, Reached, Refines}
use Rattle.expr_refinement.proofs.Scopes.{scoped-later}
use Rattle.stmt_refinement.proofs.Views.{seen_step, Goes}
use Rattle.stmt_refinement.proofs.Steps.{Steps}
use Rattle.stmt_refinement.proofs.Frames.{framed_trans}
use Rattle.expr_refinement.specs.Encoding.{enc_x, SoundX, count}
use Rattle.stmt_refinement.specs.Standing.{Beside, beside, ExportIs, walk_of, SoundExport, LabelsIn, Standing, Framed}

-- What was seen of a step.

pub seen_next : (begun : ℕ) (x : Stepped) (p : List ℕ) (d : ℕ × Beside) (st : WordState) (a m : List ℕ) → seen_step begun x ≡ yes d st a m → beside_p p x ≡ walked (Step.Next d.0 (walk_of d.1 st)) p a m
unfolding seen_step beside_p
seen_next begun (stepped (Step.Next n w) b u) p d st a m h = let o : (n, beside w) ≡ d = cc in let q : w.st ≡ st = cc in let r : b ≡ a = cc in let k : u ≡ m = cc in rw (← o, ← q, r, k)
seen_next begun (stepped (Step.Stop n ordinal) b u) p d st a m h = let z : ◌≡◌ {A = ℕ} 0 1 = cc in absurd (omega arith)

pub seen_stop : (begun : ℕ) (x : Stepped) (p : List ℕ) (k : ℕ) → 0 < k → seen_step begun x ≡ no k → (a : List ℕ) × (m : List ℕ) × (beside_p p x ≡ walked (Step.Stop k begun) p a m)
unfolding seen_step beside_p
seen_stop begun (stepped (Step.Next n w) b u) p k l h = let z : ◌≡◌ {A = ℕ} 0 1 = cc in absurd (omega arith)
seen_stop begun (stepped (Step.Stop n ordinal) b u) p k l h = (b, u, go (eqb ordinal begun) refl h)
  where
    go : (c : Bool) → eqb ordinal begun ≡ c → ◌≡◌ {A = Seen (ℕ × Beside)} (no (when c then n else 0)) (no k) → walked (Step.Stop n ordinal) p b u ≡ walked (Step.Stop k begun) p b u
    go true q h = let i : n ≡ k = cc in rw (i, eqb-true ordinal begun q)
    go false q h = let i : 0 ≡ k = cc in absurd (omega arith)

pub export_more : (e : Env) (n k : ℕ) → n ≤ k → (x : Option Export) → EachOption (SoundExport e.section n) x → EachOption (SoundExport e.section k) x
export_more e n k l none h = tt
export_more e n k l (some x) h = record { value = sound_more e.section n k l x.value h.value; size = h.size }

module _ (t : List ℕ) (e : Env) (front tail rest : List ℕ) (we : WordEnv) (spare : ℕ) where
  abbrev Stand : List ℕ → Beside → State → Type 0
  Stand p b st = Standing t e tail rest we spare p b st

  abbrev StepsTo : ℕ → Beside → State → ℕ → Walked → Outcome (Unit {0}) → Type 0
  StepsTo placing b from next x o = Steps t e front tail rest we spare placing b from next x o

  -- after an expression, or a push
  pub standing_later : (p : List ℕ) (b : Beside) (from u : State) → Stand p b from → Reached e.section front tail rest spare from u → Stand p b u
  standing_later p b from u h r = let l = r.later in record {
    stood = r.stood;
    scoped = scoped-later t p we from u l h.scoped;
    labelled = subst (λ (x : Scope). LabelsIn p b.labels x.labels) (sym l.scope) h.labelled;
    labels = h.labels ∙ sym l.next_label;
    few = h.few;
    statements = h.statements ∙ sym l.statements;
    export = subst (λ (x : Option Export). ExportIs x b.export) (sym l.export) h.export;
    export_sound = subst (λ (x : Option Export). EachOption (SoundExport e.section (count u)) x) (sym l.export) (export_more e (count from) (count u) l.temporaries from.export h.export_sound);
    long = h.long;
  }

  pub framed_later : (b : Beside) (from u : State) → Reached e.section front tail rest spare from u → Framed b from b u
  framed_later b from u r = record { labels = omega arith; temporaries = r.later.temporaries }

  module _ (placing : ℕ) (b : Beside) (from : State) (next : ℕ) where
    -- a refusal at the statement that has begun
    pub steps-stop : (x : Walked) (r : Refusal) (ordinal : Option ℕ) (errors n begun : ℕ) (q a m : List ℕ) → (ordinal ≡ from.sizing.begun) × (errors ≡ 0) → n ≡ refusal_number r → begun ≡ or_none from.sizing.begun
        → x ≡ walked (Step.Stop n begun) q a m → StepsTo placing b from next x (stopped r ordinal errors)
    steps-stop x r ordinal errors n begun q a m i j k h = Steps.stops r q a m (rw (i.0, i.1)) (rw (← j, ← k) h)

    -- what was seen, as a step
    pub steps_seen : (p : List ℕ) (c : Beside) (begun : ℕ) (x : Stepped) (o : Outcome (Unit {0})) → begun ≡ or_none from.sizing.begun → seen_step begun x ≡ outcome front tail rest (λ (_ : Unit {0}). (next, c)) o
        → Halts from o → c.placed ≡ b.placed + placing → ((u : State) → o ≡ done tt u → Stand p c u × Framed b from c u × (labels_placed u.actions ≡ labels_placed from.actions + placing)) → StepsTo placing b from next (beside_p p x) o
    unfolding outcome
    steps_seen p c begun x (done a u) q h i k g = let j = g u refl in Steps.goes u p c refl (seen_next begun x p (next, c) _ _ _ h) j.0 j.1 k j.2
    steps_seen p c begun x (stopped r ordinal errors) q h i k g = let j = seen_stop begun x p (refusal_number r) (positive r) h in steps-stop (beside_p p x) r ordinal errors (refusal_number r) begun p j.0 j.1 (i r ordinal errors refl) refl q j.2

  pub steps_goes : (p : List ℕ) (b : Beside) (from : State) (next begun : ℕ) (x : Stepped) (o : Outcome (Unit {0})) → Stand p b from → begun ≡ or_none from.sizing.begun
      → Goes e.section front tail rest spare from next b begun x o → StepsTo 0 b from next (beside_p p x) o
  steps_goes p b from next begun x o h q r =
      steps_seen 0 b from next p b begun x o q r.same r.stops (omega arith) λ u j. let k = (r.goes tt u j).0 in (standing_later p b from u h k, framed_later b from u k, k.later.placed ∙ omega arith)

  -- steps follow what is framed
  pub steps_then : (first placing all : ℕ) (b : Beside) (from : State) (c : Beside) (mid : State) (next : ℕ) (x : Walked) (o : Outcome (Unit {0}))
      → Framed b from c mid → mid.sizing.begun ≡ from.sizing.begun → c.placed ≡ b.placed + first → labels_placed mid.actions ≡ labels_placed from.actions + first → all ≡ first + placing
      → StepsTo placing c mid next x o → StepsTo all b from next x o
  steps_then first placing all b from c mid next x o g begun k n j (Steps.goes u r f i h stand frame l m) =
      Steps.goes u r f i h stand (framed_trans g frame) (omega arith) (omega arith)
  steps_then first placing all b from c mid next x o g begun k n j (Steps.stops r y a m i h) = Steps.stops r y a m (rw (← begun) i) (rw (← begun) h)

  module _ {R : Type 0} (wrap : R → Walked) (placing : ℕ) (p : List ℕ) (b : Beside) (from : State) (next begun : ℕ) (stand : Stand p b from) (begun-is : begun ≡ or_none from.sizing.begun) where
    -- on from a later state
    abbrev Onwards : State → Walked → Outcome (Unit {0}) → Type 0
    Onwards u x o = Stand p b u → begun ≡ or_none u.sizing.begun → StepsTo placing b u next x o

    abbrev pub Refusing : (ℕ → List ℕ → List ℕ → R) → Type 0
    Refusing g = (n : ℕ) (a m : List ℕ) → wrap (g n a m) ≡ walked (Step.Stop n begun) p a m

    steps-after : (u : State) (x : Walked) (o : Outcome (Unit {0})) → Reached e.section front tail rest spare from u → Onwards u x o → StepsTo placing b from next x o
    steps-after u x o r f =
        steps_then 0 placing placing b from b u next x o (framed_later b from u r) r.later.begun (omega arith) (r.later.placed ∙ omega arith) (omega arith)
        (f (standing_later p b from u stand r) (begun-is ∙ ap or_none (sym r.later.begun)))

    pub steps-expr : (x : ExprOut) (o : Outcome ExprValue) (end : ℕ) (f : WordExpr → ℕ → WordState → List ℕ → List ℕ → R) (g : ℕ → List ℕ → List ℕ → R) (k : ExprValue → walks.Walk (Unit {0}))
        → Refines e.section front tail rest spare from (λ (x : ExprValue). (enc_x x, end)) (SoundX e.section) (seen_expr x) o → Refusing g
        → ((y : ExprValue) (u : State) → Reached e.section front tail rest spare from u → SoundX e.section (count u) y
        → Onwards u (wrap (f (enc_x y) end (word e.section front tail rest u) (acts e.section front tail rest u) (temps e.section front tail rest u))) (k y e u))
        → StepsTo placing b from next (wrap (on_expr x f g)) (on e o k)
    unfolding seen_expr on_expr on outcome
    steps-expr (resolved (Expr.Value n v st) a m) (done y u) end f g k r stops i =
        let z = r.same in
        let d : ◌≡◌ {A = WordExpr × ℕ} (v, n) (enc_x y, end) = cc in
        let d0 : v ≡ enc_x y = ap (λ (j : WordExpr × ℕ). j.0) d in
        let d1 : n ≡ end = ap (λ (j : WordExpr × ℕ). j.1) d in
        let w : st ≡ word e.section front tail rest u = cc in
        let c : a ≡ acts e.section front tail rest u = cc in
        let l : m ≡ temps e.section front tail rest u = cc in
        let j = r.goes y u refl in
        rw (d0, d1, w, c, l) (steps-after u _ _ j.0 (i y u j.0 j.1))
    steps-expr (resolved (Expr.Value n v st) a m) (stopped q ordinal errors) end f g k r stops i = let h = r.same in let z : ◌≡◌ {A = ℕ} 0 1 = cc in absurd (omega arith)
    steps-expr (resolved (Expr.No n) a m) (done y u) end f g k r stops i = let h = r.same in let z : ◌≡◌ {A = ℕ} 0 1 = cc in absurd (omega arith)
    steps-expr (resolved (Expr.No n) a m) (stopped q ordinal errors) end f g k r stops i = let h = r.same in let z : n ≡ refusal_number q = cc in steps-stop placing b from next _ q ordinal errors n begun p a m (r.stops q ordinal errors refl) z begun-is (stops n a m)

    pub steps-operand : (x : OperandOut) (o : Outcome Value) (end : ℕ) (f : WordValue → ℕ → WordState → List ℕ → List ℕ → R) (g : ℕ → List ℕ → List ℕ → R) (k : Value → walks.Walk (Unit {0}))
        → Refines e.section front tail rest spare from (λ (v : Value). (enc_v v, end)) (Sound e.section) (seen_operand x) o → Refusing g
        → ((y : Value) (u : State) → Reached e.section front tail rest spare from u → Sound e.section (count u) y
        → Onwards u (wrap (f (enc_v y) end (word e.section front tail rest u) (acts e.section front tail rest u) (temps e.section front tail rest u))) (k y e u))
        → StepsTo placing b from next (wrap (on_operand x f g)) (on e o k)
    unfolding seen_operand on_operand on outcome
    steps-operand (operand (Operand.Value v n st) a m) (done y u) end f g k r stops i =
        let z = r.same in
        let d : ◌≡◌ {A = WordValue × ℕ} (v, n) (enc_v y, end) = cc in
        let d0 : v ≡ enc_v y = ap (λ (j : WordValue × ℕ). j.0) d in
        let d1 : n ≡ end = ap (λ (j : WordValue × ℕ). j.1) d in
        let w : st ≡ word e.section front tail rest u = cc in
        let c : a ≡ acts e.section front tail rest u = cc in
        let l : m ≡ temps e.section front tail rest u = cc in
        let j = r.goes y u refl in
        rw (d0, d1, w, c, l) (steps-after u _ _ j.0 (i y u j.0 j.1))
    steps-operand (operand (Operand.Value v n st) a m) (stopped q ordinal errors) end f g k r stops i = let h = r.same in let z : ◌≡◌ {A = ℕ} 0 1 = cc in absurd (omega arith)
    steps-operand (operand (Operand.No n) a m) (done y u) end f g k r stops i = let h = r.same in let z : ◌≡◌ {A = ℕ} 0 1 = cc in absurd (omega arith)
    steps-operand (operand (Operand.No n) a m) (stopped q ordinal errors) end f g k r stops i = let h = r.same in let z : n ≡ refusal_number q = cc in steps-stop placing b from next _ q ordinal errors n begun p a m (r.stops q ordinal errors refl) z begun-is (stops n a m)
