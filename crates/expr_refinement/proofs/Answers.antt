-- Answers compared: what a step of the words answers is what the definition's step answers, and the state and value that
-- it ends with are sound. And how such steps follow each other: one lemma for each kind of answer.
use Prim.Native.Nat.{ℕ}
use mathlib.Core.Path.{◌≡◌, refl, ◌∙◌}
use mathlib.Core.Bool.{Bool, true, false}
use mathlib.Core.List.{List}
use mathlib.Core.Option.{Option}
use lib.ListN.{length}
use Rattle.definition.specs.Refusals.{Refusal, refusal_number}
use Rattle.definition.specs.Ast.{Section}
use Rattle.definition.specs.Walk.{State, Env, Outcome, done, stopped, on, Walk, require}
use Rattle.list_values.specs.declared.value.Value.{Value as WordValue}
use Rattle.list_pushes.specs.declared.push.State.{State as WordState}
use Rattle.list_pushes.specs.Outcomes.{Read}
use Rattle.list_pushes.specs.Outcomes.{Pushed}
use Rattle.list_values.specs.Base.{Listed, listed}
use Rattle.prelude.specs.Base.{when◌then◌else◌}
use Rattle.list_pushes.specs.Pushes.{ReadOut, read, PushedOut, pushed, on_read, on_pushed, on_tmp}
use Rattle.list_refinement.specs.Encoding.{actions_in, temporaries_in, enc_s}
use Rattle.list_refinement.proofs.Seen.{Seen, no, yes, seen_read, seen_pushed, seen_tmp, outcome}
use Rattle.expr_scope.specs.declared.scope.ExprValue.{ExprValue as WordExpr}
use Rattle.expr_terms.specs.Outcomes.{Expr}
use Rattle.expr_terms.specs.Outcomes.{Operand}
use Rattle.expr_scope.specs.Outcomes.{Args}
use Rattle.expr_terms.specs.Answers.{ExprOut, resolved, on_expr, OperandOut, operand, on_operand, ArgsOut, passed, on_args}
use Rattle.expr_refinement.proofs.Encodings.{later_refl, later_trans}
use Rattle.expr_refinement.specs.Encoding.{count, Stood, Later}

-- the value and the position behind it
unfoldable pub seen_expr : ExprOut → Seen (WordExpr × ℕ)
seen_expr (resolved (Expr.Value next x st) a m) = yes (x, next) st a m
seen_expr (resolved (Expr.No n) a m) = no n

unfoldable pub seen_operand : OperandOut → Seen (WordValue × ℕ)
seen_operand (operand (Operand.Value v next st) a m) = yes (v, next) st a m
seen_operand (operand (Operand.No n) a m) = no n

-- the arguments' words and the position
unfoldable pub seen_args : ArgsOut → Seen (List ℕ × ℕ)
seen_args (passed (Args.Done next st) a m args) = yes (args, next) st a m
seen_args (passed (Args.No n) a m args) = no n

-- a refusal is at the statement that has begun, and counts no errors
abbrev pub Halts : {A : Type 0} → State → Outcome A → Type 0
Halts from o = (r : Refusal) (ordinal : Option ℕ) (errors : ℕ) → o ≡ stopped r ordinal errors → (ordinal ≡ from.sizing.begun) × (errors ≡ 0)

pub halts_done : {A : Type 0} (from : State) (a : A) (st : State) → Halts from (done a st)
halts_done from a st r ordinal errors q = cc

pub halts_here : {A : Type 0} (from : State) (r : Refusal) → Halts {A = A} from (stopped r from.sizing.begun 0)
halts_here from r k ordinal errors q = (cc, cc)

pub halts_on : {A C : Type 0} (e : Env) (from : State) (o : Outcome A) (k : A → Walk C) → Halts from o → ((a : A) (st : State) → o ≡ done a st → (st.sizing.begun ≡ from.sizing.begun) × Halts st (k a e st)) → Halts from (on e o k)
unfolding on
halts_on e from (done a st) k h f = λ r ordinal errors q. let g = f a st refl in let i = g.1 r ordinal errors q in (i.0 ∙ g.0, i.1)
halts_on e from (stopped r ordinal errors) k h f = λ c o n q. h c o n cc

module _ (sec : Section) (front tail rest : List ℕ) where
  abbrev pub acts : State → List ℕ
  acts st = actions_in front tail st.actions

  abbrev pub temps : State → List ℕ
  temps st = temporaries_in rest st.sizing.temporaries

  abbrev pub word : State → WordState
  word st = enc_s (length front) st

  -- what is reached from a state
  pub record Reached (spare : ℕ) (from st : State) : Type 0 where
    pub stood : Stood sec tail rest spare st
    pub later : Later from st

  -- P is what holds of the value, with so many temporaries
  pub record Refines {A B : Type 0} (spare : ℕ) (from : State) (enc : A → B) (P : ℕ → A → Type 0) (x : Seen B) (o : Outcome A) : Type 0 where
    pub same : x ≡ outcome front tail rest enc o
    pub goes : (a : A) (st : State) → o ≡ done a st → Reached spare from st × P (count st) a
    pub stops : Halts from o

  -- done, in this state or a later one
  pub refines_at : {A B : Type 0} (spare : ℕ) (from st : State) (enc : A → B) (P : ℕ → A → Type 0) (a : A) (b : B) → Reached spare from st → P (count st) a → b ≡ enc a
      → Refines spare from enc P (yes b (word st) (acts st) (temps st)) (done a st)
  unfolding outcome
  refines_at spare from st enc P a b f g h = record {
    same = rw h;
    goes = λ c u e. let p : a ≡ c = cc in let q : st ≡ u = cc in rw (← p, ← q) (f, g);
    stops = halts_done from a st;
  }

  pub refines_done : {A B : Type 0} (spare : ℕ) (st : State) (enc : A → B) (P : ℕ → A → Type 0) (a : A) (b : B) → Stood sec tail rest spare st → P (count st) a → b ≡ enc a
      → Refines spare st enc P (yes b (word st) (acts st) (temps st)) (done a st)
  refines_done spare st enc P a b f g h = refines_at spare st st enc P a b (record { stood = f; later = later_refl st }) g h

  pub refines_stopped : {A B : Type 0} (spare : ℕ) (st : State) (enc : A → B) (P : ℕ → A → Type 0) (n : ℕ) (r : Refusal) → n ≡ refusal_number r
      → Refines spare st enc P (no n) (stopped r st.sizing.begun 0)
  unfolding outcome
  refines_stopped spare st enc P n r h = record {
    same = rw h;
    goes = λ c u e. cc;
    stops = halts_here st r;
  }

  -- another spare, another property
  pub weaken : {A B : Type 0} (spare more : ℕ) (st : State) (enc : A → B) (P Q : ℕ → A → Type 0) (x : Seen B) (o : Outcome A) → Refines spare st enc P x o
      → ((a : A) (u : State) → o ≡ done a u → Reached spare st u → P (count u) a → Reached more st u × Q (count u) a) → Refines more st enc Q x o
  weaken spare more st enc P Q x o r f = record { same = r.same; goes = λ a u e. let g = r.goes a u e in f a u e g.0 g.1; stops = r.stops }

  module _ {A B C D R : Type 0} (spare more : ℕ) (e : Env) (from : State) (enc : A → D) (P : ℕ → A → Type 0) (seen : R → Seen B) (enc_c : C → B) (Q : ℕ → C → Type 0) (k : A → Walk C) where
    -- on with a value
    abbrev pub Continues : (D → WordState → List ℕ → List ℕ → R) → Type 0
    Continues f = (a : A) (st : State) → Reached spare from st → P (count st) a → Refines more st enc_c Q (seen (f (enc a) (word st) (acts st) (temps st))) (k a e st)

    then_goes : (o : Outcome A) (f : D → WordState → List ℕ → List ℕ → R) → ((a : A) (st : State) → o ≡ done a st → Reached spare from st × P (count st) a) → Continues f
        → (c : C) (st : State) → on e o k ≡ done c st → Reached more from st × Q (count st) c
    unfolding on
    then_goes (done a st) f g i c u h =
        let r = g a st refl in
        let j = (i a st r.0 r.1).goes c u h in
        (record { stood = j.0.stood; later = later_trans r.0.later j.0.later }, j.1)
    then_goes (stopped r ordinal errors) f g i c u h = cc

    -- what an answer does to the rest, whatever its type: where it is seen to go on, the rest goes on
    then_same : (x : Seen D) (o : Outcome A) (y : R) (f : D → WordState → List ℕ → List ℕ → R) → Refines spare from enc P x o → Continues f
        → ((d : D) (st : WordState) (a m : List ℕ) → x ≡ yes d st a m → seen y ≡ seen (f d st a m)) → ((n : ℕ) → x ≡ no n → seen y ≡ no n) → seen y ≡ outcome front tail rest enc_c (on e o k)
    unfolding on outcome
    then_same x (done a st) y f r i g h = let j = r.goes a st refl in g _ _ _ _ r.same ∙ (i a st j.0 j.1).same
    then_same x (stopped r ordinal errors) y f q i g h = h _ q.same

    pub bind : (x : Seen D) (o : Outcome A) (y : R) (f : D → WordState → List ℕ → List ℕ → R) → Refines spare from enc P x o → Continues f
        → ((d : D) (st : WordState) (a m : List ℕ) → x ≡ yes d st a m → seen y ≡ seen (f d st a m)) → ((n : ℕ) → x ≡ no n → seen y ≡ no n) → Refines more from enc_c Q (seen y) (on e o k)
    bind x o y f r i g h = record { same = then_same x o y f r i g h; goes = then_goes o f r.goes i; stops = halts_on e from o k r.stops (λ a st q. let j = r.goes a st q in (j.0.later.begun, (i a st j.0 j.1).stops)) }

  module _ {A B C R : Type 0} (spare more : ℕ) (e : Env) (from : State) (P : ℕ → A → Type 0) (seen : R → Seen B) (enc_c : C → B) (Q : ℕ → C → Type 0) (k : A → Walk C) where
    abbrev pub Refuses : (ℕ → List ℕ → List ℕ → R) → Type 0
    Refuses g = (n : ℕ) (a m : List ℕ) → seen (g n a m) ≡ no n

    pub bind_read : (enc : A → WordValue) (x : ReadOut) (o : Outcome A) (f : WordValue → WordState → List ℕ → List ℕ → R) (g : ℕ → List ℕ → List ℕ → R) → Refines spare from enc P (seen_read x) o → Refuses g
        → ((a : A) (st : State) → Reached spare from st → P (count st) a → Refines more st enc_c Q (seen (f (enc a) (word st) (acts st) (temps st))) (k a e st)) → Refines more from enc_c Q (seen (on_read x f g)) (on e o k)
    bind_read enc x o f g r j i = bind spare more e from enc P seen enc_c Q k (seen_read x) o (on_read x f g) f r i (go x) (stop x)
      where
        go : (x : ReadOut) (d : WordValue) (st : WordState) (a m : List ℕ) → seen_read x ≡ yes d st a m → seen (on_read x f g) ≡ seen (f d st a m)
        go (read (Read.Value v st) a m) d u b w h = unfold seen_read on_read in (let p : v ≡ d = cc in let q : st ≡ u = cc in let r : a ≡ b = cc in let t : m ≡ w = cc in rw (p, q, r, t))
        go (read (Read.No n) a m) d u b w h = unfold seen_read in cc

        stop : (x : ReadOut) (n : ℕ) → seen_read x ≡ no n → seen (on_read x f g) ≡ no n
        stop (read (Read.Value v st) a m) n h = unfold seen_read in cc
        stop (read (Read.No k) a m) n h = unfold seen_read on_read in (let p : k ≡ n = cc in j k a m ∙ rw p)

    -- where only the temporaries are lent, beside these actions
    pub bind_tmp : (enc : A → WordValue) (actions : List ℕ) (x : Listed Read) (o : Outcome A) (f : WordValue → WordState → List ℕ → List ℕ → R) (g : ℕ → List ℕ → R) → Refines spare from enc P (seen_tmp actions x) o
        → ((n : ℕ) (m : List ℕ) → seen (g n m) ≡ no n)
        → ((a : A) (st : State) → Reached spare from st → P (count st) a → Refines more st enc_c Q (seen (f (enc a) (word st) (acts st) (temps st))) (k a e st))
        → Refines more from enc_c Q (seen (on_tmp x (λ v st m. f v st actions m) g)) (on e o k)
    bind_tmp enc actions x o f g r j i = bind spare more e from enc P seen enc_c Q k (seen_tmp actions x) o (on_tmp x (λ v st m. f v st actions m) g) f r i (go x) (stop x)
      where
        go : (x : Listed Read) (d : WordValue) (st : WordState) (a m : List ℕ) → seen_tmp actions x ≡ yes d st a m → seen (on_tmp x (λ v st m. f v st actions m) g) ≡ seen (f d st a m)
        go (listed (Read.Value v st) m) d u b w h = unfold seen_tmp on_tmp in (let p : v ≡ d = cc in let q : st ≡ u = cc in let r : actions ≡ b = cc in let t : m ≡ w = cc in rw (p, q, r, t))
        go (listed (Read.No n) m) d u b w h = unfold seen_tmp in cc

        stop : (x : Listed Read) (n : ℕ) → seen_tmp actions x ≡ no n → seen (on_tmp x (λ v st m. f v st actions m) g) ≡ no n
        stop (listed (Read.Value v st) m) n h = unfold seen_tmp in cc
        stop (listed (Read.No k) m) n h = unfold seen_tmp on_tmp in (let p : k ≡ n = cc in j k m ∙ rw p)

    pub bind_pushed : (x : PushedOut) (o : Outcome A) (f : WordState → List ℕ → List ℕ → R) (g : ℕ → List ℕ → List ℕ → R) → Refines spare from (λ _. tt {0}) P (seen_pushed x) o → Refuses g
        → ((a : A) (st : State) → Reached spare from st → P (count st) a → Refines more st enc_c Q (seen (f (word st) (acts st) (temps st))) (k a e st)) → Refines more from enc_c Q (seen (on_pushed x f g)) (on e o k)
    bind_pushed x o f g r j i = bind spare more e from (λ _. tt {0}) P seen enc_c Q k (seen_pushed x) o (on_pushed x f g) (λ _. f) r i (λ _. go x) (stop x)
      where
        go : (x : PushedOut) {d : Unit {0}} (st : WordState) (a m : List ℕ) → seen_pushed x ≡ yes d st a m → seen (on_pushed x f g) ≡ seen (f st a m)
        go (pushed (Pushed.Done st) a m) {d} u b w h = unfold seen_pushed on_pushed in (let q : st ≡ u = cc in let r : a ≡ b = cc in let t : m ≡ w = cc in rw (q, r, t))
        go (pushed (Pushed.No n) a m) {d} u b w h = unfold seen_pushed in cc

        stop : (x : PushedOut) (n : ℕ) → seen_pushed x ≡ no n → seen (on_pushed x f g) ≡ no n
        stop (pushed (Pushed.Done st) a m) n h = unfold seen_pushed in cc
        stop (pushed (Pushed.No k) a m) n h = unfold seen_pushed on_pushed in (let p : k ≡ n = cc in j k a m ∙ rw p)

    pub bind_expr : (enc : A → WordExpr × ℕ) (x : ExprOut) (o : Outcome A) (f : WordExpr → ℕ → WordState → List ℕ → List ℕ → R) (g : ℕ → List ℕ → List ℕ → R) → Refines spare from enc P (seen_expr x) o → Refuses g
        → ((a : A) (st : State) → Reached spare from st → P (count st) a → Refines more st enc_c Q (seen (f (enc a).0 (enc a).1 (word st) (acts st) (temps st))) (k a e st)) → Refines more from enc_c Q (seen (on_expr x f g)) (on e o k)
    bind_expr enc x o f g r j i = bind spare more e from enc P seen enc_c Q k (seen_expr x) o (on_expr x f g) (λ d. f d.0 d.1) r i (go x) (stop x)
      where
        go : (x : ExprOut) (d : WordExpr × ℕ) (st : WordState) (a m : List ℕ) → seen_expr x ≡ yes d st a m → seen (on_expr x f g) ≡ seen (f d.0 d.1 st a m)
        go (resolved (Expr.Value next v st) a m) d u b w h = unfold seen_expr on_expr in (let o : (v, next) ≡ d = cc in let q : st ≡ u = cc in let r : a ≡ b = cc in let t : m ≡ w = cc in rw (← o, q, r, t))
        go (resolved (Expr.No n) a m) d u b w h = unfold seen_expr in cc

        stop : (x : ExprOut) (n : ℕ) → seen_expr x ≡ no n → seen (on_expr x f g) ≡ no n
        stop (resolved (Expr.Value next v st) a m) n h = unfold seen_expr in cc
        stop (resolved (Expr.No k) a m) n h = unfold seen_expr on_expr in (let p : k ≡ n = cc in j k a m ∙ rw p)

    pub bind_operand : (enc : A → WordValue × ℕ) (x : OperandOut) (o : Outcome A) (f : WordValue → ℕ → WordState → List ℕ → List ℕ → R) (g : ℕ → List ℕ → List ℕ → R) → Refines spare from enc P (seen_operand x) o → Refuses g
        → ((a : A) (st : State) → Reached spare from st → P (count st) a → Refines more st enc_c Q (seen (f (enc a).0 (enc a).1 (word st) (acts st) (temps st))) (k a e st)) → Refines more from enc_c Q (seen (on_operand x f g)) (on e o k)
    bind_operand enc x o f g r j i = bind spare more e from enc P seen enc_c Q k (seen_operand x) o (on_operand x f g) (λ d. f d.0 d.1) r i (go x) (stop x)
      where
        go : (x : OperandOut) (d : WordValue × ℕ) (st : WordState) (a m : List ℕ) → seen_operand x ≡ yes d st a m → seen (on_operand x f g) ≡ seen (f d.0 d.1 st a m)
        go (operand (Operand.Value v next st) a m) d u b w h = unfold seen_operand on_operand in (let o : (v, next) ≡ d = cc in let q : st ≡ u = cc in let r : a ≡ b = cc in let t : m ≡ w = cc in rw (← o, q, r, t))
        go (operand (Operand.No n) a m) d u b w h = unfold seen_operand in cc

        stop : (x : OperandOut) (n : ℕ) → seen_operand x ≡ no n → seen (on_operand x f g) ≡ no n
        stop (operand (Operand.Value v next st) a m) n h = unfold seen_operand in cc
        stop (operand (Operand.No k) a m) n h = unfold seen_operand on_operand in (let p : k ≡ n = cc in j k a m ∙ rw p)

    pub bind_args : (enc : A → List ℕ × ℕ) (x : ArgsOut) (o : Outcome A) (f : ℕ → WordState → List ℕ → List ℕ → List ℕ → R) (g : ℕ → List ℕ → List ℕ → R) → Refines spare from enc P (seen_args x) o → Refuses g
        → ((a : A) (st : State) → Reached spare from st → P (count st) a → Refines more st enc_c Q (seen (f (enc a).1 (word st) (acts st) (temps st) (enc a).0)) (k a e st)) → Refines more from enc_c Q (seen (on_args x f g)) (on e o k)
    bind_args enc x o f g r j i = bind spare more e from enc P seen enc_c Q k (seen_args x) o (on_args x f g) (λ d st a m. f d.1 st a m d.0) r i (go x) (stop x)
      where
        go : (x : ArgsOut) (d : List ℕ × ℕ) (st : WordState) (a m : List ℕ) → seen_args x ≡ yes d st a m → seen (on_args x f g) ≡ seen (f d.1 st a m d.0)
        go (passed (Args.Done next st) a m args) d u b w h = unfold seen_args on_args in (let o : (args, next) ≡ d = cc in let q : st ≡ u = cc in let r : a ≡ b = cc in let t : m ≡ w = cc in rw (← o, q, r, t))
        go (passed (Args.No n) a m args) d u b w h = unfold seen_args in cc

        stop : (x : ArgsOut) (n : ℕ) → seen_args x ≡ no n → seen (on_args x f g) ≡ no n
        stop (passed (Args.Done next st) a m args) n h = unfold seen_args in cc
        stop (passed (Args.No k) a m args) n h = unfold seen_args on_args in (let p : k ≡ n = cc in j k a m ∙ rw p)

  -- a value made of the one that was given
  pub refines_map : {A B C : Type 0} (spare : ℕ) (e : Env) (from : State) (enc : A → B) (P : ℕ → A → Type 0) (enc_c : C → B) (Q : ℕ → C → Type 0) (g : A → C) (x : Seen B) (o : Outcome A) → Refines spare from enc P x o
      → ((a : A) → enc a ≡ enc_c (g a)) → ((n : ℕ) (a : A) → P n a → Q n (g a)) → Refines spare from enc_c Q x (on e o λ a. λ e1 st1. done (g a) st1)
  unfolding on outcome
  refines_map spare e from enc P enc_c Q g x (done a st) r h k = record {
    same = r.same ∙ rw (h a);
    goes = λ c u q. let i : g a ≡ c = cc in let j : st ≡ u = cc in let l = r.goes a st refl in rw (← i, ← j) (l.0, k (count st) a l.1);
    stops = halts_done from (g a) st;
  }
  refines_map spare e from enc P enc_c Q g x (stopped r ordinal errors) f h k = record { same = f.same; goes = λ c u q. cc; stops = λ q o n h. f.stops q o n cc }

  -- a test: on with what passes it
  module _ {B C R : Type 0} (more : ℕ) (e : Env) (st : State) (seen : R → Seen B) (enc_c : C → B) (Q : ℕ → C → Type 0) where
    pub bind_require : (b : Bool) (r : Refusal) (y z : R) (k : Unit {0} → Walk C) → seen z ≡ no (refusal_number r) → (b ≡ true → Refines more st enc_c Q (seen y) (k tt e st))
        → Refines more st enc_c Q (seen (when b then y else z)) (on e (require b r e st) k)
    unfolding on require
    bind_require true r y z k h f = f refl
    bind_require false r y z k h f = rw h (refines_stopped more st enc_c Q (refusal_number r) r refl)

    -- the same, the other way round
    pub bind_unless : (b : Bool) (r : Refusal) (y z : R) (k : Unit {0} → Walk C) → seen z ≡ no (refusal_number r) → (b ≡ false → Refines more st enc_c Q (seen y) (k tt e st)) → (c : Bool) → (b ≡ false → c ≡ true) → (b ≡ true → c ≡ false)
        → Refines more st enc_c Q (seen (when b then z else y)) (on e (require c r e st) k)
    unfolding on require
    bind_unless true r y z k h f c i j = rw (j refl) (rw h (refines_stopped more st enc_c Q (refusal_number r) r refl))
    bind_unless false r y z k h f c i j = rw (i refl) (f refl)
