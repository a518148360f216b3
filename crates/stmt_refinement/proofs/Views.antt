-- Answers of statements compared: what a step goes on with, or its refusal at the statement that has begun. And how an
-- answer of a push or a read becomes that of a step.
use Prim.Native.Nat.{ℕ}
use mathlib.Core.Path.{◌≡◌, refl, ◌∙◌}
use mathlib.Core.List.{List}
use lib.Dec.{eqb}
use borrow.Author.Tests.{eq-eqb}
use Rattle.definition.specs.Refusals.{Refusal, refusal_number}
use Rattle.definition.specs.Value.{Export}
use Rattle.definition.specs.Ast.{Section}
use Rattle.definition.specs.Walk as walks
use Rattle.definition.specs.Walk.{State, Env, Outcome, done, stopped, on}
use Rattle.list_pushes.specs.Outcomes.{Read}
use Rattle.list_pushes.specs.Outcomes.{Pushed}
use Rattle.list_values.specs.Base.{Listed, listed, then_l}
use Rattle.prelude.specs.Base.{when◌then◌else◌}
use Rattle.list_pushes.specs.Pushes.{ReadOut, read, PushedOut, pushed}
use Rattle.list_refinement.proofs.Seen.{Seen, no, yes, seen_read, seen_pushed, seen_push, outcome}
use Rattle.stmt_walk.specs.Outcomes.{Walk}
use Rattle.stmt_walk.specs.Outcomes.{Step}
use Rattle.stmt_walk.specs.Walks.{Stepped, stepped, step_pushed, step_read, stop, pushed_then, read_then}
use Rattle.expr_refinement.proofs.Answers.{Refines, refines_map, refines_stopped}
use Rattle.stmt_refinement.specs.Standing.{Beside, beside, enc_e}

-- A refusal counts with the ordinal of the statement that has begun; with any other it is 0, the number of none.
unfoldable pub seen_step : ℕ → Stepped → Seen (ℕ × Beside)
seen_step begun (stepped (Step.Next next w) a m) = yes (next, beside w) w.st a m
seen_step begun (stepped (Step.Stop n ordinal) a m) = no (when eqb ordinal begun then n else 0)

abbrev pub begun_in : Walk → ℕ
begun_in w = w.st.sizing.begun

pub stop_seen : (n : ℕ) (w : Walk) (a m : List ℕ) → seen_step (begun_in w) (stepped (stop n w) a m) ≡ no n
unfolding seen_step
stop_seen n w a m = rw (eq-eqb (begun_in w) (begun_in w) refl)

-- another value
unfoldable pub map_seen : {A B : Type 0} → (A → B) → Seen A → Seen B
map_seen f (no n) = no n
map_seen f (yes a st b m) = yes (f a) st b m

pub pushed_seen : (x : PushedOut) (next : ℕ) (w : Walk) → seen_step (begun_in w) (step_pushed x (pushed_then next w)) ≡ map_seen (λ _. (next, beside w)) (seen_pushed x)
unfolding seen_step step_pushed pushed_then map_seen seen_pushed
pushed_seen (pushed (Pushed.Done st) a m) next w = refl
pushed_seen (pushed (Pushed.No n) a m) next w = rw (eq-eqb (begun_in w) (begun_in w) refl)

pub read_seen : (x : ReadOut) (next : ℕ) (w : Walk) → seen_step (begun_in w) (step_read x (read_then next w)) ≡ map_seen (λ _. (next, beside w)) (seen_read x)
unfolding seen_step step_read read_then map_seen seen_read
read_seen (read (Read.Value v st) a m) next w = refl
read_seen (read (Read.No n) a m) next w = rw (eq-eqb (begun_in w) (begun_in w) refl)

-- an action pushed, beside these temporaries
pub push_seen : (x : Listed Pushed) (m : List ℕ) (next : ℕ) (w : Walk)
    → seen_step (begun_in w) (then_l (then_l x (λ r b. listed (pushed_then next w r) b)) (λ r b. stepped r b m)) ≡ map_seen (λ _. (next, beside w)) (seen_push m x)
unfolding seen_step then_l pushed_then map_seen seen_push
push_seen (listed (Pushed.Done st) a) m next w = refl
push_seen (listed (Pushed.No n) a) m next w = rw (eq-eqb (begun_in w) (begun_in w) refl)

pub push_ends : (x : Listed Pushed) (m : List ℕ) (next : ℕ) (w : Walk) → seen_step (begun_in w) (then_l x λ r b. stepped (pushed_then next w r) b m) ≡ map_seen (λ _. (next, beside w)) (seen_push m x)
unfolding seen_step then_l pushed_then map_seen seen_push
push_ends (listed (Pushed.Done st) a) m next w = refl
push_ends (listed (Pushed.No n) a) m next w = rw (eq-eqb (begun_in w) (begun_in w) refl)

pub on_assoc : {A B C : Type 0} (e : Env) (o : Outcome A) (f : A → walks.Walk B) (g : B → walks.Walk C) → on e (on e o f) g ≡ on e o (λ a e1 st1. on e1 (f a e1 st1) g)
unfolding on
on_assoc e (done a st) f g = refl
on_assoc e (stopped r ordinal errors) f g = refl

abbrev pub with_exported : Export → Beside → Beside
with_exported x b = record { labels = b.labels; placed = b.placed; statements = b.statements; export = enc_e x }

module _ (sec : Section) (front tail rest : List ℕ) where
  -- the same answer with another value
  pub refines_as : {A B D : Type 0} (spare : ℕ) (from : State) (enc : A → B) (P : ℕ → A → Type 0) (f : B → D) (x : Seen B) (y : Seen D) (o : Outcome A) → Refines sec front tail rest spare from enc P x o → y ≡ map_seen f x
      → Refines sec front tail rest spare from (λ a. f (enc a)) P y o
  refines_as spare from enc P f x y o r h = record { same = h ∙ (rw r.same (go o)); goes = r.goes; stops = r.stops }
    where
      go : (o : Outcome _) → map_seen f (outcome front tail rest enc o) ≡ outcome front tail rest (λ a. f (enc a)) o
      go (done a st) = unfold outcome map_seen in refl
      go (stopped r ordinal errors) = unfold outcome map_seen in refl

  -- a refusal
  pub step_stops : {A : Type 0} (spare : ℕ) (from : State) (enc : A → ℕ × Beside) (P : ℕ → A → Type 0) (w : Walk) (a m : List ℕ) (n : ℕ) (r : Refusal) → n ≡ refusal_number r
      → Refines sec front tail rest spare from enc P (seen_step (begun_in w) (stepped (stop n w) a m)) (stopped r from.sizing.begun 0)
  step_stops spare from enc P w a m n r h = rw (stop_seen n w a m) (refines_stopped sec front tail rest spare from enc P n r h)

  -- an answer with no value: the walk goes on behind the statement
  abbrev pub Goes : ℕ → State → ℕ → Beside → ℕ → Stepped → Outcome (Unit {0}) → Type 0
  Goes spare from next b begun x o = Refines sec front tail rest spare from (λ (_ : Unit {0}). (next, b)) (λ n (_ : Unit {0}). Unit {0}) (seen_step begun x) o

  pub step_pushed_lem : (spare : ℕ) (from : State) (x : PushedOut) (o : Outcome (Unit {0})) (next : ℕ) (w : Walk) → Refines sec front tail rest spare from (λ _. tt {0}) (λ n (_ : Unit {0}). Unit {0}) (seen_pushed x) o
      → Goes spare from next (beside w) (begun_in w) (step_pushed x (pushed_then next w)) o
  step_pushed_lem spare from x o next w r = refines_as spare from (λ _. tt {0}) (λ n (_ : Unit {0}). Unit {0}) (λ _. (next, beside w)) (seen_pushed x) _ o r (pushed_seen x next w)

  pub step_push : (spare : ℕ) (from : State) (x : Listed Pushed) (m : List ℕ) (o : Outcome (Unit {0})) (next : ℕ) (w : Walk) → Refines sec front tail rest spare from (λ _. tt {0}) (λ n (_ : Unit {0}). Unit {0}) (seen_push m x) o
      → Goes spare from next (beside w) (begun_in w) (then_l (then_l x (λ r b. listed (pushed_then next w r) b)) (λ r b. stepped r b m)) o
  step_push spare from x m o next w r = refines_as spare from (λ _. tt {0}) (λ n (_ : Unit {0}). Unit {0}) (λ _. (next, beside w)) (seen_push m x) _ o r (push_seen x m next w)

  -- what was read is left where it is
  pub step_read_lem : {A B : Type 0} (spare : ℕ) (e : Env) (from : State) (enc : A → B) (P : ℕ → A → Type 0) (x : Seen B) (y : Stepped) (o : Outcome A) (next : ℕ) (b : Beside) (begun : ℕ) → Refines sec front tail rest spare from enc P x o
      → seen_step begun y ≡ map_seen (λ _. (next, b)) x → Goes spare from next b begun y (on e o λ _. λ e1 st1. done tt st1)
  step_read_lem spare e from enc P x y o next b begun r h =
      refines_map sec front tail rest spare e from (λ _. (next, b)) P (λ _. (next, b)) (λ n (_ : Unit {0}). Unit {0}) (λ _. tt) (seen_step begun y) o
      (refines_as spare from enc P (λ _. (next, b)) x (seen_step begun y) o r h) (λ a. refl) (λ n a p. tt)
