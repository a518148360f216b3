-- Answers compared: a refusal by its number alone, anything else with the state and both lists. And how answers follow
-- each other: one lemma for each kind of answer.
use Prim.Native.Nat.{ℕ}
use mathlib.Core.Path.{◌≡◌, refl, ◌∙◌}
use mathlib.Core.List.{List}
use lib.ListN.{length}
use Rattle.definition.specs.Refusals.{refusal_number}
use Rattle.definition.specs.Walk.{State, Env, Outcome, done, stopped, on, Walk}
use Rattle.list_values.specs.declared.value.Value.{Value as WordValue}
use Rattle.list_pushes.specs.declared.push.State.{State as WordState}
use Rattle.list_pushes.specs.Outcomes.{Read}
use Rattle.list_pushes.specs.Outcomes.{Pushed}
use Rattle.list_values.specs.Base.{Listed, listed}
use Rattle.list_pushes.specs.Pushes.{ReadOut, read, PushedOut, pushed, on_read, on_pushed, on_tmp, on_push}
use Rattle.list_refinement.specs.Encoding.{actions_in, temporaries_in, enc_s}

pub data Seen (A : Type 0) : Type 0 where
  no : ℕ → Seen A
  yes : A → WordState → List ℕ → List ℕ → Seen A

unfoldable pub seen_read : ReadOut → Seen WordValue
seen_read (read (Read.Value v st) a m) = yes v st a m
seen_read (read (Read.No n) a m) = no n

unfoldable pub seen_pushed : PushedOut → Seen (Unit {0})
seen_pushed (pushed (Pushed.Done st) a m) = yes tt st a m
seen_pushed (pushed (Pushed.No n) a m) = no n

-- where one list is lent, beside the other
unfoldable pub seen_tmp : List ℕ → Listed Read → Seen WordValue
seen_tmp a (listed (Read.Value v st) m) = yes v st a m
seen_tmp a (listed (Read.No n) m) = no n

unfoldable pub seen_push : List ℕ → Listed Pushed → Seen (Unit {0})
seen_push m (listed (Pushed.Done st) a) = yes tt st a m
seen_push m (listed (Pushed.No n) a) = no n

-- The definition's outcome as the words have it: the front and the lent words behind it, and the lent words of the
-- temporaries.
module _ (front tail rest : List ℕ) where
  abbrev pub actions_of : State → List ℕ
  actions_of s = actions_in front tail s.actions

  abbrev pub tmps_of : State → List ℕ
  tmps_of s = temporaries_in rest s.sizing.temporaries

  unfoldable pub outcome : {A B : Type 0} → (A → B) → Outcome A → Seen B
  outcome enc (done a s) = yes (enc a) (enc_s (length front) s) (actions_of s) (tmps_of s)
  outcome enc (stopped r ordinal errors) = no (refusal_number r)

  -- an answer changed afterwards
  pub outcome_map : {A B C : Type 0} (e : Env) (f : B → C) (c : A → B) (o : Outcome A) → outcome f (on e o λ a. λ e s. done (c a) s) ≡ outcome (λ a. f (c a)) o
  unfolding outcome on
  outcome_map e f c (done a s) = refl
  outcome_map e f c (stopped r ordinal errors) = refl

  module _ {A C B R : Type 0} (e : Env) (seen : R → Seen B) (enc_c : C → B) (k : A → Walk C) where
    abbrev Goes : {D : Type 0} → (A → D) → (D → WordState → List ℕ → List ℕ → R) → Outcome A → Type 0
    Goes enc f o = (a : A) (s : State) → o ≡ done a s → seen (f (enc a) (enc_s (length front) s) (actions_of s) (tmps_of s))
        ≡ outcome enc_c (k a e s)

    abbrev Refuses : (ℕ → List ℕ → List ℕ → R) → Type 0
    Refuses g = (n : ℕ) (a m : List ℕ) → seen (g n a m) ≡ no n

    pub bind_read : (enc : A → WordValue) (x : ReadOut) (o : Outcome A) (f : WordValue → WordState → List ℕ → List ℕ → R)
        (g : ℕ → List ℕ → List ℕ → R)
        → seen_read x ≡ outcome enc o → Refuses g → Goes enc f o → seen (on_read x f g) ≡ outcome enc_c (on e o k)
    unfolding seen_read outcome on_read on
    bind_read enc (read (Read.Value v st) a m) (done b s) f g h j i =
        let p : v ≡ enc b = cc in
        let q : st ≡ enc_s (length front) s = cc in
        let r : a ≡ actions_of s = cc in
        let t : m ≡ tmps_of s = cc in
        rw (p, q, r, t) (i b s refl)
    bind_read enc (read (Read.Value v st) a m) (stopped r ordinal errors) f g h j i = cc
    bind_read enc (read (Read.No n) a m) (done b s) f g h j i = cc
    bind_read enc (read (Read.No n) a m) (stopped r ordinal errors) f g h j i = j n a m ∙ (let p : n ≡ refusal_number r = cc in rw p)

    pub bind_pushed : (x : PushedOut) (o : Outcome A) (f : WordState → List ℕ → List ℕ → R) (g : ℕ → List ℕ → List ℕ → R)
        → seen_pushed x ≡ outcome (λ _. tt) o → Refuses g → Goes (λ _. tt {0}) (λ _ st a m. f st a m) o → seen (on_pushed x f g)
        ≡ outcome enc_c (on e o k)
    unfolding seen_pushed outcome on_pushed on
    bind_pushed (pushed (Pushed.Done st) a m) (done b s) f g h j i =
        let q : st ≡ enc_s (length front) s = cc in
        let r : a ≡ actions_of s = cc in
        let t : m ≡ tmps_of s = cc in
        rw (q, r, t) (i b s refl)
    bind_pushed (pushed (Pushed.Done st) a m) (stopped r ordinal errors) f g h j i = cc
    bind_pushed (pushed (Pushed.No n) a m) (done b s) f g h j i = cc
    bind_pushed (pushed (Pushed.No n) a m) (stopped r ordinal errors) f g h j i = j n a m ∙ (let p : n ≡ refusal_number r = cc in rw p)

    pub bind_tmp : (enc : A → WordValue) (actions : List ℕ) (x : Listed Read) (o : Outcome A) (f : WordValue → WordState → List ℕ → R)
        (g : ℕ → List ℕ → R)
        → seen_tmp actions x ≡ outcome enc o → ((n : ℕ) (m : List ℕ) → seen (g n m) ≡ no n)
        → ((a : A) (s : State) → o ≡ done a s → actions ≡ actions_of s → seen (f (enc a) (enc_s (length front) s) (tmps_of s))
        ≡ outcome enc_c (k a e s)) → seen (on_tmp x f g) ≡ outcome enc_c (on e o k)
    unfolding seen_tmp outcome on_tmp on
    bind_tmp enc actions (listed (Read.Value v st) m) (done b s) f g h j i =
        let p : v ≡ enc b = cc in
        let q : st ≡ enc_s (length front) s = cc in
        let r : actions ≡ actions_of s = cc in
        let t : m ≡ tmps_of s = cc in
        rw (p, q, t) (i b s refl r)
    bind_tmp enc actions (listed (Read.Value v st) m) (stopped r ordinal errors) f g h j i = cc
    bind_tmp enc actions (listed (Read.No n) m) (done b s) f g h j i = cc
    bind_tmp enc actions (listed (Read.No n) m) (stopped r ordinal errors) f g h j i = j n m ∙ (let p : n ≡ refusal_number r = cc in rw p)

    pub bind_push : (tmps : List ℕ) (x : Listed Pushed) (o : Outcome A) (f : WordState → List ℕ → R) (g : ℕ → List ℕ → R)
        → seen_push tmps x ≡ outcome (λ _. tt) o → ((n : ℕ) (a : List ℕ) → seen (g n a) ≡ no n)
        → ((a : A) (s : State) → o ≡ done a s → tmps ≡ tmps_of s → seen (f (enc_s (length front) s) (actions_of s)) ≡ outcome enc_c (k a e s))
        → seen (on_push x f g) ≡ outcome enc_c (on e o k)
    unfolding seen_push outcome on_push on
    bind_push tmps (listed (Pushed.Done st) a) (done b s) f g h j i =
        let q : st ≡ enc_s (length front) s = cc in
        let r : a ≡ actions_of s = cc in
        let t : tmps ≡ tmps_of s = cc in
        rw (q, r) (i b s refl t)
    bind_push tmps (listed (Pushed.Done st) a) (stopped r ordinal errors) f g h j i = cc
    bind_push tmps (listed (Pushed.No n) a) (done b s) f g h j i = cc
    bind_push tmps (listed (Pushed.No n) a) (stopped r ordinal errors) f g h j i = j n a ∙ (let p : n ≡ refusal_number r = cc in rw p)
