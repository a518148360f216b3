-- A label made or placed as part of a step: the scope's list gives the same label, and what it holds besides stays.
use Prim.Native.Nat.{ℕ, suc, ◌+◌, ◌%◌, ◌≤◌, ◌<◌}
use mathlib.Core.Path.{◌≡◌, refl, ◌∙◌, ap}
use mathlib.Core.Bool.{Bool, true, false, not}
use mathlib.Core.List.{List}
use mathlib.Core.Option.{Option, none, some}
use native.Mathlib.Omega.{arith}
use lib.ListN.{length}
use lib.Dec.{leb}
use borrow.Author.Tests.{eq-eqb, lt-ltb, le-ltb, leb-true, leb-false}
use Rattle.prelude.specs.Base.{first}
use Rattle.definition.specs.Refusals.{Refusal, refusal_number, too_many_labels, label_twice}
use Rattle.definition.specs.Walk.{Label, State, Env, Outcome, done, stopped, on, require, with_scope, with_label}
use Rattle.definition.specs.Scope as scope
use Rattle.definition.specs.Scope.{find, put_entry, with_entry}
use Rattle.definition.proofs.Openers.{base_opens}
use Rattle.definition_guarantee.proofs.Entries.{find-put}
use Rattle.list_pushes.specs.declared.push.Env.{Env as WordEnv}
use Rattle.list_values.specs.Base.{Listed, listed}
use Rattle.expr_scope.specs.Smalls.{put_small}
use Rattle.expr_scope.proofs.SmallLaws.{small_other, small_slots, small_length}
use Rattle.stmt_branches.specs.Outcomes.{Label as WordLabel}
use Rattle.stmt_branches.specs.Labels.{label_place, get_or_insert_label, on_label, place_label, resolve_label, labels_after}
use Rattle.stmt_refinement.proofs.Labels.{label_found, labels_full, label_new, label_once, label_twice_lem, label-put}
use Rattle.stmt_refinement.proofs.Naming.{lookup_as}
use Rattle.stmt_refinement.proofs.Params.{params_same}
use Rattle.expr_refinement.specs.Encoding.{Scoped}
use Rattle.stmt_refinement.specs.Standing.{Beside, label_number, LabelsIn, Standing, Framed}

-- a label's number changes no parameter and no local
scoped-label : (t p : List ℕ) (we : WordEnv) (st : State) (name k : ℕ) → length p ≡ 406 → Scoped t p we st → Scoped t (put_small p (label_place name) k) we st
unfolding label_place
scoped-label t p we st name k long h = record {
  params = params_same p (put_small p (label_place name) k) st.scope.params (λ i a b. small_slots p (1024 + name % 1024) i k a) h.params;
  counted = h.counted;
  locals = λ n l. lookup_as t p (put_small p (label_place name) k) we.own n (small_other p (1024 + name % 1024) (n % 1024) k (rw long (omega arith)) (λ z. omega arith)) ∙ h.locals n l;
}

module _ (t : List ℕ) (e : Env) (p tail rest : List ℕ) (we : WordEnv) (spare : ℕ) (b : Beside) (st : State) (stand : Standing t e tail rest we spare p b st) where
  -- so many labels, and so many placed
  abbrev pub labels_beside : ℕ → ℕ → Beside
  labels_beside n placed = record { labels = n; placed = placed; statements = b.statements; export = b.export }

  -- the scope with other labels
  abbrev pub relabelled : List (ℕ × Label) → ℕ → State
  relabelled labels next = record { statements = st.statements; scope = record { params = st.scope.params; mapping = st.scope.mapping; labels = labels }; next_label = next; sizing = st.sizing; actions = st.actions; export = st.export }

  pub record Relabels (q : List ℕ) (labels : List (ℕ × Label)) (n next : ℕ) : Type 0 where
    pub long : length q ≡ 406
    pub scoped : Scoped t q we st
    pub labelled : LabelsIn q n labels
    pub few : n ≤ 256
    pub same : n ≡ next
    pub more : b.labels ≤ n

  pub relabels_stand : (q : List ℕ) (labels : List (ℕ × Label)) (n next placed : ℕ) → Relabels q labels n next → Standing t e tail rest we spare q (labels_beside n placed) (relabelled labels next)
  relabels_stand q labels n next placed r = let f = stand.stood in record {
    stood = record { actions = f.actions; temporaries = f.temporaries; sizes = f.sizes; errors = f.errors; sound = f.sound; params = f.params; mapping = f.mapping };
    scoped = record { params = r.scoped.params; counted = r.scoped.counted; locals = r.scoped.locals };
    labelled = r.labelled;
    labels = r.same;
    few = r.few;
    statements = stand.statements;
    export = stand.export;
    export_sound = stand.export_sound;
    long = r.long;
  }

  pub relabels_framed : (q : List ℕ) (labels : List (ℕ × Label)) (n next placed : ℕ) → Relabels q labels n next → Framed b st (labels_beside n placed) (relabelled labels next)
  relabels_framed q labels n next placed r = record { labels = r.more; temporaries = omega arith }

  -- nothing made
  relabels_same : Relabels p st.scope.labels b.labels st.next_label
  relabels_same = record { long = stand.long; scoped = stand.scoped; labelled = stand.labelled; few = stand.few; same = stand.labels; more = omega arith }

  module _ (name : ℕ) (known : name < 1024) where
    -- one label put under the name
    relabels_put : (q : List ℕ) (labels : List (ℕ × Label)) (n next m more : ℕ) (l : Label) → Relabels q labels n next → l.id < m → n ≤ m → m ≤ 256 → m ≡ more
        → Relabels (put_small q (label_place name) (label_number (some l))) (put_entry name l labels) m more
    relabels_put q labels n next m more l r inside up few same = record {
      long = small_length q (label_place name) (label_number (some l)) ∙ r.long;
      scoped = scoped-label t q we st name (label_number (some l)) r.long r.scoped;
      labelled = label-put q n m labels r.labelled r.long up name known l inside few;
      few = few;
      same = same;
      more = omega (arith, r.more);
    }

    -- the words and the definition have the same label, or refuse alike
    pub data Labelled (x : Listed WordLabel) (o : Outcome Label) : Type 0 where
      is : (l : Label) (q : List ℕ) (labels : List (ℕ × Label)) (n next : ℕ) → o ≡ done l (relabelled labels next) → x ≡ listed (WordLabel.Is l.id) q → labels_after l.id b.labels ≡ n → Relabels q labels n next → find name labels ≡ some l → Labelled x o
      no : o ≡ stopped too_many_labels st.sizing.begun 0 → x ≡ listed (WordLabel.No 14) p → Labelled x o

    abbrev fresh : Label
    fresh = record { id = st.next_label; defined = false }

    abbrev added : List ℕ
    added = put_small p (label_place name) (label_number (some fresh))

    added_is : put_small p (label_place name) (b.labels + 1) ≡ added
    unfolding label_number
    added_is = ap (put_small p (label_place name)) (let k = stand.labels in omega arith)

    pub get_or_insert : Labelled (get_or_insert_label p name b.labels) (scope.get_or_insert_label name e st)
    unfolding scope.get_or_insert_label on
    get_or_insert = go (find name st.scope.labels) refl
      where
        insert : (c : Bool) → leb (st.next_label + 1) 256 ≡ c → find name st.scope.labels ≡ none
            → Labelled (get_or_insert_label p name b.labels) (on e (require c too_many_labels e st) λ _ e1 st1. on e1 (done (tt {0}) (with_label (with_entry name (record { id = st.next_label; defined = false }) st.scope) st1)) λ _ e2 st2. done (record { id = st.next_label; defined = false }) st2)
        insert true c q =
            let h = leb-true (st.next_label + 1) 256 c in
            let l : b.labels < 256 = (let k = stand.labels in omega arith) in
            is fresh added (put_entry name fresh st.scope.labels) (suc b.labels) (suc st.next_label) (unfold on require in refl)
            (label_new p b.labels st.scope.labels stand.labelled stand.few name known q l ∙ (rw (added_is, stand.labels)))
            (unfold labels_after in rw (le-ltb st.next_label b.labels (let k = stand.labels in omega arith)) (let k = stand.labels in omega arith))
            (relabels_put p st.scope.labels b.labels st.next_label (suc b.labels) (suc st.next_label) fresh relabels_same (let k = stand.labels in omega arith) (omega arith) (omega arith) (ap suc stand.labels))
            (find-put name fresh name st.scope.labels ∙ (unfold find first base_opens in rw (eq-eqb name name refl)))
        insert false c q =
            let h = leb-false (st.next_label + 1) 256 c in
            no (unfold on require in refl) (labels_full p b.labels st.scope.labels stand.labelled stand.few name known q (let k = stand.labels in omega arith))

        go : (y : Option Label) → find name st.scope.labels ≡ y → Labelled (get_or_insert_label p name b.labels) (scope.label_or name y e st)
        go (some l) q = unfold scope.label_or in
            is l p st.scope.labels b.labels st.next_label refl (label_found p b.labels st.scope.labels stand.labelled stand.few name known l q)
            (unfold labels_after in rw (lt-ltb l.id b.labels (stand.labelled.below name l q))) relabels_same q
        go none q = unfold scope.label_or on in insert (leb (st.next_label + 1) 256) refl q

    pub data Placed (x : Listed WordLabel) (o : Outcome ℕ) : Type 0 where
      is : (id : ℕ) (q : List ℕ) (labels : List (ℕ × Label)) (n next : ℕ) → o ≡ done id (relabelled labels next) → x ≡ listed (WordLabel.Is id) q → labels_after id b.labels ≡ n → Relabels q labels n next → Placed x o
      no : (r : Refusal) (q : List ℕ) → o ≡ stopped r st.sizing.begun 0 → x ≡ listed (WordLabel.No (refusal_number r)) q → Placed x o

    module _ (l : Label) (q : List ℕ) (labels : List (ℕ × Label)) (n next : ℕ) (r : Relabels q labels n next) (found : find name labels ≡ some l) where
      abbrev there : Label
      there = record { id = l.id; defined = true }

      -- the label is placed, if it was not before
      place : labels_after l.id b.labels ≡ n → (c : Bool) → l.defined ≡ c
          → Placed (place_label q l.id name) (on e (require (not c) label_twice e (relabelled labels next)) λ _ e2 st2. on e2 (done st2 st2) λ u e3 st3. on e3 (done (tt {0}) (with_scope (with_entry name (record { id = l.id; defined = true }) u.scope) st3)) λ _ e4 st4. done l.id st4)
      place k false c = is l.id (put_small q (label_place name) (label_number (some there))) (put_entry name there labels) n next (unfold on require in refl)
          (label_once q n labels r.labelled r.few name known l found c ∙ (unfold label_number in refl)) k
          (relabels_put q labels n next n next there r (r.labelled.below name l found) (omega arith) r.few r.same)
      place k true c = no label_twice q (unfold on require in refl) (unfold refusal_number in label_twice_lem q n labels r.labelled r.few name known l found c)

    pub resolve-label : Placed (resolve_label p name b.labels) (scope.resolve_label name e st)
    unfolding resolve_label scope.resolve_label
    resolve-label = go get_or_insert
      where
        go : Labelled (get_or_insert_label p name b.labels) (scope.get_or_insert_label name e st)
            → Placed (on_label (get_or_insert_label p name b.labels) (λ id q. place_label q id name) (λ k q. listed (WordLabel.No k) q))
            (on e (scope.get_or_insert_label name e st) λ l e1 st1. on e1 (require (not l.defined) label_twice e1 st1) λ _ e2 st2. on e2 (done st2 st2) λ u e3 st3. on e3 (done (tt {0}) (with_scope (with_entry name (record { id = l.id; defined = true }) u.scope) st3)) λ _ e4 st4. done l.id st4)
        go (Labelled.is l q labels n next o x k r f) = rw (o, x) (unfold on_label on in place l q labels n next r f k l.defined refl)
        go (Labelled.no o x) = rw (o, x) (unfold on_label on in no too_many_labels p refl (unfold refusal_number in refl))
