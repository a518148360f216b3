-- Locals: a temporary is made with its name, then declared in the scope's list; a name is declared once. The words find it
-- afterwards where the definition does. And a new local as part of a step.
use Prim.Native.Nat.{ℕ, suc, ◌+◌, ◌-◌, ◌/◌, ◌%◌, ◌<◌}
use mathlib.Core.Path.{◌≡◌, refl, sym, ◌∙◌, ap, subst}
use mathlib.Core.Bool.{Bool, true, false, not}
use mathlib.Core.List.{List, [], ◌∷◌, ◌++◌}
use mathlib.Core.Option.{Option, none, some}
use native.Mathlib.Omega.{arith}
use lib.ListN.{length, length-append}
use lib.Dec.{eqb, leb}
use borrow.Author.Tests.{eqb-true, eqb-false, eq-eqb, ne_eqb, leb-true}
use Rattle.prelude.specs.Base as definition
use Rattle.prelude.specs.Base.{◌or◌, first, is_some, or_else, when◌then◌else◌}
use Rattle.definition.specs.Refusals.{Refusal, refusal_number, too_many_temporaries, redeclared}
use Rattle.definition.specs.Value.{Kind, kind_number, Value, local, SemanticAction, Temporary}
use Rattle.definition.specs.Sizes.{with_temporaries}
use Rattle.definition.specs.Walk as walks
use Rattle.definition.specs.Walk.{Scope, State, Env, Outcome, done, stopped, on, require, with_scope, with_sizing}
use Rattle.definition.specs.Scope as scope
use Rattle.definition.specs.Scope.{find}
use Rattle.definition.specs.ActionList.{or_none, labels_placed}
use Rattle.definition.proofs.Openers.{base_opens}
use Rattle.definition_guarantee.proofs.Entries.{find-last}
use Rattle.list_values.specs.declared.value.Value.{Value as WordValue}
use Rattle.list_pushes.specs.declared.push.State.{State as WordState}
use Rattle.list_pushes.specs.declared.push.Env.{Env as WordEnv}
use Rattle.list_pushes.specs.Outcomes.{Read}
use Rattle.list_values.specs.Base.{Listed, listed}
use Rattle.list_pushes.specs.Pushes.{ReadOut, read, on_read, on_tmp}
use Rattle.list_refinement.specs.Encoding.{enc_v, actions_in, Sound}
use Rattle.list_refinement.proofs.Seen.{seen_tmp, outcome}
use Rattle.list_refinement.proofs.Pushes.{Stands, Made, add_done, named_is, each_snoc}
use Rattle.expr_scope.specs.Smalls.{small, put_small}
use Rattle.expr_scope.proofs.SmallLaws.{small_same, small_other, small_slots, small_length}
use Rattle.expr_scope.specs.Outcomes.{Found}
use Rattle.expr_scope.specs.Scopes.{own_local, tmp_of, tmp_local, or_tmp, lookup_local, undeclared, named_tmp}
use Rattle.stmt_branches.specs.Labels.{label_place}
use Rattle.stmt_walk.specs.Outcomes.{Step}
use Rattle.stmt_walk.specs.Walks.{Walked, walked, step_read, read_then}
use Rattle.stmt_bodies.specs.Statements.{beside_a}
use Rattle.expr_refinement.proofs.Encodings.{params_more, mapping_more, actions_more}
use Rattle.expr_refinement.proofs.Answers.{acts, temps, word, Halts}
use Rattle.expr_refinement.proofs.Pushing.{add_halts}
use Rattle.expr_refinement.proofs.Scopes.{eqb_swap}
use Rattle.stmt_refinement.proofs.Params.{params_same}
use Rattle.stmt_refinement.proofs.Steps.{Steps}
use Rattle.stmt_refinement.proofs.Stepping.{steps-stop, export_more, steps_then}
use Rattle.expr_refinement.specs.Encoding.{Small, tmps, count, enc_f}
use Rattle.stmt_refinement.specs.Standing.{Beside, Given, walk_of, Standing, Framed}

-- a name that was not found is found where the scope's list has it
lookup_new : (t p q : List ℕ) (own : Bool) (name : ℕ) (x : Found) → lookup_local t p own name ≡ Found.Nothing → tmp_local q name ≡ x → lookup_local t q own name ≡ x
unfolding lookup_local
lookup_new t p q false name x h f = f
lookup_new t p q true name x h f = go (own_local t name) (h)
  where
    go : (y : Found) → or_tmp y p name ≡ Found.Nothing → or_tmp y q name ≡ x
    go (Found.Is v) k = let i : Found.Is v ≡ Found.Nothing = (unfold or_tmp in k) in let z : ◌≡◌ {A = ℕ} 0 1 = cc in absurd (omega arith)
    go Found.Nothing k = unfold or_tmp in f

-- and one whose small number stays is found as before
pub lookup_as : (t p q : List ℕ) (own : Bool) (name : ℕ) → small q (name % 1024) ≡ small p (name % 1024) → lookup_local t q own name ≡ lookup_local t p own name
unfolding lookup_local tmp_local
lookup_as t p q false name h = rw h
lookup_as t p q true name h = go (own_local t name)
  where
    go : (y : Found) → or_tmp y q name ≡ or_tmp y p name
    go (Found.Is v) = unfold or_tmp in refl
    go Found.Nothing = unfold or_tmp tmp_local in rw h

module _ (s t : List ℕ) (e : Env) (p front tail rest : List ℕ) (we : WordEnv) (given : Given s t e front tail rest we) (spare : ℕ) (b : Beside)
    (from : State) (stand : Standing t e tail rest we spare p b from) (name : ℕ) (known : name < 1024) (size : Option ℕ) (small_size : Small size) where
  abbrev new : Temporary
  new = record { name = some name; size = size }

  abbrev added : State
  added = with_sizing (with_temporaries (tmps from ++ (new ∷ [])) from.sizing) from

  abbrev made : Value
  made = local Kind.PcodeTmp (count from)

  abbrev scope_with : Scope
  scope_with = record { params = from.scope.params; mapping = from.scope.mapping ++ ((name, made) ∷ []); labels = from.scope.labels }

  -- the state that follows, and the scope's list
  abbrev declared : State
  declared = with_scope scope_with added

  abbrev pub declared_in : List ℕ
  declared_in = put_small p (name % 1024) (count added)

  stands : Stands tail rest from
  stands = record { actions = stand.stood.actions; temporaries = stand.stood.temporaries; sizes = stand.stood.sizes }

  counts : count added ≡ suc (count from)
  counts = length-append (tmps from) (new ∷ []) ∙ omega arith

  record Added (v : Value) (u : State) : Type 0 where
    value : v ≡ made
    state : u ≡ added
    limited : count from < 512
    room : Made e.section tail rest from made added

  add_state : (v : Value) (u : State) → walks.add_tmp (some name) size e from ≡ done v u → Added v u
  unfolding walks.add_tmp on
  add_state v u q = go (leb (length (tmps from) + 1) e.temporary_room) refl q
      (add_done e from front tail rest given.lent stands (some name) size (unfold or_none or_else in omega arith) small_size v u q)
    where
      go : (b : Bool) → leb (length (tmps from) + 1) e.temporary_room ≡ b
          → on e (require b too_many_temporaries e from) (λ _. λ e1 st1. on e1 (done (tt {0}) (with_sizing (with_temporaries (tmps from ++ (new ∷ [])) from.sizing) st1)) λ _. λ e2 st2. done (local Kind.PcodeTmp (length (tmps from))) st2) ≡ done v u
          → Made e.section tail rest from v u → Added v u
      go true p q g =
          let h : done made added ≡ done v u = unfold require in q in
          let a : v ≡ made = cc in
          let b : u ≡ added = cc in
          let r = leb-true (length (tmps from) + 1) e.temporary_room p in
          record { value = a; state = b; limited = omega (arith, given.lent.temporary_room); room = subst (λ (y : State). Made e.section tail rest from made y) b (subst (λ (y : Value). Made e.section tail rest from y u) a g) }
      go false p q g = let h : stopped too_many_temporaries from.sizing.begun 0 ≡ done v u = unfold require in q in let z : ◌≡◌ {A = ℕ} 0 1 = cc in absurd (omega arith)

  -- the state that a local is declared in
  pub record Names (v : Value) (u : State) : Type 0 where
    pub sound : Sound e.section (count u) v
    pub actions : u.actions ≡ from.actions
    pub begun : u.sizing.begun ≡ from.sizing.begun
    pub stands : Standing t e tail rest we spare declared_in b u
    pub framed : Framed b from b u

  in_list : 64 + name % 1024 / 6 < length p
  in_list = rw stand.long (omega arith)

  module _ (undeclared-yet : find name from.scope.mapping ≡ none) (limit : count from < 512) (room : Made e.section tail rest from made added) where
    find_new : (n : ℕ) → find n (from.scope.mapping ++ ((name, made) ∷ [])) ≡ (definition.when◌then◌else◌ (eqb n name) (some made) none) or find n from.scope.mapping
    find_new n = find-last name made n from.scope.mapping undeclared-yet ∙ (unfold find first in refl)

    number : count added % 1024 ≡ suc (count from)
    number = rw counts (omega arith)

    own_local_lem : tmp_local declared_in name ≡ Found.Is (record { kind = 6; number = count from; offset = 0; size = 65535 })
    unfolding tmp_local tmp_of
    own_local_lem =
        let k : suc (count from) - 1 ≡ count from = omega arith in
        rw (small_same p (name % 1024) (count added) in_list, number, ne_eqb (suc (count from)) 0 (λ z. omega arith), k)

    own : lookup_local t declared_in we.own name ≡ enc_f (find name (from.scope.mapping ++ ((name, made) ∷ [])))
    own = rw (find_new name, eq-eqb name name refl)
        (lookup_new t p declared_in we.own name _ (stand.scoped.locals name known ∙ rw undeclared-yet (unfold enc_f in refl)) own_local_lem ∙ (unfold enc_f base_opens kind_number or_none or_else in refl))

    finds : (n : ℕ) (b : Bool) → eqb name n ≡ b → n < 1024 → lookup_local t declared_in we.own n ≡ enc_f (find n (from.scope.mapping ++ ((name, made) ∷ [])))
    finds n true q h = subst (λ (i : ℕ). lookup_local t declared_in we.own i ≡ enc_f (find i (from.scope.mapping ++ ((name, made) ∷ [])))) (eqb-true name n q) own
    finds n false q h =
        lookup_as t p declared_in we.own n (small_other p (name % 1024) (n % 1024) (count added) in_list (λ z. eqb-false name n q (omega arith)))
        ∙ stand.scoped.locals n h ∙ rw (find_new n, eqb_swap n name, q) (unfold base_opens in refl)

    label_kept : (n : ℕ) → small declared_in (label_place n) ≡ small p (label_place n)
    unfolding label_place
    label_kept n = small_other p (name % 1024) (1024 + n % 1024) (count added) in_list (λ z. omega arith)

    names_declared : Names made declared
    names_declared = let f = stand.stood in record {
      sound = room.sound;
      actions = refl;
      begun = refl;
      stands = record {
        stood = record {
          actions = f.actions;
          temporaries = room.stands.temporaries;
          sizes = room.stands.sizes;
          errors = f.errors;
          sound = actions_more e.section (count from) (count added) room.count from.actions f.sound;
          params = params_more e.section (count from) (count added) room.count from.scope.params f.params;
          mapping = each_snoc (λ (p : ℕ × Value). Sound e.section (count added) p.1) from.scope.mapping (name, made) (mapping_more e.section (count from) (count added) room.count from.scope.mapping f.mapping) room.sound;
        };
        scoped = record {
          params = params_same p declared_in from.scope.params (λ i h k. small_slots p (name % 1024) i (count added) h) stand.scoped.params;
          counted = stand.scoped.counted;
          locals = λ n h. finds n (eqb name n) refl h;
        };
        labelled = record { same = λ n h. label_kept n ∙ stand.labelled.same n h; below = stand.labelled.below };
        labels = stand.labels;
        few = stand.few;
        statements = stand.statements;
        export = stand.export;
        export_sound = export_more e (count from) (count added) room.count from.export stand.export_sound;
        long = small_length p (name % 1024) (count added) ∙ stand.long;
      };
      framed = record { labels = omega arith; temporaries = room.count };
    }

  -- the words and the definition declare it, or refuse alike
  pub data Named (x : ReadOut) (o : Outcome Value) : Type 0 where
    goes : (v : Value) (u : State) → o ≡ done v u → x ≡ read (Read.Value (enc_v v) (word e.section front tail rest u)) declared_in (temps e.section front tail rest u) → Names v u → Named x o
    refused : (r : Refusal) (ordinal : Option ℕ) (errors : ℕ) (q m : List ℕ) → o ≡ stopped r ordinal errors → x ≡ read (Read.No (refusal_number r)) q m → (ordinal ≡ from.sizing.begun) × (errors ≡ 0) → Named x o

  pub named : Named (named_tmp t p (temps e.section front tail rest from) we name (or_none size) (word e.section front tail rest from)) (scope.named_tmp name size e from)
  unfolding named_tmp scope.named_tmp
  named = go _ (walks.add_tmp (some name) size e from) (named_is e from front tail rest given.lent stands name size (omega arith) small_size) add_state (add_halts e from (some name) size)
    where
      declares : count from < 512 → Made e.section tail rest from made added → (y : Option Value) → find name from.scope.mapping ≡ y
          → Named (undeclared (enc_f y) (enc_v (local Kind.PcodeTmp (count from))) (word e.section front tail rest added) p declared_in (temps e.section front tail rest added))
          (on e (require (not (is_some y)) redeclared e added) λ _. λ e1 st1. on e1 (done (tt {0}) (with_scope scope_with st1)) λ _. λ e2 st2. done (local Kind.PcodeTmp (count from)) st2)
      declares f g none q = unfold undeclared enc_f on require is_some in Named.goes (local Kind.PcodeTmp (count from)) declared refl refl (names_declared q f g)
      declares f g (some u) q = unfold undeclared enc_f on require is_some in Named.refused redeclared from.sizing.begun 0 p (temps e.section front tail rest added) refl (unfold refusal_number in refl) (refl, refl)

      go : (x : Listed Read) (o : Outcome Value) → seen_tmp (acts e.section front tail rest from) x ≡ outcome front tail rest enc_v o → ((v : Value) (u : State) → o ≡ done v u → Added v u) → Halts from o
          → Named (on_tmp x (λ v st1 w. undeclared (lookup_local t p we.own name) v st1 p (put_small p (name % 1024) st1.temporaries) w) (λ n w. read (Read.No n) p w))
          (on e o λ v. λ e1 st1. on e1 (done st1 st1) λ s1. λ e2 st2. on e2 (require (not (is_some (find name s1.scope.mapping))) redeclared e2 st2)
          λ _. λ e3 st3. on e3 (done (tt {0}) (with_scope (record { params = s1.scope.params; mapping = s1.scope.mapping ++ ((name, v) ∷ []); labels = s1.scope.labels }) st3)) λ _. λ e4 st4. done v st4)
      go (listed (Read.Value v1 st1) m1) (done v u) h k i =
          unfold seen_tmp outcome on_tmp on in (let a : v1 ≡ enc_v v = cc in let b : st1 ≡ word e.section front tail rest u = cc in let c : m1 ≡ temps e.section front tail rest u = cc in let g = k v u refl in
          rw (a, b, c, g.state, g.value, stand.scoped.locals name known) (declares g.limited g.room (find name from.scope.mapping) refl))
      go (listed (Read.Value v1 st1) m1) (stopped r ordinal errors) h k i = unfold seen_tmp outcome in (let z : ◌≡◌ {A = ℕ} 0 1 = cc in absurd (omega arith))
      go (listed (Read.No n) m1) (done v u) h k i = unfold seen_tmp outcome in (let z : ◌≡◌ {A = ℕ} 0 1 = cc in absurd (omega arith))
      go (listed (Read.No n) m1) (stopped r ordinal errors) h k i = unfold seen_tmp outcome on_tmp on in (let z : n ≡ refusal_number r = cc in Named.refused r ordinal errors p m1 refl (rw z) (i r ordinal errors refl))

  abbrev pub naming : ReadOut
  naming = named_tmp t p (temps e.section front tail rest from) we name (or_none size) (word e.section front tail rest from)

  module _ (placing next begun : ℕ) (begun-is : begun ≡ or_none from.sizing.begun) where
    abbrev After : State → Walked → Outcome (Unit {0}) → Type 0
    After u x o = Steps t e front tail rest we spare placing b u next x o

    steps_declared : (v : Value) (u : State) (x : Walked) (o : Outcome (Unit {0})) → Names v u → (begun ≡ or_none u.sizing.begun → After u x o) → Steps t e front tail rest we spare placing b from next x o
    steps_declared v u x o g f =
        steps_then t e front tail rest we spare 0 placing placing b from b u next x o g.framed g.begun (omega arith) (ap labels_placed g.actions ∙ omega arith) (omega arith) (f (begun-is ∙ ap or_none (sym g.begun)))

    -- on with what was declared
    pub steps-named : {R : Type 0} (wrap : R → Walked) (f : WordValue → WordState → List ℕ → List ℕ → R) (g : ℕ → List ℕ → List ℕ → R) (k : Value → walks.Walk (Unit {0})) → ((n : ℕ) (q m : List ℕ) → (a : List ℕ) × (wrap (g n q m) ≡ walked (Step.Stop n begun) q a m))
        → ((v : Value) (u : State) → Names v u → begun ≡ or_none u.sizing.begun → After u (wrap (f (enc_v v) (word e.section front tail rest u) declared_in (temps e.section front tail rest u))) (k v e u))
        → Steps t e front tail rest we spare placing b from next (wrap (on_read naming f g)) (on e (scope.named_tmp name size e from) k)
    steps-named wrap f g k stops i = go named
      where
        go : Named naming (scope.named_tmp name size e from) → Steps t e front tail rest we spare placing b from next (wrap (on_read naming f g)) (on e (scope.named_tmp name size e from) k)
        go (Named.goes v u q h j) = rw (q, h) (unfold on on_read in steps_declared v u _ _ j (i v u j))
        go (Named.refused r ordinal errors y m q h halts) = let z = stops (refusal_number r) y m in rw (q, h) (unfold on on_read in steps-stop t e front tail rest we spare placing b from next _ r ordinal errors (refusal_number r) begun y z.0 m halts refl begun-is z.1)

  -- the statement that declares a local
  pub steps-local : (next : ℕ)
      → Steps t e front tail rest we spare 0 b from next
      (beside_a (acts e.section front tail rest from) (step_read naming (read_then next (walk_of b (word e.section front tail rest from)))))
      (on e (scope.named_tmp name size e from) λ _. λ e1 st1. done tt st1)
  steps-local next = go named
    where
      go : Named naming (scope.named_tmp name size e from) → Steps t e front tail rest we spare 0 b from next
          (beside_a (acts e.section front tail rest from) (step_read naming (read_then next (walk_of b (word e.section front tail rest from)))))
          (on e (scope.named_tmp name size e from) λ _. λ e1 st1. done tt st1)
      go (Named.goes v u q h j) = rw (q, h) (unfold on step_read read_then beside_a in Steps.goes u declared_in b refl
          (ap (λ (y : List SemanticAction). walked (Step.Next next (walk_of b (word e.section front tail rest u))) declared_in (actions_in front tail y) (temps e.section front tail rest u)) (sym j.actions)) j.stands j.framed (omega arith) (ap labels_placed j.actions ∙ omega arith))
      go (Named.refused r ordinal errors y m q h halts) = rw (q, h) (unfold on step_read read_then beside_a in Steps.stops r y (acts e.section front tail rest from) m (rw (halts.0, halts.1)) refl)
