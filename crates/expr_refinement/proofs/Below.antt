-- What expressions need of the level below: temporaries and pushes, each as the definition has it. And setting a size
-- outside of a push.
use Prim.Native.Nat.{ℕ, suc, ◌+◌, ◌*◌, ◌^◌, ◌≤◌, ◌<◌}
use mathlib.Core.Path.{◌≡◌, refl, subst}
use mathlib.Core.Bool.{Bool, true, false, ◌||◌}
use mathlib.Core.List.{List, [], ◌∷◌}
use mathlib.Core.Option.{Option, none, some}
use native.Mathlib.Omega.{arith}
use lib.ListN.{length, get_elem?}
use lib.Dec.{eqb}
use Rattle.prelude.specs.Base as definition
use Rattle.prelude.specs.Base.{or_else, when◌then◌else◌}
use Rattle.definition.specs.Operations.{Operation, operation_number}
use Rattle.definition.specs.Value.{Kind, kind_number, Value, truncate, is_kind, SemanticAction, operation_of, Temporary}
use Rattle.definition.specs.Ast.{Section}
use Rattle.definition.specs.Sizes as sizes
use Rattle.definition.specs.Sizes.{Sizing, pointer_size}
use Rattle.definition.specs.Walk as d
use Rattle.definition.specs.Walk.{State, Env, done, with_sizing}
use Rattle.definition.specs.ActionList.{or_none, action_kind_number, operation_word, places_label}
use Rattle.definition.proofs.Openers.{base_opens}
use Rattle.list_values.specs.declared.value.Value.{Value as WordValue}
use Rattle.list_pushes.specs.declared.push.Env.{Env as WordEnv}
use Rattle.list_values.specs.Base.{Listed, listed, then_l}
use Rattle.list_values.specs.Values.{absent, no_output}
use Rattle.list_pushes.specs.Pushes.{add_tmp, push, push_op, op_to}
use Rattle.list_refinement.specs.Encoding.{enc_v, temporaries_in, enc_z, Sound, Each, SoundAction, SizesHold, first_of, second_of, output_of}
use Rattle.list_refinement.proofs.Settled.{size_is, known_small, settled_is, settled_sets}
use Rattle.list_refinement.proofs.Seen.{Seen, yes, seen_read, seen_pushed, seen_tmp, seen_push}
use Rattle.expr_reading.specs.Outcomes.{Stated}
use Rattle.expr_reading.specs.Reading.{set_size}
use Rattle.expr_refinement.proofs.Encodings.{sound_more, params_more, mapping_more, actions_more}
use Rattle.expr_refinement.proofs.Answers.{acts, temps, word, Refines, refines_at}
use Rattle.expr_refinement.specs.Encoding.{Small, Applies, tmps, count, Stood}

-- so many errors may be to spare that their count stays below 2^64
abbrev pub Spare : ℕ → List ℕ → Type 0
Spare spare tail = spare + length tail + 16 < 2 ^ 64

pub record Below (s t : List ℕ) (e : Env) (front tail rest : List ℕ) (we : WordEnv) : Type 0 where
  pub sizes : SizesHold s t e.section
  pub pointer : we.pointer ≡ pointer_size e.section
  -- a temporary with no name
  pub adds : (spare : ℕ) (st : State) → Spare spare tail → Stood e.section tail rest spare st → (size : Option ℕ) → Small size
      → Refines e.section front tail rest spare st enc_v (Sound e.section) (seen_tmp (acts e.section front tail rest st) (add_tmp (temps e.section front tail rest st) 65535 (or_none size) (word e.section front tail rest st))) (d.add_tmp none size e st)
  -- an operation with an output, which makes room for an error
  pub ops : (spare : ℕ) (st : State) → Spare spare tail → Stood e.section tail rest (suc spare) st → (op : Operation) (n : ℕ) (vs : List Value) (to : Value) → length vs ≤ 2 → Applies op vs → Each (Sound e.section (count st)) vs → Sound e.section (count st) to
      → Refines e.section front tail rest spare st enc_v (Sound e.section) (seen_read (op_to s t (acts e.section front tail rest st) (temps e.section front tail rest st) we (operation_number op) n (length vs) (enc_v to) (first_of vs) (second_of vs) (word e.section front tail rest st))) (d.op op n vs (some to) e st)
  -- an argument of a user op
  pub args : (spare : ℕ) (st : State) → Spare spare tail → Stood e.section tail rest spare st → (n : ℕ) (v : Value) → Sound e.section (count st) v
      → Refines e.section front tail rest spare st (λ _. tt {0}) (λ n (_ : Unit {0}). Unit {0}) (seen_pushed (push_op s t (acts e.section front tail rest st) (temps e.section front tail rest st) we 64 n 1 no_output (enc_v v) absent (word e.section front tail rest st))) (d.op_no_output Operation.Arg n (v ∷ []) e st)
  -- an action that is no operation, which makes room for four errors
  pub pushes : (spare : ℕ) (st : State) → Spare spare tail → Stood e.section tail rest (4 + spare) st → (x : SemanticAction) → length x.inputs ≤ 2 → SoundAction e.section (count st) x → places_label x ≡ false
      → Refines e.section front tail rest spare st (λ _. tt {0}) (λ n (_ : Unit {0}). Unit {0}) (seen_push (temps e.section front tail rest st) (push (acts e.section front tail rest st) (action_kind_number x.kind) (operation_word (operation_of x.kind)) x.number (length x.inputs) (output_of (operation_of x.kind) x.output) (first_of x.inputs) (second_of x.inputs) (word e.section front tail rest st))) (d.push x e st)

-- where only the temporaries are lent, beside these actions
unfoldable pub seen_stated : List ℕ → Listed Stated → Seen WordValue
seen_stated a (listed out m) = yes out.v out.st a m

-- the statement begun last stays where a size is set

module _ (sec : Section) (n : ℕ) (v : Value) (z : Sizing) where
  tmp-begun : (i : ℕ) (t : Option Temporary) → (sizes.set_tmp_size sec i t n z).begun ≡ z.begun
  unfolding sizes.set_tmp_size
  tmp-begun i none = refl
  tmp-begun i (some t) = refl

  pub settled-begun : (known : Option ℕ) → (sizes.settled sec known n v z).begun ≡ z.begun
  unfolding sizes.settled sizes.size_temporary base_opens
  settled-begun none = go (is_kind Kind.PcodeTmp v)
    where
      go : (b : Bool) → (definition.when◌then◌else◌ b (sizes.set_tmp_size sec v.number (get_elem? z.temporaries v.number) n z) z).begun ≡ z.begun
      go true = tmp-begun v.number (get_elem? z.temporaries v.number)
      go false = refl
  settled-begun (some m) = go (eqb m n || is_kind Kind.Subtable v)
    where
      go : (b : Bool) → (definition.when◌then◌else◌ b z (sizes.error z)).begun ≡ z.begun
      go true = refl
      go false = refl

module _ (s t : List ℕ) (e : Env) (front tail rest : List ℕ) (holds : SizesHold s t e.section) where
  pub set_size_lem : (spare : ℕ) (st : State) → Spare spare tail → Stood e.section tail rest spare st → (v : Value) (n : ℕ) → n < 65535 → Sound e.section (count st) v
      → Refines e.section front tail rest (suc spare) st enc_v (Sound e.section) (seen_stated (acts e.section front tail rest st) (set_size s t (temps e.section front tail rest st) (enc_v v) n (word e.section front tail rest st))) (d.by_sizes (λ sec. sizes.set_size sec n v) e st)
  unfolding set_size then_l seen_stated sizes.set_size
  set_size_lem spare st room f v n small g =
      let known = sizes.size_of e.section (tmps st) v in
      let z = sizes.settled e.section known n v st.sizing in
      let q = settled_sets e.section n small v st.sizing f.sizes known in
      let fits : length st.sizing.errors + 1 < 2 ^ 64 = (let a = f.errors in let b = f.actions in omega arith) in
      rw (size_is s t e.section holds rest (tmps st) f.sizes v g, settled_is s t e.section holds rest st.sizing f.sizes fits known v n (known_small s t e.section holds rest (tmps st) f.sizes v g) g small)
      (subst (λ (k : ℕ). Refines e.section front tail rest (suc spare) st enc_v (Sound e.section) (yes (record { kind = kind_number v.kind; number = v.number; offset = v.offset; size = n }) (record { end = length front + 24 * length st.actions; temporaries = k; sizing = enc_z z }) (acts e.section front tail rest st) (temporaries_in rest z.temporaries)) (done (truncate n v) (with_sizing z st))) q.count
      (refines_at e.section front tail rest (suc spare) st (with_sizing z st) enc_v (Sound e.section) (truncate n v) (record { kind = kind_number v.kind; number = v.number; offset = v.offset; size = n })
      (record {
        stood = record {
          actions = f.actions;
          temporaries = rw q.count f.temporaries;
          sizes = q.fit;
          errors = (let a = f.errors in let b = q.errors in omega arith);
          sound = actions_more e.section (count st) (length z.temporaries) (omega (arith, q.count)) st.actions f.sound;
          params = params_more e.section (count st) (length z.temporaries) (omega (arith, q.count)) st.scope.params f.params;
          mapping = mapping_more e.section (count st) (length z.temporaries) (omega (arith, q.count)) st.scope.mapping f.mapping;
        };
        later = record { temporaries = omega (arith, q.count); statements = refl; scope = refl; next_label = refl; export = refl; begun = settled-begun e.section n v st.sizing known; actions = omega arith; placed = refl };
      })
      (sound_more e.section (count st) (length z.temporaries) (omega (arith, q.count)) (truncate n v) (record { number = g.number; offset = g.offset; size = unfold or_else in small })) (unfold or_none or_else in refl)))
