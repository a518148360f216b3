-- A macro's scope: what the words and the state have in common when its body begins, and again for the caller when it has
-- ended.
use Prim.Native.Nat.{ℕ, zero, suc, ◌+◌, ◌*◌, ◌/◌, ◌%◌, ◌≤◌, ◌<◌}
use mathlib.Core.Path.{◌≡◌, refl, sym, ◌∙◌, ap}
use mathlib.Core.Logic.{◌≢◌}
use mathlib.Core.Bool.{false}
use mathlib.Core.List.{List, [], ◌∷◌}
use mathlib.Core.Option.{none, some}
use native.Mathlib.Omega.{arith}
use lib.ListN.{length, get_or, get_elem?, replicate, length-set, length-replicate}
use lib.Seq.{get_or-set_same, get_or-set_other}
use Rattle.access.specs.Le.{le16}
use Rattle.prelude.specs.Base.{first}
use Rattle.definition.specs.Walk.{ExprValue, Scope, State, Env, with_scope}
use Rattle.definition.specs.Scope as scope
use Rattle.definition.specs.Scope.{find}
use Rattle.list_pushes.specs.declared.push.Env.{Env as WordEnv}
use Rattle.access.specs.Loops.{run}
use Rattle.list_values.specs.Values.{value_at}
use Rattle.list_refinement.specs.Encoding.{Each}
use Rattle.expr_scope.specs.Smalls.{small}
use Rattle.expr_scope.specs.Outcomes.{Found}
use Rattle.expr_scope.specs.Scopes.{tmp_of, tmp_local, lookup_local}
use Rattle.expr_scope.specs.Slots.{of_slot, slot_at, param_place, arg_at}
use Rattle.stmt_simple.specs.Calls.{bind_name, bind_names}
use Rattle.stmt_branches.specs.Labels.{label_place}
use Rattle.stmt_bodies.specs.Statements.{macro_env}
use Rattle.expr_refinement.proofs.Encodings.{params_more, mapping_more}
use Rattle.expr_refinement.proofs.Expressions.{filled_args, filled_behind}
use Rattle.expr_refinement.proofs.Start.{none_small}
use Rattle.expr_refinement.proofs.Calls.{ArgsIn}
use Rattle.stmt_refinement.proofs.Params.{params_same}
use Rattle.stmt_refinement.proofs.Labels.{labels_more}
use Rattle.stmt_refinement.proofs.UserOps.{filled-long}
use Rattle.expr_refinement.specs.Encoding.{SoundX, count, enc_f, ParamsIn}
use Rattle.stmt_refinement.specs.Standing.{Beside, Standing, Framed, label_number}

-- Parameters: argument i gets the name of parameter i.

place_apart : (i j k : ℕ) → 0 < k → k < 8 → param_place j + k ≢ param_place i + 0
unfolding param_place
place_apart i j k h l z = omega arith

module _ (s : List ℕ) (names : ℕ) where
  name_kept : (i j k : ℕ) (args : List ℕ) → 0 < k → k < 8 → get_or (bind_name s names i args) (param_place j + k) 0 ≡ get_or args (param_place j + k) 0
  unfolding bind_name
  name_kept i j k args h l = get_or-set_other args (param_place i + 0) (param_place j + k) (le16 s (names + i % 8 * 2)) 0 (place_apart i j k h l)

  slot_kept : (i j : ℕ) (args : List ℕ) → slot_at (bind_name s names i args) (param_place j) ≡ slot_at args (param_place j)
  unfolding slot_at value_at
  slot_kept i j args = rw (
    name_kept i j 1 args (omega arith) (omega arith),
    name_kept i j 2 args (omega arith) (omega arith),
    name_kept i j 3 args (omega arith) (omega arith),
    name_kept i j 4 args (omega arith) (omega arith),
    name_kept i j 5 args (omega arith) (omega arith),
    name_kept i j 6 args (omega arith) (omega arith),
    name_kept i j 7 args (omega arith) (omega arith),
  )

  args_kept : (i j : ℕ) (xs : List ExprValue) (args : List ℕ) → ArgsIn args j xs → ArgsIn (bind_name s names i args) j xs
  args_kept i j [] args h = tt
  args_kept i j (x ∷ xs) args h = ((unfold arg_at in rw (slot_kept i j args) h.0), args_kept i (suc j) xs args h.1)

  name_length : (i : ℕ) (args : List ℕ) → length (bind_name s names i args) ≡ length args
  unfolding bind_name
  name_length i args = length-set args (param_place i + 0) (le16 s (names + i % 8 * 2))

  name_before : (i : ℕ) (args : List ℕ) (j : ℕ) → i < 8 → j < 8 * i → get_or (bind_name s names i args) j 0 ≡ get_or args j 0
  unfolding bind_name param_place
  name_before i args j few h = get_or-set_other args (i % 8 * 8 + 0) j (le16 s (names + i % 8 * 2)) 0 (λ q. omega arith)

  name_at_lem : (i : ℕ) (args : List ℕ) → 64 ≤ length args → get_or (bind_name s names i args) (param_place i + 0) 0 ≡ le16 s (names + i % 8 * 2)
  unfolding bind_name param_place
  name_at_lem i args long = get_or-set_same args (i % 8 * 8 + 0) (le16 s (names + i % 8 * 2)) 0 (omega arith)

  bound_from : (ns : List ℕ) (xs : List ExprValue) (i : ℕ) (bound : List (ℕ × ExprValue)) (args : List ℕ) → length bound ≡ i → i + length ns ≤ 8 → length xs ≡ length ns → 64 ≤ length args
      → ((j : ℕ) → j < length ns → get_elem? ns j ≡ some (le16 s (names + 2 * (i + j)))) → ArgsIn args i xs → ParamsIn args bound → ParamsIn (run (length ns) i (bind_name s names) args) (scope.bind_params ns xs bound)
  unfolding run scope.bind_params
  bound_from [] xs i bound args l few same long named g h = h
  bound_from (n ∷ ns) [] i bound args l few same long named g h = absurd (omega arith)
  bound_from (n ∷ ns) (x ∷ xs) i bound args l few same long named g h =
      bound_from ns xs (suc i) ((n, x) ∷ bound) (bind_name s names i args) (ap suc l) (omega arith) (omega arith) (rw (name_length i args) long)
      (λ j k. named (suc j) (omega arith) ∙ further j) (args_kept i (suc i) xs args g.1)
      (rw l (name_at_lem i args long ∙ sym name), rw l (ap of_slot (slot_kept i i args) ∙ (unfold arg_at in g.0)), params_same args (bind_name s names i args) bound (λ j a b. name_before i args j (omega arith) (omega arith)) h)
    where
      further : (j : ℕ) → some (le16 s (names + 2 * (i + suc j))) ≡ some (le16 s (names + 2 * (suc i + j)))
      further j = let z : i + suc j ≡ suc i + j = omega arith in rw z

      name : n ≡ le16 s (names + i % 8 * 2)
      name =
          let z : names + 2 * (i + 0) ≡ names + i % 8 * 2 = omega arith in
          let k : some n ≡ some (le16 s (names + 2 * (i + 0))) = named 0 (omega arith) in
          let c : n ≡ le16 s (names + 2 * (i + 0)) = cc in
          c ∙ rw z

  -- the arguments with all names are the parameters
  pub bound_in : (ns : List ℕ) (xs : List ExprValue) (args : List ℕ) → length ns ≤ 8 → length xs ≡ length ns → 64 ≤ length args → ((j : ℕ) → j < length ns → get_elem? ns j ≡ some (le16 s (names + 2 * j)))
      → ArgsIn args 0 xs → ParamsIn (bind_names (length ns) s names args) (scope.bind_params ns xs [])
  unfolding bind_names
  bound_in ns xs args few same long named g = bound_from ns xs 0 [] args refl (omega arith) same long (λ j k. named j k ∙ (let z : j ≡ 0 + j = omega arith in ap (λ (i : ℕ). some (le16 s (names + 2 * i))) z)) g tt

-- A macro's scope as its body begins: its parameters are bound, and there is no local and no label.
pub record Fresh (p : List ℕ) : Type 0 where
  pub long : length p ≡ 406
  pub nothing : (i : ℕ) → small p i ≡ 0

-- what stands behind the slots stays
name_behind : (s : List ℕ) (names i : ℕ) (args : List ℕ) (j : ℕ) → 64 ≤ j → get_or (bind_name s names i args) j 0 ≡ get_or args j 0
unfolding bind_name param_place
name_behind s names i args j h = get_or-set_other args (i % 8 * 8 + 0) j (le16 s (names + i % 8 * 2)) 0 (λ q. omega arith)

names_behind : (s : List ℕ) (names n i : ℕ) (args : List ℕ) (j : ℕ) → 64 ≤ j → get_or (run n i (bind_name s names) args) j 0 ≡ get_or args j 0
unfolding run
names_behind s names zero i args j h = refl
names_behind s names (suc n) i args j h = names_behind s names n (suc i) (bind_name s names i args) j h ∙ name_behind s names i args j h

names_length : (s : List ℕ) (names n i : ℕ) (args : List ℕ) → length (run n i (bind_name s names) args) ≡ length args
unfolding run
names_length s names zero i args = refl
names_length s names (suc n) i args = names_length s names n (suc i) (bind_name s names i args) ∙ name_length s names i args

-- the arguments of a call, with the names of the parameters, in words that were all 0
pub bound_fresh : (s : List ℕ) (names n : ℕ) (xs : List ExprValue) → Fresh (bind_names n s names (filled_args (replicate 406 0) 0 xs))
unfolding bind_names small
bound_fresh s names n xs = record {
  long = names_length s names n 0 (filled_args (replicate 406 0) 0 xs) ∙ filled-long xs (replicate 406 0) 0 ∙ length-replicate {A = ℕ} 406 0;
  nothing = λ i. rw (names_behind s names n 0 (filled_args (replicate 406 0) 0 xs) (64 + i / 6) (omega arith), filled_behind xs (replicate 406 0) 0 (64 + i / 6) (omega arith)) (unfold small in none_small 406 i);
}

pub bound_count : (ns : List ℕ) (xs : List ExprValue) (bound : List (ℕ × ExprValue)) → length xs ≡ length ns → length (scope.bind_params ns xs bound) ≡ length ns + length bound
unfolding scope.bind_params
bound_count [] xs bound h = omega arith
bound_count (n ∷ ns) [] bound h = absurd (omega arith)
bound_count (n ∷ ns) (x ∷ xs) bound h = bound_count ns xs ((n, x) ∷ bound) (omega arith) ∙ omega arith

pub bound_each : (P : ExprValue → Type 0) (ns : List ℕ) (xs : List ExprValue) (bound : List (ℕ × ExprValue)) → Each P xs → Each (λ (p : ℕ × ExprValue). P p.1) bound → Each (λ (p : ℕ × ExprValue). P p.1) (scope.bind_params ns xs bound)
unfolding scope.bind_params
bound_each P [] xs bound f g = g
bound_each P (n ∷ ns) [] bound f g = g
bound_each P (n ∷ ns) (x ∷ xs) bound f g = bound_each P ns xs ((n, x) ∷ bound) f.1 (f.0, g)

module _ (s t : List ℕ) (e : Env) (tail rest : List ℕ) (we : WordEnv) (spare n : ℕ) (p : List ℕ) (b : Beside) (st : State) (standing : Standing t e tail rest we spare p b st) (x : Scope) where
  -- what the words and the state have in common when the body begins
  pub entered_standing : (q : List ℕ) → Fresh q → ParamsIn q x.params → n ≡ length x.params → Each (λ (y : ℕ × ExprValue). SoundX e.section (count st) y.1) x.params → x.mapping ≡ [] → x.labels ≡ []
      → Standing t e tail rest (macro_env n we) spare q b (with_scope x st)
  entered_standing q fresh params counted sound mapping labels = let f = standing.stood in record {
    stood = record { actions = f.actions; temporaries = f.temporaries; sizes = f.sizes; errors = f.errors; sound = f.sound; params = sound; mapping = rw mapping tt };
    scoped = record { params = params; counted = counted; locals = λ name k. rw (nothing name, no_local name) (unfold enc_f in refl) };
    labelled = rw labels (record { same = λ name k. fresh.nothing (label_place name) ∙ (unfold find first label_number in refl); below = λ name l d. let z : ◌≡◌ {A = ℕ} 0 1 = (unfold find first in cc) in absurd (omega arith) });
    labels = standing.labels;
    few = standing.few;
    statements = standing.statements;
    export = standing.export;
    export_sound = standing.export_sound;
    long = fresh.long;
  }
    where
      nothing : (name : ℕ) → find name x.mapping ≡ none
      nothing name = rw mapping (unfold find first in refl)

      no_local : (name : ℕ) → lookup_local t q false name ≡ Found.Nothing
      no_local name = unfold lookup_local tmp_local tmp_of in rw (fresh.nothing (name % 1024))

  -- the body has ended: the caller's scope is as it was
  module _ (q : List ℕ) (c : Beside) (u : State) (stands : Standing t e tail rest (macro_env n we) spare q c u) (framed : Framed b (with_scope x st) c u) where
    pub returned_standing : Standing t e tail rest we spare p c (with_scope st.scope u)
    returned_standing = let f = stands.stood in record {
      stood = record {
        actions = f.actions;
        temporaries = f.temporaries;
        sizes = f.sizes;
        errors = f.errors;
        sound = f.sound;
        params = params_more e.section (count st) (count u) framed.temporaries st.scope.params standing.stood.params;
        mapping = mapping_more e.section (count st) (count u) framed.temporaries st.scope.mapping standing.stood.mapping;
      };
      scoped = record { params = standing.scoped.params; counted = standing.scoped.counted; locals = standing.scoped.locals };
      labelled = labels_more p b.labels c.labels st.scope.labels framed.labels standing.labelled;
      labels = stands.labels;
      few = stands.few;
      statements = stands.statements;
      export = stands.export;
      export_sound = stands.export_sound;
      long = standing.long;
    }

    pub returned_framed : Framed b st c (with_scope st.scope u)
    returned_framed = record { labels = framed.labels; temporaries = framed.temporaries }
