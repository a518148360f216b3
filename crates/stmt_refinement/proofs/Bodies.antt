-- Bodies: statement after statement the words follow the definition, and so they do through macro calls, by induction on
-- the levels that are left.
use Prim.Native.Nat.{ℕ, zero, suc, ◌+◌, ◌*◌, ◌%◌, ◌^◌, ◌≤◌, ◌<◌}
use mathlib.Core.Path.{◌≡◌, refl, sym, ◌∙◌, subst}
use mathlib.Core.Bool.{true}
use mathlib.Core.List.{List, [], ◌∷◌}
use mathlib.Core.Option.{some}
use native.Mathlib.Nat.{add-zero}
use native.Mathlib.Omega.{arith}
use lib.ListN.{length, get_or, take, drop, get_elem?}
use borrow.Author.Tests.{lt-ltb, le-leb}
use Rattle.prelude.specs.Base.{when◌then◌else◌}
use Rattle.access.specs.Le.{le16}
use Rattle.definition.specs.Refusals.{refusal_number, macro_too_deep}
use Rattle.definition.specs.Ast.{Statement, Macro}
use Rattle.definition.specs.SectionFile.{parsed, list_of, statement}
use Rattle.definition.specs.Walk as walks
use Rattle.definition.specs.Walk.{ExprValue, Scope, State, Env, Outcome, done, stopped, on, with_scope}
use Rattle.definition.specs.Scope.{macro_scope}
use Rattle.definition.specs.Scope as scope
use Rattle.definition.specs.Statements as d
use Rattle.definition.specs.ActionList.{labels_placed}
use Rattle.definition_guarantee.proofs.Tests.{each_at}
use Rattle.definition_guarantee.specs.Tests as tests
use Rattle.definition_guarantee.specs.Limits.{StatementWithin, WithinLimits}
use Rattle.definition_guarantee.proofs.Kept.{Kept, ExprFits, Ends, keep_untouched}
use Rattle.definition_guarantee.proofs.KeptLabels.{no_label, keep_macro}
use Rattle.definition_guarantee.proofs.KeptStatements.{keep_body}
use Rattle.list_pushes.specs.declared.push.Env.{Env as WordEnv}
use Rattle.list_pushes.specs.declared.push.State.{State as WordState}
use Rattle.file_refinement.specs.Holds.{Holds}
use Rattle.file_refinement.proofs.Forward.{statement_ends}
use Rattle.file_refinement.proofs.Inversion.{statement_at, MacroParts}
use Rattle.list_refinement.specs.Encoding.{Each}
use Rattle.expr_terms.specs.Answers.{after}
use Rattle.stmt_walk.specs.Outcomes.{Walk}
use Rattle.stmt_walk.specs.Outcomes.{Step}
use Rattle.stmt_walk.specs.Walks.{Walked, walked, beside_p, without_p, on_step, stop}
use Rattle.stmt_bodies.specs.Statements.{statement_by, statement_begun, resolve_statement, resolve_all, macro_env, body_at, forward, returned, returned_to, macro_body, enter_macro, resolve_body}
use Rattle.expr_refinement.proofs.Answers.{acts, temps, word}
use Rattle.expr_refinement.proofs.Expressions.{after_is}
use Rattle.stmt_refinement.proofs.Begin.{one_more, started, Begins, begins, refuses, begin_is}
use Rattle.stmt_refinement.proofs.Steps.{Follows}
use Rattle.stmt_refinement.proofs.Frames.{framed_refl, framed_trans, framed_begun, standing_begun}
use Rattle.stmt_refinement.proofs.MacroPlaces.{macro-place, first_ordinal_lem, parts, ordinal-small}
use Rattle.stmt_refinement.proofs.Macros.{Fresh, entered_standing, returned_standing, returned_framed, bound_count, bound_each}
use Rattle.expr_refinement.specs.Encoding.{SoundX, count, ParamsIn}
use Rattle.stmt_refinement.specs.Standing.{Beside, Given, walk_of, Standing, Framed}

-- what enters a macro in the definition, with so many levels left
unfoldable pub enter_of : ℕ → ℕ → Macro → List ExprValue → walks.Walk (Unit {0})
enter_of zero id m xs = walks.refuse macro_too_deep
enter_of (suc deep) id m xs = d.enter_macro (d.resolve_body deep) id m xs

body_is : (deep ordinal : ℕ) (xs : List Statement) → d.resolve_body deep ordinal xs ≡ d.resolve_all (d.resolve_statement (enter_of deep)) ordinal xs
unfolding d.resolve_body enter_of
body_is zero ordinal xs = refl
body_is (suc deep) ordinal xs = refl

module _ (s t : List ℕ) (e : Env) (front tail rest : List ℕ) (spare : ℕ) where
  -- between statements of a body
  pub record Between (we : WordEnv) (p : List ℕ) (b : Beside) (st : State) : Type 0 where
    pub given : Given s t e front tail rest we
    pub standing : Standing t e tail rest we spare p b st
    pub kept : Kept e st
    pub placed : b.placed ≡ labels_placed st.actions

  -- a statement of it has begun, and was counted
  pub record Begun (we : WordEnv) (p : List ℕ) (b : Beside) (st : State) (ordinal : ℕ) : Type 0 where
    pub between : Between we p b st
    pub begun : st.sizing.begun ≡ some ordinal

  -- the words of statements follow the definition
  pub record StatementFollows (deep : ℕ) : Type 0 where
    pub follows : (we : WordEnv) (p : List ℕ) (b : Beside) (st : State) (ordinal : ℕ) → Begun we p b st ordinal
        → (pos : ℕ) (x : Statement) (next : ℕ) → statement (le16 s 2) (drop pos s) ≡ parsed x (drop next s) → pos ≤ length s → next ≤ length s → StatementWithin x
        → Follows t e front tail rest we spare b st next
        (statement_by (get_or s (pos + 0) 0) (enter_macro deep s t) s t we pos p (acts e.section front tail rest st) (temps e.section front tail rest st) (walk_of b (word e.section front tail rest st)))
        (d.resolve_statement (enter_of deep) x e st)

  -- and so do those of the macro with that number, called with these arguments as its parameters
  pub record EnterFollows (deep : ℕ) : Type 0 where
    pub follows : (we : WordEnv) (p : List ℕ) (b : Beside) (st : State) (ordinal : ℕ) → Begun we p b st ordinal → (ws : WordState) → ws.sizing.begun ≡ ordinal
        → (id : ℕ) (m : Macro) (q : List ℕ) (xs : List ExprValue) (n next : ℕ) → Fresh q → get_elem? e.section.macros id ≡ some m → n ≡ length m.params → length xs ≡ length m.params → ParamsIn q (scope.bind_params m.params xs [])
        → Each (SoundX e.section (count st)) xs → Each (ExprFits e (count st)) xs
        → Follows t e front tail rest we spare b st next
        (beside_p p (without_p (enter_macro deep s t q (acts e.section front tail rest st) (temps e.section front tail rest st) we id n next (word e.section front tail rest st) (walk_of b ws))))
        (enter_of deep id m xs e st)

  module _ (we : WordEnv) where
    pub follows_after : {next : ℕ} {b c : Beside} {from mid : State} {x : Walked} {o : Outcome (Unit {0})}
        → Framed b from c mid → Follows t e front tail rest we spare c mid next x o → Follows t e front tail rest we spare b from next x o
    follows_after f (Follows.goes u r a i j standing kept placed framed) = Follows.goes u r a i j standing kept placed (framed_trans f framed)
    follows_after f (Follows.stops r ordinal q a m i j) = Follows.stops r ordinal q a m i j

  kept_begun : (ordinal : ℕ) (st : State) → Kept e st → Kept e (started ordinal st)
  unfolding d.counted d.begin_at
  kept_begun ordinal st k = ((keep_untouched {e = e} {n = 0} (started ordinal) (λ u. record { temporaries = refl; actions = refl; scope = refl; next = refl })).keeps st (omega arith) k).1

  between_begun : (we : WordEnv) (p : List ℕ) (b : Beside) (st : State) (ordinal : ℕ) → Between we p b st → Begun we p (one_more b) (started ordinal st) ordinal
  unfolding d.counted d.begin_at
  between_begun we p b st ordinal h = record {
    between = record {
      given = h.given;
      standing = standing_begun ordinal h.standing;
      kept = kept_begun ordinal st h.kept;
      placed = h.placed;
    };
    begun = refl;
  }

  module _ (deep : ℕ) (statements : StatementFollows deep) (we : WordEnv) where
    -- statements from a position on: the words end behind them
    pub record Whole (b : Beside) (st : State) (x : Walked) (o : Outcome (Unit {0})) : Type 0 where
      pub end : ℕ
      pub follows : Follows t e front tail rest we spare b st end x o

    abbrev Rest : (ℕ → Walk → List ℕ → List ℕ → List ℕ → Walked) → ℕ → walks.Walk (Unit {0}) → Type 0
    Rest f next g = (q : List ℕ) (c : Beside) (u : State) → Between we q c u
        → Whole c u (f next (walk_of c (word e.section front tail rest u)) q (acts e.section front tail rest u) (temps e.section front tail rest u)) (g e u)

    module _ (p : List ℕ) (b : Beside) (st : State) (between : Between we p b st) (ordinal pos : ℕ) (x : Statement) (next : ℕ)
        (reads : statement (le16 s 2) (drop pos s) ≡ parsed x (drop next s)) (inside : pos ≤ length s) (ends : next ≤ length s) (within : StatementWithin x)
        (f : ℕ → Walk → List ℕ → List ℕ → List ℕ → Walked) (g : walks.Walk (Unit {0})) (others : Rest f next g) where
      on_from : (from : Beside) (mid : State) (y : Walked) (o : Outcome (Unit {0})) → ((c : Beside) (u : State) → Framed from mid c u → Framed b st c u)
          → Follows t e front tail rest we spare from mid next y o → Whole b st (on_step y f) (on e o (λ _. g))
      unfolding on_step on
      on_from from mid y o back (Follows.goes u q c i j standing kept placed framed) =
          let w = others q c u (record { given = between.given; standing = standing; kept = kept; placed = placed }) in
          rw (i, j) (record { end = w.end; follows = follows_after we (back c u framed) w.follows })
      on_from from mid y o back (Follows.stops r n q a m i j) = rw (i, j) (record { end = pos; follows = Follows.stops r n q a m refl refl })

      then_rest : (y : Step) (o : Outcome (Unit {0})) → Begins (length front) ordinal b st y o
          → Whole b st (on_step (statement_begun y (enter_macro deep s t) s t we pos p (acts e.section front tail rest st) (temps e.section front tail rest st)) f) (on e o (λ _ e1 st1. on e1 (d.resolve_statement (enter_of deep) x e1 st1) (λ _. g)))
      unfolding statement_begun on d.counted d.begin_at on_step
      then_rest y o (begins i j few free) =
          rw (i, j) (on_from (one_more b) (started ordinal st) _ _ (λ c u h. framed_begun ordinal h)
          (statements.follows we p (one_more b) (started ordinal st) ordinal (between_begun we p b st ordinal between) pos x next reads inside ends within))
      then_rest y o (refuses r i j) = rw (i, j) (record { end = pos; follows = Follows.stops r ordinal p (acts e.section front tail rest st) (temps e.section front tail rest st) refl refl })

    -- no statement
    nothing_read : (pos : ℕ) (xs : List Statement) (end : List ℕ) → list_of (statement (le16 s 2)) 0 (drop pos s) ≡ parsed xs end → xs ≡ []
    unfolding list_of
    nothing_read pos xs end h = cc

    abbrev All : ℕ → ℕ → ℕ → ℕ → List Statement → Type 0
    All k i first pos xs = (p : List ℕ) (b : Beside) (st : State) → Between we p b st
        → Whole b st (resolve_all (resolve_statement (enter_macro deep s t) s t we) (length s) k i first pos p (acts e.section front tail rest st) (temps e.section front tail rest st) (walk_of b (word e.section front tail rest st)))
        (d.resolve_all (d.resolve_statement (enter_of deep)) (first + i) xs e st)

    -- a statement that is read ends behind its beginning
    goes_forward : (pos : ℕ) (x : Statement) (next : ℕ) → statement (le16 s 2) (drop pos s) ≡ parsed x (drop next s) → pos ≤ length s → next ≤ length s → forward pos next (length s) ≡ true
    unfolding forward
    goes_forward pos x next reads inside ends = rw (lt-ltb pos next (statement_ends (le16 s 2) s pos next x reads inside ends), le-leb next (length s) ends)

    one_more_lem : (k i first pos : ℕ) (x : Statement) (xs : List Statement) (next : ℕ) → statement (le16 s 2) (drop pos s) ≡ parsed x (drop next s) → pos ≤ length s → next ≤ length s → StatementWithin x → first + i < 2 ^ 64
        → All k (suc i) first next xs → All (suc k) i first pos (x ∷ xs)
    unfolding resolve_all d.resolve_all resolve_statement
    one_more_lem k i first pos x xs next reads inside ends within few more p b st h =
        let z : (first + i) % 2 ^ 64 ≡ first + i = omega arith in
        let y : first + suc i ≡ suc (first + i) = omega arith in
        let goes : forward pos next (length s) ≡ true = goes_forward pos x next reads inside ends in
        rw z (then_rest p b st h (first + i) pos x next reads inside ends within
        (λ next1 w1 q a m. when forward pos next1 (length s) then resolve_all (resolve_statement (enter_macro deep s t) s t we) (length s) k (suc i) first next1 q a m w1 else walked (stop 3 w1) q a m) (d.resolve_all (d.resolve_statement (enter_of deep)) (suc (first + i)) xs)
        (λ q c u g. rw (goes, ← y) (more q c u g)) _ _
        (begin_is e (length front) (first + i) b st h.standing.statements h.standing.export))

    pub all_follow : (k i first pos : ℕ) (xs : List Statement) (end : List ℕ) → list_of (statement (le16 s 2)) k (drop pos s) ≡ parsed xs end → pos ≤ length s → tests.Each StatementWithin xs → first + i + k < 2 ^ 64
        → (p : List ℕ) (b : Beside) (st : State) → Between we p b st
        → Whole b st (resolve_all (resolve_statement (enter_macro deep s t) s t we) (length s) k i first pos p (acts e.section front tail rest st) (temps e.section front tail rest st) (walk_of b (word e.section front tail rest st)))
        (d.resolve_all (d.resolve_statement (enter_of deep)) (first + i) xs e st)
    unfolding resolve_all d.resolve_all
    all_follow zero i first pos xs end reads inside within few p b st h =
        rw (nothing_read pos xs end reads) (record { end = pos; follows = Follows.goes st p b refl refl h.standing h.kept h.placed (framed_refl b st) })
    all_follow (suc k) i first pos xs end reads inside within few p b st h =
        let l = statement_at s (le16 s 2) k pos xs end inside reads in
        let w : tests.Each StatementWithin (l.first ∷ l.others) = subst (λ (ys : List Statement). tests.Each StatementWithin ys) l.is within in
        rw l.is (one_more_lem k i first pos l.first l.others l.first_end l.first_reads inside l.first_inside w.0 (omega arith)
        (all_follow k (suc i) first l.first_end l.others (drop l.others-end s) l.others-reads l.first_inside w.1 (omega arith)) p b st h)

    -- a whole body
    pub body_follows_by : (k first pos : ℕ) (xs : List Statement) (end : List ℕ) → list_of (statement (le16 s 2)) k (drop pos s) ≡ parsed xs end → pos ≤ length s → tests.Each StatementWithin xs → first + k < 2 ^ 64
        → (p : List ℕ) (b : Beside) (st : State) → Between we p b st
        → Whole b st (resolve_body deep s t p (acts e.section front tail rest st) (temps e.section front tail rest st) we pos k first (walk_of b (word e.section front tail rest st))) (d.resolve_body deep first xs e st)
    unfolding resolve_body
    body_follows_by k first pos xs end reads inside within few p b st h =
        rw (body_is deep first xs)
        (subst (λ (i : ℕ). Whole b st (resolve_all (resolve_statement (enter_macro deep s t) s t we) (length s) k 0 first pos p (acts e.section front tail rest st) (temps e.section front tail rest st) (walk_of b (word e.section front tail rest st))) (d.resolve_all (d.resolve_statement (enter_of deep)) i xs e st))
        (add-zero first) (all_follow k 0 first pos xs end reads inside within (omega arith) p b st h))

-- a macro entered with a level left
module _ (s t : List ℕ) (e : Env) (front tail rest : List ℕ) (spare : ℕ) (limits : WithinLimits e.section) (deep : ℕ) (statements : StatementFollows s t e front tail rest spare deep)
    (we : WordEnv) (p : List ℕ) (b : Beside) (st : State) (ordinal : ℕ) (h : Begun s t e front tail rest spare we p b st ordinal) (ws : WordState)
    (id : ℕ) (m : Macro) (q : List ℕ) (xs : List ExprValue) (next : ℕ) (fresh : Fresh q) (is : get_elem? e.section.macros id ≡ some m) (enough : length xs ≡ length m.params) (held : ParamsIn q (scope.bind_params m.params xs []))
    (sound : Each (SoundX e.section (count st)) xs) (fits : Each (ExprFits e (count st)) xs) where
  standing : Standing t e tail rest we spare p b st
  standing = h.between.standing

  holds : Holds s t e.section
  holds = h.between.given.holds

  abbrev n : ℕ
  n = length m.params

  abbrev at : ℕ
  at = get_or t (3072 + id) 0

  abbrev own : WordEnv
  own = macro_env n we

  abbrev inside : Scope
  inside = macro_scope m.params xs

  abbrev inner : State
  inner = with_scope inside st

  abbrev ordinals : ℕ
  ordinals = d.ordinal_after (take id e.section.macros)

  macro : MacroParts s (le16 s 2) m.name at m (drop (holds.macro id m is).after s)
  macro = parts s t e.section holds id m is

  counts : get_or s at 0 ≡ n
  counts = sym macro.params.count

  begins_standing : Standing t e tail rest own spare q b inner
  unfolding macro_scope
  begins_standing = entered_standing s t e tail rest we spare n p b st standing inside q fresh held (let a = bound_count m.params xs [] enough in omega arith)
      (bound_each (SoundX e.section (count st)) m.params xs [] sound tt) refl refl

  begins_kept : Kept e inner
  unfolding macro_scope
  begins_kept = let o = h.between.kept in record {
    in_order = record { actions = o.in_order.actions; sizes = o.in_order.sizes; labels = o.in_order.labels; room = o.in_order.room };
    scope = record { params = bound_each (ExprFits e (count st)) m.params xs [] fits tt; mapping = tt };
    next = o.next;
    placed = o.placed;
    labels = record { below = λ n l d. no_label l n d; unplaced = λ n l d u. no_label l n d; apart = λ n i l j d q r. no_label l n d };
  }

  begins_between : Between s t e front tail rest spare own q b inner
  begins_between = let g = h.between.given in record {
    given = record { lent = g.lent; sizes = g.sizes; holds = g.holds; ranges = g.ranges; short = g.short; pointer = g.pointer };
    standing = begins_standing;
    kept = begins_kept;
    placed = h.between.placed;
  }

  statements_within : tests.Each StatementWithin m.body
  statements_within = each_at (λ (x : Macro). tests.Each StatementWithin x.body) e.section.macros id m limits.macros is

  abbrev body_words : Walked
  body_words = resolve_body deep s t q (acts e.section front tail rest st) (temps e.section front tail rest st) own (at + 1 + 2 * n + 2) (le16 s (at + 1 + 2 * n)) ordinals (walk_of b (word e.section front tail rest st))

  -- its body
  body_in : Whole s t e front tail rest spare deep statements own b inner body_words (d.resolve_body deep ordinals m.body e inner)
  body_in =
      let reads : list_of (statement (le16 s 2)) (le16 s (at + 1 + 2 * n)) (drop (at + 1 + 2 * n + 2) s) ≡ parsed m.body (drop (holds.macro id m is).after s) = rw counts at macro.body_reads in
      let stands : at + 1 + 2 * n + 2 ≤ length s = rw counts at macro.body-inside in
      let below : le16 s (at + 1 + 2 * n) < 1025 = rw counts at macro.statements-below in
      body_follows_by s t e front tail rest spare deep statements own (le16 s (at + 1 + 2 * n)) ordinals (at + 1 + 2 * n + 2) m.body (drop (holds.macro id m is).after s) reads stands statements_within
      (omega (arith, ordinal-small s t e.section holds id)) q b inner begins_between

  -- the words that enter it
  enters : enter_macro (suc deep) s t q (acts e.section front tail rest st) (temps e.section front tail rest st) we id n next (word e.section front tail rest st) (walk_of b ws) ≡ returned_to next body_words
  unfolding enter_macro macro_body body_at resolve_body
  enters =
      let inside : at + 1 + 2 * n + 2 ≤ length s = rw counts at macro.body-inside in
      let short = h.between.given.short in
      let few-params = macro.count-below in
      let c : n % 16 ≡ n = omega (arith, counts) in
      let f : after at (1 + 2 * n) ≡ at + 1 + 2 * n = after_is at (1 + 2 * n) (omega arith) (omega arith) ∙ omega arith in
      let g : after (at + 1 + 2 * n) 2 ≡ at + 1 + 2 * n + 2 = after_is (at + 1 + 2 * n) 2 (omega arith) (omega arith) in
      rw (macro-place s t e.section holds id m is, first_ordinal_lem s t e.section holds id m is, c, f, add-zero (at + 1 + 2 * n), g)

  abbrev leaves : Outcome (Unit {0}) → Outcome (Unit {0})
  leaves o = on e o (λ _ e1 st1. done (tt {0}) (with_scope st.scope st1))

  left : d.enter_macro (d.resolve_body deep) id m xs e st ≡ leaves (d.resolve_body deep ordinals m.body e inner)
  unfolding d.enter_macro on
  left = refl

  leaves_kept : (o : Outcome (Unit {0})) → Ends e st (λ k (_ : Unit {0}). Unit {0}) (leaves o) → (u : State) → o ≡ done tt u → Kept e (with_scope st.scope u)
  unfolding on
  leaves_kept (done a v) k u q = let z : v ≡ u = cc in subst (λ (y : State). Kept e (with_scope st.scope y)) z k.1
  leaves_kept (stopped r i j) k u q = let z : ◌≡◌ {A = ℕ} 0 1 = cc in absurd (omega arith)

  kept_back : (u : State) → d.resolve_body deep ordinals m.body e inner ≡ done tt u → Kept e (with_scope st.scope u)
  kept_back = leaves_kept (d.resolve_body deep ordinals m.body e inner)
      (subst (λ (o : Outcome (Unit {0})). Ends e st (λ k (_ : Unit {0}). Unit {0}) o) left
      ((keep_macro e {n = count st} (d.resolve_body deep) id m xs (λ o j. keep_body e limits deep o m.body statements_within j) fits).keeps st (omega arith) h.between.kept))

  back : (x : Walked) (o : Outcome (Unit {0})) (end : ℕ) → Follows t e front tail rest own spare b inner end x o → ((u : State) → o ≡ done tt u → Kept e (with_scope st.scope u))
      → Follows t e front tail rest we spare b st next (beside_p p (without_p (returned_to next x))) (leaves o)
  unfolding returned_to returned without_p beside_p on
  back x o end (Follows.goes u r c i j stands kept placed framed) k =
      rw (i, j) (Follows.goes (with_scope st.scope u) p c refl refl
      (returned_standing s t e tail rest we spare n p b st standing inside r c u stands framed) (k u i) placed
      (returned_framed s t e tail rest we spare n p b st standing inside r c u stands framed))
  back x o end (Follows.stops r f y a l i j) k = rw (i, j) (Follows.stops r f p a l refl refl)

  macro_follows : Follows t e front tail rest we spare b st next
      (beside_p p (without_p (enter_macro (suc deep) s t q (acts e.section front tail rest st) (temps e.section front tail rest st) we id n next (word e.section front tail rest st) (walk_of b ws)))) (enter_of (suc deep) id m xs e st)
  unfolding enter_of
  macro_follows =
      rw (enters, left)
      (back body_words (d.resolve_body deep ordinals m.body e inner) body_in.end body_in.follows kept_back)

-- Statements follow the definition if they do so with macros entered one level deeper.
module _ (s t : List ℕ) (e : Env) (front tail rest : List ℕ) (spare : ℕ) (limits : WithinLimits e.section)
    (statements : (deep : ℕ) → EnterFollows s t e front tail rest spare deep → StatementFollows s t e front tail rest spare deep) where
  pub enter_follows : (deep : ℕ) → EnterFollows s t e front tail rest spare deep
  unfolding enter_macro enter_of without_p beside_p
  enter_follows zero = record {
    follows = λ we p b st ordinal h ws begun id m q xs n next fresh is same enough held sound fits.
        Follows.stops macro_too_deep ordinal p (acts e.section front tail rest st) (temps e.section front tail rest st) (rw h.begun) (rw begun (unfold refusal_number in refl));
  }
  enter_follows (suc deep) = record {
    follows = λ we p b st ordinal h ws begun id m q xs n next fresh is same enough held sound fits.
        rw same (macro_follows s t e front tail rest spare limits deep (statements deep (enter_follows deep)) we p b st ordinal h ws id m q xs next fresh is enough held sound fits);
  }

  pub statement_follows : (deep : ℕ) → StatementFollows s t e front tail rest spare deep
  statement_follows deep = statements deep (enter_follows deep)

  -- the section's own statements
  pub body_follows : (we : WordEnv) (k ordinal pos : ℕ) (xs : List Statement) (end : List ℕ) → list_of (statement (le16 s 2)) k (drop pos s) ≡ parsed xs end → pos ≤ length s → tests.Each StatementWithin xs → ordinal + k < 2 ^ 64
      → (p : List ℕ) (b : Beside) (st : State) → Between s t e front tail rest spare we p b st
      → (next : ℕ) × Follows t e front tail rest we spare b st next (resolve_body 16 s t p (acts e.section front tail rest st) (temps e.section front tail rest st) we pos k ordinal (walk_of b (word e.section front tail rest st))) (d.resolve_body 16 ordinal xs e st)
  body_follows we k ordinal pos xs end reads inside within few p b st h =
      let w = body_follows_by s t e front tail rest spare 16 (statement_follows 16) we k ordinal pos xs end reads inside within few p b st h in
      (w.end, w.follows)
