-- A statement that calls a macro: its arguments are resolved and counted as in the definition, then the macro is entered.
use Prim.Native.Nat.{ℕ, ◌+◌, ◌≤◌, ◌<◌}
use mathlib.Core.Path.{◌≡◌, refl, sym, ◌∙◌, ap, subst}
use mathlib.Core.Bool.{Bool, true, false}
use mathlib.Core.List.{List, []}
use mathlib.Core.Option.{Option, none, some}
use native.Mathlib.Nat.{add-zero}
use native.Mathlib.Omega.{arith}
use lib.ListN.{length, get_or, drop, replicate, get_elem?, length-replicate}
use lib.Dec.{eqb}
use borrow.Author.Tests.{eqb-true}
use Rattle.access.specs.Le.{le16}
use Rattle.prelude.specs.Base as definition
use Rattle.prelude.specs.Base.{or_else, when◌then◌else◌}
use Rattle.definition.specs.Refusals.{refusal_number, macro_arguments}
use Rattle.definition.specs.Ast.{Args, Statement, Macro}
use Rattle.definition.specs.SectionFile.{parsed, expr_within, args_of, statement}
use Rattle.definition.specs.Walk.{ExprValue, State, Env, Outcome, done, stopped, on, require}
use Rattle.definition.specs.Scope as scope
use Rattle.definition.specs.Scope.{find, Symbol, globals, lookup}
use Rattle.definition.specs.Expressions as expressions
use Rattle.definition.specs.Statements as d
use Rattle.definition.specs.ActionList.{or_none}
use Rattle.definition_guarantee.specs.Limits.{ArgsWithin, StatementWithin, WithinLimits}
use Rattle.definition_guarantee.proofs.Globals.{FoundPlaced, found_placed}
use Rattle.definition_guarantee.proofs.Kept.{Kept, ExprFits, Ends}
use Rattle.definition_guarantee.proofs.KeptExpressions.{keep_args}
use Rattle.list_pushes.specs.declared.push.Env.{Env as WordEnv}
use Rattle.list_pushes.specs.declared.push.State.{State as WordState}
use Rattle.file_refinement.specs.Holds.{Holds}
use Rattle.file_refinement.proofs.Inversion.{CallStatementAt, call-statement_at}
use Rattle.list_refinement.specs.Encoding.{Each}
use Rattle.list_refinement.proofs.Seen.{outcome}
use Rattle.expr_scope.specs.Outcomes.{Args as WordArgs}
use Rattle.expr_terms.specs.Answers.{ArgsOut, passed, on_args, after}
use Rattle.expr_resolver.specs.Expressions.{resolve_args, resolve_expr}
use Rattle.stmt_walk.specs.Outcomes.{Walk}
use Rattle.stmt_simple.specs.Outcomes.{Called}
use Rattle.stmt_walk.specs.Walks.{Stepped, stepped, beside_p, without_p, stop}
use Rattle.stmt_simple.specs.Calls.{symbol_called, called_of, macro_at, bind_names, counted, macro_counted, macro_args}
use Rattle.stmt_bodies.specs.Statements.{enter_macro, macro_statement, call_named, call_statement}
use Rattle.expr_refinement.proofs.Answers.{acts, temps, word, seen_args, Reached, Refines}
use Rattle.expr_refinement.proofs.Below.{Spare}
use Rattle.expr_refinement.proofs.Positions.{drop_same}
use Rattle.expr_refinement.proofs.Scopes.{lookup_is}
use Rattle.expr_refinement.proofs.Expressions.{after_is, filled_args, filled_in, resolve_args_lem, resolve-expr}
use Rattle.stmt_refinement.proofs.Given.{below}
use Rattle.stmt_refinement.proofs.Steps.{Follows}
use Rattle.stmt_refinement.proofs.Stepping.{standing_later, framed_later}
use Rattle.stmt_refinement.proofs.MacroPlaces.{macro-place, parts}
use Rattle.stmt_refinement.proofs.Macros.{bound_in, bound_fresh}
use Rattle.stmt_refinement.proofs.CallKinds.{is_macro}
use Rattle.stmt_refinement.proofs.UserOps.{filled-long}
use Rattle.stmt_refinement.proofs.Bodies.{follows_after, enter_of, Begun, EnterFollows}
use Rattle.expr_refinement.specs.Encoding.{SoundX, count, ParamsIn, enc_symbol}
use Rattle.stmt_refinement.specs.Standing.{Beside, Given, walk_of}

module _ (s t : List ℕ) (e : Env) (front tail rest : List ℕ) (spare : ℕ) (room : Spare spare tail) (limits : WithinLimits e.section) (deep : ℕ) (enters : EnterFollows s t e front tail rest spare deep)
    (we : WordEnv) (p : List ℕ) (b : Beside) (st : State) (ordinal : ℕ) (h : Begun s t e front tail rest spare we p b st ordinal) (id : ℕ) (m : Macro) (is : get_elem? e.section.macros id ≡ some m)
    (pos : ℕ) (args : Args) (next : ℕ) (reads : args_of (expr_within (le16 s 2) 32) (get_or s (pos + 3) 0) (drop (pos + 4) s) ≡ parsed args (drop next s)) (few : get_or s (pos + 3) 0 < 9) (starts : pos + 4 ≤ length s) (inside : next ≤ length s) (within : ArgsWithin args) where
  given : Given s t e front tail rest we
  given = h.between.given

  holds : Holds s t e.section
  holds = given.holds

  abbrev n : ℕ
  n = get_or s (pos + 3) 0

  abbrev w : Walk
  w = walk_of b (word e.section front tail rest st)

  abbrev A : State → List ℕ
  A u = acts e.section front tail rest u

  abbrev M : State → List ℕ
  M u = temps e.section front tail rest u

  abbrev W : State → WordState
  W u = word e.section front tail rest u

  abbrev Goes_on : State → Stepped → Outcome (Unit {0}) → Type 0
  Goes_on from x o = Follows t e front tail rest we spare b from next (beside_p p x) o

  abbrev Resolved : ArgsOut → Outcome (List ExprValue) → Type 0
  Resolved x o = Refines e.section front tail rest spare st (λ (vs : List ExprValue). (filled_args (replicate 406 0) 0 vs, next)) (λ k vs. Each (SoundX e.section k) vs × (length vs ≡ n)) (seen_args x) o

  args_are : Resolved (resolve_args (resolve_expr 32 s t p we) n 0 (pos + 4) (A st) (M st) (replicate 406 0) (W st)) (expressions.resolve_args args e st)
  args_are =
      let f = below s t e front tail rest we given in
      resolve_args_lem s t e p front tail rest we f holds given.ranges spare room given.short 32 (resolve-expr s t e p front tail rest we f holds given.ranges spare room given.short 32 (omega arith))
      n 0 (pos + 4) args next (replicate 406 0) reads starts inside st h.between.standing.stood h.between.standing.scoped

  begun-word : (W st).sizing.begun ≡ ordinal
  unfolding or_none or_else
  begun-word = rw h.begun

  count_is : get_or s (macro_at t id + 0) 0 ≡ length m.params
  count_is = rw (macro-place s t e.section holds id m is, add-zero (get_or t (3072 + id) 0)) (sym (parts s t e.section holds id m is).params.count)

  abbrev enter : ℕ → WordState → List ℕ → List ℕ → List ℕ → Stepped
  enter end st1 a1 m1 q = without_p (enter_macro deep s t q a1 m1 we id n end st1 w)

  abbrev refuse : ℕ → List ℕ → List ℕ → Stepped
  refuse k a1 m1 = stepped (stop k w) a1 m1

  -- the arguments with the names of the macro's parameters
  abbrev bound : List ExprValue → List ℕ
  bound xs = bind_names n s (after (macro_at t id) 1) (filled_args (replicate 406 0) 0 xs)

  bound_params : (xs : List ExprValue) (k : ℕ) → Each (SoundX e.section k) xs → length xs ≡ n → length m.params ≡ n → ParamsIn (bound xs) (scope.bind_params m.params xs [])
  bound_params xs k sound many same =
      let macro = parts s t e.section holds id m is in
      let at : after (get_or t (3072 + id) 0) 1 ≡ get_or t (3072 + id) 0 + 1 = after_is (get_or t (3072 + id) 0) 1 (omega (arith, macro.body-inside, given.short)) (omega arith) in
      rw (macro-place s t e.section holds id m is, at, ← same)
      (bound_in s (get_or t (3072 + id) 0 + 1) m.params xs (filled_args (replicate 406 0) 0 xs) (omega (arith, few)) (many ∙ sym same) (let l = filled-long xs (replicate 406 0) 0 in omega (arith, length-replicate {A = ℕ} 406 0))
      (λ j l. macro.params.element j (omega (arith, macro.params.count))) (filled_in e.section k xs (replicate 406 0) 0 (omega (arith, length-replicate {A = ℕ} 406 0)) (omega (arith, few)) sound))

  -- the arguments are resolved
  entered : (xs : List ExprValue) (u : State) → Reached e.section front tail rest spare st u → Each (SoundX e.section (count u)) xs → length xs ≡ n → Kept e u → Each (ExprFits e (count u)) xs → (c : Bool) → eqb (length m.params) n ≡ c
      → Goes_on u (on_args (passed (when c then WordArgs.Done next (W u) else WordArgs.No 26) (A u) (M u) (bound xs)) enter refuse) (on e (require c macro_arguments e u) (λ _. enter_of deep id m xs))
  unfolding on_args on require beside_p
  entered xs u r sound many kept fits true q =
      let same = eqb-true (length m.params) n q in
      let l = r.later in
      enters.follows we p b u ordinal
      (record {
        between = record {
          given = given;
          standing = standing_later t e front tail rest we spare p b st u h.between.standing r;
          kept = kept;
          placed = h.between.placed ∙ sym l.placed;
        };
        begun = l.begun ∙ h.begun;
      })
      (W st) begun-word id m (bound xs) xs n next (bound_fresh s (after (macro_at t id) 1) n xs) is (sym same) (many ∙ sym same) (bound_params xs (count u) sound many same) sound fits
  entered xs u r sound many kept fits false q =
      Follows.stops macro_arguments ordinal p (A u) (M u) (rw (r.later.begun, h.begun)) (rw begun-word (unfold refusal_number in refl))

  count_test : (xs : List ExprValue) → length xs ≡ n → eqb (length m.params) (length xs) ≡ eqb (length m.params) n
  count_test xs q = rw q

  counted_is : (u : State) → counted s t id n next (W u) ≡ (when eqb (length m.params) n then WordArgs.Done next (W u) else WordArgs.No 26)
  unfolding counted
  counted_is u = rw count_is

  abbrev goes_in : List ExprValue → Env → State → Outcome (Unit {0})
  goes_in xs e1 st1 = on e1 (require (eqb (length m.params) (length xs)) macro_arguments e1 st1) (λ _. enter_of deep id m xs)

  resolved_args : (x : ArgsOut) (o : Outcome (List ExprValue)) → Resolved x o → Ends e st (λ k vs. Each (ExprFits e k) vs × (length vs ≡ expressions.arg_count args)) o
      → Goes_on st (on_args (macro_counted s t id n x) enter refuse) (on e o goes_in)
  unfolding seen_args outcome macro_counted on on_args beside_p
  resolved_args (passed (WordArgs.Done end st1) a1 m1 args1) (done xs u) r k =
      let z = r.same in
      let i : ◌≡◌ {A = List ℕ × ℕ} (args1, end) (filled_args (replicate 406 0) 0 xs, next) = cc in
      let i0 : args1 ≡ filled_args (replicate 406 0) 0 xs = ap (λ (j : List ℕ × ℕ). j.0) i in
      let i1 : end ≡ next = ap (λ (j : List ℕ × ℕ). j.1) i in
      let c : st1 ≡ W u = cc in
      let f : a1 ≡ A u = cc in
      let l : m1 ≡ M u = cc in
      let g = r.goes xs u refl in
      rw (i0, i1, c, f, l, counted_is u, count_test xs g.1.1)
      (follows_after s t e front tail rest spare we (framed_later t e front tail rest we spare b st u g.0)
      (entered xs u g.0 g.1.0 g.1.1 k.1 k.2.0 (eqb (length m.params) n) refl))
  resolved_args (passed (WordArgs.Done end st1) a1 m1 args1) (stopped q i j) r k = let z = r.same in let y : ◌≡◌ {A = ℕ} 0 1 = cc in absurd (omega arith)
  resolved_args (passed (WordArgs.No l) a1 m1 args1) (done xs u) r k = let z = r.same in let y : ◌≡◌ {A = ℕ} 0 1 = cc in absurd (omega arith)
  resolved_args (passed (WordArgs.No l) a1 m1 args1) (stopped q i j) r k =
      let z = r.same in
      let y : l ≡ refusal_number q = cc in
      let g = r.stops q i j refl in
      Follows.stops q ordinal p a1 m1 (rw (g.0, g.1, h.begun)) (rw (begun-word, y))

  pub macro-statement_follows : Goes_on st (macro_statement (enter_macro deep s t) s t p (A st) (M st) we pos id n w) (d.macro_statement (enter_of deep) id m args e st)
  unfolding macro_statement macro_args d.macro_statement
  macro-statement_follows =
      rw (after_is pos 4 (omega (arith, given.short)) (omega arith))
      (resolved_args (resolve_args (resolve_expr 32 s t p we) n 0 (pos + 4) (A st) (M st) (replicate 406 0) (W st)) (expressions.resolve_args args e st) args_are
      ((keep_args e limits args within (count st)).keeps st (omega arith) h.between.kept))

module _ (s t : List ℕ) (e : Env) (front tail rest : List ℕ) (spare : ℕ) (room : Spare spare tail) (limits : WithinLimits e.section) (deep : ℕ) (enters : EnterFollows s t e front tail rest spare deep)
    (we : WordEnv) (p : List ℕ) (b : Beside) (st : State) (ordinal : ℕ) (h : Begun s t e front tail rest spare we p b st ordinal)
    (pos : ℕ) (args : Args) (next : ℕ) (reads : args_of (expr_within (le16 s 2) 32) (get_or s (pos + 3) 0) (drop (pos + 4) s) ≡ parsed args (drop next s)) (known : le16 s (pos + 1) < le16 s 2) (few : get_or s (pos + 3) 0 < 9) (starts : pos + 4 ≤ length s) (inside : next ≤ length s) (within : ArgsWithin args) where
  abbrev name : ℕ
  name = le16 s (pos + 1)

  abbrev Calls : Called → Outcome (Unit {0}) → Type 0
  Calls c o = Follows t e front tail rest we spare b st next
      (beside_p p (call_named (enter_macro deep s t) c s t p (acts e.section front tail rest st) (temps e.section front tail rest st) we pos (get_or s (pos + 3) 0) (walk_of b (word e.section front tail rest st)))) o

  no_macro : {A : Type 0} → ◌≡◌ {A = Bool} false true → A
  no_macro z = let y : ◌≡◌ {A = ℕ} 0 1 = cc in absurd (omega arith)

  by_symbol : (o : Option Symbol) → FoundPlaced e.section o → is_macro (symbol_called (enc_symbol o)) ≡ true → Calls (symbol_called (enc_symbol o)) (d.symbol_statement (enter_of deep) args o e st)
  unfolding enc_symbol symbol_called is_macro d.symbol_statement
  by_symbol none q c = no_macro c
  by_symbol (some (Symbol.Macro i m)) q c =
      unfold call_named in macro-statement_follows s t e front tail rest spare room limits deep enters we p b st ordinal h i m q pos args next reads few starts inside within
  by_symbol (some (Symbol.Space i x)) q c = no_macro c
  by_symbol (some (Symbol.Register i x)) q c = no_macro c
  by_symbol (some (Symbol.BitRange i x)) q c = no_macro c
  by_symbol (some (Symbol.Table i x)) q c = no_macro c
  by_symbol (some (Symbol.UserOp i)) q c = no_macro c
  by_symbol (some (Symbol.Other i)) q c = no_macro c

  by_name : (a : Bool) → is_macro (when a then Called.DelaySlot else symbol_called (enc_symbol (find name (globals e.section)))) ≡ true
      → Calls (when a then Called.DelaySlot else symbol_called (enc_symbol (find name (globals e.section)))) ((definition.when◌then◌else◌ a (d.delay_slot (expressions.only_integer args)) (λ e1 st1. on e1 (lookup name e1 st1) (d.symbol_statement (enter_of deep) args))) e st)
  unfolding lookup on
  by_name true c = no_macro (unfold is_macro in c)
  by_name false c = by_symbol (find name (globals e.section)) (found_placed e.section name _ refl) c

  pub macro-call_follows : is_macro (called_of s t name) ≡ true → Follows t e front tail rest we spare b st next
      (beside_p p (call_statement (enter_macro deep s t) s t p (acts e.section front tail rest st) (temps e.section front tail rest st) we pos (walk_of b (word e.section front tail rest st)))) (d.call_statement (enter_of deep) name args e st)
  unfolding call_statement called_of d.call_statement on
  macro-call_follows c =
      let holds = h.between.given.holds in
      let g = lookup_is s t e.section holds name (omega (arith, holds.limits.names)) in
      rw (g, ← holds.delay_slot) (by_name (eqb name e.section.header.delay_slot) (rw (g, ← holds.delay_slot) at c))

-- The statement at its position.
module _ (s t : List ℕ) (e : Env) (front tail rest : List ℕ) (spare : ℕ) (room : Spare spare tail) (limits : WithinLimits e.section) (deep : ℕ) (enters : EnterFollows s t e front tail rest spare deep)
    (we : WordEnv) (p : List ℕ) (b : Beside) (st : State) (ordinal : ℕ) (h : Begun s t e front tail rest spare we p b st ordinal) where
  args_within : (x : Statement) (name : ℕ) (xs : Args) → x ≡ Statement.Call name xs → StatementWithin x → ArgsWithin xs
  unfolding StatementWithin
  args_within x name xs q k = let l : StatementWithin (Statement.Call name xs) = subst (λ (y : Statement). StatementWithin y) q k in l.1

  abbrev Calling : ℕ → Statement → ℕ → Type 0
  Calling pos x next = Follows t e front tail rest we spare b st next
      (beside_p p (call_statement (enter_macro deep s t) s t p (acts e.section front tail rest st) (temps e.section front tail rest st) we pos (walk_of b (word e.section front tail rest st)))) (d.resolve_statement (enter_of deep) x e st)

  call-read : (pos : ℕ) (x : Statement) (next : ℕ) → CallStatementAt s (le16 s 2) pos x (drop next s) → pos + 4 ≤ length s → next ≤ length s → StatementWithin x → is_macro (called_of s t (le16 s (pos + 1))) ≡ true → Calling pos x next
  call-read pos x next i starts inside within c =
      let k = drop_same s next i.args_end inside i.args_inside i.rest in
      subst (λ (n : ℕ). Calling pos x n) (sym k) (subst (λ (y : Statement). Calling pos y i.args_end) (sym i.is) calls)
    where
      calls : Calling pos (Statement.Call (le16 s (pos + 1)) i.args) i.args_end
      calls = unfold d.resolve_statement in macro-call_follows s t e front tail rest spare room limits deep enters we p b st ordinal h pos i.args i.args_end i.args_reads i.name_below i.count-below starts i.args_inside (args_within x (le16 s (pos + 1)) i.args i.is within) c

  pub macro-statement : (pos : ℕ) (x : Statement) (next : ℕ) → statement (le16 s 2) (drop pos s) ≡ parsed x (drop next s) → pos + 4 ≤ length s → next ≤ length s → StatementWithin x → get_or s pos 0 ≡ 7 → is_macro (called_of s t (le16 s (pos + 1))) ≡ true
      → Follows t e front tail rest we spare b st next
      (beside_p p (call_statement (enter_macro deep s t) s t p (acts e.section front tail rest st) (temps e.section front tail rest st) we pos (walk_of b (word e.section front tail rest st)))) (d.resolve_statement (enter_of deep) x e st)
  macro-statement pos x next reads starts inside within code c = call-read pos x next (call-statement_at s (le16 s 2) pos x (drop next s) code reads) starts inside within c
