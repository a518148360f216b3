-- What a name means: a parameter's slot, the two instruction addresses, a local of the scope's list or of the table, a
-- global register or bit range, each as the definition has it.
use Prim.Native.Nat.{ℕ, suc, ◌+◌, ◌-◌, ◌*◌, ◌/◌, ◌%◌, ◌≤◌, ◌<◌}
use mathlib.Core.Path.{◌≡◌, refl, sym, ◌∙◌}
use mathlib.Core.Bool.{Bool, true, false}
use mathlib.Core.List.{List, [], ◌∷◌}
use mathlib.Core.Option.{Option, none, some}
use native.Mathlib.Omega.{arith}
use lib.ListN.{length, get_or, get_elem?}
use lib.Dec.{eqb, ltb}
use borrow.Author.Tests.{ne_eqb, lt-ltb}
use Rattle.prelude.specs.Base as definition
use Rattle.prelude.specs.Base.{◌or◌, and_then, or_else, first, when◌then◌else◌}
use Rattle.definition.specs.Refusals.{refusal_number}
use Rattle.definition.specs.Value.{Kind, kind_number, Value, local}
use Rattle.definition.specs.Ast.{BitRange as BitRangeEntry, Section}
use Rattle.definition.specs.Walk.{ExprValue, State, Env, on}
use Rattle.definition.specs.Scope as d
use Rattle.definition.specs.Scope.{find, Symbol, globals, Meaning, means, wrong, register_bits, global_meaning, inner_meaning, meaning_of}
use Rattle.definition.specs.ActionList.{or_none}
use Rattle.definition.proofs.Openers.{base_opens}
use Rattle.list_pushes.specs.declared.push.Env.{Env as WordEnv}
use Rattle.list_values.specs.Sizes.{entry}
use Rattle.file_refinement.specs.Holds.{Holds, bit_range_at, symbol_word}
use Rattle.definition_guarantee.proofs.Tests.{some_same}
use Rattle.definition_guarantee.proofs.Globals.{place-below, FoundPlaced, found_placed}
pub use Rattle.definition_guarantee.proofs.Entries.{find-each}
pub use Rattle.file_refinement.proofs.AgreeStream.{eqb_sym as eqb_swap}
use Rattle.list_refinement.specs.Encoding.{Sound}
use Rattle.expr_scope.specs.Outcomes.{Meaning as WordMeaning, Found}
use Rattle.expr_terms.specs.Answers.{resolved}
use Rattle.expr_resolver.specs.Expressions.{means_at}
use Rattle.expr_scope.specs.Slots.{of_slot, slot_at, param_place}
use Rattle.expr_scope.specs.Scopes as words
use Rattle.expr_scope.specs.Symbols.{of_kind, symbol_of, lookup}
use Rattle.expr_scope.specs.Scopes.{find_param, bits_at, bit_range, found_or, param_or}
use Rattle.expr_refinement.proofs.Answers.{acts, temps, word, Refines, refines_done, refines_stopped, seen_expr}
use Rattle.expr_refinement.specs.Encoding.{enc_x, SoundX, count, Stood, Later, enc_m, enc_f, ParamsIn, Scoped, enc_symbol, BitRangesFit, SoundM}

-- what an option holds, as a meaning
unfoldable pub means_or : Option ExprValue → WordMeaning → WordMeaning
means_or (some x) other = WordMeaning.Means (enc_x x)
means_or none other = other

-- the search, with the meaning that it finds
found : ℕ → List ℕ → WordMeaning → WordMeaning
found i p other = when ltb 0 i then WordMeaning.Means (of_slot (slot_at p (param_place (i - 1)))) else other

param_is : (ps : List (ℕ × ExprValue)) (p : List ℕ) (name : ℕ) (other : WordMeaning) → ParamsIn p ps → found (find_param (length ps) p name) p other ≡ means_or (find name ps) other
unfolding found find_param find first means_or base_opens
param_is [] p name other h = refl
param_is (x ∷ xs) p name other h = rw (h.0, eqb_swap x.0 name) (go (eqb name x.0) (param_is xs p name other h.2))
  where
    go : (b : Bool) → found (find_param (length xs) p name) p other ≡ means_or (find name xs) other
        → found (when b then suc (length xs) else find_param (length xs) p name) p other ≡ means_or ((definition.when◌then◌else◌ b (some x.1) none) or (find name xs)) other
    go true q =
        let i : ltb 0 (suc (length xs)) ≡ true = lt-ltb 0 (suc (length xs)) (omega arith) in
        let j : suc (length xs) - 1 ≡ length xs = omega arith in
        rw (i, j, h.1)
    go false q = q

pub scoped-later : (t p : List ℕ) (we : WordEnv) (from st : State) → Later from st → Scoped t p we from → Scoped t p we st
scoped-later t p we from st l h = record {
  params = rw l.scope h.params;
  counted = rw l.scope h.counted;
  locals = λ name k. rw l.scope (h.locals name k);
}

-- Globals.

word_parts : (k i : ℕ) → k < 8 → symbol_of (1 + k + 8 * i) ≡ of_kind k i
unfolding symbol_of
word_parts k i h =
    let z : 1 + k + 8 * i - 1 ≡ k + 8 * i = omega arith in
    let a : (k + 8 * i) % 8 ≡ k = omega arith in
    let b : (k + 8 * i) / 8 ≡ i = omega arith in
    rw (ne_eqb (1 + k + 8 * i) 0 (λ q. omega arith), z, a, b)

symbol_is : (y : Option Symbol) → symbol_of (symbol_word y) ≡ enc_symbol y
unfolding symbol_word enc_symbol
symbol_is none = unfold symbol_of in refl
symbol_is (some (Symbol.Space i x)) = word_parts 0 i (omega arith) ∙ (unfold of_kind in refl)
symbol_is (some (Symbol.Register i x)) = word_parts 1 i (omega arith) ∙ (unfold of_kind in refl)
symbol_is (some (Symbol.BitRange i x)) = word_parts 2 i (omega arith) ∙ (unfold of_kind in refl)
symbol_is (some (Symbol.Table i x)) = word_parts 3 i (omega arith) ∙ (unfold of_kind in refl)
symbol_is (some (Symbol.UserOp i)) = word_parts 4 i (omega arith) ∙ (unfold of_kind in refl)
symbol_is (some (Symbol.Macro i x)) = word_parts 5 i (omega arith) ∙ (unfold of_kind in refl)
symbol_is (some (Symbol.Other i)) = word_parts 6 i (omega arith) ∙ (unfold of_kind in refl)

module _ (s t : List ℕ) (sec : Section) (holds : Holds s t sec) where
  pub lookup_is : (name : ℕ) → name < 1024 → lookup t name ≡ enc_symbol (find name (globals sec))
  unfolding lookup
  lookup_is name h = let p : name % 1024 ≡ name = omega arith in rw (p, holds.globals name h) (symbol_is (find name (globals sec)))

  range_place : (i : ℕ) → i < length sec.bit_ranges → entry t 2 (i % 65536 * 8) ≡ get_or t 3330 0 + 8 * i
  unfolding entry
  range_place i h =
      let l : length sec.bit_ranges ≤ 1024 = rw holds.bit_ranges.count holds.limits.bit_ranges in
      let p : i % 65536 ≡ i = omega arith in
      let q : i * 8 % 1048576 ≡ 8 * i = omega arith in
      rw (p, q)

  range_is : (i : ℕ) (b : BitRangeEntry) → get_elem? sec.bit_ranges i ≡ some b → bit_range s t i ≡ enc_x (register_bits b)
  unfolding bit_range bits_at enc_x register_bits kind_number or_none or_else bit_range_at
  range_is i b q =
      let h = place-below sec.bit_ranges i b q in
      let z : get_or t 3330 0 + (2 + 6) * i ≡ get_or t 3330 0 + 8 * i = omega arith in
      let c : get_or t 3330 0 + 8 * i + 2 + 2 ≡ get_or t 3330 0 + 8 * i + 4 = omega arith in
      let d : get_or t 3330 0 + 8 * i + 2 + 4 ≡ get_or t 3330 0 + 8 * i + 6 = omega arith in
      rw (range_place i h, ← some_same (sym (holds.bit_ranges.element i h) ∙ q), z, c, d)

  global_means : (y : Option Symbol) → FoundPlaced sec y → words.global_meaning s t (enc_symbol y) ≡ enc_m (global_meaning y)
  unfolding words.global_meaning enc_symbol global_meaning enc_m refusal_number
  global_means none h = refl
  global_means (some (Symbol.Space i x)) h = refl
  global_means (some (Symbol.Register i x)) h = unfold enc_x kind_number or_none or_else in refl
  global_means (some (Symbol.BitRange i b)) h = rw (range_is i b h)
  global_means (some (Symbol.Table i x)) h = refl
  global_means (some (Symbol.UserOp i)) h = refl
  global_means (some (Symbol.Macro i x)) h = refl
  global_means (some (Symbol.Other i)) h = refl

module _ (s t : List ℕ) (e : Env) (p : List ℕ) (we : WordEnv) (holds : Holds s t e.section) (st : State) (scoped : Scoped t p we st) (name : ℕ) (known : name < 1024) where
  inner_is : words.inner_meaning s t p we name
      ≡ enc_m (meaning_of e.section ((definition.when◌then◌else◌ (eqb name e.section.header.inst_next) (some (ExprValue.Local (local Kind.InstNext 0))) none) or (definition.when◌then◌else◌ (eqb name e.section.header.inst_start) (some (ExprValue.Local (local Kind.InstStart 0))) none)
      or (and_then (find name st.scope.mapping) λ v. some (ExprValue.Local v))) name)
  unfolding words.inner_meaning words.local_meaning
  inner_is =
      rw (scoped.locals name known, lookup_is s t e.section holds name known, ← holds.inst_next, ← holds.inst_start)
      (go (eqb name e.section.header.inst_next) (eqb name e.section.header.inst_start) (find name st.scope.mapping))
    where
      go : (a b : Bool) (v : Option Value)
          → found_or (when a then Found.Is (record { kind = 1; number = 0; offset = 0; size = 65535 }) else when b then Found.Is (record { kind = 0; number = 0; offset = 0; size = 65535 }) else enc_f v) (words.global_meaning s t (enc_symbol (find name (globals e.section))))
          ≡ enc_m (meaning_of e.section ((definition.when◌then◌else◌ a (some (ExprValue.Local (local Kind.InstNext 0))) none) or (definition.when◌then◌else◌ b (some (ExprValue.Local (local Kind.InstStart 0))) none) or (and_then v λ v. some (ExprValue.Local v))) name)
      go true b v = unfold base_opens meaning_of enc_m enc_x found_or kind_number or_none or_else in refl
      go false true v = unfold base_opens meaning_of enc_m enc_x found_or kind_number or_none or_else in refl
      go false false (some v) = unfold base_opens meaning_of enc_m enc_x found_or enc_f in refl
      go false false none = unfold base_opens meaning_of found_or enc_f in global_means s t e.section holds (find name (globals e.section)) (found_placed e.section name _ refl)

  pub ident_is : words.resolve_ident s t p we name ≡ enc_m (meaning_of e.section (inner_meaning e.section st.scope name) name)
  unfolding words.resolve_ident param_or found inner_meaning words.inner_meaning words.local_meaning
  ident_is =
      rw scoped.counted
      (param_is st.scope.params p name _ scoped.params ∙ go (find name st.scope.params))
    where
      go : (x : Option ExprValue) → means_or x (words.inner_meaning s t p we name)
          ≡ enc_m (meaning_of e.section (x or (definition.when◌then◌else◌ (eqb name e.section.header.inst_next) (some (ExprValue.Local (local Kind.InstNext 0))) none) or (definition.when◌then◌else◌ (eqb name e.section.header.inst_start) (some (ExprValue.Local (local Kind.InstStart 0))) none)
          or (and_then (find name st.scope.mapping) λ v. some (ExprValue.Local v))) name)
      go (some x) = unfold means_or ◌or◌ meaning_of enc_m in refl
      go none = unfold means_or ◌or◌ in inner_is

module _ (sec : Section) (tail rest : List ℕ) (spare : ℕ) (st : State) (name : ℕ) (ranges : BitRangesFit sec) (stood : Stood sec tail rest spare st) where
  global_sound : (y : Option Symbol) → FoundPlaced sec y → SoundM sec (count st) (global_meaning y)
  unfolding global_meaning register_bits
  global_sound none h = tt
  global_sound (some (Symbol.Space i x)) h = tt
  global_sound (some (Symbol.Register i x)) h = record { number = place-below sec.registers i x h; offset = omega arith; size = unfold or_else in omega arith }
  global_sound (some (Symbol.BitRange i b)) h = (record { number = ranges.register i b h; offset = omega arith; size = unfold or_else in omega arith }, ranges.bits i b h)
  global_sound (some (Symbol.Table i x)) h = tt
  global_sound (some (Symbol.UserOp i)) h = tt
  global_sound (some (Symbol.Macro i x)) h = tt
  global_sound (some (Symbol.Other i)) h = tt

  pub meaning-sound : SoundM sec (count st) (meaning_of sec (inner_meaning sec st.scope name) name)
  unfolding inner_meaning
  meaning-sound = go (find name st.scope.params) refl (eqb name sec.header.inst_next) (eqb name sec.header.inst_start) (find name st.scope.mapping) refl
    where
      go : (x : Option ExprValue) → find name st.scope.params ≡ x → (a b : Bool) (v : Option Value) → find name st.scope.mapping ≡ v
          → SoundM sec (count st) (meaning_of sec (x or (definition.when◌then◌else◌ a (some (ExprValue.Local (local Kind.InstNext 0))) none) or (definition.when◌then◌else◌ b (some (ExprValue.Local (local Kind.InstStart 0))) none) or (and_then v λ v. some (ExprValue.Local v))) name)
      go (some x) h a b v k = unfold base_opens meaning_of in find-each (SoundX sec (count st)) name st.scope.params x stood.params h
      go none h true b v k = unfold base_opens meaning_of in record { number = tt; offset = omega arith; size = omega arith }
      go none h false true v k = unfold base_opens meaning_of in record { number = tt; offset = omega arith; size = omega arith }
      go none h false false (some v) k = unfold base_opens meaning_of in find-each (Sound sec (count st)) name st.scope.mapping v stood.mapping k
      go none h false false none k = unfold base_opens meaning_of in global_sound (find name (globals sec)) (found_placed sec name _ refl)

module _ (s t : List ℕ) (e : Env) (p front tail rest : List ℕ) (we : WordEnv) (holds : Holds s t e.section) (spare : ℕ) (st : State) (scoped : Scoped t p we st) (name : ℕ) (known : name < 1024)
    (ranges : BitRangesFit e.section) (stood : Stood e.section tail rest spare st) where
  meant_refines : (next : ℕ) (x : Meaning) → SoundM e.section (count st) x
      → Refines e.section front tail rest spare st (λ (x : ExprValue). (enc_x x, next)) (SoundX e.section) (seen_expr (resolved (means_at (enc_m x) next (word e.section front tail rest st)) (acts e.section front tail rest st) (temps e.section front tail rest st))) (d.meant x e st)
  unfolding means_at enc_m seen_expr d.meant
  meant_refines next (means x) h = refines_done e.section front tail rest spare st _ (SoundX e.section) x (enc_x x, next) stood h refl
  meant_refines next (wrong r) h = refines_stopped e.section front tail rest spare st _ (SoundX e.section) (refusal_number r) r refl

  -- a name as an expression
  pub ident : (next : ℕ)
      → Refines e.section front tail rest spare st (λ (x : ExprValue). (enc_x x, next)) (SoundX e.section) (seen_expr (resolved (means_at (words.resolve_ident s t p we name) next (word e.section front tail rest st)) (acts e.section front tail rest st) (temps e.section front tail rest st))) (d.resolve_ident name e st)
  unfolding d.resolve_ident d.meaning on
  ident next = rw (ident_is s t e p we holds st scoped name known) (meant_refines next (meaning_of e.section (inner_meaning e.section st.scope name) name) (meaning-sound e.section tail rest spare st name ranges stood))
