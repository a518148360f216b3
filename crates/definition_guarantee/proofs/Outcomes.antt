-- Outcomes: the state that the whole walk leaves is in order, and no refusal is numbered 0.
use Prim.Native.Nat.{ℕ, suc, ◌+◌, ◌≤◌, ◌<◌}
use mathlib.Core.Path.{◌≡◌, refl, sym, ◌∙◌, ap, subst}
use mathlib.Core.Bool.{Bool, true}
use mathlib.Core.List.{List, [], ◌∷◌, map}
use mathlib.Core.Option.{none}
use native.Mathlib.Omega.{arith}
use lib.Dec.{leb}
use lib.ListN.{length, length-map}
use Rattle.prelude.specs.Base.{and_then, is_empty}
use Rattle.definition.specs.Refusals.{Refusal, refusal_number, list_full}
use Rattle.definition.specs.Value.{Kind, Value}
use Rattle.definition.specs.Ast.{Field, Subtable}
use Rattle.definition.specs.Sizes.{backward_pass}
use Rattle.definition.specs.Walk.{State, Env, Outcome, done, stopped, on, Walk, require}
use Rattle.definition.specs.Scope.{locals, section_scope}
use Rattle.definition.specs.Statements.{ordinal_after, resolve_body}
use Rattle.definition.specs.End.{resolve_statements, at_start}
use Rattle.definition.specs.Checker.{number_fits}
use Rattle.definition.specs.Premise.{sized_late, sized_late_walk, walked}
use Rattle.definition_guarantee.specs.Tests.{Each}
use Rattle.std.proofs.lemmas.Bool.{leb-true, lt-ltb}
use Rattle.definition_guarantee.proofs.Tests.{never, each_append, none_some}
use Rattle.definition_guarantee.proofs.Finish.{on_done, done_state, never_stopped, require-done}
use Rattle.definition_guarantee.proofs.WholeList.{label_numbers}
use Rattle.definition_guarantee.proofs.Ending.{InOrder}
use Rattle.definition_guarantee.specs.Limits.{WithinLimits}
use Rattle.definition_guarantee.proofs.Kept.{ValueFits, Kept, Ends}
use Rattle.definition_guarantee.proofs.Shapes.{local_fits}
use Rattle.definition_guarantee.proofs.KeptLabels.{no_label}
use Rattle.definition_guarantee.proofs.KeptStatements.{Nothing, keep_body}

-- the state at the start

locals_fit : (e : Env) (k : Kind) (i : ℕ) (ns : List ℕ)
    → ((n : ℕ) → n < i + length ns → number_fits 0 (length e.section.subtables) k n ≡ true)
    → Each (λ (p : ℕ × Value). ValueFits e 0 p.1) (locals k i ns)
unfolding locals
locals_fit e k i [] h = tt
locals_fit e k i (n ∷ ns) h = (local_fits 0 _ k i (h i (omega arith)), locals_fit e k (suc i) ns (λ m l. h m (omega arith)))

fields_fit : (e : Env) (ns : List ℕ) → Each (λ (p : ℕ × Value). ValueFits e 0 p.1) (locals Kind.Field 0 ns)
unfolding number_fits
fields_fit e ns = locals_fit e Kind.Field 0 ns (λ n h. refl)

subtables_fit : (e : Env) (ns : List ℕ) → length ns ≡ length e.section.subtables
    → Each (λ (p : ℕ × Value). ValueFits e 0 p.1) (locals Kind.Subtable 0 ns)
unfolding number_fits
subtables_fit e ns c = locals_fit e Kind.Subtable 0 ns (λ n h. lt-ltb n (length e.section.subtables) (omega arith))

pub start_kept : (e : Env) → length e.section.subtables ≤ e.action_room → Kept e (at_start e.section)
unfolding at_start section_scope label_numbers and_then
start_kept e h = record {
  in_order = record { actions = tt; sizes = record { small = λ i n d. none_some {x = none} refl d }; labels = tt; room = omega arith };
  scope = record {
    params = tt;
    mapping = each_append (λ (p : ℕ × Value). ValueFits e 0 p.1)
        (locals Kind.Field 0 (map (λ (x : Field). x.name) e.section.fields))
        (locals Kind.Subtable 0 (map (λ (x : Subtable). x.name) e.section.subtables))
        (fields_fit e (map (λ (x : Field). x.name) e.section.fields))
        (subtables_fit e (map (λ (x : Subtable). x.name) e.section.subtables)
        (length-map e.section.subtables (λ (x : Subtable). x.name)));
  };
  next = omega arith;
  placed = λ k i. absurd i;
  labels = record { below = λ n l d. no_label l n d; unplaced = λ n l d u. no_label l n d; apart = λ n i l j d q r. no_label l n d };
}

-- the walk

ends_done : {A : Type 0} (e : Env) (s t : State) (P : ℕ → A → Type 0) (x : Outcome A) (a : A) → Ends e s P x → x ≡ done a t → Kept e t
ends_done e s t P (done b u) a h d = subst (Kept e) (done_state d) h.1
ends_done e s t P (stopped r o k) a h d = never_stopped d

pub walk_in_order : (e : Env) (t : State) (x : Unit {0}) → WithinLimits e.section
    → resolve_statements e (at_start e.section) ≡ done x t → InOrder e t
unfolding resolve_statements on
walk_in_order e t x w h = go (leb (length e.section.subtables) e.action_room) refl h
  where
    s : State
    s = at_start e.section

    body : Walk (Unit {0})
    body = resolve_body 16 (ordinal_after e.section.macros) e.section.statements

    go : (b : Bool) → leb (length e.section.subtables) e.action_room ≡ b → on e (require b list_full e s) (λ _. body) ≡ done x t
        → InOrder e t
    go b d h =
        let p = on_done e (require b list_full e s) (λ _. body) x t h in
        let q = require-done e.section b list_full e s p.1 p.0 p.2 in
        let k = (keep_body e w 16 (ordinal_after e.section.macros) e.section.statements w.statements 0).keeps s (omega arith)
        (start_kept e (leb-true _ _ (d ∙ q.0))) in
        (ends_done e s t Nothing (body e s) x k (ap (body e) (sym q.1) ∙ p.3)).in_order

-- the premise, of the state that the walk has left
pub late_none : (e : Env) (t : State) (x : Unit {0}) → resolve_statements e (at_start e.section) ≡ done x t
    → is_empty (walked (sized_late_walk e (at_start e.section))) ≡ true
    → sized_late e.section [] (backward_pass e.section t.actions t.sizing).0
    (backward_pass e.section t.actions t.sizing).1 ≡ []
unfolding sized_late_walk on is_empty walked
late_none e t x h p = empty _ (rw h at p)
  where
    empty : (xs : List ℕ) → is_empty xs ≡ true → xs ≡ []
    empty [] d = refl
    empty (y ∷ ys) d = never d

-- no refusal is numbered 0
pub positive : (r : Refusal) → 0 < refusal_number r
unfolding refusal_number
positive Refusal.bad_length = omega arith
positive Refusal.block_check = omega arith
positive Refusal.malformed = omega arith
positive Refusal.outside_limit = omega arith
positive Refusal.names_nothing = omega arith
positive Refusal.spelled_twice = omega arith
positive Refusal.too_many_statements = omega arith
positive Refusal.macro_too_deep = omega arith
positive Refusal.list_full = omega arith
positive Refusal.too_many_temporaries = omega arith
positive Refusal.too_many_labels = omega arith
positive Refusal.after_export = omega arith
positive Refusal.redeclared = omega arith
positive Refusal.undefined = omega arith
positive Refusal.wrong_kind = omega arith
positive Refusal.absent_table = omega arith
positive Refusal.delay_slot_argument = omega arith
positive Refusal.macro_arguments = omega arith
positive Refusal.label_twice = omega arith
positive Refusal.store_to_no_address = omega arith
positive Refusal.jump_to_non_local = omega arith
positive Refusal.address_of_non_local = omega arith
positive Refusal.address_of_offset = omega arith
positive Refusal.constant_pool = omega arith
positive Refusal.argument_count = omega arith
positive Refusal.macro_in_expression = omega arith
positive Refusal.subpiece_argument = omega arith
positive Refusal.slice_past_end = omega arith
positive Refusal.not_assignable = omega arith
positive Refusal.const_space = omega arith
positive Refusal.no_default_space = omega arith
positive Refusal.other_space = omega arith
positive Refusal.shift_too_far = omega arith
positive Refusal.offset_too_far = omega arith
positive Refusal.subpiece_size = omega arith
positive Refusal.errors_recorded = omega arith
