-- From the words of a call to the definition.
use Prim.Native.Nat.{ℕ, ◌*◌, ◌^◌, ◌<◌}
use mathlib.Core.Path.{◌≡◌, sym, ◌∙◌, ap}
use mathlib.Core.Bool.{Bool, true, false}
use mathlib.Core.List.{List}
use native.Mathlib.Omega.{arith}
use lib.ListN.{length}
use borrow.Author.Tests.{eq-eqb, ne_eqb}
use Rattle.definition.specs.SectionFile.{read}
use Rattle.definition.specs.ActionList.{Answer, numbers, resolve}
use Rattle.definition.specs.Checker.{check}
use Rattle.definition.specs.Premise.{premise}
use Rattle.definition.specs.Passing.{subtable_count, pointer_size_in, passes, checked}
use Rattle.definition_guarantee.proofs.Guarantee.{accepted_files_pass}
use Rattle.resolve_counts.specs.declared.Counts.{Counts}
use Rattle.resolve_counts.specs.Counts.{counts}
use Rattle.resolve_answer.specs.declared.answer.Answer.{Answer as Numbers}
use Rattle.resolve_answer.specs.Answers.{resolved_to}
use Rattle.resolve_file.specs.Files.{resolve_file}
use Rattle.resolve_refinement.specs.Answers.{result_of, answer, as_answer}
use Rattle.resolve_refinement.proofs.Theorem.{answered_is}

pub resolved : (file a m : List ℕ) (r : Numbers) (b u : List ℕ) → resolved_to r b u ≡ resolve_file file a m → length a * 8 < 2 ^ 63 → length m * 8 < 2 ^ 63 → length b ≡ length a → length u ≡ length m
    → answer (result_of r) b u ≡ resolve file (length a) (length m)
unfolding as_answer
resolved file a m r b u h short shorter p q =
    answered_is file a m (omega arith) (omega arith) r b u h p q

module _ (file : List ℕ) (la lt : ℕ) (r : Numbers) (b u : List ℕ) (h : answer (result_of r) b u ≡ resolve file la lt) where
  -- the answer's parts
  pub in_array : (x : List ℕ) → x ≡ numbers (result_of r) → x ≡ numbers (resolve file la lt).result
  in_array x e = e ∙ ap (λ (a : Answer). numbers a.result) h

  pub actions_are : b ≡ (resolve file la lt).actions
  actions_are = ap (λ (a : Answer). a.actions) h

  pub temporaries_are : u ≡ (resolve file la lt).temporaries
  temporaries_are = ap (λ (a : Answer). a.temporaries) h

  refusal_is : r.refusal ≡ (resolve file la lt).result.refusal
  refusal_is = ap (λ (a : Answer). a.result.refusal) h

  -- a refused section's list does not pass
  pub not_checked : (r.refusal ≡ 0 → ⊥) → false ≡ checked file la lt
  unfolding checked
  not_checked k = rw (ne_eqb (resolve file la lt).result.refusal 0 (λ z. k (refusal_is ∙ z)))

  module _ (c : Counts) (counted : c ≡ counts (subtable_count (read file)) (pointer_size_in (read file))) (x : Bool) (e : x ≡ check b r.actions r.temporaries c.subtables c.pointer) where
    passes_is : x ≡ passes file la lt
    passes_is = e ∙ ap (λ (k : Counts). check b r.actions r.temporaries k.subtables k.pointer) counted
        ∙ ap (λ (a : Answer). check a.actions a.result.actions a.result.temporaries (subtable_count (read file)) (pointer_size_in (read file))) h

    pub is_checked : r.refusal ≡ 0 → x ≡ checked file la lt
    unfolding checked
    is_checked z = rw (eq-eqb (resolve file la lt).result.refusal 0 (sym refusal_is ∙ z)) passes_is

    pub held : r.refusal ≡ 0 → premise file la lt ≡ true → r.refusal ≡ 0 → x ≡ true
    held z p q = passes_is ∙ accepted_files_pass file la lt (sym refusal_is ∙ z) p

pub ruleset parts = (in_array, actions_are, temporaries_are)

pub ruleset checked_laws = (not_checked, is_checked, held)
