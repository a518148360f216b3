-- THE PREMISE: it cannot be left out; and it holds where no operation with a rule has an unsized temporary when the forward
-- pass begins, so where the walk over the statements has left none unsized.
use Prim.Native.Nat.{ℕ, zero, suc, ◌≤◌, ◌<◌}
use mathlib.Core.Path.{◌≡◌, refl}
use mathlib.Core.Logic.{◌⊎◌, inl, inr}
use mathlib.Core.Bool.{Bool, true, false, ◌&&◌, not}
use mathlib.Core.List.{List, [], ◌∷◌, ◌++◌}
use mathlib.Core.Option.{Option, none, some}
use native.Mathlib.Omega.{arith}
use lib.Dec.{eqb, ltb}
use lib.ListN.{length, get_elem?}
use Rattle.prelude.specs.Base.{when◌then◌else◌, or_else, and_then, is_some, any, filter, is_empty}
use Rattle.definition.specs.Value.{SemanticAction, operation_of, Temporary}
use Rattle.definition.specs.Ast.{Section}
use Rattle.definition.specs.SectionFile.{Parsed, parsed, refused, read}
use Rattle.definition.specs.Sizes.{Sizing, steps_of, update_operand_sizes, backward_pass}
use Rattle.definition.specs.Walk.{State, Env, Outcome, done, stopped, on, with_sizing}
use Rattle.definition.specs.End.{resolve_statements, at_start}
use Rattle.definition.specs.ActionList.{room_for, when_read, resolve}
use Rattle.definition.specs.Premise.{ruled, is_sized_in, union, sized_late, sized_late_walk, walked, late_in, premise_failures, premise}
use Rattle.definition.specs.Starred.{WorkedSection, starred_sections}
use Rattle.std.proofs.lemmas.Bool.{eqb-true, eqb-false, ltb-true, ltb-false}
use Rattle.definition_guarantee.proofs.Tests.{In, in_left, in_right, clash}
use Rattle.definition_guarantee.proofs.Growth.{tmp_size, Grown}
use Rattle.definition_guarantee.proofs.Rules.{steps_grown}
use Rattle.definition_guarantee.proofs.Forward.{filter_none, backward_grown}
use Rattle.definition_guarantee.proofs.WholeList.{Distinct}
use Rattle.definition.specs.Passing.{passes}
use Rattle.definition.proofs.Openers.{starred_opens}
use Rattle.definition_guarantee.proofs.Guarantee.{accepted_files_pass}
use Rattle.definition_guarantee.specs.PremiseLaws.{PremiseNeeded, is_unsized, ruled_in, unsized_before_forward, from_walk, from_section, unsized_operands}

-- locals A to D unsized; B = A; C = D; D = inst_next; C = B; A = r4
unfoldable pub five_copies : List ℕ
five_copies = or_else [] (and_then (get_elem? starred_sections 2) λ (x : WorkedSection). some x.file)

pub premise_needed : PremiseNeeded five_copies 240 8
unfolding five_copies starred_opens
premise_needed = record { accepted = refl; failures = refl; refused = refl }

unfoldable pub below : ℕ → List ℕ
below zero = []
below (suc n) = n ∷ below n

unfoldable pub unsized_after_walk : Section → State → List ℕ
unsized_after_walk sec s = filter (is_unsized s.sizing.temporaries) (below (length s.sizing.temporaries))

unfoldable pub unsized_temporaries : List ℕ → ℕ → ℕ → List ℕ
unsized_temporaries file la lt = from_section unsized_after_walk la lt (read file)

-- sized, or not there
abbrev Settled : List Temporary → ℕ → Type 0
Settled ts i = ((n : ℕ) × (tmp_size ts i ≡ some n)) ⊎ (length ts ≤ i)

settled : (ts : List Temporary) (i : ℕ) → is_unsized ts i ≡ false → Settled ts i
unfolding is_unsized or_else and_then is_some
settled [] i h = inr (omega arith)
settled (t ∷ ts) zero h = go t.size refl h
  where
    go : (z : Option ℕ) → t.size ≡ z → not (is_some z) ≡ false → Settled (t ∷ ts) zero
    go (some n) d h = inl (n, d)
    go none d h = clash refl h
settled (t ∷ ts) (suc i) h = go (settled ts i h)
  where
    go : Settled ts i → Settled (t ∷ ts) (suc i)
    go (inl k) = inl k
    go (inr k) = inr (omega arith)

unsettled : (ts : List Temporary) (i : ℕ) → Settled ts i → is_unsized ts i ≡ false
unfolding is_unsized or_else and_then is_some
unsettled [] i k = refl
unsettled (t ∷ ts) zero (inl k) = rw k.1
unsettled (t ∷ ts) zero (inr k) = absurd (omega arith)
unsettled (t ∷ ts) (suc i) (inl k) = unsettled ts i (inl k)
unsettled (t ∷ ts) (suc i) (inr k) = unsettled ts i (inr (omega arith))

settled_stays : (ts us : List Temporary) (i : ℕ) → Grown ts us → Settled ts i → Settled us i
settled_stays ts us i g (inl k) = inl (k.0, g.stays i k.0 k.1)
settled_stays ts us i g (inr k) = let c = g.count in inr (omega arith)

size_past : (ts : List Temporary) (i : ℕ) → length ts ≤ i → tmp_size ts i ≡ none
unfolding and_then
size_past [] i h = refl
size_past (t ∷ ts) zero h = absurd (omega arith)
size_past (t ∷ ts) (suc i) h = size_past ts i (omega arith)

-- what is settled is not sized later
not_late : (ts us : List Temporary) (i : ℕ) → Grown ts us → Settled ts i → (not (is_some (tmp_size ts i)) && is_some (tmp_size us i)) ≡ false
unfolding is_some
not_late ts us i g (inl k) = rw k.1
not_late ts us i g (inr k) = let c = g.count in rw (size_past ts i k, size_past us i (omega arith))

filter_empty : (p : ℕ → Bool) (xs : List ℕ) → ((n : ℕ) → In n xs → p n ≡ false) → filter p xs ≡ []
unfolding filter
filter_empty p [] h = refl
filter_empty p (x ∷ xs) h = rw (h x (inl refl)) (filter_empty p xs (λ n i. h n (inr i)))

in_either : (n : ℕ) (ms ns : List ℕ) → In n (ms ++ ns) → In n ms ⊎ In n ns
in_either n [] ns i = inr i
in_either n (m ∷ ms) ns (inl d) = inl (inl d)
in_either n (m ∷ ms) ns (inr d) = go (in_either n ms ns d)
  where
    go : In n ms ⊎ In n ns → In n (m ∷ ms) ⊎ In n ns
    go (inl i) = inl (inr i)
    go (inr i) = inr i

module _ (sec : Section) where
  updated : (a : SemanticAction) (s : Sizing) → Grown s.temporaries (update_operand_sizes sec true a s).1.temporaries
  unfolding update_operand_sizes
  updated a s = steps_grown sec true (steps_of (operation_of a.kind)) a s

  late_nowhere : (before : List ℕ) (xs : List SemanticAction) (s : Sizing) → ((i : ℕ) → In i before → Settled s.temporaries i)
      → ((i : ℕ) → In i (ruled_in xs) → Settled s.temporaries i) → sized_late sec before xs s ≡ []
  unfolding sized_late is_sized_in ruled_in union
  late_nowhere before [] s h k = refl
  late_nowhere before (a ∷ xs) s h k =
      let t : Sizing = (update_operand_sizes sec true a s).1 in
      let g = updated a s in
      rw (filter_empty (λ i. not (is_some (tmp_size s.temporaries i)) && is_some (tmp_size t.temporaries i)) before
      (λ i j. not_late s.temporaries t.temporaries i g (h i j)))
      (late_nowhere (ruled a ++ before) xs t (λ i j. settled_stays s.temporaries t.temporaries i g
      (either i (in_either i (ruled a) before j)))
      (λ i j. settled_stays s.temporaries t.temporaries i g (k i (in_right i (ruled a) (ruled_in xs) j))))
    where
      either : (i : ℕ) → In i (ruled a) ⊎ In i before → Settled s.temporaries i
      either i (inl j) = k i (in_left i (ruled a) (ruled_in xs) j)
      either i (inr j) = h i j

  operands-settled : (s : State) → unsized_before_forward sec s ≡ []
      → sized_late sec [] (backward_pass sec s.actions s.sizing).0 (backward_pass sec s.actions s.sizing).1 ≡ []
  unfolding unsized_before_forward
  operands-settled s h =
      let back : List SemanticAction × Sizing = backward_pass sec s.actions s.sizing in
      late_nowhere [] back.0 back.1 (λ i j. absurd j)
      (λ i j. settled back.1.temporaries i (filter_none (is_unsized back.1.temporaries) (ruled_in back.0) i h j))

  in_below : (i n : ℕ) → i < n → In i (below n)
  unfolding below
  in_below i zero h = absurd (omega arith)
  in_below i (suc n) h = go (eqb i n) refl (in_below i n)
    where
      go : (b : Bool) → eqb i n ≡ b → (i < n → In i (below n)) → In i (below (suc n))
      go true d r = inl (eqb-true i n d)
      go false d r = inr (r (let q = eqb-false i n d in omega arith))

  all_settled : (ts : List Temporary) → filter (is_unsized ts) (below (length ts)) ≡ [] → (i : ℕ) → Settled ts i
  all_settled ts h i = go (ltb i (length ts)) refl
    where
      go : (b : Bool) → ltb i (length ts) ≡ b → Settled ts i
      go true d = settled ts i (filter_none (is_unsized ts) (below (length ts)) i h (in_below i (length ts) (ltb-true i (length ts) d)))
      go false d = inr (ltb-false i (length ts) d)

  walk_settled : (s : State) → unsized_after_walk sec s ≡ [] → unsized_before_forward sec s ≡ []
  unfolding unsized_after_walk unsized_before_forward
  walk_settled s h =
      let back : List SemanticAction × Sizing = backward_pass sec s.actions s.sizing in
      filter_empty (is_unsized back.1.temporaries) (ruled_in back.0)
      (λ i j. unsettled back.1.temporaries i
      (settled_stays s.sizing.temporaries back.1.temporaries i (backward_grown sec s.actions s.sizing)
      (all_settled s.sizing.temporaries h i)))

-- The premise holds for every file with no unsized operand of an operation with a rule, when the forward pass begins.
pub no_unsized_operands : (file : List ℕ) (la lt : ℕ) → unsized_operands file la lt ≡ [] → premise file la lt ≡ true
unfolding unsized_operands from_section when_read from_walk premise premise_failures late_in sized_late_walk on walked is_empty room_for
no_unsized_operands file la lt h = go (read file) h
  where
    after : (e : Env) (x : Outcome (Unit {0})) → from_walk unsized_before_forward e.section x ≡ []
        → is_empty (walked (on e x (λ _ f s. done (sized_late f.section [] (backward_pass f.section s.actions s.sizing).0
        (backward_pass f.section s.actions s.sizing).1)
        (with_sizing (backward_pass f.section s.actions s.sizing).1 s)))) ≡ true
    after e (done x s) h = rw (operands-settled e.section s h)
    after e (stopped r o k) h = refl

    go : (x : Parsed Section) → from_section unsized_before_forward la lt x ≡ [] → is_empty (late_in la lt x) ≡ true
    go (parsed sec rest) h = after (room_for sec la lt) (resolve_statements (room_for sec la lt) (at_start sec)) h
    go (refused r) h = refl

-- And so for every file whose temporaries all have sizes after the walk.
pub no_unsized_temporaries : (file : List ℕ) (la lt : ℕ) → unsized_temporaries file la lt ≡ [] → premise file la lt ≡ true
unfolding unsized_temporaries unsized_operands from_section when_read from_walk
no_unsized_temporaries file la lt h = no_unsized_operands file la lt (go (read file) h)
  where
    after : (sec : Section) (x : Outcome (Unit {0})) → from_walk unsized_after_walk sec x ≡ [] → from_walk unsized_before_forward sec x ≡ []
    after sec (done x s) h = walk_settled sec s h
    after sec (stopped r o k) h = refl

    go : (x : Parsed Section) → from_section unsized_after_walk la lt x ≡ [] → from_section unsized_before_forward la lt x ≡ []
    go (parsed sec rest) h = after sec (resolve_statements (room_for sec la lt) (at_start sec)) h
    go (refused r) h = refl

-- Such a file's list passes, if it is accepted.
pub sized_files_pass : (file : List ℕ) (la lt : ℕ) → (resolve file la lt).result.refusal ≡ 0 → unsized_operands file la lt ≡ [] → passes file la lt ≡ true
sized_files_pass file la lt z h = accepted_files_pass file la lt z (no_unsized_operands file la lt h)

-- In the five copies they are C and D, in the order of the actions' operands.
pub five_copies_unsized : unsized_operands five_copies 240 8 ≡ 2 ∷ 3 ∷ 3 ∷ 2 ∷ []
unfolding five_copies starred_opens unsized_operands from_section from_walk unsized_before_forward is_unsized ruled_in
five_copies_unsized = refl

-- The premise fails at each of its temporaries once.

not_among : (m : ℕ) (ns : List ℕ) → any (eqb m) ns ≡ false → ¬ In m ns
unfolding any
not_among m [] h i = absurd i
not_among m (n ∷ ns) h i = go (eqb m n) refl h i (not_among m ns)
  where
    go : (b : Bool) → eqb m n ≡ b → (when b then true else any (eqb m) ns) ≡ false → (m ≡ n) ⊎ In m ns
        → (any (eqb m) ns ≡ false → ¬ In m ns) → ⊥
    go true d h i r = clash refl h
    go false d h (inl e) r = eqb-false m n d e
    go false d h (inr i) r = r h i

union_distinct : (ms ns : List ℕ) → Distinct ns → Distinct (union ms ns)
unfolding union
union_distinct [] ns h = h
union_distinct (m ∷ ms) ns h = go (any (eqb m) (union ms ns)) refl (union_distinct ms ns h)
  where
    go : (b : Bool) → any (eqb m) (union ms ns) ≡ b → Distinct (union ms ns)
        → Distinct (when b then union ms ns else m ∷ union ms ns)
    go true d r = r
    go false d r = (not_among m (union ms ns) d, r)

late_distinct : (sec : Section) (before : List ℕ) (xs : List SemanticAction) (s : Sizing) → Distinct (sized_late sec before xs s)
unfolding sized_late
late_distinct sec before [] s = tt
late_distinct sec before (a ∷ xs) s = union_distinct _ _ (late_distinct sec (ruled a ++ before) xs _)

pub failures_distinct : (file : List ℕ) (la lt : ℕ) → Distinct (premise_failures file la lt)
unfolding premise_failures late_in when_read sized_late_walk on walked
failures_distinct file la lt = go (read file)
  where
    after : (e : Env) (x : Outcome (Unit {0}))
        → Distinct (walked (on e x (λ _ f s. done (sized_late f.section [] (backward_pass f.section s.actions s.sizing).0
        (backward_pass f.section s.actions s.sizing).1)
        (with_sizing (backward_pass f.section s.actions s.sizing).1 s))))
    after e (done x s) = late_distinct e.section [] _ _
    after e (stopped r o k) = tt

    go : (x : Parsed Section) → Distinct (late_in la lt x)
    go (parsed sec rest) = after (room_for sec la lt) (resolve_statements (room_for sec la lt) (at_start sec))
    go (refused r) = tt
