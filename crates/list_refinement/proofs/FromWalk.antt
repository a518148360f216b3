-- From the guarantee's invariants: what its layout says of an action is what the rules and the end need of it.
use Prim.Native.Nat.{ℕ, ◌≤◌, ◌<◌}
use mathlib.Core.Path.{◌≡◌, refl, sym, ◌∙◌, ap, subst}
use mathlib.Core.Bool.{Bool, true, false, ◌&&◌, not}
use mathlib.Core.List.{List, [], ◌∷◌}
use mathlib.Core.Option.{Option, none, some}
use native.Mathlib.Omega.{arith}
use lib.ListN.{length, get_elem?}
use lib.Dec.{eqb, leb}
use Rattle.prelude.specs.Base.{when◌then◌else◌, or_else, and_then, is_some, all}
use Rattle.definition.specs.Operations.{Operation, operation_number}
use Rattle.definition.specs.Value.{Kind, Value, ActionKind, SemanticAction}
use Rattle.definition.specs.Ast.{Section}
use Rattle.definition.specs.Sizes.{in0, in1, out, at}
use Rattle.definition.specs.Checker.{Shape, shapes, shape_of, same_count, counts_fit, number_fits, value_fits, option_fits}
use Rattle.definition.proofs.EveryOperation.{alike}
use Rattle.definition.proofs.Openers.{base_opens, operations_opens}
use Rattle.std.proofs.lemmas.Bool.{eqb-true, leb-true, ltb-true}
use Rattle.definition_guarantee.proofs.Tests.{clash, and_true, some_same, all_at, all_parts, any_from}
use Rattle.definition_guarantee.proofs.Words.{Fits, fits_parts, Laid, subpiece_shapeless}
use Rattle.definition_guarantee.proofs.Layouts.{Rough, laid_out, subpiece}
use Rattle.list_refinement.specs.Encoding.{Within, Sound, Each, EachOption, SoundAction}
use Rattle.list_refinement.proofs.Rules.{Ruled}
use Rattle.list_refinement.proofs.Finishing.{Piece, Finishable}
use Rattle.list_refinement.specs.RuleKinds.{has, RuleKind, kind_of, Operands}

-- whether so many inputs, and an output or none, are what a rule needs
unfoldable pub suits : RuleKind → ℕ → Bool → Bool
suits RuleKind.unruled n o = true
suits RuleKind.pair n o = leb 1 n && o
suits RuleKind.shift n o = leb 2 n && o
suits RuleKind.triple n o = leb 2 n && o
suits RuleKind.comparison n o = leb 2 n && o
suits RuleKind.boolean n o = leb 2 n && o
suits RuleKind.negation n o = eqb n 1 && o
suits RuleKind.nan n o = o
suits RuleKind.address n o = leb 1 n
suits RuleKind.branch n o = leb 2 n
suits RuleKind.condition n o = leb 1 n

first_there : {A : Type 0} (xs : List A) → 1 ≤ length xs → is_some (get_elem? xs 0) ≡ true
unfolding is_some
first_there [] h = absurd (omega arith)
first_there (x ∷ xs) h = refl

second_there : {A : Type 0} (xs : List A) → 2 ≤ length xs → is_some (get_elem? xs 1) ≡ true
unfolding is_some
second_there [] h = absurd (omega arith)
second_there (x ∷ []) h = absurd (omega arith)
second_there (x ∷ y ∷ xs) h = refl

no_second : {A : Type 0} (xs : List A) → length xs ≡ 1 → is_some (get_elem? xs 1) ≡ false
unfolding is_some
no_second [] h = absurd (omega arith)
no_second (x ∷ []) h = refl
no_second (x ∷ y ∷ xs) h = absurd (omega arith)

module _ (x : SemanticAction) where
  all_three : leb 2 (length x.inputs) && is_some x.output ≡ true → (has in0 x ≡ true) × (has in1 x ≡ true) × (has out x ≡ true)
  unfolding at
  all_three e = let k = and_true _ _ e in let n = leb-true 2 (length x.inputs) k.0 in
      (first_there x.inputs (omega arith), second_there x.inputs n, k.1)

  pub suited : (k : RuleKind) → suits k (length x.inputs) (is_some x.output) ≡ true → Operands k x
  unfolding suits at
  suited RuleKind.unruled e = tt
  suited RuleKind.pair e = let k = and_true _ _ e in (first_there x.inputs (leb-true 1 (length x.inputs) k.0), k.1)
  suited RuleKind.shift e = all_three e
  suited RuleKind.triple e = all_three e
  suited RuleKind.comparison e = all_three e
  suited RuleKind.boolean e = all_three e
  suited RuleKind.negation e = let k = and_true _ _ e in let n = eqb-true (length x.inputs) 1 k.0 in
      (first_there x.inputs (omega arith), no_second x.inputs n, k.1)
  suited RuleKind.nan e = e
  suited RuleKind.address e = first_there x.inputs (leb-true 1 (length x.inputs) e)
  suited RuleKind.branch e = let n = leb-true 2 (length x.inputs) e in (first_there x.inputs (omega arith), second_there x.inputs n)
  suited RuleKind.condition e = first_there x.inputs (leb-true 1 (length x.inputs) e)

-- The counts of an operation's shape are what its rule needs, and no action has more than eight inputs.

counted : RuleKind → ℕ × Bool → Bool
counted k c = suits k c.0 c.1 && leb c.0 8

abbrev AllCounted : RuleKind → Shape → Type 0
AllCounted k shape = all (counted k) shape.counts ≡ true

-- an operation without a shape has no counts
all_suit : (t sub : ℕ) (op : Operation)
    → or_else true (and_then (shape_of t sub (ActionKind.Op op)) λ (shape : Shape). some (all (counted (kind_of op)) shape.counts)) ≡ true
unfolding shape_of shapes operations_opens kind_of counted suits
all_suit t sub = alike
    (λ op. or_else true (and_then (shape_of t sub (ActionKind.Op op)) λ (shape : Shape). some (all (counted (kind_of op)) shape.counts)))
    (λ op. true) refl

counts_suit : (t sub : ℕ) (op : Operation) (shape : Shape) → shape_of t sub (ActionKind.Op op) ≡ some shape → AllCounted (kind_of op) shape
unfolding or_else and_then
counts_suit t sub op shape e = rw e at (all_suit t sub op)

kind_suits : (t sub : ℕ) (k : ActionKind) (shape : Shape) → shape_of t sub k ≡ some shape → AllCounted RuleKind.unruled shape
unfolding shape_of operations_opens counted suits
kind_suits t sub (ActionKind.Op op) shape e = few shape.counts (counts_suit t sub op shape e)
  where
    few : (cs : List (ℕ × Bool)) → all (counted (kind_of op)) cs ≡ true → all (counted RuleKind.unruled) cs ≡ true
    few [] h = refl
    few (c ∷ cs) h = let k = all_parts (counted (kind_of op)) c cs h in let j : leb c.0 8
        ≡ true = (and_true (suits (kind_of op) c.0 c.1) (leb c.0 8) k.0).1 in rw j (few cs k.1)
kind_suits t sub ActionKind.AddressOf shape e = subst (AllCounted RuleKind.unruled) (some_same e) refl
kind_suits t sub ActionKind.LoadRegister shape e = subst (AllCounted RuleKind.unruled) (some_same e) refl
kind_suits t sub ActionKind.StoreRegister shape e = subst (AllCounted RuleKind.unruled) (some_same e) refl
kind_suits t sub ActionKind.DelaySlot shape e = subst (AllCounted RuleKind.unruled) (some_same e) refl
kind_suits t sub ActionKind.Build shape e = subst (AllCounted RuleKind.unruled) (some_same e) refl

same_flag : (a b : Bool) → (when a then b else not b) ≡ true → a ≡ b
unfolding base_opens
same_flag true true e = refl
same_flag true false e = sym e
same_flag false true e = e
same_flag false false e = refl

same_count_lem : {n m : ℕ} {a b : Bool} (k : RuleKind) → n ≡ m → a ≡ b → counted k (m, b) ≡ true → counted k (n, a) ≡ true
same_count_lem k p q h = rw (p, q) h

module _ (t sub : ℕ) (x : SemanticAction) (laid : Laid t sub x) where
  counts_are : (k : RuleKind) → AllCounted k laid.shaped.shape → counted k (length x.inputs, is_some x.output) ≡ true
  unfolding counts_fit same_count
  counts_are k h =
      let c = any_from _ laid.shaped.shape.counts laid.shaped.counts in
      let j = all_at (counted k) laid.shaped.shape.counts c.0 c.1 h c.2 in
      let p = and_true _ _ c.3 in
      let n : length x.inputs ≡ c.1.0 = eqb-true _ _ p.0 in
      let o : is_some x.output ≡ c.1.1 = same_flag (is_some x.output) c.1.1 p.1 in
      same_count_lem k n o j

  pub laid_few : length x.inputs ≤ 8
  unfolding counted
  laid_few = leb-true (length x.inputs) 8 (and_true (suits RuleKind.unruled (length x.inputs) (is_some x.output))
      (leb (length x.inputs) 8) (counts_are RuleKind.unruled (kind_suits t sub x.kind laid.shaped.shape laid.shaped.is))).1

  laid_kind : (k : ActionKind) → x.kind ≡ k → Ruled k x
  unfolding counted
  laid_kind (ActionKind.Op op) e = suited x (kind_of op)
      (and_true _ _ (counts_are (kind_of op) (counts_suit t sub op laid.shaped.shape
      (ap (shape_of t sub) (sym e) ∙ laid.shaped.is)))).0
  laid_kind ActionKind.AddressOf e = tt
  laid_kind ActionKind.LoadRegister e = tt
  laid_kind ActionKind.StoreRegister e = tt
  laid_kind ActionKind.DelaySlot e = tt
  laid_kind ActionKind.Build e = tt

  pub laid_ruled : Ruled x.kind x
  laid_ruled = laid_kind x.kind refl

-- A register or a field is one of the section's. The guarantee's layout does not say so.
abbrev pub RangedKind : Section → Kind → ℕ → Type 0
RangedKind sec Kind.InstStart n = Unit {0}
RangedKind sec Kind.InstNext n = Unit {0}
RangedKind sec Kind.Register n = n < length sec.registers
RangedKind sec Kind.Field n = n < length sec.fields
RangedKind sec Kind.Subtable n = Unit {0}
RangedKind sec Kind.SubtableRef n = Unit {0}
RangedKind sec Kind.PcodeTmp n = Unit {0}
RangedKind sec Kind.Constant n = Unit {0}

abbrev pub Ranged : Section → Value → Type 0
Ranged sec v = RangedKind sec v.kind v.number

-- an action's values are within the section's lists
pub record RangedAction (sec : Section) (x : SemanticAction) : Type 0 where
  pub inputs : Each (Ranged sec) x.inputs
  pub output : EachOption (Ranged sec) x.output

module _ (sec : Section) (t : ℕ) where
  within_kind : (k : Kind) (n : ℕ) → number_fits t (length sec.subtables) k n ≡ true → RangedKind sec k n → Within sec t k n
  unfolding number_fits
  within_kind Kind.InstStart n h r = tt
  within_kind Kind.InstNext n h r = tt
  within_kind Kind.Register n h r = r
  within_kind Kind.Field n h r = r
  within_kind Kind.Subtable n h r = ltb-true n (length sec.subtables) h
  within_kind Kind.SubtableRef n h r = ltb-true n (length sec.subtables) h
  within_kind Kind.PcodeTmp n h r = ltb-true n t h
  within_kind Kind.Constant n h r = tt

  pub fits-sound : (v : Value) → Fits t (length sec.subtables) v → Ranged sec v → Sound sec t v
  fits-sound v f r = record { number = within_kind v.kind v.number f.number r; offset = f.offset; size = f.size }

  inputs-sound : (vs : List Value) → all (value_fits t (length sec.subtables)) vs ≡ true → Each (Ranged sec) vs → Each (Sound sec t) vs
  inputs-sound [] h r = tt
  inputs-sound (v ∷ vs) h r = let k = all_parts (value_fits t (length sec.subtables)) v vs h in
      (fits-sound v (fits_parts k.0) r.0, inputs-sound vs k.1 r.1)

  output-sound : (y : Option Value) → option_fits (value_fits t (length sec.subtables)) y ≡ true → EachOption (Ranged sec) y
      → EachOption (Sound sec t) y
  unfolding option_fits
  output-sound none h r = tt
  output-sound (some v) h r = fits-sound v (fits_parts h) r

  pub laid_sound : (x : SemanticAction) → Laid t (length sec.subtables) x → RangedAction sec x → SoundAction sec t x
  laid_sound x l r = record {
    inputs = inputs-sound x.inputs l.inputs r.inputs;
    output = output-sound x.output l.output
        r.output;
  }

  piece_sound : (x : SemanticAction) (v o : Value) → x.inputs ≡ v ∷ [] → x.output ≡ some o → Fits t (length sec.subtables) v
      → Fits t (length sec.subtables) o → RangedAction sec x → SoundAction sec t x
  piece_sound x v o i u f g r = record {
    inputs = subst (Each (Sound sec t)) (sym i) (fits-sound v f (subst (Each (Ranged sec)) i r.inputs).0, tt);
    output = subst (EachOption (Sound sec t)) (sym u) (fits-sound o g (subst (EachOption (Ranged sec)) u r.output));
  }

  pub rough_sound : (x : SemanticAction) → Rough t (length sec.subtables) x → RangedAction sec x → SoundAction sec t x
  rough_sound x (laid_out l) r = laid_sound x l r
  rough_sound x (subpiece v o k i u n f g) r = piece_sound x v o i u f g r

  -- an action as the walk leaves it can be ruled and finished

  pub rough_ruled : (x : SemanticAction) → Rough t (length sec.subtables) x → Ruled x.kind x
  rough_ruled x (laid_out l) = laid_ruled t (length sec.subtables) x l
  rough_ruled x (subpiece v o k i u n f g) = subst (λ (y : ActionKind). Ruled y x) (sym k) (unfold kind_of in tt)

  rough_few : (x : SemanticAction) → Rough t (length sec.subtables) x → length x.inputs ≤ 8
  rough_few x (laid_out l) = laid_few t (length sec.subtables) x l
  rough_few x (subpiece v o k i u n f g) = rw i (omega arith)

  rough_piece : (x : SemanticAction) → Rough t (length sec.subtables) x → (op : Operation) → x.kind ≡ ActionKind.Op op
      → eqb (operation_number op) 66 ≡ true → Piece x.number x.inputs x.output
  rough_piece x (laid_out l) op e b = clash b (subpiece_shapeless t (length sec.subtables) op l.shaped.shape
      (ap (shape_of t (length sec.subtables)) (sym e) ∙ l.shaped.is) (eqb (operation_number op) 66) refl)
  rough_piece x (subpiece v o k i u n f g) op e b = record { input = v; result = o; one_input = i; an_output = u; small = omega arith }

  -- after the passes too: they keep an action rough and sound
  pub sound_finishable : (x : SemanticAction) → Rough t (length sec.subtables) x → SoundAction sec t x → Finishable sec t x
  sound_finishable x a f = record { sound = f; few = rough_few x a; piece = rough_piece x a }
