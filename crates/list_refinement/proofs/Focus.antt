-- An action in the middle of the list: what is known of its operands, and setting their sizes.
use Prim.Native.Nat.{ℕ, suc, ◌<◌}
use mathlib.Core.Path.{◌≡◌, refl, sym, ◌∙◌, subst}
use mathlib.Core.Bool.{true}
use mathlib.Core.List.{List, ◌++◌}
use mathlib.Core.Option.{Option, none, some}
use native.Mathlib.Omega.{arith}
use lib.ListN.{length}
use Rattle.prelude.specs.Base.{or_else, and_then}
use Rattle.definition.specs.Value.{Value, truncate, SemanticAction}
use Rattle.definition.specs.Ast.{Section}
use Rattle.definition.specs.Sizes as d
use Rattle.definition.specs.Sizes.{Operand, at, put, Sizing, set_size, set_given, known_at}
use Rattle.definition.specs.ActionList.{or_none, action_words}
use Rattle.list_values.specs.Base.{then_l}
use Rattle.list_values.specs.Values.{value_at}
use Rattle.list_values.specs.Sizes.{Sized, sized, size_at, set_operand}
use Rattle.list_refinement.specs.Encoding.{enc_v, temporaries_in, enc_z, Sound, SoundAction, SizesHold}
use Rattle.list_refinement.proofs.Operands.{operand_at, value_at_lem, put_size_lem}
use Rattle.list_refinement.proofs.Settled.{size_is, known_small, settled_is, settled_sets, Ready, operand_sound, present, put-sound, put_has}
use Rattle.list_refinement.specs.RuleKinds.{has}

-- An action's words between others, a sizing's temporaries, and both as a rule leaves them.

abbrev pub words_of : List ℕ → List ℕ → SemanticAction → List ℕ
words_of pre post x = pre ++ (action_words x ++ post)

abbrev pub temporaries_of : List ℕ → Sizing → List ℕ
temporaries_of tail z = temporaries_in tail z.temporaries

abbrev pub held : List ℕ → List ℕ → List ℕ → SemanticAction × Sizing → Sized
held pre post tail r = sized (enc_z r.1) (words_of pre post r.0) (temporaries_of tail r.1)

-- setting keeps soundness and loses room for one error

module _ (sec : Section) (n : ℕ) (small : n < 65535) (p : Operand) (x : SemanticAction) (z : Sizing) where
  pub truncate-sound : (k : ℕ) (v : Value) → Sound sec k v → Sound sec k (truncate n v)
  unfolding or_else
  truncate-sound k v f = record { number = f.number; offset = f.offset; size = small }

  given_ready : (room : ℕ) (y : Option Value) → at p x ≡ y → Ready sec (suc room) x z
      → Ready sec room (set_given sec n p y x z).0 (set_given sec n p y x z).1
  unfolding set_given set_size
  given_ready room none e r = record { action = r.action; temporaries = r.temporaries; errors = omega (arith, r.errors) }
  given_ready room (some v) e r =
      let q = settled_sets sec n small v z r.temporaries (d.size_of sec z.temporaries v) in
      let f = operand_sound p x v r.action e in
      record {
        action = subst (λ (k : ℕ). SoundAction sec k (put p (truncate n v) x)) (sym q.count)
            (put-sound p x (truncate n v) r.action (truncate-sound (length z.temporaries) v f));
        temporaries = q.fit;
        errors = omega (arith, r.errors, q.errors);
      }

  pub set_ready : (room : ℕ) → Ready sec (suc room) x z → Ready sec room (d.set_operand sec n p x z).0 (d.set_operand sec n p x z).1
  unfolding d.set_operand
  set_ready room r = given_ready room (at p x) refl r

  given_has : (q : Operand) (y : Option Value) → at p x ≡ y → has q (set_given sec n p y x z).0 ≡ has q x
  unfolding set_given set_size
  given_has q none e = refl
  given_has q (some v) e = put_has p q x (truncate n v) v e

  pub set_has : (q : Operand) → has q (d.set_operand sec n p x z).0 ≡ has q x
  unfolding d.set_operand
  set_has q = given_has q (at p x) refl

module _ (s t : List ℕ) (sec : Section) (holds : SizesHold s t sec) (tail : List ℕ) (pre post : List ℕ) (place : ℕ)
    (begins : length pre ≡ place) where
  module _ (p : Operand) (x : SemanticAction) (z : Sizing) (room : ℕ) (r : Ready sec room x z) where
    pub value_of : (v : Value) → at p x ≡ some v → value_at (words_of pre post x) place (operand_at p) ≡ enc_v v
    value_of v e = let f = operand_sound p x v r.action e in value_at_lem pre post place begins p x v e f.offset f.size

    known_of : (v : Value) → at p x ≡ some v → size_at s t (words_of pre post x) (temporaries_of tail z) place (operand_at p)
        ≡ or_none (d.size_of sec z.temporaries v)
    unfolding size_at
    known_of v e = rw (value_of v e) (size_is s t sec holds tail z.temporaries r.temporaries v
        (operand_sound p x v r.action e))

    pub known_is : has p x ≡ true → size_at s t (words_of pre post x) (temporaries_of tail z) place (operand_at p)
        ≡ or_none (known_at sec x z p)
    unfolding and_then
    known_is h = let q = present (at p x) h in go q.0 q.1
      where
        go : (v : Value) → at p x ≡ some v → size_at s t (words_of pre post x) (temporaries_of tail z) place (operand_at p)
            ≡ or_none (and_then (at p x) (d.size_of sec z.temporaries))
        go v e = known_of v e ∙ rw e

    pub known-fits : or_else 0 (known_at sec x z p) < 65535
    unfolding and_then or_else
    known-fits = go (at p x) refl
      where
        go : (y : Option Value) → at p x ≡ y → or_else 0 (and_then y (d.size_of sec z.temporaries)) < 65535
        go none e = omega arith
        go (some v) e = known_small s t sec holds tail z.temporaries r.temporaries v (operand_sound p x v r.action e)

  module _ (n : ℕ) (small : n < 65535) (p : Operand) (x : SemanticAction) (z : Sizing) (room : ℕ) (r : Ready sec (suc room) x z) where
    given_is : (v : Value) → at p x ≡ some v → set_operand s t (words_of pre post x) (temporaries_of tail z) place (operand_at p) n
        (enc_z z) ≡ held pre post tail (set_given sec n p (some v) x z)
    unfolding set_operand set_given set_size then_l
    given_is v e =
        let f = operand_sound p x v r.action e in
        rw (
          value_of p x z (suc room) r v e,
          known_of p x z (suc room) r v e,
          settled_is s t sec holds tail z r.temporaries (omega (arith, r.errors)) (d.size_of sec z.temporaries v) v n
              (known_small s t sec holds tail z.temporaries r.temporaries v f) f small,
          put_size_lem pre post place begins p x v e n f.offset small,
        )

    pub set_is : has p x ≡ true → set_operand s t (words_of pre post x) (temporaries_of tail z) place (operand_at p) n (enc_z z)
        ≡ held pre post tail (d.set_operand sec n p x z)
    unfolding d.set_operand
    set_is h = let q = present (at p x) h in rw q.1 (given_is q.0 q.1)
