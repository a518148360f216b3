-- Two or three operands that have one size, and an operand that takes a size where it has none.
use Rattle.std.proofs.lemmas.Bool.Decides.{nat_tests}
use Prim.Native.Nat.{ℕ, suc, ◌<◌}
use mathlib.Core.Path.{◌≡◌, refl, ◌∙◌}
use mathlib.Core.Bool.{Bool, true, false}
use mathlib.Core.List.{List, [], ◌∷◌}
use mathlib.Core.Option.{Option, none, some}
use native.Mathlib.Omega.{arith}
use lib.ListN.{length}
use lib.Dec.{eqb}
use borrow.Author.Tests.{ne_eqb, eq-eqb}
use Rattle.prelude.specs.Base as definition
use Rattle.prelude.specs.Base.{◌or◌, or_else, and_then, first, when◌then◌else◌, contains}
use Rattle.definition.specs.Value.{Kind, Value, SemanticAction}
use Rattle.definition.specs.Ast.{Section}
use Rattle.definition.specs.Sizes as d
use Rattle.definition.specs.Sizes.{Operand, in0, in1, out, at, Sizing, but_first, known_at, set_operands, set_size_of_all, fallback_size, pointer_size}
use Rattle.definition.specs.ActionList.{or_none}
use Rattle.definition.proofs.Openers.{base_opens, value_opens}
use Rattle.list_values.specs.Values.{value_at}
use Rattle.list_values.specs.Sizes.{Sized, then_s, set_operand, set_two, set_three, falls_back, pair_fallback, share_pair, set_size_of_pair, triple_falls_back, triple_fallback, share_size, all_equal, share_triple, set_size_of_triple, set_unsized}
use Rattle.list_refinement.specs.Encoding.{enc_v, enc_z, SizesHold}
use Rattle.list_refinement.proofs.Operands.{operand_at}
use Rattle.list_refinement.proofs.Settled.{Ready, present}
use Rattle.list_refinement.proofs.Focus.{value_of, known_is, known-fits, set_is, set_ready, set_has, words_of, temporaries_of, held}
use Rattle.list_refinement.specs.RuleKinds.{has}

-- the fallback
falls_kind : (sec : Section) (k : Kind) (number offset : ℕ) (own : Option ℕ)
    → fallback_size sec (record { kind = k; number = number; offset = offset; size = own })
    ≡ definition.when◌then◌else◌ (falls_back (enc_v (record { kind = k; number = number; offset = offset; size = own })))
    (some (pointer_size sec)) none
unfolding fallback_size falls_back base_opens value_opens
falls_kind sec Kind.InstStart number offset own = refl
falls_kind sec Kind.InstNext number offset own = refl
falls_kind sec Kind.Register number offset own = refl
falls_kind sec Kind.Field number offset own = refl
falls_kind sec Kind.Subtable number offset own = refl
falls_kind sec Kind.SubtableRef number offset own = refl
falls_kind sec Kind.PcodeTmp number offset own = refl
falls_kind sec Kind.Constant number offset own = refl

pub falls_is : (sec : Section) (v : Value) → fallback_size sec v
    ≡ definition.when◌then◌else◌ (falls_back (enc_v v)) (some (pointer_size sec)) none
falls_is sec v = falls_kind sec v.kind v.number v.offset v.size

small_test : (n : ℕ) → n < 65535 → eqb n 65535 ≡ false
small_test n h = ne_eqb n 65535 (λ e. omega arith)

test_small : (n : ℕ) → n < 65535 → eqb 65535 n ≡ false
test_small n h = ne_eqb 65535 n (λ e. omega arith)

equal_test : (n : ℕ) (b c : Option ℕ) → n < 65535 → or_else 0 b < 65535 → or_else 0 c < 65535
    → (when eqb n (or_none b) then eqb (or_none b) (or_none c) else false) ≡ (when contains n b then contains n c else false)
unfolding or_none or_else contains
equal_test n b c h1 h2 h3 = grind (arith, nat_tests)

module _ (s t : List ℕ) (sec : Section) (holds : SizesHold s t sec) (tail : List ℕ) (pre post : List ℕ) (place : ℕ)
    (begins : length pre ≡ place) where
  -- several operands
  module _ (n : ℕ) (small : n < 65535) (p q : Operand) (x : SemanticAction) (z : Sizing) where
    pub one_is : (room : ℕ) → Ready sec (suc room) x z → has p x ≡ true
        → set_operand s t (words_of pre post x) (temporaries_of tail z) place (operand_at p) n (enc_z z)
        ≡ held pre post tail (set_operands sec n (p ∷ []) x z)
    unfolding set_operands
    one_is room r h = set_is s t sec holds tail pre post place begins n small p x z room r h

    pub two_is : (room : ℕ) → Ready sec (suc (suc room)) x z → has p x ≡ true → has q x ≡ true
        → set_two s t (words_of pre post x) (temporaries_of tail z) place (operand_at p) (operand_at q) n (enc_z z)
        ≡ held pre post tail (set_operands sec n (p ∷ q ∷ []) x z)
    unfolding set_two then_s set_operands
    two_is room r h j =
        rw (set_is s t sec holds tail pre post place begins n small p x z (suc room) r h)
        (set_is s t sec holds tail pre post place begins n small q _ _ room (set_ready sec n small p x z (suc room) r)
        (set_has sec n small p x z q ∙ j))

  pub three_is : (n : ℕ) (small : n < 65535) (x : SemanticAction) (z : Sizing) (room : ℕ) → Ready sec (suc (suc (suc room))) x z → has in0 x
      ≡ true → has in1 x ≡ true → has out x ≡ true
      → set_three s t (words_of pre post x) (temporaries_of tail z) place n (enc_z z)
      ≡ held pre post tail (set_operands sec n (in0 ∷ in1 ∷ out ∷ []) x z)
  unfolding set_three set_two then_s set_operands
  three_is n small x z room r h j k =
      rw (
        set_is s t sec holds tail pre post place begins n small in0 x z (suc (suc room)) r h,
        set_is s t sec holds tail pre post place begins n small in1 _ _ (suc room) (set_ready sec n small in0 x z (suc (suc room)) r)
            (set_has sec n small in0 x z in1 ∙ j),
      )
      (set_is s t sec holds tail pre post place begins n small out _ _ room
      (set_ready sec n small in1 _ _ (suc room) (set_ready sec n small in0 x z (suc (suc room)) r))
      (set_has sec n small in1 _ _ out ∙ set_has sec n small in0 x z out ∙ k))

  module _ (x : SemanticAction) (z : Sizing) (room : ℕ) (r : Ready sec (suc (suc (suc room))) x z) where
    falls_at : (p : Operand) → has p x ≡ true → and_then (at p x) (fallback_size sec)
        ≡ definition.when◌then◌else◌ (falls_back (value_at (words_of pre post x) place (operand_at p))) (some (pointer_size sec)) none
    unfolding and_then
    falls_at p h = let e = present (at p x) h in go e.0 e.1
      where
        go : (v : Value) → at p x ≡ some v → and_then (at p x) (fallback_size sec)
            ≡ definition.when◌then◌else◌ (falls_back (value_at (words_of pre post x) place (operand_at p))) (some (pointer_size sec)) none
        go v e = rw (e, value_of s t sec holds tail pre post place begins p x z (suc (suc (suc room))) r v e) (falls_is sec v)

    module _ (p q : Operand) (h : has p x ≡ true) (j : has q x ≡ true) where
      -- the size that both get where neither has one
      abbrev fallback : Bool → Option ℕ
      fallback late = definition.when◌then◌else◌ late (first (λ y. and_then (at y x) (fallback_size sec)) (p ∷ q ∷ [])) none

      set_both : ℕ → Sized
      set_both n = set_two s t (words_of pre post x) (temporaries_of tail z) place (operand_at p) (operand_at q) n (enc_z z)

      neither_is : (late b c : Bool)
          → (when late then (when b then set_both (pointer_size sec) else when c then set_both (pointer_size sec) else held pre post tail
          (x, z)) else held pre post tail (x, z))
          ≡ held pre post tail (d.share_size sec none
          (definition.when◌then◌else◌ late (definition.when◌then◌else◌ b (some (pointer_size sec)) none or
          (definition.when◌then◌else◌ c (some (pointer_size sec)) none or none)) none) (p ∷ q ∷ []) x z)
      unfolding base_opens d.share_size set_both
      neither_is false b c = refl
      neither_is true true c = two_is (pointer_size sec) holds.pointer_small p q x z (suc room) r h j
      neither_is true false true = two_is (pointer_size sec) holds.pointer_small p q x z (suc room) r h j
      neither_is true false false = refl

      pair_none : (late : Bool) → pair_fallback s t late (words_of pre post x) (temporaries_of tail z) place (operand_at p) (operand_at q)
          (pointer_size sec) (enc_z z)
          ≡ held pre post tail (d.share_size sec none
          (fallback late) (p ∷ q ∷ []) x z)
      unfolding pair_fallback first set_both
      pair_none late = rw (falls_at p h, falls_at q j) (neither_is late (falls_back (value_at (words_of pre post x) place (operand_at p)))
          (falls_back (value_at (words_of pre post x) place (operand_at q))))

      pair_shares : (late : Bool) (a b : Option ℕ) → known_at sec x z p ≡ a → known_at sec x z q ≡ b → or_else 0 a < 65535 → or_else 0 b < 65535
          → share_pair s t late (words_of pre post x) (temporaries_of tail z) place (operand_at p) (operand_at q) (or_none a) (or_none b)
          (pointer_size sec) (enc_z z)
          ≡ held pre post tail (d.share_size sec (a or (b or none))
          (fallback late) (p ∷ q ∷ []) x z)
      unfolding share_pair or_none or_else ◌or◌
      pair_shares late none none e f k l = pair_none late
      pair_shares late none (some n) e f k l = rw (small_test n l) (part e f)
        where
          part : known_at sec x z p ≡ none → known_at sec x z q ≡ some n
              → set_operand s t (words_of pre post x) (temporaries_of tail z) place (operand_at p) n (enc_z z)
              ≡ held pre post tail (d.share_size sec (some n)
              (fallback late) (p ∷ q ∷ []) x z)
          part e f = unfold base_opens d.share_size contains but_first in rw (e, f) (one_is n l p q x z (suc (suc room)) r h)
      pair_shares late (some m) none e f k l = rw (small_test m k) (part e f)
        where
          part : known_at sec x z p ≡ some m → known_at sec x z q ≡ none
              → set_operand s t (words_of pre post x) (temporaries_of tail z) place (operand_at q) m (enc_z z)
              ≡ held pre post tail (d.share_size sec (some m)
              (fallback late) (p ∷ q ∷ []) x z)
          part e f = unfold base_opens d.share_size contains but_first in rw (e, f, eq-eqb m m refl) (one_is m k q p x z (suc (suc room)) r j)
      pair_shares late (some m) (some n) e f k l = rw (small_test m k) (part (eqb m n) refl)
        where
          part : (c : Bool) → eqb m n ≡ c → (when c then held pre post tail (x, z) else set_operand s t (words_of pre post x)
              (temporaries_of tail z) place (operand_at q) m (enc_z z))
              ≡ held pre post tail (d.share_size sec (some m)
              (fallback late) (p ∷ q ∷ []) x z)
          part true g = unfold base_opens d.share_size contains but_first in rw (e, f, eq-eqb m m refl, g)
          part false g = unfold base_opens d.share_size contains but_first in rw (e, f, eq-eqb m m refl, g)
              (one_is m k q p x z (suc (suc room)) r j)

      pub pair_is : (late : Bool) → set_size_of_pair s t late (words_of pre post x) (temporaries_of tail z) place (operand_at p)
          (operand_at q) (pointer_size sec) (enc_z z) ≡ held pre post tail (set_size_of_all sec late (p ∷ q ∷ []) x z)
      unfolding set_size_of_pair set_size_of_all first
      pair_is late =
          rw (
            known_is s t sec holds tail pre post place begins p x z (suc (suc (suc room))) r h,
            known_is s t sec holds tail
                pre post place begins q x z (suc (suc (suc room))) r j,
          )
          (pair_shares late (known_at sec x z p) (known_at sec x z q) refl refl
          (known-fits s t sec holds tail pre post place begins p x z (suc (suc (suc room))) r)
          (known-fits s t sec holds tail pre post place begins q x z (suc (suc (suc room))) r))

    -- both inputs and the output
    module _ (h : has in0 x ≡ true) (j : has in1 x ≡ true) (k : has out x ≡ true) where
      abbrev fallbacks : Bool → Option ℕ
      fallbacks late = definition.when◌then◌else◌ late (first (λ y. and_then (at y x) (fallback_size sec)) (in0 ∷ in1 ∷ out ∷ [])) none

      abbrev Shared : Option ℕ → Bool → Sized
      Shared known late = held pre post tail (d.share_size sec known (fallbacks late) (in0 ∷ in1 ∷ out ∷ []) x z)

      none_three : (late b c e : Bool)
          → (when late then (when (when b then true else when c then true else e) then set_three s t (words_of pre post x)
          (temporaries_of tail z) place (pointer_size sec) (enc_z z) else held pre post tail (x, z)) else held pre post tail (x, z))
          ≡ held pre post tail (d.share_size sec none
          (definition.when◌then◌else◌ late (definition.when◌then◌else◌ b (some (pointer_size sec)) none or
          (definition.when◌then◌else◌ c (some (pointer_size sec)) none or
          (definition.when◌then◌else◌ e (some (pointer_size sec)) none or none))) none) (in0 ∷ in1 ∷ out ∷ []) x z)
      unfolding base_opens d.share_size
      none_three false b c e = refl
      none_three true true c e = three_is (pointer_size sec) holds.pointer_small x z room r h j k
      none_three true false true e = three_is (pointer_size sec) holds.pointer_small x z room r h j k
      none_three true false false true = three_is (pointer_size sec) holds.pointer_small x z room r h j k
      none_three true false false false = refl

      triple_none : (late : Bool) → triple_fallback s t late (words_of pre post x) (temporaries_of tail z) place (pointer_size sec)
          (enc_z z) ≡ Shared none late
      unfolding triple_fallback triple_falls_back first
      triple_none late = rw (falls_at in0 h, falls_at in1 j, falls_at out k)
          (none_three late (falls_back (value_at (words_of pre post x) place 6)) (falls_back (value_at (words_of pre post x) place 8))
          (falls_back (value_at (words_of pre post x) place 4)))

      module _ (late : Bool) where
        abbrev Known : Option ℕ → Option ℕ → Option ℕ → Type 0
        Known a b c = (known_at sec x z in0 ≡ a) × (known_at sec x z in1 ≡ b) × (known_at sec x z out ≡ c)

        -- the first known one is the output, the second input or the first
        by_out : (n : ℕ) → n < 65535 → Known none none (some n)
            → set_two s t (words_of pre post x) (temporaries_of tail z) place 6 8 n (enc_z z) ≡ Shared (some n) late
        unfolding base_opens d.share_size contains but_first
        by_out n l e = rw (e.0, e.1, e.2) (two_is n l in0 in1 x z (suc room) r h j)

        by_second : (n : ℕ) (c : Option ℕ) → n < 65535 → Known none (some n) c
            → set_two s t (words_of pre post x) (temporaries_of tail z) place 6 4 n (enc_z z) ≡ Shared (some n) late
        unfolding base_opens d.share_size contains but_first
        by_second n c l e = rw (e.0, e.1) (two_is n l in0 out x z (suc room) r h k)

        by_first : (n : ℕ) (b c : Option ℕ) (u v : Bool) → n < 65535 → Known (some n) b c → contains n b ≡ u → contains n c ≡ v
            → (when (when u then v else false) then held pre post tail (x, z) else set_two s t (words_of pre post x)
            (temporaries_of tail z) place 8 4 n (enc_z z)) ≡ Shared (some n) late
        unfolding base_opens d.share_size but_first
        by_first n b c true true l e f g = let i : contains n (some n) ≡ true = unfold contains in eq-eqb n n refl in rw (e.0, i, e.1, f, e.2, g)
        by_first n b c true false l e f g = let i : contains n (some n)
            ≡ true = unfold contains in eq-eqb n n refl in rw (e.0, i, e.1, f, e.2, g) (two_is n l in1 out x z (suc room) r j k)
        by_first n b c false v l e f g = let i : contains n (some n)
            ≡ true = unfold contains in eq-eqb n n refl in rw (e.0, i, e.1, f) (two_is n l in1 out x z (suc room) r j k)

        triple_shares : (a b c : Option ℕ) → or_else 0 a < 65535 → or_else 0 b < 65535 → or_else 0 c < 65535 → Known a b c
            → share_triple s t late (words_of pre post x) (temporaries_of tail z) place (or_none a) (or_none b) (or_none c)
            (pointer_size sec) (enc_z z) ≡ Shared (a or (b or (c or none))) late
        unfolding share_triple share_size all_equal or_none or_else ◌or◌
        triple_shares none none none la lb lc e = triple_none late
        triple_shares none none (some n) la lb lc e = rw (test_small n lc) (by_out n lc e)
        triple_shares none (some n) c la lb lc e = rw (test_small n lb, small_test n lb) (by_second n c lb e)
        triple_shares (some n) b c la lb lc e = rw (small_test n la, equal_test n b c la lb lc)
            (by_first n b c (contains n b) (contains n c) la e refl refl)

      pub triple_is : (late : Bool) → set_size_of_triple s t late (words_of pre post x) (temporaries_of tail z) place (pointer_size sec)
          (enc_z z) ≡ held pre post tail (set_size_of_all sec late (in0 ∷ in1 ∷ out ∷ []) x z)
      unfolding set_size_of_triple set_size_of_all first
      triple_is late =
          rw (
            known_is s t sec holds tail pre post place begins in0 x z (suc (suc (suc room))) r h,
            known_is s t sec holds tail
                pre post place begins in1 x z (suc (suc (suc room))) r j,
            known_is s t sec holds tail pre post place begins out x z
                (suc (suc (suc room))) r k,
          )
          (triple_shares late (known_at sec x z in0) (known_at sec x z in1) (known_at sec x z out)
          (known-fits s t sec holds tail pre post place begins in0 x z (suc (suc (suc room))) r)
          (known-fits s t sec holds tail pre post place begins in1 x z (suc (suc (suc room))) r)
          (known-fits s t sec holds tail pre post place begins out x z (suc (suc (suc room))) r) (refl, refl, refl))

  pub unsized_is : (n : ℕ) → n < 65535 → (p : Operand) (x : SemanticAction) (z : Sizing) (room : ℕ) → Ready sec (suc room) x z → has p x
      ≡ true
      → set_unsized s t (words_of pre post x) (temporaries_of tail z) place (operand_at p) n (enc_z z)
      ≡ held pre post tail (d.set_unsized sec (known_at sec x z p) n p x z)
  unfolding set_unsized
  unsized_is n small p x z room r h = rw (known_is s t sec holds tail pre post place begins p x z (suc room) r h)
      (go (known_at sec x z p) (known-fits s t sec holds tail pre post place begins p x z (suc room) r))
    where
      go : (a : Option ℕ) → or_else 0 a < 65535 → (when eqb (or_none a) 65535 then set_operand s t (words_of pre post x)
          (temporaries_of tail z) place (operand_at p) n (enc_z z) else held pre post tail (x, z))
          ≡ held pre post tail (d.set_unsized sec a n p x z)
      go none l = unfold or_none or_else d.set_unsized in set_is s t sec holds tail pre post place begins n small p x z
          room r h
      go (some m) l = unfold or_none or_else d.set_unsized in rw (small_test m l)
