-- Bytes that are all zero, by eight at a time.
use mathlib.Core.Path.{◌≡◌, refl, sym, ◌∙◌, ap}
use mathlib.Core.Bool.{Bool, true, false}
use mathlib.Core.List.{List, [], ◌∷◌, ◌++◌}
use Prim.Native.Nat.{ℕ, zero, suc, ◌+◌, ◌-◌, ◌*◌, ◌/◌, ◌≤◌, ◌<◌}
use native.Mathlib.Omega.{arith}
use lib.ListN.{length, get_or, take, drop, length-drop, take-append-drop, drop_of_length-le}
use lib.Seq.{take_all, drop-cons, drop-drop, length-take-le}
use lib.Dec.{eqb}
use borrow.Author.Tests.{eq-eqb, eqb-true}
use Rattle.std.specs.Bool.{MatchBool}
use Rattle.std.specs.Int.{w64, from_le_bytes}
use Rattle.std.specs.Simd.{first_chunks}
use Rattle.std.specs.List.{AllWithin, HoldsAt}
use Rattle.prelude.specs.Base.{when◌then◌else◌}
use Rattle.access.specs.Le.{le16, le32, le64}
use Rattle.file_section.specs.Stream.{zeros}
use Rattle.file_section.proofs.ChainLaws.{both}

unfoldable pub clear : List ℕ → Bool
clear [] = true
clear (x ∷ xs) = when eqb x 0 then clear xs else false

clear_drop : (n i : ℕ) (s : List ℕ) → n ≡ length s - i → zeros n i s ≡ clear (drop i s)
unfolding zeros clear
clear_drop zero i s e = rw (drop_of_length-le s {i = i} (omega arith))
clear_drop (suc n) i s e = rw (drop-cons s i 0 (omega arith), clear_drop n (suc i) s (omega arith))

pub clear_all : (s : List ℕ) → zeros (length s) 0 s ≡ clear s
clear_all s = clear_drop (length s) 0 s (omega arith)

pub clear_tail : (s : List ℕ) (i : ℕ) (r : Bool) → r ≡ zeros (length (take (length s - i) (drop i s))) 0 (take (length s - i) (drop i s)) → r ≡ zeros (length s - i) i s
clear_tail s i r e =
    let t : take (length s - i) (drop i s) ≡ drop i s = take_all (length s - i) (drop i s) (omega (arith, length-drop i s)) in
    e ∙ rw t (clear_all (drop i s)) ∙ sym (clear_drop (length s - i) i s refl)

pub clear_past : (s : List ℕ) (i : ℕ) → length s < i → true ≡ zeros (length s - i) i s
unfolding zeros
clear_past s i h = let z : length s - i ≡ 0 = omega arith in rw z

clear_append : (a b : List ℕ) → clear (a ++ b) ≡ (when clear a then clear b else false)
unfolding clear
clear_append [] b = refl
clear_append (x ∷ a) b = go (eqb x 0) (clear_append a b)
  where
    go : (t : Bool) → clear (a ++ b) ≡ (when clear a then clear b else false) → (when t then clear (a ++ b) else false) ≡ (when (when t then clear a else false) then clear b else false)
    go true e = e
    go false e = refl

clear_at : (b : List ℕ) (i : ℕ) → clear b ≡ true → get_or b i 0 ≡ 0
unfolding clear
clear_at [] i e = refl
clear_at (x ∷ b) zero e = eqb-true x 0 (both (eqb x 0) (clear b) e).0
clear_at (x ∷ b) (suc i) e = clear_at b i (both (eqb x 0) (clear b) e).1

clear_eight : (b : List ℕ) → clear b ≡ true → le64 b 0 ≡ 0
unfolding le64 le32 le16
clear_eight b e = rw (clear_at b 0 e, clear_at b 1 e, clear_at b 2 e, clear_at b 3 e, clear_at b 4 e, clear_at b 5 e, clear_at b 6 e, clear_at b 7 e)

no_byte : (s : List ℕ) (i : ℕ) → le64 s i ≡ 0 →
    (get_or s i 0 ≡ 0) × (get_or s (i + 1) 0 ≡ 0) × (get_or s (i + 2) 0 ≡ 0) × (get_or s (i + 2 + 1) 0 ≡ 0) × (get_or s (i + 4) 0 ≡ 0) × (get_or s (i + 4 + 1) 0 ≡ 0) × (get_or s (i + 4 + 2) 0 ≡ 0) × (get_or s (i + 4 + 2 + 1) 0 ≡ 0)
unfolding le64 le32 le16
no_byte s i e = (omega arith, omega arith, omega arith, omega arith, omega arith, omega arith, omega arith, omega arith)

eight_clear : (b : List ℕ) → length b ≡ 8 → le64 b 0 ≡ 0 → clear b ≡ true
unfolding zeros
eight_clear b l e =
    let n = no_byte b 0 e in
    sym (clear_drop 8 0 b (omega arith)) ∙ rw (n.0, n.1, n.2, n.3, n.4, n.5, n.6, n.7)

le_eight : (b : List ℕ) → from_le_bytes w64 b ≡ le64 b 0
unfolding le64 le32 le16
le_eight b = omega arith

-- words of eight bytes that are all zero, and one that is not
words_clear : (k : ℕ) (s : List ℕ) → 8 * k ≤ length s → ((j : ℕ) → j < k → from_le_bytes w64 (get_or (first_chunks 8 k s) j []) ≡ 0) → clear s ≡ clear (drop (k * 8) s)
words_clear zero s h f = refl
words_clear (suc k) s h f =
    let l : length (take 8 s) ≡ 8 = length-take-le 8 s (omega arith) in
    let w : clear (take 8 s) ≡ true = eight_clear (take 8 s) l (sym (le_eight (take 8 s)) ∙ f 0 (omega arith)) in
    let r : clear (drop 8 s) ≡ clear (drop (k * 8) (drop 8 s)) = words_clear k (drop 8 s) (omega (arith, h, length-drop 8 s)) (λ j g. f (suc j) (omega arith)) in
    let n : 8 + k * 8 ≡ suc k * 8 = omega arith in
    ap clear (sym (take-append-drop 8 s)) ∙ clear_append (take 8 s) (drop 8 s) ∙ rw w (r ∙ rw (drop-drop, n))

clear_parts : (s : List ℕ) → clear s ≡ true → (clear (take 8 s) ≡ true) × (clear (drop 8 s) ≡ true)
clear_parts s e = both _ _ (sym (clear_append (take 8 s) (drop 8 s)) ∙ ap clear (take-append-drop 8 s) ∙ e)

word_not_clear : (k : ℕ) (s : List ℕ) (j : ℕ) → j < k → (from_le_bytes w64 (get_or (first_chunks 8 k s) j []) ≡ 0 → ⊥) → clear s ≡ true → ⊥
word_not_clear zero s j h f e = absurd (omega (arith, h))
word_not_clear (suc k) s zero h f e = f (le_eight (take 8 s) ∙ clear_eight (take 8 s) (clear_parts s e).0)
word_not_clear (suc k) s (suc j) h f e = word_not_clear k (drop 8 s) j (omega arith) f (clear_parts s e).1

-- what `all` says of the words
pub words_are : (s : List ℕ) (ws : List (List ℕ)) (r : Bool) → ws ≡ first_chunks 8 (length s / 8) s → length ws ≡ length s / 8 →
    MatchBool r (AllWithin (λ w. from_le_bytes w64 w ≡ 0) ws 0 (length ws)) ((k : ℕ) × (k < length ws) × HoldsAt (λ w. from_le_bytes w64 w ≡ 0 → ⊥) ws k) →
    MatchBool r (clear s ≡ clear (drop (length s / 8 * 8) s)) (false ≡ clear s)
words_are s ws true e l f = words_clear (length s / 8) s (omega arith) (λ j h. rw e at (f j [] (omega arith) (omega (arith, l))))
words_are s ws false e l f = go (clear s) refl
  where
    go : (b : Bool) → clear s ≡ b → false ≡ b
    go true z = absurd (word_not_clear (length s / 8) s f.0 (omega (arith, l, f.1)) (rw e at (f.2 [])) z)
    go false z = refl

clear_each : (s : List ℕ) → ((k : ℕ) → k < length s → get_or s k 0 ≡ 0) → clear s ≡ true
unfolding clear
clear_each [] f = refl
clear_each (x ∷ s) f = rw (eq-eqb x 0 (f 0 (omega arith))) (clear_each s (λ k l. f (suc k) (omega arith)))

-- what `all` says of the bytes
pub clear_is : (r : Bool) (s : List ℕ) → MatchBool r (AllWithin (λ x. x ≡ 0) s 0 (length s)) ((k : ℕ) × (k < length s) × HoldsAt (λ x. x ≡ 0 → ⊥) s k) → r ≡ clear s
clear_is true s f = sym (clear_each s (λ k l. f k 0 (omega arith) l))
clear_is false s f = go (clear s) refl
  where
    go : (b : Bool) → clear s ≡ b → false ≡ b
    go true e = absurd (f.2 0 (clear_at s f.0 e))
    go false e = refl

pub ruleset zero_laws = (clear_past, clear_tail)
