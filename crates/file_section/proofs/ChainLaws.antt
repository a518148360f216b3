-- Names spelled alike have the same hash, so the chain of a hash has all of them.
use mathlib.Core.Path.{◌≡◌, refl, sym, ◌∙◌, ap}
use mathlib.Core.Bool.{Bool, true, false, ◌||◌, false≢true}
use mathlib.Core.List.{List}
use Prim.Native.Nat.{ℕ, zero, suc, ◌+◌, ◌-◌, ◌*◌, ◌%◌, ◌≤◌, ◌<◌}
use native.Mathlib.Nat.{add-zero}
use native.Mathlib.Numerals.{add-one}
use native.Mathlib.Omega.{arith}
use lib.ListN.{length, get_or, set, replicate, length-set, length-replicate, get_or-replicate, get_or-eq_default}
use lib.Seq.{get_or-set_same, get_or-set_other}
use lib.Dec.{eqb, ltb}
use borrow.Author.Count.{below_more}
use borrow.Author.Tests.{eqb-true, eqb-false, ltb-true, ltb-false}
use Rattle.prelude.specs.Base.{when◌then◌else◌}
use Rattle.access.specs.Le.{le16, le32}
use Rattle.file_section.proofs.NameLaws.{known_hit, known_miss, known-end, name_turn}
use Rattle.access.proofs.LoopLaws.{run_start, run_again, run_end}
use Rattle.file_section.specs.Names.{agree, rest_alike, alike, known}
use Rattle.file_section.specs.Chains.{last_four, key, spread, hash, Hashed, last, Linked, link}

-- What a test that is true tells.

pub both : (b x : Bool) → (when b then x else false) ≡ true → (b ≡ true) × (x ≡ true)
both true x e = (refl, e)
both false x e = let z : ◌≡◌ {A = ℕ} 0 1 = cc in absurd (omega arith)

pub agree_at : (n i k : ℕ) (s : List ℕ) (a b : ℕ) → agree n i s a b ≡ true → k < n → get_or s (a + (i + k)) 0 ≡ get_or s (b + (i + k)) 0
unfolding agree
agree_at zero i k s a b e l = absurd (omega arith)
agree_at (suc n) i zero s a b e l = let p = both _ _ e in rw add-zero (eqb-true _ _ p.0)
agree_at (suc n) i (suc k) s a b e l =
    let p = both (eqb (get_or s (a + i) 0) (get_or s (b + i) 0)) (agree n (suc i) s a b) e in
    let z : i + suc k ≡ suc i + k = omega arith in
    rw z (agree_at n (suc i) k s a b p.1 (omega arith))

alike-le16 : (s : List ℕ) (a b : ℕ) → alike s a b ≡ true → le16 s a ≡ le16 s b
unfolding alike
alike-le16 s a b e = eqb-true _ _ (both _ _ e).0

alike-rest : (s : List ℕ) (a b : ℕ) → alike s a b ≡ true → agree (get_or s a 0 - 1) 2 s a b ≡ true
unfolding alike rest_alike
alike-rest s a b e = (both _ _ e).1

heads-alike : (s : List ℕ) (a b : ℕ) → le16 s a ≡ le16 s b → get_or s a 0 < 256 → get_or s b 0 < 256 → (get_or s a 0 ≡ get_or s b 0) × (get_or s (a + 1) 0 ≡ get_or s (b + 1) 0)
unfolding le16
heads-alike s a b e h k = (omega arith, omega arith)

alike_at : (s : List ℕ) (a b k : ℕ) → alike s a b ≡ true → get_or s a 0 < 256 → get_or s b 0 < 256 → k ≤ get_or s a 0 → get_or s (a + k) 0 ≡ get_or s (b + k) 0
alike_at s a b zero e h g l = simp add-zero (heads-alike s a b (alike-le16 s a b e) h g).0
alike_at s a b (suc zero) e h g l = (heads-alike s a b (alike-le16 s a b e) h g).1
alike_at s a b (suc (suc k)) e h g l =
    let z : suc (suc k) ≡ 2 + k = omega arith in
    rw z (agree_at (get_or s a 0 - 1) 2 k s a b (alike-rest s a b e) (omega arith))

alike-key : (s : List ℕ) (a b : ℕ) → alike s a b ≡ true → get_or s a 0 < 256 → get_or s b 0 < 256 → key s a ≡ key s b
unfolding key last_four
alike-key s a b e h g =
    let l : get_or s a 0 ≡ get_or s b 0 = (heads-alike s a b (alike-le16 s a b e) h g).0 in
    let w : le16 s a ≡ le16 s b = alike-le16 s a b e in
    let x = alike_at s a b (get_or s a 0 - 3) e h g (omega arith) in
    let y = alike_at s a b (get_or s a 0 - 2) e h g (omega arith) in
    let z = alike_at s a b (get_or s a 0 - 1) e h g (omega arith) in
    let v = alike_at s a b (get_or s a 0) e h g (omega arith) in
    cc

alike-hash : (s : List ℕ) (a b : ℕ) → alike s a b ≡ true → get_or s a 0 < 256 → get_or s b 0 < 256 → hash s a ≡ hash s b
unfolding hash
alike-hash s a b e h g = ap spread (alike-key s a b e h g)

-- The last name of a hash.

last_le : (s t : List ℕ) (h n : ℕ) → last s t h n ≤ n
unfolding last
last_le s t h zero = omega arith
last_le s t h (suc n) = go (eqb (hash s (get_or t n 0)) h) (last_le s t h n)
  where
    go : (b : Bool) → last s t h n ≤ n → (when b then suc n else last s t h n) ≤ suc n
    go true l = omega arith
    go false l = omega arith

-- the name that it is has that hash
last_has : (s t : List ℕ) (h n : ℕ) → 0 < last s t h n → hash s (get_or t (last s t h n - 1) 0) ≡ h
unfolding last
last_has s t h zero l = absurd (omega arith)
last_has s t h (suc n) l = go (eqb (hash s (get_or t n 0)) h) refl l (last_has s t h n)
  where
    go : (b : Bool) → eqb (hash s (get_or t n 0)) h ≡ b → 0 < (when b then suc n else last s t h n) → (0 < last s t h n → hash s (get_or t (last s t h n - 1) 0) ≡ h) → hash s (get_or t ((when b then suc n else last s t h n) - 1) 0) ≡ h
    go true e l f = let z : suc n - 1 ≡ n = omega arith in rw z (eqb-true _ _ e)
    go false e l f = f l

-- the names after it are spelled otherwise
last-known : (s t : List ℕ) (p h n : ℕ) → Hashed s p h → ((j : ℕ) → j < n → get_or s (get_or t j 0) 0 < 256) → known s t p (last s t h n) ≡ known s t p n
unfolding last known
last-known s t p h zero d small = refl
last-known s t p h (suc n) d small = go (eqb (hash s (get_or t n 0)) h) (alike s p (get_or t n 0)) refl refl (last-known s t p h n d (λ j l. small j (omega arith)))
  where
    go : (b a : Bool) → eqb (hash s (get_or t n 0)) h ≡ b → alike s p (get_or t n 0) ≡ a → known s t p (last s t h n) ≡ known s t p n → known s t p (when b then suc n else last s t h n) ≡ (when a then true else known s t p n)
    go true true e f r = rw f
    go true false e f r = rw f
    go false true e f r = absurd (eqb-false _ _ e (sym (alike-hash s p (get_or t n 0) f d.small (small n (omega arith))) ∙ sym d.is))
    go false false e f r = r

-- it does not look at the names from n on
last_set : (s t : List ℕ) (h n i v : ℕ) → n ≤ i → last s (set t i v) h n ≡ last s t h n
unfolding last
last_set s t h zero i v l = refl
last_set s t h (suc n) i v l = rw (get_or-set_other t i n v 0 (λ e. omega arith), last_set s t h n i v (omega arith))

-- A walk along the chain of p's hash h: what is left to see of the first n names is j and the names before it.

pub record Walk (s t : List ℕ) (p h n j : ℕ) : Type 0 where
  pub within : j ≤ n
  pub has : 0 < j → hash s (get_or t (j - 1) 0) ≡ h
  pub left : known s t p j ≡ known s t p n

walk_last : (s t k : List ℕ) (p h n i : ℕ) → Linked s t k n → Hashed s p h → i ≤ n → known s t p i ≡ known s t p n → Walk s t p h n (last s t h i)
walk_last s t k p h n i c d l e = record {
  within = omega (arith, last_le s t h i);
  has = last_has s t h i;
  left = last-known s t p h i d (λ j m. c.small j (omega arith)) ∙ e;
}

pub walk_start : (s t k : List ℕ) (p h n v j : ℕ) → Linked s t k n × Hashed s p h → v ≡ get_or k (1024 + h) 0 → j ≡ v → Walk s t p h n j
walk_start s t k p h n v j c e f =
    let z : j ≡ last s t h n = f ∙ e ∙ c.0.heads h c.1.below in
    rw z (walk_last s t k p h n n c.0 c.1 (omega arith) refl)

-- the number at j - 1
next : (s t k : List ℕ) (p h n j v x : ℕ) → Linked s t k n × Hashed s p h → Walk s t p h n j → 0 < j → v ≡ get_or k (j - 1) 0 → x ≡ v → x ≡ last s t h (j - 1)
next s t k p h n j v x c w l e f =
    f ∙ e ∙ c.0.links (j - 1) (omega (arith, w.within)) ∙ rw (w.has l)

pub walk_less : (s t k : List ℕ) (p h n j v x : ℕ) → Linked s t k n × Hashed s p h → Walk s t p h n j → 0 < j → v ≡ get_or k (j - 1) 0 → x ≡ v → x < j
walk_less s t k p h n j v x c w l e f = omega (arith, last_le s t h (j - 1), next s t k p h n j v x c w l e f)

pub walk_on : (s t k : List ℕ) (p h n j q y v x : ℕ) (b : Bool) → Linked s t k n × Hashed s p h → Walk s t p h n j → 0 < j → q ≡ get_or t (j - 1) 0 → y ≡ q → b ≡ alike s p y → b ≡ false → v ≡ get_or k (j - 1) 0 → x ≡ v → Walk s t p h n x
walk_on s t k p h n j q y v x b c w l eq ey eb en e f =
    rw (next s t k p h n j v x c w l e f) (walk_last s t k p h n (j - 1) c.0 c.1 (omega (arith, w.within)) (known_miss s t p j q y b (known s t p n) l eq ey eb en w.left))

-- One law for each way out of the functions over chains.

-- a name of three letters or more whose last letter is not 0 ends inside the stream
pub key_within : (s : List ℕ) (p l z : ℕ) → (z ≡ get_or s (p + l) 0) × (z < 256) → (ltb l 3 || eqb z 0) ≡ false → (3 ≤ l) × (p + l < length s)
key_within s p l z h e = go (ltb l 3) (eqb z 0) (ltb (p + l) (length s)) refl refl refl e
  where
    go : (a b d : Bool) → ltb l 3 ≡ a → eqb z 0 ≡ b → ltb (p + l) (length s) ≡ d → (a || b) ≡ false → (3 ≤ l) × (p + l < length s)
    go true b d f g i n = absurd (false≢true (sym n))
    go false true d f g i n = absurd (false≢true (sym n))
    go false false true f g i n = (ltb-false l 3 f, ltb-true _ _ i)
    go false false false f g i n = absurd (eqb-false z 0 g (h.0 ∙ get_or-eq_default s 0 (ltb-false _ _ i)))

last-four : (s : List ℕ) (p l : ℕ) → 3 ≤ l → le32 s (p + (l - 3)) ≡ last_four s p l
unfolding last_four le32 le16
last-four s p l h =
    let y : p + (l - 3) + 1 ≡ p + (l - 2) = omega arith in
    let z : p + (l - 3) + 2 ≡ p + (l - 1) = omega arith in
    let v : p + (l - 1) + 1 ≡ p + l = omega arith in
    rw (y, z, v) (omega arith)

pub key-short : (s : List ℕ) (p l z w : ℕ) → (l ≡ get_or s (p + 0) 0) × (l < 256) → (z ≡ get_or s (p + l) 0) × (z < 256) → (ltb l 3 || eqb z 0) ≡ true → (w ≡ le16 s p) × (w < 65536) → (w + 65536 * z ≡ key s p) × (w + 65536 * z < 4294967296) × (get_or s p 0 < 256)
unfolding key
key-short s p l z w el ez h ew =
    let f : l ≡ get_or s p 0 = rw add-zero at el.0 in
    (rw (← f, ← ez.0, h, ← ew.0), omega arith, omega arith)

pub key-long : (s : List ℕ) (p l z r : ℕ) → (l ≡ get_or s (p + 0) 0) × (l < 256) → (z ≡ get_or s (p + l) 0) × (z < 256) → (ltb l 3 || eqb z 0) ≡ false → (r ≡ le32 s (p + (l - 3))) × (r < 4294967296) → (r ≡ key s p) × (r < 4294967296) × (get_or s p 0 < 256)
unfolding key
key-long s p l z r el ez h e =
    let f : l ≡ get_or s p 0 = rw add-zero at el.0 in
    (rw (← f, ← ez.0, h) (e.0 ∙ last-four s p l (key_within s p l z ez h).0), e.1, omega arith)

pub hash_law : (s : List ℕ) (p w h : ℕ) → (w ≡ key s p) × (w < 4294967296) × (get_or s p 0 < 256) → (h ≡ spread w) × (h < 256) → Hashed s p h
unfolding hash
hash_law s p w h e f = record { is = rw (← e.0) f.0; below = f.1; small = e.2 }

pub link_law : (h i v l : ℕ) (k k1 k2 : List ℕ) → i < 1024 → v ≡ get_or k (1024 + h) 0 → k1 ≡ set k i v → l ≡ (i + 1) % 65536 → k2 ≡ set k1 (1024 + h) l → k2 ≡ link h i k
unfolding link
link_law h i v l k k1 k2 b e f g d =
    let z : l ≡ i + 1 = omega arith in
    rw (d, f, e, z)

-- The chains of no name, and of one name more.

pub linked_none : (s t : List ℕ) → Linked s t (replicate 1280 0) 0
unfolding last
linked_none s t = record {
  size = length-replicate {A = ℕ} 1280 0;
  small = λ j l. absurd (omega arith);
  heads = λ h l. get_or-replicate {A = ℕ} 1280 (1024 + h) 0 0 (omega arith);
  links = λ j l. absurd (omega arith);
}

module _ (s t k : List ℕ) (h i v q : ℕ) (c : Linked s t k i) (d : Hashed s q h) (f : i < 1024) (g : q ≡ get_or (set t i v) i 0) where
  same_name : get_or (set t i v) i 0 ≡ q
  same_name = sym g

  other_name : (j : ℕ) → j < i → get_or (set t i v) j 0 ≡ get_or t j 0
  other_name j l = get_or-set_other t i j v 0 (λ e. omega arith)

  more_small : (j : ℕ) → j < i + 1 → get_or s (get_or (set t i v) j 0) 0 < 256
  more_small = below_more (λ j. get_or s (get_or (set t i v) j 0) 0 < 256) i (λ j l. rw (other_name j l) (c.small j l)) (rw same_name d.small)

  more_links : (j : ℕ) → j < i + 1 → get_or (link h i k) j 0 ≡ last s (set t i v) (hash s (get_or (set t i v) j 0)) j
  unfolding link
  more_links = below_more (λ j. get_or (link h i k) j 0 ≡ last s (set t i v) (hash s (get_or (set t i v) j 0)) j) i
      (λ j l. rw (other_name j l, last_set s t (hash s (get_or t j 0)) j i v (omega arith), get_or-set_other (set k i (get_or k (1024 + h) 0)) (1024 + h) j (i + 1) 0 (λ e. omega arith), get_or-set_other k i j (get_or k (1024 + h) 0) 0 (λ e. omega arith)) (c.links j l))
      (rw (same_name, ← d.is, last_set s t h i i v (omega arith), get_or-set_other (set k i (get_or k (1024 + h) 0)) (1024 + h) i (i + 1) 0 (λ e. omega arith), get_or-set_same k i (get_or k (1024 + h) 0) 0 (omega (arith, c.size))) (c.heads h d.below))

  more_heads : (o : ℕ) → o < 256 → get_or (link h i k) (1024 + o) 0 ≡ last s (set t i v) o (i + 1)
  unfolding link last
  more_heads o l = rw (add-one, same_name, ← d.is) (go (eqb h o) refl)
    where
      go : (b : Bool) → eqb h o ≡ b → get_or (set (set k i (get_or k (1024 + h) 0)) (1024 + h) (suc i)) (1024 + o) 0 ≡ (when b then suc i else last s (set t i v) o i)
      go true e =
          let z : o ≡ h = sym (eqb-true _ _ e) in
          rw z (get_or-set_same (set k i (get_or k (1024 + h) 0)) (1024 + h) (suc i) 0 (rw (length-set, c.size) (omega (arith, d.below))))
      go false e =
          rw
          (get_or-set_other (set k i (get_or k (1024 + h) 0)) (1024 + h) (1024 + o) (suc i) 0 (λ y. let z : h ≡ o = omega arith in eqb-false h o e z), get_or-set_other k i (1024 + o) (get_or k (1024 + h) 0) 0 (λ y. omega arith), last_set s t o i i v (omega arith))
          (c.heads o l)

  pub linked_more : Linked s (set t i v) (link h i k) (i + 1)
  unfolding link
  linked_more = record { size = rw (length-set, length-set) c.size; small = more_small; heads = more_heads; links = more_links }

pub linked_step : (s t t' k k' : List ℕ) (i l v q h : ℕ) → (i < 1024) × Linked s t k i → t' ≡ set t i l → v ≡ get_or t' i 0 → q ≡ v → Hashed s q h → k' ≡ link h i k → Linked s t' k' (i + 1)
linked_step s t t' k k' i l v q h c e f r d g =
    let z : q ≡ get_or (set t i l) i 0 = r ∙ f ∙ rw e in
    rw (e, g) (linked_more s t k h i l q c.1 d c.0 z)

pub hashed_same : (s : List ℕ) (p q h : ℕ) → Hashed s p h → p ≡ q → Hashed s q h
hashed_same s p q h d e = rw (← e) d

pub ruleset key_laws = (key-short, key-long, key_within)

pub ruleset name_laws = (name_turn, linked_step)

pub ruleset known_laws = (known_hit, known-end)

pub ruleset run_laws = (run_start, run_again, run_end)
