-- One law for each way out of the functions over blocks.
use mathlib.Core.Path.{◌≡◌, refl, sym, ◌∙◌, ap}
use mathlib.Core.Bool.{Bool, true, false}
use mathlib.Core.List.{List, [], ◌∷◌, ◌++◌, append-nil, append_assoc}
use Prim.Native.Nat.{ℕ, suc, ◌+◌, ◌-◌, ◌*◌, ◌/◌, ◌%◌, ◌≤◌, ◌<◌}
use native.Mathlib.Omega.{arith}
use lib.ListN.{length, take, drop, take-append-drop, length-append, length-drop}
use lib.Seq.{drop-drop, take-add, length-take-le, take_at, drop_at}
use lib.Dec.{eqb}
use borrow.Author.Tests.{eq-eqb, ne_eqb, le-leb, lt-leb}
use Rattle.std.specs.Prelude as list
use Rattle.prelude.specs.Base.{sum}
use Rattle.definition.specs.Refusals.{refusal_number}
use Rattle.definition.specs.SectionFile.{Parsed, parsed, refused, on, pure, require, checks_out, bytes, payloads, whole_blocks, stream_of}
use Rattle.access.specs.Le.{le16}
use Rattle.file_blocks.specs.Blocks.{refusal_of, joined}

sum_from : (xs : List ℕ) (n : ℕ) → list.fold (λ a x. a + x) n xs ≡ n + sum xs
unfolding sum
sum_from [] n = omega arith
sum_from (x ∷ xs) n = omega (arith, sum_from xs (n + x))

-- the library's sum
pub sum_same : (xs : List ℕ) → list.sum xs ≡ sum xs
sum_same xs = sum_from xs 0 ∙ omega arith

sum_append : (a b : List ℕ) → sum (a ++ b) ≡ sum a + sum b
unfolding sum
sum_append [] b = omega arith
sum_append (x ∷ a) b = omega (arith, sum_append a b)

pub checks_law : (b : List ℕ) (n x y z : ℕ) → x ≡ sum (take 256 b) → y ≡ sum (take 254 (drop 256 b)) → (z ≡ le16 b 510) × (z < 65536) → eqb ((x + y + n) % 65536) z ≡ checks_out n b
unfolding checks_out le16
checks_law b n x y z p q r =
    let e : sum (take 510 b) ≡ x + y = ap sum (take-add 256 254 b) ∙ sum_append (take 256 b) (take 254 (drop 256 b)) ∙ rw (← p, ← q) in
    rw (e, r.0)

pub front_length : (block : List ℕ) → length block ≡ 512 → length (take 256 block) ≡ 256
front_length block h = length-take-le 256 block (omega arith)

pub ruleset checks_laws = (checks_law, front_length)

-- the length
pub length_none : (file : List ℕ) → length file ≡ 0 → 1 ≡ refusal_of (stream_of file)
unfolding stream_of whole_blocks require on refusal_of refusal_number
length_none file h = rw h

pub length_past : (file : List ℕ) → (length file ≡ 0 → ⊥) → 65536 < length file → 1 ≡ refusal_of (stream_of file)
unfolding stream_of whole_blocks require on refusal_of refusal_number
length_past file h p = rw (le-leb 1 (length file) (omega arith), lt-leb (length file) 65536 p)

pub length_broken : (file : List ℕ) → (length file ≡ 0 → ⊥) → length file ≤ 65536 → (length file % 512 ≡ 0 → ⊥) → 1 ≡ refusal_of (stream_of file)
unfolding stream_of whole_blocks require on refusal_of refusal_number
length_broken file h p d = rw (le-leb 1 (length file) (omega arith), le-leb (length file) 65536 p, ne_eqb (length file % 512) 0 d)

pub blocks_start : (file : List ℕ) → (length file ≡ 0 → ⊥) → length file ≤ 65536 → length file % 512 ≡ 0 → refusal_of (payloads (length file / 512) 0 file) ≡ refusal_of (stream_of file)
unfolding stream_of whole_blocks require on
blocks_start file h p d =
    rw (le-leb 1 (length file) (omega arith), le-leb (length file) 65536 p, eq-eqb (length file % 512) 0 d)

refusal_map : {A B : Type 0} (x : Parsed A) (f : A → B) → refusal_of (on x (λ a. pure (f a))) ≡ refusal_of x
unfolding on refusal_of
refusal_map (parsed a s) f = refl
refusal_map (refused r) f = refl

-- one block more: a right check leaves the rest to say, a wrong one is 2
one_more : (left block rest : List ℕ) → left ≡ block ++ rest → length block ≡ 512 → (length left / 512 ≡ suc (length rest / 512)) × (take 512 left ≡ block) × (drop 512 left ≡ rest)
one_more left block rest e l = (rw (e, length-append, l) (omega arith), rw e (take_at block rest 512 l), rw e (drop_at block rest 512 l))

pub block_right : (left block rest : List ℕ) (k j w : ℕ) (b : Bool) → left ≡ block ++ rest → length block ≡ 512 → j ≡ k → b ≡ checks_out j block → b ≡ true → refusal_of (payloads (length left / 512) k left) ≡ w → refusal_of (payloads (length rest / 512) (k + 1) rest) ≡ w
unfolding payloads bytes require on
block_right left block rest k j w b e l h p q g =
    let m = one_more left block rest e l in
    let o : k + 1 ≡ suc k = omega arith in
    let c : checks_out k (take 512 left) ≡ true = rw (m.1, ← h, ← p) q in
    rw o (sym (refusal_map _ _) ∙ rw (m.0, c, m.2) at g)

pub block-wrong : (left block rest : List ℕ) (k j w : ℕ) (b : Bool) → left ≡ block ++ rest → length block ≡ 512 → j ≡ k → b ≡ checks_out j block → b ≡ false → refusal_of (payloads (length left / 512) k left) ≡ w → 2 ≡ w
unfolding payloads bytes require on refusal_of refusal_number
block-wrong left block rest k j w b e l h p q g =
    let m = one_more left block rest e l in
    let c : checks_out k (take 512 left) ≡ false = rw (m.1, ← h, ← p) q in
    rw (m.0, c) at g

pub blocks_end : (left : List ℕ) (k w : ℕ) → length left < 512 → refusal_of (payloads (length left / 512) k left) ≡ w → 0 ≡ w
unfolding payloads refusal_of
blocks_end left k w h g = let z : length left / 512 ≡ 0 = omega arith in rw z at g

-- a payload in its place: what stands before it, the payload, and what stands after it
pub placed : (file stream x y : List ℕ) (k : ℕ) →
    y ≡ take (512 * k + 510 - 512 * k) (drop (512 * k) file) →
    x ≡ take (510 * k) stream ++ (y ++ drop (510 * k + 510 - 510 * k) (drop (510 * k) stream)) →
    x ≡ (take (510 * k) stream ++ take 510 (drop (512 * k) file)) ++ drop 510 (drop (510 * k) stream)
placed file stream x y k ey ex =
    let a : 512 * k + 510 - 512 * k ≡ 510 = omega arith in
    let b : 510 * k + 510 - 510 * k ≡ 510 = omega arith in
    ex ∙ rw (ey, a, b, append_assoc)

before : (file stream : List ℕ) (k : ℕ) → 512 * k + 512 ≤ length file → 510 * k + 510 ≤ length stream → length (take (510 * k) stream ++ take 510 (drop (512 * k) file)) ≡ 510 * (k + 1)
before file stream k hf hs =
    let lf : length (drop (512 * k) file) ≡ length file - 512 * k = length-drop (512 * k) file in
    rw (length-append, length-take-le (510 * k) stream (omega arith), length-take-le 510 (drop (512 * k) file) (omega arith)) (omega arith)

pub join-rest : (file stream stream₀ x : List ℕ) (k : ℕ) → 512 * k + 512 ≤ length file → 510 * k + 510 ≤ length stream →
    x ≡ (take (510 * k) stream ++ take 510 (drop (512 * k) file)) ++ drop 510 (drop (510 * k) stream) →
    drop (510 * k) stream ≡ drop (510 * k) stream₀ → drop (510 * (k + 1)) x ≡ drop (510 * (k + 1)) stream₀
join-rest file stream stream₀ x k hf hs ex e =
    let m : 510 * k + 510 ≡ 510 * (k + 1) = omega arith in
    rw (ex, drop_at _ (drop 510 (drop (510 * k) stream)) (510 * (k + 1)) (before file stream k hf hs), e, drop-drop, m)

joined_more : (file a w : List ℕ) (m n : ℕ) → m ≡ suc n → a ++ joined m file ≡ w → a ++ (take 510 file ++ joined n (drop 512 file)) ≡ w
unfolding joined
joined_more file a w m n z e = rw z at e

pub join_more : (file stream x : List ℕ) (k n : ℕ) → k < n → 512 * k + 512 ≤ length file → 510 * k + 510 ≤ length stream →
    x ≡ (take (510 * k) stream ++ take 510 (drop (512 * k) file)) ++ drop 510 (drop (510 * k) stream) →
    take (510 * k) stream ++ joined (n - k) (drop (512 * k) file) ≡ joined n file →
    take (510 * (k + 1)) x ++ joined (n - (k + 1)) (drop (512 * (k + 1)) file) ≡ joined n file
join_more file stream x k n h hf hs ex e =
    let m : 512 * k + 512 ≡ 512 * (k + 1) = omega arith in
    let g = joined_more (drop (512 * k) file) (take (510 * k) stream) (joined n file) (n - k) (n - (k + 1)) (omega arith) e in
    rw (ex, take_at _ (drop 510 (drop (510 * k) stream)) (510 * (k + 1)) (before file stream k hf hs), append_assoc) (rw (drop-drop, m) at g)

pub join_start : (file stream : List ℕ) (n : ℕ) → take (510 * 0) stream ++ joined (n - 0) (drop (512 * 0) file) ≡ joined n file
join_start file stream n = let z : n - 0 ≡ n = omega arith in rw z

pub join-end : (file stream stream₀ : List ℕ) (k n : ℕ) → k ≤ n → n ≤ k → drop (510 * k) stream ≡ drop (510 * k) stream₀ → take (510 * k) stream ++ joined (n - k) (drop (512 * k) file) ≡ joined n file → stream ≡ joined n file ++ drop (n * 510) stream₀
unfolding joined
join-end file stream stream₀ k n h g d e =
    let z : n - k ≡ 0 = omega arith in
    let m : 510 * k ≡ n * 510 = omega arith in
    let t : take (n * 510) stream ≡ joined n file = rw (z, append-nil, m) at e in
    sym (take-append-drop (n * 510) stream) ∙ rw (t, rw m at d)

pub ruleset length_laws = (length_none, length_past, length_broken, blocks_start)
