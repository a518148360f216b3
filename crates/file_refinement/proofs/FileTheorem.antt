-- THE THEOREM on files: the checks of the blocks and the reading of the joined stream together refuse as the definition's
-- `read` does, and what they accept holds the definition's section.
use mathlib.Core.Path.{◌≡◌, refl, sym, ◌∙◌}
use mathlib.Core.Bool.{Bool, true, false, ◌&&◌}
use mathlib.Core.List.{List, [], ◌++◌, append-nil}
use Prim.Native.Nat.{ℕ, zero, suc, ◌-◌, ◌*◌, ◌/◌, ◌%◌, ◌≤◌, ◌<◌}
use native.Mathlib.Nat.{min-le_left}
use native.Mathlib.Omega.{arith}
use lib.ListN.{length, get_or, take, drop, replicate, length-append, length-drop, length-take, length-replicate, get_or-replicate, get_or-eq_default}
use lib.Seq.{take-take, take_at, length-take-le}
use lib.Dec.{eqb, leb, ltb}
use borrow.Author.Tests.{leb-true, ltb-true, ltb-false}
use Rattle.prelude.specs.Base.{when◌then◌else◌}
use Rattle.definition.specs.Refusals.{Refusal, refusal_number, bad_length, block_check}
use Rattle.definition.specs.Ast.{Section}
use Rattle.definition.specs.SectionFile.{Parsed, parsed, refused, on, pure, require, checks_out, bytes, payloads, whole_blocks, stream_of}
use Rattle.definition.specs.SectionFile as d
use Rattle.file_section.specs.Stream.{read_stream}
use Rattle.file_blocks.specs.Blocks.{refusal_of, joined}
use Rattle.file_refinement.specs.Holds.{Holds}
use Rattle.file_refinement.proofs.Agree.{refusal_bad}
use Rattle.file_refinement.proofs.StreamTheorem.{read_stream_refusal, read_stream_steps, holds}

-- the table before anything is read
unfoldable pub no_table : List ℕ
no_table = replicate 3344 0

no_table-long : length no_table ≡ 3344
unfolding no_table
no_table-long = length-replicate {A = ℕ} 3344 0

no_table_clear : (j : ℕ) → get_or no_table j 0 ≡ 0
unfolding no_table
no_table_clear j = go (ltb j 3344) refl
  where
    go : (b : Bool) → ltb j 3344 ≡ b → get_or {A = ℕ} (replicate 3344 0) j 0 ≡ 0
    go true e = get_or-replicate {A = ℕ} 3344 j 0 0 (ltb-true _ _ e)
    go false e = get_or-eq_default {A = ℕ} (replicate 3344 0) 0 {n = j} (rw length-replicate (ltb-false _ _ e))

never : {A : Type 0} {r : Refusal} {a : A} {t : List ℕ} → refused r ≡ parsed a t → ⊥
never {A} {r} {a} {t} h = let z : ◌≡◌ {A = ℕ} 0 1 = cc in omega (arith, z)

-- Streams.

pub stream_refusal : (s : List ℕ) → length s < 65536 → (read_stream s no_table).refusal ≡ refusal_of (d.read_section s)
stream_refusal s h = read_stream_refusal s no_table h no_table-long no_table_clear

pub stream_holds : (s : List ℕ) → length s < 65536 → (sec : Section) (rest : List ℕ) → d.read_section s ≡ parsed sec rest → Holds s (read_stream s no_table).table sec
stream_holds s h sec rest e = holds s no_table (read_stream s no_table).table sec h no_table_clear (read_stream_steps s no_table h no_table-long no_table_clear sec rest e)

-- Blocks.

payloads-joined : (n k : ℕ) (s x rest : List ℕ) → payloads n k s ≡ parsed x rest → x ≡ joined n s
unfolding payloads bytes joined on require
payloads-joined zero k s x rest e = let z : [] ≡ x = cc in sym z
payloads-joined (suc n) k s x rest e = checked (λ y r. payloads-joined n (suc k) (drop 512 s) y r) (checks_out k (take 512 s)) e
  where
    added : ((y r : List ℕ) → payloads n (suc k) (drop 512 s) ≡ parsed y r → y ≡ joined n (drop 512 s)) → (p : Parsed (List ℕ)) → payloads n (suc k) (drop 512 s) ≡ p →
        on p (λ y. pure (take 510 (take 512 s) ++ y)) ≡ parsed x rest → x ≡ take 510 s ++ joined n (drop 512 s)
    added more (parsed y r) f g =
        let z : take 510 (take 512 s) ++ y ≡ x = cc in
        sym z ∙ rw (take-take 510 512 s (omega arith), more y r f)
    added more (refused r) f g = absurd (never g)

    checked : ((y r : List ℕ) → payloads n (suc k) (drop 512 s) ≡ parsed y r → y ≡ joined n (drop 512 s)) → (b : Bool) →
        on (require b block_check (drop 512 s)) (λ _ u. on (payloads n (suc k) u) (λ y. pure (take 510 (take 512 s) ++ y))) ≡ parsed x rest → x ≡ take 510 s ++ joined n (drop 512 s)
    checked more true g = added more (payloads n (suc k) (drop 512 s)) refl g
    checked more false g = absurd (never g)

pub joined-short : (n : ℕ) (s : List ℕ) → length (joined n s) ≤ 510 * n
unfolding joined
joined-short zero s = omega arith
joined-short (suc n) s =
    let a = joined-short n (drop 512 s) in
    let b = min-le_left 510 (length s) in
    rw (length-append, length-take) (omega arith)

-- what the checks accept is the payloads joined, at most 65,280 bytes
pub file_stream : (file x rest : List ℕ) → stream_of file ≡ parsed x rest → (x ≡ joined (length file / 512) file) × (length x ≤ 65280)
unfolding stream_of whole_blocks on require
file_stream file x rest e = go (leb 1 (length file)) (leb (length file) 65536) (eqb (length file % 512) 0) refl e
  where
    go : (a b c : Bool) → leb (length file) 65536 ≡ b → on (require (a && b && c) bad_length file) (λ _. payloads (length file / 512) 0) ≡ parsed x rest → (x ≡ joined (length file / 512) file) × (length x ≤ 65280)
    go true true true f g =
        let z = payloads-joined (length file / 512) 0 file x rest g in
        let l = joined-short (length file / 512) file in
        let m : length file ≤ 65536 = leb-true _ _ f in
        (z, rw z (omega arith))
    go true true false f g = absurd (never g)
    go true false c f g = absurd (never g)
    go false b c f g = absurd (never g)

-- a file of one block is its own stream, without its check
pub one_block : (file : List ℕ) → length file ≡ 512 → joined (length file / 512) file ≡ take 510 file
unfolding joined
one_block file h = rw (h, append-nil)

-- Files.

-- the code's three steps: the checks, the payloads joined, the reading of the stream
unfoldable pub file_refusal : List ℕ → ℕ
file_refusal file =
    when eqb (refusal_of (stream_of file)) 0
    then (read_stream (joined (length file / 512) file) no_table).refusal
    else refusal_of (stream_of file)

pub file-refusal : (file : List ℕ) → file_refusal file ≡ refusal_of (d.read file)
unfolding file_refusal d.read refusal_of on
file-refusal file = go (stream_of file) refl
  where
    go : (p : Parsed (List ℕ)) → stream_of file ≡ p → (when eqb (refusal_of p) 0 then (read_stream (joined (length file / 512) file) no_table).refusal else refusal_of p) ≡ refusal_of (on p (λ stream _. d.read_section stream))
    go (parsed x rest) e =
        let f = file_stream file x rest e in
        let l : length x < 65536 = (let m = f.1 in omega arith) in
        rw (← f.0) (stream_refusal x l)
    go (refused r) e = rw (refusal_bad r)

pub file-holds : (file : List ℕ) (sec : Section) (rest : List ℕ) → d.read file ≡ parsed sec rest → Holds (joined (length file / 512) file) (read_stream (joined (length file / 512) file) no_table).table sec
unfolding d.read on
file-holds file sec rest g = go (stream_of file) refl g
  where
    go : (p : Parsed (List ℕ)) → stream_of file ≡ p → on p (λ stream _. d.read_section stream) ≡ parsed sec rest → Holds (joined (length file / 512) file) (read_stream (joined (length file / 512) file) no_table).table sec
    go (parsed x r) e g =
        let f = file_stream file x r e in
        let l : length x < 65536 = (let m = f.1 in omega arith) in
        rw (← f.0) (stream_holds x l sec rest g)
    go (refused r) e g = absurd (never g)

bad_one : refusal_number bad_length ≡ 0 → ⊥
unfolding refusal_number
bad_one e = let z : ◌≡◌ {A = ℕ} 1 0 = e in omega arith

-- what the checks accept fits the buffer that `join` fills
pub checked_room : (file : List ℕ) → refusal_of (stream_of file) ≡ 0 → length file / 512 * 510 ≤ 65280
unfolding stream_of whole_blocks on require refusal_of
checked_room file e = go (leb 1 (length file)) (leb (length file) 65536) (eqb (length file % 512) 0) refl e
  where
    go : (a b c : Bool) → leb (length file) 65536 ≡ b → refusal_of (on (require (a && b && c) bad_length file) (λ _. payloads (length file / 512) 0)) ≡ 0 → length file / 512 * 510 ≤ 65280
    go true true c f g = let m : length file ≤ 65536 = leb-true _ _ f in omega arith
    go true false c f g = absurd (bad_one g)
    go false b c f g = absurd (bad_one g)

-- the payloads of whole blocks
pub joined-long : (n : ℕ) (s : List ℕ) → 512 * n ≤ length s → length (joined n s) ≡ n * 510
unfolding joined
joined-long zero s h = refl
joined-long (suc n) s h =
    let d : length (drop 512 s) ≡ length s - 512 = length-drop 512 s in
    let k : length (joined n (drop 512 s)) ≡ n * 510 = joined-long n (drop 512 s) (omega arith) in
    rw (length-append, length-take-le 510 s (omega arith), k) (omega arith)

-- the buffer's front
pub front : (file rest : List ℕ) → take (length file / 512 * 510) (joined (length file / 512) file ++ rest) ≡ joined (length file / 512) file
front file rest = take_at (joined (length file / 512) file) rest (length file / 512 * 510) (joined-long (length file / 512) file (omega arith))

pub front_room : (file rest buf : List ℕ) → buf ≡ joined (length file / 512) file ++ rest → length file / 512 * 510 ≤ length buf
front_room file rest buf e = let k = joined-long (length file / 512) file (omega arith) in rw (e, length-append, k) (omega arith)
