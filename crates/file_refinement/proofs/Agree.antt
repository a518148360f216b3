-- A cursor that reads as the definition does. Where the definition's reading gives a thing and the bytes after it, the
-- cursor goes on to the position of those bytes; where it refuses, the cursor has the refusal's number.
use mathlib.Core.Path.{◌≡◌, refl, sym, ◌∙◌, ap}
use mathlib.Core.Bool.{Bool, true, false}
use mathlib.Core.List.{List, [], ◌∷◌}
use mathlib.Core.Option.{Option, none, some}
use Prim.Native.Nat.{ℕ, zero, suc, ◌+◌, ◌*◌, ◌≤◌, ◌<◌}
use native.Mathlib.Nat.{add-zero}
use native.Mathlib.Omega.{arith}
use lib.ListN.{length, get_or, drop, drop_of_length-le}
use lib.Seq.{drop-cons}
use lib.Dec.{eqb, leb, ltb, leb-suc-suc}
use borrow.Author.Tests.{eqb-true, leb-true, leb-false, ltb-true}
use Rattle.prelude.specs.Base.{when◌then◌else◌, or_else}
use Rattle.definition.specs.Refusals.{Refusal, refusal_number, malformed, outside_limit, names_nothing}
use Rattle.definition.specs.SectionFile.{Parsed, parsed, refused, on, Read, require, little_endian, up_to, naming, or_absent, pure}
use Rattle.definition.specs.SectionFile as d
use Rattle.access.specs.Le.{le16}
use Rattle.file_syntax.specs.Cursors.{Cursor, cursor, refuse, number, u8, u16, u16or, skip}

-- P says what holds of the thing, the position after it and the cursor's number
pub data Agrees (s : List ℕ) {A : Type 0} (P : A → ℕ → ℕ → Type 0) (x : Parsed A) (c : Cursor) : Type 0 where
  went : (a : A) (q v : ℕ) → q ≤ length s → P a q v → x ≡ parsed a (drop q s) → c ≡ cursor q 0 v → Agrees s P x c
  stopped : (r : Refusal) (q : ℕ) → x ≡ refused r → c ≡ cursor q (refusal_number r) 0 → Agrees s P x c

-- a refused cursor passes unchanged
pub record Stuck (f : Cursor → Cursor) : Type 0 where
  pub stays : (c : Cursor) → eqb c.bad 0 ≡ false → f c ≡ c

pub refusal_bad : (r : Refusal) → eqb (refusal_number r) 0 ≡ false
unfolding refusal_number
refusal_bad Refusal.bad_length = refl
refusal_bad Refusal.block_check = refl
refusal_bad Refusal.malformed = refl
refusal_bad Refusal.outside_limit = refl
refusal_bad Refusal.names_nothing = refl
refusal_bad Refusal.spelled_twice = refl
refusal_bad Refusal.too_many_statements = refl
refusal_bad Refusal.macro_too_deep = refl
refusal_bad Refusal.list_full = refl
refusal_bad Refusal.too_many_temporaries = refl
refusal_bad Refusal.too_many_labels = refl
refusal_bad Refusal.after_export = refl
refusal_bad Refusal.redeclared = refl
refusal_bad Refusal.undefined = refl
refusal_bad Refusal.wrong_kind = refl
refusal_bad Refusal.absent_table = refl
refusal_bad Refusal.delay_slot_argument = refl
refusal_bad Refusal.macro_arguments = refl
refusal_bad Refusal.label_twice = refl
refusal_bad Refusal.store_to_no_address = refl
refusal_bad Refusal.jump_to_non_local = refl
refusal_bad Refusal.address_of_non_local = refl
refusal_bad Refusal.address_of_offset = refl
refusal_bad Refusal.constant_pool = refl
refusal_bad Refusal.argument_count = refl
refusal_bad Refusal.macro_in_expression = refl
refusal_bad Refusal.subpiece_argument = refl
refusal_bad Refusal.slice_past_end = refl
refusal_bad Refusal.not_assignable = refl
refusal_bad Refusal.const_space = refl
refusal_bad Refusal.no_default_space = refl
refusal_bad Refusal.other_space = refl
refusal_bad Refusal.shift_too_far = refl
refusal_bad Refusal.offset_too_far = refl
refusal_bad Refusal.subpiece_size = refl
refusal_bad Refusal.errors_recorded = refl

pub stuck_both : (f g : Cursor → Cursor) → Stuck f → Stuck g → Stuck (λ c. g (f c))
stuck_both f g p q = record { stays = λ c h. ap g (p.stays c h) ∙ q.stays c h }

-- one reading after another
pub bind : (s : List ℕ) {A B : Type 0} (P : A → ℕ → ℕ → Type 0) (Q : B → ℕ → ℕ → Type 0) (x : Parsed A) (g : A → Read B) (f : Cursor → Cursor) (c : Cursor) →
    Agrees s P x c → Stuck f → ((a : A) (q v : ℕ) → q ≤ length s → P a q v → Agrees s Q (g a (drop q s)) (f (cursor q 0 v))) → Agrees s Q (on x g) (f c)
unfolding on
bind s P Q x g f c (went a q v b p e h) st k = rw (e, h) (k a q v b p)
bind s P Q x g f c (stopped r q e h) st k = stopped r q (rw e) (rw h (st.stays _ (refusal_bad r)))

pub finish : (s : List ℕ) {A B : Type 0} (P : A → ℕ → ℕ → Type 0) (Q : B → ℕ → ℕ → Type 0) (x : Parsed A) (g : A → B) (c : Cursor) →
    Agrees s P x c → ((a : A) (q v : ℕ) → P a q v → Q (g a) q v) → Agrees s Q (on x (λ a. pure (g a))) c
unfolding on
finish s P Q x g c (went a q v b p e h) k = went (g a) q v b (k a q v p) (rw e) h
finish s P Q x g c (stopped r q e h) k = stopped r q (rw e) h

pub weaken : (s : List ℕ) {A : Type 0} (P Q : A → ℕ → ℕ → Type 0) (x : Parsed A) (c : Cursor) → Agrees s P x c → ((a : A) (q v : ℕ) → P a q v → Q a q v) → Agrees s Q x c
weaken s P Q x c (went a q v b p e h) k = went a q v b (k a q v p) e h
weaken s P Q x c (stopped r q e h) k = stopped r q e h

-- nothing is asked
abbrev pub Any : {A : Type 0} → A → ℕ → ℕ → Type 0
Any a q v = Unit {0}

-- Numbers.

-- the number of n bytes at p
unfoldable pub le : ℕ → List ℕ → ℕ → ℕ
le zero s p = 0
le (suc n) s p = get_or s p 0 + 256 * le n s (suc p)

pub u8_at : (s : List ℕ) (p : ℕ) → p < length s → d.u8 (drop p s) ≡ parsed (get_or s p 0) (drop (suc p) s)
unfolding d.u8
u8_at s p h = rw (drop-cons s p 0 h)

pub u8_cut : (s : List ℕ) (p : ℕ) → length s ≤ p → d.u8 (drop p s) ≡ refused malformed
unfolding d.u8
u8_cut s p h = rw (drop_of_length-le s h)

pub le_at : (n : ℕ) (s : List ℕ) (p : ℕ) → p + n ≤ length s → little_endian n (drop p s) ≡ parsed (le n s p) (drop (p + n) s)
unfolding little_endian le on
le_at zero s p h = rw add-zero
le_at (suc n) s p h =
    let z : suc p + n ≡ p + suc n = omega arith in
    rw (u8_at s p (omega arith), le_at n s (suc p) (omega arith), z)

pub le_cut : (n : ℕ) (s : List ℕ) (p : ℕ) → p ≤ length s → length s < p + n → little_endian n (drop p s) ≡ refused malformed
unfolding little_endian on
le_cut zero s p b h = absurd (omega arith)
le_cut (suc n) s p b h = go (λ i. le_cut n s (suc p) i (omega arith)) (leb (suc p) (length s)) refl
  where
    go : (suc p ≤ length s → little_endian n (drop (suc p) s) ≡ refused malformed) → (t : Bool) → leb (suc p) (length s) ≡ t → on (d.u8 (drop p s)) (λ low u. on (little_endian n u) (λ high. pure (low + 256 * high))) ≡ refused malformed
    go rest true e = let i : suc p ≤ length s = leb-true _ _ e in rw (u8_at s p (omega arith), rest i)
    go rest false e = let i : length s < suc p = leb-false _ _ e in rw (u8_cut s p (omega arith))

pub le_16 : (s : List ℕ) (p : ℕ) → le 2 s p ≡ le16 s p
unfolding le le16
le_16 s p = let o : p + 1 ≡ suc p = omega arith in rw o (omega arith)

-- a test of a number: passed, or refused with r
abbrev pub Tests : (ℕ → Read ℕ) → ℕ → Refusal → Type 0
Tests check lim r = (v : ℕ) (u : List ℕ) → check v u ≡ (when ltb v lim then parsed v u else refused r)

pub up_to_lem : (limit : ℕ) → Tests (up_to limit) (suc limit) outside_limit
unfolding up_to on require
up_to_lem limit v u = rw (leb-suc-suc v limit) (go (leb v limit))
  where
    go : (b : Bool) → on (require b outside_limit u) (λ _ t. parsed v t) ≡ (when b then parsed v u else refused outside_limit)
    go true = refl
    go false = refl

pub naming-below : (count : ℕ) → Tests (naming count) count names_nothing
unfolding naming on require
naming-below count v u = go (ltb v count)
  where
    go : (b : Bool) → on (require b names_nothing u) (λ _ t. parsed v t) ≡ (when b then parsed v u else refused names_nothing)
    go true = refl
    go false = refl

-- what a number of n bytes at p that passed a test is
pub record Number (s : List ℕ) (n p lim : ℕ) (a q v : ℕ) : Type 0 where
  pub is : a ≡ le n s p
  pub same : v ≡ a
  pub next : q ≡ p + n
  pub below : a < lim

pub stuck_number : (v : Cursor → ℕ) (n len : ℕ) (lim : Cursor → ℕ) (k : ℕ) → Stuck (λ c. number (v c) n len (lim c) k c)
unfolding number
stuck_number v n len lim k = record { stays = λ c h. rw h }

-- a number of n bytes that is tested
pub number_agrees : (s : List ℕ) (n v p lim w : ℕ) (check : ℕ → Read ℕ) (r : Refusal) → Tests check lim r → v ≡ le n s p → p ≤ length s →
    Agrees s (Number s n p lim) (on (little_endian n (drop p s)) check) (number v n (length s) lim (refusal_number r) (cursor p 0 w))
unfolding number on refusal_number
number_agrees s n v p lim w check r test e b = go (leb (p + n) (length s)) refl
  where
    passed : (t : Bool) → ltb v lim ≡ t → leb (p + n) (length s) ≡ true → Agrees s (Number s n p lim) (on (little_endian n (drop p s)) check) (when leb (p + n) (length s) then (when ltb v lim then cursor (p + n) 0 v else cursor p (refusal_number r) 0) else cursor p 3 0)
    passed true g h =
        let i : p + n ≤ length s = leb-true _ _ h in
        went v (p + n) v i (record { is = e; same = refl; next = refl; below = ltb-true v lim g })
        (rw (le_at n s p i, test, ← e, g)) (rw (h, g))
    passed false g h =
        let i : p + n ≤ length s = leb-true _ _ h in
        stopped r p (rw (le_at n s p i, test, ← e, g)) (rw (h, g))

    go : (t : Bool) → leb (p + n) (length s) ≡ t → Agrees s (Number s n p lim) (on (little_endian n (drop p s)) check) (when leb (p + n) (length s) then (when ltb v lim then cursor (p + n) 0 v else cursor p (refusal_number r) 0) else cursor p 3 0)
    go true h = passed (ltb v lim) refl h
    go false h = stopped malformed p (rw (le_cut n s p b (leb-false _ _ h))) (rw h)

-- Fields.

pub stuck_u8 : (s : List ℕ) (lim k : ℕ) → Stuck (u8 s lim k)
unfolding u8
stuck_u8 s lim k = stuck_number (λ c. get_or s c.at 0) 1 (length s) (λ _. lim) k

pub stuck_u16 : (s : List ℕ) (lim k : ℕ) → Stuck (u16 s lim k)
unfolding u16
stuck_u16 s lim k = stuck_number (λ c. le16 s c.at) 2 (length s) (λ _. lim) k

pub stuck_u16or : (s : List ℕ) (lim k : ℕ) → Stuck (u16or s lim k)
unfolding u16or
stuck_u16or s lim k = stuck_number (λ c. le16 s c.at) 2 (length s) (λ c. when eqb (le16 s c.at) 65535 then 65536 else lim) k

pub stuck_skip : (s : List ℕ) (n : ℕ) → Stuck (skip s n)
unfolding skip
stuck_skip s n = stuck_number (λ _. 0) n (length s) (λ _. 1) 0

pub stuck_refuse : (k : ℕ) → Stuck (refuse k)
unfolding refuse
stuck_refuse k = record { stays = λ c h. rw h }

pub u16_agrees : (s : List ℕ) (lim p w : ℕ) (check : ℕ → Read ℕ) (r : Refusal) → Tests check lim r → p ≤ length s →
    Agrees s (Number s 2 p lim) (on (little_endian 2 (drop p s)) check) (u16 s lim (refusal_number r) (cursor p 0 w))
unfolding u16
u16_agrees s lim p w check r test b = number_agrees s 2 (le16 s p) p lim w check r test (sym (le_16 s p)) b

-- a byte is a number of one byte
u8_le : (s : List ℕ) (p : ℕ) → le 1 s p ≡ get_or s p 0
unfolding le
u8_le s p = omega arith

le_u8 : (u : List ℕ) (check : ℕ → Read ℕ) → on (little_endian 1 u) check ≡ on (d.u8 u) check
unfolding little_endian d.u8 on
le_u8 [] check = refl
le_u8 (x ∷ u) check = let z : x + 256 * 0 ≡ x = omega arith in rw z

pub u8_agrees : (s : List ℕ) (lim p w : ℕ) (check : ℕ → Read ℕ) (r : Refusal) → Tests check lim r → p ≤ length s →
    Agrees s (Number s 1 p lim) (on (d.u8 (drop p s)) check) (u8 s lim (refusal_number r) (cursor p 0 w))
unfolding u8
u8_agrees s lim p w check r test b = rw (← le_u8) (number_agrees s 1 (get_or s p 0) p lim w check r test (sym (u8_le s p)) b)

-- 65,535 where absent is allowed
pub record NumberOr (s : List ℕ) (p lim : ℕ) (a : Option ℕ) (q v : ℕ) : Type 0 where
  pub is : or_else 65535 a ≡ le16 s p
  pub absent : a ≡ (when eqb (le16 s p) 65535 then none else some (le16 s p))
  pub next : q ≡ p + 2
  pub below : (x : ℕ) → a ≡ some x → x < lim

pub u16or_agrees : (s : List ℕ) (lim p w : ℕ) (check : ℕ → Read ℕ) (r : Refusal) → Tests check lim r → p ≤ length s →
    Agrees s (NumberOr s p lim) (on (little_endian 2 (drop p s)) (or_absent check)) (u16or s lim (refusal_number r) (cursor p 0 w))
unfolding u16or number on or_absent refusal_number or_else
u16or_agrees s lim p w check r test b = go (leb (p + 2) (length s)) (eqb (le16 s p) 65535) (ltb (le16 s p) lim) refl refl refl
  where
    go : (t u x : Bool) → leb (p + 2) (length s) ≡ t → eqb (le16 s p) 65535 ≡ u → ltb (le16 s p) lim ≡ x → Agrees s (NumberOr s p lim) (on (little_endian 2 (drop p s)) (or_absent check)) (number (le16 s p) 2 (length s) (when eqb (le16 s p) 65535 then 65536 else lim) (refusal_number r) (cursor p 0 w))
    go false u x h g k = stopped malformed p (rw (le_cut 2 s p b (leb-false _ _ h))) (rw h)
    go true true x h g k =
        let i : p + 2 ≤ length s = leb-true _ _ h in
        let z : le16 s p ≡ 65535 = eqb-true _ _ g in
        went none (p + 2) 65535 i (record { is = sym z; absent = rw g; next = refl; below = λ y e. absurd (let o : ◌≡◌ {A = ℕ} 0 1 = cc in omega arith) })
        (rw (le_at 2 s p i, le_16, g)) (rw (h, g, z))
    go true false true h g k =
        let i : p + 2 ≤ length s = leb-true _ _ h in
        let m : le16 s p < lim = ltb-true _ _ k in
        went (some (le16 s p)) (p + 2) (le16 s p) i (record { is = refl; absent = rw g; next = refl; below = λ y e. let o : le16 s p ≡ y = cc in omega arith })
        (rw (le_at 2 s p i, le_16, g, test, k)) (rw (h, g, k))
    go true false false h g k =
        let i : p + 2 ≤ length s = leb-true _ _ h in
        stopped r p (rw (le_at 2 s p i, le_16, g, test, k)) (rw (h, g, k))

-- n bytes passed over
pub skip_agrees : (s : List ℕ) (n p w : ℕ) → p ≤ length s →
    Agrees s (λ a q v. (a ≡ le n s p) × (q ≡ p + n)) (little_endian n (drop p s)) (skip s n (cursor p 0 w))
unfolding skip number refusal_number
skip_agrees s n p w b = go (leb (p + n) (length s)) refl
  where
    go : (t : Bool) → leb (p + n) (length s) ≡ t → Agrees s (λ a q v. (a ≡ le n s p) × (q ≡ p + n)) (little_endian n (drop p s)) (when leb (p + n) (length s) then cursor (p + n) 0 0 else cursor p 3 0)
    go true h = let i : p + n ≤ length s = leb-true _ _ h in went (le n s p) (p + n) 0 i (refl, refl) (le_at n s p i) (rw h)
    go false h = stopped malformed p (le_cut n s p b (leb-false _ _ h)) (rw h)
