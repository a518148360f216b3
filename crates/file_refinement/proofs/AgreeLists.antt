-- The lists of entries: the cursor agrees with the definition's reading, and the table holds the marks of their names,
-- the places of the macros and their first ordinals.
use mathlib.Core.Path.{◌≡◌, refl, sym, ◌∙◌, ap}
use mathlib.Core.Bool.{Bool, true, false, not}
use mathlib.Core.List.{List, [], ◌∷◌, ◌++◌, map}
use mathlib.Core.Option.{Option, none, some}
use Prim.Native.Nat.{ℕ, zero, suc, ◌+◌, ◌*◌, ◌%◌, ◌≤◌, ◌<◌}
use native.Mathlib.Nat.{mul-suc}
use native.Mathlib.Omega.{arith}
use lib.ListN.{length, get_or, set, drop, get_elem?, length-set}
use lib.Seq.{get_or-set_same, get_or-set_other}
use lib.Dec.{eqb}
use borrow.Author.Tests.{eqb-true, eqb-false, eq-eqb, ne_eqb}
use Rattle.prelude.specs.Base.{when◌then◌else◌, any, position}
use Rattle.definition.specs.Refusals.{Refusal, refusal_number, spelled_twice}
use Rattle.definition.specs.SectionFile.{on, Read, require}
use Rattle.definition.specs.SectionFile as d
use Rattle.access.specs.Le.{le16}
use Rattle.file_syntax.specs.Cursors.{Cursor, cursor, refuse}
use Rattle.access.specs.Loops.{run}
use Rattle.file_syntax.specs.Cursors as w
use Rattle.file_section.specs.Names.{Reading, reading}
use Rattle.file_section.specs.Lists.{slot, stamp, mark, Which, which_of, after_name, after, params, macro_head, macro, named, rest_of, entry, list}
use Rattle.file_refinement.proofs.Agree.{Agrees, went, stopped, Stuck, stuck_both, Number, le_16, stuck_u8, stuck_u16, stuck_u16or, refusal_bad}
use Rattle.file_refinement.proofs.AgreeCode.{name_read, stuck_body, stuck_counted}
use Rattle.file_refinement.proofs.AgreeNames.{Fills, goes, stops, Stays, stays_both, stays_run, fills_from, fills_finish, fills_weaken, place-fits}

-- Refused readings pass.

stuck_which : (K : Which) (s : List ℕ) → Stuck (after_name K s)
unfolding after_name
stuck_which Which.spaces s = stuck_both _ _ (stuck_u8 s 3 3) (stuck_u16 s 1025 4)
stuck_which Which.registers s = stuck_u16 s 1025 4
stuck_which Which.bit_ranges s = stuck_both _ _ (stuck_u16 s (le16 s 6) 5) (stuck_both _ _ (stuck_u16 s 8193 4) (stuck_u16 s 8193 4))
stuck_which Which.tables s = stuck_u16or s 1025 4
stuck_which Which.user_ops s = record { stays = λ c h. refl }
stuck_which Which.macros s = record { stays = λ c h. refl }
stuck_which Which.others s = record { stays = λ c h. refl }
stuck_which Which.fields s = stuck_u16or s 1025 4
stuck_which Which.subtables s = stuck_u16 s (le16 s 10) 5

stuck_head : (s : List ℕ) (m : ℕ) → Stuck (macro_head s m)
unfolding macro_head params
stuck_head s m = stuck_both _ _ (stuck_both _ _ (stuck_u8 s 9 4) (stuck_counted _ (stuck_u16 s m 5))) (stuck_u16 s 1025 4)

stays_named : (k : ℕ) (s : List ℕ) (i : ℕ) → Stays (named k s i)
unfolding named mark
stays_named k s i = record { stays = λ w h. let e = (stuck_u16 s (le16 s 2) 5).stays w.cursor h in rw (e, h) }

pub stays_rest : (k : ℕ) (s : List ℕ) (i : ℕ) → Stays (rest_of k s i)
unfolding rest_of macro after
stays_rest k s i = record { stays = λ w h. go w h (eqb k 5) }
  where
    go : (w : Reading) → eqb w.cursor.bad 0 ≡ false → (b : Bool) → (when b then macro s (le16 s 2) i w else reading (after k s w.cursor) w.table).cursor ≡ w.cursor
    go w h true = let e = (stuck_head s (le16 s 2)).stays w.cursor h in rw e ((stuck_body s (le16 s 2) w.cursor.val).stays w.cursor h)
    go w h false = (stuck_which (which_of k) s).stays w.cursor h

pub stays_entry : (k : ℕ) (s : List ℕ) (i : ℕ) → Stays (entry k s i)
unfolding entry
stays_entry k s i = stays_both (named k s i) (rest_of k s i) (stays_named k s i) (stays_rest k s i)

pub stays_list : (s : List ℕ) (k : ℕ) → Stays (list s k)
unfolding list
stays_list s k = record { stays = λ w h. (stays_run (le16 s (4 + 2 * k)) 0 (entry k s) (stays_entry k s)).stays (reading w.cursor (set w.table (3328 + k) (w.cursor.at % 65536))) h }

-- The marks.

unfoldable pub stamp_of : (ℕ → ℕ) → Option ℕ → ℕ
stamp_of f none = 0
stamp_of f (some i) = f i

-- what marks a name x that is marked with `old`, after a list of entries of these names, counted from i
unfoldable pub marked : (ℕ → ℕ) → ℕ → List ℕ → ℕ → ℕ → ℕ
marked f i names x old = when eqb old 0 then stamp_of f (position (eqb x) i names) else old

pub marked_none : (f : ℕ → ℕ) (i x old : ℕ) → old ≡ marked f i [] x old
unfolding marked stamp_of position
marked_none f i x old = go (eqb old 0) refl
  where
    go : (b : Bool) → eqb old 0 ≡ b → old ≡ (when eqb old 0 then 0 else old)
    go true e = rw e (eqb-true _ _ e)
    go false e = rw e

marked_own : (f : ℕ → ℕ) (i own old : ℕ) (names : List ℕ) → eqb (f i) 0 ≡ false → old ≡ 0 → marked f (suc i) names own (f i) ≡ marked f i (own ∷ names) own old
unfolding marked stamp_of position
marked_own f i own old names n z = rw (n, eq-eqb old 0 z, eq-eqb own own refl)

marked_other : (f : ℕ → ℕ) (i x own old : ℕ) (names : List ℕ) → (x ≡ own → ⊥) → marked f (suc i) names x old ≡ marked f i (own ∷ names) x old
unfolding marked position
marked_other f i x own old names n = rw (ne_eqb x own n)

-- the taken names are the marked ones
abbrev pub Taken : ℕ → List ℕ → List ℕ → Type 0
Taken base t taken = (x : ℕ) → x < 1024 → any (eqb x) taken ≡ not (eqb (get_or t (base + x) 0) 0)

same_place : (base x own : ℕ) → base + x ≡ base + own → x ≡ own
same_place base x own q = omega arith

pub taken_more : (base : ℕ) (t : List ℕ) (taken : List ℕ) (own v : ℕ) → base + own < length t → eqb v 0 ≡ false → Taken base t taken → Taken base (set t (base + own) v) (own ∷ taken)
unfolding any
taken_more base t taken own v l n a x h = go (eqb x own) refl
  where
    go : (b : Bool) → eqb x own ≡ b → (when eqb x own then true else any (eqb x) taken) ≡ not (eqb (get_or (set t (base + own) v) (base + x) 0) 0)
    go true e = let z : x ≡ own = eqb-true _ _ e in rw (e, z, get_or-set_same t (base + own) v 0 l, n)
    go false e = let z : x ≡ own → ⊥ = eqb-false _ _ e in rw (e, get_or-set_other t (base + own) (base + x) v 0 (λ q. z (same_place base x own q))) (a x h)

any_swap : (p : ℕ → Bool) (o : ℕ) (xs ys : List ℕ) → any p (xs ++ (o ∷ ys)) ≡ any p (o ∷ (xs ++ ys))
unfolding any
any_swap p o [] ys = refl
any_swap p o (x ∷ xs) ys = rw (any_swap p o xs ys) (go (p o) (p x))
  where
    go : (a b : Bool) → (when b then true else when a then true else any p (xs ++ ys)) ≡ (when a then true else when b then true else any p (xs ++ ys))
    go true true = refl
    go true false = refl
    go false true = refl
    go false false = refl

-- The name of an entry, and what follows it.

pub record Base (k base : ℕ) : Type 0 where
  pub slots : (x : ℕ) → x < 1024 → slot k x ≡ base + x
  pub inside : base + 1024 ≤ 3072
  pub stamps : (i : ℕ) → i < 1024 → eqb (stamp k i) 0 ≡ false

-- what is known once the name of an entry at p is read
pub record Own (s : List ℕ) (base p : ℕ) (t : List ℕ) (own q : ℕ) : Type 0 where
  pub is : own ≡ le16 s p
  pub next : q ≡ p + 2
  pub below : own < 1024
  pub free : get_or t (base + own) 0 ≡ 0

mark_kept : (at v : ℕ) (w : Reading) → eqb w.cursor.bad 0 ≡ false → mark at v w ≡ w
unfolding mark
mark_kept at v w h = rw h

mark-free : (at v q u : ℕ) (t : List ℕ) → eqb (get_or t at 0) 0 ≡ true → mark at v (reading (cursor q 0 u) t) ≡ reading (cursor q 0 u) (set t at v)
unfolding mark
mark-free at v q u t h = rw h

mark_taken : (at v q u : ℕ) (t : List ℕ) → eqb (get_or t at 0) 0 ≡ false → mark at v (reading (cursor q 0 u) t) ≡ reading (cursor q (refusal_number spelled_twice) 0) t
unfolding mark refuse refusal_number
mark_taken at v q u t h = rw h

passes : (h : Reading → Reading) → Stays h → (at v : ℕ) (c : Cursor) (t : List ℕ) (q : ℕ) (r : Refusal) → c ≡ cursor q (refusal_number r) 0 → (h (mark at v (reading c t))).cursor ≡ cursor q (refusal_number r) 0
passes h st at v c t q r f =
    let b : eqb c.bad 0 ≡ false = rw f (refusal_bad r) in
    let m : mark at v (reading c t) ≡ reading c t = mark_kept at v (reading c t) b in
    rw m (st.stays (reading c t) b ∙ f)

module _ (s : List ℕ) (few : le16 s 2 ≤ 1024) (k base : ℕ) (at : Base k base) where
  pub named_then : {B : Type 0} (P : B → ℕ → List ℕ → Type 0) (K : ℕ → Read B) (h : Reading → Reading) (i p v : ℕ) (t taken : List ℕ) → Taken base t taken → p ≤ length s → Stays h →
      ((own q u : ℕ) → Own s base p t own q → q ≤ length s → Fills s P (K own (drop q s)) (h (reading (cursor q 0 u) (set t (base + own) (stamp k i))))) →
      Fills s P (on (d.name (le16 s 2) (drop p s)) (λ own u. on (require (not (any (eqb own) taken)) spelled_twice u) (λ _. K own))) (h (named k s i (reading (cursor p 0 v) t)))
  unfolding named on require
  named_then {B} P K h i p v t taken a b st go = read (name_read s (le16 s 2) p v b)
    where
      read : Agrees s (Number s 2 p (le16 s 2)) (d.name (le16 s 2) (drop p s)) (w.name s (le16 s 2) (cursor p 0 v)) →
          Fills s P (on (d.name (le16 s 2) (drop p s)) (λ own u. on (require (not (any (eqb own) taken)) spelled_twice u) (λ _. K own))) (h (mark (slot k (w.name s (le16 s 2) (cursor p 0 v)).val) (stamp k i) (reading (w.name s (le16 s 2) (cursor p 0 v)) t)))
      read (stopped r q e f) = stops r q (rw e) (passes h st (slot k (w.name s (le16 s 2) (cursor p 0 v)).val) (stamp k i) (w.name s (le16 s 2) (cursor p 0 v)) t q r f)
      read (went own q u c n e f) = rw (e, f, n.same, at.slots own (n_below n)) (tested (eqb (get_or t (base + own) 0) 0) refl)
        where
          n_below : Number s 2 p (le16 s 2) own q u → own < 1024
          n_below n = let l = n.below in omega arith

          tested : (x : Bool) → eqb (get_or t (base + own) 0) 0 ≡ x → Fills s P (on (require (not (any (eqb own) taken)) spelled_twice (drop q s)) (λ _. K own)) (h (mark (base + own) (stamp k i) (reading (cursor q 0 own) t)))
          tested true z = rw (a own (n_below n), z, mark-free (base + own) (stamp k i) q own t z) (go own q own (record { is = n.is ∙ le_16 s p; next = n.next; below = n_below n; free = eqb-true _ _ z }) c)
          tested false z = rw (a own (n_below n), z, mark_taken (base + own) (stamp k i) q own t z) (stops spelled_twice q refl (st.stays _ (refusal_bad spelled_twice)))

-- n entries of list k from p on, each of so many bytes after its name; the table t' was t
pub record EntriesHeld (s : List ℕ) (k base : ℕ) {A : Type 0} (name_of : A → ℕ) (f : ℕ → ℕ → A) (wide i n p : ℕ) (taken t : List ℕ) (xs : List A) (q : ℕ) (t' : List ℕ) : Type 0 where
  pub count : length xs ≡ n
  pub element : (j : ℕ) → j < n → get_elem? xs j ≡ some (f (le16 s (p + (2 + wide) * j)) (p + (2 + wide) * j + 2))
  pub next : q ≡ p + (2 + wide) * n
  pub marks : (x : ℕ) → x < 1024 → get_or t' (base + x) 0 ≡ marked (stamp k) i (map name_of xs) x (get_or t (base + x) 0)
  pub kept : (j : ℕ) → (base ≤ j → j < base + 1024 → ⊥) → get_or t' j 0 ≡ get_or t j 0
  pub size : length t' ≡ length t
  pub all_taken : Taken base t' (map name_of xs ++ taken)

rest_plain : (k : ℕ) (s : List ℕ) (i : ℕ) (w : Reading) → eqb k 5 ≡ false → rest_of k s i w ≡ reading (after k s w.cursor) w.table
unfolding rest_of
rest_plain k s i w h = rw h

entries_none : (s : List ℕ) (k base : ℕ) {A : Type 0} (name_of : A → ℕ) (f : ℕ → ℕ → A) (wide i p : ℕ) (taken t : List ℕ) → Taken base t taken → EntriesHeld s k base name_of f wide i 0 p taken t [] p t
entries_none s k base name_of f wide i p taken t a = record {
  count = refl;
  element = λ j h. absurd (omega arith);
  next = omega arith;
  marks = λ x h. marked_none (stamp k) i x (get_or t (base + x) 0);
  kept = λ j h. refl;
  size = refl;
  all_taken = a;
}

pub marks_more : (base : ℕ) (t t' : List ℕ) (f : ℕ → ℕ) (i own : ℕ) (names : List ℕ) → base + own < length t → eqb (f i) 0 ≡ false → get_or t (base + own) 0 ≡ 0 →
    ((x : ℕ) → x < 1024 → get_or t' (base + x) 0 ≡ marked f (suc i) names x (get_or (set t (base + own) (f i)) (base + x) 0)) →
    (x : ℕ) → x < 1024 → get_or t' (base + x) 0 ≡ marked f i (own ∷ names) x (get_or t (base + x) 0)
marks_more base t t' f i own names l n z rest x h = rest x h ∙ go (eqb x own) refl
  where
    go : (b : Bool) → eqb x own ≡ b → marked f (suc i) names x (get_or (set t (base + own) (f i)) (base + x) 0) ≡ marked f i (own ∷ names) x (get_or t (base + x) 0)
    go true e = let y : x ≡ own = eqb-true _ _ e in rw (y, get_or-set_same t (base + own) (f i) 0 l) (marked_own f i own (get_or t (base + own) 0) names n z)
    go false e =
        let y : x ≡ own → ⊥ = eqb-false _ _ e in
        rw (get_or-set_other t (base + own) (base + x) (f i) 0 (λ q. y (same_place base x own q))) (marked_other f i x own (get_or t (base + x) 0) names y)

pub taken_again : (base : ℕ) (t : List ℕ) (own : ℕ) (names taken : List ℕ) → Taken base t (names ++ (own ∷ taken)) → Taken base t (own ∷ (names ++ taken))
taken_again base t own names taken a x h = sym (any_swap (eqb x) own names taken) ∙ a x h

entries_more : (s : List ℕ) (k base : ℕ) {A : Type 0} (name_of : A → ℕ) (f : ℕ → ℕ → A) (wide i n p own q0 q1 q : ℕ) (taken t t' : List ℕ) (x : A) (xs : List A) →
    length t ≡ 3344 → Base k base → i < 1024 → ((own q : ℕ) → name_of (f own q) ≡ own) → Own s base p t own q0 → x ≡ f own q0 → q1 ≡ q0 + wide →
    EntriesHeld s k base name_of f wide (suc i) n q1 (own ∷ taken) (set t (base + own) (stamp k i)) xs q t' → EntriesHeld s k base name_of f wide i (suc n) p taken t (x ∷ xs) q t'
entries_more s k base name_of f wide i n p own q0 q1 q taken t t' x xs l at li nm o ex eq h = record {
  count = ap suc h.count;
  element = each;
  next = h.next ∙ far n;
  marks = λ y k. rw named_own (marks_more base t t' (stamp _) i own (map name_of xs) inside (at.stamps i li) o.free h.marks y k);
  kept = λ j k. h.kept j k ∙ get_or-set_other t (base + own) j (stamp _ i) 0 (λ z. k (low j z) (high j z));
  size = h.size ∙ length-set t (base + own) (stamp k i);
  all_taken = rw named_own (taken_again base t' own (map name_of xs) taken h.all_taken);
}
  where
    inside : base + own < length t
    inside = let a = at.inside in let b = o.below in omega arith

    named_own : name_of x ≡ own
    named_own = rw ex (nm own q0)

    low : (j : ℕ) → j ≡ base + own → base ≤ j
    low j z = omega arith

    high : (j : ℕ) → j ≡ base + own → j < base + 1024
    high j z = let b = o.below in omega arith

    far : (n : ℕ) → q1 + (2 + wide) * n ≡ p + (2 + wide) * suc n
    far n = let e = o.next in let m = mul-suc (2 + wide) n in omega arith

    each : (j : ℕ) → j < suc n → get_elem? (x ∷ xs) j ≡ some (f (le16 s (p + (2 + wide) * j)) (p + (2 + wide) * j + 2))
    each zero k = let z : p + (2 + wide) * 0 ≡ p = omega arith in rw (z, ex, o.next, o.is)
    each (suc j) k = rw (← far j) (h.element j (omega arith))

module _ (s : List ℕ) (few : le16 s 2 ≤ 1024) (k base : ℕ) (at : Base k base) (plain : eqb k 5 ≡ false)
    {A : Type 0} (name_of : A → ℕ) (f : ℕ → ℕ → A) (wide : ℕ) (reads : ℕ → Read A)
    (nm : (own q : ℕ) → name_of (f own q) ≡ own)
    (agrees : (own q v : ℕ) → q ≤ length s → Agrees s (λ x r _. (x ≡ f own q) × (r ≡ q + wide)) (reads own (drop q s)) (after k s (cursor q 0 v))) where
  pub entries-fill : (n i p v : ℕ) (t taken : List ℕ) → i + n ≤ 1024 → length t ≡ 3344 → Taken base t taken → p ≤ length s →
      Fills s (EntriesHeld s k base name_of f wide i n p taken t) (d.entries (le16 s 2) reads taken n (drop p s)) (run n i (entry k s) (reading (cursor p 0 v) t))
  unfolding d.entries run entry
  entries-fill zero i p v t taken l z a b = goes [] p v t b (entries_none s k base name_of f wide i p taken t a) refl refl
  entries-fill (suc n) i p v t taken l z a b =
      named_then s few k base at (EntriesHeld s k base name_of f wide i (suc n) p taken t) _ (λ w. run n (suc i) (entry k s) (rest_of k s i w)) i p v t taken a b
      (stays_both (rest_of k s i) (run n (suc i) (entry k s)) (stays_rest k s i) (stays_run n (suc i) (entry k s) (stays_entry k s)))
      (λ own q u o c. rw (rest_plain k s i (reading (cursor q 0 u) (set t (base + own) (stamp k i))) plain)
      (fills_from s (λ x r _. (x ≡ f own q) × (r ≡ q + wide)) (EntriesHeld s k base name_of f wide i (suc n) p taken t) (reads own (drop q s)) _ (run n (suc i) (entry k s)) (after k s (cursor q 0 u)) (set t (base + own) (stamp k i))
      (agrees own q u c) (stays_run n (suc i) (entry k s) (stays_entry k s))
      (λ x q1 u1 c1 e. fills_finish s (EntriesHeld s k base name_of f wide (suc i) n q1 (own ∷ taken) (set t (base + own) (stamp k i))) _ (d.entries (le16 s 2) reads (own ∷ taken) n (drop q1 s)) (λ xs. x ∷ xs) _
      (entries-fill n (suc i) q1 u1 (set t (base + own) (stamp k i)) (own ∷ taken) (omega arith) (rw length-set z) (taken_more base t taken own (stamp k i) (inside t own z o.below) (at.stamps i (omega arith)) a) c1)
      (λ xs r t' h. entries_more s k base name_of f wide i n p own q q1 r taken t t' x xs z at (omega arith) nm o e.0 e.1 h))))
    where
      inside : (t : List ℕ) (own : ℕ) → length t ≡ 3344 → own < 1024 → base + own < length t
      inside t own z l = let a = at.inside in omega arith

-- list k begins at p; the table t' was t
pub record ListHeld (s : List ℕ) (k base : ℕ) {A : Type 0} (name_of : A → ℕ) (f : ℕ → ℕ → A) (wide p : ℕ) (taken t : List ℕ) (xs : List A) (q : ℕ) (t' : List ℕ) : Type 0 where
  pub count : length xs ≡ le16 s (4 + 2 * k)
  pub start : get_or t' (3328 + k) 0 ≡ p
  pub element : (j : ℕ) → j < length xs → get_elem? xs j ≡ some (f (le16 s (p + (2 + wide) * j)) (p + (2 + wide) * j + 2))
  pub marks : (x : ℕ) → x < 1024 → get_or t' (base + x) 0 ≡ marked (stamp k) 0 (map name_of xs) x (get_or t (base + x) 0)
  pub kept : (j : ℕ) → (base ≤ j → j < base + 1024 → ⊥) → (j ≡ 3328 + k → ⊥) → get_or t' j 0 ≡ get_or t j 0
  pub size : length t' ≡ 3344
  pub all_taken : Taken base t' (map name_of xs ++ taken)

pub taken_kept : (base : ℕ) (t t' taken : List ℕ) → ((x : ℕ) → x < 1024 → get_or t' (base + x) 0 ≡ get_or t (base + x) 0) → Taken base t taken → Taken base t' taken
taken_kept base t t' taken e a x h = rw (e x h) (a x h)

module _ (s : List ℕ) (short : length s < 65536) (few : le16 s 2 ≤ 1024) (k base : ℕ) (at : Base k base) (plain : eqb k 5 ≡ false) (there : k < 9) (fits : le16 s (4 + 2 * k) ≤ 1024)
    {A : Type 0} (name_of : A → ℕ) (f : ℕ → ℕ → A) (wide : ℕ) (reads : ℕ → Read A)
    (nm : (own q : ℕ) → name_of (f own q) ≡ own)
    (agrees : (own q v : ℕ) → q ≤ length s → Agrees s (λ x r _. (x ≡ f own q) × (r ≡ q + wide)) (reads own (drop q s)) (after k s (cursor q 0 v))) where
  marked_before : (t : List ℕ) (p x : ℕ) → x < 1024 → get_or (set t (3328 + k) p) (base + x) 0 ≡ get_or t (base + x) 0
  marked_before t p x h = get_or-set_other t (3328 + k) (base + x) p 0 (λ z. absurd (let a = at.inside in omega arith))

  held : (p q : ℕ) (t t' taken : List ℕ) (xs : List A) → length t ≡ 3344 → EntriesHeld s k base name_of f wide 0 (le16 s (4 + 2 * k)) p taken (set t (3328 + k) p) xs q t' → ListHeld s k base name_of f wide p taken t xs q t'
  held p q t t' taken xs z h = record {
    count = h.count;
    start = h.kept (3328 + k) (λ a b. absurd (let c = at.inside in omega arith)) ∙ get_or-set_same t (3328 + k) p 0 (omega arith);
    element = λ j l. h.element j (rw h.count at l);
    marks = λ x l. h.marks x l ∙ ap (marked (stamp k) 0 (map name_of xs) x) (marked_before t p x l);
    kept = λ j o d. h.kept j o ∙ get_or-set_other t (3328 + k) j p 0 d;
    size = h.size ∙ length-set t (3328 + k) p ∙ z;
    all_taken = h.all_taken;
  }

  pub list-fill : (p v : ℕ) (t taken : List ℕ) → length t ≡ 3344 → Taken base t taken → p ≤ length s →
      Fills s (ListHeld s k base name_of f wide p taken t) (d.entries (le16 s 2) reads taken (le16 s (4 + 2 * k)) (drop p s)) (list s k (reading (cursor p 0 v) t))
  unfolding list
  list-fill p v t taken z a b =
      rw (place-fits s p short b)
      (fills_weaken s (EntriesHeld s k base name_of f wide 0 (le16 s (4 + 2 * k)) p taken (set t (3328 + k) p)) _ _ _
      (entries-fill s few k base at plain name_of f wide reads nm agrees (le16 s (4 + 2 * k)) 0 p v (set t (3328 + k) p) taken (omega arith) (rw length-set z) (taken_kept base t (set t (3328 + k) p) taken (marked_before t p) a) b)
      (λ xs q t' h. held p q t t' taken xs z h))
