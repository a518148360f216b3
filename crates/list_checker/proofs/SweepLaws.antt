-- One law for each way out of the sweeps: a sweep is its three parts, and the sweeps together ask for every subtable.
use Prim.Native.Nat.{ℕ, zero, suc, ◌+◌, ◌-◌, ◌*◌, ◌/◌, ◌≤◌, ◌<◌}
use mathlib.Core.Path.{◌≡◌, refl, sym, ◌∙◌, ap}
use mathlib.Core.Bool.{Bool, true, false, ◌&&◌, ◌||◌, not}
use Rattle.std.proofs.Math.Bool.{and_assoc, and-true, or-false, or-true}
use Rattle.std.proofs.lemmas.Bool.{and_parts}
use mathlib.Core.List.{List, [], ◌∷◌}
use native.Mathlib.Omega.{arith}
use native.Mathlib.Nat.{add-zero}
use native.Mathlib.Numerals.{add-one}
use lib.ListN.{length, get_or, take, drop, set, replicate, length-set, length-drop, length-replicate, drop_of_length-le}
use lib.Seq.{drop-cons, get_or-set_same, get_or-set_other, take_all}
use lib.Dec.{eqb, leb, ltb}
use borrow.Author.Tests.{leb-true, leb-false, ltb-true, ltb-false, eqb-true, eqb-false, not-true, not-false}
use Rattle.std.specs.Simd.{first_chunks}
use Rattle.prelude.specs.Base.{when◌then◌else◌}
use Rattle.definition.specs.Checker.{check}
use Rattle.list_checker.specs.Action.{zeros, action_fit}
use Rattle.list_checker.specs.Sweep.{Noted, noted, note_label, note_build, all_marked, when_new, sweep, rows_fit, labels_new, built_after, builds_it, any_builds, all_built_by, list_fit}
use Rattle.list_checker.proofs.FitLaws.{first_few}
use Rattle.list_checker.proofs.AgreeList.{unmarked_at, check_agrees, check-short}

-- a sweep's parts
sweep_parts : (t s p base n : ℕ) (ws : List ℕ) (seen built : List Bool) → sweep t s p base (first_chunks 24 n ws) seen built ≡ (rows_fit t s p n ws && (labels_new n ws seen && all_marked (s - base) (built_after base n ws built)))
unfolding sweep rows_fit labels_new built_after when_new
sweep_parts t s p base zero ws seen built = refl
sweep_parts t s p base (suc n) ws seen built =
    go (λ next. sweep_parts t s p base n (drop 24 ws) next (note_build base (take 24 ws) built)) (note_label (take 24 ws) seen)
  where
    stop : (a r m : Bool) → (a && false) ≡ (a && r && (false && m))
    stop true true m = refl
    stop true false m = refl
    stop false r m = refl

    go : ((next : List Bool) → sweep t s p base (first_chunks 24 n (drop 24 ws)) next (note_build base (take 24 ws) built) ≡ (rows_fit t s p n (drop 24 ws) && (labels_new n (drop 24 ws) next && all_marked (s - base) (built_after base n (drop 24 ws) (note_build base (take 24 ws) built))))) →
        (x : Noted) → (action_fit t s p (take 24 ws) && when_new x (λ next. sweep t s p base (first_chunks 24 n (drop 24 ws)) next (note_build base (take 24 ws) built)))
        ≡ (action_fit t s p (take 24 ws) && rows_fit t s p n (drop 24 ws) && (when_new x (λ next. labels_new n (drop 24 ws) next) && all_marked (s - base) (built_after base n (drop 24 ws) (note_build base (take 24 ws) built))))
    go ih (noted true next) = rw (ih next) (sym (and_assoc (action_fit t s p (take 24 ws)) (rows_fit t s p n (drop 24 ws)) _))
    go ih (noted false next) = stop (action_fit t s p (take 24 ws)) (rows_fit t s p n (drop 24 ws)) (all_marked (s - base) (built_after base n (drop 24 ws) (note_build base (take 24 ws) built)))

-- what a table of subtables holds after the actions
note_at : (base : ℕ) (w : List ℕ) (built : List Bool) (j : ℕ) → j < length built → get_or (note_build base w built) j false ≡ (get_or built j false || builds_it (base + j) w)
unfolding note_build builds_it
note_at base w built j h = go (eqb (get_or w 0 0) 5) (leb base (get_or w 2 0)) refl (eqb (base + j) (get_or w 2 0)) refl
  where
    go : (k l : Bool) → leb base (get_or w 2 0) ≡ l → (b : Bool) → eqb (base + j) (get_or w 2 0) ≡ b →
        get_or (when k && l then set built (get_or w 2 0 - base) true else built) j false ≡ (get_or built j false || (k && b))
    go false l e b f = sym (or-false _)
    go true false e true f =
        let i : get_or w 2 0 < base = leb-false _ _ e in
        let z : base + j ≡ get_or w 2 0 = eqb-true _ _ f in
        absurd (omega arith)
    go true false e false f = sym (or-false _)
    go true true e true f =
        let i : base ≤ get_or w 2 0 = leb-true _ _ e in
        let y : base + j ≡ get_or w 2 0 = eqb-true _ _ f in
        let z : get_or w 2 0 - base ≡ j = omega arith in
        rw (z, get_or-set_same built j true false h) (sym (or-true (get_or built j false)))
    go true true e false f =
        let i : base ≤ get_or w 2 0 = leb-true _ _ e in
        let y : base + j ≡ get_or w 2 0 → ⊥ = eqb-false _ _ f in
        rw (get_or-set_other built (get_or w 2 0 - base) j true false (λ z. y (omega arith))) (sym (or-false (get_or built j false)))

note_length : (base : ℕ) (w : List ℕ) (built : List Bool) → length (note_build base w built) ≡ length built
unfolding note_build
note_length base w built = go (eqb (get_or w 0 0) 5 && leb base (get_or w 2 0))
  where
    go : (k : Bool) → length (when k then set built (get_or w 2 0 - base) true else built) ≡ length built
    go false = refl
    go true = length-set built (get_or w 2 0 - base) true

after_length : (base n : ℕ) (ws : List ℕ) (built : List Bool) → length (built_after base n ws built) ≡ length built
unfolding built_after
after_length base zero ws built = refl
after_length base (suc n) ws built = after_length base n (drop 24 ws) (note_build base (take 24 ws) built) ∙ note_length base (take 24 ws) built

marks_at : (base n : ℕ) (ws : List ℕ) (built : List Bool) (j : ℕ) → j < length built → get_or (built_after base n ws built) j false ≡ (get_or built j false || any_builds (base + j) n ws)
unfolding built_after any_builds
marks_at base zero ws built j h = go (get_or built j false)
  where
    go : (x : Bool) → x ≡ (x || false)
    go true = refl
    go false = refl
marks_at base (suc n) ws built j h =
    let l : length (note_build base (take 24 ws) built) ≡ length built = note_length base (take 24 ws) built in
    marks_at base n (drop 24 ws) (note_build base (take 24 ws) built) j (omega arith)
    ∙ rw (note_at base (take 24 ws) built j h) (go (get_or built j false) (builds_it (base + j) (take 24 ws)) (any_builds (base + j) n (drop 24 ws)))
  where
    go : (x b c : Bool) → ((x || b) || c) ≡ (x || (when b then true else c))
    go true b c = refl
    go false true c = refl
    go false false c = refl

-- one entry more is marked, and no more are than the table has
marked_last : (c : ℕ) (built : List Bool) → c < length built → all_marked (suc c) built ≡ (get_or built c false && all_marked c built)
marked_last c [] h = absurd (omega arith)
marked_last zero (b ∷ built) h = refl
marked_last (suc c) (b ∷ built) h = rw (marked_last c built (omega arith)) (go b (get_or built c false) (all_marked c built))
  where
    go : (x y z : Bool) → (x && (y && z)) ≡ (y && (x && z))
    go true y z = refl
    go false true z = refl
    go false false z = refl

marked_full : (c : ℕ) (built : List Bool) → length built ≤ c → all_marked c built ≡ all_marked (length built) built
marked_full zero [] h = refl
marked_full (suc c) [] h = refl
marked_full zero (b ∷ built) h = absurd (omega arith)
marked_full (suc c) (b ∷ built) h = ap (λ x. b && x) (marked_full c built (omega arith))

-- the marks of a sweep: so many more are built
marks_more : (base n c : ℕ) (ws : List ℕ) → c ≤ 256 → (all_marked c (built_after base n ws (replicate 256 false)) && all_built_by n ws base) ≡ all_built_by n ws (base + c)
unfolding all_built_by
marks_more base n zero ws h = rw add-zero
marks_more base n (suc c) ws h =
    let l : length (replicate {A = Bool} 256 false) ≡ 256 = length-replicate {A = Bool} 256 false in
    let k : length (built_after base n ws (replicate 256 false)) ≡ length (replicate {A = Bool} 256 false) = after_length base n ws (replicate 256 false) in
    let e : base + suc c ≡ suc (base + c) = omega arith in
    rw (e, marked_last c (built_after base n ws (replicate 256 false)) (omega arith), marks_at base n ws (replicate 256 false) c (omega arith), unmarked_at 256 c, ← marks_more base n c ws (omega arith))
    (go (any_builds (base + c) n ws) (all_marked c (built_after base n ws (replicate 256 false))) (all_built_by n ws base))
  where
    go : (a m b : Bool) → (a && m && b) ≡ (a && (m && b))
    go true m b = refl
    go false m b = refl

pub built_none : (n : ℕ) (ws : List ℕ) → all_built_by n ws 0 ≡ true
unfolding all_built_by
built_none n ws = refl

built_below : (n m c : ℕ) (ws : List ℕ) → all_built_by n ws (c + m) ≡ true → all_built_by n ws m ≡ true
unfolding all_built_by
built_below n m zero ws h = let z : 0 + m ≡ m = omega arith in rw z at h
built_below n m (suc c) ws h = let z : suc c + m ≡ suc (c + m) = omega arith in built_below n m c ws (and_parts (any_builds (c + m) n ws) _ (rw z at h)).1

-- a sweep that is true with more than 256 subtables left, one that is false, and one that is true with no more

module _ (t s p base n : ℕ) (ws : List ℕ) (rows : List (List ℕ)) (r : Bool) (known : all_built_by n ws base ≡ true)
    (read : rows ≡ first_chunks 24 (length ws / 24) ws) (room : n ≤ length ws / 24) (swept : r ≡ sweep t s p base (take n rows) (replicate 256 false) (replicate 256 false)) where
  e : r ≡ sweep t s p base (first_chunks 24 n ws) (replicate 256 false) (replicate 256 false)
  e = rw (read, first_few 24 (length ws / 24) n ws room) at swept

  marks : (c : ℕ) → c ≤ 256 → all_marked c (built_after base n ws (replicate 256 false)) ≡ all_built_by n ws (base + c)
  marks c h = sym (and-true _) ∙ rw known at (marks_more base n c ws h)

  few : s - base ≤ 256 → r ≡ (rows_fit t s p n ws && (labels_new n ws (replicate 256 false) && all_built_by n ws (base + (s - base))))
  few h = rw (← marks (s - base) h) (e ∙ sweep_parts t s p base n ws (replicate 256 false) (replicate 256 false))

  many : 256 < s - base → r ≡ (rows_fit t s p n ws && (labels_new n ws (replicate 256 false) && all_built_by n ws (base + 256)))
  many h =
      let l : length (replicate {A = Bool} 256 false) ≡ 256 = length-replicate {A = Bool} 256 false in
      let k : length (built_after base n ws (replicate 256 false)) ≡ 256 = after_length base n ws (replicate 256 false) ∙ l in
      let f : all_marked (s - base) (built_after base n ws (replicate 256 false)) ≡ all_marked 256 (built_after base n ws (replicate 256 false)) = marked_full (s - base) (built_after base n ws (replicate 256 false)) (omega arith) ∙ ap (λ x. all_marked x (built_after base n ws (replicate 256 false))) k in
      rw (← marks 256 (omega arith), ← f) (e ∙ sweep_parts t s p base n ws (replicate 256 false) (replicate 256 false))

  pub sweep_goes : r ≡ true → 256 < s - base → all_built_by n ws (base + 256) ≡ true
  sweep_goes h l = (and_parts (labels_new n ws (replicate 256 false)) _ (and_parts (rows_fit t s p n ws) _ (sym (many l) ∙ h)).1).1

  pub sweep-last : r ≡ true → base ≤ s → s - base ≤ 256 → true ≡ list_fit t s p n ws
  unfolding list_fit
  sweep-last h i l = let d : base + (s - base) ≡ s = omega arith in sym h ∙ few l ∙ rw d

  pub sweep_stops : r ≡ false → base ≤ s → false ≡ list_fit t s p n ws
  unfolding list_fit
  sweep_stops h i = go (ltb 256 (s - base)) refl
    where
      fails : (x y b : Bool) → all_built_by n ws s ≡ b → 256 < s - base → (x && (y && all_built_by n ws (base + 256))) ≡ false → false ≡ (x && (y && b))
      fails false y b g l k = refl
      fails true false b g l k = refl
      fails true true false g l k = refl
      fails true true true g l k =
          let d : s ≡ (s - (base + 256)) + (base + 256) = omega arith in
          sym k ∙ built_below n (base + 256) (s - (base + 256)) ws (ap (λ x. all_built_by n ws x) (sym d) ∙ g)

      go : (b : Bool) → ltb 256 (s - base) ≡ b → false ≡ (rows_fit t s p n ws && (labels_new n ws (replicate 256 false) && all_built_by n ws s))
      go true f = fails (rows_fit t s p n ws) (labels_new n ws (replicate 256 false)) (all_built_by n ws s) refl (ltb-true _ _ f) (sym (many (ltb-true _ _ f)) ∙ h)
      go false f = let d : base + (s - base) ≡ s = omega arith in sym h ∙ few (ltb-false _ _ f) ∙ rw d

-- a turn of the loop over the actions, and its end

module _ (t s p base i : ℕ) (rows : List (List ℕ)) (seen built : List Bool) where
  turn : i < length rows → (action_fit t s p (get_or rows i []) && when_new (note_label (get_or rows i []) seen) λ later. sweep t s p base (drop (i + 1) rows) later (note_build base (get_or rows i []) built)) ≡ sweep t s p base (drop i rows) seen built
  unfolding sweep
  turn h = rw (add-one, drop-cons rows i [] h)

  pub sweep_unfit : i < length rows → false ≡ action_fit t s p (get_or rows i []) → sweep t s p base (drop i rows) seen built ≡ false
  sweep_unfit h e = sym (rw (← e) at (turn h))

  pub sweep_again : (next : List Bool) → i < length rows → noted false next ≡ note_label (get_or rows i []) seen → sweep t s p base (drop i rows) seen built ≡ false
  unfolding when_new
  sweep_again next h e = sym (rw (← e) at (turn h)) ∙ no (action_fit t s p (get_or rows i []))
    where
      no : (a : Bool) → (a && false) ≡ false
      no true = refl
      no false = refl

  pub sweep_more : (next marked : List Bool) → i < length rows → true ≡ action_fit t s p (get_or rows i []) → noted true next ≡ note_label (get_or rows i []) seen → marked ≡ note_build base (get_or rows i []) built →
      sweep t s p base (drop i rows) seen built ≡ sweep t s p base (drop (i + 1) rows) next marked
  unfolding when_new
  sweep_more next marked h e f g = rw g (sym (rw (← e, ← f) at (turn h)))

  pub sweep-end : length rows ≤ i → sweep t s p base (drop i rows) seen built ≡ all_marked (s - base) built
  unfolding sweep
  sweep-end h = rw (drop_of_length-le rows h)

pub ruleset sweep_laws = (sweep_unfit, sweep_again, sweep_more, sweep-end)

-- the checker

pub check_room : (ws : List ℕ) (n t s p : ℕ) → length ws / 24 < n → false ≡ check ws n t s p
check_room ws n t s p h = sym (check-short ws n t s p (omega arith))

module _ (ws : List ℕ) (n t s p : ℕ) (z : Bool) (h : n ≤ length ws / 24) (e : z ≡ zeros (take (length ws - 24 * n) (drop (24 * n) ws))) where
  tail_zero : z ≡ zeros (drop (24 * n) ws)
  tail_zero = let l : length (drop (24 * n) ws) ≡ length ws - 24 * n = length-drop (24 * n) ws in e ∙ rw (take_all (length ws - 24 * n) (drop (24 * n) ws) (omega arith))

  pub check-tail : not z ≡ true → false ≡ check ws n t s p
  check-tail g = rw (check_agrees ws n t s p (omega arith), ← tail_zero, not-true z g)

  pub check-list : (r : Bool) → not z ≡ false → r ≡ list_fit t s p n ws → r ≡ check ws n t s p
  check-list r g f = rw (check_agrees ws n t s p (omega arith), ← tail_zero, not-false z g) f

pub ruleset check_laws = (check_room, check-tail, check-list, built_none, sweep_goes, sweep_stops, sweep-last)
