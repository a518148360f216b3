-- The list in its final order: the implicit Builds in front, the actions moved down behind them, and zeros.
use Prim.Native.Nat.{ℕ, zero, suc, ◌+◌, ◌-◌, ◌*◌, ◌%◌, ◌^◌, ◌≤◌, ◌<◌}
use mathlib.Core.Path.{◌≡◌, refl, sym, ◌∙◌, ap, subst}
use mathlib.Core.Logic.{◌≢◌}
use mathlib.Core.Bool.{Bool, true, false}
use mathlib.Core.List.{List, [], ◌∷◌, ◌++◌, append_assoc, append-nil}
use mathlib.Core.Option.{none}
use native.Mathlib.Omega.{arith}
use lib.ListN.{length, get_or, set, drop, replicate, length-append, length-set, length-drop, length-replicate, get_or-replicate, drop_of_length-le}
use lib.Seq.{get_or-set_same, get_or-set_other, get_or_at, set_at, take_at, drop-append-le, drop-drop}
use lib.Dec.{eqb}
use borrow.Author.Tests.{eqb-true, eqb-false}
use Rattle.prelude.specs.Base as definition
use Rattle.prelude.specs.Base.{any, when◌then◌else◌}
use Rattle.definition.specs.Value.{ActionKind, SemanticAction, operation_of}
use Rattle.definition.specs.End as d
use Rattle.definition.specs.End.{is_build, builds}
use Rattle.definition.specs.ActionList.{input_words, action_kind_number, operation_word, filled, action_words, list_words}
use Rattle.definition.proofs.Openers.{base_opens}
use Rattle.definition_guarantee.proofs.RightAccepted.{zeros as filled-zeros}
use Rattle.list_values.specs.Base.{Listed, listed, then_l}
use Rattle.access.specs.Loops.{run}
use Rattle.list_values.specs.Values.{place, zero_words}
use Rattle.list_end.specs.End.{mark_build, mark_action, mark_built, write_build, implicit_build, implicit_builds, move_word, move_action, move_to, move_down, zero_from, assemble}
use Rattle.list_refinement.specs.Encoding.{actions_in}
use Rattle.list_refinement.proofs.Framing.{get_in, set_in}
use Rattle.list_refinement.proofs.Operands.{words_of_lem, out_number, out_word, action_length}
use Rattle.list_refinement.proofs.Focus.{words_of}
use Rattle.list_refinement.proofs.Lists.{list_length, list_append, list_between, focus_at, fill, fill_is}
use Rattle.list_refinement.proofs.Passes.{place_is}
use Rattle.list_refinement.proofs.Fixing.{filled_append}

-- which subtables are built

unfoldable mark_all : List SemanticAction → List Bool → List Bool
mark_all [] b = b
mark_all (x ∷ xs) b = mark_all xs (mark_build (action_kind_number x.kind) x.number b)

mark_length : (k n : ℕ) (b : List Bool) → length (mark_build k n b) ≡ length b
unfolding mark_build
mark_length k n b = go (eqb k 5)
  where
    go : (c : Bool) → length (when c then set b n true else b) ≡ length b
    go true = length-set b n true
    go false = refl

set_get : (b : List Bool) (n i : ℕ) → i < length b → get_or (set b n true) i false ≡ (when eqb i n then true else get_or b i false)
set_get b n i h = go (eqb i n) refl
  where
    go : (c : Bool) → eqb i n ≡ c → get_or (set b n true) i false ≡ (when c then true else get_or b i false)
    go true e = let q : i ≡ n = eqb-true i n e in rw (← q) (get_or-set_same b i true false h)
    go false e = get_or-set_other b n i true false (eqb-false i n e)

kind_get : (k : ActionKind) (n : ℕ) (b : List Bool) (i : ℕ) → i < length b → get_or (mark_build (action_kind_number k) n b) i false
    ≡ (when (when is_build k then eqb i n else false) then true else get_or b i false)
unfolding mark_build action_kind_number is_build
kind_get (ActionKind.Op op) n b i h = refl
kind_get ActionKind.AddressOf n b i h = refl
kind_get ActionKind.LoadRegister n b i h = refl
kind_get ActionKind.StoreRegister n b i h = refl
kind_get ActionKind.DelaySlot n b i h = refl
kind_get ActionKind.Build n b i h = set_get b n i h

same_if : (a b : Bool) → (when a then b else false) ≡ definition.when◌then◌else◌ a b false
unfolding base_opens
same_if true b = refl
same_if false b = refl

all_get : (xs : List SemanticAction) (b : List Bool) (i : ℕ) → i < length b → get_or (mark_all xs b) i false
    ≡ (when any (builds i) xs then true else get_or b i false)
unfolding mark_all any
all_get [] b i h = refl
all_get (x ∷ xs) b i h =
    all_get xs (mark_build (action_kind_number x.kind) x.number b) i (rw (mark_length (action_kind_number x.kind) x.number b) h)
    ∙ rw (kind_get x.kind x.number b i h) (unfold builds in rw (← same_if (is_build x.kind) (eqb i x.number))
    (go (when is_build x.kind then eqb i x.number else false) (any (builds i) xs)))
  where
    go : (p q : Bool) → (when q then true else (when p then true else get_or b i false)) ≡ (when definition.when◌then◌else◌ p true q then true else get_or b i false)
    go true true = unfold base_opens in refl
    go true false = unfold base_opens in refl
    go false true = unfold base_opens in refl
    go false false = unfold base_opens in refl

module _ (front tail : List ℕ) (base : ℕ) (begins : length front ≡ base) (low : base < 4096) where
  mark-one : (ps : List SemanticAction) (x : SemanticAction) (xs : List SemanticAction) (b : List Bool) → length ps < 700000000000000000
      → mark_action (actions_in front tail (ps ++ (x ∷ xs))) base (length ps) b ≡ mark_build (action_kind_number x.kind) x.number b
  unfolding mark_action
  mark-one ps x xs b h =
      let post : List ℕ = list_words xs ++ drop (24 * (length ps + suc (length xs))) tail in
      let w : (i : ℕ) → i < 24 → get_or (words_of (front ++ list_words ps) post x) (base + 24 * length ps + i) 0
      ≡ get_or (action_words x) i 0 = λ i h. get_in (front ++ list_words ps) (action_words x) post (base + 24 * length ps)
      (focus_at front tail ps base begins) i (rw (action_length x) h) in
      rw (place_is base (length ps) low h, list_between front tail ps x xs, w 0 (omega arith), w 2 (omega arith), words_of_lem x)

  mark_from : (xs ps : List SemanticAction) (b : List Bool) → length ps + length xs < 700000000000000000
      → run (length xs) (length ps) (mark_action (actions_in front tail (ps ++ xs)) base) b ≡ mark_all xs b
  unfolding run mark_all
  mark_from [] ps b h = refl
  mark_from (x ∷ xs) ps b h =
      let n : length (ps ++ (x ∷ [])) ≡ suc (length ps) = length-append ps (x ∷ []) ∙ omega arith in
      let i = mark_from xs (ps ++ (x ∷ [])) (mark_build (action_kind_number x.kind) x.number b) (rw n (omega arith)) in
      ap (run (length xs) (suc (length ps)) (mark_action (actions_in front tail (ps ++ (x ∷ xs))) base)) (mark-one ps x xs b (omega arith))
      ∙ (rw (n, append_assoc ps (x ∷ []) xs) at i)

  mark_is : (xs : List SemanticAction) (b : List Bool) → length xs < 700000000000000000
      → mark_built (actions_in front tail xs) base (length xs) b ≡ mark_all xs b
  unfolding mark_built
  mark_is xs b h = mark_from xs [] b (omega arith)

-- the implicit Builds

abbrev built : ℕ → SemanticAction
built i = record { kind = ActionKind.Build; number = i; inputs = []; output = none }

build-words : (i : ℕ) → 5 ∷ 0 ∷ i ∷ 0 ∷ 0 ∷ 0 ∷ 0 ∷ 0 ∷ 0 ∷ 0 ∷ 0 ∷ 0 ∷ 0 ∷ 0 ∷ 0 ∷ 0 ∷ 0 ∷ 0 ∷ 0 ∷ 0 ∷ 0 ∷ 0 ∷ 0 ∷ 0 ∷ []
    ≡ action_words (built i)
unfolding action_kind_number operation_word operation_of out_number out_word input_words filled
build-words i = rw (words_of_lem (built i))

zeros : List ℕ
zeros = 0 ∷ 0 ∷ 0 ∷ 0 ∷ 0 ∷ 0 ∷ 0 ∷ 0 ∷ 0 ∷ 0 ∷ 0 ∷ 0 ∷ 0 ∷ 0 ∷ 0 ∷ 0 ∷ 0 ∷ 0 ∷ 0 ∷ 0 ∷ 0 ∷ 0 ∷ 0 ∷ 0 ∷ []

zero_is : (p rest : List ℕ) (at : ℕ) → length p ≡ at → 24 ≤ length rest → zero_words (p ++ rest) at 0 ≡ p ++ (zeros ++ drop 24 rest)
unfolding zero_words run fill zeros
zero_is p rest at e h = fill_is zeros p rest at 0 (e ∙ omega arith) h

build_is : (p rest : List ℕ) (at i : ℕ) → length p ≡ at → 24 ≤ length rest → write_build (p ++ rest) at i
    ≡ p ++ (action_words (built i) ++ drop 24 rest)
unfolding write_build zeros
build_is p rest at i e h =
    rw (zero_is p rest at e h, ← build-words i) (ap (λ (l : List ℕ). set l (at + 2) i)
    (set_in p zeros (drop 24 rest) at e 0 5 (omega arith)) ∙ set_in p (set zeros 0 5) (drop 24 rest) at e 2 i (omega arith))

-- one more action in a list with nothing in front
more_in : (l : List ℕ) (bs : List SemanticAction) (x : SemanticAction) → actions_in [] l (bs ++ (x ∷ []))
    ≡ list_words bs ++ (action_words x ++ drop 24 (drop (24 * length bs) l))
unfolding list_words
more_in l bs x =
    let n : length (bs ++ (x ∷ [])) ≡ length bs + 1 = length-append bs (x ∷ []) in
    let q : 24 * (length bs + 1) ≡ 24 * length bs + 24 = omega arith in
    rw (list_append bs (x ∷ []), n, q, ← drop-drop 24 (24 * length bs) l) (simp append_assoc)

module _ (ys : List SemanticAction) (l : List ℕ) (marks : List Bool) (subtables : ℕ) (few : subtables ≤ 32) (room : 24 * subtables ≤ length l)
    (marked : (i : ℕ) → i < subtables → get_or marks i false ≡ (when any (builds i) ys then true else false)) where
  build-one : (bs : List SemanticAction) (i : ℕ) → length bs ≤ i → i < subtables → (b : Bool) → any (builds i) ys ≡ b
      → implicit_build marks i (listed (length bs) (actions_in [] l bs))
      ≡ (when b then listed (length bs) (actions_in [] l bs) else listed (length (bs ++ (built i ∷ [])))
      (actions_in [] l (bs ++ (built i ∷ []))))
  unfolding implicit_build then_l
  build-one bs i h j true e = let q : get_or marks i false ≡ true = marked i j ∙ rw e in rw q
  build-one bs i h j false e =
      let q : get_or marks i false ≡ false = marked i j ∙ rw e in
      let n : length (bs ++ (built i ∷ [])) ≡ length bs + 1 = length-append bs (built i ∷ []) in
      let c : (length bs + 1) % 2 ^ 64 ≡ length bs + 1 = omega arith in
      let p : place 0 (length bs) ≡ 24 * length bs = place_is 0 (length bs) (omega arith) (omega arith) ∙ omega arith in
      let w = (build_is (list_words bs) (drop (24 * length bs) l) (24 * length bs) i (list_length bs)
      (rw (length-drop (24 * length bs) l) (omega arith)) ∙ sym (more_in l bs (built i))) in
      rw (q, c, p) (λ k. listed (sym n k) (w k))

  builds_from : (n i : ℕ) (bs : List SemanticAction) → i + n ≡ subtables → length bs ≤ i
      → run n i (implicit_build marks) (listed (length bs) (actions_in [] l bs))
      ≡ listed (length (bs ++ d.implicit_builds ys i n)) (actions_in [] l (bs ++ d.implicit_builds ys i n))
  unfolding run d.implicit_builds
  builds_from zero i bs e h = rw (append-nil bs)
  builds_from (suc n) i bs e h = ap (run n (suc i) (implicit_build marks)) (build-one bs i h (omega arith) (any (builds i) ys) refl)
      ∙ go (any (builds i) ys) (builds_from n (suc i) bs (omega arith) (omega arith))
      (builds_from n (suc i) (bs ++ (built i ∷ [])) (omega arith) (rw (length-append bs (built i ∷ [])) (omega arith)))
    where
      rest : List SemanticAction
      rest = d.implicit_builds ys (suc i) n

      Held : List SemanticAction → Listed ℕ
      Held xs = listed (length xs) (actions_in [] l xs)

      go : (b : Bool) → run n (suc i) (implicit_build marks) (Held bs) ≡ Held (bs ++ rest)
          → run n (suc i) (implicit_build marks) (Held (bs ++ (built i ∷ []))) ≡ Held ((bs ++ (built i ∷ [])) ++ rest)
          → run n (suc i) (implicit_build marks) (when b then Held bs else Held (bs ++ (built i ∷ [])))
          ≡ Held (bs ++ definition.when◌then◌else◌ b rest (built i ∷ rest))
      go true p q = unfold base_opens in p
      go false p q = unfold base_opens in (rw (append_assoc bs (built i ∷ []) rest) at q)

-- moving down

-- a gap after so many words were moved in front of it
unfoldable shifted : List ℕ → List ℕ → List ℕ
shifted g [] = g
shifted [] (v ∷ ws) = []
shifted (y ∷ g) (v ∷ ws) = shifted (g ++ (v ∷ [])) ws

shifted_length : (ws g : List ℕ) → length (shifted g ws) ≡ length g
unfolding shifted
shifted_length [] g = refl
shifted_length (v ∷ ws) [] = refl
shifted_length (v ∷ ws) (y ∷ g) = shifted_length ws (g ++ (v ∷ [])) ∙ length-append g (v ∷ []) ∙ omega arith

move_word_lem : (p g u : List ℕ) (y v from to i : ℕ) → length p ≡ to + i → length p + suc (length g) ≡ from + i
    → move_word from to i (p ++ ((y ∷ g) ++ (v ∷ u))) ≡ (p ++ (v ∷ [])) ++ ((g ++ (v ∷ [])) ++ u)
unfolding move_word
move_word_lem p g u y v from to i e h =
    let a : get_or (p ++ (y ∷ (g ++ (v ∷ u)))) (from + i) 0
    ≡ v = rw (← append_assoc p (y ∷ g) (v ∷ u)) (get_or_at (p ++ (y ∷ g)) v u 0 (from + i) (length-append p (y ∷ g) ∙ h)) in
    rw (a, set_at p y (g ++ (v ∷ u)) v (to + i) e) (simp append_assoc)

move_words : (ws p g q : List ℕ) (from to i : ℕ) → length p ≡ to + i → length p + length g ≡ from + i → 0 < length g
    → run (length ws) i (move_word from to) (p ++ (g ++ (ws ++ q))) ≡ (p ++ ws) ++ (shifted g ws ++ q)
unfolding run shifted
move_words [] p g q from to i e h k = rw (append-nil p)
move_words (v ∷ ws) p [] q from to i e h k = absurd (omega arith)
move_words (v ∷ ws) p (y ∷ g) q from to i e h k =
    let a : length (p ++ (v ∷ [])) ≡ to + suc i = length-append p (v ∷ []) ∙ omega arith in
    let b : length (p ++ (v ∷ [])) + length (g ++ (v ∷ []))
    ≡ from + suc i = rw (length-append p (v ∷ []), length-append g (v ∷ [])) (omega arith) in
    ap (run (length ws) (suc i) (move_word from to)) (move_word_lem p g (ws ++ q) y v from to i e h)
    ∙ move_words ws (p ++ (v ∷ [])) (g ++ (v ∷ [])) q from to (suc i) a b (rw (length-append g (v ∷ [])) (omega arith))
    ∙ rw (append_assoc p (v ∷ []) ws)

move_action_lem : (x : SemanticAction) (p g q : List ℕ) (from to : ℕ) → length p ≡ to → length p + length g ≡ from → 0 < length g
    → move_action (p ++ (g ++ (action_words x ++ q))) from to ≡ (p ++ action_words x) ++ (shifted g (action_words x) ++ q)
unfolding move_action
move_action_lem x p g q from to e h k = subst (λ (n : ℕ). run n 0 (move_word from to) (p ++ (g ++ (action_words x ++ q)))
    ≡ (p ++ action_words x) ++ (shifted g (action_words x) ++ q)) (action_length x)
    (move_words (action_words x) p g q from to 0 (omega arith) (omega arith) k)

-- the gap after so many actions
unfoldable gap_after : List ℕ → List SemanticAction → List ℕ
gap_after g [] = g
gap_after g (x ∷ xs) = gap_after (shifted g (action_words x)) xs

gap_length : (xs : List SemanticAction) (g : List ℕ) → length (gap_after g xs) ≡ length g
unfolding gap_after
gap_length [] g = refl
gap_length (x ∷ xs) g = gap_length xs (shifted g (action_words x)) ∙ shifted_length (action_words x) g

move_from : (xs : List SemanticAction) (p g q : List ℕ) (base to i : ℕ) → base < 4096 → to < 4096 → i + length xs < 700000000000000000
    → length p ≡ to + 24 * i → length p + length g ≡ base + 24 * i → 0 < length g
    → run (length xs) i (move_to base to) (p ++ (g ++ (list_words xs ++ q))) ≡ (p ++ list_words xs) ++ (gap_after g xs ++ q)
unfolding run list_words gap_after move_to
move_from [] p g q base to i b c m e h k = rw (append-nil p)
move_from (x ∷ xs) p g q base to i b c m e h k =
    let n = action_length x in
    let a : length (p ++ action_words x) ≡ to + 24 * suc i = length-append p (action_words x) ∙ omega arith in
    let l : length (p ++ action_words x) + length (shifted g (action_words x))
    ≡ base + 24 * suc i = rw (shifted_length (action_words x) g) (omega arith) in
    let z : move_action (p ++ (g ++ ((action_words x ++ list_words xs) ++ q))) (place base i) (place to i)
    ≡ (p ++ action_words x) ++ (shifted g (action_words x) ++ (list_words xs ++ q)) =
    rw (place_is base i b (omega arith), place_is to i c (omega arith), append_assoc (action_words x) (list_words xs) q)
    (move_action_lem x p g (list_words xs ++ q) (base + 24 * i) (to + 24 * i) e h k) in
    ap (run (length xs) (suc i) (move_to base to)) z
    ∙ move_from xs (p ++ action_words x) (shifted g (action_words x)) q base to (suc i) b c (omega arith) a l
    (rw (shifted_length (action_words x) g) k)
    ∙ rw (append_assoc p (action_words x) (list_words xs))

-- zeros behind

filled_behind : (ws : List ℕ) (n m : ℕ) → n ≡ length ws + m → filled n ws ≡ ws ++ replicate m 0
filled_behind ws n m e = rw (← filled-zeros m, ← filled_append ws [] n m e, append-nil ws)

zero_behind : (ws rest : List ℕ) (from n : ℕ) → length ws ≡ from → length ws + length rest ≡ n → zero_from (ws ++ rest) from ≡ filled n ws
unfolding zero_from
zero_behind ws rest from n e h =
    let k : length (ws ++ rest) - from ≡ length rest = rw (length-append ws rest) (omega arith) in
    rw (take_at ws rest from e, k) (sym (filled_behind ws n (length rest) (omega arith)))

pub implicit_few : (ys : List SemanticAction) (n i : ℕ) → length (d.implicit_builds ys i n) ≤ n
unfolding d.implicit_builds
implicit_few ys zero i = omega arith
implicit_few ys (suc n) i = go (any (builds i) ys) (implicit_few ys n (suc i))
  where
    go : (b : Bool) → length (d.implicit_builds ys (suc i) n) ≤ n
        → length (definition.when◌then◌else◌ b (d.implicit_builds ys (suc i) n) (built i ∷ d.implicit_builds ys (suc i) n)) ≤ suc n
    go true h = unfold base_opens in omega arith
    go false h = unfold base_opens in omega arith

-- the Builds depend on what is built alone
pub implicit_same : (xs ys : List SemanticAction) → ((i : ℕ) → any (builds i) ys ≡ any (builds i) xs) → (n i : ℕ) → d.implicit_builds ys i n
    ≡ d.implicit_builds xs i n
unfolding d.implicit_builds
implicit_same xs ys h zero i = refl
implicit_same xs ys h (suc n) i = rw (h i, implicit_same xs ys h n (suc i))

apart_lengths : (m n : ℕ) → n ≤ m → ¬ (24 * m ≡ 24 * n) → 0 < 24 * m - 24 * n
apart_lengths m n h j = let k : m ≢ n = λ e. j (rw e) in omega arith

module _ (front tail : List ℕ) (subtables : ℕ) (few : subtables ≤ 32) (begins : length front ≡ 24 * subtables) (ys : List SemanticAction)
    (many : length ys < 600000000000000000) (fits : 24 * length ys ≤ length tail) where
  abbrev before : List SemanticAction
  before = d.implicit_builds ys 0 subtables

  abbrev whole : List ℕ
  whole = actions_in front tail ys

  base_is : place 0 subtables ≡ 24 * subtables
  base_is = place_is 0 subtables (omega arith) (omega arith) ∙ omega arith

  whole_length : length whole ≡ 24 * subtables + length tail
  whole_length = length-append front (list_words ys ++ drop (24 * length ys) tail)
      ∙ rw (length-append (list_words ys) (drop (24 * length ys) tail), list_length ys, length-drop (24 * length ys) tail, begins)
      (omega arith)

  marks_are : (i : ℕ) → i < subtables → get_or (mark_built whole (24 * subtables) (length ys) (replicate 32 false)) i false
      ≡ (when any (builds i) ys then true else false)
  marks_are i h =
      rw (mark_is front tail (24 * subtables) begins (omega arith) ys (replicate 32 false) (omega arith))
      (all_get ys (replicate 32 false) i (rw (length-replicate {A = Bool} 32 false) (omega arith))
      ∙ rw (get_or-replicate {A = Bool} 32 i false false (omega arith)))

  builds_are : implicit_builds whole (mark_built whole (24 * subtables) (length ys) (replicate 32 false)) subtables
      ≡ listed (length before) (actions_in [] whole before)
  unfolding implicit_builds list_words
  builds_are = builds_from ys whole (mark_built whole (24 * subtables) (length ys) (replicate 32 false)) subtables few
      (rw whole_length (omega arith)) marks_are subtables 0 [] (omega arith) (omega arith)

  abbrev gap : List ℕ
  gap = drop (24 * length before) front

  apart : actions_in [] whole before ≡ list_words before ++ (gap ++ (list_words ys ++ drop (24 * length ys) tail))
  apart = let k = implicit_few ys subtables 0 in rw (drop-append-le (24 * length before) front (list_words ys ++ drop (24 * length ys) tail)
      (omega arith))

  moved_is : (b : Bool) → eqb (24 * subtables) (24 * length before) ≡ b
      → (g : List ℕ) × (length g ≡ length gap)
      × ((when b then actions_in [] whole before else run (length ys) 0 (move_to (24 * subtables) (24 * length before))
      (actions_in [] whole before)) ≡ (list_words before ++ list_words ys) ++ (g ++ drop (24 * length ys) tail))
  moved_is true e =
      let k : 24 * subtables ≡ 24 * length before = eqb-true (24 * subtables) (24 * length before) e in
      let q : gap ≡ [] = drop_of_length-le front {i = 24 * length before} (omega arith) in
      (gap, refl, rw (apart, q) (sym (append_assoc (list_words before) (list_words ys) (drop (24 * length ys) tail))))
  moved_is false e =
      let k = implicit_few ys subtables 0 in
      let j : ¬ (24 * subtables ≡ 24 * length before) = eqb-false (24 * subtables) (24 * length before) e in
      let l : length gap ≡ 24 * subtables - 24 * length before = length-drop (24 * length before) front ∙ rw begins in
      let n = list_length before in
      let c : 0 < length gap = rw l (apart_lengths subtables (length before) k j) in (
        gap_after gap ys,
        gap_length ys gap,
        rw apart (move_from ys (list_words before) gap (drop (24 * length ys) tail) (24 * subtables)
            (24 * length before) 0 (omega arith) (omega arith) (omega arith) (omega arith) (omega arith) c),
      )

  -- The list in its final order, and how many actions it has.
  pub assemble_is : assemble whole subtables (length ys)
      ≡ listed (length (before ++ ys)) (filled (length front + length tail) (list_words (before ++ ys)))
  unfolding assemble then_l move_down
  assemble_is =
      let k = implicit_few ys subtables 0 in
      let p : place 0 (length before) ≡ 24 * length before = place_is 0 (length before) (omega arith) (omega arith) ∙ omega arith in
      let m = moved_is (eqb (24 * subtables) (24 * length before)) refl in
      let c : (length before + length ys) % 2 ^ 64 ≡ length before + length ys = omega arith in
      let o : place 0 (length before + length ys) ≡ 24 * (length before + length ys) = place_is 0 (length before + length ys) (omega arith)
      (omega arith) ∙ omega arith in
      let n : length (list_words before ++ list_words ys) ≡ 24 * (length before + length ys) = length-append (list_words before) (list_words ys)
      ∙ omega (arith, list_length before, list_length ys) in
      let g : length m.0 ≡ 24 * subtables - 24 * length before = m.1 ∙ length-drop (24 * length before) front ∙ rw begins in
      let r : length (m.0 ++ drop (24 * length ys) tail)
      ≡ length m.0 + (length tail - 24 * length ys) = length-append m.0 (drop (24 * length ys) tail)
      ∙ rw (length-drop (24 * length ys) tail) in
      let z = zero_behind (list_words before ++ list_words ys) (m.0 ++ drop (24 * length ys) tail) (24 * (length before + length ys))
      (length front + length tail) n (omega arith) in
      rw (base_is, builds_are, p, m.2, c, o, z, list_append before ys, length-append before ys)

  -- The same, with the Builds that the definition finds missing in the list before it was finished.
  pub assembled_is : (xs : List SemanticAction) → ((i : ℕ) → any (builds i) ys ≡ any (builds i) xs)
      → assemble whole subtables (length ys)
      ≡ listed (length (d.implicit_builds xs 0 subtables ++ ys)) (filled (length front + length tail) (list_words (d.implicit_builds xs 0 subtables ++ ys)))
  assembled_is xs same = rw (← implicit_same xs ys same subtables 0) assemble_is
