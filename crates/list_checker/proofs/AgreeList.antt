-- The whole list: the definition's checker is the checker of the words.
use Prim.Native.Nat.{ℕ, zero, suc, ◌+◌, ◌-◌, ◌*◌, ◌≤◌, ◌<◌, min}
use mathlib.Core.Path.{◌≡◌, refl, sym, ◌∙◌, ap}
use mathlib.Core.Bool.{Bool, true, false, ◌&&◌, ◌||◌, not}
use Rattle.std.proofs.lemmas.Bool.Decides.{nat_tests}
use Rattle.std.proofs.Math.Bool.{and_assoc, and-true, and-false}
use Rattle.std.proofs.lemmas.Bool.{and_parts}
use mathlib.Core.List.{List, [], ◌∷◌, ◌++◌}
use mathlib.Core.Option.{Option, none, some}
use native.Mathlib.Omega.{arith}
use lib.ListN.{length, get_or, take, drop, set, replicate, take-append-drop, length-drop, length-set, length-replicate}
use lib.Seq.{length-take-le, drop-drop, get_or-set_same, get_or-set_other}
use lib.Dec.{eqb, ltb}
use borrow.Author.Tests.{le-leb, lt-leb, ltb-true, eqb-true, eqb-false}
use Rattle.prelude.specs.Base.{when◌then◌else◌, or_else, and_then, any, all, same_numbers}
use Rattle.definition.specs.Operations.{operation_number}
use Rattle.definition.specs.Value.{Value, ActionKind, SemanticAction, operation_of}
use Rattle.definition.specs.ActionList.{action_kind_number, operation_word, filled, action_words, list_words, places_label}
use Rattle.definition.specs.End.{is_build, builds}
use Rattle.definition.specs.Checker.{inputs_from, output_from, action_kind_numbered, action_from, actions_from, layout_fits, sizes_hold, places, labels_once, all_built, list_holds, check}
use Rattle.list_checker.specs.Action.{zeros, value_fit, inputs_fit, row_of, row_fit, operation_fit, head_fit, output_there, action_fit}
use Rattle.list_checker.specs.Sweep as w
use Rattle.list_checker.specs.Sweep.{noted, note_label, when_new, rows_fit, labels_new, builds_it, any_builds, all_built_by, list_fit}
use Rattle.list_checker.proofs.AgreeValue.{same-zeros}
use Rattle.list_checker.proofs.AgreeKind.{operation_right, KindIs, kind_is}
use Rattle.list_checker.proofs.AgreeSizes.{if_and, eqb_comm}
use Rattle.list_checker.proofs.AgreeRow.{right, row_agrees}

-- One row of a list.

pub row_right : (t s p : ℕ) (ws : List ℕ) → length ws ≡ 24 → or_else false (and_then (action_from ws) λ a. some (right t s p ws a)) ≡ action_fit t s p ws
row_right t s p [] h = absurd (omega arith)
row_right t s p (a ∷ []) h = absurd (omega arith)
row_right t s p (a ∷ b ∷ []) h = absurd (omega arith)
row_right t s p (a ∷ b ∷ c ∷ []) h = absurd (omega arith)
row_right t s p (a ∷ b ∷ c ∷ d ∷ []) h = absurd (omega arith)
row_right t s p (a ∷ b ∷ c ∷ d ∷ e ∷ []) h = absurd (omega arith)
row_right t s p (a ∷ b ∷ c ∷ d ∷ e ∷ f ∷ []) h = absurd (omega arith)
row_right t s p (a ∷ b ∷ c ∷ d ∷ e ∷ f ∷ g ∷ []) h = absurd (omega arith)
row_right t s p (a ∷ b ∷ c ∷ d ∷ e ∷ f ∷ g ∷ i ∷ []) h = absurd (omega arith)
row_right t s p (a ∷ b ∷ c ∷ d ∷ e ∷ f ∷ g ∷ i ∷ j ∷ []) h = absurd (omega arith)
row_right t s p (a ∷ b ∷ c ∷ d ∷ e ∷ f ∷ g ∷ i ∷ j ∷ k ∷ r) h = row_agrees t s p b c d e f g i j k r (omega arith) a

-- what the conditions on the whole list look at
pub record Marked (ws : List ℕ) (a : SemanticAction) : Type 0 where
  pub number : a.number ≡ get_or ws 2 0
  pub label : places_label a ≡ w.places_label ws
  pub built : (i : ℕ) → builds i a ≡ builds_it i ws

marked_kind : (ws : List ℕ) (kind : ActionKind) (inputs : List Value) (output : Option Value) → KindIs (get_or ws 0 0) (get_or ws 1 0) kind → Marked ws (record { kind = kind; number = get_or ws 2 0; inputs = inputs; output = output })
unfolding places_label w.places_label builds builds_it is_build or_else and_then operation_of action_kind_number operation_word operation_right operation_number
marked_kind ws (ActionKind.Op o) inputs output q =
    let e : operation_number o ≡ get_or ws 1 0 = sym (eqb-true _ _ (q.right ∙ rw (← q.number))) in
    record { number = refl; label = rw (← q.number, e) (eqb_comm 62 (get_or ws 1 0)); built = λ i. rw (← q.number) }
marked_kind ws ActionKind.AddressOf inputs output q = record { number = refl; label = rw (← q.number); built = λ i. rw (← q.number) }
marked_kind ws ActionKind.LoadRegister inputs output q = record { number = refl; label = rw (← q.number); built = λ i. rw (← q.number) }
marked_kind ws ActionKind.StoreRegister inputs output q = record { number = refl; label = rw (← q.number); built = λ i. rw (← q.number) }
marked_kind ws ActionKind.DelaySlot inputs output q = record { number = refl; label = rw (← q.number); built = λ i. rw (← q.number) }
marked_kind ws ActionKind.Build inputs output q = record { number = refl; label = rw (← q.number); built = λ i. rw (← q.number) }

pub marked : (ws : List ℕ) (a : SemanticAction) → action_from ws ≡ some a → Marked ws a
unfolding action_from and_then
marked ws a e = go (action_kind_numbered (get_or ws 0 0) (get_or ws 1 0)) refl e
  where
    inner : (kind : ActionKind) → KindIs (get_or ws 0 0) (get_or ws 1 0) kind → (x : Option (Option Value)) (y : Option (List Value)) →
        and_then {B = SemanticAction} x (λ output. and_then {B = SemanticAction} y (λ inputs. some (record { kind = kind; number = get_or ws 2 0; inputs = inputs; output = output }))) ≡ some a → Marked ws a
    inner kind q none y e = cc
    inner kind q (some output) none e = cc
    inner kind q (some output) (some inputs) e =
        let z : ◌≡◌ {A = SemanticAction} (record { kind = kind; number = get_or ws 2 0; inputs = inputs; output = output }) a = cc in
        rw (← z) (marked_kind ws kind inputs output q)

    go : (x : Option ActionKind) → action_kind_numbered (get_or ws 0 0) (get_or ws 1 0) ≡ x →
        and_then {B = SemanticAction} x (λ kind. and_then {B = SemanticAction} (output_from kind (get_or ws 4 0) (get_or ws 5 0)) (λ output. and_then {B = SemanticAction} (inputs_from (min (get_or ws 3 0) 8) (drop 6 ws)) (λ inputs. some (record { kind = kind; number = get_or ws 2 0; inputs = inputs; output = output })))) ≡ some a → Marked ws a
    go none q e = cc
    go (some kind) q e = inner kind (kind_is _ _ kind q) (output_from kind (get_or ws 4 0) (get_or ws 5 0)) (inputs_from (min (get_or ws 3 0) 8) (drop 6 ws)) e

-- Rows read one after another.

pub data Reads : ℕ → List ℕ → List SemanticAction → Type 0 where
  end : {ws : List ℕ} → Reads zero ws []
  more : {n : ℕ} {ws : List ℕ} {a : SemanticAction} {rest : List SemanticAction} → action_from (take 24 ws) ≡ some a → Reads n (drop 24 ws) rest → Reads (suc n) ws (a ∷ rest)

reads : (n : ℕ) (ws : List ℕ) (found : List SemanticAction) → actions_from n ws ≡ some found → Reads n ws found
unfolding actions_from and_then
reads zero ws found e = let z : [] ≡ found = cc in rw (← z) end
reads (suc n) ws found e = go (λ rest q. reads n (drop 24 ws) rest q) (action_from (take 24 ws)) refl (actions_from n (drop 24 ws)) refl e
  where
    go : ((rest : List SemanticAction) → actions_from n (drop 24 ws) ≡ some rest → Reads n (drop 24 ws) rest) → (x : Option SemanticAction) → action_from (take 24 ws) ≡ x → (y : Option (List SemanticAction)) → actions_from n (drop 24 ws) ≡ y →
        and_then {B = List SemanticAction} x (λ a. and_then {B = List SemanticAction} y (λ rest. some (a ∷ rest))) ≡ some found → Reads (suc n) ws found
    go ih none p y q e = cc
    go ih (some a) p none q e = cc
    go ih (some a) p (some rest) q e = let z : (a ∷ rest) ≡ found = cc in rw (← z) (more p (ih rest q))

unread : (t s p n : ℕ) (ws : List ℕ) → 24 * n ≤ length ws → actions_from n ws ≡ none → rows_fit t s p n ws ≡ false
unfolding actions_from and_then rows_fit or_else
unread t s p zero ws h e = cc
unread t s p (suc n) ws h e =
    go (λ q. let l : length (drop 24 ws) ≡ length ws - 24 = length-drop 24 ws in unread t s p n (drop 24 ws) (omega arith) q)
    (row_right t s p (take 24 ws) (length-take-le 24 ws (omega arith))) (action_from (take 24 ws)) refl (actions_from n (drop 24 ws)) refl e
  where
    go : (actions_from n (drop 24 ws) ≡ none → rows_fit t s p n (drop 24 ws) ≡ false) → or_else false (and_then (action_from (take 24 ws)) λ a. some (right t s p (take 24 ws) a)) ≡ action_fit t s p (take 24 ws) →
        (x : Option SemanticAction) → action_from (take 24 ws) ≡ x → (y : Option (List SemanticAction)) → actions_from n (drop 24 ws) ≡ y →
        and_then {B = List SemanticAction} x (λ a. and_then {B = List SemanticAction} y (λ rest. some (a ∷ rest))) ≡ none → (action_fit t s p (take 24 ws) && rows_fit t s p n (drop 24 ws)) ≡ false
    go ih f none q y r e = rw (← f, q)
    go ih f (some a) q none r e = rw (ih r) (and-false (action_fit t s p (take 24 ws)))
    go ih f (some a) q (some rest) r e = cc

-- The same words.

same_append : (u v x y : List ℕ) → length u ≡ length x → same_numbers (u ++ v) (x ++ y) ≡ (same_numbers u x && same_numbers v y)
unfolding same_numbers
same_append [] v [] y h = refl
same_append [] v (b ∷ x) y h = absurd (omega arith)
same_append (a ∷ u) v [] y h = absurd (omega arith)
same_append (a ∷ u) v (b ∷ x) y h = rw (same_append u v x y (omega arith)) (go (eqb a b))
  where
    go : (t : Bool) → (when t then same_numbers u x && same_numbers v y else false) ≡ ((when t then same_numbers u x else false) && same_numbers v y)
    go true = refl
    go false = refl

filled_append : (xs ys : List ℕ) (n m : ℕ) → n ≡ length xs + m → filled n (xs ++ ys) ≡ xs ++ filled m ys
unfolding filled
filled_append [] ys n m e = let z : n ≡ m = omega arith in rw z
filled_append (x ∷ xs) ys zero m e = absurd (omega arith)
filled_append (x ∷ xs) ys (suc n) m e = ap (λ l. x ∷ l) (filled_append xs ys n m (omega arith))

filled_length : (n : ℕ) (ws : List ℕ) → length (filled n ws) ≡ n
unfolding filled
filled_length zero ws = refl
filled_length (suc n) [] = ap suc (filled_length n [])
filled_length (suc n) (w ∷ ws) = ap suc (filled_length n ws)

action_length : (a : SemanticAction) → length (action_words a) ≡ 24
unfolding action_words
action_length a = filled_length 24 _

same_rows : (ws rest : List ℕ) (a : SemanticAction) → 24 ≤ length ws →
    same_numbers ws (filled (length ws) (action_words a ++ rest)) ≡ (same_numbers (take 24 ws) (action_words a) && same_numbers (drop 24 ws) (filled (length (drop 24 ws)) rest))
same_rows ws rest a h =
    let l : length (drop 24 ws) ≡ length ws - 24 = length-drop 24 ws in
    let k : length (action_words a) ≡ 24 = action_length a in
    let i : length (take 24 ws) ≡ 24 = length-take-le 24 ws h in
    let e : filled (length ws) (action_words a ++ rest) ≡ action_words a ++ filled (length (drop 24 ws)) rest = filled_append (action_words a) rest (length ws) (length (drop 24 ws)) (omega arith) in
    ap (λ x. same_numbers ws x) e
    ∙ ap (λ x. same_numbers x (action_words a ++ filled (length (drop 24 ws)) rest)) (sym (take-append-drop 24 ws))
    ∙ same_append (take 24 ws) (drop 24 ws) (action_words a) (filled (length (drop 24 ws)) rest) (omega arith)

spread : (sa sr la lr za zr : Bool) → (sa && sr && (la && lr && (za && zr))) ≡ (sa && (la && za) && (sr && (lr && zr)))
spread sa sr la lr za zr = grind (arith, nat_tests)

rows_agree : (t s p n : ℕ) (ws : List ℕ) (found : List SemanticAction) → Reads n ws found → 24 * n ≤ length ws →
    (same_numbers ws (filled (length ws) (list_words found)) && (all (layout_fits t s) found && all (sizes_hold p) found)) ≡ (rows_fit t s p n ws && zeros (drop (24 * n) ws))
unfolding list_words all rows_fit right or_else and_then
rows_agree t s p zero ws (a ∷ rest) x4 h = elim x4 [ ]
rows_agree t s p (suc n) ws [] x4 h = elim x4 [ ]
rows_agree t s p zero ws [] end h = rw (same-zeros ws) (and-true (zeros ws))
rows_agree t s p (suc n) ws (a ∷ rest) (more e r) h =
    let l : length (drop 24 ws) ≡ length ws - 24 = length-drop 24 ws in
    let f : right t s p (take 24 ws) a ≡ action_fit t s p (take 24 ws) = rw e at (row_right t s p (take 24 ws) (length-take-le 24 ws (omega arith))) in
    let m : 24 + 24 * n ≡ 24 * suc n = omega arith in
    let d : drop (24 * n) (drop 24 ws) ≡ drop (24 * suc n) ws = drop-drop (24 * n) 24 ws ∙ ap (λ x. drop x ws) m in
    rw (same_rows ws (list_words rest) a (omega arith), if_and (layout_fits t s a) (all (layout_fits t s) rest), if_and (sizes_hold p a) (all (sizes_hold p) rest))
    (spread (same_numbers (take 24 ws) (action_words a)) (same_numbers (drop 24 ws) (filled (length (drop 24 ws)) (list_words rest))) (layout_fits t s a) (all (layout_fits t s) rest) (sizes_hold p a) (all (sizes_hold p) rest)
    ∙ rw (rows_agree t s p n (drop 24 ws) rest r (omega arith), d, f) (sym (and_assoc (action_fit t s p (take 24 ws)) (rows_fit t s p n (drop 24 ws)) (zeros (drop (24 * suc n) ws)))))

-- Labels.

unfoldable fresh : List SemanticAction → List Bool → Bool
fresh [] seen = true
fresh (a ∷ rest) seen = (when places_label a then not (get_or seen a.number false) else true) && fresh rest seen

unfoldable small : List SemanticAction → Bool
small [] = true
small (a ∷ rest) = (when places_label a then ltb a.number 256 else true) && small rest

swap : (a b c : Bool) → (a && (b && c)) ≡ (b && (a && c))
swap a b c = grind (arith, nat_tests)

fresh_set : (rest : List SemanticAction) (seen : List Bool) (m : ℕ) → m < length seen → fresh rest (set seen m true) ≡ (not (any (places m) rest) && fresh rest seen)
unfolding fresh any places
fresh_set [] seen m h = refl
fresh_set (a ∷ rest) seen m h = rw (fresh_set rest seen m h) (go (places_label a) (eqb m a.number) refl)
  where
    go : (l b : Bool) → eqb m a.number ≡ b →
        ((when l then not (get_or (set seen m true) a.number false) else true) && (not (any (places m) rest) && fresh rest seen))
        ≡ (not (when l && b then true else any (places m) rest) && ((when l then not (get_or seen a.number false) else true) && fresh rest seen))
    go false b e = refl
    go true true e = rw (← eqb-true m a.number e, get_or-set_same seen m true false h)
    go true false e =
        let d : m ≡ a.number → ⊥ = eqb-false m a.number e in
        rw (get_or-set_other seen m a.number true false (λ z. d (sym z))) (swap (not (get_or seen a.number false)) (not (any (places m) rest)) (fresh rest seen))

pub unmarked_at : (n m : ℕ) → ◌≡◌ {A = Bool} (get_or (replicate n false) m false) false
unmarked_at zero zero = refl
unmarked_at zero (suc m) = refl
unmarked_at (suc n) zero = refl
unmarked_at (suc n) (suc m) = unmarked_at n m

fresh_unmarked : (n : ℕ) (found : List SemanticAction) → fresh found (replicate n false) ≡ true
unfolding fresh
fresh_unmarked n [] = refl
fresh_unmarked n (a ∷ rest) = rw (unmarked_at n a.number, fresh_unmarked n rest) (go (places_label a))
  where
    go : (b : Bool) → ((when b then true else true) && true) ≡ true
    go true = refl
    go false = refl

labels-agree : (n : ℕ) (ws : List ℕ) (found : List SemanticAction) → Reads n ws found → small found ≡ true → (seen : List Bool) → length seen ≡ 256 → labels_new n ws seen ≡ (labels_once found && fresh found seen)
unfolding labels_new labels_once fresh small note_label when_new
labels-agree zero ws (a ∷ rest) x6 q seen h = elim x6 [ ]
labels-agree (suc n) ws [] x5 q seen h = elim x5 [ ]
labels-agree zero ws [] end q seen h = refl
labels-agree (suc n) ws (a ∷ rest) (more e r) q seen h =
    let m = marked (take 24 ws) a e in
    rw (← m.number, ← m.label)
    (go (λ s i. labels-agree n (drop 24 ws) rest r (and_parts (when places_label a then ltb a.number 256 else true) (small rest) q).1 s i) (places_label a) (not (get_or seen a.number false)) (and_parts (when places_label a then ltb a.number 256 else true) (small rest) q).0)
  where
    turn : (l n f : Bool) → (l && (n && f)) ≡ (n && l && f)
    turn true true f = refl
    turn true false f = refl
    turn false true f = refl
    turn false false f = refl

    go : ((s : List Bool) → length s ≡ 256 → labels_new n (drop 24 ws) s ≡ (labels_once rest && fresh rest s)) → (l b : Bool) → (when l then ltb a.number 256 else true) ≡ true →
        when_new (when l then noted b (set seen a.number true) else noted true seen) (λ next. labels_new n (drop 24 ws) next)
        ≡ (not (l && any (places a.number) rest) && labels_once rest && ((when l then b else true) && fresh rest seen))
    go ih false b k = ih seen h
    go ih true false k = sym (and-false (not (any (places a.number) rest) && labels_once rest))
    go ih true true k =
        let i : a.number < length seen = omega (arith, ltb-true a.number 256 k) in
        ih (set seen a.number true) (length-set seen a.number true ∙ h)
        ∙ rw (fresh_set rest seen a.number i) (turn (labels_once rest) (not (any (places a.number) rest)) (fresh rest seen))

-- a label that fits is below 256

label_head : (s p : ℕ) (b : Bool) (ws : List ℕ) → eqb (get_or ws 0 0) 0 ≡ true → get_or ws 1 0 ≡ 62 → head_fit s p b ws ≡ true → ltb (get_or ws 2 0) 256 ≡ true
unfolding head_fit operation_fit row_fit row_of
label_head s p b ws k o h = (and_parts (eqb (get_or ws 3 0) 0 && not b) _ (rw (k, o) at h)).1

label-below : (t s p : ℕ) (ws : List ℕ) → action_fit t s p ws ≡ true → w.places_label ws ≡ true → ltb (get_or ws 2 0) 256 ≡ true
unfolding action_fit w.places_label
label-below t s p ws h l =
    label_head s p (output_there ws) ws (and_parts (eqb (get_or ws 0 0) 0) _ l).0 (eqb-true _ _ (and_parts (eqb (get_or ws 0 0) 0) _ l).1) (and_parts ((not (output_there ws) || value_fit t s (eqb (get_or ws 0 0) 0) (get_or ws 4 0) (get_or ws 5 0)) && inputs_fit t s (eqb (get_or ws 0 0) 0) ws) _ h).1

labels-small : (t s p n : ℕ) (ws : List ℕ) (found : List SemanticAction) → Reads n ws found → rows_fit t s p n ws ≡ true → small found ≡ true
unfolding rows_fit small places_label
labels-small t s p zero ws (a ∷ rest) x4 h = elim x4 [ ]
labels-small t s p (suc n) ws [] x4 h = elim x4 [ ]
labels-small t s p zero ws [] end h = refl
labels-small t s p (suc n) ws (a ∷ rest) (more e r) h =
    let m = marked (take 24 ws) a e in
    let f = (and_parts (action_fit t s p (take 24 ws)) _ h).0 in
    rw (labels-small t s p n (drop 24 ws) rest r (and_parts (action_fit t s p (take 24 ws)) _ h).1, m.number)
    (go (λ l. label-below t s p (take 24 ws) f (sym m.label ∙ l)) (places_label a) refl)
  where
    go : (places_label a ≡ true → ltb (get_or (take 24 ws) 2 0) 256 ≡ true) → (b : Bool) → places_label a ≡ b → ((when b then ltb (get_or (take 24 ws) 2 0) 256 else true) && true) ≡ true
    go f true e = rw (f e)
    go f false e = refl

-- Builds.

any_builds_lem : (i n : ℕ) (ws : List ℕ) (found : List SemanticAction) → Reads n ws found → any (builds i) found ≡ any_builds i n ws
unfolding any any_builds
any_builds_lem i zero ws (a ∷ rest) x'' = elim x'' [ ]
any_builds_lem i (suc n) ws [] x3 = elim x3 [ ]
any_builds_lem i zero ws [] end = refl
any_builds_lem i (suc n) ws (a ∷ rest) (more e r) = rw ((marked (take 24 ws) a e).built i, any_builds_lem i n (drop 24 ws) rest r)

all_built_lem : (m n : ℕ) (ws : List ℕ) (found : List SemanticAction) → Reads n ws found → all_built found m ≡ all_built_by n ws m
unfolding all_built all_built_by
all_built_lem zero n ws found r = refl
all_built_lem (suc m) n ws found r = rw (any_builds_lem m n ws found r, all_built_lem m n ws found r)

-- The whole list.

arrange : (sb l z lab b r zs labw bw : Bool) → (sb && (l && z)) ≡ (r && zs) → (r ≡ true → lab ≡ labw) → b ≡ bw → (sb && l && z && lab && b) ≡ (zs && (r && (labw && bw)))
arrange sb l z lab b r zs labw bw h1 h2 h3 = grind (arith, nat_tests)

listed : (t s p n : ℕ) (ws : List ℕ) (found : List SemanticAction) → Reads n ws found → 24 * n ≤ length ws → list_holds ws t s p found ≡ (zeros (drop (24 * n) ws) && list_fit t s p n ws)
unfolding list_holds list_fit
listed t s p n ws found r h =
    arrange (same_numbers ws (filled (length ws) (list_words found))) (all (layout_fits t s) found) (all (sizes_hold p) found) (labels_once found) (all_built found s)
    (rows_fit t s p n ws) (zeros (drop (24 * n) ws)) (labels_new n ws (replicate 256 false)) (all_built_by n ws s)
    (rows_agree t s p n ws found r h)
    (λ e. sym (labels-agree n ws found r (labels-small t s p n ws found r e) (replicate 256 false) (length-replicate {A = Bool} 256 false) ∙ rw (fresh_unmarked 256 found) (and-true (labels_once found))))
    (all_built_lem s n ws found r)

-- THE THEOREM: where the actions fit into the list, the definition's checker is the checker of the words.
pub check_agrees : (ws : List ℕ) (n t s p : ℕ) → 24 * n ≤ length ws → check ws n t s p ≡ (zeros (drop (24 * n) ws) && list_fit t s p n ws)
unfolding check or_else and_then list_fit
check_agrees ws n t s p h = rw (le-leb (24 * n) (length ws) h) (go (actions_from n ws) refl)
  where
    go : (x : Option (List SemanticAction)) → actions_from n ws ≡ x → or_else false (and_then {B = Bool} x λ found. some (list_holds ws t s p found)) ≡ (zeros (drop (24 * n) ws) && list_fit t s p n ws)
    go none e = rw (unread t s p n ws h e) (sym (and-false (zeros (drop (24 * n) ws))))
    go (some found) e = listed t s p n ws found (reads n ws found e) h

-- and where they do not, it is false
pub check-short : (ws : List ℕ) (n t s p : ℕ) → length ws < 24 * n → check ws n t s p ≡ false
unfolding check
check-short ws n t s p h = rw (lt-leb (24 * n) (length ws) h)
