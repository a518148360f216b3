-- The list of actions as words: one of its actions between the others, and one more written behind them.
use Prim.Native.Nat.{ℕ, suc, ◌+◌, ◌*◌, ◌≤◌}
use mathlib.Core.Path.{◌≡◌, refl, sym, ◌∙◌, ap}
use mathlib.Core.List.{List, [], ◌∷◌, ◌++◌, append_assoc}
use mathlib.Core.Option.{Option, none, some}
use native.Mathlib.Omega.{arith}
use lib.ListN.{length, set, drop, length-append, length-drop}
use lib.Seq.{drop-drop, set_at}
use Rattle.definition.specs.Operations.{Operation}
use Rattle.definition.specs.Value.{Value, SemanticAction, operation_of}
use Rattle.definition.specs.Ast.{Section}
use Rattle.definition.specs.ActionList.{input_words, value_words, action_kind_number, operation_word, filled, action_words, list_words}
pub use Rattle.definition_guarantee.proofs.RightAccepted.{list_length}
use Rattle.list_values.specs.declared.value.Value.{Value as WordValue}
use Rattle.access.specs.Loops.{run}
use Rattle.list_values.specs.Values.{word, put_value, zero_words}
use Rattle.list_pushes.specs.Pushes.{write_operands, write_head, write}
use Rattle.list_refinement.specs.Encoding.{enc_v, packed, actions_in, Sound, Each, EachOption, SoundAction, first_of, second_of, output_of}
use Rattle.list_refinement.proofs.Operands.{word_is, words_of_lem, out_number, out_word}
use Rattle.list_refinement.proofs.Focus.{words_of}

pub list_append : (xs ys : List SemanticAction) → list_words (xs ++ ys) ≡ list_words xs ++ list_words ys
unfolding list_words
list_append [] ys = refl
list_append (x ∷ xs) ys = rw (list_append xs ys, append_assoc)

-- an action between others
module _ (front tail : List ℕ) (xs : List SemanticAction) where
  pub list_focus : (x : SemanticAction) (ys : List SemanticAction) → actions_in front tail (xs ++ (x ∷ ys))
      ≡ words_of (front ++ list_words xs) (list_words ys ++ drop (24 * length (xs ++ (x ∷ ys))) tail) x
  unfolding list_words
  list_focus x ys = rw (list_append xs (x ∷ ys)) (simp append_assoc)

  -- the words behind it do not depend on it
  pub list_between : (x : SemanticAction) (ys : List SemanticAction) → actions_in front tail (xs ++ (x ∷ ys))
      ≡ words_of (front ++ list_words xs) (list_words ys ++ drop (24 * (length xs + suc (length ys))) tail) x
  list_between x ys = rw (list_focus x ys, length-append xs (x ∷ ys))

  pub focus_at : (base : ℕ) → length front ≡ base → length (front ++ list_words xs) ≡ base + 24 * length xs
  focus_at base h = length-append front (list_words xs) ∙ omega (arith, list_length xs)

-- writing one word after another

unfoldable pub fill : List ℕ → ℕ → ℕ → List ℕ → List ℕ
fill a at k [] = a
fill a at k (v ∷ vs) = fill (set a (at + k) v) at (suc k) vs

pub fill_is : (vs p rest : List ℕ) (at k : ℕ) → length p ≡ at + k → length vs ≤ length rest → fill (p ++ rest) at k vs
    ≡ p ++ (vs ++ drop (length vs) rest)
unfolding fill
fill_is [] p rest at k e h = refl
fill_is (v ∷ vs) p [] at k e h = absurd (omega arith)
fill_is (v ∷ vs) p (r ∷ rest) at k e h =
    let q : set (p ++ (r ∷ rest)) (at + k) v ≡ (p ++ (v ∷ [])) ++ rest = set_at p r rest v (at + k) e
    ∙ sym (append_assoc p (v ∷ []) rest) in
    rw q (fill_is vs (p ++ (v ∷ [])) rest at (suc k) (length-append p (v ∷ []) ∙ omega arith) (omega arith)
    ∙ append_assoc p (v ∷ []) (vs ++ drop (length vs) rest))

-- the words of an action with at most two inputs
abbrev written : ℕ → ℕ → ℕ → ℕ → WordValue → WordValue → WordValue → List ℕ
written kind op number count out x y =
    kind ∷ op ∷ number ∷ count ∷ out.number ∷ word out ∷ x.number ∷ word x ∷ y.number ∷ word y
    ∷ 0 ∷ 0 ∷ 0 ∷ 0 ∷ 0 ∷ 0 ∷ 0 ∷ 0 ∷ 0 ∷ 0 ∷ 0 ∷ 0 ∷ 0 ∷ 0 ∷ []

write_is : (p rest : List ℕ) (at kind op number count : ℕ) (out x y : WordValue) → length p ≡ at → 24 ≤ length rest
    → write (p ++ rest) at kind op number count out x y ≡ p ++ (written kind op number count out x y ++ drop 24 rest)
unfolding write zero_words write_operands write_head put_value run fill
write_is p rest at kind op number count out x y e h = fill_is (written kind op number count out x y) p rest at 0 (e ∙ omega arith) h

sound-word : {sec : Section} {n : ℕ} {v : Value} → Sound sec n v → word (enc_v v) ≡ packed v
sound-word {sec} {n} {v} f = word_is v f.offset f.size

inputs_written : (sec : Section) (n : ℕ) (vs : List Value) → length vs ≤ 2 → Each (Sound sec n) vs
    → (first_of vs).number ∷ word (first_of vs) ∷ (second_of vs).number ∷ word (second_of vs) ∷ 0 ∷ 0 ∷ 0 ∷ 0 ∷ 0 ∷ 0 ∷ 0 ∷ 0 ∷ 0 ∷ 0 ∷ 0 ∷ 0 ∷ 0
    ∷ 0 ∷ [] ≡ filled 18 (input_words vs)
unfolding first_of second_of filled input_words value_words word packed
inputs_written sec n [] h f = refl
inputs_written sec n (u ∷ []) h f = rw (sound-word f.0)
inputs_written sec n (u ∷ v ∷ []) h f = rw (sound-word f.0, sound-word f.1.0)
inputs_written sec n (u ∷ v ∷ w ∷ vs) h f = absurd (omega arith)

output_written : (sec : Section) (n : ℕ) (o : Option Operation) (y : Option Value) → EachOption (Sound sec n) y
    → ((output_of o y).number ≡ out_number y) × (word (output_of o y) ≡ out_word o y)
unfolding output_of out_number out_word
output_written sec n o (some v) f = (refl, sound-word f)
output_written sec n (some op) none f = (refl, unfold word in refl)
output_written sec n none none f = (refl, unfold word in refl)

action_written : (sec : Section) (n : ℕ) (x : SemanticAction) → length x.inputs ≤ 2 → SoundAction sec n x
    → written (action_kind_number x.kind) (operation_word (operation_of x.kind)) x.number (length x.inputs)
    (output_of (operation_of x.kind) x.output) (first_of x.inputs) (second_of x.inputs) ≡ action_words x
action_written sec n x h f =
    let o = output_written sec n (operation_of x.kind) x.output f.output in
    rw (words_of_lem x, ← inputs_written sec n x.inputs h f.inputs, o.1, o.0)

-- one more action
pub write-action : (sec : Section) (n : ℕ) (front tail : List ℕ) (xs : List SemanticAction) (x : SemanticAction) (base : ℕ) → length front
    ≡ base → 24 * length xs + 24 ≤ length tail → length x.inputs ≤ 2 → SoundAction sec n x
    → write (actions_in front tail xs) (base + 24 * length xs) (action_kind_number x.kind) (operation_word (operation_of x.kind))
    x.number (length x.inputs) (output_of (operation_of x.kind) x.output) (first_of x.inputs) (second_of x.inputs)
    ≡ actions_in front tail (xs ++ (x ∷ []))
unfolding list_words
write-action sec n front tail xs x base e h few f =
    let c : length (xs ++ (x ∷ [])) ≡ length xs + 1 = length-append xs (x ∷ []) in
    let q : 24 * (length xs + 1) ≡ 24 * length xs + 24 = omega arith in
    rw (← append_assoc front (list_words xs) (drop (24 * length xs) tail))
    (write_is (front ++ list_words xs) (drop (24 * length xs) tail) (base + 24 * length xs) _ _ _ _ _ _ _ (focus_at front tail xs base e)
    (rw (length-drop (24 * length xs) tail) (omega arith))
    ∙ ap (λ (l : List ℕ). (front ++ list_words xs) ++ (l ++ drop 24 (drop (24 * length xs) tail))) (action_written sec n x few f)
    ∙ rw (drop-drop 24 (24 * length xs) tail, list_focus front tail xs x [], c, q))
