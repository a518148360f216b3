-- An operand within its action's 24 words: it is read as the value that it is, and setting its size there sets the value's.
use Prim.Native.Nat.{ℕ, ◌+◌, ◌*◌, ◌/◌, ◌%◌, ◌^◌, ◌≤◌, ◌<◌}
use mathlib.Core.Path.{◌≡◌, refl, ◌∙◌, ap}
use mathlib.Core.List.{List, [], ◌∷◌, ◌++◌}
use mathlib.Core.Option.{Option, none, some}
use native.Mathlib.Omega.{arith}
use lib.ListN.{length, get_or, set, get_elem?, length-set}
use Rattle.prelude.specs.Base.{or_else}
use Rattle.definition.specs.Operations.{Operation}
use Rattle.definition.specs.Value.{kind_number, Value, truncate, SemanticAction, operation_of}
use Rattle.definition.specs.Sizes.{Operand, in0, in1, out, at, put}
use Rattle.definition.specs.ActionList.{or_none, value_words, input_words, action_kind_number, output_words, operation_word, filled, action_words}
use Rattle.list_values.specs.Values.{value_of, word, value_at, put_size}
use Rattle.list_refinement.specs.Encoding.{enc_v, packed}
use Rattle.list_refinement.proofs.Framing.{value_in, size_in}
use Rattle.definition_guarantee.proofs.Words.{kind_small, word_kind, word-offset}
pub use Rattle.definition_guarantee.proofs.Words.{filled_length}
pub use Rattle.definition_guarantee.proofs.Words.{action_length}
pub use Rattle.definition_guarantee.proofs.Words.{size_word}

-- values

word_top : (k off z : ℕ) → k < 8 → off ≤ 65535 → (k + 256 * off + 2 ^ 24 * z) / 16777216 ≡ z
word_top k off z h j = omega arith

word_size : (k off z : ℕ) → k < 8 → off ≤ 65535 → z ≤ 65535 → (k + 256 * off + 2 ^ 24 * z) / 16777216 % 65536 ≡ z
word_size k off z h j l = rw (word_top k off z h j) (omega arith)

-- the second word
pub word_is : (v : Value) → v.offset ≤ 65535 → or_else 0 v.size < 65535 → word (enc_v v) ≡ packed v
unfolding word packed
word_is v h j = let k = kind_small v.kind in let z = size_word v.size j in omega arith

-- a value's two words are read as the value
pub value_back : (v : Value) → v.offset ≤ 65535 → or_else 0 v.size < 65535 → value_of v.number (packed v) ≡ enc_v v
unfolding value_of packed
value_back v h j =
    let k = kind_small v.kind in
    let z = size_word v.size j in
    let p = word_kind (kind_number v.kind) v.offset (or_none v.size) k in
    let q = word-offset (kind_number v.kind) v.offset (or_none v.size) k h in
    let r = word_size (kind_number v.kind) v.offset (or_none v.size) k h z in
    λ i. record { kind = p i; number = v.number; offset = q i; size = r i }

-- a new size in the second word
pub packed_size : (v : Value) (n : ℕ) → v.offset ≤ 65535 → n < 65535 → packed v % 16777216 + n % 65536 * 16777216 ≡ packed (truncate n v)
unfolding packed or_none or_else
packed_size v n h j = let k = kind_small v.kind in omega arith

-- an action's words

unfoldable pub out_number : Option Value → ℕ
out_number (some v) = v.number
out_number none = 0

unfoldable pub out_word : Option Operation → Option Value → ℕ
out_word o (some v) = packed v
out_word (some op) none = 255
out_word none none = 0

output-words : (o : Option Operation) (y : Option Value) (rest : List ℕ) → output_words o y ++ rest ≡ out_number y ∷ out_word o y ∷ rest
unfolding output_words out_number out_word value_words packed
output-words o (some v) rest = refl
output-words (some op) none rest = refl
output-words none none rest = refl

pub words_of_lem : (x : SemanticAction) → action_words x
    ≡ action_kind_number x.kind ∷ operation_word (operation_of x.kind) ∷ x.number ∷ length x.inputs ∷ out_number x.output ∷ out_word
    (operation_of x.kind) x.output ∷ filled 18 (input_words x.inputs)
unfolding action_words filled
words_of_lem x = rw (output-words (operation_of x.kind) x.output (input_words x.inputs))

-- where an operand stands
abbrev pub operand_at : Operand → ℕ
operand_at in0 = 6
operand_at in1 = 8
operand_at out = 4

absent_value : {A : Type 0} {v : Value} → none ≡ some v → A
absent_value e = cc

module _ (v : Value) (h : v.offset ≤ 65535) where
  module _ (j : or_else 0 v.size < 65535) where
    first_read : (vs : List Value) → get_elem? vs 0 ≡ some v
        → value_of (get_or (filled 18 (input_words vs)) 0 0) (get_or (filled 18 (input_words vs)) 1 0) ≡ enc_v v
    unfolding input_words value_words filled packed
    first_read [] q = absent_value q
    first_read (u ∷ vs) q = let d : u ≡ v = cc in rw d (value_back v h j)

    second_read : (vs : List Value) → get_elem? vs 1 ≡ some v
        → value_of (get_or (filled 18 (input_words vs)) 2 0) (get_or (filled 18 (input_words vs)) 3 0) ≡ enc_v v
    unfolding input_words value_words filled packed
    second_read [] q = absent_value q
    second_read (t ∷ []) q = absent_value q
    second_read (t ∷ u ∷ vs) q = let d : u ≡ v = cc in rw d (value_back v h j)

  out_read : or_else 0 v.size < 65535 → (o : Option Operation) (y : Option Value) → y ≡ some v → value_of (out_number y) (out_word o y)
      ≡ enc_v v
  unfolding out_number out_word
  out_read j o none q = absent_value q
  out_read j o (some u) q = let d : u ≡ v = cc in rw d (value_back v h j)

  pub operand_read : or_else 0 v.size < 65535 → (p : Operand) (x : SemanticAction) → at p x ≡ some v
      → value_of (get_or (action_words x) (operand_at p) 0) (get_or (action_words x) (operand_at p + 1) 0) ≡ enc_v v
  unfolding at
  operand_read j in0 x q = rw (words_of_lem x) (first_read j x.inputs q)
  operand_read j in1 x q = rw (words_of_lem x) (second_read j x.inputs q)
  operand_read j out x q = rw (words_of_lem x) (out_read j (operation_of x.kind) x.output q)

  -- the second word of an operand with a new size
  abbrev resized : ℕ → ℕ → ℕ
  resized n w = w % 16777216 + n % 65536 * 16777216

  module _ (n : ℕ) (j : n < 65535) where
    first_sized : (a b c e f g : ℕ) (vs : List Value) → get_elem? vs 0 ≡ some v
        → set (a ∷ b ∷ c ∷ e ∷ f ∷ g ∷ filled 18 (input_words vs)) 7
        (resized n (get_or (a ∷ b ∷ c ∷ e ∷ f ∷ g ∷ filled 18 (input_words vs)) 7 0))
        ≡ a ∷ b ∷ c ∷ e ∷ f ∷ g ∷ filled 18 (input_words (set vs 0 (truncate n v)))
    unfolding input_words value_words filled packed
    first_sized a b c e f g [] q = absent_value q
    first_sized a b c e f g (u ∷ vs) q = let d : u ≡ v = cc in rw (d, packed_size v n h j)

    second_sized : (a b c e f g : ℕ) (vs : List Value) → get_elem? vs 1 ≡ some v
        → set (a ∷ b ∷ c ∷ e ∷ f ∷ g ∷ filled 18 (input_words vs)) 9
        (resized n (get_or (a ∷ b ∷ c ∷ e ∷ f ∷ g ∷ filled 18 (input_words vs)) 9 0))
        ≡ a ∷ b ∷ c ∷ e ∷ f ∷ g ∷ filled 18 (input_words (set vs 1 (truncate n v)))
    unfolding input_words value_words filled packed
    second_sized a b c e f g [] q = absent_value q
    second_sized a b c e f g (t ∷ []) q = absent_value q
    second_sized a b c e f g (t ∷ u ∷ vs) q = let d : u ≡ v = cc in rw (d, packed_size v n h j)

    out_sized : (a b c e : ℕ) (o : Option Operation) (y : Option Value) (rest : List ℕ) → y ≡ some v
        → set (a ∷ b ∷ c ∷ e ∷ out_number y ∷ out_word o y ∷ rest) 5 (resized n (out_word o y))
        ≡ a ∷ b ∷ c ∷ e ∷ out_number (some (truncate n v)) ∷ out_word o (some (truncate n v)) ∷ rest
    unfolding out_number out_word
    out_sized a b c e o none rest q = absent_value q
    out_sized a b c e o (some u) rest q = let d : u ≡ v = cc in rw (d, packed_size v n h j)

    pub operand-sized : (p : Operand) (x : SemanticAction) → at p x ≡ some v
        → set (action_words x) (operand_at p + 1) (resized n (get_or (action_words x) (operand_at p + 1) 0))
        ≡ action_words (put p (truncate n v) x)
    unfolding at put
    operand-sized in0 x q = rw (words_of_lem x, words_of_lem (put in0 (truncate n v) x), length-set x.inputs 0 (truncate n v))
        (first_sized _ _ _ _ _ _ x.inputs q)
    operand-sized in1 x q = rw (words_of_lem x, words_of_lem (put in1 (truncate n v) x), length-set x.inputs 1 (truncate n v))
        (second_sized _ _ _ _ _ _ x.inputs q)
    operand-sized out x q = rw (words_of_lem x, words_of_lem (put out (truncate n v) x))
        (out_sized _ _ _ _ (operation_of x.kind) x.output (filled 18 (input_words x.inputs)) q)

operand-inside : (p : Operand) → operand_at p + 1 < 24
operand-inside in0 = omega arith
operand-inside in1 = omega arith
operand-inside out = omega arith

-- the action's words within the list
module _ (pre post : List ℕ) (place : ℕ) (begins : length pre ≡ place) (p : Operand) (x : SemanticAction) (v : Value)
    (there : at p x ≡ some v) where
  inside : operand_at p + 1 < length (action_words x)
  inside = rw (action_length x) (operand-inside p)

  pub value_at_lem : v.offset ≤ 65535 → or_else 0 v.size < 65535 → value_at (pre ++ (action_words x ++ post)) place (operand_at p) ≡ enc_v v
  value_at_lem h j = value_in pre (action_words x) post place begins (operand_at p) inside ∙ operand_read v h j p x there

  pub put_size_lem : (n : ℕ) → v.offset ≤ 65535 → n < 65535 → put_size (pre ++ (action_words x ++ post)) place (operand_at p) n
      ≡ pre ++ (action_words (put p (truncate n v) x) ++ post)
  put_size_lem n h j = size_in pre (action_words x) post place begins (operand_at p) n inside
      ∙ ap (λ (l : List ℕ). pre ++ (l ++ post)) (operand-sized v h n j p x there)
