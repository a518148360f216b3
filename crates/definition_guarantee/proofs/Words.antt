-- Words read back: an action list's words are read as the actions that were written, if each action's layout fits.
use Prim.Native.Nat.{ℕ, zero, suc, ◌+◌, ◌*◌, ◌/◌, ◌%◌, ◌^◌, ◌-◌, ◌≤◌, ◌<◌, min}
use mathlib.Core.Path.{◌≡◌, refl, sym, ap, subst}
use mathlib.Core.Bool.{Bool, true, false, ◌&&◌, not}
use mathlib.Core.List.{List, [], ◌∷◌, ◌++◌}
use mathlib.Core.Option.{Option, none, some}
use native.Mathlib.Omega.{arith}
use lib.Dec.{eqb, leb}
use lib.ListN.{length, get_elem?}
use lib.Seq.{take_at, drop_at}
use borrow.Author.Tests.{not-true}
use Rattle.prelude.specs.Base.{when◌then◌else◌, or_else, and_then, is_some, any, all}
use Rattle.definition.specs.Operations.{Operation, operation_number, among}
use Rattle.definition.specs.Value.{Kind, kind_number, Value, ActionKind, SemanticAction, operation_of}
use Rattle.definition.specs.ActionList.{or_none, value_words, input_words, action_kind_number, output_words, operation_word, filled, action_words, list_words}
use Rattle.definition.specs.Checker.{Shape, OperationShape, shapes, operation_numbered, op_numbered, action_kind_numbered, kinds, size_from, value_from, inputs_from, some_value, output_from, action_from, actions_from, same_count, counts_fit, shape_fits, option_fits, shape_of, number_fits, value_fits, layout_fits, base_fits, sizes_hold, labels_once, all_built, list_holds, check}
use Rattle.definition.proofs.EveryOperation.{alike}
use Rattle.definition.proofs.Openers.{base_opens, operations_opens}
use Rattle.std.proofs.lemmas.Bool.{eqb-true, ne_eqb, leb-true, ltb-true, le-leb, lt-ltb}
use Rattle.definition_guarantee.proofs.Tests.{clash, and_true, both, if_true, all_parts, all_at, first_from, or_true, then_some, same-list, any_from, chosen, some_same}

-- the second word of a value: its kind, offset and size

pub word_kind : (k off z : ℕ) → k < 8 → (k + 256 * off + 2 ^ 24 * z) % 256 ≡ k
word_kind k off z h = omega arith

pub word-offset : (k off z : ℕ) → k < 8 → off ≤ 65535 → (k + 256 * off + 2 ^ 24 * z) / 256 % 65536 ≡ off
word-offset k off z h j = omega arith

word_size : (k off z : ℕ) → k < 8 → off ≤ 65535 → (k + 256 * off + 2 ^ 24 * z) / 2 ^ 24 ≡ z
word_size k off z h j = omega arith

-- kinds and operations by their numbers

pub kind_small : (k : Kind) → kind_number k < 8
unfolding kind_number
kind_small Kind.InstStart = omega arith
kind_small Kind.InstNext = omega arith
kind_small Kind.Register = omega arith
kind_small Kind.Field = omega arith
kind_small Kind.Subtable = omega arith
kind_small Kind.SubtableRef = omega arith
kind_small Kind.PcodeTmp = omega arith
kind_small Kind.Constant = omega arith

kind_numbered : (k : Kind) → get_elem? kinds (kind_number k) ≡ some k
unfolding kind_number kinds
kind_numbered Kind.InstStart = refl
kind_numbered Kind.InstNext = refl
kind_numbered Kind.Register = refl
kind_numbered Kind.Field = refl
kind_numbered Kind.Subtable = refl
kind_numbered Kind.SubtableRef = refl
kind_numbered Kind.PcodeTmp = refl
kind_numbered Kind.Constant = refl

-- A subpiece alone is not read back.
read_back : (op : Operation) → operation_numbered (operation_number op) ≡ (when eqb (operation_number op) 66 then none else some op)
unfolding operation_numbered shapes operations_opens
read_back = alike (λ op. operation_numbered (operation_number op)) (λ op. when eqb (operation_number op) 66 then none else some op) refl

pub numbered : (op : Operation) → eqb (operation_number op) 66 ≡ false → operation_numbered (operation_number op) ≡ some op
numbered op h = rw h at (read_back op)

op_numbered_lem : (op : Operation) → eqb (operation_number op) 66 ≡ false → op_numbered (operation_number op) ≡ some (ActionKind.Op op)
unfolding op_numbered and_then
op_numbered_lem op h = rw (numbered op h)

-- a value's two words

size_back : (z : Option ℕ) → or_else 0 z < 65535 → size_from (or_none z) ≡ z
unfolding size_from or_none or_else
size_back none h = refl
size_back (some n) h = rw (ne_eqb n 65535 (omega arith))

pub size_word : (z : Option ℕ) → or_else 0 z < 65535 → or_none z ≤ 65535
unfolding or_none or_else
size_word none h = omega arith
size_word (some n) h = omega arith

-- a value that two words hold
pub record Fits (temporaries subtables : ℕ) (v : Value) : Type 0 where
  pub number : number_fits temporaries subtables v.kind v.number ≡ true
  pub offset : v.offset ≤ 65535
  pub size : or_else 0 v.size < 65535

pub fits_parts : {t sub : ℕ} {v : Value} → value_fits t sub v ≡ true → Fits t sub v
unfolding value_fits
fits_parts {t} {sub} {v} h =
    let k = and_true _ _ h in
    let j = and_true _ _ k.0 in
    record { number = j.0; offset = leb-true _ _ j.1; size = ltb-true _ _ k.1 }

pub parts_fit : {t sub : ℕ} {v : Value} → Fits t sub v → value_fits t sub v ≡ true
unfolding value_fits
parts_fit f = both (both f.number (le-leb _ _ f.offset)) (lt-ltb _ _ f.size)

-- the second word
abbrev packed : Value → ℕ
packed v = kind_number v.kind + 256 * v.offset + 2 ^ 24 * or_none v.size

value_back : (v : Value) → v.offset ≤ 65535 → or_else 0 v.size < 65535 → value_from v.number (packed v) ≡ some v
unfolding value_from and_then
value_back v h j =
    let k : ℕ = kind_number v.kind in
    let z : ℕ = or_none v.size in
    let few = kind_small v.kind in
    let small = size_word v.size j in
    rw (word_kind k v.offset z, word-offset k v.offset z, word_size k v.offset z, kind_numbered v.kind, size_back v.size j)

-- inputs

inputs_back : (t sub : ℕ) (vs : List Value) (m : ℕ) → 2 * length vs ≤ m → all (value_fits t sub) vs ≡ true
    → inputs_from (length vs) (filled m (input_words vs)) ≡ some vs
unfolding inputs_from input_words and_then value_words filled
inputs_back t sub [] m h f = refl
inputs_back t sub (v ∷ vs) zero h f = absurd (omega arith)
inputs_back t sub (v ∷ vs) (suc zero) h f = absurd (omega arith)
inputs_back t sub (v ∷ vs) (suc (suc m)) h f =
    let k = all_parts (value_fits t sub) v vs f in
    let g = fits_parts {t = t} {sub = sub} {v = v} k.0 in
    rw (value_back v g.offset g.size, inputs_back t sub vs m (omega arith) k.1)

-- an output

no_clash : (v : Value) → eqb (packed v) 255 ≡ false
no_clash v = let k = kind_small v.kind in ne_eqb (packed v) 255 (λ e. absurd (omega arith))

output_back : (v : Value) → v.offset ≤ 65535 → or_else 0 v.size < 65535 → (operation : Operation)
    → output_from (ActionKind.Op operation) v.number (packed v) ≡ some (some v)
unfolding output_from some_value and_then
output_back v h j operation = go (eqb v.number 0)
  where
    go : (b : Bool) → (when b && eqb (packed v) 255 then some none else some_value (value_from v.number (packed v))) ≡ some (some v)
    go true = rw (no_clash v, value_back v h j)
    go false = rw (value_back v h j)

value_there : (v : Value) → v.offset ≤ 65535 → or_else 0 v.size < 65535 → some_value (value_from v.number (packed v)) ≡ some (some v)
unfolding some_value and_then
value_there v h j = rw (value_back v h j)

-- so many words

pub filled_length : (n : ℕ) (ws : List ℕ) → length (filled n ws) ≡ n
unfolding filled
filled_length zero ws = refl
filled_length (suc n) [] = ap suc (filled_length n [])
filled_length (suc n) (w ∷ ws) = ap suc (filled_length n ws)

pub filled_append : (xs ys : List ℕ) (n m : ℕ) → n ≡ length xs + m → filled n (xs ++ ys) ≡ xs ++ filled m ys
unfolding filled
filled_append [] ys n m e = let d : n ≡ m = omega arith in rw d
filled_append (x ∷ xs) ys zero m e = absurd (omega arith)
filled_append (x ∷ xs) ys (suc n) m e = ap (λ (l : List ℕ). x ∷ l) (filled_append xs ys n m (omega arith))

pub action_length : (a : SemanticAction) → length (action_words a) ≡ 24
unfolding action_words
action_length a = filled_length 24 _

-- an action

small_count_lem : ℕ × Bool → Bool
small_count_lem c = leb c.0 8

row_small : all (λ (row : OperationShape). all small_count_lem row.shape.counts) shapes ≡ true
unfolding shapes base_opens small_count_lem
row_small = refl

abbrev SmallCounts : Shape → Type 0
SmallCounts shape = all small_count_lem shape.counts ≡ true

-- a subpiece alone has no shape
shaped_others : (t sub : ℕ) (op : Operation) → is_some (shape_of t sub (ActionKind.Op op)) ≡ not (eqb (operation_number op) 66)
unfolding shape_of shapes operations_opens
shaped_others t sub = alike (λ op. is_some (shape_of t sub (ActionKind.Op op))) (λ op. not (eqb (operation_number op) 66)) refl

pub subpiece_shapeless : (t sub : ℕ) (op : Operation) (shape : Shape) → shape_of t sub (ActionKind.Op op) ≡ some shape → (b : Bool)
    → eqb (operation_number op) 66 ≡ b → b ≡ false
unfolding is_some
subpiece_shapeless t sub op shape e b d = not-true b (sym (rw (e, d) at (shaped_others t sub op)))

wrong-output : {A : Type 0} (n m : ℕ) (here there : Bool) → (when here then there else not there) ≡ false
    → any (same_count (n, here)) ((m, there) ∷ []) ≡ true → A
unfolding any same_count
wrong-output n m here there d e = clash (and_true (eqb n m) _ (if_true _ true e).0).1 d

module _ (t sub : ℕ) where
  shape-small : (kind : ActionKind) (shape : Shape) → shape_of t sub kind ≡ some shape → SmallCounts shape
  unfolding shape_of base_opens small_count_lem
  shape-small (ActionKind.Op op) shape e =
      let f = first_from _ shapes shape e in
      let r : f.1.shape ≡ shape = chosen (among f.1.operations op) f.1.shape shape f.3 in
      rw (← r) (all_at (λ (row : OperationShape). all small_count_lem row.shape.counts) shapes f.0 f.1 row_small f.2)
  shape-small ActionKind.AddressOf shape e = subst SmallCounts (some_same e) refl
  shape-small ActionKind.LoadRegister shape e = subst SmallCounts (some_same e) refl
  shape-small ActionKind.StoreRegister shape e = subst SmallCounts (some_same e) refl
  shape-small ActionKind.DelaySlot shape e = subst SmallCounts (some_same e) refl
  shape-small ActionKind.Build shape e = subst SmallCounts (some_same e) refl

  -- what the shape says of an action
  pub record Shaped (a : SemanticAction) : Type 0 where
    pub shape : Shape
    pub is : shape_of t sub a.kind ≡ some shape
    pub counts : counts_fit shape a ≡ true
    pub number : a.number < shape.below

  pub record Laid (a : SemanticAction) : Type 0 where
    pub shaped : Shaped a
    pub inputs : all (value_fits t sub) a.inputs ≡ true
    pub output : option_fits (value_fits t sub) a.output ≡ true
    pub base : base_fits a.kind a.inputs ≡ true

  pub laid : (a : SemanticAction) → layout_fits t sub a ≡ true → Laid a
  unfolding layout_fits shape_fits
  laid a h =
      let k = and_true _ _ h in
      let j = and_true _ _ k.0 in
      let i = and_true _ _ j.0 in
      let s = then_some (shape_of t sub a.kind) _ true (or_true _ i.0) in
      let c = and_true _ _ (some_same s.2) in
      record {
        shaped = record { shape = s.0; is = s.1; counts = c.0; number = ltb-true _ _ c.1 };
        inputs = i.1;
        output = j.1;
        base = k.1;
      }

  pub laid_fits : (a : SemanticAction) → Laid a → layout_fits t sub a ≡ true
  unfolding layout_fits shape_fits or_else and_then
  laid_fits a l =
      let s = l.shaped in
      let q : or_else false (and_then (shape_of t sub a.kind) λ shape. some (shape_fits a shape)) ≡ true =
      rw s.is (both s.counts (lt-ltb _ _ s.number)) in
      both (both (both q l.inputs) l.output) l.base

  count_small : (a : SemanticAction) → Laid a → length a.inputs ≤ 8
  unfolding counts_fit same_count small_count_lem
  count_small a l =
      let s = l.shaped in
      let c = any_from _ s.shape.counts s.counts in
      let h = leb-true _ _ (all_at small_count_lem s.shape.counts c.0 c.1 (shape-small a.kind s.shape s.is) c.2) in
      let e : length a.inputs ≡ c.1.0 = eqb-true _ _ (and_true _ _ c.3).0 in
      rw e h

  not_subpiece : {number : ℕ} {inputs : List Value} {output : Option Value} (op : Operation)
      → Shaped (record { kind = ActionKind.Op op; number = number; inputs = inputs; output = output })
      → eqb (operation_number op) 66 ≡ false
  not_subpiece op s = let q = subpiece_shapeless t sub op s.shape s.is (eqb (operation_number op) 66) refl in q

  -- an action whose words are read back
  module _ (number : ℕ) (inputs : List Value) (few : length inputs ≤ 8) (fit : all (value_fits t sub) inputs ≡ true) where
    abbrev made : ActionKind → Option Value → SemanticAction
    made kind output = record { kind = kind; number = number; inputs = inputs; output = output }

    all_inputs : min (length inputs) 8 ≡ length inputs
    all_inputs = omega arith

    inputs_there : inputs_from (length inputs) (filled 18 (input_words inputs)) ≡ some inputs
    inputs_there = inputs_back t sub inputs 18 (omega arith) fit

    shape_counts : (b : Bool) {known shape : Shape} → some known ≡ some shape → any (same_count (length inputs, b)) shape.counts ≡ true
        → any (same_count (length inputs, b)) known.counts ≡ true
    shape_counts b e h = subst (λ (x : Shape). any (same_count (length inputs, b)) x.counts ≡ true) (sym (some_same e)) h

    back : (kind : ActionKind) (output : Option Value) → option_fits (value_fits t sub) output ≡ true → Shaped (made kind output)
        → action_from (action_words (made kind output)) ≡ some (made kind output)
    unfolding option_fits action_from action_words filled action_kind_number operation_word operation_of output_words value_words
        action_kind_numbered or_else and_then output_from shape_of counts_fit is_some
    back (ActionKind.Op op) (some v) o s =
        let f = fits_parts {t = t} {sub = sub} {v = v} o in
        rw (
          op_numbered_lem op (not_subpiece op s),
          output_back v f.offset f.size op,
          all_inputs,
          inputs_there,
        )
    back (ActionKind.Op op) none o s = rw (op_numbered_lem op (not_subpiece op s), all_inputs, inputs_there)
    back ActionKind.AddressOf (some v) o s =
        let f = fits_parts {t = t} {sub = sub} {v = v} o in
        rw (value_there v f.offset f.size, all_inputs, inputs_there)
    back ActionKind.AddressOf none o s = wrong-output (length inputs) 1 false true refl (shape_counts false s.is s.counts)
    back ActionKind.LoadRegister (some v) o s =
        let f = fits_parts {t = t} {sub = sub} {v = v} o in
        rw (value_there v f.offset f.size, all_inputs, inputs_there)
    back ActionKind.LoadRegister none o s = wrong-output (length inputs) 1 false true refl (shape_counts false s.is s.counts)
    back ActionKind.StoreRegister (some v) o s = wrong-output (length inputs) 2 true false refl (shape_counts true s.is s.counts)
    back ActionKind.StoreRegister none o s = rw (all_inputs, inputs_there)
    back ActionKind.DelaySlot (some v) o s = wrong-output (length inputs) 0 true false refl (shape_counts true s.is s.counts)
    back ActionKind.DelaySlot none o s = rw (all_inputs, inputs_there)
    back ActionKind.Build (some v) o s = wrong-output (length inputs) 0 true false refl (shape_counts true s.is s.counts)
    back ActionKind.Build none o s = rw (all_inputs, inputs_there)

  pub action_back : (a : SemanticAction) → layout_fits t sub a ≡ true → action_from (action_words a) ≡ some a
  action_back a h =
      let l = laid a h in
      back a.number a.inputs (count_small a l) l.inputs a.kind a.output l.output l.shaped

  -- a list of actions

  pub actions_back : (xs : List SemanticAction) (la : ℕ) → 24 * length xs ≤ la → all (layout_fits t sub) xs ≡ true
      → actions_from (length xs) (filled la (list_words xs)) ≡ some xs
  unfolding actions_from list_words and_then
  actions_back [] la h f = refl
  actions_back (a ∷ xs) la h f =
      let k = all_parts (layout_fits t sub) a xs f in
      let e : filled la (action_words a ++ list_words xs) ≡ action_words a ++ filled (la - 24) (list_words xs) =
      filled_append (action_words a) (list_words xs) la (la - 24) (rw action_length (omega arith)) in
      rw (
        e,
        take_at (action_words a) (filled (la - 24) (list_words xs)) 24 (action_length a),
        drop_at (action_words a) (filled (la - 24) (list_words xs)) 24 (action_length a),
        action_back a k.0,
        actions_back xs (la - 24) (omega arith) k.1,
      )

  -- the words of a list pass the checker if its actions meet the conditions on them
  pub words-pass : (xs : List SemanticAction) (la pointer_size : ℕ) → 24 * length xs ≤ la → all (layout_fits t sub) xs ≡ true
      → all (sizes_hold pointer_size) xs ≡ true
      → labels_once xs ≡ true → all_built xs sub ≡ true → check (filled la (list_words xs)) (length xs) t sub pointer_size ≡ true
  unfolding check list_holds or_else and_then
  words-pass xs la p h f z l b =
      rw (filled_length la (list_words xs), le-leb (24 * length xs) la h, actions_back xs la h f)
      (both (both (both (both (same-list (filled la (list_words xs))) f) z) l) b)
