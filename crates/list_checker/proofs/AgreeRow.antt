-- One action: its words fit exactly if they are read as an action that is written as just these words, and whose layout and
-- sizes are right.
use Prim.Native.Nat.{ℕ, zero, suc, ◌/◌, ◌%◌, ◌≤◌, min}
use mathlib.Core.Path.{◌≡◌, refl, sym, ◌∙◌, ap}
use mathlib.Core.Bool.{Bool, true, false, ◌&&◌, ◌||◌, not}
use Rattle.std.proofs.lemmas.Bool.Decides.{nat_tests}
use Rattle.std.proofs.Math.Bool.{and-true, and-false}
use mathlib.Core.List.{List, ◌∷◌, ◌++◌}
use mathlib.Core.Option.{Option, none, some}
use native.Mathlib.Omega.{arith}
use Rattle.std.proofs.lemmas.Grind.{common_steps}
use lib.ListN.{length, get_or}
use lib.Dec.{eqb, leb, ltb}
use borrow.Author.Tests.{eq-eqb, eqb-true}
use Rattle.prelude.specs.Base.{when◌then◌else◌, or_else, and_then, is_some, all, same_numbers}
use Rattle.definition.specs.Sizes as sz
use Rattle.definition.specs.Operations.{Operation, operation_number}
use Rattle.definition.specs.Value.{Value, ActionKind, SemanticAction, operation_of}
use Rattle.definition.specs.ActionList.{value_words, input_words, action_kind_number, output_words, operation_word, filled, action_words}
use Rattle.definition.specs.Checker as d
use Rattle.definition.specs.Checker.{size_from, value_from, inputs_from, some_value, output_from, action_kind_numbered, action_from, same_count, counts_fit, shape_fits, plain_base, base_fits, option_fits, shape_of, value_fits, layout_fits, sizes_hold}
use Rattle.list_checker.specs.Action.{value_fit, values_fit, inputs_fit, has_output, row_of, row_fit, operation_fit, kind_fit, head_fit, output_there, action_fit}
use Rattle.list_checker.proofs.AgreeValue.{value_of, known, value_from_lem, value_fit_lem, value_sized, value_back, inputs_of, inputs_known, inputs_from_lem, inputs_length, inputs_fit_lem}
use Rattle.list_checker.proofs.AgreeKind.{operation_right, kind_is, NoKind, no_operation, no_kind, kind_none, shape_of_row, tabled, shaped, one-count}
use Rattle.list_checker.proofs.AgreeSizes.{inputs_sized, output_sized, output_of, if_and, below_one, inputs-sized, output-sized, values_sized, row_fit_lem}

-- no action has a kind from 6 on
head_none : (s p : ℕ) (b : Bool) (w : List ℕ) → 6 ≤ get_or w 0 0 → false ≡ head_fit s p b w
unfolding head_fit kind_fit
head_none s p b w h = grind (arith, common_steps)

-- The output: whether it is read, and whether its words fit, as the definition has it.

unfoldable output_read : ActionKind → ℕ → ℕ → Bool
output_read (ActionKind.Op operation) number word = not (eqb number 0) || not (eqb word 255)
output_read ActionKind.AddressOf number word = true
output_read ActionKind.LoadRegister number word = true
output_read ActionKind.StoreRegister number word = false
output_read ActionKind.DelaySlot number word = false
output_read ActionKind.Build number word = false

unfoldable output_fit : ℕ → ℕ → ℕ → Bool → ℕ → ℕ → Bool
output_fit temporaries subtables kind output number word =
    when output then value_fit temporaries subtables false number word else (when eqb kind 0 then true else eqb number 0 && eqb word 0)

unfoldable output_known : Bool → ℕ → Bool
output_known output word = when output then known word else true

value_output : (n x : ℕ) → some_value (value_from n x) ≡ (when known x then some (some (value_of n x)) else none)
unfolding some_value and_then
value_output n x = rw (value_from_lem n x) (go (known x))
  where
    go : (b : Bool) → and_then (when b then some (value_of n x) else none) (λ v. some (some v)) ≡ (when b then some (some (value_of n x)) else none)
    go true = refl
    go false = refl

output_from_lem : (kind : ActionKind) (n x : ℕ) →
    output_from kind n x ≡ (when output_known (output_read kind n x) x then some (output_of (output_read kind n x) n x) else none)
unfolding output_from output_read output_known output_of
output_from_lem (ActionKind.Op o) n x = rw (value_output n x) (go (eqb n 0) (eqb x 255) (known x))
  where
    go : (a b k : Bool) →
        (when a && b then some none else (when k then some (some (value_of n x)) else none))
        ≡ (when (when (not a || not b) then k else true) then some (when (not a || not b) then some (value_of n x) else none) else none)
    go true true k = refl
    go true false true = refl
    go true false false = refl
    go false b true = refl
    go false b false = refl
output_from_lem ActionKind.AddressOf n x = value_output n x
output_from_lem ActionKind.LoadRegister n x = value_output n x
output_from_lem ActionKind.StoreRegister n x = refl
output_from_lem ActionKind.DelaySlot n x = refl
output_from_lem ActionKind.Build n x = refl

-- the output is read, written as the same words, and fits; what follows is any
module _ (t s n x m : ℕ) (rest after : List ℕ) where
  with_output_lem :
      (known x && (same_numbers (n ∷ x ∷ rest) (filled (suc (suc m)) (value_words (value_of n x) ++ after)) && value_fits t s (value_of n x)))
      ≡ (value_fit t s false n x && same_numbers rest (filled m after))
  unfolding same_numbers filled
  with_output_lem = rw (← value_fit_lem t s n x) (go (known x) refl (value_fits t s (value_of n x)))
    where
      turn : (b f : Bool) → (b && f) ≡ (f && b)
      turn true true = refl
      turn true false = refl
      turn false true = refl
      turn false false = refl

      go : (k : Bool) → known x ≡ k → (f : Bool) →
          (k && (same_numbers (n ∷ x ∷ rest) (filled (suc (suc m)) (value_words (value_of n x) ++ after)) && f)) ≡ (k && f && same_numbers rest (filled m after))
      go false e f = refl
      go true e f = rw (value_back n x e, eq-eqb n n refl, eq-eqb x x refl) (turn (same_numbers rest (filled m after)) f)

  abbrev OutputFits : ActionKind → Bool → Type 0
  OutputFits kind b =
      (output_known b x && (same_numbers (n ∷ x ∷ rest) (filled (suc (suc m)) (output_words (operation_of kind) (output_of b n x) ++ after)) && option_fits (value_fits t s) (output_of b n x)))
      ≡ (output_fit t s (action_kind_number kind) b n x && same_numbers rest (filled m after))

  no_output_lem : (b : Bool) → (same_numbers (n ∷ x ∷ rest) (0 ∷ 0 ∷ filled m after) && true) ≡ (eqb n 0 && eqb x 0 && same_numbers rest (filled m after))
  unfolding same_numbers
  no_output_lem b = go (eqb n 0) (eqb x 0) (same_numbers rest (filled m after))
    where
      go : (a b c : Bool) → ((when a then (when b then c else false) else false) && true) ≡ (a && b && c)
      go true true true = refl
      go true true false = refl
      go true false c = refl
      go false b c = refl

  output_fit_lem : (kind : ActionKind) → OutputFits kind (output_read kind n x)
  unfolding output_read action_kind_number output_known output_of output_words output_fit operation_of option_fits filled same_numbers
  output_fit_lem (ActionKind.Op o) = go (eqb n 0) (eqb x 255) refl refl
    where
      go : (a c : Bool) → eqb n 0 ≡ a → eqb x 255 ≡ c → OutputFits (ActionKind.Op o) (not a || not c)
      go true true e f = rw (e, f) (and-true (same_numbers rest (filled m after)))
      go true false e f = with_output_lem
      go false c e f = with_output_lem
  output_fit_lem ActionKind.AddressOf = with_output_lem
  output_fit_lem ActionKind.LoadRegister = with_output_lem
  output_fit_lem ActionKind.StoreRegister = no_output_lem true
  output_fit_lem ActionKind.DelaySlot = no_output_lem true
  output_fit_lem ActionKind.Build = no_output_lem true

-- The base of an AddressOf.

plain-base : (n x : ℕ) → plain_base (value_of n x) ≡ (eqb (x / 16777216) 65535 && eqb (x / 256 % 65536) 0)
unfolding plain_base value_of size_from is_some
plain-base n x = grind (arith, nat_tests)

one-base : (x y : ℕ) (r : List ℕ) → all plain_base (inputs_of 1 (x ∷ y ∷ r)) ≡ (eqb (y / 16777216) 65535 && eqb (y / 256 % 65536) 0)
unfolding all inputs_of
one-base x y r = rw (plain-base x y) (if_and _ true ∙ and-true _)

base_word : (x : ℕ) → (eqb (x / 16777216) 65535 && eqb (x / 256 % 65536) 0) ≡ eqb (x / 256) 4294901760
base_word x = grind (arith, nat_tests)

-- The conditions, put in the words' order.

gather : (ok ik p c so h fi fo b z : Bool) →
    (ok && (ik && (p && (c && so) && (h && fi && fo && b && z)))) ≡ (p && (c && h) && (ok && (so && fo) && (ik && fi && (b && z))))
gather ok ik p c so h fi fo b z = grind (arith, nat_tests)

regroup : (o s i f z : Bool) → (o && s && (i && f && z)) ≡ (o && (i && (s && f) && z))
regroup o s i f z = grind (arith, nat_tests)

-- an operation: its shape and its steps make its row, and its values are sized
join : (h o i si so st r : Bool) → (si ≡ true → so ≡ true → (h && st) ≡ r) → (h && (o && (i && (si && so && st)))) ≡ (o && so && (i && si) && r)
join h o i si so st r f = grind (arith, nat_tests)

-- an action with an output that is no operation
plain : (a o i b : Bool) → (a && (o && (i && (b && true)))) ≡ (o && i && (a && b))
plain a o i b = grind (arith, nat_tests)

-- one without output, whose two words are 0
bare : (p e l a d i v : Bool) → (p && (e && true && l) && (a && d && (i && true))) ≡ ((not (not a || not d) || v) && i && (p && l && e && not (not a || not d)))
bare p e l a d i v = grind (arith, nat_tests)

to_eight : (n : ℕ) → eqb n (min n 8) ≡ leb n 8
to_eight n = grind (arith, nat_tests)

chain : (a b c d x : Bool) → a ≡ true → c ≡ true → (when a then (when b then (when c then (when d then x else false) else false) else false) else false) ≡ (b && (d && x))
chain a b c d x e f = grind (arith, nat_tests)

-- The action that a row is read as, of a kind that its first two words say.

-- written as just these words, and right
unfoldable pub right : ℕ → ℕ → ℕ → List ℕ → SemanticAction → Bool
right temporaries subtables pointer ws a = same_numbers ws (action_words a) && (layout_fits temporaries subtables a && sizes_hold pointer a)

taken : (ok ik : Bool) (kind : ActionKind) (number : ℕ) (inputs : List Value) (output : Option Value) (f : SemanticAction → Bool) →
    or_else false (and_then {B = Bool} (and_then {B = SemanticAction} (when ok then some output else none) λ o. and_then {B = SemanticAction} (when ik then some inputs else none) λ vs. some (record { kind = kind; number = number; inputs = vs; output = o })) λ a. some (f a))
    ≡ (ok && (ik && f (record { kind = kind; number = number; inputs = inputs; output = output })))
unfolding or_else and_then
taken false ik kind number inputs output f = refl
taken true false kind number inputs output f = refl
taken true true kind number inputs output f = refl

few : (n : ℕ) → leb n 8 ≡ true → min n 8 ≡ n
few n h1 = grind (arith, nat_tests)

module _ (t s p op num cnt o0 o1 x0 y0 x1 y1 : ℕ) (r : List ℕ) where
  abbrev words : List ℕ
  words = x0 ∷ y0 ∷ x1 ∷ y1 ∷ r

  abbrev row : ℕ → List ℕ
  row k = k ∷ op ∷ num ∷ cnt ∷ o0 ∷ o1 ∷ words

  abbrev read : ActionKind → Bool → SemanticAction
  read kind b = record { kind = kind; number = num; inputs = inputs_of (min cnt 8) words; output = output_of b o0 o1 }

  there : (b : Bool) → is_some (output_of b o0 o1) ≡ b
  unfolding output_of is_some
  there true = refl
  there false = refl

  same : (kind : ActionKind) (b : Bool) →
      same_numbers (row (action_kind_number kind)) (action_words (read kind b))
      ≡ (eqb op (operation_word (operation_of kind)) && (leb cnt 8 && same_numbers (o0 ∷ o1 ∷ words) (filled 20 (output_words (operation_of kind) (output_of b o0 o1) ++ input_words (inputs_of (min cnt 8) words)))))
  unfolding action_words filled same_numbers
  same kind b =
      chain (eqb (action_kind_number kind) (action_kind_number kind)) (eqb op (operation_word (operation_of kind))) (eqb num num) (eqb cnt (length (inputs_of (min cnt 8) words)))
      (same_numbers (o0 ∷ o1 ∷ words) (filled 20 (output_words (operation_of kind) (output_of b o0 o1) ++ input_words (inputs_of (min cnt 8) words))))
      (eq-eqb (action_kind_number kind) (action_kind_number kind) refl) (eq-eqb num num refl)
      ∙ rw (inputs_length (min cnt 8) words, to_eight cnt)

  -- the shape of an action, whether its values fit, and its base and sizes, where it has cnt inputs
  abbrev shape_at : ActionKind → Bool
  shape_at kind = shaped cnt (output_read kind o0 o1) num (shape_of t s kind)

  abbrev rest_at : ActionKind → Bool
  rest_at kind =
      output_fit t s (action_kind_number kind) (output_read kind o0 o1) o0 o1
      && (values_fit t s false cnt words && (base_fits kind (inputs_of cnt words) && sizes_hold p (record { kind = kind; number = num; inputs = inputs_of cnt words; output = output_of (output_read kind o0 o1) o0 o1 })))

  abbrev Finished : ActionKind → Type 0
  Finished kind =
      (eqb op (operation_word (operation_of kind)) && shape_at kind && rest_at kind)
      ≡ ((not (has_output (action_kind_number kind) o0 o1) || value_fit t s (eqb (action_kind_number kind) 0) o0 o1)
      && values_fit t s (eqb (action_kind_number kind) 0) cnt words
      && head_fit s p (has_output (action_kind_number kind) o0 o1) (row (action_kind_number kind)))

  op-output : (b : Bool) → (not b || value_fit t s true o0 o1) ≡ ((when b then value_fit t s false o0 o1 else true) && output_sized b o1)
  unfolding output_sized
  op-output true = value_sized t s o0 o1
  op-output false = refl

  finish-op : (o : Operation) → leb cnt 8 ≡ true → op ≡ operation_number o → Finished (ActionKind.Op o)
  unfolding action_kind_number operation_of operation_word output_read has_output output_fit base_fits sizes_hold d.operation_holds head_fit operation_fit sz.steps_of
  finish-op o l e =
      let b : Bool = not (eqb o0 0) || not (eqb o1 255) in
      let q = tabled t s o in
      rw (e, eq-eqb (operation_number o) (operation_number o) refl, q.shape, inputs-sized cnt words, output-sized b o0 o1, q.steps, op-output b, values_sized t s cnt words)
      (join (shaped cnt b num (shape_of_row (row_of (operation_number o)))) (when b then value_fit t s false o0 o1 else true) (values_fit t s false cnt words) (inputs_sized cnt words) (output_sized b o1) _ _
      (λ h g. row_fit_lem p (ActionKind.Op o) num x0 y0 x1 y1 r o0 o1 (row_of (operation_number o)) cnt b l h g))

  finish_address : Finished ActionKind.AddressOf
  unfolding action_kind_number operation_of operation_word output_read has_output output_fit base_fits sizes_hold d.operation_holds head_fit kind_fit shape_of same_count or_else and_then
  finish_address =
      plain (eqb op 0 && shape_at ActionKind.AddressOf) (value_fit t s false o0 o1) (values_fit t s false cnt words) (all plain_base (inputs_of cnt words))
      ∙ rw (one-count cnt 1 true true, below_one num) (ap (λ x. value_fit t s false o0 o1 && values_fit t s false cnt words && x) (go (eqb cnt 1) refl))
    where
      go : (e : Bool) → eqb cnt 1 ≡ e → (eqb op 0 && (e && true && eqb num 0) && all plain_base (inputs_of cnt words)) ≡ (eqb op 0 && eqb num 0 && e && true && eqb (y0 / 256) 4294901760)
      go false f = rw (and-false (eqb op 0), and-false (eqb op 0 && eqb num 0))
      go true f = rw (eqb-true cnt 1 f, one-base x0 y0 (x1 ∷ y1 ∷ r), base_word y0, and-true (eqb op 0 && eqb num 0), and-true (eqb op 0 && eqb num 0))

  finish-load : Finished ActionKind.LoadRegister
  unfolding action_kind_number operation_of operation_word output_read has_output output_fit base_fits sizes_hold d.operation_holds head_fit kind_fit shape_of same_count or_else and_then
  finish-load =
      plain (eqb op 0 && shape_at ActionKind.LoadRegister) (value_fit t s false o0 o1) (values_fit t s false cnt words) true
      ∙ rw (one-count cnt 1 true true) (ap (λ x. value_fit t s false o0 o1 && values_fit t s false cnt words && x) (go (eqb op 0) (eqb cnt 1) (ltb num 1025)))
    where
      go : (p e l : Bool) → (p && (e && true && l) && true) ≡ (p && l && e && true)
      go false e l = refl
      go true true true = refl
      go true true false = refl
      go true false true = refl
      go true false false = refl

  finish-store : Finished ActionKind.StoreRegister
  unfolding action_kind_number operation_of operation_word output_read has_output output_fit base_fits sizes_hold d.operation_holds head_fit kind_fit shape_of same_count or_else and_then
  finish-store = rw (one-count cnt 2 false false) (bare (eqb op 0) (eqb cnt 2) (ltb num 1025) (eqb o0 0) (eqb o1 0) (values_fit t s false cnt words) (value_fit t s false o0 o1))

  finish_delay : Finished ActionKind.DelaySlot
  unfolding action_kind_number operation_of operation_word output_read has_output output_fit base_fits sizes_hold d.operation_holds head_fit kind_fit shape_of same_count or_else and_then
  finish_delay = rw (one-count cnt 0 false false, below_one num) (bare (eqb op 0) (eqb cnt 0) (eqb num 0) (eqb o0 0) (eqb o1 0) (values_fit t s false cnt words) (value_fit t s false o0 o1))

  finish-build : Finished ActionKind.Build
  unfolding action_kind_number operation_of operation_word output_read has_output output_fit base_fits sizes_hold d.operation_holds head_fit kind_fit shape_of same_count or_else and_then
  finish-build = rw (one-count cnt 0 false false) (bare (eqb op 0) (eqb cnt 0) (ltb num s) (eqb o0 0) (eqb o1 0) (values_fit t s false cnt words) (value_fit t s false o0 o1))

  finished : (kind : ActionKind) → leb cnt 8 ≡ true → eqb op (operation_word (operation_of kind)) ≡ operation_right (action_kind_number kind) op → Finished kind
  unfolding operation_right action_kind_number operation_of operation_word
  finished (ActionKind.Op o) l q = finish-op o l (eqb-true op (operation_number o) q)
  finished ActionKind.AddressOf l q = finish_address
  finished ActionKind.LoadRegister l q = finish-load
  finished ActionKind.StoreRegister l q = finish-store
  finished ActionKind.DelaySlot l q = finish_delay
  finished ActionKind.Build l q = finish-build

  module _ (len : length r ≡ 14) where
    inputs :
        (inputs_known (min cnt 8) words && (same_numbers words (filled 18 (input_words (inputs_of (min cnt 8) words))) && all (value_fits t s) (inputs_of (min cnt 8) words)))
        ≡ values_fit t s false (min cnt 8) words
    inputs =
        let e : 18 ≡ length words = omega arith in
        ap (λ m. inputs_known (min cnt 8) words && (same_numbers words (filled m (input_words (inputs_of (min cnt 8) words))) && all (value_fits t s) (inputs_of (min cnt 8) words))) e
        ∙ inputs_fit_lem t s (min cnt 8) words (omega arith)

    -- the definition's conditions, in the words' order
    ordered : (kind : ActionKind) →
        (output_known (output_read kind o0 o1) o1 && (inputs_known (min cnt 8) words && right t s p (row (action_kind_number kind)) (read kind (output_read kind o0 o1))))
        ≡ (eqb op (operation_word (operation_of kind)) && (leb cnt 8 && shaped (min cnt 8) (output_read kind o0 o1) num (shape_of t s kind))
        && (output_fit t s (action_kind_number kind) (output_read kind o0 o1) o0 o1 && (values_fit t s false (min cnt 8) words && (base_fits kind (inputs_of (min cnt 8) words) && sizes_hold p (read kind (output_read kind o0 o1))))))
    unfolding right layout_fits shape_fits counts_fit
    ordered kind =
        let b : Bool = output_read kind o0 o1 in
        let n : ℕ = min cnt 8 in
        let vs : List Value = inputs_of n words in
        let so : Bool = same_numbers (o0 ∷ o1 ∷ words) (filled 20 (output_words (operation_of kind) (output_of b o0 o1) ++ input_words vs)) in
        rw (same kind b, inputs_length n words, there b)
        (gather (output_known b o1) (inputs_known n words) (eqb op (operation_word (operation_of kind))) (leb cnt 8) so (shaped n b num (shape_of t s kind)) (all (value_fits t s) vs) (option_fits (value_fits t s) (output_of b o0 o1)) (base_fits kind vs) (sizes_hold p (read kind b))
        ∙ rw (output_fit_lem t s o0 o1 18 words (input_words vs) kind) (rw (regroup (output_fit t s (action_kind_number kind) b o0 o1) (same_numbers words (filled 18 (input_words vs))) (inputs_known n words) (all (value_fits t s) vs) (base_fits kind vs && sizes_hold p (read kind b))) (rw inputs)))

    known_row : (kind : ActionKind) → eqb op (operation_word (operation_of kind)) ≡ operation_right (action_kind_number kind) op →
        (output_known (output_read kind o0 o1) o1 && (inputs_known (min cnt 8) words && right t s p (row (action_kind_number kind)) (read kind (output_read kind o0 o1))))
        ≡ action_fit t s p (row (action_kind_number kind))
    unfolding action_fit output_there inputs_fit
    known_row kind q = ordered kind ∙ go (leb cnt 8) refl
      where
        go : (c : Bool) → leb cnt 8 ≡ c →
            (eqb op (operation_word (operation_of kind)) && (leb cnt 8 && shaped (min cnt 8) (output_read kind o0 o1) num (shape_of t s kind))
            && (output_fit t s (action_kind_number kind) (output_read kind o0 o1) o0 o1 && (values_fit t s false (min cnt 8) words && (base_fits kind (inputs_of (min cnt 8) words) && sizes_hold p (read kind (output_read kind o0 o1))))))
            ≡ action_fit t s p (row (action_kind_number kind))
        go false e = rw (e, and-false (eqb op (operation_word (operation_of kind))), and-false (not (has_output (action_kind_number kind) o0 o1) || value_fit t s (eqb (action_kind_number kind) 0) o0 o1))
        go true e = rw (few cnt e, e) (finished kind e q)

    known_kind : (kind : ActionKind) → eqb op (operation_word (operation_of kind)) ≡ operation_right (action_kind_number kind) op →
        or_else false (and_then {B = Bool} (and_then {B = SemanticAction} (output_from kind o0 o1) λ output. and_then {B = SemanticAction} (inputs_from (min cnt 8) words) λ inputs. some (record { kind = kind; number = num; inputs = inputs; output = output })) λ a. some (right t s p (row (action_kind_number kind)) a))
        ≡ action_fit t s p (row (action_kind_number kind))
    known_kind kind q =
        let b : Bool = output_read kind o0 o1 in
        rw (output_from_lem kind o0 o1, inputs_from_lem (min cnt 8) words)
        (taken (output_known b o1) (inputs_known (min cnt 8) words) kind num (inputs_of (min cnt 8) words) (output_of b o0 o1) (right t s p (row (action_kind_number kind))) ∙ known_row kind q)

    no_kind_lem : (k : ℕ) → NoKind k op → false ≡ action_fit t s p (row k)
    unfolding action_fit head_fit operation_fit row_fit
    no_kind_lem zero (no_operation e) = rw e (sym (and-false ((not (output_there (row 0)) || value_fit t s true o0 o1) && inputs_fit t s true (row 0))))
    no_kind_lem k (no_kind h) = rw (← head_none s p (output_there (row k)) (row k) h) (sym (and-false ((not (output_there (row k)) || value_fit t s (eqb k 0) o0 o1) && inputs_fit t s (eqb k 0) (row k))))

    -- read by the definition, it is right exactly if its words fit
    pub row_agrees : (k : ℕ) → or_else false (and_then (action_from (row k)) λ a. some (right t s p (row k) a)) ≡ action_fit t s p (row k)
    unfolding action_from and_then or_else
    row_agrees k = go (action_kind_numbered k op) refl
      where
        go : (x : Option ActionKind) → action_kind_numbered k op ≡ x →
            or_else false (and_then {B = Bool} (and_then {B = SemanticAction} x λ kind. and_then {B = SemanticAction} (output_from kind o0 o1) λ output. and_then {B = SemanticAction} (inputs_from (min cnt 8) words) λ inputs. some (record { kind = kind; number = num; inputs = inputs; output = output })) λ a. some (right t s p (row k) a))
            ≡ action_fit t s p (row k)
        go none e = no_kind_lem k (kind_none k op e)
        go (some kind) e = let q = kind_is k op kind e in rw (← q.number) (known_kind kind (rw (← q.number) at q.right))
