-- Known sizes, and setting one, as the words have them: in the temporaries, among the errors and in the operand.
use Prim.Native.Nat.{ℕ, zero, suc, ◌+◌, ◌*◌, ◌/◌, ◌%◌, ◌^◌, ◌≤◌, ◌<◌}
use mathlib.Core.Path.{◌≡◌, refl, sym, ◌∙◌, ap, subst}
use mathlib.Core.Bool.{Bool, true, false, ◌||◌}
use mathlib.Core.List.{List, [], ◌∷◌, ◌++◌, map}
use mathlib.Core.Option.{Option, none, some}
use native.Mathlib.Omega.{arith}
use lib.ListN.{length, get_or, set, drop, get_elem?, length-set, length-append}
use lib.Dec.{eqb, eqb-suc-zero}
use borrow.Author.Tests.{ne_eqb}
use Rattle.prelude.specs.Base as definition
use Rattle.prelude.specs.Base.{◌or◌, or_else, and_then, is_some, when◌then◌else◌}
use Rattle.definition.specs.Value.{Kind, kind_number, Value, is_kind, SemanticAction, Temporary}
use Rattle.definition.specs.Ast.{Section}
use Rattle.definition.specs.Sizes as d
use Rattle.definition.specs.Sizes.{Operand, in0, in1, out, at, put, Sizing, set_tmp_size, set_size}
use Rattle.definition.specs.ActionList.{or_none, temporary_word}
use Rattle.definition.proofs.Openers.{base_opens}
pub use Rattle.definition_guarantee.proofs.Tests.{each_at}
use Rattle.list_values.specs.declared.sizes.Sizing.{Sizing as WordSizing}
use Rattle.list_values.specs.Base.{Listed, listed}
use Rattle.list_values.specs.Sizes.{tmp_size, listed_size, size_of_local, size_of, sum_of_errors, recorded, error, size_temporary, settled}
use Rattle.list_values.proofs.SizeLaws.{sum_below}
use Rattle.list_refinement.specs.Encoding.{enc_v, temporaries_in, first_error, enc_z, Within, Sound, SoundTmp, Each, EachOption, SoundAction, SizesHold}
use Rattle.list_refinement.proofs.Operands.{size_word}
use Rattle.list_refinement.specs.RuleKinds.{has}

-- temporaries

size_part : (name size : ℕ) → name ≤ 65535 → size ≤ 65535 → (name + 65536 * size) / 65536 % 65536 ≡ size
size_part name size h j = omega arith

-- a word with a new size
abbrev resized : ℕ → ℕ → ℕ
resized n word = word % 65536 + n % 65536 * 65536 + word / 4294967296 * 4294967296

tmp_resized : (n : ℕ) (t : Temporary) → SoundTmp t → n < 65535 → resized n (temporary_word t) ≡ temporary_word (record { name = t.name; size = some n })
unfolding or_none or_else temporary_word
tmp_resized n t f h = let z = size_word t.size f.size in by_parts (or_none t.name) (or_none t.size) f.name z
  where
    by_parts : (name size : ℕ) → name ≤ 65535 → size ≤ 65535 → resized n (name + 65536 * size) ≡ name + 65536 * n
    by_parts name size i j = omega arith

tmp-get : (rest : List ℕ) (ts : List Temporary) (i : ℕ) → i < length ts → Each SoundTmp ts
    → tmp_size (map temporary_word ts ++ rest) i ≡ or_none (and_then (get_elem? ts i) λ (t : Temporary). t.size)
unfolding temporary_word tmp_size and_then
tmp-get rest [] i h f = absurd (omega arith)
tmp-get rest (t ∷ ts) zero h f = size_part (or_none t.name) (or_none t.size) f.0.name (size_word t.size f.0.size)
tmp-get rest (t ∷ ts) (suc i) h f = tmp-get rest ts i (omega arith) f.1

tmp_set : (rest : List ℕ) (ts : List Temporary) (i n : ℕ) (t : Temporary) → get_elem? ts i ≡ some t → Each SoundTmp ts → n < 65535
    → set (map temporary_word ts ++ rest) i (resized n (get_or (map temporary_word ts ++ rest) i 0))
    ≡ map temporary_word (set ts i (record { name = t.name; size = some n })) ++ rest
tmp_set rest [] i n t e f h = cc
tmp_set rest (u ∷ ts) zero n t e f h = let q : u ≡ t = cc in rw (← q, tmp_resized n u f.0 h)
tmp_set rest (u ∷ ts) (suc i) n t e f h = ap (λ (l : List ℕ). temporary_word u ∷ l) (tmp_set rest ts i n t e f.1 h)

pub get-inside : {A : Type 0} (xs : List A) (i : ℕ) → i < length xs → (x : A) × (get_elem? xs i ≡ some x)
get-inside [] i h = absurd (omega arith)
get-inside (x ∷ xs) zero h = (x, refl)
get-inside (x ∷ xs) (suc i) h = get-inside xs i (omega arith)

pub each_set : {A : Type 0} (P : A → Type 0) (xs : List A) (i : ℕ) (x : A) → Each P xs → P x → Each P (set xs i x)
each_set P [] i x f g = tt
each_set P (y ∷ xs) zero x f g = (g, f.1)
each_set P (y ∷ xs) (suc i) x f g = (f.0, each_set P xs i x f.1 g)

-- errors

pub error_is : (z : Sizing) → length z.errors + 1 < 2 ^ 64 → error (enc_z z) ≡ enc_z (d.error z)
unfolding error recorded first_error
error_is z h = go z.errors h
  where
    go : (es : List (Option ℕ)) → length es + 1 < 2 ^ 64
        → ◌≡◌ {A = WordSizing} (record {
          begun = or_none z.begun;
          errors = sum_of_errors (length es) 1;
          first = when eqb (length es) 0 then or_none z.begun else first_error es;
        })
        (record { begun = or_none z.begun; errors = length (es ++ (z.begun ∷ [])); first = first_error (es ++ (z.begun ∷ [])) })
    go [] j = λ i. record { begun = or_none z.begun; errors = sym (sum_below 0 1 (omega arith)) i; first = or_none z.begun }
    go (e ∷ es) j = rw (eqb-suc-zero (length es)) (λ i. record { begun = or_none z.begun; errors = count i; first = or_none e })
      where
        count : sum_of_errors (suc (length es)) 1 ≡ suc (length (es ++ (z.begun ∷ [])))
        count =
            sym (sum_below (suc (length es)) 1 (omega arith)) ∙ (rw (length-append es (z.begun ∷ [])) (omega arith))

-- the sizes

module _ (s t : List ℕ) (sec : Section) (holds : SizesHold s t sec) (tail : List ℕ) where
  module _ (ts : List Temporary) (fit : Each SoundTmp ts) where
    local_is : (k : Kind) (n : ℕ) → Within sec (length ts) k n → size_of_local s t (temporaries_in tail ts) (kind_number k) n
        ≡ or_none (d.size_of_local sec ts k n)
    unfolding listed_size size_of_local kind_number d.size_of_local or_none or_else
    local_is Kind.InstStart n h = refl
    local_is Kind.InstNext n h = refl
    local_is Kind.Register n h = holds.registers n h
    local_is Kind.Field n h = holds.fields n h
    local_is Kind.Subtable n h = holds.exports n h
    local_is Kind.SubtableRef n h = holds.exports n h
    local_is Kind.PcodeTmp n h = tmp-get (drop (length ts) tail) ts n h fit
    local_is Kind.Constant n h = refl

    tmp-small : (us : List Temporary) (n : ℕ) → Each SoundTmp us → or_else 0 (and_then (get_elem? us n) λ (x : Temporary). x.size) < 65535
    unfolding or_else and_then
    tmp-small [] n f = omega arith
    tmp-small (u ∷ us) zero f = f.0.size
    tmp-small (u ∷ us) (suc n) f = tmp-small us n f.1

    local-small : (k : Kind) (n : ℕ) → or_else 0 (d.size_of_local sec ts k n) < 65535
    unfolding d.size_of_local or_else
    local-small Kind.InstStart n = omega arith
    local-small Kind.InstNext n = omega arith
    local-small Kind.Register n = holds.registers_small n
    local-small Kind.Field n = holds.fields_small n
    local-small Kind.Subtable n = holds.exports_small n
    local-small Kind.SubtableRef n = holds.exports_small n
    local-small Kind.PcodeTmp n = tmp-small ts n fit
    local-small Kind.Constant n = omega arith

    -- the known size
    pub size_is : (v : Value) → Sound sec (length ts) v → size_of s t (temporaries_in tail ts) (enc_v v) ≡ or_none (d.size_of sec ts v)
    unfolding size_of d.size_of ◌or◌ or_none or_else
    size_is v f = go v.size f.size
      where
        go : (z : Option ℕ) → or_else 0 z < 65535
            → (when eqb (or_none z) 65535 then size_of_local s t (temporaries_in tail ts) (kind_number v.kind) v.number else or_none z)
            ≡ or_none (z or d.size_of_local sec ts v.kind v.number)
        go none h = local_is v.kind v.number f.number
        go (some n) h = rw (ne_eqb n 65535 (λ e. omega arith))

    pub known_small : (v : Value) → Sound sec (length ts) v → or_else 0 (d.size_of sec ts v) < 65535
    unfolding d.size_of ◌or◌ or_else
    known_small v f = go v.size f.size
      where
        go : (z : Option ℕ) → or_else 0 z < 65535 → or_else 0 (z or d.size_of_local sec ts v.kind v.number) < 65535
        go none h = local-small v.kind v.number
        go (some n) h = h

  -- setting one
  module _ (z : Sizing) (fit : Each SoundTmp z.temporaries) where
    abbrev done : Sizing → Listed WordSizing
    done y = listed (enc_z y) (temporaries_in tail y.temporaries)

    tmp_is : (i n : ℕ) → i < length z.temporaries → n < 65535
        → listed (enc_z z) (set (temporaries_in tail z.temporaries) i
        (resized n (get_or (temporaries_in tail z.temporaries) i 0))) ≡ done (set_tmp_size sec i (get_elem? z.temporaries i) n z)
    unfolding set_tmp_size
    tmp_is i n h j =
        let q = get-inside z.temporaries i h in
        rw (q.1, length-set z.temporaries i (record { name = q.0.name; size = some n }))
        (ap (listed (enc_z z)) (tmp_set (drop (length z.temporaries) tail) z.temporaries i n q.0 q.1 fit j))

    unknown_is : (k : Kind) (number offset : ℕ) (own : Option ℕ) (n : ℕ) → Within sec (length z.temporaries) k number → n < 65535
        → listed (enc_z z) (size_temporary (temporaries_in tail z.temporaries)
        (enc_v (record { kind = k; number = number; offset = offset; size = own })) n)
        ≡ done (d.size_temporary sec n (record { kind = k; number = number; offset = offset; size = own }) z)
    unfolding size_temporary kind_number d.size_temporary is_kind base_opens
    unknown_is Kind.InstStart number offset own n h j = refl
    unknown_is Kind.InstNext number offset own n h j = refl
    unknown_is Kind.Register number offset own n h j = refl
    unknown_is Kind.Field number offset own n h j = refl
    unknown_is Kind.Subtable number offset own n h j = refl
    unknown_is Kind.SubtableRef number offset own n h j = refl
    unknown_is Kind.PcodeTmp number offset own n h j = tmp_is number n h j
    unknown_is Kind.Constant number offset own n h j = refl

    module _ (room : length z.errors + 1 < 2 ^ 64) where
      differ_is : (k : Kind) (number offset : ℕ) (own : Option ℕ) →
          (when eqb (kind_number k) 4 then done z else listed (error (enc_z z)) (temporaries_in tail z.temporaries))
          ≡ done (definition.when◌then◌else◌ (is_kind Kind.Subtable (record { kind = k; number = number; offset = offset; size = own })) z
          (d.error z))
      unfolding kind_number is_kind base_opens
      differ_is Kind.InstStart number offset own = rw (error_is z room)
      differ_is Kind.InstNext number offset own = rw (error_is z room)
      differ_is Kind.Register number offset own = rw (error_is z room)
      differ_is Kind.Field number offset own = rw (error_is z room)
      differ_is Kind.Subtable number offset own = refl
      differ_is Kind.SubtableRef number offset own = rw (error_is z room)
      differ_is Kind.PcodeTmp number offset own = rw (error_is z room)
      differ_is Kind.Constant number offset own = rw (error_is z room)

      pub settled_is : (known : Option ℕ) (v : Value) (n : ℕ) → or_else 0 known < 65535 → Sound sec (length z.temporaries) v → n < 65535
          → settled (temporaries_in tail z.temporaries) (enc_v v) (or_none known) n (enc_z z) ≡ done (d.settled sec known n v z)
      unfolding settled d.settled or_none or_else
      settled_is none v n h f j = unknown_is v.kind v.number v.offset v.size n f.number j
      settled_is (some m) v n h f j = rw (ne_eqb m 65535 (λ e. omega arith)) (go (eqb m n))
        where
          go : (b : Bool) → (when b then done z else when eqb (kind_number v.kind) 4 then done z else listed (error (enc_z z))
              (temporaries_in tail z.temporaries))
              ≡ done (definition.when◌then◌else◌ (b || is_kind Kind.Subtable v) z (d.error z))
          go true = unfold base_opens in refl
          go false = differ_is v.kind v.number v.offset v.size

      -- a value that is no operand yet
      pub set_value_is : (v : Value) (n : ℕ) → Sound sec (length z.temporaries) v → n < 65535
          → settled (temporaries_in tail z.temporaries) (enc_v v) (size_of s t (temporaries_in tail z.temporaries) (enc_v v)) n (enc_z z)
          ≡ listed (enc_z (set_size sec n v z).1) (temporaries_in tail (set_size sec n v z).1.temporaries)
      unfolding set_size
      set_value_is v n f h =
          rw (size_is z.temporaries fit v f)
          (settled_is (d.size_of sec z.temporaries v) v n (known_small z.temporaries fit v f) f h)

-- what setting a size leaves
pub record Sets (y z : Sizing) : Type 0 where
  pub count : length y.temporaries ≡ length z.temporaries
  pub fit : Each SoundTmp y.temporaries
  pub errors : length y.errors ≤ length z.errors + 1
  pub begun : y.begun ≡ z.begun

module _ (sec : Section) (n : ℕ) (small : n < 65535) (v : Value) (z : Sizing) (fit : Each SoundTmp z.temporaries) where
  same_sets : Sets z z
  same_sets = record { count = refl; fit = fit; errors = omega arith; begun = refl }

  tmp_sets : (i : ℕ) (t : Option Temporary) → get_elem? z.temporaries i ≡ t → Sets (set_tmp_size sec i t n z) z
  unfolding set_tmp_size or_else
  tmp_sets i none e = same_sets
  tmp_sets i (some t) e =
      let f = each_at SoundTmp z.temporaries i t fit e in
      record {
        count = length-set z.temporaries i (record { name = t.name; size = some n });
        fit = each_set SoundTmp z.temporaries i (record { name = t.name; size = some n }) fit (record { name = f.name; size = small });
        errors = omega arith;
        begun = refl;
      }

  pub settled_sets : (known : Option ℕ) → Sets (d.settled sec known n v z) z
  unfolding d.settled d.size_temporary base_opens
  settled_sets none = go (is_kind Kind.PcodeTmp v)
    where
      go : (b : Bool) → Sets (definition.when◌then◌else◌ b (set_tmp_size sec v.number (get_elem? z.temporaries v.number) n z) z) z
      go true = tmp_sets v.number (get_elem? z.temporaries v.number) refl
      go false = same_sets
  settled_sets (some m) = go (eqb m n || is_kind Kind.Subtable v)
    where
      go : (b : Bool) → Sets (definition.when◌then◌else◌ b z (d.error z)) z
      go true = same_sets
      go false = record { count = refl; fit = fit; errors = rw (length-append z.errors (z.begun ∷ [])) (omega arith); begun = refl }

-- An action and a sizing to which so many errors may be added.
pub record Ready (sec : Section) (room : ℕ) (x : SemanticAction) (z : Sizing) : Type 0 where
  pub action : SoundAction sec (length z.temporaries) x
  pub temporaries : Each SoundTmp z.temporaries
  pub errors : length z.errors + room < 2 ^ 64

option_at : {A : Type 0} (P : A → Type 0) (x : Option A) (a : A) → EachOption P x → x ≡ some a → P a
option_at P none a f e = cc
option_at P (some b) a f e = let d : b ≡ a = cc in subst P d f

pub operand_sound : {sec : Section} {n : ℕ} (p : Operand) (x : SemanticAction) (v : Value) → SoundAction sec n x → at p x ≡ some v
    → Sound sec n v
unfolding at
operand_sound {sec} {n} in0 x v f e = each_at (Sound sec n) x.inputs 0 v f.inputs e
operand_sound {sec} {n} in1 x v f e = each_at (Sound sec n) x.inputs 1 v f.inputs e
operand_sound {sec} {n} out x v f e = option_at (Sound sec n) x.output v f.output e

pub present : {A : Type 0} (y : Option A) → is_some y ≡ true → (a : A) × (y ≡ some a)
unfolding is_some
present (some a) e = (a, refl)
present none e = cc

-- putting changes neither that nor what is sound

pub put-sound : {sec : Section} {n : ℕ} (p : Operand) (x : SemanticAction) (v : Value) → SoundAction sec n x → Sound sec n v
    → SoundAction sec n (put p v x)
unfolding put
put-sound {sec} {n} in0 x v f g = record { inputs = each_set (Sound sec n) x.inputs 0 v f.inputs g; output = f.output }
put-sound {sec} {n} in1 x v f g = record { inputs = each_set (Sound sec n) x.inputs 1 v f.inputs g; output = f.output }
put-sound {sec} {n} out x v f g = record { inputs = f.inputs; output = g }

set_there : {A : Type 0} (xs : List A) (i j : ℕ) (y : A) → is_some (get_elem? (set xs i y) j) ≡ is_some (get_elem? xs j)
unfolding is_some
set_there [] i j y = refl
set_there (x ∷ xs) zero zero y = refl
set_there (x ∷ xs) zero (suc j) y = refl
set_there (x ∷ xs) (suc i) zero y = refl
set_there (x ∷ xs) (suc i) (suc j) y = set_there xs i j y

pub put_has : (p q : Operand) (x : SemanticAction) (v u : Value) → at p x ≡ some u → has q (put p v x) ≡ has q x
unfolding at put is_some
put_has in0 in0 x v u e = set_there x.inputs 0 0 v
put_has in0 in1 x v u e = set_there x.inputs 0 1 v
put_has in0 out x v u e = refl
put_has in1 in0 x v u e = set_there x.inputs 1 0 v
put_has in1 in1 x v u e = set_there x.inputs 1 1 v
put_has in1 out x v u e = refl
put_has out in0 x v u e = refl
put_has out in1 x v u e = refl
put_has out out x v u e = sym (ap is_some e)
