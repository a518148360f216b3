-- What every part of the walk keeps: a state in order, and what is known of the value that the part gives.
use Prim.Native.Nat.{ℕ, ◌≤◌, ◌<◌}
use mathlib.Core.Path.{◌≡◌, refl, ◌∙◌}
use mathlib.Core.Logic.{◌≢◌}
use mathlib.Core.Bool.{Bool, true, false, ◌&&◌}
use mathlib.Core.List.{List}
use mathlib.Core.Option.{Option, none, some}
use native.Mathlib.Omega.{arith}
use lib.Dec.{ltb}
use lib.ListN.{length, get_elem?}
use Rattle.prelude.specs.Base.{when◌then◌else◌, or_else, and_then, any}
use Rattle.definition.specs.Refusals.{Refusal}
use Rattle.definition.specs.Operations.{Operation}
use Rattle.definition.specs.Value.{Kind, Value, ActionKind, SemanticAction}
use Rattle.definition.specs.Ast.{Space, Register, Table, Field, Section}
use Rattle.definition.specs.Sizes.{Sizing, pointer_size, export_size_of, size_of, set_size, settled}
use Rattle.definition.specs.Walk.{ExprValue, Label, Scope, State, Env, Outcome, done, stopped, on, Walk, ◌>>=◌, ◌>>◌, pure, refuse, require, expect, section, by_sizes, known_size, with_sizing, sliced, op, change}
use Rattle.definition.specs.Scope.{find}
use Rattle.definition.specs.Checker.{Shape, shape_of, same_count, option_fits, number_fits, value_fits}
use Rattle.definition_guarantee.specs.Tests.{Each}
use Rattle.std.proofs.lemmas.Bool.{leb-true, ltb-true, lt-ltb}
use Rattle.definition_guarantee.proofs.Tests.{all_more, each_at, each_more, In, then_some, none_some}
use Rattle.definition_guarantee.proofs.Growth.{settled_touched}
use Rattle.definition_guarantee.proofs.Words.{Fits, fits_parts, parts_fit}
use Rattle.definition_guarantee.proofs.Layouts.{SmallSizes, SmallSection, Rough, laid_out, subpiece, touched_small, known_small}
use Rattle.definition_guarantee.proofs.WholeList.{label_numbers}
use Rattle.definition_guarantee.proofs.Ending.{InOrder}
use Rattle.definition_guarantee.specs.Limits.{SizeWithin, WithinLimits}

-- sizes of a section within limits fit a word

small_or : (z : Option ℕ) (n : ℕ) → SizeWithin z → z ≡ some n → n < 65535
unfolding or_else
small_or none n h e = none_some {x = none} refl e
small_or (some m) n h e = let d : m ≡ n = cc in omega arith

pub small_section : (sec : Section) → WithinLimits sec → SmallSection sec
unfolding export_size_of pointer_size or_else
small_section sec w = record {
  registers = λ i x e. let h = each_at (λ (x : Register). x.size ≤ 1024) sec.registers i x w.registers e in omega arith;
  fields = λ i n x e d. small_or x.size n (each_at (λ (x : Field). SizeWithin x.size) sec.fields i x w.fields e) d;
  exports = λ i n e.
      let p = then_some (get_elem? sec.subtables i) _ n e in
      let q = then_some (get_elem? sec.tables p.0.table) (λ (t : Table). t.export_size) n p.2 in
      small_or q.0.export_size n (each_at (λ (x : Table). SizeWithin x.export_size) sec.tables _ q.0 w.tables q.1)
      q.2;
  pointer = go (and_then sec.header.default_space λ i. and_then (get_elem? sec.spaces i) λ (x : Space). some x.address_size) refl;
}
  where
    go : (z : Option ℕ) → (and_then sec.header.default_space λ i. and_then (get_elem? sec.spaces i) λ (x : Space). some x.address_size) ≡ z
        → or_else 8 z < 65535
    go none e = omega arith
    go (some n) e =
        let p = then_some sec.header.default_space _ n e in
        let q = then_some (get_elem? sec.spaces p.0) (λ (x : Space). some x.address_size) n p.2 in
        let h = each_at (λ (x : Space). x.address_size ≤ 1024) sec.spaces p.0 q.0 w.spaces q.1 in
        let d : q.0.address_size ≡ n = cc q.2 in
        omega arith

-- more temporaries

number_more : (n k sub : ℕ) (kind : Kind) (x : ℕ) → n ≤ k → number_fits n sub kind x ≡ true → number_fits k sub kind x ≡ true
unfolding number_fits
number_more n k sub Kind.InstStart x h e = e
number_more n k sub Kind.InstNext x h e = e
number_more n k sub Kind.Register x h e = e
number_more n k sub Kind.Field x h e = e
number_more n k sub Kind.Subtable x h e = e
number_more n k sub Kind.SubtableRef x h e = e
number_more n k sub Kind.PcodeTmp x h e = let l = ltb-true x n e in lt-ltb x k (omega arith)
number_more n k sub Kind.Constant x h e = e

pub fits_more : {n k sub : ℕ} {v : Value} → n ≤ k → Fits n sub v → Fits k sub v
fits_more {n} {k} {sub} {v} h f = record {
  number = number_more n k sub v.kind v.number h f.number;
  offset = f.offset;
  size = f.size;
}

shape_more : (n k sub : ℕ) (kind : ActionKind) → shape_of k sub kind ≡ shape_of n sub kind
unfolding shape_of
shape_more n k sub (ActionKind.Op operation) = refl
shape_more n k sub ActionKind.AddressOf = refl
shape_more n k sub ActionKind.LoadRegister = refl
shape_more n k sub ActionKind.StoreRegister = refl
shape_more n k sub ActionKind.DelaySlot = refl
shape_more n k sub ActionKind.Build = refl

output_more : (n k sub : ℕ) (o : Option Value) → n ≤ k → option_fits (value_fits n sub) o ≡ true → option_fits (value_fits k sub) o ≡ true
unfolding option_fits
output_more n k sub none h e = refl
output_more n k sub (some v) h e = parts_fit (fits_more {n = n} {k = k} h (fits_parts e))

pub rough_more : (n k sub : ℕ) (a : SemanticAction) → n ≤ k → Rough n sub a → Rough k sub a
rough_more n k sub a h (laid_out l) = laid_out (record {
  shaped = record {
    shape = l.shaped.shape;
    is = shape_more n k sub a.kind ∙ l.shaped.is;
    counts = l.shaped.counts;
    number = l.shaped.number;
  };
  inputs = all_more (value_fits n sub) (value_fits k sub) (λ v e. parts_fit (fits_more {n = n} {k = k} h (fits_parts e))) a.inputs
      l.inputs;
  output = output_more n k sub a.output h l.output;
  base = l.base;
})
rough_more n k sub a h (subpiece v o e i u m f g) = subpiece v o e i u m (fits_more {n = n} {k = k} h f) (fits_more {n = n} {k = k} h g)

-- what expressions mean

-- with an output, an operation with that number and so many inputs has one of the shapes
unfoldable pub applies : Bool → Operation → ℕ → ℕ → Bool
applies output op n inputs =
    or_else false (and_then (shape_of 0 0 (ActionKind.Op op)) λ (shape : Shape). some
    (any (same_count (inputs, output)) shape.counts && ltb n shape.below))

pub data Applicable (op : Operation) (n inputs : ℕ) : Type 0 where
  plain : applies true op n inputs ≡ true → Applicable op n inputs
  part : op ≡ Operation.Subpiece → inputs ≡ 1 → n ≤ 255 → Applicable op n inputs

module _ (e : Env) (n : ℕ) where
  abbrev pub ValueFits : Value → Type 0
  ValueFits v = Fits n (length e.section.subtables) v

  abbrev pub Small : Option ℕ → Type 0
  Small z = or_else 0 z < 65535

  abbrev pub OptionFits : Option Value → Type 0
  OptionFits none = Unit {0}
  OptionFits (some v) = ValueFits v

  abbrev pub ExprFits : ExprValue → Type 0
  ExprFits (ExprValue.Local v) = ValueFits v
  ExprFits (ExprValue.Unbound v) = ValueFits v
  ExprFits (ExprValue.Const c z) = Small z
  ExprFits (ExprValue.Apply op c vs) = Applicable op c (length vs) × Each ValueFits vs
  ExprFits (ExprValue.RamRef v z) = ValueFits v × (z < 65535)
  ExprFits (ExprValue.RegisterRef v z) = ValueFits v × (z ≤ 1024)
  ExprFits (ExprValue.AddressOf v z) = ValueFits v × Small z
  ExprFits (ExprValue.BitRange v from bits) = ValueFits v × (bits ≤ 8192)

module _ (e : Env) (n k : ℕ) (h : n ≤ k) where
  pub values_more : (vs : List Value) → Each (ValueFits e n) vs → Each (ValueFits e k) vs
  values_more vs f = each_more (ValueFits e n) (ValueFits e k) (λ v g. fits_more {n = n} {k = k} h g) vs f

  pub option_more : (o : Option Value) → OptionFits e n o → OptionFits e k o
  option_more none f = tt
  option_more (some v) f = fits_more {n = n} {k = k} h f

  pub expr_more : (x : ExprValue) → ExprFits e n x → ExprFits e k x
  expr_more (ExprValue.Local v) f = fits_more {n = n} {k = k} h f
  expr_more (ExprValue.Unbound v) f = fits_more {n = n} {k = k} h f
  expr_more (ExprValue.Const c z) f = f
  expr_more (ExprValue.Apply op c vs) f = (f.0, values_more vs f.1)
  expr_more (ExprValue.RamRef v z) f = (fits_more {n = n} {k = k} h f.0, f.1)
  expr_more (ExprValue.RegisterRef v z) f = (fits_more {n = n} {k = k} h f.0, f.1)
  expr_more (ExprValue.AddressOf v z) f = (fits_more {n = n} {k = k} h f.0, f.1)
  expr_more (ExprValue.BitRange v from bits) f = (fits_more {n = n} {k = k} h f.0, f.1)

  pub exprs_more : (xs : List ExprValue) → Each (ExprFits e n) xs → Each (ExprFits e k) xs
  exprs_more xs f = each_more (ExprFits e n) (ExprFits e k) (λ x g. expr_more x g) xs f

-- the state

abbrev pub count : State → ℕ
count s = length s.sizing.temporaries

abbrev pub labelled : State → List ℕ
labelled s = label_numbers s.actions

-- the labels of a scope: each below the next number, no two names for one, and those not yet defined not placed
pub record LabelsFit (labels : List (ℕ × Label)) (next : ℕ) (placed : List ℕ) : Type 0 where
  pub below : (n : ℕ) (l : Label) → find n labels ≡ some l → l.id < next
  pub unplaced : (n : ℕ) (l : Label) → find n labels ≡ some l → l.defined ≡ false → ¬ In l.id placed
  pub apart : (n m : ℕ) (l k : Label) → find n labels ≡ some l → find m labels ≡ some k → l.id ≡ k.id → n ≡ m

pub record ScopeFits (e : Env) (n : ℕ) (x : Scope) : Type 0 where
  pub params : Each (λ (p : ℕ × ExprValue). ExprFits e n p.1) x.params
  pub mapping : Each (λ (p : ℕ × Value). ValueFits e n p.1) x.mapping

pub record Kept (e : Env) (s : State) : Type 0 where
  pub in_order : InOrder e s
  pub scope : ScopeFits e (count s) s.scope
  pub next : s.next_label ≤ 256
  pub placed : (k : ℕ) → In k (labelled s) → k < s.next_label
  pub labels : LabelsFit s.scope.labels s.next_label (labelled s)

-- a number that is given out, not placed, and no label's of this scope
pub record Guarded (k : ℕ) (s : State) : Type 0 where
  pub below : k < s.next_label
  pub unplaced : ¬ In k (labelled s)
  pub unknown : (n : ℕ) (l : Label) → find n s.scope.labels ≡ some l → l.id ≢ k

-- from one state to a later one
pub record Later (s t : State) : Type 0 where
  pub temporaries : count s ≤ count t
  pub labels : s.next_label ≤ t.next_label
  pub guarded : (k : ℕ) → Guarded k s → Guarded k t

pub later_refl : {s : State} → Later s s
later_refl {s} = record { temporaries = omega arith; labels = omega arith; guarded = λ k g. g }

pub later_trans : {s t u : State} → Later s t → Later t u → Later s u
later_trans {s} {t} {u} p q =
    let a = p.temporaries in
    let b = q.temporaries in
    let c = p.labels in
    let d = q.labels in
    record { temporaries = omega arith; labels = omega arith; guarded = λ k g. q.guarded k (p.guarded k g) }

-- a part of the walk that keeps the state, with at least n temporaries before it, and what holds of what it gives
module _ {A : Type 0} (e : Env) where
  abbrev pub Ends : State → (ℕ → A → Type 0) → Outcome A → Type 0
  Ends s P (done a t) = Later s t × Kept e t × P (count t) a
  Ends s P (stopped r o k) = Unit {0}

pub record Keeps {A : Type 0} (e : Env) (n : ℕ) (P : ℕ → A → Type 0) (m : Walk A) : Type 0 where
  pub keeps : (s : State) → n ≤ count s → Kept e s → Ends e s P (m e s)

-- the connectives

ends_after : {A : Type 0} (e : Env) (s t : State) (P : ℕ → A → Type 0) (x : Outcome A) → Later s t → Ends e t P x → Ends e s P x
ends_after e s t P (done a u) l h = (later_trans l h.0, h.1, h.2)
ends_after e s t P (stopped r o k) l h = tt

ends_on : {A B : Type 0} (e : Env) (n : ℕ) (s : State) (P : ℕ → A → Type 0) (Q : ℕ → B → Type 0) (x : Outcome A) (f : A → Walk B)
    → n ≤ count s → Ends e s P x
    → ((k : ℕ) → n ≤ k → (a : A) → P k a → Keeps e k Q (f a)) → Ends e s Q (on e x f)
unfolding on
ends_on e n s P Q (done a t) f c h g =
    let l = h.0.temporaries in
    ends_after e s t Q (f a e t) h.0 ((g (count t) (omega arith) a h.2).keeps t (omega arith) h.1)
ends_on e n s P Q (stopped r o k) f c h g = tt

pub keep_bind : {A B : Type 0} {e : Env} {n : ℕ} {P : ℕ → A → Type 0} {Q : ℕ → B → Type 0} (m : Walk A) (f : A → Walk B) → Keeps e n P m
    → ((k : ℕ) → n ≤ k → (a : A) → P k a → Keeps e k Q (f a)) → Keeps e n Q (m >>= f)
keep_bind {A} {B} {e} {n} {P} {Q} m f h g = record { keeps = λ s c o. ends_on e n s P Q (m e s) f c (h.keeps s c o) g }

pub keep_then : {B : Type 0} {e : Env} {n : ℕ} {P : ℕ → Unit {0} → Type 0} {Q : ℕ → B → Type 0} (m : Walk (Unit {0})) (r : Walk B)
    → Keeps e n P m → ((k : ℕ) → n ≤ k → P k tt → Keeps e k Q r) → Keeps e n Q (m >> r)
keep_then {B} {e} {n} {P} {Q} m r h g = record {
  keeps = λ s c o. ends_on e n s P Q (m e s) (λ _. r) c (h.keeps s c o) (λ k l a p. g k l p);
}

pub keep_pure : {A : Type 0} {e : Env} {n : ℕ} {P : ℕ → A → Type 0} (a : A) → ((k : ℕ) → n ≤ k → P k a) → Keeps e n P (pure a)
keep_pure a p = record { keeps = λ s c o. (later_refl, o, p (count s) c) }

pub keep_refuse : {A : Type 0} {e : Env} {n : ℕ} {P : ℕ → A → Type 0} (r : Refusal) → Keeps e n P (refuse {A = A} r)
keep_refuse r = record { keeps = λ s c o. tt }

pub keep_require : {e : Env} {n : ℕ} (b : Bool) (r : Refusal) → Keeps e n (λ k _. b ≡ true) (require b r)
unfolding require
keep_require true r = keep_pure tt (λ k l. refl)
keep_require false r = keep_refuse r

pub keep_expect : {A : Type 0} {e : Env} {n : ℕ} (r : Refusal) (x : Option A) → Keeps e n (λ k a. x ≡ some a) (expect r x)
unfolding expect
keep_expect r (some a) = keep_pure a (λ k l. refl)
keep_expect r none = keep_refuse r

pub keep_if : {A : Type 0} {e : Env} {n : ℕ} {P : ℕ → A → Type 0} (b : Bool) (m r : Walk A) → Keeps e n P m → Keeps e n P r
    → Keeps e n P (when b then m else r)
keep_if true m r h g = h
keep_if false m r h g = g

pub keep_section : {e : Env} {n : ℕ} → Keeps e n (λ k sec. sec ≡ e.section) section
keep_section = record { keeps = λ s c o. (later_refl, o, refl) }

-- less is known of what is given
ends_weaker : {A : Type 0} (e : Env) (s : State) (P Q : ℕ → A → Type 0) (x : Outcome A)
    → ((k : ℕ) → count s ≤ k → (a : A) → P k a → Q k a) → Ends e s P x → Ends e s Q x
ends_weaker e s P Q (done a t) f h = (h.0, h.1, f (count t) h.0.temporaries a h.2)
ends_weaker e s P Q (stopped r o k) f h = tt

pub keep_weaker : {A : Type 0} {e : Env} {n : ℕ} {P Q : ℕ → A → Type 0} (m : Walk A) → ((k : ℕ) → n ≤ k → (a : A) → P k a → Q k a)
    → Keeps e n P m → Keeps e n Q m
keep_weaker {A} {e} {n} {P} {Q} m f h = record {
  keeps = λ s c o. ends_weaker e s P Q (m e s) (λ k l a p. f k (omega arith) a p) (h.keeps s c o);
}

-- sizes

-- the state with other sizes, of as many temporaries
pub same_count_lem : (e : Env) (s : State) (x : Sizing) → length x.temporaries ≡ count s → SmallSizes x.temporaries → Kept e s
    → Kept e (with_sizing x s)
same_count_lem e s x c z o = record {
  in_order = record { actions = rw c o.in_order.actions; sizes = z; labels = o.in_order.labels; room = o.in_order.room };
  scope = rw c o.scope;
  next = o.next;
  placed = o.placed;
  labels = o.labels;
}

pub sized-later : (s : State) (x : Sizing) → length x.temporaries ≡ count s → Later s (with_sizing x s)
sized-later s x c = record {
  temporaries = omega arith;
  labels = omega arith;
  guarded = λ k g. record { below = g.below; unplaced = g.unplaced; unknown = g.unknown };
}

pub keep_set_size : {e : Env} {n : ℕ} → WithinLimits e.section → (z : ℕ) (v : Value) → z < 65535 → ValueFits e n v
    → Keeps e n (λ k w. ValueFits e k w) (by_sizes λ sec. set_size sec z v)
unfolding set_size or_else
keep_set_size {e} {n} w z v h f = record {
  keeps = λ s c o.
      let t = settled_touched e.section v z s.sizing (size_of e.section s.sizing.temporaries v) refl in
      let x : Sizing = settled e.section (size_of e.section s.sizing.temporaries v) z v s.sizing in
      let g : Fits (count s) (length e.section.subtables) v = fits_more {n = n} {k = count s} c f in (
        sized-later s x t.grown.count,
        same_count_lem e s x t.grown.count (touched_small z _ _ h t o.in_order.sizes) o,
        rw t.grown.count (record { number = g.number; offset = g.offset; size = h }),
      );
}

pub option_small : (z : Option ℕ) → ((n : ℕ) → z ≡ some n → n < 65535) → or_else 0 z < 65535
unfolding or_else
option_small none h = omega arith
option_small (some m) h = h m refl

pub keep_known : {e : Env} {n : ℕ} → WithinLimits e.section → (v : Value) → ValueFits e n v
    → Keeps e n (λ k z. Small e k z) (known_size v)
keep_known {e} {n} w v f = record {
  keeps = λ s c o. (
    later_refl,
    o,
    option_small _ (λ m d. known_small e.section (small_section e.section w) (count s)
        (length e.section.subtables) s.sizing.temporaries v m o.in_order.sizes (fits_more {n = n} {k = count s} c f) d),
  );
}

pub keep_sliced : {e : Env} {n : ℕ} (more size : ℕ) (v : Value) → size < 65535 → ValueFits e n v
    → Keeps e n (λ k w. ValueFits e k w) (sliced more size v)
unfolding sliced or_else
keep_sliced {e} {n} more size v h f = keep_then _ _ (keep_require _ _) λ k l p. keep_pure _ λ j m.
    let g = fits_more {n = n} {k = j} (omega arith) f in
    record { number = g.number; offset = leb-true _ _ p; size = h }

-- a change of nothing that is kept

pub record Untouched (s t : State) : Type 0 where
  pub temporaries : t.sizing.temporaries ≡ s.sizing.temporaries
  pub actions : t.actions ≡ s.actions
  pub scope : t.scope ≡ s.scope
  pub next : t.next_label ≡ s.next_label

untouched_kept : (e : Env) (s t : State) → Untouched s t → Kept e s → Kept e t
untouched_kept e s t u o = record {
  in_order = record {
    actions = rw (u.temporaries, u.actions) o.in_order.actions;
    sizes = rw u.temporaries o.in_order.sizes;
    labels = rw u.actions o.in_order.labels;
    room = rw u.actions o.in_order.room;
  };
  scope = rw (u.temporaries, u.scope) o.scope;
  next = rw u.next o.next;
  placed = rw (u.actions, u.next) o.placed;
  labels = rw (u.scope, u.next, u.actions) o.labels;
}

untouched_later : (s t : State) → Untouched s t → Later s t
untouched_later s t u = record {
  temporaries = rw u.temporaries (omega arith);
  labels = rw u.next (omega arith);
  guarded = λ k g. record { below = rw u.next g.below; unplaced = rw u.actions g.unplaced; unknown = rw u.scope g.unknown };
}

pub keep_untouched : {e : Env} {n : ℕ} (f : State → State) → ((s : State) → Untouched s (f s)) → Keeps e n (λ k _. Unit {0}) (change f)
keep_untouched {e} {n} f u = record { keeps = λ s c o. (untouched_later s (f s) (u s), untouched_kept e s (f s) (u s) o, tt) }
