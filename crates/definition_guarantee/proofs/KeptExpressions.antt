-- Every expression keeps the state in order, and what it means fits.
use Prim.Native.Nat.{ℕ, zero, suc, ◌+◌, ◌*◌, ◌/◌, ◌≤◌, ◌<◌}
use mathlib.Core.Path.{◌≡◌, refl, sym, ◌∙◌, ap, subst}
use mathlib.Core.List.{List, [], ◌∷◌}
use mathlib.Core.Option.{Option, none, some}
use native.Mathlib.Omega.{arith}
use lib.Dec.{eqb}
use lib.ListN.{length, take, drop, length-take, length-drop}
use Rattle.prelude.specs.Base.{◌or◌, or_else, and_then}
use Rattle.definition.specs.Refusals.{Refusal}
use Rattle.definition.specs.Operations.{Operation, operation_number}
use Rattle.definition.specs.Value.{Kind, Value, local, constant, operation_of}
use Rattle.definition.specs.Ast.{PcodeOp, PcodeExpr, Args, no_args, arg, SpaceKind, BitRange as BitRangeEntry, Section}
use Rattle.definition.specs.Spellings.{Inbuilt, translate_inbuilt_func}
use Rattle.definition.specs.Walk.{ExprValue, Scope, State, Env, on, Walk, ◌>>=◌, expect}
use Rattle.definition.specs.Scope.{find, Symbol, globals, lookup, as_space, as_table, Meaning, means, wrong, register_bits, global_meaning, inner_meaning, meaning_of, meaning, meant, resolve_ident}
use Rattle.definition.specs.Expressions.{mask, copy_to, set_stated, take_known, take_stated, shift_and_mask, read_slice, read_value, value_of, read_all, slice_read, slice_bits, as_local, resolve_space, in_const_space, reference, address_in, resolve_address, binary, resolve_op, pass_args, call_user_op, arg_count, subpiece, call_symbol, call_inbuilt, call_named, resolve_call, resolve_expr, resolve_args, resolve_arg_values}
use Rattle.definition.specs.Checker.{number_fits}
use Rattle.definition_guarantee.specs.Tests.{Each}
use Rattle.std.proofs.lemmas.Bool.{leb-true, eqb-true}
use Rattle.definition_guarantee.proofs.Tests.{each_at, then_some, chosen, none_some}
use Rattle.definition_guarantee.proofs.Layouts.{laid_out}
use Rattle.definition_guarantee.proofs.WholeList.{placing}
use Rattle.definition_guarantee.specs.Limits.{SizeWithin, ExprWithin, ArgsWithin, WithinLimits}
use Rattle.definition_guarantee.proofs.Entries.{find-each}
use Rattle.definition_guarantee.proofs.Globals.{FoundPlaced, found_placed}
use Rattle.definition_guarantee.proofs.Kept.{fits_more, Applicable, part, ValueFits, OptionFits, ExprFits, values_more, option_more, expr_more, count, ScopeFits, Kept, later_refl, Keeps, keep_bind, keep_then, keep_pure, keep_refuse, keep_require, keep_expect, keep_if, keep_section, keep_set_size, keep_known, keep_sliced, exprs_more}
use Rattle.definition_guarantee.proofs.Pushes.{keep_add_tmp, keep_output_or, keep_push, keep_op, keep_op_no_output}
use Rattle.definition_guarantee.proofs.Shapes.{local_fits, constant-fits, copy_applies, right_applies, and_applies, load_applies, user_applies, operation_in, operator_applies, inbuilt_applies, arg_applies, address_laid, load_laid}

-- what a name is found to be

or_some : {A : Type 0} (P : A → Type 0) (x y : Option A) (a : A) → ((b : A) → x ≡ some b → P b) → ((b : A) → y ≡ some b → P b)
    → x or y ≡ some a → P a
unfolding ◌or◌
or_some P (some b) y a f g e = f a e
or_some P none y a f g e = g a e

-- a location's number that any section allows
register-fits : (e : Env) (k n : ℕ) → ValueFits e k (local Kind.Register n)
unfolding number_fits
register-fits e k n = local_fits k _ Kind.Register n refl

next_fits : (e : Env) (k : ℕ) → ValueFits e k (local Kind.InstNext 0)
unfolding number_fits
next_fits e k = local_fits k _ Kind.InstNext 0 refl

start_fits : (e : Env) (k : ℕ) → ValueFits e k (local Kind.InstStart 0)
unfolding number_fits
start_fits e k = local_fits k _ Kind.InstStart 0 refl

local_of : (x : ExprValue) (v : Value) → as_local x ≡ some v → x ≡ ExprValue.Local v
unfolding as_local
local_of (ExprValue.Local u) v e = let d : u ≡ v = cc in ap ExprValue.Local d
local_of (ExprValue.Unbound u) v e = none_some {x = none} refl e
local_of (ExprValue.Const n z) v e = none_some {x = none} refl e
local_of (ExprValue.Apply o n vs) v e = none_some {x = none} refl e
local_of (ExprValue.RamRef u z) v e = none_some {x = none} refl e
local_of (ExprValue.RegisterRef u z) v e = none_some {x = none} refl e
local_of (ExprValue.AddressOf u z) v e = none_some {x = none} refl e
local_of (ExprValue.BitRange u f b) v e = none_some {x = none} refl e

pub as_local_lem : (e : Env) (k : ℕ) (x : ExprValue) (v : Value) → ExprFits e k x → as_local x ≡ some v → ValueFits e k v
as_local_lem e k x v f d = subst (ExprFits e k) (local_of x v d) f

either_small : (size z : Option ℕ) → SizeWithin size → or_else 0 z < 65535 → or_else 0 (size or z) < 65535
unfolding or_else ◌or◌
either_small (some n) z h k = omega arith
either_small none z h k = k

module _ (e : Env) (w : WithinLimits e.section) where
  abbrev Meant : ℕ → Meaning → Type 0
  Meant k (means x) = ExprFits e k x
  Meant k (wrong r) = Unit {0}

  pub keep_lookup : {n : ℕ} (name : ℕ) → Keeps e n (λ k y. FoundPlaced e.section y) (lookup name)
  unfolding lookup
  keep_lookup name = keep_bind _ _ keep_section λ k l sec d. keep_pure _ λ j m. subst
      (λ (x : Section). FoundPlaced e.section (find name (globals x))) (sym d)
      (found_placed e.section name (find name (globals e.section)) refl)

  keep_as_space : {n : ℕ} (y : Option Symbol) → Keeps e n (λ k _. Unit {0}) (as_space y)
  unfolding as_space
  keep_as_space none = keep_refuse _
  keep_as_space (some (Symbol.Space i x)) = keep_pure _ λ k l. tt
  keep_as_space (some (Symbol.Register i x)) = keep_refuse _
  keep_as_space (some (Symbol.BitRange i x)) = keep_refuse _
  keep_as_space (some (Symbol.Table i x)) = keep_refuse _
  keep_as_space (some (Symbol.UserOp i)) = keep_refuse _
  keep_as_space (some (Symbol.Macro i x)) = keep_refuse _
  keep_as_space (some (Symbol.Other i)) = keep_refuse _

  keep_as_table : {n : ℕ} (y : Option Symbol) → Keeps e n (λ k _. Unit {0}) (as_table y)
  unfolding as_table
  keep_as_table none = keep_refuse _
  keep_as_table (some (Symbol.Table i x)) = keep_pure _ λ k l. tt
  keep_as_table (some (Symbol.Space i x)) = keep_refuse _
  keep_as_table (some (Symbol.Register i x)) = keep_refuse _
  keep_as_table (some (Symbol.BitRange i x)) = keep_refuse _
  keep_as_table (some (Symbol.UserOp i)) = keep_refuse _
  keep_as_table (some (Symbol.Macro i x)) = keep_refuse _
  keep_as_table (some (Symbol.Other i)) = keep_refuse _

  pub keep_table : {n : ℕ} (name : ℕ) → Keeps e n (λ k _. Unit {0}) (lookup name >>= as_table)
  keep_table name = keep_bind _ _ (keep_lookup name) λ k l y p. keep_as_table y

  global_meant : (k : ℕ) (y : Option Symbol) → FoundPlaced e.section y → Meant k (global_meaning y)
  unfolding global_meaning register_bits
  global_meant k none p = tt
  global_meant k (some (Symbol.Register i x)) p = register-fits e k i
  global_meant k (some (Symbol.BitRange i b)) p = (
    register-fits e k b.register,
    each_at (λ (x : BitRangeEntry). x.bit_count ≤ 8192) e.section.bit_ranges i b w.bit_ranges p,
  )
  global_meant k (some (Symbol.Space i x)) p = tt
  global_meant k (some (Symbol.Table i x)) p = tt
  global_meant k (some (Symbol.UserOp i)) p = tt
  global_meant k (some (Symbol.Macro i x)) p = tt
  global_meant k (some (Symbol.Other i)) p = tt

  inner_fits : (k : ℕ) (x : Scope) (name : ℕ) (y : ExprValue) → ScopeFits e k x → inner_meaning e.section x name ≡ some y
      → ExprFits e k y
  unfolding inner_meaning
  inner_fits k x name y f d =
      or_some (ExprFits e k) _ _ y (λ b h. find-each (ExprFits e k) name x.params b f.params h)
      (λ c i. or_some (ExprFits e k) _ _ c (λ b h. subst (ExprFits e k) (chosen (eqb name e.section.header.inst_next) _ b h) (next_fits e k))
      (λ c i. or_some (ExprFits e k) _ _ c (λ b h. subst (ExprFits e k) (chosen (eqb name e.section.header.inst_start) _ b h)
      (start_fits e k))
      (λ b h. let q = then_some (find name x.mapping) _ b h in let r : ExprValue.Local q.0 ≡ b = cc q.2 in
      subst (ExprFits e k) r (find-each (ValueFits e k) name x.mapping q.0 f.mapping q.1)) i) i) d

  pub keep_meaning : {n : ℕ} (name : ℕ) → Keeps e n Meant (meaning name)
  unfolding meaning on meaning_of
  keep_meaning name = record { keeps = λ s c o. (later_refl, o, go s o (inner_meaning e.section s.scope name) refl) }
    where
      go : (s : State) → Kept e s → (x : Option ExprValue) → inner_meaning e.section s.scope name ≡ x
          → Meant (count s) (meaning_of e.section x name)
      go s o (some y) d = inner_fits (count s) s.scope name y o.scope d
      go s o none d =
          let y = find name (globals e.section) in
          global_meant (count s) y (found_placed e.section name y refl)

  pub keep_ident : {n : ℕ} (name : ℕ) → Keeps e n (λ k x. ExprFits e k x) (resolve_ident name)
  unfolding resolve_ident meant
  keep_ident name = keep_bind _ _ (keep_meaning name) λ k l m f. go k m f
    where
      go : (k : ℕ) (m : Meaning) → Meant k m → Keeps e k (λ k x. ExprFits e k x) (meant m)
      go k (means x) f = keep_pure x λ j l. expr_more e k j l x f
      go k (wrong r) f = keep_refuse r

  -- reading

  pub keep_copy_to : {n : ℕ} (to : Option Value) (v : Value) → OptionFits e n to → ValueFits e n v
      → Keeps e n (λ k u. ValueFits e k u) (copy_to to v)
  unfolding copy_to
  keep_copy_to {n} none v f g = keep_pure v λ k l. fits_more {n = n} {k = k} l g
  keep_copy_to (some to) v f g = keep_op w Operation.Copy 0 (v ∷ []) (some to) copy_applies (g, tt) f

  pub keep_set_stated : {n : ℕ} (z : ℕ) (v : Value) → z < 65535 → ValueFits e n v → Keeps e n (λ k u. ValueFits e k u) (set_stated z v)
  unfolding set_stated
  keep_set_stated {n} z v h f = keep_if _ _ _ (keep_pure v λ k l. fits_more {n = n} {k = k} l f) (keep_set_size w z v h f)

  keep_take_known : {n : ℕ} (x : Option ℕ) (z : ℕ) (v : Value) → z < 65535 → ValueFits e n v
      → Keeps e n (λ k u. ValueFits e k u) (take_known x z v)
  unfolding take_known or_else
  keep_take_known {n} (some m) z v h f = keep_pure _ λ k l. let g = fits_more {n = n} {k = k} l f in
      record { number = g.number; offset = g.offset; size = h }
  keep_take_known none z v h f = keep_set_size w z v h f

  pub keep_take_stated : {n : ℕ} (z : ℕ) (v : Value) → z < 65535 → ValueFits e n v → Keeps e n (λ k u. ValueFits e k u) (take_stated z v)
  unfolding take_stated
  keep_take_stated {n} z v h f = keep_if _ _ _ (keep_pure v λ k l. fits_more {n = n} {k = k} l f)
      (keep_bind _ _ (keep_known w v f) λ k l x p. keep_take_known x z v h (fits_more {n = n} {k = k} l f))

  keep_shift : {n : ℕ} (v : Value) (from bits : ℕ) → bits ≤ 8192 → ValueFits e n v
      → Keeps e n (λ k u. ValueFits e k u) (shift_and_mask v from bits)
  unfolding shift_and_mask or_else
  keep_shift {n} v from bits h f =
      keep_bind _ _ (keep_known w v f) λ k l z p.
      keep_bind _ _ (keep_add_tmp none z p) λ k₁ l₁ tmp g.
      keep_bind _ _ (keep_op w Operation.IntRight 0 (v ∷ constant from ∷ []) (some tmp) right_applies
      (fits_more {n = n} {k = k₁} (omega arith) f, (constant-fits k₁ _ from none (omega arith), tt)) g) λ k₂ l₂ _ _.
      keep_bind _ _ (keep_op w Operation.IntAnd 0 (tmp ∷ constant (mask bits) ∷ []) (some tmp) and_applies
      (fits_more {n = k₁} {k = k₂} l₂ g, (constant-fits k₂ _ (mask bits) none (omega arith), tt)) (fits_more {n = k₁} {k = k₂} l₂ g))
      λ k₃ l₃ _ _.
      keep_pure _ λ j m. let t = fits_more {n = k₁} {k = j} (omega arith) g in
      record { number = t.number; offset = t.offset; size = omega arith }

  pub keep_read_slice : {n : ℕ} (v : Value) (from bits : ℕ) (to : Option Value) → bits ≤ 8192 → ValueFits e n v → OptionFits e n to
      → Keeps e n (λ k u. ValueFits e k u) (read_slice v from bits to)
  unfolding read_slice
  keep_read_slice {n} v from bits to h f g =
      keep_bind _ _ (keep_if _ _ _ (keep_sliced (from / 8) (bits / 8) v (omega arith) f) (keep_shift v from bits h f))
      λ k l part p. keep_copy_to to part (option_more e n k l to g) p

  pub keep_read : {n : ℕ} (x : ExprValue) (to : Option Value) → ExprFits e n x → OptionFits e n to
      → Keeps e n (λ k u. ValueFits e k u) (read_value x to)
  unfolding read_value placing or_else and_then operation_of
  keep_read (ExprValue.Local v) to f g = keep_copy_to to v g f
  keep_read (ExprValue.Unbound v) to f g = keep_copy_to to v g f
  keep_read {n} (ExprValue.Const c z) to f g = keep_copy_to to _ g (constant-fits n _ c z f)
  keep_read (ExprValue.BitRange v from bits) to f g = keep_read_slice v from bits to f.1 f.0 g
  keep_read (ExprValue.Apply operation c vs) to f g = keep_op w operation c vs to f.0 f.1 g
  keep_read {n} (ExprValue.AddressOf v z) to f g =
      keep_then _ _ (keep_require _ _) λ k l p.
      keep_bind _ _ (keep_output_or z to f.1 (option_more e n k l to g)) λ k₁ l₁ o q.
      keep_then _ _ (keep_push _ (laid_out (address_laid k₁ _ v o (fits_more {n = n} {k = k₁} (omega arith) f.0) q)) refl) λ k₂ l₂ _.
      keep_pure o λ j m. fits_more {n = k₁} {k = j} (omega arith) q
  keep_read {n} (ExprValue.RamRef v z) to f g =
      keep_bind _ _ (keep_output_or none to (omega arith) g) λ k l o q.
      keep_bind _ _ (keep_take_stated z o f.1 q) λ k₁ l₁ u r.
      keep_op w Operation.Load 0 (v ∷ []) (some u) load_applies (fits_more {n = n} {k = k₁} (omega arith) f.0, tt) r
  keep_read {n} (ExprValue.RegisterRef v z) to f g =
      let s = f.1 in
      keep_bind _ _ (keep_output_or (some z) to (omega arith) g) λ k l o q.
      keep_bind _ _ (keep_set_stated z o (omega arith) q) λ k₁ l₁ u r.
      keep_then _ _ (keep_push _ (laid_out (load_laid k₁ _ z v u f.1 (fits_more {n = n} {k = k₁} (omega arith) f.0) r)) refl)
      λ k₂ l₂ _.
      keep_pure u λ j m. fits_more {n = k₁} {k = j} (omega arith) r

  pub keep_value_of : {n : ℕ} (m : Walk ExprValue) → Keeps e n (λ k x. ExprFits e k x) m → Keeps e n (λ k u. ValueFits e k u) (value_of m)
  keep_value_of m h = keep_bind _ _ h λ k l x f. keep_read x none f tt

  -- as many values as expressions
  abbrev pub Values : ℕ → ℕ → List Value → Type 0
  Values c k vs = Each (ValueFits e k) vs × (length vs ≡ c)

  abbrev pub Exprs : ℕ → ℕ → List ExprValue → Type 0
  Exprs c k xs = Each (ExprFits e k) xs × (length xs ≡ c)

  pub keep_read_all : {n : ℕ} (xs : List ExprValue) → Each (ExprFits e n) xs → Keeps e n (Values (length xs)) (read_all xs)
  unfolding read_all
  keep_read_all [] f = keep_pure [] λ k l. (tt, refl)
  keep_read_all {n} (x ∷ xs) f =
      keep_bind _ _ (keep_read x none f.0 tt) λ k l v p.
      keep_bind _ _ (keep_read_all xs (exprs_more e n k l xs f.1)) λ k₁ l₁ vs q.
      keep_pure _ λ j m. ((fits_more {n = k} {k = j} (omega arith) p, values_more e k₁ j m vs q.0), ap suc q.1)

  -- slices

  keep_slice_read : {n : ℕ} (from bits : ℕ) (x : ExprValue) → bits ≤ 8192 → ExprFits e n x
      → Keeps e n (λ k y. ExprFits e k y) (slice_read from bits x)
  unfolding slice_read
  keep_slice_read from bits x h f =
      keep_bind _ _ (keep_read x none f tt) λ k l v p.
      keep_bind _ _ (keep_read_slice v from bits none h p tt) λ k₁ l₁ u q.
      keep_pure _ λ j m. fits_more {n = k₁} {k = j} m q

  keep_slice_bits : {n : ℕ} (from bits : ℕ) (x : ExprValue) → bits ≤ 8192 → ExprFits e n x
      → Keeps e n (λ k y. ExprFits e k y) (slice_bits from bits x)
  unfolding slice_bits or_else
  keep_slice_bits {n} from bits (ExprValue.Local v) h f = keep_pure _ λ k l. (fits_more {n = n} {k = k} l f, h)
  keep_slice_bits from bits (ExprValue.Const c z) h f =
      keep_then _ _ (keep_require _ _) λ k l p. keep_then _ _ (keep_require _ _) λ k₁ l₁ q. keep_pure _ λ j m. omega arith
  keep_slice_bits {n} from bits (ExprValue.BitRange v before whole) h f =
      keep_then _ _ (keep_require _ _) λ k l p. keep_pure _ λ j m. (fits_more {n = n} {k = j} (omega arith) f.0, h)
  keep_slice_bits from bits (ExprValue.Unbound v) h f = keep_slice_read from bits _ h f
  keep_slice_bits from bits (ExprValue.Apply operation c vs) h f = keep_slice_read from bits _ h f
  keep_slice_bits from bits (ExprValue.RamRef v z) h f = keep_slice_read from bits _ h f
  keep_slice_bits from bits (ExprValue.RegisterRef v z) h f = keep_slice_read from bits _ h f
  keep_slice_bits from bits (ExprValue.AddressOf v z) h f = keep_slice_read from bits _ h f

  -- addresses

  keep_given : {A : Type 0} {n : ℕ} (r : Refusal) (x : Option A) → Keeps e n (λ k _. Unit {0}) (expect r x)
  unfolding expect
  keep_given r (some a) = keep_pure a λ k l. tt
  keep_given r none = keep_refuse r

  keep_space : {n : ℕ} (x : Option ℕ) → Keeps e n (λ k _. Unit {0}) (resolve_space x)
  unfolding resolve_space
  keep_space (some name) = keep_bind _ _ (keep_lookup name) λ k l y p. keep_as_space y
  keep_space none = keep_bind _ _ keep_section λ k l sec d. keep_given _ _

  keep_in_const : {n : ℕ} (z : Option ℕ) (x : ExprValue) → SizeWithin z → ExprFits e n x
      → Keeps e n (λ k y. ExprFits e k y) (in_const_space z x)
  unfolding in_const_space
  keep_in_const {n} z (ExprValue.Local v) h f = keep_pure _ λ k l. let g = fits_more {n = n} {k = k} l f in
      record { number = g.number; offset = g.offset; size = either_small z v.size h g.size }
  keep_in_const z (ExprValue.Const c y) h f = keep_pure _ λ k l. either_small z y h f
  keep_in_const z (ExprValue.Unbound v) h f = keep_refuse _
  keep_in_const z (ExprValue.Apply operation c vs) h f = keep_refuse _
  keep_in_const z (ExprValue.RamRef v y) h f = keep_refuse _
  keep_in_const z (ExprValue.RegisterRef v y) h f = keep_refuse _
  keep_in_const z (ExprValue.AddressOf v y) h f = keep_refuse _
  keep_in_const z (ExprValue.BitRange v from bits) h f = keep_refuse _

  keep_reference : {n : ℕ} (kind : SpaceKind) (v : Value) (z : ℕ) → z ≤ 1024 → ValueFits e n v
      → Keeps e n (λ k y. ExprFits e k y) (reference kind v z)
  unfolding reference
  keep_reference {n} SpaceKind.RamSpace v z h f = keep_pure _ λ k l. (fits_more {n = n} {k = k} l f, omega arith)
  keep_reference {n} SpaceKind.RegisterSpace v z h f = keep_pure _ λ k l. (fits_more {n = n} {k = k} l f, h)
  keep_reference SpaceKind.OtherSpace v z h f = keep_refuse _

  keep_address_in : {n : ℕ} (space z : Option ℕ) (x : ExprValue) → SizeWithin z → ExprFits e n x
      → Keeps e n (λ k y. ExprFits e k y) (address_in space z x)
  unfolding address_in
  keep_address_in {n} space z x h f =
      keep_bind _ _ (keep_space space) λ k l to p.
      keep_bind _ _ (keep_read x none (expr_more e n k l x f) tt) λ k₁ l₁ v q.
      keep_reference to.kind v (or_else 0 z) h q

  pub keep_address : {n : ℕ} (space z : Option ℕ) (m : Walk ExprValue) → SizeWithin z → Keeps e n (λ k x. ExprFits e k x) m
      → Keeps e n (λ k y. ExprFits e k y) (resolve_address space z m)
  unfolding resolve_address
  keep_address space z m h f =
      keep_bind _ _ f λ k l x p.
      keep_bind _ _ keep_section λ k₁ l₁ sec d.
      keep_if _ _ _ (keep_in_const z x h (expr_more e k k₁ l₁ x p)) (keep_address_in space z x h (expr_more e k k₁ l₁ x p))

  -- operators

  -- a value of which nothing is known but that it fits, with at least n temporaries before it
  abbrev Anywhere : ℕ → Walk Value → Type 0
  Anywhere n m = (k : ℕ) → n ≤ k → Keeps e k (λ j v. ValueFits e j v) m

  keep_binary : {n : ℕ} (operation : Operation) (a b : Walk Value) → Applicable operation 0 2 → Anywhere n a → Anywhere n b
      → Keeps e n (λ k y. ExprFits e k y) (binary operation a b)
  unfolding binary
  keep_binary {n} operation a b h f g =
      keep_bind _ _ (f n (omega arith)) λ k l u p.
      keep_bind _ _ (g k l) λ k₁ l₁ v q.
      keep_pure _ λ j m. (h, (fits_more {n = k} {k = j} (omega arith) p, (fits_more {n = k₁} {k = j} m q, tt)))

  keep_resolve_op : {n : ℕ} (o : PcodeOp) (a b : Walk Value) → Applicable (operation_in o) 0 2 → Anywhere n a → Anywhere n b
      → Keeps e n (λ k y. ExprFits e k y) (resolve_op o a b)
  unfolding resolve_op operation_in
  keep_resolve_op (PcodeOp.plain operation) a b h f g = keep_binary operation a b h f g
  keep_resolve_op (PcodeOp.greater operation) a b h f g = keep_binary operation b a h g f

  -- calls

  keep_pass_args : {n : ℕ} (i : ℕ) (xs : List ExprValue) → i + length xs ≤ 6 → Each (ExprFits e n) xs
      → Keeps e n (λ k _. Unit {0}) (pass_args i xs)
  unfolding pass_args placing or_else and_then operation_of operation_number
  keep_pass_args i [] h f = keep_pure tt λ k l. tt
  keep_pass_args {n} i (x ∷ xs) h f =
      keep_bind _ _ (keep_read x none f.0 tt) λ k l v p.
      keep_then _ _ (keep_op_no_output w Operation.Arg i (v ∷ []) (arg_applies i (omega arith)) refl (p, tt)) λ k₁ l₁ _.
      keep_pass_args (suc i) xs (omega arith) (exprs_more e n k₁ (omega arith) xs f.1)

  drop_fits : (n i : ℕ) (xs : List ExprValue) → Each (ExprFits e n) xs → Each (ExprFits e n) (drop i xs)
  drop_fits n zero xs f = f
  drop_fits n (suc i) [] f = tt
  drop_fits n (suc i) (x ∷ xs) f = drop_fits n i xs f.1

  take_fits : (n i : ℕ) (xs : List ExprValue) → Each (ExprFits e n) xs → Each (ExprFits e n) (take i xs)
  take_fits n zero xs f = tt
  take_fits n (suc i) [] f = tt
  take_fits n (suc i) (x ∷ xs) f = (f.0, take_fits n i xs f.1)

  keep_user_op : {n : ℕ} (id : ℕ) (xs : List ExprValue) → id < 256 → length xs ≤ 8 → Each (ExprFits e n) xs
      → Keeps e n (λ k y. ExprFits e k y) (call_user_op id xs)
  unfolding call_user_op
  keep_user_op {n} id xs h c f =
      let d = length-drop 2 xs in
      let t = length-take 2 xs in
      keep_then _ _ (keep_pass_args 0 (drop 2 xs) (omega arith) (drop_fits n 2 xs f)) λ k l _.
      keep_bind _ _ (keep_read_all (take 2 xs) (take_fits k 2 xs (exprs_more e n k l xs f))) λ k₁ l₁ vs p.
      keep_pure _ λ j m. (user_applies id (length vs) h (rw p.1 (omega arith)), values_more e k₁ j m vs p.0)

  keep_subpiece : {n : ℕ} (name : ℕ) (xs : Args) → Keeps e n (λ k y. ExprFits e k y) (subpiece name xs)
  unfolding subpiece
  keep_subpiece name xs =
      keep_bind _ _ (keep_value_of (resolve_ident name) (keep_ident name)) λ k l v p.
      keep_bind _ _ (keep_expect _ _) λ k₁ l₁ c q.
      keep_then _ _ (keep_require _ _) λ k₂ l₂ r.
      keep_pure _ λ j m. (part refl refl (leb-true c 255 r), (fits_more {n = k} {k = j} (omega arith) p, tt))

  -- the arguments, resolved, with at least n temporaries before them
  abbrev Arguments : ℕ → ℕ → Walk (List ExprValue) → Type 0
  Arguments n c m = (k : ℕ) → n ≤ k → Keeps e k (Exprs c) m

  keep_call_symbol : {n : ℕ} (name : ℕ) (xs : Args) (m : Walk (List ExprValue)) (y : Option Symbol) → arg_count xs ≤ 8 → FoundPlaced e.section y
      → Arguments n (arg_count xs) m → Keeps e n (λ k y. ExprFits e k y) (call_symbol name xs m y)
  unfolding call_symbol
  keep_call_symbol name xs m none c h f = keep_subpiece name xs
  keep_call_symbol {n} name xs m (some (Symbol.UserOp i)) c h f =
      let s = w.user_ops in
      keep_bind _ _ (f n (omega arith)) λ k l zs p. keep_user_op i zs (omega arith) (rw p.1 c) p.0
  keep_call_symbol name xs m (some (Symbol.Macro i x)) c h f = keep_refuse _
  keep_call_symbol name xs m (some (Symbol.Space i x)) c h f = keep_subpiece name xs
  keep_call_symbol name xs m (some (Symbol.Register i x)) c h f = keep_subpiece name xs
  keep_call_symbol name xs m (some (Symbol.BitRange i x)) c h f = keep_subpiece name xs
  keep_call_symbol name xs m (some (Symbol.Table i x)) c h f = keep_subpiece name xs
  keep_call_symbol name xs m (some (Symbol.Other i)) c h f = keep_subpiece name xs

  keep_call_inbuilt : {n : ℕ} (f : Inbuilt) (xs : Args) (m : Walk (List Value)) → Applicable f.op 0 f.arguments
      → ((k : ℕ) → n ≤ k → Keeps e k (Values (arg_count xs)) m) → Keeps e n (λ k y. ExprFits e k y) (call_inbuilt f xs m)
  unfolding call_inbuilt
  keep_call_inbuilt f xs m h g =
      keep_then _ _ (keep_require _ _) λ k l p.
      keep_bind _ _ (g k l) λ k₁ l₁ vs q.
      keep_pure _ λ j i. (subst (Applicable f.op 0) (sym (q.1 ∙ eqb-true _ _ p)) h, values_more e k₁ j i vs q.0)

  keep_call_named : {n : ℕ} (name : ℕ) (text : List ℕ) (xs : Args) (vs : Walk (List Value)) (m : Walk (List ExprValue))
      (f : Option Inbuilt) → translate_inbuilt_func text ≡ f → arg_count xs ≤ 8
      → ((k : ℕ) → n ≤ k → Keeps e k (Values (arg_count xs)) vs) → Arguments n (arg_count xs) m
      → Keeps e n (λ k y. ExprFits e k y) (call_named name xs vs m f)
  unfolding call_named
  keep_call_named name text xs vs m (some f) d c g h = keep_call_inbuilt f xs vs (inbuilt_applies text f d) g
  keep_call_named name text xs vs m none d c g h =
      keep_bind _ _ (keep_lookup name) λ k l y p. keep_call_symbol name xs m y c p (λ j i. h j (omega arith))

  keep_call : {n : ℕ} (name : ℕ) (xs : Args) (vs : Walk (List Value)) (m : Walk (List ExprValue)) → arg_count xs ≤ 8
      → ((k : ℕ) → n ≤ k → Keeps e k (Values (arg_count xs)) vs) → Arguments n (arg_count xs) m
      → Keeps e n (λ k y. ExprFits e k y) (resolve_call name xs vs m)
  unfolding resolve_call
  keep_call name xs vs m c g h = keep_bind _ _ keep_section λ k l sec d. keep_call_named name _ xs vs m _ refl c (λ j i. g j (omega arith))
      (λ j i. h j (omega arith))

  mutual
    unfolding resolve_expr resolve_args resolve_arg_values ExprWithin ArgsWithin arg_count or_else

    pub keep_expr : (x : PcodeExpr) → ExprWithin x → (n : ℕ) → Keeps e n (λ k y. ExprFits e k y) (resolve_expr x)
    keep_expr (PcodeExpr.Ident name) h n = keep_ident name
    keep_expr (PcodeExpr.Integer v) h n = keep_pure _ λ k l. omega arith
    keep_expr (PcodeExpr.AddressOf z name) h n = keep_bind _ _ (keep_ident name) λ k l x f. keep_bind _ _ (keep_expect _ _)
        λ k₁ l₁ v d. keep_pure _ λ j m. (fits_more {n = k} {k = j} (omega arith) (as_local_lem e k x v f d), omega arith)
    keep_expr (PcodeExpr.Truncate x z) h n = keep_bind _ _ (keep_expr x h.0 n) λ k l y f. let s = h.1 in
        keep_slice_bits 0 (8 * z) y (omega arith) f
    keep_expr (PcodeExpr.SliceBits x from bits) h n = keep_bind _ _ (keep_expr x h.0 n) λ k l y f. keep_slice_bits from bits y h.1 f
    keep_expr (PcodeExpr.Op a o b) h n = keep_resolve_op o _ _ (operator_applies o h.1)
        (λ k l. keep_value_of _ (keep_expr a h.0 k)) (λ k l. keep_value_of _ (keep_expr b h.2 k))
    keep_expr (PcodeExpr.Deref space z x) h n = keep_address space z _ h.0 (keep_expr x h.1 n)
    keep_expr (PcodeExpr.ConstantPoolRef xs) h n = keep_refuse _
    keep_expr (PcodeExpr.Call name xs) h n = keep_call name xs _ _ h.0 (λ k l. keep_arg_values xs h.1 k)
        (λ k l. keep_args xs h.1 k)

    pub keep_args : (xs : Args) → ArgsWithin xs → (n : ℕ) → Keeps e n (Exprs (arg_count xs)) (resolve_args xs)
    keep_args no_args h n = keep_pure _ λ k l. (tt, refl)
    keep_args (arg x xs) h n =
        keep_bind _ _ (keep_expr x h.0 n) λ k l y p.
        keep_bind _ _ (keep_args xs h.1 k) λ k₁ l₁ ys q.
        keep_pure _ λ j m. ((expr_more e k j (omega arith) y p, exprs_more e k₁ j m ys q.0), ap suc q.1)

    pub keep_arg_values : (xs : Args) → ArgsWithin xs → (n : ℕ) → Keeps e n (Values (arg_count xs)) (resolve_arg_values xs)
    keep_arg_values no_args h n = keep_pure _ λ k l. (tt, refl)
    keep_arg_values (arg x xs) h n =
        keep_bind _ _ (keep_value_of _ (keep_expr x h.0 n)) λ k l v p.
        keep_bind _ _ (keep_arg_values xs h.1 k) λ k₁ l₁ vs q.
        keep_pure _ λ j m. ((fits_more {n = k} {k = j} (omega arith) p, values_more e k₁ j m vs q.0), ap suc q.1)
