-- Every statement, and so the whole walk, keeps the state in order.
use Prim.Native.Nat.{ℕ, zero, suc, ◌+◌, ◌/◌, ◌≤◌, ◌<◌}
use mathlib.Core.Path.{◌≡◌, refl, subst}
use mathlib.Core.Bool.{Bool, true, false}
use mathlib.Core.List.{List, [], ◌∷◌}
use mathlib.Core.Option.{Option, none, some}
use native.Mathlib.Omega.{arith}
use lib.Dec.{eqb}
use lib.ListN.{length, get_elem?}
use Rattle.prelude.specs.Base.{when◌then◌else◌, or_else, and_then, position}
use Rattle.definition.specs.Refusals.{macro_too_deep}
use Rattle.definition.specs.Operations.{Operation, operation_number}
use Rattle.definition.specs.Value.{Kind, kind_number, Value, is_kind, constant, operation_of, Export}
use Rattle.definition.specs.Ast.{PcodeExpr, Args, JumpLabel, BranchDst, BranchHint, Statement, Macro, Section}
use Rattle.definition.specs.Sizes.{pointer_size}
use Rattle.definition.specs.Walk.{ExprValue, Env, Walk, ◌>>=◌, refuse, state, change, with_export}
use Rattle.definition.specs.Scope.{Symbol, Meaning, means, wrong}
use Rattle.definition.specs.Expressions.{mask, resolve_expr, arg_count}
use Rattle.definition.specs.Statements.{Destination, as_destination, as_name, target_name, dst_meaning, dst_named, resolve_dst, store, mask_but, write_bits, read_to, copy_into, Reference, to_ram, to_register, as_reference, store_register, store_in, store_at, export_of, build, hint_number, jump_value, direct_address, resolve_branch, delay_slot, user_op_statement, macro_statement, symbol_statement, call_statement, resolve_statement, begin_at, counted, begin, resolve_all, enter_macro, resolve_body}
use Rattle.definition.specs.Checker.{number_fits}
use Rattle.definition_guarantee.specs.Tests.{Each}
use Rattle.definition_guarantee.proofs.Tests.{never, each_at, then_some, none_some, some_same}
use Rattle.definition_guarantee.proofs.Layouts.{laid_out}
use Rattle.definition_guarantee.proofs.WholeList.{placing, build_laid}
use Rattle.definition_guarantee.specs.Limits.{SizeWithin, ExprWithin, ArgsWithin, JumpWithin, DestinationWithin, StatementWithin, WithinLimits}
use Rattle.definition_guarantee.proofs.Globals.{FoundPlaced}
use Rattle.definition_guarantee.proofs.Kept.{small_section, fits_more, ValueFits, ExprFits, expr_more, later_refl, Keeps, keep_bind, keep_then, keep_pure, keep_refuse, keep_require, keep_expect, keep_if, keep_section, keep_known, keep_sliced, exprs_more, keep_untouched}
use Rattle.definition_guarantee.proofs.Pushes.{keep_add_tmp, keep_push, keep_op, keep_op_no_output}
use Rattle.definition_guarantee.proofs.Shapes.{constant-fits, left_applies, and_applies, or_applies, extend_applies, store_applies, branch_applies, goto_applies, invalid_applies, call_applies, store_laid, delay_laid}
use Rattle.definition_guarantee.proofs.KeptExpressions.{keep_expr, keep_args, as_local_lem, keep_lookup, keep_table, keep_meaning, keep_ident, keep_set_stated, keep_take_stated, keep_read, keep_value_of, keep_read_all, keep_address}
use Rattle.definition_guarantee.proofs.KeptLabels.{keep_label, keep_placed, keep_named_tmp, keep_macro}

-- nothing more is known of a statement
abbrev pub Nothing : ℕ → Unit {0} → Type 0
Nothing k _ = Unit {0}

hint-small : (h : BranchHint) → hint_number h < 3
unfolding hint_number
hint-small BranchHint.Jump = omega arith
hint-small BranchHint.Call = omega arith
hint-small BranchHint.Return = omega arith

position-below : {A : Type 0} (p : A → Bool) (i n : ℕ) (xs : List A) → position p i xs ≡ some n → n < i + length xs
unfolding position
position-below p i n [] e = none_some {x = none} refl e
position-below {A} p i n (x ∷ xs) e = go (p x) e (position-below p (suc i) n xs)
  where
    go : (b : Bool) → (when b then some i else position p (suc i) xs) ≡ some n → (position p (suc i) xs ≡ some n → n < suc i + length xs)
        → n < i + length (x ∷ xs)
    go true d r = let q : i ≡ n = cc in omega arith
    go false d r = let q = r d in omega arith

ref_fits : (t sub n : ℕ) (k : Kind) → eqb (kind_number Kind.Subtable) (kind_number k) ≡ true → number_fits t sub k n ≡ true
    → number_fits t sub Kind.SubtableRef n ≡ true
unfolding number_fits kind_number
ref_fits t sub n Kind.InstStart e h = never e
ref_fits t sub n Kind.InstNext e h = never e
ref_fits t sub n Kind.Register e h = never e
ref_fits t sub n Kind.Field e h = never e
ref_fits t sub n Kind.Subtable e h = h
ref_fits t sub n Kind.SubtableRef e h = never e
ref_fits t sub n Kind.PcodeTmp e h = never e
ref_fits t sub n Kind.Constant e h = never e

module _ (e : Env) (w : WithinLimits e.section) where
  abbrev DestinationFits : ℕ → Destination → Type 0
  DestinationFits k (Destination.Local v) = ValueFits e k v
  DestinationFits k (Destination.RamRef v z) = ValueFits e k v × (z < 65535)
  DestinationFits k (Destination.BitRange v from bits) = ValueFits e k v × (bits ≤ 8192)

  destination_more : (n k : ℕ) → n ≤ k → (d : Destination) → DestinationFits n d → DestinationFits k d
  destination_more n k h (Destination.Local v) f = fits_more {n = n} {k = k} h f
  destination_more n k h (Destination.RamRef v z) f = (fits_more {n = n} {k = k} h f.0, f.1)
  destination_more n k h (Destination.BitRange v from bits) f = (fits_more {n = n} {k = k} h f.0, f.1)

  -- targets

  keep_as_destination : {n : ℕ} (x : ExprValue) → ExprFits e n x → Keeps e n DestinationFits (as_destination x)
  unfolding as_destination
  keep_as_destination {n} (ExprValue.Local v) f = keep_pure _ λ k l. fits_more {n = n} {k = k} l f
  keep_as_destination {n} (ExprValue.RamRef v z) f = keep_pure _ λ k l. (fits_more {n = n} {k = k} l f.0, f.1)
  keep_as_destination {n} (ExprValue.BitRange v from bits) f = keep_pure _ λ k l. (fits_more {n = n} {k = k} l f.0, f.1)
  keep_as_destination (ExprValue.Unbound v) f = keep_refuse _
  keep_as_destination (ExprValue.Const c z) f = keep_refuse _
  keep_as_destination (ExprValue.Apply operation c vs) f = keep_refuse _
  keep_as_destination (ExprValue.RegisterRef v z) f = keep_refuse _
  keep_as_destination (ExprValue.AddressOf v z) f = keep_refuse _

  keep_dst : {n : ℕ} (to : PcodeExpr) → ExprWithin to → Keeps e n DestinationFits (resolve_expr to >>= as_destination)
  keep_dst {n} to h = keep_bind _ _ (keep_expr e w to h n) λ k l x f. keep_as_destination x f

  keep_dst_meaning : {n : ℕ} (to : PcodeExpr) (name : ℕ) (z : Option ℕ) (m : Meaning) → ExprWithin to → SizeWithin z
      → Keeps e n DestinationFits (dst_meaning to name z m)
  unfolding dst_meaning
  keep_dst_meaning to name z (means x) h s = keep_dst to h
  keep_dst_meaning to name z (wrong r) h s = keep_bind _ _ (keep_named_tmp e name z s) λ k l v f. keep_pure _
      λ j m. fits_more {n = k} {k = j} m f

  -- a truncated name's size is within limits
  target_within : (to : PcodeExpr) (x : ℕ × Option ℕ) → ExprWithin to → target_name to ≡ some x → SizeWithin x.1
  unfolding target_name ExprWithin or_else
  target_within (PcodeExpr.Ident name) x h d = subst (λ (y : ℕ × Option ℕ). SizeWithin y.1) (some_same d) (omega arith)
  target_within (PcodeExpr.Truncate y z) x h d =
      let q = then_some (as_name y) _ x d in
      let s = h.1 in
      subst (λ (y : ℕ × Option ℕ). SizeWithin y.1) (some_same q.2) s
  target_within (PcodeExpr.Integer v) x h d = none_some {x = none} refl d
  target_within (PcodeExpr.AddressOf z name) x h d = none_some {x = none} refl d
  target_within (PcodeExpr.SliceBits y from bits) x h d = none_some {x = none} refl d
  target_within (PcodeExpr.Op a o b) x h d = none_some {x = none} refl d
  target_within (PcodeExpr.Deref name z y) x h d = none_some {x = none} refl d
  target_within (PcodeExpr.ConstantPoolRef xs) x h d = none_some {x = none} refl d
  target_within (PcodeExpr.Call name xs) x h d = none_some {x = none} refl d

  keep_dst_named : {n : ℕ} (to : PcodeExpr) (x : Option (ℕ × Option ℕ)) → ExprWithin to → target_name to ≡ x
      → Keeps e n DestinationFits (dst_named to x)
  unfolding dst_named
  keep_dst_named to none h d = keep_dst to h
  keep_dst_named to (some x) h d = keep_bind _ _ (keep_meaning e w x.0) λ k l m f. keep_dst_meaning to x.0 x.1 m h
      (target_within to x h d)

  keep_resolve_dst : {n : ℕ} (to : PcodeExpr) → ExprWithin to → Keeps e n DestinationFits (resolve_dst to)
  unfolding resolve_dst
  keep_resolve_dst to h = keep_dst_named to (target_name to) h refl

  -- copies and stores

  keep_store : {n : ℕ} (z : ℕ) (pointer v : Value) → z < 65535 → ValueFits e n pointer → ValueFits e n v
      → Keeps e n Nothing (store z pointer v)
  unfolding store placing or_else and_then operation_of operation_number
  keep_store {n} z pointer v h f g =
      keep_bind _ _ (keep_take_stated e w z v h g) λ k l u p. keep_op_no_output w Operation.Store 0 (pointer ∷ u ∷ []) store_applies refl
      (fits_more {n = n} {k = k} l f, (p, tt))

  keep_write_bits : {n : ℕ} (x : ExprValue) (to : Value) (from bits : ℕ) → ExprFits e n x → ValueFits e n to
      → Keeps e n Nothing (write_bits x to from bits)
  unfolding write_bits or_else
  keep_write_bits {n} x to from bits f g =
      keep_bind _ _ (keep_read e w x none f tt) λ k l v p.
      keep_then _ _ (keep_require _ _) λ k₁ l₁ r.
      keep_bind _ _ (keep_known w to (fits_more {n = n} {k = k₁} (omega arith) g)) λ k₂ l₂ z s.
      keep_bind _ _ (keep_add_tmp none z s) λ k₃ l₃ prev q.
      keep_bind _ _ (keep_op w Operation.IntAnd 0 (to ∷ constant (mask_but from bits) ∷ []) (some prev) and_applies
      (fits_more {n = n} {k = k₃} (omega arith) g, (constant-fits k₃ _ (mask_but from bits) none (omega arith), tt)) q) λ k₄ l₄ _ _.
      keep_bind _ _ (keep_known w to (fits_more {n = n} {k = k₄} (omega arith) g)) λ k₅ l₅ y t.
      keep_bind _ _ (keep_add_tmp none y t) λ k₆ l₆ tmp u.
      keep_bind _ _ (keep_op w Operation.ZeroExtend 0 (v ∷ []) (some tmp) extend_applies (fits_more {n = k} {k = k₆} (omega arith) p, tt)
      u) λ k₇ l₇ _ _.
      keep_bind _ _ (keep_op w Operation.IntAnd 0 (tmp ∷ constant (mask bits) ∷ []) (some tmp) and_applies
      (fits_more {n = k₆} {k = k₇} l₇ u, (constant-fits k₇ _ (mask bits) none (omega arith), tt)) (fits_more {n = k₆} {k = k₇} l₇ u))
      λ k₈ l₈ _ _.
      keep_bind _ _ (keep_op w Operation.IntLeft 0 (tmp ∷ constant from ∷ []) (some tmp) left_applies
      (fits_more {n = k₆} {k = k₈} (omega arith) u, (constant-fits k₈ _ from none (omega arith), tt))
      (fits_more {n = k₆} {k = k₈} (omega arith) u)) λ k₉ l₉ _ _.
      keep_bind _ _ (keep_op w Operation.IntOr 0 (prev ∷ tmp ∷ []) (some to) or_applies
      (fits_more {n = k₃} {k = k₉} (omega arith) q, (fits_more {n = k₆} {k = k₉} (omega arith) u, tt))
      (fits_more {n = n} {k = k₉} (omega arith) g)) λ j m _ _.
      keep_pure tt λ _ _. tt

  keep_read_to : {n : ℕ} (x : ExprValue) (to : Value) → ExprFits e n x → ValueFits e n to → Keeps e n Nothing (read_to x to)
  unfolding read_to
  keep_read_to x to f g = keep_bind _ _ (keep_read e w x (some to) f g) λ k l v p. keep_pure tt λ _ _. tt

  keep_copy_into : {n : ℕ} (x : ExprValue) (d : Destination) → ExprFits e n x → DestinationFits n d → Keeps e n Nothing (copy_into x d)
  unfolding copy_into
  keep_copy_into x (Destination.Local to) f g = keep_read_to x to f g
  keep_copy_into {n} x (Destination.RamRef pointer z) f g =
      keep_bind _ _ (keep_read e w x none f tt) λ k l v p. keep_store z pointer v g.1 (fits_more {n = n} {k = k} l g.0) p
  keep_copy_into {n} x (Destination.BitRange to from bits) f g =
      let s = g.1 in
      keep_if _ _ _ (keep_bind _ _ (keep_sliced (from / 8) (bits / 8) to (omega arith) g.0) λ k l v p. keep_read_to x v
      (expr_more e n k l x f) p) (keep_write_bits x to from bits f g.0)

  -- a reference: RAM's size fits a word, a register's is within limits
  abbrev ReferenceFits : ℕ → Reference → Type 0
  ReferenceFits k (to_ram pointer z) = ValueFits e k pointer × (z < 65535)
  ReferenceFits k (to_register pointer z) = ValueFits e k pointer × (z ≤ 1024)

  reference-fits : (n : ℕ) (x : ExprValue) (to : Reference) → as_reference x ≡ some to → ExprFits e n x → ReferenceFits n to
  unfolding as_reference
  reference-fits n (ExprValue.RamRef pointer z) to d f = subst (ReferenceFits n) (some_same d) f
  reference-fits n (ExprValue.RegisterRef pointer z) to d f = subst (ReferenceFits n) (some_same d) f
  reference-fits n (ExprValue.Local u) to d f = none_some {x = none} refl d
  reference-fits n (ExprValue.Unbound u) to d f = none_some {x = none} refl d
  reference-fits n (ExprValue.Const c z) to d f = none_some {x = none} refl d
  reference-fits n (ExprValue.Apply operation c vs) to d f = none_some {x = none} refl d
  reference-fits n (ExprValue.AddressOf u z) to d f = none_some {x = none} refl d
  reference-fits n (ExprValue.BitRange u from bits) to d f = none_some {x = none} refl d

  keep_store_in : {n : ℕ} (to : Reference) (v : Value) → ReferenceFits n to → ValueFits e n v → Keeps e n Nothing (store_in to v)
  unfolding store_in store_register placing or_else and_then operation_of
  keep_store_in (to_ram pointer z) v f g = keep_store z pointer v f.1 f.0 g
  keep_store_in {n} (to_register pointer z) v f g =
      let s = f.1 in
      keep_bind _ _ (keep_set_stated e w z v (omega arith) g) λ k l u p. keep_push _
      (laid_out (store_laid k _ z pointer u s (fits_more {n = n} {k = k} l f.0) p)) refl

  keep_store_at : {n : ℕ} (v : Value) (x : ExprValue) → ValueFits e n v → ExprFits e n x → Keeps e n Nothing (store_at v x)
  unfolding store_at
  keep_store_at {n} v x f g = keep_bind _ _ (keep_expect _ _) λ k l to d. keep_store_in to v
      (reference-fits k x to d (expr_more e n k l x g)) (fits_more {n = n} {k = k} l f)

  -- the export

  keep_export_of : {n : ℕ} (x : ExprValue) (r : Option Reference) → ExprFits e n x → Keeps e n (λ k _. Unit {0}) (export_of x r)
  unfolding export_of
  keep_export_of x (some r) f = keep_pure _ λ k l. tt
  keep_export_of x none f = keep_bind _ _ (keep_read e w x none f tt) λ k l v p. keep_pure _ λ _ _. tt

  keep_export : {n : ℕ} (x : Export) → Keeps e n Nothing (change (with_export x))
  keep_export x = keep_untouched (with_export x) λ s. record { temporaries = refl; actions = refl; scope = refl; next = refl }

  -- builds

  keep_build : {n : ℕ} (name : ℕ) → Keeps e n Nothing (build name)
  unfolding build placing or_else and_then operation_of
  keep_build {n} name =
      keep_bind _ _ (keep_table e w name) λ k l t _.
      keep_bind _ _ keep_section λ k₁ l₁ sec d.
      keep_bind _ _ (keep_expect _ _) λ k₂ l₂ i p.
      keep_push _ (laid_out (build_laid k₂ _ i (subst (λ (x : Section). i < length x.subtables) d
      (let h = position-below _ 0 i sec.subtables p in omega arith)))) refl

  -- branches

  keep_jump : {n : ℕ} (l : JumpLabel) → JumpWithin l → Keeps e n (λ k x. ExprFits e k x) (jump_value l)
  unfolding jump_value JumpWithin or_else
  keep_jump (JumpLabel.Ident name) h = keep_ident e w name
  keep_jump (JumpLabel.Integer v z) h = keep_pure _ λ k l. omega arith

  keep_direct : {n : ℕ} (x : ExprValue) → ExprFits e n x → Keeps e n (λ k v. ValueFits e k v) (direct_address x)
  unfolding direct_address is_kind or_else
  keep_direct {n} x f =
      keep_bind _ _ keep_section λ k l sec d.
      keep_bind _ _ (keep_expect _ _) λ k₁ l₁ v p.
      keep_pure _ λ j m. go j sec v d (as_local_lem e j x v (expr_more e n j (omega arith) x f) p) (is_kind Kind.Subtable v) refl
    where
      go : (j : ℕ) (sec : Section) (v : Value) → sec ≡ e.section → ValueFits e j v → (b : Bool) → is_kind Kind.Subtable v ≡ b
          → ValueFits e j (when b then record {
            kind = Kind.SubtableRef;
            number = v.number;
            offset = v.offset;
            size = some (pointer_size sec);
          } else v)
      go j sec v d f true b = record {
        number = ref_fits j _ v.number v.kind b f.number;
        offset = f.offset;
        size = rw d (small_section e.section w).pointer;
      }
      go j sec v d f false b = f

  keep_branch : {n : ℕ} (cond : Value) (d : BranchDst) (h : BranchHint) → DestinationWithin d → ValueFits e n cond
      → Keeps e n Nothing (resolve_branch cond d h)
  unfolding resolve_branch DestinationWithin placing or_else and_then operation_of operation_number
  keep_branch {n} cond (BranchDst.Direct l) h s f =
      keep_bind _ _ (keep_jump l s) λ k i x p.
      keep_bind _ _ (keep_direct x p) λ k₁ i₁ v q.
      keep_op_no_output w Operation.Branch (hint_number h) (cond ∷ v ∷ []) (branch_applies (hint_number h) (hint-small h)) refl
      (fits_more {n = n} {k = k₁} (omega arith) f, (q, tt))
  keep_branch {n} cond (BranchDst.Indirect l) h s f =
      keep_bind _ _ (keep_jump l s) λ k i x p.
      keep_bind _ _ (keep_read e w x none p tt) λ k₁ i₁ v q.
      keep_op_no_output w Operation.Branch (hint_number h) (cond ∷ v ∷ []) (branch_applies (hint_number h) (hint-small h)) refl
      (fits_more {n = n} {k = k₁} (omega arith) f, (q, tt))
  keep_branch {n} cond (BranchDst.Label name) h s f =
      keep_bind _ _ (keep_label e name) λ k i l p.
      keep_op_no_output w Operation.PcodeBranch l.id (cond ∷ constant 0 ∷ []) (goto_applies l.id p) refl
      (fits_more {n = n} {k = k} i f, (constant-fits k _ 0 none (omega arith), tt))

  -- calls

  keep_delay_slot : {n : ℕ} (x : Option ℕ) → Keeps e n Nothing (delay_slot x)
  unfolding delay_slot placing or_else and_then operation_of
  keep_delay_slot x = keep_bind _ _ (keep_expect _ _) λ k l c p. keep_then _ _ (keep_require _ _) λ k₁ l₁ q. keep_push _
      (laid_out (delay_laid k₁ _)) refl

  keep_user_op_statement : {n : ℕ} (id : ℕ) (xs : Args) → id < 256 → arg_count xs ≤ 8 → ArgsWithin xs
      → Keeps e n Nothing (user_op_statement id xs)
  unfolding user_op_statement placing or_else and_then operation_of operation_number
  keep_user_op_statement {n} id xs h c a =
      keep_bind _ _ (keep_args e w xs a n) λ k l ys p.
      keep_bind _ _ (keep_read_all e w ys p.0) λ k₁ l₁ vs q.
      keep_op_no_output w Operation.PcodeOp id vs (call_applies id (length vs) h (rw (q.1, p.1) c)) refl q.0

  -- what is asked of the entering of a macro
  abbrev Enters : (ℕ → Macro → List ExprValue → Walk (Unit {0})) → Type 0
  Enters enter = (id : ℕ) (m : Macro) (xs : List ExprValue) (n : ℕ) → Each StatementWithin m.body → Each (ExprFits e n) xs
      → Keeps e n Nothing (enter id m xs)

  module _ (enter : ℕ → Macro → List ExprValue → Walk (Unit {0})) (enters : Enters enter) where
    keep_macro_statement : {n : ℕ} (id : ℕ) (m : Macro) (xs : Args) → get_elem? e.section.macros id ≡ some m → ArgsWithin xs
        → Keeps e n Nothing (macro_statement enter id m xs)
    unfolding macro_statement
    keep_macro_statement {n} id m xs d a =
        keep_bind _ _ (keep_args e w xs a n) λ k l ys p.
        keep_then _ _ (keep_require _ _) λ k₁ l₁ q.
        enters id m ys k₁ (each_at (λ (x : Macro). Each StatementWithin x.body) e.section.macros id m w.macros d)
        (exprs_more e k k₁ l₁ ys p.0)

    keep_symbol_statement : {n : ℕ} (xs : Args) (y : Option Symbol) → FoundPlaced e.section y → arg_count xs ≤ 8 → ArgsWithin xs
        → Keeps e n Nothing (symbol_statement enter xs y)
    unfolding symbol_statement
    keep_symbol_statement xs none h c a = keep_refuse _
    keep_symbol_statement xs (some (Symbol.UserOp i)) h c a = let s = w.user_ops in keep_user_op_statement i xs (omega arith) c a
    keep_symbol_statement xs (some (Symbol.Macro i m)) h c a = keep_macro_statement i m xs h a
    keep_symbol_statement xs (some (Symbol.Space i x)) h c a = keep_refuse _
    keep_symbol_statement xs (some (Symbol.Register i x)) h c a = keep_refuse _
    keep_symbol_statement xs (some (Symbol.BitRange i x)) h c a = keep_refuse _
    keep_symbol_statement xs (some (Symbol.Table i x)) h c a = keep_refuse _
    keep_symbol_statement xs (some (Symbol.Other i)) h c a = keep_refuse _

    keep_call_statement : {n : ℕ} (name : ℕ) (xs : Args) → arg_count xs ≤ 8 → ArgsWithin xs
        → Keeps e n Nothing (call_statement enter name xs)
    unfolding call_statement
    keep_call_statement name xs c a =
        keep_bind _ _ keep_section λ k l sec d. keep_if _ _ _ (keep_delay_slot _)
        (keep_bind _ _ (keep_lookup e w name) λ k₁ l₁ y p. keep_symbol_statement xs y p c a)

    pub keep_statement : (x : Statement) → StatementWithin x → (n : ℕ) → Keeps e n Nothing (resolve_statement enter x)
    unfolding resolve_statement StatementWithin placing or_else and_then operation_of operation_number
    keep_statement Statement.Unimplemented h n = keep_op_no_output w Operation.Invalid 0 [] invalid_applies refl tt
    keep_statement (Statement.Export x) h n = keep_bind _ _ (keep_expr e w x h n) λ k l y f. keep_bind _ _ (keep_export_of y _ f)
        λ k₁ l₁ z _. keep_export z
    keep_statement (Statement.Local name z) h n = keep_bind _ _ (keep_named_tmp e name z h) λ k l v f. keep_pure tt λ _ _. tt
    keep_statement (Statement.LocalAssignment name z x) h n =
        keep_bind _ _ (keep_named_tmp e name z h.0) λ k l to f.
        keep_bind _ _ (keep_expr e w x h.1 k) λ k₁ l₁ y g.
        keep_read_to y to g (fits_more {n = k} {k = k₁} l₁ f)
    keep_statement (Statement.Build name) h n = keep_build name
    keep_statement (Statement.Copy from to) h n =
        keep_bind _ _ (keep_expr e w from h.0 n) λ k l x f.
        keep_bind _ _ (keep_resolve_dst to h.1) λ k₁ l₁ d g.
        keep_copy_into x d (expr_more e k k₁ l₁ x f) g
    keep_statement (Statement.Store space z pointer value) h n =
        keep_bind _ _ (keep_value_of e w _ (keep_expr e w value h.2 n)) λ k l v f.
        keep_bind _ _ (keep_address e w space z _ h.0 (keep_expr e w pointer h.1 k)) λ k₁ l₁ x g.
        keep_store_at v x (fits_more {n = k} {k = k₁} l₁ f) g
    keep_statement (Statement.Call name xs) h n = keep_call_statement name xs h.0 h.1
    keep_statement (Statement.Branch d b) h n = keep_branch (constant 1) d b h (constant-fits n _ 1 none (omega arith))
    keep_statement (Statement.CondBranch c d b) h n =
        keep_bind _ _ (keep_value_of e w _ (keep_expr e w c h.0 n)) λ k l v f. keep_branch v d b h.1 f
    keep_statement (Statement.Label name) h n = keep_placed e w name

  -- bodies

  keep_begun : {n : ℕ} (ordinal : ℕ) → Keeps e n Nothing (change (begin_at ordinal))
  unfolding begin_at
  keep_begun ordinal = keep_untouched (begin_at ordinal) λ s. record { temporaries = refl; actions = refl; scope = refl; next = refl }

  keep_counted : {n : ℕ} → Keeps e n Nothing (change counted)
  unfolding counted
  keep_counted = keep_untouched counted λ s. record { temporaries = refl; actions = refl; scope = refl; next = refl }

  keep_state : {n : ℕ} → Keeps e n (λ k _. Unit {0}) state
  keep_state = record { keeps = λ s c o. (later_refl, o, tt) }

  keep_begin : {n : ℕ} (ordinal : ℕ) → Keeps e n Nothing (begin ordinal)
  unfolding begin
  keep_begin ordinal =
      keep_then _ _ (keep_begun ordinal) λ k l _.
      keep_bind _ _ keep_state λ k₁ l₁ s _.
      keep_then _ _ (keep_require _ _) λ k₂ l₂ _.
      keep_then _ _ (keep_require _ _) λ k₃ l₃ _.
      keep_counted

  keep_all : (resolve : Statement → Walk (Unit {0})) → ((x : Statement) → StatementWithin x → (n : ℕ) → Keeps e n Nothing (resolve x))
      → (ordinal : ℕ) (xs : List Statement) → Each StatementWithin xs → (n : ℕ) → Keeps e n Nothing (resolve_all resolve ordinal xs)
  unfolding resolve_all
  keep_all resolve h ordinal [] f n = keep_pure tt λ _ _. tt
  keep_all resolve h ordinal (x ∷ xs) f n =
      keep_then _ _ (keep_begin ordinal) λ k l _.
      keep_then _ _ (h x f.0 k) λ k₁ l₁ _.
      keep_all resolve h (suc ordinal) xs f.1 k₁

  pub keep_body : (depth ordinal : ℕ) (xs : List Statement) → Each StatementWithin xs → (n : ℕ)
      → Keeps e n Nothing (resolve_body depth ordinal xs)
  unfolding resolve_body
  keep_body zero ordinal xs f n = keep_all _ (keep_statement (λ id m ys. refuse macro_too_deep) (λ id m ys k b g. keep_refuse _))
      ordinal xs f n
  keep_body (suc depth) ordinal xs f n = keep_all _
      (keep_statement (enter_macro (resolve_body depth))
      (λ id m ys k b g. keep_macro e (resolve_body depth) id m ys (λ o j. keep_body depth o m.body b j) g)) ordinal xs f n
