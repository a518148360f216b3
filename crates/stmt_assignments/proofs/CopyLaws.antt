-- The bits that a bit write keeps; and what a target is.
use mathlib.Core.Path.{◌≡◌, refl, sym, ◌∙◌}
use mathlib.Core.Bool.{Bool, true, false, cond}
use mathlib.Core.List.{List}
use Prim.Native.Nat.{◌+◌, ℕ, ◌-◌, ◌*◌, ◌%◌, ◌^◌}
use native.Mathlib.Omega.{arith}
use lib.Dec.{eqb}
use lib.ListN.{get_or}
use borrow.Author.Tests.{eqb-true, eqb-false, ne_eqb}
use Rattle.std.specs.Prelude.{Option, Some, None, unwrap_or}
use Rattle.std.specs.Option.{option_map}
use Rattle.access.specs.Le.{le16}
use Rattle.access.specs.Mask.{mask_of}
use Rattle.list_values.specs.declared.value.Value.{Value}
use Rattle.list_pushes.specs.declared.push.State.{State}
use Rattle.list_pushes.specs.declared.push.Env.{Env}
use Rattle.expr_scope.specs.declared.scope.ExprValue.{ExprValue}
use Rattle.expr_scope.specs.Outcomes.{Meaning, Plain}
use Rattle.expr_scope.specs.Scopes.{resolve_ident, plain_local}
use Rattle.expr_scope.proofs.ScopeLaws.{plain_means, plain_wrong, plain_untold}
use Rattle.expr_terms.specs.Outcomes.{Expr}
use Rattle.expr_terms.specs.Answers.{resolved, after, given}
use Rattle.expr_resolver.specs.Expressions.{means_at, atom, resolve_expr}
use Rattle.expr_resolver.proofs.ExprLaws.{expr-atom}
use Rattle.stmt_assignments.specs.declared.copies.Target.{Target}
use Rattle.stmt_assignments.specs.Copies.{mask_but, target_name, target_size, truncated, after_target, target_at, declared, new_target, is_new, is_wrong, targeted, beside_a, in_scope, resolve_dst}

pub mask_but_law : (from bits k : ℕ) → k ≡ mask_of bits → 18446744073709551615 - k * 2 ^ from % 2 ^ 64 ≡ mask_but from bits
mask_but_law from bits k e = rw e

-- what a target at a position is
record Named (s : List ℕ) (pos : ℕ) (x : Target) : Type 0 where
  there : target_name s pos ≡ 65535 → ⊥
  name : x.name ≡ target_name s pos
  size : x.size ≡ truncated s pos
  next : x.next ≡ after_target s pos

named : (s : List ℕ) (pos : ℕ) (x : Target) → Some x ≡ target_at s pos → Named s pos x
unfolding target_at given
named s pos x h = go (eqb (target_name s pos) 65535) refl h
  where
    go : (b : Bool) → eqb (target_name s pos) 65535 ≡ b → Some x ≡ option_map (λ name. record { name = name; size = truncated s pos; next = after_target s pos }) (cond b None (Some (target_name s pos))) → Named s pos x
    go true q e = absurd (cc e)
    go false q e =
        let d : x ≡ record { name = target_name s pos; size = truncated s pos; next = after_target s pos } = cc e in
        record { there = eqb-false (target_name s pos) 65535 q; name = rw d; size = rw d; next = rw d }

unnamed : (s : List ℕ) (pos : ℕ) → None ≡ target_at s pos → target_name s pos ≡ 65535
unfolding target_at given
unnamed s pos h = go (eqb (target_name s pos) 65535) refl h
  where
    go : (b : Bool) → eqb (target_name s pos) 65535 ≡ b → ◌≡◌ {A = Option Target} None (option_map (λ name. record { name = name; size = truncated s pos; next = after_target s pos }) (cond b None (Some (target_name s pos)))) → target_name s pos ≡ 65535
    go true q e = eqb-true (target_name s pos) 65535 q
    go false q e = absurd (cc e)

-- a bare target's code is 0
bare : (s : List ℕ) (pos : ℕ) → truncated s pos ≡ None → get_or s (pos + 0) 0 ≡ 0
unfolding truncated
bare s pos h = go (eqb (get_or s (pos + 0) 0) 0) refl h
  where
    go : (b : Bool) → eqb (get_or s (pos + 0) 0) 0 ≡ b → cond b None (Some (le16 s (pos + 4))) ≡ None → get_or s (pos + 0) 0 ≡ 0
    go true q e = eqb-true (get_or s (pos + 0) 0) 0 q
    go false q e = absurd (cc e)

sized : (s : List ℕ) (pos : ℕ) → unwrap_or (truncated s pos) 65535 ≡ target_size s pos
unfolding truncated target_size
sized s pos = go (eqb (get_or s (pos + 0) 0) 0)
  where
    go : (b : Bool) → unwrap_or (cond b None (Some (le16 s (pos + 4)))) 65535 ≡ cond b 65535 (le16 s (pos + 4))
    go true = refl
    go false = refl

means_right : (x : Meaning) → ((n : ℕ) → x ≡ Meaning.Wrong n → ⊥) → is_wrong x ≡ false
unfolding is_wrong
means_right (Meaning.Means x) h = refl
means_right (Meaning.Wrong n) h = absurd (h n refl)

module _ (s t p a m : List ℕ) (e : Env) (pos : ℕ) (st : State) where
  old_target : is_new s t p e (target_name s pos) ≡ false → (z : Expr) (a1 m1 : List ℕ) → resolved z a1 m1 ≡ resolve_expr 32 s t p e pos a m st → targeted z p a1 m1 ≡ resolve_dst s t p a m e pos st
  unfolding resolve_dst in_scope
  old_target n z a1 m1 h = rw (n, ← h)

  pub no_target : None ≡ target_at s pos → (z : Expr) (a1 m1 : List ℕ) → resolved z a1 m1 ≡ resolve_expr 32 s t p e pos a m st → targeted z p a1 m1 ≡ resolve_dst s t p a m e pos st
  unfolding is_new
  no_target f = old_target (rw (unnamed s pos f))

  module _ (x : Target) (f : Some x ≡ target_at s pos) where
    asked : is_new s t p e (target_name s pos) ≡ is_wrong (resolve_ident s t p e x.name)
    unfolding is_new
    asked = let k = named s pos x f in rw (k.name, ne_eqb (target_name s pos) 65535 k.there)

    made : declared t p m e x.name (unwrap_or x.size 65535) x.next st ≡ new_target s t p m e pos (target_name s pos) st
    unfolding declared new_target
    made = let k = named s pos x f in rw (k.name, k.size, k.next, sized s pos)

    pub wrong_target : (n : ℕ) → Plain.Wrong n ≡ plain_local s t p e x.name → (z : Expr) (p1 m1 : List ℕ) → resolved z p1 m1 ≡ declared t p m e x.name (unwrap_or x.size 65535) x.next st → targeted z p1 a m1 ≡ resolve_dst s t p a m e pos st
    unfolding resolve_dst beside_a is_wrong
    wrong_target n g z p1 m1 h = rw (asked, plain_wrong s t p e x.name n g, ← (h ∙ made))

    pub local_target : (v : Value) → Plain.Is v ≡ plain_local s t p e x.name → x.size ≡ None → targeted (Expr.Value x.next (ExprValue.Local v) st) p a m ≡ resolve_dst s t p a m e pos st
    unfolding atom means_at is_wrong after_target target_name
    local_target v g o =
        let k = named s pos x f in
        let c = bare s pos (sym k.size ∙ o) in
        let i : x.name ≡ le16 s (pos + 1) = rw (k.name, c) in
        let j : x.next ≡ after pos 3 = rw (k.next, c) in
        let l : resolve_ident s t p e x.name ≡ Meaning.Means (ExprValue.Local v) = plain_means s t p e x.name v g in
        let h : resolved (Expr.Value (after pos 3) (ExprValue.Local v) st) a m ≡ resolve_expr 32 s t p e pos a m st =
        expr-atom 32 s t p e pos a m st (λ z. omega arith) 0 (sym c) (Expr.Value (after pos 3) (ExprValue.Local v) st) (omega arith) (rw (← i, l)) in
        rw j (old_target (asked ∙ rw l) (Expr.Value (after pos 3) (ExprValue.Local v) st) a m h)

    pub cut_target : (v : Value) → Plain.Is v ≡ plain_local s t p e x.name → (z : Expr) (a1 m1 : List ℕ) → resolved z a1 m1 ≡ resolve_expr 32 s t p e pos a m st → targeted z p a1 m1 ≡ resolve_dst s t p a m e pos st
    unfolding is_wrong
    cut_target v g = old_target (asked ∙ rw (plain_means s t p e x.name v g))

    pub untold_target : Plain.Untold ≡ plain_local s t p e x.name → (z : Expr) (a1 m1 : List ℕ) → resolved z a1 m1 ≡ resolve_expr 32 s t p e pos a m st → targeted z p a1 m1 ≡ resolve_dst s t p a m e pos st
    untold_target g = old_target (asked ∙ means_right (resolve_ident s t p e x.name) (plain_untold s t p e x.name g))

pub ruleset target_laws = (no_target, wrong_target, local_target, cut_target, untold_target)
