-- The search for a parameter, from the last one down; and what a plain local is.
use mathlib.Core.Path.{◌≡◌, refl, ap, sym, subst, ◌∙◌}
use mathlib.Core.Bool.{Bool, true, false, cond}
use mathlib.Core.List.{List, [], ◌∷◌}
use Prim.Native.Nat.{ℕ, zero, suc, ◌+◌, ◌-◌, ◌<◌}
use native.Mathlib.Omega.{arith}
use lib.ListN.{length, get_or}
use lib.Dec.{eqb}
use borrow.Author.Tests.{ne_eqb, lt-ltb}
use Rattle.std.specs.Prelude.{Option, Some}
use Rattle.std.specs.Option.{MatchOption, option_map}
use Rattle.std.specs.declared.ops.Range.{Range}
use Rattle.std.specs.declared.iter.Rev.{Rev}
use Rattle.std.specs.List.{find}
use Rattle.std.proofs.lemmas.Iterator.{YieldsList}
use Rattle.std.proofs.lemmas.Iterator.Adapters.{option_map_id}
use Rattle.std.proofs.lemmas.Iterator.Splits.{YieldsList-from_shown_while}
use Rattle.std.specs.Iterator.Adapters.{rev_steps}
use Rattle.expr_scope.specs.Slots.{param_place}
use Rattle.prelude.specs.Base.{when◌then◌else◌}
use Rattle.list_values.specs.declared.value.Value.{Value}
use Rattle.list_pushes.specs.declared.push.Env.{Env}
use Rattle.expr_scope.specs.declared.scope.ExprValue.{ExprValue}
use Rattle.expr_scope.specs.Outcomes.{Meaning, Plain, one_more}
use Rattle.expr_scope.specs.Scopes.{find_param, inner_meaning, param_or, resolve_ident, plain_of, plain_local}

-- the numbers below one, from the greatest on
abbrev pub down_from : ℕ → List ℕ
down_from zero = []
down_from (suc n) = n ∷ down_from n

abbrev pub back_steps : Range ℕ → Option ℕ → Range ℕ → Type 0
back_steps s r t = (t.start ≡ s.start) × MatchOption r ((s.end - s.start ≡ 0) × (t.end ≡ s.end)) (λ x. (0 < s.end - s.start) × (x ≡ t.end) × (s.end ≡ t.end + 1))

down_empty : (n m : ℕ) → m ≡ 0 → n - m ≡ 0 → length (down_from n) ≡ 0
down_empty zero m z e = refl
down_empty (suc n) m z e = absurd (omega arith)

down_next : (n m x t : ℕ) → m ≡ 0 → x ≡ t → n ≡ t + 1 → down_from n ≡ x ∷ down_from t
down_next zero m x t z e h = absurd (omega arith)
down_next (suc n) m x t z e h = let j : n ≡ t = omega arith in rw (e, j) refl

-- a range from 0 on gives them, run backwards
pub yields_down : (s : Rev (Range ℕ)) (n : ℕ) → s.iter ≡ record { start = 0; end = n } → YieldsList (rev_steps back_steps) (λ x. x) s (down_from n)
yields_down s n e = subst (λ k. YieldsList (rev_steps back_steps) (λ x. x) s (down_from k)) (ap (λ r. r.end) e)
    (YieldsList-from_shown_while (rev_steps back_steps) (λ x. x) (λ u. down_from u.iter.end) (λ u. u.iter.start ≡ 0)
    (λ u t z p. down_empty u.iter.end u.iter.start z p.1.0)
    (λ u x t z p. (p.0 ∙ z, down_next u.iter.end u.iter.start x t.iter.end z p.1.1 p.1.2))
    s (ap (λ r. r.start) e))

-- the last of some parameters that has the name
module _ (p : List ℕ) (name : ℕ) where
  step : (b : Bool) (k : ℕ) (rest : Option ℕ) (m : ℕ) → one_more rest ≡ m → one_more (cond b (Some k) rest) ≡ cond b (suc k) m
  step true k rest m e = refl
  step false k rest m e = e

  found : (k : ℕ) → one_more (find (λ i. eqb (get_or p (param_place i + 0) 0) name) (down_from k)) ≡ find_param k p name
  unfolding find_param
  found zero = refl
  found (suc k) = step (eqb (get_or p (param_place k + 0) 0) name) k (find (λ i. eqb (get_or p (param_place i + 0) 0) name) (down_from k)) (find_param k p name) (found k)

  pub last_law : (n : ℕ) (r : Option ℕ) → option_map (λ x. x) r ≡ find (λ i. eqb (get_or p (param_place i + 0) 0) name) (down_from n) → one_more r ≡ find_param n p name
  last_law n r e = ap one_more (sym (option_map_id r) ∙ e) ∙ found n

-- what is told of a name at once is what it means
local_means : (x : Meaning) (v : Value) → plain_of x ≡ Plain.Is v → x ≡ Meaning.Means (ExprValue.Local v)
unfolding plain_of
local_means (Meaning.Means (ExprValue.Local u)) v h = let d : u ≡ v = cc in ap (λ w. Meaning.Means (ExprValue.Local w)) d
local_means (Meaning.Means (ExprValue.Unbound u)) v h = absurd (cc h)
local_means (Meaning.Means (ExprValue.Const n z)) v h = absurd (cc h)
local_means (Meaning.Means (ExprValue.Apply operation)) v h = absurd (cc h)
local_means (Meaning.Means (ExprValue.RamRef access)) v h = absurd (cc h)
local_means (Meaning.Means (ExprValue.RegisterRef access)) v h = absurd (cc h)
local_means (Meaning.Means (ExprValue.AddressOf u z)) v h = absurd (cc h)
local_means (Meaning.Means (ExprValue.BitRange r)) v h = absurd (cc h)
local_means (Meaning.Wrong n) v h = absurd (cc h)

wrong_means : (x : Meaning) (n : ℕ) → plain_of x ≡ Plain.Wrong n → x ≡ Meaning.Wrong n
unfolding plain_of
wrong_means (Meaning.Means (ExprValue.Local u)) n h = absurd (cc h)
wrong_means (Meaning.Means (ExprValue.Unbound u)) n h = absurd (cc h)
wrong_means (Meaning.Means (ExprValue.Const m z)) n h = absurd (cc h)
wrong_means (Meaning.Means (ExprValue.Apply operation)) n h = absurd (cc h)
wrong_means (Meaning.Means (ExprValue.RamRef access)) n h = absurd (cc h)
wrong_means (Meaning.Means (ExprValue.RegisterRef access)) n h = absurd (cc h)
wrong_means (Meaning.Means (ExprValue.AddressOf u z)) n h = absurd (cc h)
wrong_means (Meaning.Means (ExprValue.BitRange r)) n h = absurd (cc h)
wrong_means (Meaning.Wrong m) n h = let d : m ≡ n = cc in ap Meaning.Wrong d

local_param : (k : ℕ) (p : List ℕ) (x : Meaning) (v : Value) → (when eqb k 0 then plain_of x else Plain.Untold) ≡ Plain.Is v → param_or k p x ≡ Meaning.Means (ExprValue.Local v)
unfolding param_or
local_param zero p x v h = local_means x v h
local_param (suc k) p x v h = absurd (cc (rw (ne_eqb (suc k) 0 (λ z. omega arith)) at h))

wrong_param : (k : ℕ) (p : List ℕ) (x : Meaning) (n : ℕ) → (when eqb k 0 then plain_of x else Plain.Untold) ≡ Plain.Wrong n → param_or k p x ≡ Meaning.Wrong n
unfolding param_or
wrong_param zero p x n h = wrong_means x n h
wrong_param (suc k) p x n h = absurd (cc (rw (ne_eqb (suc k) 0 (λ z. omega arith)) at h))

module _ (s t p : List ℕ) (e : Env) (name : ℕ) where
  pub plain_means : (v : Value) → Plain.Is v ≡ plain_local s t p e name → resolve_ident s t p e name ≡ Meaning.Means (ExprValue.Local v)
  unfolding plain_local resolve_ident
  plain_means v h = local_param (find_param e.count p name) p (inner_meaning s t p e name) v (sym h)

  pub plain_wrong : (n : ℕ) → Plain.Wrong n ≡ plain_local s t p e name → resolve_ident s t p e name ≡ Meaning.Wrong n
  unfolding plain_local resolve_ident
  plain_wrong n h = wrong_param (find_param e.count p name) p (inner_meaning s t p e name) n (sym h)

-- a parameter is not told at once
module _ (s t p : List ℕ) (e : Env) (name i : ℕ) (f : i ≡ find_param e.count p name) where
  pub plain_param : 0 < i → Plain.Untold ≡ plain_local s t p e name
  unfolding plain_local
  plain_param h = rw (← f, ne_eqb i 0 (λ z. omega arith))

-- what is not told at once means something
untold_means : (x : Meaning) → plain_of x ≡ Plain.Untold → (n : ℕ) → x ≡ Meaning.Wrong n → ⊥
unfolding plain_of
untold_means x h n e = cc (rw e at h)

untold_param : (k : ℕ) (p : List ℕ) (x : Meaning) → (when eqb k 0 then plain_of x else Plain.Untold) ≡ Plain.Untold → (n : ℕ) → param_or k p x ≡ Meaning.Wrong n → ⊥
unfolding param_or
untold_param zero p x h n e = untold_means x h n e
untold_param (suc k) p x h n e = cc (rw (lt-ltb 0 (suc k) (omega arith)) at e)

pub plain_untold : (s t p : List ℕ) (e : Env) (name : ℕ) → Plain.Untold ≡ plain_local s t p e name → (n : ℕ) → resolve_ident s t p e name ≡ Meaning.Wrong n → ⊥
unfolding plain_local resolve_ident
plain_untold s t p e name h n g = untold_param (find_param e.count p name) p (inner_meaning s t p e name) (sym h) n g
