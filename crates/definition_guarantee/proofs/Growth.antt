-- How setting a size changes the temporaries and the operand: a size once known stays, and only the size set comes in.
use Prim.Native.Nat.{ℕ, zero, suc}
use mathlib.Core.Path.{◌≡◌, refl, sym, ◌∙◌, ap, subst}
use mathlib.Core.Logic.{◌⊎◌, inl, inr}
use mathlib.Core.Bool.{Bool, true, false, ◌||◌}
use mathlib.Core.List.{List, [], ◌∷◌, ◌++◌}
use mathlib.Core.Option.{Option, none, some}
use lib.Dec.{eqb}
use lib.ListN.{length, get_elem?, set, length-set}
use Rattle.prelude.specs.Base.{when◌then◌else◌, ◌or◌, and_then}
use Rattle.definition.specs.Value.{Kind, kind_number, Value, is_kind, Temporary}
use Rattle.definition.specs.Ast.{Section}
use Rattle.definition.specs.Sizes.{Sizing, size_of_local, size_of, set_tmp_size, size_temporary, settled}
use Rattle.definition_guarantee.proofs.Tests.{clash, never, none_some}

-- a temporary's size
abbrev pub tmp_size : List Temporary → ℕ → Option ℕ
tmp_size ts i = and_then (get_elem? ts i) λ (t : Temporary). t.size

pub record Grown (ts us : List Temporary) : Type 0 where
  pub count : length us ≡ length ts
  pub stays : (i n : ℕ) → tmp_size ts i ≡ some n → tmp_size us i ≡ some n

pub grown_refl : {ts : List Temporary} → Grown ts ts
grown_refl = record { count = refl; stays = λ i n e. e }

pub grown_trans : {ts us vs : List Temporary} → Grown ts us → Grown us vs → Grown ts vs
grown_trans p q = record { count = q.count ∙ p.count; stays = λ i n e. q.stays i n (p.stays i n e) }

-- and no other size than n comes in
pub record Touched (n : ℕ) (ts us : List Temporary) : Type 0 where
  pub grown : Grown ts us
  pub only : (i : ℕ) → (tmp_size us i ≡ tmp_size ts i) ⊎ (tmp_size us i ≡ some n)

pub touched_refl : {n : ℕ} {ts : List Temporary} → Touched n ts ts
touched_refl = record { grown = grown_refl; only = λ i. inl refl }

-- one temporary is sized
set_size_lem : (ts : List Temporary) (i n j : ℕ) (t : Temporary) → t.size ≡ some n
    → (tmp_size (set ts i t) j ≡ tmp_size ts j) ⊎ ((i ≡ j) × (tmp_size (set ts i t) j ≡ some n))
unfolding and_then
set_size_lem [] i n j t e = inl refl
set_size_lem (x ∷ ts) zero n zero t e = inr (refl, e)
set_size_lem (x ∷ ts) zero n (suc j) t e = inl refl
set_size_lem (x ∷ ts) (suc i) n zero t e = inl refl
set_size_lem (x ∷ ts) (suc i) n (suc j) t e = go (set_size_lem ts i n j t e)
  where
    go : (tmp_size (set ts i t) j ≡ tmp_size ts j) ⊎ ((i ≡ j) × (tmp_size (set ts i t) j ≡ some n))
        → (tmp_size (set ts i t) j ≡ tmp_size ts j) ⊎ ((suc i ≡ suc j) × (tmp_size (set ts i t) j ≡ some n))
    go (inl d) = inl d
    go (inr d) = inr (ap suc d.0, d.1)

set_touched : (ts : List Temporary) (i n : ℕ) (t : Temporary) → t.size ≡ some n → tmp_size ts i ≡ none → Touched n ts (set ts i t)
set_touched ts i n t e h = record {
  grown = record { count = length-set ts i t; stays = λ j m d. keep j m d (set_size_lem ts i n j t e) };
  only = λ j. pick j (set_size_lem ts i n j t e);
}
  where
    keep : (j m : ℕ) → tmp_size ts j ≡ some m → (tmp_size (set ts i t) j ≡ tmp_size ts j) ⊎ ((i ≡ j) × (tmp_size (set ts i t) j ≡ some n))
        → tmp_size (set ts i t) j ≡ some m
    keep j m d (inl c) = c ∙ d
    keep j m d (inr c) = none_some {A = ℕ} {x = tmp_size ts j} (subst (λ (k : ℕ). tmp_size ts k ≡ none) c.0 h) d

    pick : (j : ℕ) → (tmp_size (set ts i t) j ≡ tmp_size ts j) ⊎ ((i ≡ j) × (tmp_size (set ts i t) j ≡ some n))
        → (tmp_size (set ts i t) j ≡ tmp_size ts j) ⊎ (tmp_size (set ts i t) j ≡ some n)
    pick j (inl c) = inl c
    pick j (inr c) = inr c.1

or_none_lem : {A : Type 0} (x y : Option A) → x or y ≡ none → (x ≡ none) × (y ≡ none)
unfolding ◌or◌
or_none_lem (some a) y e = none_some e refl
or_none_lem none y e = (refl, e)

module _ (sec : Section) where
  -- what a kind's own table says, where it is no temporary
  pub local_same : (ts us : List Temporary) (k : Kind) (n : ℕ) → eqb (kind_number Kind.PcodeTmp) (kind_number k) ≡ false
      → size_of_local sec us k n ≡ size_of_local sec ts k n
  unfolding size_of_local kind_number
  local_same ts us Kind.InstStart n e = refl
  local_same ts us Kind.InstNext n e = refl
  local_same ts us Kind.Register n e = refl
  local_same ts us Kind.Field n e = refl
  local_same ts us Kind.Subtable n e = refl
  local_same ts us Kind.SubtableRef n e = refl
  local_same ts us Kind.PcodeTmp n e = clash refl e
  local_same ts us Kind.Constant n e = refl

  pub local-tmp : (ts : List Temporary) (k : Kind) (n : ℕ) → eqb (kind_number Kind.PcodeTmp) (kind_number k) ≡ true
      → size_of_local sec ts k n ≡ tmp_size ts n
  unfolding size_of_local kind_number
  local-tmp ts Kind.InstStart n e = never e
  local-tmp ts Kind.InstNext n e = never e
  local-tmp ts Kind.Register n e = never e
  local-tmp ts Kind.Field n e = never e
  local-tmp ts Kind.Subtable n e = never e
  local-tmp ts Kind.SubtableRef n e = never e
  local-tmp ts Kind.PcodeTmp n e = refl
  local-tmp ts Kind.Constant n e = never e

  -- a known size stays
  pub known_stays : (ts us : List Temporary) (v : Value) (n : ℕ) → Grown ts us → size_of sec ts v ≡ some n → size_of sec us v ≡ some n
  unfolding size_of ◌or◌
  known_stays ts us v n g e = go v.size e (eqb (kind_number Kind.PcodeTmp) (kind_number v.kind)) refl
    where
      go : (z : Option ℕ) → z or size_of_local sec ts v.kind v.number ≡ some n → (b : Bool)
          → eqb (kind_number Kind.PcodeTmp) (kind_number v.kind) ≡ b
          → z or size_of_local sec us v.kind v.number ≡ some n
      go (some m) e b d = e
      go none e true d = local-tmp us v.kind v.number d ∙ g.stays v.number n (sym (local-tmp ts v.kind v.number d) ∙ e)
      go none e false d = local_same ts us v.kind v.number d ∙ e

  pub size_none : (ts : List Temporary) (v : Value) → size_of sec ts v ≡ none
      → (v.size ≡ none) × (size_of_local sec ts v.kind v.number ≡ none)
  unfolding size_of
  size_none ts v e = or_none_lem v.size _ e

  pub own_size : (ts : List Temporary) (v : Value) (n : ℕ) → v.size ≡ some n → size_of sec ts v ≡ some n
  unfolding size_of ◌or◌
  own_size ts v n e = rw e

  tmp_touched : (i n : ℕ) (x : Option Temporary) (s : Sizing) → tmp_size s.temporaries i ≡ none
      → Touched n s.temporaries (set_tmp_size sec i x n s).temporaries
  unfolding set_tmp_size
  tmp_touched i n (some t) s h = set_touched s.temporaries i n (record { name = t.name; size = some n }) refl h
  tmp_touched i n none s h = touched_refl

  pub settled_touched : (v : Value) (n : ℕ) (s : Sizing) (k : Option ℕ) → size_of sec s.temporaries v ≡ k
      → Touched n s.temporaries (settled sec k n v s).temporaries
  unfolding settled size_temporary is_kind
  settled_touched v n s (some m) e = go (eqb m n || is_kind Kind.Subtable v)
    where
      go : (b : Bool) → Touched n s.temporaries
          (when b then s else record {
            begun = s.begun;
            temporaries = s.temporaries;
            errors = s.errors ++ (s.begun ∷ []);
          }).temporaries
      go true = touched_refl
      go false = touched_refl
  settled_touched v n s none e = go (eqb (kind_number Kind.PcodeTmp) (kind_number v.kind)) refl
    where
      go : (b : Bool) → eqb (kind_number Kind.PcodeTmp) (kind_number v.kind) ≡ b
          → Touched n s.temporaries (when b then set_tmp_size sec v.number (get_elem? s.temporaries v.number)
          n s else s).temporaries
      go true d = tmp_touched v.number n (get_elem? s.temporaries v.number) s
          (sym (local-tmp s.temporaries v.kind v.number d) ∙ (size_none s.temporaries v e).1)
      go false d = touched_refl
