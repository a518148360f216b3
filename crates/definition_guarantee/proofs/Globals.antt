-- A global that is found stands at its place in its kind's list.
use Prim.Native.Nat.{ℕ, zero, suc, ◌+◌, ◌<◌}
use mathlib.Core.Path.{◌≡◌, refl, subst}
use mathlib.Core.List.{List, [], ◌∷◌, ◌++◌}
use mathlib.Core.Option.{Option, none, some}
use native.Mathlib.Omega.{arith}
use lib.ListN.{length, get_elem?}
use Rattle.definition.specs.Ast.{Space as SpaceEntry, Register as RegisterEntry, BitRange as BitRangeEntry, Table as TableEntry, Macro as MacroEntry, Section}
use Rattle.definition.specs.Scope.{find, Symbol, symbols, globals}
use Rattle.definition_guarantee.specs.Tests.{Each}
use Rattle.definition_guarantee.proofs.Tests.{each_append, none_some}
use Rattle.definition_guarantee.proofs.Entries.{find-each}

-- an element's place is within its list
pub place-below : {A : Type 0} (xs : List A) (i : ℕ) (x : A) → get_elem? xs i ≡ some x → i < length xs
place-below [] i x e = none_some {x = none} refl e
place-below (y ∷ xs) zero x e = omega arith
place-below (y ∷ xs) (suc i) x e = let h = place-below xs i x e in omega arith

module _ (sec : Section) where
  abbrev pub Placed : Symbol → Type 0
  Placed (Symbol.Space i x) = get_elem? sec.spaces i ≡ some x
  Placed (Symbol.Register i x) = get_elem? sec.registers i ≡ some x
  Placed (Symbol.BitRange i x) = get_elem? sec.bit_ranges i ≡ some x
  Placed (Symbol.Table i x) = get_elem? sec.tables i ≡ some x
  Placed (Symbol.UserOp i) = i < length sec.user_ops
  Placed (Symbol.Macro i x) = get_elem? sec.macros i ≡ some x
  Placed (Symbol.Other i) = i < length sec.others

  record AllPlaced (xs : List (ℕ × Symbol)) : Type 0 where
    each : Each (λ (p : ℕ × Symbol). Placed p.1) xs

  join : {xs ys : List (ℕ × Symbol)} → AllPlaced xs → AllPlaced ys → AllPlaced (xs ++ ys)
  join {xs} {ys} f g = record { each = each_append (λ (p : ℕ × Symbol). Placed p.1) xs ys f.each g.each }

  module _ {A : Type 0} (name : A → ℕ) (symbol : ℕ → A → Symbol) where
    from : (i : ℕ) (xs : List A) → ((j k : ℕ) (x : A) → k ≡ i + j → get_elem? xs j ≡ some x → Placed (symbol k x))
        → AllPlaced (symbols name symbol i xs)
    unfolding symbols
    from i [] h = record { each = tt }
    from i (x ∷ xs) h = record {
      each = (h 0 i x (omega arith) refl, (from (suc i) xs (λ j k y q e. h (suc j) k y (omega arith) e)).each);
    }

    of_kind_lem : (xs : List A) → ((i : ℕ) (x : A) → get_elem? xs i ≡ some x → Placed (symbol i x)) → AllPlaced (symbols name symbol 0 xs)
    of_kind_lem xs h = from 0 xs λ j k x q e. let p : j ≡ k = omega arith in subst (λ (i : ℕ). Placed (symbol i x)) p (h j x e)

  globals-placed : AllPlaced (globals sec)
  unfolding globals
  globals-placed =
      join (join (join (join (join (join
      (of_kind_lem (λ (x : SpaceEntry). x.name) Symbol.Space sec.spaces (λ i x e. e))
      (of_kind_lem (λ (x : RegisterEntry). x.name) Symbol.Register sec.registers (λ i x e. e)))
      (of_kind_lem (λ (x : BitRangeEntry). x.name) Symbol.BitRange sec.bit_ranges (λ i x e. e)))
      (of_kind_lem (λ (x : TableEntry). x.name) Symbol.Table sec.tables (λ i x e. e)))
      (of_kind_lem (λ (n : ℕ). n) (λ i n. Symbol.UserOp i) sec.user_ops (λ i n e. place-below sec.user_ops i n e)))
      (of_kind_lem (λ (x : MacroEntry). x.name) Symbol.Macro sec.macros (λ i x e. e)))
      (of_kind_lem (λ (n : ℕ). n) (λ i n. Symbol.Other i) sec.others (λ i n e. place-below sec.others i n e))

  abbrev pub FoundPlaced : Option Symbol → Type 0
  FoundPlaced none = Unit {0}
  FoundPlaced (some y) = Placed y

  pub found_placed : (n : ℕ) (y : Option Symbol) → find n (globals sec) ≡ y → FoundPlaced y
  found_placed n none h = tt
  found_placed n (some y) h = find-each Placed n (globals sec) y globals-placed.each h
