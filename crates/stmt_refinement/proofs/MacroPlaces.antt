-- Where macros stand in the stream, and the ordinals of their statements.
use Prim.Native.Nat.{ℕ, zero, suc, ◌+◌, ◌*◌, ◌%◌, ◌≤◌, ◌<◌}
use mathlib.Core.Path.{◌≡◌, refl, sym, ◌∙◌, ap}
use mathlib.Core.List.{List, [], ◌∷◌}
use mathlib.Core.Option.{some}
use native.Mathlib.Omega.{arith}
use lib.ListN.{length, get_or, take, drop, get_elem?}
use Rattle.access.specs.Le.{le16}
use Rattle.prelude.specs.Base.{sum}
use Rattle.definition.specs.Ast.{Statement, Macro, Section}
use Rattle.definition.specs.SectionFile.{parsed, list_of, statement}
use Rattle.definition.specs.Statements as d
use Rattle.definition_guarantee.proofs.Globals.{place-below}
use Rattle.file_refinement.specs.Holds.{Holds, bodies}
use Rattle.file_refinement.proofs.Inversion.{statement_at, MacroParts, macro_at_lem}
use Rattle.stmt_simple.specs.Calls.{macro_at}
use Rattle.stmt_bodies.specs.Statements.{first_ordinal}

-- a macro's first ordinal is the number of statements in front of its body
pub ordinal_is : (xs : List Macro) → d.ordinal_after xs ≡ bodies xs
unfolding d.ordinal_after sum bodies
ordinal_is [] = refl
ordinal_is (x ∷ xs) = rw (← ordinal_is xs)

few-bodies : (xs : List Macro) (i : ℕ) → ((j : ℕ) (x : Macro) → get_elem? xs j ≡ some x → length x.body ≤ 1024) → bodies (take i xs) ≤ 1024 * length xs
unfolding bodies
few-bodies [] zero h = omega arith
few-bodies [] (suc i) h = omega arith
few-bodies (x ∷ xs) zero h = omega arith
few-bodies (x ∷ xs) (suc i) h = let a = h 0 x refl in let b = few-bodies xs i (λ j y q. h (suc j) y q) in omega arith

read_length : (s : List ℕ) (k pos : ℕ) (xs : List Statement) (end : List ℕ) → pos ≤ length s → list_of (statement (le16 s 2)) k (drop pos s) ≡ parsed xs end → length xs ≡ k
unfolding list_of
read_length s zero pos xs end i h = let q : xs ≡ [] = cc in rw q
read_length s (suc k) pos xs end i h =
    let l = statement_at s (le16 s 2) k pos xs end i h in
    rw l.is (ap suc (read_length s k l.first_end l.others (drop l.others-end s) l.first_inside l.others-reads))

module _ (s t : List ℕ) (sec : Section) (holds : Holds s t sec) where
  abbrev pub place : ℕ → ℕ
  place id = get_or t (3072 + id) 0

  pub parts : (id : ℕ) (m : Macro) (q : get_elem? sec.macros id ≡ some m) → MacroParts s (le16 s 2) m.name (place id) m (drop (holds.macro id m q).after s)
  parts id m q = let a = holds.macro id m q in macro_at_lem s (le16 s 2) m.name (place id) m (drop a.after s) a.inside a.reads

  short-body : (id : ℕ) (m : Macro) → get_elem? sec.macros id ≡ some m → length m.body ≤ 1024
  short-body id m q =
      let a = parts id m q in
      let l = read_length s _ _ m.body _ a.body-inside a.body_reads in
      omega (arith, a.statements-below)

  pub ordinal-small : (id : ℕ) → d.ordinal_after (take id sec.macros) ≤ 131072
  ordinal-small id = rw (ordinal_is (take id sec.macros)) (let a = few-bodies sec.macros id short-body in omega (arith, holds.macro_count, holds.limits.macros))

  module _ (id : ℕ) (m : Macro) (is : get_elem? sec.macros id ≡ some m) where
    pub below-macros : id < 128
    below-macros = let a = place-below sec.macros id m is in omega (arith, holds.macro_count, holds.limits.macros)

    pub macro-place : macro_at t id ≡ place id
    unfolding macro_at
    macro-place = let a = below-macros in let z : id % 128 ≡ id = omega arith in rw z

    pub first_ordinal_lem : first_ordinal t id ≡ d.ordinal_after (take id sec.macros)
    unfolding first_ordinal
    first_ordinal_lem = let a = below-macros in let z : id % 128 ≡ id = omega arith in rw z (holds.macro_ordinal id (place-below sec.macros id m is) ∙ sym (ordinal_is (take id sec.macros)))
