-- At the start of a walk the lists are as they were lent.
use Prim.Native.Nat.{ℕ}
use mathlib.Core.Path.{◌≡◌, refl}
use mathlib.Core.List.{List, []}
use native.Mathlib.Nat.{add-zero}
use lib.ListN.{take, drop, take-append-drop}
use Rattle.definition.specs.Ast.{Section}
use Rattle.definition.specs.End.{at_start}
use Rattle.prelude.specs.Base.{or_else}
use Rattle.definition.specs.ActionList.{or_none, list_words}
use Rattle.list_refinement.specs.Encoding.{actions_in, temporaries_in, first_error, enc_s}

pub start_actions : (base : ℕ) (a : List ℕ) → actions_in (take base a) (drop base a) [] ≡ a
unfolding list_words
start_actions base a = take-append-drop base a

pub start_temporaries : (m : List ℕ) → temporaries_in m [] ≡ m
start_temporaries m = refl

pub start_state : (base : ℕ) (sec : Section) → enc_s base (at_start sec) ≡ record { end = base; temporaries = 0; sizing = record { begun = 65535; errors = 0; first = 65535 } }
unfolding at_start or_none or_else first_error
start_state base sec = λ i. record { end = add-zero base i; temporaries = 0; sizing = record { begun = 65535; errors = 0; first = 65535 } }
