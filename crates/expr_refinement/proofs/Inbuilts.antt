-- The built-in functions: the words find what the definition's search finds.
use Prim.Native.Nat.{ℕ}
use mathlib.Core.Path.{◌≡◌, refl, sym, ◌∙◌, ap}
use mathlib.Core.Bool.{Bool, true, false}
use mathlib.Core.List.{List, [], ◌∷◌}
use mathlib.Core.Option.{Option, none, some}
use Rattle.prelude.specs.Base.{when◌then◌else◌, first, ◌or◌, same_numbers}
use Rattle.definition.specs.Operations.{operation_number}
use Rattle.definition.specs.Spellings.{bytes_of, inbuilt, inbuilts, translate_inbuilt_func}
use Rattle.definition.specs.Spellings as definition
use Rattle.expr_inbuilts.specs.Outcomes.{Inbuilt}
use Rattle.expr_inbuilts.specs.Inbuilts.{attempt, logical, carries, extensions, roundings, conversions, inbuilt_of}

-- the words of the definition's answer: the operation's number and the count of arguments; both 0 where there is none
unfoldable pub inbuilt_words : Option definition.Inbuilt → Inbuilt
inbuilt_words none = record { op = 0; arguments = 0 }
inbuilt_words (some x) = record { op = operation_number x.op; arguments = x.arguments }

-- the definition's search, one attempt for each spelling
attempts : List ℕ → List definition.Inbuilt → Inbuilt
attempts w [] = record { op = 0; arguments = 0 }
attempts w (x ∷ xs) = attempt w x.spelling (operation_number x.op) x.arguments (attempts w xs)

words_or : (w : List ℕ) (x : definition.Inbuilt) (y : Option definition.Inbuilt) (b : Bool) → same_numbers w x.spelling ≡ b → inbuilt_words ((when b then some x else none) or y) ≡ attempt w x.spelling (operation_number x.op) x.arguments (inbuilt_words y)
unfolding inbuilt_words attempt ◌or◌
words_or w x y true e = rw e
words_or w x y false e = rw e

searched : (w : List ℕ) (xs : List definition.Inbuilt) → inbuilt_words (first (λ (x : definition.Inbuilt). when same_numbers w x.spelling then some x else none) xs) ≡ attempts w xs
unfolding attempts first inbuilt_words
searched w [] = refl
searched w (x ∷ xs) = words_or w x (first (λ (x : definition.Inbuilt). when same_numbers w x.spelling then some x else none) xs) (same_numbers w x.spelling) refl ∙ ap (attempt w x.spelling (operation_number x.op) x.arguments) (searched w xs)

in_groups : (w : List ℕ) → logical w (carries w (extensions w (roundings w (conversions w (record { op = 0; arguments = 0 }))))) ≡ attempts w inbuilts
unfolding attempts logical carries extensions roundings conversions inbuilts inbuilt bytes_of operation_number
in_groups w = refl

pub inbuilt_found : (w : List ℕ) → inbuilt_of w ≡ inbuilt_words (translate_inbuilt_func w)
unfolding inbuilt_of translate_inbuilt_func
inbuilt_found w = in_groups w ∙ sym (searched w inbuilts)
