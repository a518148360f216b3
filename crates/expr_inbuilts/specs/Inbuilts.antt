-- The built-in functions by the bytes of their names: an operation's number and its count of arguments, both 0 for other names.
use Rattle.std.specs.Prelude.{ℕ, ◌+◌, List, [], ◌∷◌, get_or, take, drop, Some}
use Rattle.prelude.specs.Base.{when◌then◌else◌, same_numbers}
use Rattle.expr_inbuilts.specs.Outcomes.{Inbuilt, to_inbuilt}
use Rattle.expr_inbuilts.specs.declared.function.Inbuilt as function

unfoldable pub attempt : List ℕ → List ℕ → ℕ → ℕ → Inbuilt → Inbuilt
attempt w spelling op arguments other = when same_numbers w spelling then record { op = op; arguments = arguments } else other

-- the first of some rows, each a spelling and its function
unfoldable pub among : List (List ℕ × function.Inbuilt) → List ℕ → Inbuilt
among [] w = record { op = 0; arguments = 0 }
among (row ∷ rows) w = when same_numbers w row.0 then to_inbuilt (Some row.1) else among rows w

unfoldable pub logical : List ℕ → Inbuilt → Inbuilt
logical w r =
    attempt w (33 ∷ []) 39 1
    (attempt w (126 ∷ []) 40 1
    (attempt w (45 ∷ []) 41 1
    (attempt w (110 ∷ 97 ∷ 110 ∷ []) 42 1
    r)))

unfoldable pub carries : List ℕ → Inbuilt → Inbuilt
carries w r =
    attempt w (99 ∷ 97 ∷ 114 ∷ 114 ∷ 121 ∷ []) 30 2
    (attempt w (115 ∷ 99 ∷ 97 ∷ 114 ∷ 114 ∷ 121 ∷ []) 31 2
    (attempt w (115 ∷ 98 ∷ 111 ∷ 114 ∷ 114 ∷ 111 ∷ 119 ∷ []) 32 2
    r))

unfoldable pub extensions : List ℕ → Inbuilt → Inbuilt
extensions w r =
    attempt w (122 ∷ 101 ∷ 120 ∷ 116 ∷ []) 43 1
    (attempt w (122 ∷ 120 ∷ 116 ∷ []) 43 1
    (attempt w (115 ∷ 101 ∷ 120 ∷ 116 ∷ []) 44 1
    (attempt w (102 ∷ 45 ∷ []) 45 1
    (attempt w (97 ∷ 98 ∷ 115 ∷ []) 46 1
    r))))

unfoldable pub roundings : List ℕ → Inbuilt → Inbuilt
roundings w r =
    attempt w (115 ∷ 113 ∷ 114 ∷ 116 ∷ []) 47 1
    (attempt w (99 ∷ 101 ∷ 105 ∷ 108 ∷ []) 48 1
    (attempt w (102 ∷ 108 ∷ 111 ∷ 111 ∷ 114 ∷ []) 49 1
    (attempt w (114 ∷ 111 ∷ 117 ∷ 110 ∷ 100 ∷ []) 50 1
    (attempt w (116 ∷ 114 ∷ 117 ∷ 110 ∷ 99 ∷ []) 51 1
    r))))

unfoldable pub conversions : List ℕ → Inbuilt → Inbuilt
conversions w r =
    attempt w (105 ∷ 110 ∷ 116 ∷ 50 ∷ 102 ∷ 108 ∷ 111 ∷ 97 ∷ 116 ∷ []) 52 1
    (attempt w (117 ∷ 105 ∷ 110 ∷ 116 ∷ 50 ∷ 102 ∷ 108 ∷ 111 ∷ 97 ∷ 116 ∷ []) 53 1
    (attempt w (102 ∷ 108 ∷ 111 ∷ 97 ∷ 116 ∷ 50 ∷ 102 ∷ 108 ∷ 111 ∷ 97 ∷ 116 ∷ []) 54 1
    (attempt w (112 ∷ 111 ∷ 112 ∷ 99 ∷ 111 ∷ 117 ∷ 110 ∷ 116 ∷ []) 55 1
    (attempt w (108 ∷ 122 ∷ 99 ∷ 111 ∷ 117 ∷ 110 ∷ 116 ∷ []) 56 1
    r))))

unfoldable pub inbuilt_of : List ℕ → Inbuilt
inbuilt_of w = logical w (carries w (extensions w (roundings w (conversions w (record { op = 0; arguments = 0 })))))

-- the built-in function of the name whose length byte stands at a position
unfoldable pub inbuilt_at : List ℕ → ℕ → Inbuilt
inbuilt_at s at = inbuilt_of (take (get_or s at 0) (drop (at + 1) s))
