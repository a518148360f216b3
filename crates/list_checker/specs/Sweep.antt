-- The sweeps over a list of actions, with labels placed and subtables built marked in tables.
use Rattle.std.specs.Prelude.{ℕ, zero, suc, ◌-◌, Bool, true, false, ◌&&◌, not, List, [], ◌∷◌, get_or, set, take, drop, replicate, eqb, leb}
use Rattle.std.specs.List.{list_all}
use Rattle.prelude.specs.Base.{when◌then◌else◌}
use Rattle.list_checker.specs.Action.{action_fit}

unfoldable pub places_label : List ℕ → Bool
places_label w = eqb (get_or w 0 0) 0 && eqb (get_or w 1 0) 62

-- whether the label is new, and the table afterwards
pub data Noted : Type 0 where
  noted : Bool → List Bool → Noted

unfoldable pub note_label : List ℕ → List Bool → Noted
note_label w seen = when places_label w then noted (not (get_or seen (get_or w 2 0) false)) (set seen (get_or w 2 0) true) else noted true seen

unfoldable pub note_build : ℕ → List ℕ → List Bool → List Bool
note_build base w built = when eqb (get_or w 0 0) 5 && leb base (get_or w 2 0) then set built (get_or w 2 0 - base) true else built

-- the first entries of a table, as many as are asked for or there are
abbrev pub all_marked : ℕ → List Bool → Bool
all_marked count built = list_all (λ b. b) (take count built)

-- a new label lets the sweep go on
unfoldable pub when_new : Noted → (List Bool → Bool) → Bool
when_new (noted true seen) f = f seen
when_new (noted false seen) f = false

module _ (temporaries subtables pointer base : ℕ) where
  -- the actions, the labels seen and the subtables built before
  unfoldable pub sweep : List (List ℕ) → List Bool → List Bool → Bool
  sweep [] seen built = all_marked (subtables - base) built
  sweep (w ∷ rows) seen built =
      action_fit temporaries subtables pointer w
      && when_new (note_label w seen) λ next. sweep rows next (note_build base w built)

-- The parts of a sweep.

module _ (temporaries subtables pointer : ℕ) where
  unfoldable pub rows_fit : ℕ → List ℕ → Bool
  rows_fit zero ws = true
  rows_fit (suc n) ws = action_fit temporaries subtables pointer (take 24 ws) && rows_fit n (drop 24 ws)

unfoldable pub labels_new : ℕ → List ℕ → List Bool → Bool
labels_new zero ws seen = true
labels_new (suc n) ws seen = when_new (note_label (take 24 ws) seen) λ next. labels_new n (drop 24 ws) next

unfoldable pub built_after : ℕ → ℕ → List ℕ → List Bool → List Bool
built_after base zero ws built = built
built_after base (suc n) ws built = built_after base n (drop 24 ws) (note_build base (take 24 ws) built)

unfoldable pub builds_it : ℕ → List ℕ → Bool
builds_it i w = eqb (get_or w 0 0) 5 && eqb i (get_or w 2 0)

unfoldable pub any_builds : ℕ → ℕ → List ℕ → Bool
any_builds i zero ws = false
any_builds i (suc n) ws = when builds_it i (take 24 ws) then true else any_builds i n (drop 24 ws)

unfoldable pub all_built_by : ℕ → List ℕ → ℕ → Bool
all_built_by n ws zero = true
all_built_by n ws (suc i) = any_builds i n ws && all_built_by n ws i

unfoldable pub list_fit : ℕ → ℕ → ℕ → ℕ → List ℕ → Bool
list_fit temporaries subtables pointer n ws =
    rows_fit temporaries subtables pointer n ws && (labels_new n ws (replicate 256 false) && all_built_by n ws subtables)
