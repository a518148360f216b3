-- The start of the walk: the lists as they were lent, the section's own scope, and what statements are given.
use Prim.Native.Nat.{ℕ, suc, ◌+◌, ◌*◌, ◌/◌, ◌%◌, ◌≤◌, ◌<◌, min}
use mathlib.Core.Path.{◌≡◌, refl}
use mathlib.Core.Bool.{Bool, true, false}
use mathlib.Core.List.{List, [], ◌∷◌, ◌++◌, map}
use mathlib.Core.Option.{none, some}
use native.Mathlib.Omega.{arith}
use lib.ListN.{length, get_or, take, drop, replicate, get_elem?, length-drop, length-map, length-replicate}
use lib.Seq.{length-take-le}
use lib.Dec.{eqb}
use Rattle.access.specs.Le.{le16}
use Rattle.prelude.specs.Base as definition
use Rattle.prelude.specs.Base.{or_else, and_then, first, when◌then◌else◌}
use Rattle.definition.specs.Value.{Kind, Value, local}
use Rattle.definition.specs.Ast.{Space, Field, Subtable, Section}
use Rattle.definition.specs.Sizes as d
use Rattle.definition.specs.Walk.{Env}
use Rattle.definition.specs.Scope.{find, locals, section_scope}
use Rattle.definition.specs.End.{at_start}
use Rattle.definition.proofs.Openers.{base_opens}
use Rattle.definition_guarantee.specs.Limits.{WithinLimits}
use Rattle.definition_guarantee.proofs.Kept.{small_section}
use Rattle.definition_guarantee.proofs.KeptLabels.{no_label}
use Rattle.list_values.specs.Sizes.{entry}
use Rattle.file_refinement.specs.Holds.{absent_at, space_at, Holds}
use Rattle.list_refinement.specs.Encoding.{Sound, Each}
use Rattle.list_refinement.proofs.FromSection.{TablesNamed, sizes_hold_lem}
use Rattle.resolve_file.specs.Files as w
use Rattle.resolve_file.specs.Files.{start_env}
use Rattle.expr_refinement.proofs.Start.{none_small, start_locals}
use Rattle.stmt_branches.specs.Labels.{label_place}
use Rattle.expr_refinement.specs.Encoding.{BitRangesFit}
use Rattle.stmt_refinement.specs.Standing.{Beside, beside, Given, label_number, LabelsIn, Standing}

-- the pointer size that the words read
module _ (s t : List ℕ) (sec : Section) (holds : Holds s t sec) where
  pub pointer_is : w.pointer_size s t ≡ d.pointer_size sec
  unfolding w.pointer_size d.pointer_size base_opens entry space_at
  pointer_is = rw holds.default_space (go (eqb (le16 s 24) 65535) refl)
    where
      go : (b : Bool) → eqb (le16 s 24) 65535 ≡ b
          → (when b then 8 else le16 s (entry t 0 (le16 s 24 * 5 + 3))) ≡ or_else 8 (and_then (definition.when◌then◌else◌ b none (some (le16 s 24))) λ i. and_then (get_elem? sec.spaces i) λ (x : Space). some x.address_size)
      go true h = refl
      go false h =
          let q : absent_at s 24 ≡ some (le16 s 24) = rw h in
          let n = holds.spaces.count in
          let l = holds.limits.default_space (le16 s 24) q in
          let k = holds.limits.spaces in
          let c : (le16 s 24 * 5 + 3) % 1048576 ≡ le16 s 24 * 5 + 3 = omega arith in
          let at : get_or t 3328 0 + (le16 s 24 * 5 + 3) ≡ suc (get_or t 3328 0 + (2 + 3) * le16 s 24 + 2) = omega arith in
          rw (holds.spaces.element (le16 s 24) (omega arith), c, at)

-- the section's own scope

locals-sound : (sec : Section) (k : Kind) (i : ℕ) (ns : List ℕ) → ((n : ℕ) → n < i + length ns → Sound sec 0 (local k n)) → Each (λ (p : ℕ × Value). Sound sec 0 p.1) (locals k i ns)
unfolding locals
locals-sound sec k i [] h = tt
locals-sound sec k i (n ∷ ns) h = (h i (omega arith), locals-sound sec k (suc i) ns (λ m l. h m (omega arith)))

each_both : {A : Type 0} (P : A → Type 0) (xs ys : List A) → Each P xs → Each P ys → Each P (xs ++ ys)
each_both P [] ys f g = g
each_both P (x ∷ xs) ys f g = (f.0, each_both P xs ys f.1 g)

scope-sound : (sec : Section) → Each (λ (p : ℕ × Value). Sound sec 0 p.1) (section_scope sec).mapping
unfolding section_scope or_else
scope-sound sec = each_both (λ (p : ℕ × Value). Sound sec 0 p.1) (locals Kind.Field 0 (map (λ (x : Field). x.name) sec.fields)) (locals Kind.Subtable 0 (map (λ (x : Subtable). x.name) sec.subtables))
    (locals-sound sec Kind.Field 0 (map (λ (x : Field). x.name) sec.fields) (λ n h. record { number = omega (arith, length-map sec.fields (λ (x : Field). x.name)); offset = omega arith; size = omega arith }))
    (locals-sound sec Kind.Subtable 0 (map (λ (x : Subtable). x.name) sec.subtables) (λ n h. record { number = omega (arith, length-map sec.subtables (λ (x : Subtable). x.name)); offset = omega arith; size = omega arith }))

-- the words of the section's own scope: it has no parameters, and before its statements no local and no label
unfoldable pub start_scope : List ℕ
start_scope = replicate 406 0

abbrev pub room_of : Section → List ℕ → List ℕ → Env
room_of sec a m = record { section = sec; action_room = length a / 24; temporary_room = min (length m) 512 }

abbrev pub start_beside : Section → Beside
start_beside sec = beside (w.at_start (length sec.subtables))

-- the words for the Builds, and those for the actions
abbrev pub front_of : Section → List ℕ → List ℕ
front_of sec a = take (24 * length sec.subtables) a

abbrev pub tail_of : Section → List ℕ → List ℕ
tail_of sec a = drop (24 * length sec.subtables) a

module _ (sec : Section) (a : List ℕ) (room : length sec.subtables ≤ length a / 24) where
  pub front_length : length (front_of sec a) ≡ 24 * length sec.subtables
  front_length = length-take-le (24 * length sec.subtables) a (omega arith)

  pub lent_length : length (front_of sec a) + length (tail_of sec a) ≡ length a
  lent_length = rw (front_length, length-drop) (omega arith)

module _ (s t : List ℕ) (sec : Section) (holds : Holds s t sec) (within : WithinLimits sec) (tables : TablesNamed sec) (ranges : BitRangesFit sec) (short : length s ≤ 65280) (a m : List ℕ) (room : length sec.subtables ≤ length a / 24) where
  pub start_given : Given s t (room_of sec a m) (front_of sec a) (tail_of sec a) m (start_env (w.pointer_size s t))
  start_given = record {
    lent = record { builds = front_length sec a room; action_room = rw (lent_length sec a room); temporary_room = refl };
    sizes = sizes_hold_lem s t sec holds (small_section sec within) tables;
    holds = holds;
    ranges = ranges;
    short = short;
    pointer = pointer_is s t sec holds;
  }

  no_labels : LabelsIn start_scope 0 []
  unfolding start_scope find first
  no_labels = record { same = λ name known. unfold label_number in none_small 406 (label_place name); below = λ name l e. no_label l name e }

  pub start_standing : Standing t (room_of sec a m) (tail_of sec a) m (start_env (w.pointer_size s t)) 0 start_scope (start_beside sec) (at_start sec)
  unfolding at_start section_scope start_scope
  start_standing = record {
    stood = record { actions = omega arith; temporaries = omega arith; sizes = tt; errors = omega arith; sound = tt; params = tt; mapping = scope-sound sec };
    scoped = record { params = tt; counted = refl; locals = λ name known. start_locals s t sec holds name known };
    labelled = no_labels;
    labels = refl;
    few = omega arith;
    statements = refl;
    export = (refl, refl);
    export_sound = tt;
    long = length-replicate {A = ℕ} 406 0;
  }
