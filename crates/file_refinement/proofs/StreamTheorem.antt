-- THE THEOREM on streams: `read_stream` refuses as the definition does, and what it accepts holds the definition's section.
use mathlib.Core.Path.{◌≡◌, refl, sym, ◌∙◌, ap}
use mathlib.Core.Bool.{Bool, true, false}
use mathlib.Core.List.{List, [], ◌∷◌, ◌++◌, map, append-nil, append_assoc}
use mathlib.Core.Option.{Option, none, some}
use Prim.Native.Nat.{ℕ, zero, suc, ◌+◌, ◌-◌, ◌*◌, ◌%◌, ◌≤◌, ◌<◌}
use native.Mathlib.Nat.{zero-add}
use native.Mathlib.Omega.{arith}
use lib.ListN.{length, get_or, set, take, drop, get_elem?, length-set, length-map}
use lib.Seq.{get_or-set_same, get_or-set_other}
use lib.Dec.{eqb}
use borrow.Author.Tests.{eqb-true, ne_eqb}
use Rattle.prelude.specs.Base.{when◌then◌else◌, position, first, ◌or◌}
use Rattle.definition.specs.Refusals.{Refusal, refusal_number}
use Rattle.definition.specs.Ast.{Macro, Section}
use Rattle.definition.specs.SectionFile.{Parsed, parsed, refused, on}
use Rattle.definition.specs.SectionFile as d
use Rattle.definition.specs.Scope.{Symbol, symbols, find, globals}
use Rattle.access.specs.Le.{le16}
use Rattle.file_syntax.specs.Cursors.{Cursor, cursor}
use Rattle.file_section.specs.Names.{Reading, reading, names}
use Rattle.file_section.specs.Headers.{header}
use Rattle.file_section.specs.Lists.{stamp, lists}
use Rattle.file_section.specs.Stream.{statements, Answer, answer_of, read_stream}
use Rattle.file_blocks.specs.Blocks.{refusal_of}
use Rattle.file_refinement.specs.Holds.{Limits, Listed, space_at, register_at, bit_range_at, table_at, name_only, field_at, subtable_at, symbol_word, local_word, bodies, MacroAt, Holds}
use Rattle.file_refinement.proofs.Agree.{Agrees, went, stopped, refusal_bad}
use Rattle.file_refinement.proofs.AgreeNames.{header_at, header_agrees, Fills, goes, stops}
use Rattle.file_refinement.proofs.AgreeLists.{marked, stamp_of}
use Rattle.file_refinement.proofs.AgreeEntries.{stamp_global, stamp-local}
use Rattle.file_refinement.proofs.AgreeStream.{Steps, stream_fills, space_name, register_name, bit_range_name, table_name, macro_name, own_name, field_name, subtable_name}

-- an answer and the definition's reading: both accept, or both refuse with one number
data Answered (s t0 : List ℕ) (x : Parsed Section) (a : Answer) : Type 0 where
  accepted : (sec : Section) (rest : List ℕ) → Steps s t0 sec a.table → x ≡ parsed sec rest → a.refusal ≡ 0 → Answered s t0 x a
  turned : (r : Refusal) → x ≡ refused r → a.refusal ≡ refusal_number r → Answered s t0 x a

module _ (s t0 : List ℕ) (short : length s < 65536) (long : length t0 ≡ 3344) (clear : (j : ℕ) → get_or t0 j 0 ≡ 0) where
  filled : (v : ℕ) → Limits s → 34 ≤ length s → Fills s (λ sec _ t. Steps s t0 sec t) (d.lists (header_at s) (drop 34 s)) (statements s (lists s (names s (le16 s 2) (reading (cursor 34 0 v) t0)))) →
      Answered s t0 (d.lists (header_at s) (drop 34 s)) (answer_of (statements s (lists s (names s (le16 s 2) (reading (cursor 34 0 v) t0)))))
  filled v lim b (goes sec q u t c h e f) = accepted sec (drop q s) (rw f h) e (ap (λ (w : Reading). w.cursor.bad) f)
  filled v lim b (stops r q e f) = turned r e (ap (λ (c : Cursor). c.bad) f)

  answered : Answered s t0 (d.read_section s) (read_stream s t0)
  unfolding d.read_section read_stream on
  answered = read (header_agrees s)
    where
      read : Agrees s (λ h q v. (h ≡ header_at s) × (q ≡ 34) × Limits s) (d.header (drop 0 s)) (header s) → Answered s t0 (d.read_section s) (read_stream s t0)
      read (stopped r q e f) = turned r (rw e) (rw (f, refusal_bad r))
      read (went h q v b n e f) = rw (e, f, n.0, n.1) (filled v n.2 (rw n.1 at b) (stream_fills s short t0 long clear n.2 v (rw n.1 at b)))

  pub read_stream_refusal : (read_stream s t0).refusal ≡ refusal_of (d.read_section s)
  unfolding refusal_of
  read_stream_refusal = read answered
    where
      read : Answered s t0 (d.read_section s) (read_stream s t0) → (read_stream s t0).refusal ≡ refusal_of (d.read_section s)
      read (accepted sec rest h e f) = rw e f
      read (turned r e f) = rw e f

  pub read_stream_steps : (sec : Section) (rest : List ℕ) → d.read_section s ≡ parsed sec rest → Steps s t0 sec (read_stream s t0).table
  read_stream_steps sec rest g = read answered
    where
      read : Answered s t0 (d.read_section s) (read_stream s t0) → Steps s t0 sec (read_stream s t0).table
      read (accepted other more h e f) = let z : other ≡ sec = cc in rw (← z) h
      read (turned r e f) = absurd (let z : ◌≡◌ {A = ℕ} 0 1 = cc in omega arith)

-- Marks.

-- the first mark that is one
unfoldable or_mark : ℕ → ℕ → ℕ
or_mark a b = when eqb a 0 then b else a

or_assoc : (a b c : ℕ) → or_mark (or_mark a b) c ≡ or_mark a (or_mark b c)
unfolding or_mark
or_assoc a b c = go (eqb a 0) refl
  where
    go : (x : Bool) → eqb a 0 ≡ x → (when eqb (when eqb a 0 then b else a) 0 then c else (when eqb a 0 then b else a)) ≡ (when eqb a 0 then (when eqb b 0 then c else b) else a)
    go true e = rw e
    go false e = rw (e, e)

or_none_lem : (a : ℕ) → or_mark a 0 ≡ a
unfolding or_mark
or_none_lem a = go (eqb a 0) refl
  where
    go : (x : Bool) → eqb a 0 ≡ x → (when eqb a 0 then 0 else a) ≡ a
    go true e = rw e (sym (eqb-true a 0 e))
    go false e = rw e

-- the mark that a list of symbols gives a name
mark_in : (k i : ℕ) → List ℕ → ℕ → ℕ
mark_in k i ns x = stamp_of (λ j. 1 + k + 8 * j) (position (eqb x) i ns)

stamp_in : (k i : ℕ) (ns : List ℕ) (x : ℕ) → k < 7 → i + length ns ≤ 1024 → stamp_of (stamp k) (position (eqb x) i ns) ≡ mark_in k i ns x
unfolding stamp_of position mark_in
stamp_in k i [] x h l = refl
stamp_in k i (n ∷ ns) x h l = go (eqb x n) (stamp_in k (suc i) ns x h (omega arith))
  where
    go : (b : Bool) → stamp_of (stamp k) (position (eqb x) (suc i) ns) ≡ stamp_of (λ j. 1 + k + 8 * j) (position (eqb x) (suc i) ns) →
        stamp_of (stamp k) (when b then some i else position (eqb x) (suc i) ns) ≡ stamp_of (λ j. 1 + k + 8 * j) (when b then some i else position (eqb x) (suc i) ns)
    go true e = stamp_global k i h (omega arith)
    go false e = e

marked_in : (k : ℕ) (ns : List ℕ) (x old : ℕ) → k < 7 → length ns ≤ 1024 → marked (stamp k) 0 ns x old ≡ or_mark old (mark_in k 0 ns x)
unfolding marked or_mark
marked_in k ns x old h l = rw (stamp_in k 0 ns x h (omega arith))

-- symbols of one kind, by the number that its words have
module _ {A : Type 0} (name : A → ℕ) (symbol : ℕ → A → Symbol) (k : ℕ) (numbered : (i : ℕ) (y : A) → symbol_word (some (symbol i y)) ≡ 1 + k + 8 * i) where
  find_in : (i : ℕ) (ys : List A) (rest : List (ℕ × Symbol)) (x : ℕ) → symbol_word (find x (symbols name symbol i ys ++ rest)) ≡ or_mark (mark_in k i (map name ys) x) (symbol_word (find x rest))
  unfolding find first symbols symbol_word mark_in stamp_of position or_mark ◌or◌
  find_in i [] rest x = refl
  find_in i (y ∷ ys) rest x = go (eqb x (name y)) (find_in (suc i) ys rest x)
    where
      go : (b : Bool) → symbol_word (find x (symbols name symbol (suc i) ys ++ rest)) ≡ or_mark (stamp_of (λ j. 1 + k + 8 * j) (position (eqb x) (suc i) (map name ys))) (symbol_word (find x rest)) →
          symbol_word ((when b then some (symbol i y) else none) or find x (symbols name symbol (suc i) ys ++ rest)) ≡ or_mark (stamp_of (λ j. 1 + k + 8 * j) (when b then some i else position (eqb x) (suc i) (map name ys))) (symbol_word (find x rest))
      go true e = rw (numbered i y, ne_eqb (1 + k + 8 * i) 0 (λ z. omega arith))
      go false e = e

nothing_found : (x : ℕ) → symbol_word (find x []) ≡ 0
unfolding find first symbol_word
nothing_found x = refl

or_first : (a : ℕ) → or_mark 0 a ≡ a
unfolding or_mark
or_first a = refl

regrouped : (a b c d e f g : ℕ) → or_mark (or_mark (or_mark (or_mark (or_mark (or_mark (or_mark 0 a) b) c) d) e) f) g ≡ or_mark a (or_mark b (or_mark c (or_mark d (or_mark e (or_mark f (or_mark g 0))))))
regrouped a b c d e f g = rw (or_first a) (simp (or_assoc, or_none_lem))

local-stamp : (k i : ℕ) (ns : List ℕ) (x : ℕ) → 7 ≤ k → k < 9 → i + length ns ≤ 1024 → stamp_of (stamp k) (position (eqb x) i ns) ≡ stamp_of (λ j. k - 6 + 2 * j) (position (eqb x) i ns)
unfolding stamp_of position
local-stamp k i [] x h g l = refl
local-stamp k i (n ∷ ns) x h g l = go (eqb x n) (local-stamp k (suc i) ns x h g (omega arith))
  where
    go : (b : Bool) → stamp_of (stamp k) (position (eqb x) (suc i) ns) ≡ stamp_of (λ j. k - 6 + 2 * j) (position (eqb x) (suc i) ns) →
        stamp_of (stamp k) (when b then some i else position (eqb x) (suc i) ns) ≡ stamp_of (λ j. k - 6 + 2 * j) (when b then some i else position (eqb x) (suc i) ns)
    go true e = stamp-local k i h g (omega arith)
    go false e = e

local_marks : (fs ss : List ℕ) (x : ℕ) → length fs ≤ 1024 → length ss ≤ 1024 → marked (stamp 8) 0 ss x (marked (stamp 7) 0 fs x 0) ≡ local_word (position (eqb x) 0 fs) (position (eqb x) 0 ss)
unfolding marked local_word stamp_of
local_marks fs ss x a b = rw (local-stamp 7 0 fs x (omega arith) (omega arith) (omega arith), local-stamp 8 0 ss x (omega arith) (omega arith) (omega arith)) (go (position (eqb x) 0 fs) (position (eqb x) 0 ss))
  where
    go : (f g : Option ℕ) → (when eqb (stamp_of (λ j. 7 - 6 + 2 * j) f) 0 then stamp_of (λ j. 8 - 6 + 2 * j) g else stamp_of (λ j. 7 - 6 + 2 * j) f) ≡ local_word f g
    go none none = refl
    go none (some i) = refl
    go (some i) g = rw (ne_eqb (1 + 2 * i) 0 (λ z. omega arith))

listed_right : {A : Type 0} (a b c d e f g : List A) → a ++ b ++ c ++ d ++ e ++ f ++ g ≡ a ++ (b ++ (c ++ (d ++ (e ++ (f ++ g)))))
listed_right a b c d e f g = simp append_assoc

bodies_take : (xs : List Macro) (i : ℕ) → bodies (take i xs) ≤ bodies xs
unfolding bodies
bodies_take [] zero = omega arith
bodies_take [] (suc i) = omega arith
bodies_take (x ∷ xs) zero = omega arith
bodies_take (x ∷ xs) (suc i) = let l = bodies_take xs i in omega arith

module _ (s t0 t : List ℕ) (sec : Section) (short : length s < 65536) (clear : (j : ℕ) → get_or t0 j 0 ≡ 0) (h : Steps s t0 sec t) where
  fits-ordinal : (n : ℕ) → n ≤ bodies sec.macros → n % 65536 ≡ n
  fits-ordinal n l = let a = h.macros.room in let b = h.macros-inside in omega arith

  final : (j : ℕ) → (j ≡ 3337 → ⊥) → get_or t j 0 ≡ get_or h.t10 j 0
  final j n = ap (λ (l : List ℕ). get_or l j 0) h.last ∙ get_or-set_other h.t10 3337 j h.p10 0 n

  spaces-listed : Listed s t 0 3 (space_at s) sec.spaces
  spaces-listed = let z : get_or t 3328 0 ≡ h.p1 = final (3328) (λ e. absurd (omega arith)) ∙ h.subtables.kept (3328) (λ a b. absurd (omega arith)) (λ e. absurd (omega arith)) ∙ h.fields.kept (3328) (λ a b. absurd (omega arith)) (λ e. absurd (omega arith)) ∙ h.others.kept (3328) (λ a b. absurd (omega arith)) (λ e. absurd (omega arith)) ∙ h.macros.kept (3328) (λ a b. absurd (omega arith)) (λ a b. absurd (omega (arith, h.limits.macros))) (λ a b. absurd (omega (arith, h.limits.macros))) (λ e. absurd (omega arith)) ∙ get_or-set_other h.t6 3333 (3328) h.p6 0 (λ e. absurd (omega arith)) ∙ h.user_ops.kept (3328) (λ a b. absurd (omega arith)) (λ e. absurd (omega arith)) ∙ h.tables.kept (3328) (λ a b. absurd (omega arith)) (λ e. absurd (omega arith)) ∙ h.bit_ranges.kept (3328) (λ a b. absurd (omega arith)) (λ e. absurd (omega arith)) ∙ h.registers.kept (3328) (λ a b. absurd (omega arith)) (λ e. absurd (omega arith)) ∙ h.spaces.start in
      record { count = h.spaces.count; element = λ j l. rw z (h.spaces.element j l) }

  registers-listed : Listed s t 1 2 (register_at s) sec.registers
  registers-listed = let z : get_or t 3329 0 ≡ h.p2 = final (3329) (λ e. absurd (omega arith)) ∙ h.subtables.kept (3329) (λ a b. absurd (omega arith)) (λ e. absurd (omega arith)) ∙ h.fields.kept (3329) (λ a b. absurd (omega arith)) (λ e. absurd (omega arith)) ∙ h.others.kept (3329) (λ a b. absurd (omega arith)) (λ e. absurd (omega arith)) ∙ h.macros.kept (3329) (λ a b. absurd (omega arith)) (λ a b. absurd (omega (arith, h.limits.macros))) (λ a b. absurd (omega (arith, h.limits.macros))) (λ e. absurd (omega arith)) ∙ get_or-set_other h.t6 3333 (3329) h.p6 0 (λ e. absurd (omega arith)) ∙ h.user_ops.kept (3329) (λ a b. absurd (omega arith)) (λ e. absurd (omega arith)) ∙ h.tables.kept (3329) (λ a b. absurd (omega arith)) (λ e. absurd (omega arith)) ∙ h.bit_ranges.kept (3329) (λ a b. absurd (omega arith)) (λ e. absurd (omega arith)) ∙ h.registers.start in
      record { count = h.registers.count; element = λ j l. rw z (h.registers.element j l) }

  bit_ranges-listed : Listed s t 2 6 (bit_range_at s) sec.bit_ranges
  bit_ranges-listed = let z : get_or t 3330 0 ≡ h.p3 = final (3330) (λ e. absurd (omega arith)) ∙ h.subtables.kept (3330) (λ a b. absurd (omega arith)) (λ e. absurd (omega arith)) ∙ h.fields.kept (3330) (λ a b. absurd (omega arith)) (λ e. absurd (omega arith)) ∙ h.others.kept (3330) (λ a b. absurd (omega arith)) (λ e. absurd (omega arith)) ∙ h.macros.kept (3330) (λ a b. absurd (omega arith)) (λ a b. absurd (omega (arith, h.limits.macros))) (λ a b. absurd (omega (arith, h.limits.macros))) (λ e. absurd (omega arith)) ∙ get_or-set_other h.t6 3333 (3330) h.p6 0 (λ e. absurd (omega arith)) ∙ h.user_ops.kept (3330) (λ a b. absurd (omega arith)) (λ e. absurd (omega arith)) ∙ h.tables.kept (3330) (λ a b. absurd (omega arith)) (λ e. absurd (omega arith)) ∙ h.bit_ranges.start in
      record { count = h.bit_ranges.count; element = λ j l. rw z (h.bit_ranges.element j l) }

  tables-listed : Listed s t 3 2 (table_at s) sec.tables
  tables-listed = let z : get_or t 3331 0 ≡ h.p4 = final (3331) (λ e. absurd (omega arith)) ∙ h.subtables.kept (3331) (λ a b. absurd (omega arith)) (λ e. absurd (omega arith)) ∙ h.fields.kept (3331) (λ a b. absurd (omega arith)) (λ e. absurd (omega arith)) ∙ h.others.kept (3331) (λ a b. absurd (omega arith)) (λ e. absurd (omega arith)) ∙ h.macros.kept (3331) (λ a b. absurd (omega arith)) (λ a b. absurd (omega (arith, h.limits.macros))) (λ a b. absurd (omega (arith, h.limits.macros))) (λ e. absurd (omega arith)) ∙ get_or-set_other h.t6 3333 (3331) h.p6 0 (λ e. absurd (omega arith)) ∙ h.user_ops.kept (3331) (λ a b. absurd (omega arith)) (λ e. absurd (omega arith)) ∙ h.tables.start in
      record { count = h.tables.count; element = λ j l. rw z (h.tables.element j l) }

  user_ops-listed : Listed s t 4 0 name_only sec.user_ops
  user_ops-listed = let z : get_or t 3332 0 ≡ h.p5 = final (3332) (λ e. absurd (omega arith)) ∙ h.subtables.kept (3332) (λ a b. absurd (omega arith)) (λ e. absurd (omega arith)) ∙ h.fields.kept (3332) (λ a b. absurd (omega arith)) (λ e. absurd (omega arith)) ∙ h.others.kept (3332) (λ a b. absurd (omega arith)) (λ e. absurd (omega arith)) ∙ h.macros.kept (3332) (λ a b. absurd (omega arith)) (λ a b. absurd (omega (arith, h.limits.macros))) (λ a b. absurd (omega (arith, h.limits.macros))) (λ e. absurd (omega arith)) ∙ get_or-set_other h.t6 3333 (3332) h.p6 0 (λ e. absurd (omega arith)) ∙ h.user_ops.start in
      record { count = h.user_ops.count; element = λ j l. rw z (h.user_ops.element j l) }

  others-listed : Listed s t 6 0 name_only sec.others
  others-listed = let z : get_or t 3334 0 ≡ h.p7 = final (3334) (λ e. absurd (omega arith)) ∙ h.subtables.kept (3334) (λ a b. absurd (omega arith)) (λ e. absurd (omega arith)) ∙ h.fields.kept (3334) (λ a b. absurd (omega arith)) (λ e. absurd (omega arith)) ∙ h.others.start in
      record { count = h.others.count; element = λ j l. rw z (h.others.element j l) }

  fields-listed : Listed s t 7 2 (field_at s) sec.fields
  fields-listed = let z : get_or t 3335 0 ≡ h.p8 = final (3335) (λ e. absurd (omega arith)) ∙ h.subtables.kept (3335) (λ a b. absurd (omega arith)) (λ e. absurd (omega arith)) ∙ h.fields.start in
      record { count = h.fields.count; element = λ j l. rw z (h.fields.element j l) }

  subtables-listed : Listed s t 8 2 (subtable_at s) sec.subtables
  subtables-listed = let z : get_or t 3336 0 ≡ h.p9 = final (3336) (λ e. absurd (omega arith)) ∙ h.subtables.start in
      record { count = h.subtables.count; element = λ j l. rw z (h.subtables.element j l) }

  name_kept : (j : ℕ) → j < 1024 → get_or t j 0 ≡ get_or h.t1 j 0
  name_kept j l = final (j) (λ e. absurd (omega arith)) ∙ h.subtables.kept (j) (λ a b. absurd (omega arith)) (λ e. absurd (omega arith)) ∙ h.fields.kept (j) (λ a b. absurd (omega arith)) (λ e. absurd (omega arith)) ∙ h.others.kept (j) (λ a b. absurd (omega arith)) (λ e. absurd (omega arith)) ∙ h.macros.kept (j) (λ a b. absurd (omega arith)) (λ a b. absurd (omega (arith, h.limits.macros))) (λ a b. absurd (omega (arith, h.limits.macros))) (λ e. absurd (omega arith)) ∙ get_or-set_other h.t6 3333 (j) h.p6 0 (λ e. absurd (omega arith)) ∙ h.user_ops.kept (j) (λ a b. absurd (omega arith)) (λ e. absurd (omega arith)) ∙ h.tables.kept (j) (λ a b. absurd (omega arith)) (λ e. absurd (omega arith)) ∙ h.bit_ranges.kept (j) (λ a b. absurd (omega arith)) (λ e. absurd (omega arith)) ∙ h.registers.kept (j) (λ a b. absurd (omega arith)) (λ e. absurd (omega arith)) ∙ h.spaces.kept (j) (λ a b. absurd (omega arith)) (λ e. absurd (omega arith))

  name_place : (n : ℕ) → n < length sec.names → get_or t n 0 ≡ get_or h.t1 (0 + n) 0
  name_place n l = let c = h.names.count in let m = h.limits.names in name_kept n (omega arith) ∙ ap (λ (j : ℕ). get_or h.t1 j 0) (sym (zero-add n))

  macro_kept : (j : ℕ) → 3072 ≤ j → j < 3328 → get_or t j 0 ≡ get_or h.t7 j 0
  macro_kept j l r = final (j) (λ e. absurd (omega arith)) ∙ h.subtables.kept (j) (λ a b. absurd (omega arith)) (λ e. absurd (omega arith)) ∙ h.fields.kept (j) (λ a b. absurd (omega arith)) (λ e. absurd (omega arith)) ∙ h.others.kept (j) (λ a b. absurd (omega arith)) (λ e. absurd (omega arith))

  macro-place : (i : ℕ) → i < le16 s 14 → get_or t (3072 + i) 0 ≡ get_or h.t7 (3072 + (0 + i)) 0
  macro-place i l = let m = h.limits.macros in macro_kept (3072 + i) (omega arith) (omega arith) ∙ ap (λ (j : ℕ). get_or h.t7 (3072 + j) 0) (sym (zero-add i))

  ordinal-place : (i : ℕ) → i < le16 s 14 → get_or t (3200 + i) 0 ≡ get_or h.t7 (3200 + (0 + i)) 0
  ordinal-place i l = let m = h.limits.macros in macro_kept (3200 + i) (omega arith) (omega arith) ∙ ap (λ (j : ℕ). get_or h.t7 (3200 + j) 0) (sym (zero-add i))

  ordinal_start : get_or (set h.t6 3333 h.p6) 3338 0 ≡ 0
  ordinal_start = get_or-set_other h.t6 3333 3338 h.p6 0 (λ e. absurd (omega arith)) ∙ h.user_ops.kept 3338 (λ a b. absurd (omega arith)) (λ e. absurd (omega arith)) ∙ h.tables.kept 3338 (λ a b. absurd (omega arith)) (λ e. absurd (omega arith)) ∙ h.bit_ranges.kept 3338 (λ a b. absurd (omega arith)) (λ e. absurd (omega arith)) ∙ h.registers.kept 3338 (λ a b. absurd (omega arith)) (λ e. absurd (omega arith)) ∙ h.spaces.kept 3338 (λ a b. absurd (omega arith)) (λ e. absurd (omega arith)) ∙ h.names.above 3338 (omega (arith, h.limits.names)) ∙ clear 3338

  at_index : {A : Type 0} (xs : List A) (i : ℕ) (x : A) → get_elem? xs i ≡ some x → i < length xs
  at_index [] i x e = absurd (let z : ◌≡◌ {A = ℕ} 0 1 = cc in omega arith)
  at_index (y ∷ ys) zero x e = omega arith
  at_index (y ∷ ys) (suc i) x e = let l = at_index ys i x e in omega arith

  macro_held : (i : ℕ) (x : Macro) → get_elem? sec.macros i ≡ some x → MacroAt s (get_or t (3072 + i) 0) x
  macro_held i x e = let l = at_index sec.macros i x e in rw (macro-place i (rw h.macros.count at l)) (h.macros.macro i x e)

  macro-ordinal : (i : ℕ) → i < length sec.macros → get_or t (3200 + i) 0 ≡ bodies (take i sec.macros)
  macro-ordinal i l =
      let k : i < le16 s 14 = rw h.macros.count at l in
      ordinal-place i k ∙ h.macros.ordinal i k ∙ ap (λ (y : ℕ). y % 65536) (ap (λ (y : ℕ). y + bodies (take i sec.macros)) ordinal_start ∙ zero-add _) ∙ fits-ordinal (bodies (take i sec.macros)) (bodies_take sec.macros i)

  own_ordinal_lem : get_or t 3338 0 ≡ bodies sec.macros
  own_ordinal_lem = final (3338) (λ e. absurd (omega arith)) ∙ h.subtables.kept (3338) (λ a b. absurd (omega arith)) (λ e. absurd (omega arith)) ∙ h.fields.kept (3338) (λ a b. absurd (omega arith)) (λ e. absurd (omega arith)) ∙ h.others.kept (3338) (λ a b. absurd (omega arith)) (λ e. absurd (omega arith)) ∙ h.macros.next-ordinal ∙ ap (λ (y : ℕ). y % 65536) (ap (λ (y : ℕ). y + bodies sec.macros) ordinal_start ∙ zero-add _) ∙ fits-ordinal (bodies sec.macros) (omega arith)

  statements-place : get_or t 3337 0 ≡ h.p10
  statements-place = ap (λ (l : List ℕ). get_or l 3337 0) h.last ∙ get_or-set_same h.t10 3337 h.p10 0 (let z = h.subtables.size in omega arith)

  table_size : length t ≡ 3344
  table_size = ap length h.last ∙ length-set h.t10 3337 h.p10 ∙ h.subtables.size

  few-spaces : length (map space_name sec.spaces) ≤ 1024
  few-spaces = let c = h.spaces.count in let l = h.limits.spaces in rw length-map (omega arith)

  few-registers : length (map register_name sec.registers) ≤ 1024
  few-registers = let c = h.registers.count in let l = h.limits.registers in rw length-map (omega arith)

  few-bit_ranges : length (map bit_range_name sec.bit_ranges) ≤ 1024
  few-bit_ranges = let c = h.bit_ranges.count in let l = h.limits.bit_ranges in rw length-map (omega arith)

  few-tables : length (map table_name sec.tables) ≤ 1024
  few-tables = let c = h.tables.count in let l = h.limits.tables in rw length-map (omega arith)

  few-user_ops : length (map own_name sec.user_ops) ≤ 1024
  few-user_ops = let c = h.user_ops.count in let l = h.limits.user_ops in rw length-map (omega arith)

  few-macros : length (map macro_name sec.macros) ≤ 1024
  few-macros = let c = h.macros.count in let l = h.limits.macros in rw length-map (omega arith)

  few-others : length (map own_name sec.others) ≤ 1024
  few-others = let c = h.others.count in let l = h.limits.others in rw length-map (omega arith)

  few-fields : length (map field_name sec.fields) ≤ 1024
  few-fields = let c = h.fields.count in let l = h.limits.fields in rw length-map (omega arith)

  few-subtables : length (map subtable_name sec.subtables) ≤ 1024
  few-subtables = let c = h.subtables.count in let l = h.limits.subtables in rw length-map (omega arith)

  global_0 : (x : ℕ) → x < 1024 → get_or h.t2 (1024 + x) 0 ≡ or_mark 0 (mark_in 0 0 (map space_name sec.spaces) x)
  global_0 x l = h.spaces.marks x l ∙ marked_in 0 (map space_name sec.spaces) x _ (omega arith) few-spaces ∙ ap (λ (y : ℕ). or_mark y (mark_in 0 0 (map space_name sec.spaces) x)) (h.names.above (1024 + x) (omega (arith, h.limits.names)) ∙ clear (1024 + x))

  global_1 : (x : ℕ) → x < 1024 → get_or h.t3 (1024 + x) 0 ≡ or_mark (or_mark 0 (mark_in 0 0 (map space_name sec.spaces) x)) (mark_in 1 0 (map register_name sec.registers) x)
  global_1 x l = h.registers.marks x l ∙ marked_in 1 (map register_name sec.registers) x _ (omega arith) few-registers ∙ ap (λ (y : ℕ). or_mark y (mark_in 1 0 (map register_name sec.registers) x)) (global_0 x l)

  global_2 : (x : ℕ) → x < 1024 → get_or h.t4 (1024 + x) 0 ≡ or_mark (or_mark (or_mark 0 (mark_in 0 0 (map space_name sec.spaces) x)) (mark_in 1 0 (map register_name sec.registers) x)) (mark_in 2 0 (map bit_range_name sec.bit_ranges) x)
  global_2 x l = h.bit_ranges.marks x l ∙ marked_in 2 (map bit_range_name sec.bit_ranges) x _ (omega arith) few-bit_ranges ∙ ap (λ (y : ℕ). or_mark y (mark_in 2 0 (map bit_range_name sec.bit_ranges) x)) (global_1 x l)

  global_3 : (x : ℕ) → x < 1024 → get_or h.t5 (1024 + x) 0 ≡ or_mark (or_mark (or_mark (or_mark 0 (mark_in 0 0 (map space_name sec.spaces) x)) (mark_in 1 0 (map register_name sec.registers) x)) (mark_in 2 0 (map bit_range_name sec.bit_ranges) x)) (mark_in 3 0 (map table_name sec.tables) x)
  global_3 x l = h.tables.marks x l ∙ marked_in 3 (map table_name sec.tables) x _ (omega arith) few-tables ∙ ap (λ (y : ℕ). or_mark y (mark_in 3 0 (map table_name sec.tables) x)) (global_2 x l)

  global_4 : (x : ℕ) → x < 1024 → get_or h.t6 (1024 + x) 0 ≡ or_mark (or_mark (or_mark (or_mark (or_mark 0 (mark_in 0 0 (map space_name sec.spaces) x)) (mark_in 1 0 (map register_name sec.registers) x)) (mark_in 2 0 (map bit_range_name sec.bit_ranges) x)) (mark_in 3 0 (map table_name sec.tables) x)) (mark_in 4 0 (map own_name sec.user_ops) x)
  global_4 x l = h.user_ops.marks x l ∙ marked_in 4 (map own_name sec.user_ops) x _ (omega arith) few-user_ops ∙ ap (λ (y : ℕ). or_mark y (mark_in 4 0 (map own_name sec.user_ops) x)) (global_3 x l)

  global_5 : (x : ℕ) → x < 1024 → get_or h.t7 (1024 + x) 0 ≡ or_mark (or_mark (or_mark (or_mark (or_mark (or_mark 0 (mark_in 0 0 (map space_name sec.spaces) x)) (mark_in 1 0 (map register_name sec.registers) x)) (mark_in 2 0 (map bit_range_name sec.bit_ranges) x)) (mark_in 3 0 (map table_name sec.tables) x)) (mark_in 4 0 (map own_name sec.user_ops) x)) (mark_in 5 0 (map macro_name sec.macros) x)
  global_5 x l = h.macros.marks x l ∙ marked_in 5 (map macro_name sec.macros) x _ (omega arith) few-macros ∙ ap (λ (y : ℕ). or_mark y (mark_in 5 0 (map macro_name sec.macros) x)) (get_or-set_other h.t6 3333 (1024 + x) h.p6 0 (λ e. absurd (omega arith)) ∙ global_4 x l)

  global_6 : (x : ℕ) → x < 1024 → get_or h.t8 (1024 + x) 0 ≡ or_mark (or_mark (or_mark (or_mark (or_mark (or_mark (or_mark 0 (mark_in 0 0 (map space_name sec.spaces) x)) (mark_in 1 0 (map register_name sec.registers) x)) (mark_in 2 0 (map bit_range_name sec.bit_ranges) x)) (mark_in 3 0 (map table_name sec.tables) x)) (mark_in 4 0 (map own_name sec.user_ops) x)) (mark_in 5 0 (map macro_name sec.macros) x)) (mark_in 6 0 (map own_name sec.others) x)
  global_6 x l = h.others.marks x l ∙ marked_in 6 (map own_name sec.others) x _ (omega arith) few-others ∙ ap (λ (y : ℕ). or_mark y (mark_in 6 0 (map own_name sec.others) x)) (global_5 x l)

  -- the globals from each kind on
  abbrev from_others : List (ℕ × Symbol)
  from_others = symbols own_name (λ i n. Symbol.Other i) 0 sec.others

  abbrev from_macros : List (ℕ × Symbol)
  from_macros = symbols macro_name Symbol.Macro 0 sec.macros ++ from_others

  abbrev from_user_ops : List (ℕ × Symbol)
  from_user_ops = symbols own_name (λ i n. Symbol.UserOp i) 0 sec.user_ops ++ from_macros

  abbrev from_tables : List (ℕ × Symbol)
  from_tables = symbols table_name Symbol.Table 0 sec.tables ++ from_user_ops

  abbrev from_bit_ranges : List (ℕ × Symbol)
  from_bit_ranges = symbols bit_range_name Symbol.BitRange 0 sec.bit_ranges ++ from_tables

  abbrev from_registers : List (ℕ × Symbol)
  from_registers = symbols register_name Symbol.Register 0 sec.registers ++ from_bit_ranges

  abbrev from_spaces : List (ℕ × Symbol)
  from_spaces = symbols space_name Symbol.Space 0 sec.spaces ++ from_registers

  globals_from : globals sec ≡ from_spaces
  unfolding globals
  globals_from = listed_right (symbols space_name Symbol.Space 0 sec.spaces) (symbols register_name Symbol.Register 0 sec.registers) (symbols bit_range_name Symbol.BitRange 0 sec.bit_ranges) (symbols table_name Symbol.Table 0 sec.tables)
      (symbols own_name (λ i n. Symbol.UserOp i) 0 sec.user_ops) (symbols macro_name Symbol.Macro 0 sec.macros) (symbols own_name (λ i n. Symbol.Other i) 0 sec.others)

  others-word : (x : ℕ) → symbol_word (find x from_others) ≡ or_mark (mark_in 6 0 (map own_name sec.others) x) (0)
  unfolding symbol_word
  others-word x =
      ap (λ (l : List (ℕ × Symbol)). symbol_word (find x l)) (sym (append-nil from_others))
      ∙ find_in own_name (λ i n. Symbol.Other i) 6 (λ i n. refl) 0 sec.others [] x
      ∙ ap (or_mark (mark_in 6 0 (map own_name sec.others) x)) (nothing_found x)

  globals-word : (x : ℕ) → symbol_word (find x (globals sec)) ≡ or_mark (mark_in 0 0 (map space_name sec.spaces) x) (or_mark (mark_in 1 0 (map register_name sec.registers) x) (or_mark (mark_in 2 0 (map bit_range_name sec.bit_ranges) x) (or_mark (mark_in 3 0 (map table_name sec.tables) x) (or_mark (mark_in 4 0 (map own_name sec.user_ops) x) (or_mark (mark_in 5 0 (map macro_name sec.macros) x) (or_mark (mark_in 6 0 (map own_name sec.others) x) (0)))))))
  unfolding symbol_word
  globals-word x =
      ap (λ (l : List (ℕ × Symbol)). symbol_word (find x l)) globals_from ∙
      find_in space_name Symbol.Space 0 (λ i y. refl) 0 sec.spaces from_registers x ∙ ap (or_mark (mark_in 0 0 (map space_name sec.spaces) x)) (
      find_in register_name Symbol.Register 1 (λ i y. refl) 0 sec.registers from_bit_ranges x ∙ ap (or_mark (mark_in 1 0 (map register_name sec.registers) x)) (
      find_in bit_range_name Symbol.BitRange 2 (λ i y. refl) 0 sec.bit_ranges from_tables x ∙ ap (or_mark (mark_in 2 0 (map bit_range_name sec.bit_ranges) x)) (
      find_in table_name Symbol.Table 3 (λ i y. refl) 0 sec.tables from_user_ops x ∙ ap (or_mark (mark_in 3 0 (map table_name sec.tables) x)) (
      find_in own_name (λ i n. Symbol.UserOp i) 4 (λ i n. refl) 0 sec.user_ops from_macros x ∙ ap (or_mark (mark_in 4 0 (map own_name sec.user_ops) x)) (
      find_in macro_name Symbol.Macro 5 (λ i y. refl) 0 sec.macros from_others x ∙ ap (or_mark (mark_in 5 0 (map macro_name sec.macros) x)) (
      others-word x))))))

  globals_held : (x : ℕ) → x < 1024 → get_or t (1024 + x) 0 ≡ symbol_word (find x (globals sec))
  globals_held x l =
      final (1024 + x) (λ e. absurd (omega arith)) ∙ h.subtables.kept (1024 + x) (λ a b. absurd (omega arith)) (λ e. absurd (omega arith)) ∙ h.fields.kept (1024 + x) (λ a b. absurd (omega arith)) (λ e. absurd (omega arith)) ∙ global_6 x l
      ∙ regrouped (mark_in 0 0 (map space_name sec.spaces) x) (mark_in 1 0 (map register_name sec.registers) x) (mark_in 2 0 (map bit_range_name sec.bit_ranges) x) (mark_in 3 0 (map table_name sec.tables) x) (mark_in 4 0 (map own_name sec.user_ops) x) (mark_in 5 0 (map macro_name sec.macros) x) (mark_in 6 0 (map own_name sec.others) x) ∙ sym (globals-word x)

  local_clear : (x : ℕ) → x < 1024 → get_or h.t8 (2048 + x) 0 ≡ 0
  local_clear x l = h.others.kept (2048 + x) (λ a b. absurd (omega arith)) (λ e. absurd (omega arith)) ∙ h.macros.kept (2048 + x) (λ a b. absurd (omega arith)) (λ a b. absurd (omega (arith, h.limits.macros))) (λ a b. absurd (omega (arith, h.limits.macros))) (λ e. absurd (omega arith)) ∙ get_or-set_other h.t6 3333 (2048 + x) h.p6 0 (λ e. absurd (omega arith)) ∙ h.user_ops.kept (2048 + x) (λ a b. absurd (omega arith)) (λ e. absurd (omega arith)) ∙ h.tables.kept (2048 + x) (λ a b. absurd (omega arith)) (λ e. absurd (omega arith)) ∙ h.bit_ranges.kept (2048 + x) (λ a b. absurd (omega arith)) (λ e. absurd (omega arith)) ∙ h.registers.kept (2048 + x) (λ a b. absurd (omega arith)) (λ e. absurd (omega arith)) ∙ h.spaces.kept (2048 + x) (λ a b. absurd (omega arith)) (λ e. absurd (omega arith)) ∙ h.names.above (2048 + x) (omega (arith, h.limits.names)) ∙ clear (2048 + x)

  locals_held : (x : ℕ) → x < 1024 → get_or t (2048 + x) 0 ≡ local_word (position (eqb x) 0 (map field_name sec.fields)) (position (eqb x) 0 (map subtable_name sec.subtables))
  locals_held x l =
      final (2048 + x) (λ e. absurd (omega arith)) ∙ h.subtables.marks x l
      ∙ ap (marked (stamp 8) 0 (map subtable_name sec.subtables) x) (h.fields.marks x l ∙ ap (marked (stamp 7) 0 (map field_name sec.fields) x) (local_clear x l))
      ∙ local_marks (map field_name sec.fields) (map subtable_name sec.subtables) x few-fields few-subtables

  pub holds : Holds s t sec
  holds = record {
    size = table_size;
    limits = h.limits;
    rule_set = h.rule_set;
    default_space = h.default_space;
    inst_start = h.inst_start;
    inst_next = h.inst_next;
    const = h.const;
    delay_slot = h.delay_slot;
    name_count = h.names.count;
    spelling = λ n l. rw (name_place n l) (h.names.spelt n (rw h.names.count at l));
    named = λ n l. rw (name_place n l) (h.names.named n (rw h.names.count at l));
    spaces = spaces-listed;
    registers = registers-listed;
    bit_ranges = bit_ranges-listed;
    tables = tables-listed;
    user_ops = user_ops-listed;
    macro_count = h.macros.count;
    macro = macro_held;
    macro_ordinal = macro-ordinal;
    others = others-listed;
    fields = fields-listed;
    subtables = subtables-listed;
    statement_count = h.statement_count;
    statements = rw statements-place h.statements;
    own_ordinal = own_ordinal_lem;
    globals = globals_held;
    locals = locals_held;
  }
