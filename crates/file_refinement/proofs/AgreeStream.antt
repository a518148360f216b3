-- The whole stream: the code's reading agrees with the definition's, list by list.
use Rattle.std.proofs.lemmas.Bool.Decides.{nat_tests}
use mathlib.Core.Path.{◌≡◌, refl, ◌∙◌, ap}
use mathlib.Core.Bool.{Bool, true, false}
use mathlib.Core.List.{List, [], ◌∷◌, ◌++◌, map, append-nil}
use Prim.Native.Nat.{ℕ, zero, suc, ◌+◌, ◌-◌, ◌%◌, ◌≤◌, ◌<◌}
use native.Mathlib.Omega.{arith}
use lib.ListN.{length, get_or, set, drop, length-set, drop_of_length-le}
use lib.Seq.{drop-cons, get_or-set_other}
use lib.Dec.{eqb}
use Rattle.prelude.specs.Base.{when◌then◌else◌, all}
use Rattle.definition.specs.Refusals.{refusal_number, malformed}
use Rattle.definition.specs.Ast.{Space, Register, BitRange, Table, Macro, Field, Subtable, Statement, Section}
use Rattle.definition.specs.SectionFile.{on, pure, require, list_of, nothing_left}
use Rattle.definition.specs.SectionFile as d
use Rattle.access.specs.Le.{le16}
use Rattle.file_syntax.specs.Cursors.{Cursor, cursor, refuse}
use Rattle.access.specs.Loops.{run}
use Rattle.file_syntax.specs.Statements.{body}
use Rattle.file_section.specs.Names.{reading, name_at, names}
use Rattle.file_section.specs.Lists.{list, lists}
use Rattle.file_section.specs.Stream.{zeros, tail, statements}
use Rattle.file_refinement.specs.Holds.{absent_at, Limits, space_at, register_at, bit_range_at, table_at, name_only, field_at, subtable_at, StatementsAt}
use Rattle.file_refinement.proofs.Agree.{Agrees, went, stopped, Stuck, Any, refusal_bad, stuck_refuse}
use Rattle.file_refinement.proofs.AgreeCode.{body_agrees, stuck_body}
use Rattle.file_refinement.proofs.AgreeNames.{header_at, Fills, goes, stops, Stays, stays_both, stays_run, fills_bind, place-fits, taken_of, NamesHeld, names-fill}
use Rattle.file_refinement.proofs.AgreeLists.{Taken, ListHeld, list-fill, stays_list, taken_kept}
use Rattle.file_refinement.proofs.AgreeEntries.{base_global, base-local, space_agrees, register_agrees, bit_range_agrees, table_agrees, user-op_agrees, other_agrees, field_agrees, subtable_agrees, MacrosHeld, macros-fill}

-- The tail.

pub eqb_sym : (a b : ℕ) → eqb a b ≡ eqb b a
eqb_sym a b = grind (arith, nat_tests)

zeros_all : (n q : ℕ) (s : List ℕ) → n ≡ length s - q → zeros n q s ≡ all (eqb 0) (drop q s)
unfolding zeros all
zeros_all zero q s e = rw (drop_of_length-le s {i = q} (omega arith))
zeros_all (suc n) q s e = rw (drop-cons s q 0 (omega arith), eqb_sym (get_or s q 0) 0, zeros_all n (suc q) s (omega arith))

stuck_tail : (s : List ℕ) → Stuck (tail s)
unfolding tail
stuck_tail s = record { stays = λ c h. go c h (zeros (length s - c.at) c.at s) }
  where
    go : (c : Cursor) → eqb c.bad 0 ≡ false → (b : Bool) → (when b then c else refuse 3 c) ≡ c
    go c h true = refl
    go c h false = (stuck_refuse 3).stays c h

refuse_three : (q v : ℕ) → refuse 3 (cursor q 0 v) ≡ cursor q (refusal_number malformed) 0
unfolding refuse refusal_number
refuse_three q v = refl

pub tail_agrees : (s : List ℕ) (q v : ℕ) → q ≤ length s → Agrees s Any (nothing_left (drop q s)) (tail s (cursor q 0 v))
unfolding nothing_left tail require
tail_agrees s q v b = rw (zeros_all (length s - q) q s refl) (go (all (eqb 0) (drop q s)))
  where
    go : (x : Bool) → Agrees s Any (require x malformed (drop q s)) (when x then cursor q 0 v else refuse 3 (cursor q 0 v))
    go true = went tt q v b tt refl refl
    go false = stopped malformed q refl (refuse_three q v)

-- The end: the section's own statements, and zeros.

stays_statements : (s : List ℕ) → Stays (statements s)
unfolding statements
stays_statements s = record { stays = λ w h. let e = (stuck_body s (le16 s 2) (le16 s 22)).stays w.cursor h in rw e ((stuck_tail s).stays w.cursor h) }

stays_rest_of : (s : List ℕ) (n i : ℕ) → Stays (λ w. statements s (run n i (list s) w))
stays_rest_of s n i = stays_both (run n i (list s)) (statements s) (stays_run n i (list s) (stays_list s)) (stays_statements s)

abbrev pub space_name : Space → ℕ
space_name x = x.name

abbrev pub register_name : Register → ℕ
register_name x = x.name

abbrev pub bit_range_name : BitRange → ℕ
bit_range_name x = x.name

abbrev pub table_name : Table → ℕ
table_name x = x.name

abbrev pub macro_name : Macro → ℕ
macro_name x = x.name

abbrev pub field_name : Field → ℕ
field_name x = x.name

abbrev pub subtable_name : Subtable → ℕ
subtable_name x = x.name

abbrev pub own_name : ℕ → ℕ
own_name x = x

space_name_lem : (s : List ℕ) (own q : ℕ) → (space_at s own q).name ≡ own
unfolding space_at
space_name_lem s own q = refl

register_name_lem : (s : List ℕ) (own q : ℕ) → (register_at s own q).name ≡ own
unfolding register_at
register_name_lem s own q = refl

bit_range_name_lem : (s : List ℕ) (own q : ℕ) → (bit_range_at s own q).name ≡ own
unfolding bit_range_at
bit_range_name_lem s own q = refl

table_name_lem : (s : List ℕ) (own q : ℕ) → (table_at s own q).name ≡ own
unfolding table_at
table_name_lem s own q = refl

field_name_lem : (s : List ℕ) (own q : ℕ) → (field_at s own q).name ≡ own
unfolding field_at
field_name_lem s own q = refl

subtable_name_lem : (s : List ℕ) (own q : ℕ) → (subtable_at s own q).name ≡ own
unfolding subtable_at
subtable_name_lem s own q = refl

only_name : (own q : ℕ) → name_only own q ≡ own
unfolding name_only
only_name own q = refl

pub map_own : (xs : List ℕ) → map own_name xs ≡ xs
map_own [] = refl
map_own (x ∷ xs) = ap (λ (l : List ℕ). x ∷ l) (map_own xs)

nothing_taken : (base : ℕ) (t : List ℕ) → ((x : ℕ) → x < 1024 → get_or t (base + x) 0 ≡ 0) → Taken base t []
unfolding Rattle.prelude.specs.Base.any
nothing_taken base t z x h = rw (z x h)

-- what each list left: the table after it, and where it ends
pub record Steps (s t0 : List ℕ) (sec : Section) (t : List ℕ) : Type 0 where
  pub limits : Limits s
  pub t1 : List ℕ
  pub p1 : ℕ
  pub t2 : List ℕ
  pub p2 : ℕ
  pub t3 : List ℕ
  pub p3 : ℕ
  pub t4 : List ℕ
  pub p4 : ℕ
  pub t5 : List ℕ
  pub p5 : ℕ
  pub t6 : List ℕ
  pub p6 : ℕ
  pub t7 : List ℕ
  pub p7 : ℕ
  pub t8 : List ℕ
  pub p8 : ℕ
  pub t9 : List ℕ
  pub p9 : ℕ
  pub t10 : List ℕ
  pub p10 : ℕ
  pub names : NamesHeld s 0 (le16 s 2) t0 t1 sec.names
  pub spaces : ListHeld s 0 1024 space_name (space_at s) 3 p1 [] t1 sec.spaces p2 t2
  pub registers : ListHeld s 1 1024 register_name (register_at s) 2 p2 (map space_name sec.spaces) t2 sec.registers p3 t3
  pub bit_ranges : ListHeld s 2 1024 bit_range_name (bit_range_at s) 6 p3 (map register_name sec.registers ++ (map space_name sec.spaces)) t3 sec.bit_ranges p4 t4
  pub tables : ListHeld s 3 1024 table_name (table_at s) 2 p4 (map bit_range_name sec.bit_ranges ++ (map register_name sec.registers ++ (map space_name sec.spaces))) t4 sec.tables p5 t5
  pub user_ops : ListHeld s 4 1024 own_name name_only 0 p5 (map table_name sec.tables ++ (map bit_range_name sec.bit_ranges ++ (map register_name sec.registers ++ (map space_name sec.spaces)))) t5 sec.user_ops p6 t6
  pub macros : MacrosHeld s 0 (le16 s 14) p6 (sec.user_ops ++ (map table_name sec.tables ++ (map bit_range_name sec.bit_ranges ++ (map register_name sec.registers ++ (map space_name sec.spaces))))) (set t6 3333 p6) sec.macros p7 t7
  pub others : ListHeld s 6 1024 own_name name_only 0 p7 (map macro_name sec.macros ++ (sec.user_ops ++ (map table_name sec.tables ++ (map bit_range_name sec.bit_ranges ++ (map register_name sec.registers ++ (map space_name sec.spaces)))))) t7 sec.others p8 t8
  pub fields : ListHeld s 7 2048 field_name (field_at s) 2 p8 [] t8 sec.fields p9 t9
  pub subtables : ListHeld s 8 2048 subtable_name (subtable_at s) 2 p9 (map field_name sec.fields) t9 sec.subtables p10 t10
  pub macros-inside : p7 ≤ length s
  pub statement_count : length sec.statements ≡ le16 s 22
  pub statements : StatementsAt s p10 sec.statements
  pub inside : p10 ≤ length s
  pub last : t ≡ set t10 3337 p10
  pub rule_set : sec.header.rule_set ≡ le16 s 0
  pub default_space : sec.header.default_space ≡ absent_at s 24
  pub inst_start : sec.header.inst_start ≡ le16 s 26
  pub inst_next : sec.header.inst_next ≡ le16 s 28
  pub const : sec.header.const ≡ le16 s 30
  pub delay_slot : sec.header.delay_slot ≡ le16 s 32

-- an entry of the table that nothing has written yet
module _ (s : List ℕ) (short : length s < 65536) (t0 : List ℕ) (long : length t0 ≡ 3344) (clear : (j : ℕ) → get_or t0 j 0 ≡ 0) (lim : Limits s) where
  few : le16 s 2 ≤ 1024
  few = lim.names

  count-fits_0 : le16 s 4 ≤ 1024
  count-fits_0 = let l = lim.spaces in omega arith

  count-fits_1 : le16 s 6 ≤ 1024
  count-fits_1 = let l = lim.registers in omega arith

  count-fits_2 : le16 s 8 ≤ 1024
  count-fits_2 = let l = lim.bit_ranges in omega arith

  count-fits_3 : le16 s 10 ≤ 1024
  count-fits_3 = let l = lim.tables in omega arith

  count-fits_4 : le16 s 12 ≤ 1024
  count-fits_4 = let l = lim.user_ops in omega arith

  count-fits_6 : le16 s 16 ≤ 1024
  count-fits_6 = let l = lim.others in omega arith

  count-fits_7 : le16 s 18 ≤ 1024
  count-fits_7 = let l = lim.fields in omega arith

  count-fits_8 : le16 s 20 ≤ 1024
  count-fits_8 = let l = lim.subtables in omega arith

  macro-list-fill : (p v : ℕ) (t taken : List ℕ) → length t ≡ 3344 → get_or t 3338 0 ≡ 0 → Taken 1024 t taken → p ≤ length s →
      Fills s (MacrosHeld s 0 (le16 s 14) p taken (set t 3333 p)) (d.entries (le16 s 2) (d.macro (le16 s 2)) taken (le16 s 14) (drop p s)) (list s 5 (reading (cursor p 0 v) t))
  unfolding list
  macro-list-fill p v t taken z o a b =
      rw (place-fits s p short b)
      (macros-fill s short few (le16 s 14) 0 p v (set t 3333 p) taken (let l = lim.macros in omega arith) (rw length-set z) (rw (get_or-set_other t 3333 3338 p 0 (λ e. absurd (omega arith)), o) (omega arith)) (taken_kept 1024 t (set t 3333 p) taken (λ x l. get_or-set_other t 3333 (1024 + x) p 0 (λ e. absurd (omega arith))) a) b)

  end_fills : (P : Section → ℕ → List ℕ → Type 0) (sec : List Statement → Section) (p v : ℕ) (t : List ℕ) → p ≤ length s →
      ((stmts : List Statement) (t' : List ℕ) → length stmts ≡ le16 s 22 → StatementsAt s p stmts → t' ≡ set t 3337 p → P (sec stmts) 0 t') →
      Fills s (λ x _ t'. P x 0 t') (on (list_of (d.statement (le16 s 2)) (le16 s 22) (drop p s)) (λ stmts u. on (nothing_left u) (λ _. pure (sec stmts)))) (statements s (reading (cursor p 0 v) t))
  unfolding statements on
  end_fills P sec p v t b k = read (body_agrees s (le16 s 2) (le16 s 22) p v b)
    where
      ended : (stmts : List Statement) (q u : ℕ) → length stmts ≡ le16 s 22 → StatementsAt s p stmts → Agrees s Any (nothing_left (drop q s)) (tail s (cursor q 0 u)) →
          Fills s (λ x _ t'. P x 0 t') (on (nothing_left (drop q s)) (λ _. pure (sec stmts))) (reading (tail s (cursor q 0 u)) (set t 3337 (p % 65536)))
      ended stmts q u n a (went x r w d y e f) = goes (sec stmts) r w (set t 3337 (p % 65536)) d (k stmts (set t 3337 (p % 65536)) n a (ap (λ (y : ℕ). set t 3337 y) (place-fits s p short b))) (rw e) (rw f)
      ended stmts q u n a (stopped r w e f) = stops r w (rw e) (rw f)

      read : Agrees s (λ xs _ _. length xs ≡ le16 s 22) (list_of (d.statement (le16 s 2)) (le16 s 22) (drop p s)) (body s (le16 s 2) (le16 s 22) (cursor p 0 v)) →
          Fills s (λ x _ t'. P x 0 t') (on (list_of (d.statement (le16 s 2)) (le16 s 22) (drop p s)) (λ stmts u. on (nothing_left u) (λ _. pure (sec stmts)))) (reading (tail s (body s (le16 s 2) (le16 s 22) (cursor p 0 v))) (set t 3337 (p % 65536)))
      read (went stmts q u d n e f) = rw (e, f) (ended stmts q u n (record { after = q; inside = b; reads = e }) (tail_agrees s q u d))
      read (stopped r q e f) = stops r q (rw e) (rw f ((stuck_tail s).stays _ (refusal_bad r)))

  ordinal_clear : (spelt : List (List ℕ)) (spaces : List Space) (registers : List Register) (bit_ranges : List BitRange) (tables : List Table) (user_ops : List ℕ) (p1 p2 p3 p4 p5 p6 : ℕ) (t1 t2 t3 t4 t5 t6 : List ℕ) → NamesHeld s 0 (le16 s 2) t0 t1 spelt → ListHeld s 0 1024 space_name (space_at s) 3 p1 [] t1 spaces p2 t2 → ListHeld s 1 1024 register_name (register_at s) 2 p2 (map space_name spaces) t2 registers p3 t3 → ListHeld s 2 1024 bit_range_name (bit_range_at s) 6 p3 (map register_name registers ++ (map space_name spaces)) t3 bit_ranges p4 t4 → ListHeld s 3 1024 table_name (table_at s) 2 p4 (map bit_range_name bit_ranges ++ (map register_name registers ++ (map space_name spaces))) t4 tables p5 t5 → ListHeld s 4 1024 own_name name_only 0 p5 (map table_name tables ++ (map bit_range_name bit_ranges ++ (map register_name registers ++ (map space_name spaces)))) t5 user_ops p6 t6 → get_or t6 3338 0 ≡ 0
  ordinal_clear spelt spaces registers bit_ranges tables user_ops p1 p2 p3 p4 p5 p6 t1 t2 t3 t4 t5 t6 h h0 h1 h2 h3 h4 = h4.kept (3338) (λ a b. absurd (omega arith)) (λ e. absurd (omega arith)) ∙ h3.kept (3338) (λ a b. absurd (omega arith)) (λ e. absurd (omega arith)) ∙ h2.kept (3338) (λ a b. absurd (omega arith)) (λ e. absurd (omega arith)) ∙ h1.kept (3338) (λ a b. absurd (omega arith)) (λ e. absurd (omega arith)) ∙ h0.kept (3338) (λ a b. absurd (omega arith)) (λ e. absurd (omega arith)) ∙ h.above (3338) (omega (arith, few)) ∙ clear (3338)

  locals_clear : (spelt : List (List ℕ)) (spaces : List Space) (registers : List Register) (bit_ranges : List BitRange) (tables : List Table) (user_ops : List ℕ) (macros : List Macro) (others : List ℕ) (p1 p2 p3 p4 p5 p6 p7 p8 : ℕ) (t1 t2 t3 t4 t5 t6 t7 t8 : List ℕ) → NamesHeld s 0 (le16 s 2) t0 t1 spelt → ListHeld s 0 1024 space_name (space_at s) 3 p1 [] t1 spaces p2 t2 → ListHeld s 1 1024 register_name (register_at s) 2 p2 (map space_name spaces) t2 registers p3 t3 → ListHeld s 2 1024 bit_range_name (bit_range_at s) 6 p3 (map register_name registers ++ (map space_name spaces)) t3 bit_ranges p4 t4 → ListHeld s 3 1024 table_name (table_at s) 2 p4 (map bit_range_name bit_ranges ++ (map register_name registers ++ (map space_name spaces))) t4 tables p5 t5 → ListHeld s 4 1024 own_name name_only 0 p5 (map table_name tables ++ (map bit_range_name bit_ranges ++ (map register_name registers ++ (map space_name spaces)))) t5 user_ops p6 t6 → MacrosHeld s 0 (le16 s 14) p6 (user_ops ++ (map table_name tables ++ (map bit_range_name bit_ranges ++ (map register_name registers ++ (map space_name spaces))))) (set t6 3333 p6) macros p7 t7 → ListHeld s 6 1024 own_name name_only 0 p7 (map macro_name macros ++ (user_ops ++ (map table_name tables ++ (map bit_range_name bit_ranges ++ (map register_name registers ++ (map space_name spaces)))))) t7 others p8 t8 → (x : ℕ) → x < 1024 → get_or t8 (2048 + x) 0 ≡ 0
  locals_clear spelt spaces registers bit_ranges tables user_ops macros others p1 p2 p3 p4 p5 p6 p7 p8 t1 t2 t3 t4 t5 t6 t7 t8 h h0 h1 h2 h3 h4 h5 h6 x l = h6.kept (2048 + x) (λ a b. absurd (omega arith)) (λ e. absurd (omega arith)) ∙ h5.kept (2048 + x) (λ a b. absurd (omega (arith, lim.macros))) (λ a b. absurd (omega (arith, lim.macros))) (λ a b. absurd (omega (arith, lim.macros))) (λ e. absurd (omega arith)) ∙ get_or-set_other t6 3333 (2048 + x) p6 0 (λ e. absurd (omega arith)) ∙ h4.kept (2048 + x) (λ a b. absurd (omega arith)) (λ e. absurd (omega arith)) ∙ h3.kept (2048 + x) (λ a b. absurd (omega arith)) (λ e. absurd (omega arith)) ∙ h2.kept (2048 + x) (λ a b. absurd (omega arith)) (λ e. absurd (omega arith)) ∙ h1.kept (2048 + x) (λ a b. absurd (omega arith)) (λ e. absurd (omega arith)) ∙ h0.kept (2048 + x) (λ a b. absurd (omega arith)) (λ e. absurd (omega arith)) ∙ h.above (2048 + x) (omega (arith, few)) ∙ clear (2048 + x)

  pub stream_fills : (v : ℕ) → 34 ≤ length s → Fills s (λ sec _ t. Steps s t0 sec t) (d.lists (header_at s) (drop 34 s)) (statements s (lists s (names s (le16 s 2) (reading (cursor 34 0 v) t0))))
  unfolding d.lists header_at lists names run taken_of statements on
  stream_fills v b0 =
      fills_bind s (λ xs _ t1. NamesHeld s 0 (le16 s 2) t0 t1 xs) (λ sec _ t. Steps s t0 sec t) (d.spellings [] (le16 s 2) (drop 34 s)) _ (λ w. statements s (run 9 0 (list s) w)) (run (le16 s 2) 0 (name_at s) (reading (cursor 34 0 v) t0))
      (names-fill s short (le16 s 2) 0 34 v t0 (omega (arith, few)) b0 (λ j h. absurd (omega arith))) (stays_rest_of s 9 0)
      (λ spelt p1 v1 t1 b1 h.
      fills_bind s (ListHeld s 0 1024 space_name (space_at s) 3 p1 [] t1) (λ sec _ t. Steps s t0 sec t) (d.entries (le16 s 2) (d.space (le16 s 2)) [] (le16 s 4) (drop p1 s)) _ (λ w. statements s (run 8 1 (list s) w)) (list s 0 (reading (cursor p1 0 v1) t1))
      (list-fill s short few 0 1024 (base_global 0 (omega arith)) refl (omega arith) (count-fits_0) space_name (space_at s) 3 (d.space (le16 s 2)) (space_name_lem s) (space_agrees s) p1 v1 t1 [] (h.size ∙ long) (nothing_taken 1024 t1 (λ x l. h.above (1024 + x) (omega (arith, few)) ∙ clear (1024 + x))) b1) (stays_rest_of s 8 1)
      (λ spaces p2 v2 t2 b2 h0.
      fills_bind s (ListHeld s 1 1024 register_name (register_at s) 2 p2 (map space_name spaces) t2) (λ sec _ t. Steps s t0 sec t) (d.entries (le16 s 2) (d.register (le16 s 2)) (map space_name spaces) (le16 s 6) (drop p2 s)) _ (λ w. statements s (run 7 2 (list s) w)) (list s 1 (reading (cursor p2 0 v2) t2))
      (list-fill s short few 1 1024 (base_global 1 (omega arith)) refl (omega arith) (count-fits_1) register_name (register_at s) 2 (d.register (le16 s 2)) (register_name_lem s) (register_agrees s) p2 v2 t2 (map space_name spaces) h0.size (rw append-nil at h0.all_taken) b2) (stays_rest_of s 7 2)
      (λ registers p3 v3 t3 b3 h1.
      fills_bind s (ListHeld s 2 1024 bit_range_name (bit_range_at s) 6 p3 (map register_name registers ++ (map space_name spaces)) t3) (λ sec _ t. Steps s t0 sec t) (d.entries (le16 s 2) (d.bit_range (le16 s 2) (le16 s 6)) (map register_name registers ++ (map space_name spaces)) (le16 s 8) (drop p3 s)) _ (λ w. statements s (run 6 3 (list s) w)) (list s 2 (reading (cursor p3 0 v3) t3))
      (list-fill s short few 2 1024 (base_global 2 (omega arith)) refl (omega arith) (count-fits_2) bit_range_name (bit_range_at s) 6 (d.bit_range (le16 s 2) (le16 s 6)) (bit_range_name_lem s) (bit_range_agrees s) p3 v3 t3 (map register_name registers ++ (map space_name spaces)) h1.size h1.all_taken b3) (stays_rest_of s 6 3)
      (λ bit_ranges p4 v4 t4 b4 h2.
      fills_bind s (ListHeld s 3 1024 table_name (table_at s) 2 p4 (map bit_range_name bit_ranges ++ (map register_name registers ++ (map space_name spaces))) t4) (λ sec _ t. Steps s t0 sec t) (d.entries (le16 s 2) (d.table (le16 s 2)) (map bit_range_name bit_ranges ++ (map register_name registers ++ (map space_name spaces))) (le16 s 10) (drop p4 s)) _ (λ w. statements s (run 5 4 (list s) w)) (list s 3 (reading (cursor p4 0 v4) t4))
      (list-fill s short few 3 1024 (base_global 3 (omega arith)) refl (omega arith) (count-fits_3) table_name (table_at s) 2 (d.table (le16 s 2)) (table_name_lem s) (table_agrees s) p4 v4 t4 (map bit_range_name bit_ranges ++ (map register_name registers ++ (map space_name spaces))) h2.size h2.all_taken b4) (stays_rest_of s 5 4)
      (λ tables p5 v5 t5 b5 h3.
      fills_bind s (ListHeld s 4 1024 own_name name_only 0 p5 (map table_name tables ++ (map bit_range_name bit_ranges ++ (map register_name registers ++ (map space_name spaces)))) t5) (λ sec _ t. Steps s t0 sec t) (d.entries (le16 s 2) pure (map table_name tables ++ (map bit_range_name bit_ranges ++ (map register_name registers ++ (map space_name spaces)))) (le16 s 12) (drop p5 s)) _ (λ w. statements s (run 4 5 (list s) w)) (list s 4 (reading (cursor p5 0 v5) t5))
      (list-fill s short few 4 1024 (base_global 4 (omega arith)) refl (omega arith) (count-fits_4) own_name name_only 0 pure only_name (user-op_agrees s) p5 v5 t5 (map table_name tables ++ (map bit_range_name bit_ranges ++ (map register_name registers ++ (map space_name spaces)))) h3.size h3.all_taken b5) (stays_rest_of s 4 5)
      (λ user_ops p6 v6 t6 b6 h4.
      fills_bind s (MacrosHeld s 0 (le16 s 14) p6 (user_ops ++ (map table_name tables ++ (map bit_range_name bit_ranges ++ (map register_name registers ++ (map space_name spaces))))) (set t6 3333 p6)) (λ sec _ t. Steps s t0 sec t) (d.entries (le16 s 2) (d.macro (le16 s 2)) (user_ops ++ (map table_name tables ++ (map bit_range_name bit_ranges ++ (map register_name registers ++ (map space_name spaces))))) (le16 s 14) (drop p6 s)) _ (λ w. statements s (run 3 6 (list s) w)) (list s 5 (reading (cursor p6 0 v6) t6))
      (macro-list-fill p6 v6 t6 (user_ops ++ (map table_name tables ++ (map bit_range_name bit_ranges ++ (map register_name registers ++ (map space_name spaces))))) h4.size (ordinal_clear spelt spaces registers bit_ranges tables user_ops p1 p2 p3 p4 p5 p6 t1 t2 t3 t4 t5 t6 h h0 h1 h2 h3 h4) (rw map_own at h4.all_taken) b6) (stays_rest_of s 3 6)
      (λ macros p7 v7 t7 b7 h5.
      fills_bind s (ListHeld s 6 1024 own_name name_only 0 p7 (map macro_name macros ++ (user_ops ++ (map table_name tables ++ (map bit_range_name bit_ranges ++ (map register_name registers ++ (map space_name spaces)))))) t7) (λ sec _ t. Steps s t0 sec t) (d.entries (le16 s 2) pure (map macro_name macros ++ (user_ops ++ (map table_name tables ++ (map bit_range_name bit_ranges ++ (map register_name registers ++ (map space_name spaces)))))) (le16 s 16) (drop p7 s)) _ (λ w. statements s (run 2 7 (list s) w)) (list s 6 (reading (cursor p7 0 v7) t7))
      (list-fill s short few 6 1024 (base_global 6 (omega arith)) refl (omega arith) (count-fits_6) own_name name_only 0 pure only_name (other_agrees s) p7 v7 t7 (map macro_name macros ++ (user_ops ++ (map table_name tables ++ (map bit_range_name bit_ranges ++ (map register_name registers ++ (map space_name spaces)))))) (h5.size ∙ length-set t6 3333 p6 ∙ h4.size) h5.all_taken b7) (stays_rest_of s 2 7)
      (λ others p8 v8 t8 b8 h6.
      fills_bind s (ListHeld s 7 2048 field_name (field_at s) 2 p8 [] t8) (λ sec _ t. Steps s t0 sec t) (d.entries (le16 s 2) (d.field (le16 s 2)) [] (le16 s 18) (drop p8 s)) _ (λ w. statements s (run 1 8 (list s) w)) (list s 7 (reading (cursor p8 0 v8) t8))
      (list-fill s short few 7 2048 (base-local 7 (omega arith) (omega arith)) refl (omega arith) (count-fits_7) field_name (field_at s) 2 (d.field (le16 s 2)) (field_name_lem s) (field_agrees s) p8 v8 t8 [] h6.size (nothing_taken 2048 t8 (locals_clear spelt spaces registers bit_ranges tables user_ops macros others p1 p2 p3 p4 p5 p6 p7 p8 t1 t2 t3 t4 t5 t6 t7 t8 h h0 h1 h2 h3 h4 h5 h6)) b8) (stays_rest_of s 1 8)
      (λ fields p9 v9 t9 b9 h7.
      fills_bind s (ListHeld s 8 2048 subtable_name (subtable_at s) 2 p9 (map field_name fields) t9) (λ sec _ t. Steps s t0 sec t) (d.entries (le16 s 2) (d.subtable (le16 s 2) (le16 s 10)) (map field_name fields) (le16 s 20) (drop p9 s)) _ (λ w. statements s (run 0 9 (list s) w)) (list s 8 (reading (cursor p9 0 v9) t9))
      (list-fill s short few 8 2048 (base-local 8 (omega arith) (omega arith)) refl (omega arith) (count-fits_8) subtable_name (subtable_at s) 2 (d.subtable (le16 s 2) (le16 s 10)) (subtable_name_lem s) (subtable_agrees s) p9 v9 t9 (map field_name fields) h7.size (rw append-nil at h7.all_taken) b9) (stays_rest_of s 0 9)
      (λ subtables p10 v10 t10 b10 h8.
      end_fills (λ sec _ t. Steps s t0 sec t) (λ stmts. record { header = header_at s; names = spelt; spaces = spaces; registers = registers; bit_ranges = bit_ranges; tables = tables; user_ops = user_ops; macros = macros; others = others; fields = fields; subtables = subtables; statements = stmts }) p10 v10 t10 b10
      (λ stmts t c a e. record { limits = lim; t1 = t1; p1 = p1; t2 = t2; p2 = p2; t3 = t3; p3 = p3; t4 = t4; p4 = p4; t5 = t5; p5 = p5; t6 = t6; p6 = p6; t7 = t7; p7 = p7; t8 = t8; p8 = p8; t9 = t9; p9 = p9; t10 = t10; p10 = p10; names = h; spaces = h0; registers = h1; bit_ranges = h2; tables = h3; user_ops = h4; macros = h5; others = h6; fields = h7; subtables = h8; macros-inside = b7; statement_count = c; statements = a; inside = b10; last = e; rule_set = refl; default_space = refl; inst_start = refl; inst_next = refl; const = refl; delay_slot = refl })
      ))))))))))
