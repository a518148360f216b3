-- The entries of each list, and the macros.
use mathlib.Core.Path.{◌≡◌, refl, sym, ◌∙◌, ap}
use mathlib.Core.List.{List, [], ◌∷◌, ◌++◌, map}
use mathlib.Core.Option.{some}
use Prim.Native.Nat.{ℕ, zero, suc, ◌+◌, ◌-◌, ◌*◌, ◌%◌, ◌≤◌, ◌<◌}
use native.Mathlib.Nat.{add-zero}
use native.Mathlib.Omega.{arith}
use lib.ListN.{length, get_or, set, take, drop, get_elem?, length-set, length-drop}
use lib.Seq.{get_or-set_same, get_or-set_other}
use borrow.Author.Tests.{ne_eqb, lt-ltb, le-ltb}
use Rattle.definition.specs.Refusals.{refusal_number, names_nothing}
use Rattle.definition.specs.Ast.{SpaceKind, Macro, Statement}
use Rattle.definition.specs.SectionFile.{Parsed, parsed, refused, on, Read, pure, list_of, up_to, naming, little_endian}
use Rattle.definition.specs.SectionFile as d
use Rattle.access.specs.Le.{le16}
use Rattle.file_syntax.specs.Cursors.{cursor, u8, u16}
use Rattle.access.specs.Loops.{run}
use Rattle.file_syntax.specs.Cursors as w
use Rattle.file_syntax.specs.Expressions.{counted}
use Rattle.file_syntax.specs.Statements.{body}
use Rattle.file_section.specs.Names.{Reading, reading}
use Rattle.file_section.specs.Lists.{slot, stamp, which_of, after_name, after, params, macro_head, noted, macro, rest_of, entry}
use Rattle.file_refinement.specs.Holds.{space_kind, space_at, register_at, bit_range_at, table_at, name_only, field_at, subtable_at, bodies, MacroAt}
use Rattle.file_refinement.proofs.Agree.{Agrees, went, stopped, stuck_both, bind, finish, weaken, Any, Number, NumberOr, le_16, naming-below, u16_agrees, stuck_u16, refusal_bad}
use Rattle.file_refinement.proofs.AgreeCode.{Reads, OneOf, one_of_agrees, name_read, limit_read, size_or_read, count-read, list_agrees, body_agrees, stuck_body, stuck_counted}
use Rattle.file_refinement.proofs.Forward.{head_of, head_takes, list_takes, statement_takes}
use Rattle.file_refinement.proofs.AgreeNames.{Fills, goes, stops, stays_both, stays_run, fills_bind, fills_finish, place-fits}
use Rattle.file_refinement.proofs.AgreeLists.{Base, Own, Taken, marked, named_then, stays_entry, stays_rest, taken_more, taken_again, taken_kept, marked_none, marks_more}

-- Where the lists mark their names, and with what.

pub stamp_global : (k i : ℕ) → k < 7 → i < 1024 → stamp k i ≡ 1 + k + 8 * i
unfolding stamp
stamp_global k i h l = rw (lt-ltb k 7 h) (omega arith)

pub stamp-local : (k i : ℕ) → 7 ≤ k → k < 9 → i < 1024 → stamp k i ≡ k - 6 + 2 * i
unfolding stamp
stamp-local k i h g l = rw (le-ltb k 7 h) (omega arith)

pub base_global : (k : ℕ) → k < 7 → Base k 1024
unfolding slot
base_global k h = record {
  slots = λ x l. rw (lt-ltb k 7 h) (omega arith);
  inside = omega arith;
  stamps = λ i l. rw (stamp_global k i h l) (ne_eqb (1 + k + 8 * i) 0 (λ e. omega arith));
}

pub base-local : (k : ℕ) → 7 ≤ k → k < 9 → Base k 2048
unfolding slot
base-local k h g = record {
  slots = λ x l. rw (le-ltb k 7 h) (omega arith);
  inside = omega arith;
  stamps = λ i l. rw (stamp-local k i h g l) (ne_eqb (k - 6 + 2 * i) 0 (λ e. omega arith));
}

-- The entries after their names.

kinds : List SpaceKind
kinds = SpaceKind.RamSpace ∷ SpaceKind.RegisterSpace ∷ SpaceKind.OtherSpace ∷ []

kind_is : (b : ℕ) (k : SpaceKind) → get_elem? kinds b ≡ some k → k ≡ space_kind b
unfolding kinds space_kind
kind_is zero k e = cc
kind_is (suc zero) k e = cc
kind_is (suc (suc zero)) k e = cc
kind_is (suc (suc (suc b))) k e = absurd (let z : ◌≡◌ {A = ℕ} 0 1 = cc in omega arith)

pub space_agrees : (s : List ℕ) (own q v : ℕ) → q ≤ length s → Agrees s (λ x r _. (x ≡ space_at s own q) × (r ≡ q + 3)) (d.space (le16 s 2) own (drop q s)) (after 0 s (cursor q 0 v))
unfolding d.space after which_of after_name space_at kinds
space_agrees s own q v b =
    bind s (OneOf s kinds q) _ (d.one_of kinds (drop q s)) _ (w.size s) (u8 s 3 3 (cursor q 0 v)) (one_of_agrees s kinds q v b) (stuck_u16 s 1025 4)
    (λ k q1 v1 b1 o. finish s (Number s 2 q1 1025) _ (d.size (drop q1 s)) (λ z. record { name = own; kind = k; address_size = z }) _ (limit_read s 1024 q1 v1 b1)
    (λ z r u n. ((λ i. record { name = own; kind = kind_is (get_or s q 0) k o.is i; address_size = (n.is ∙ le_16 s q1 ∙ ap (le16 s) o.next) i }), n.next ∙ after_two q q1 o.next)))
  where
    after_two : (q q1 : ℕ) → q1 ≡ suc q → q1 + 2 ≡ q + 3
    after_two q q1 e = omega arith

pub register_agrees : (s : List ℕ) (own q v : ℕ) → q ≤ length s → Agrees s (λ x r _. (x ≡ register_at s own q) × (r ≡ q + 2)) (d.register (le16 s 2) own (drop q s)) (after 1 s (cursor q 0 v))
unfolding d.register after which_of after_name register_at
register_agrees s own q v b =
    finish s (Number s 2 q 1025) _ (d.size (drop q s)) (λ z. record { name = own; size = z }) _ (limit_read s 1024 q v b)
    (λ z r u n. ((λ i. record { name = own; size = (n.is ∙ le_16 s q) i }), n.next))

pub bit_range_agrees : (s : List ℕ) (own q v : ℕ) → q ≤ length s → Agrees s (λ x r _. (x ≡ bit_range_at s own q) × (r ≡ q + 6)) (d.bit_range (le16 s 2) (le16 s 6) own (drop q s)) (after 2 s (cursor q 0 v))
unfolding d.bit_range after which_of after_name bit_range_at refusal_number
bit_range_agrees s own q v b =
    bind s (Number s 2 q (le16 s 6)) _ (d.index (le16 s 6) (drop q s)) _ (w.bits s) (u16 s (le16 s 6) 5 (cursor q 0 v)) (u16_agrees s (le16 s 6) q v (naming (le16 s 6)) names_nothing (naming-below (le16 s 6)) b) (stuck_both _ _ (stuck_u16 s 8193 4) (stuck_u16 s 8193 4))
    (λ r q1 v1 b1 n1. bind s (Number s 2 q1 8193) _ (d.bit_number (drop q1 s)) _ (u16 s 8193 4) (u16 s 8193 4 (cursor q1 0 v1)) (limit_read s 8192 q1 v1 b1) (stuck_u16 s 8193 4)
    (λ x q2 v2 b2 n2. finish s (Number s 2 q2 8193) _ (d.bit_number (drop q2 s)) (λ y. record { name = own; register = r; first_bit = x; bit_count = y }) _ (limit_read s 8192 q2 v2 b2)
    (λ y q3 v3 n3. (
      (λ i. record { name = own; register = (n1.is ∙ le_16 s q) i; first_bit = (n2.is ∙ le_16 s q1 ∙ ap (le16 s) n1.next) i; bit_count = (n3.is ∙ le_16 s q2 ∙ ap (le16 s) (four q q1 q2 n1.next n2.next)) i }),
      n3.next ∙ six q q1 q2 n1.next n2.next,
    ))))
  where
    four : (q q1 q2 : ℕ) → q1 ≡ q + 2 → q2 ≡ q1 + 2 → q2 ≡ q + 4
    four q q1 q2 a b = omega arith

    six : (q q1 q2 : ℕ) → q1 ≡ q + 2 → q2 ≡ q1 + 2 → q2 + 2 ≡ q + 6
    six q q1 q2 a b = omega arith

pub table_agrees : (s : List ℕ) (own q v : ℕ) → q ≤ length s → Agrees s (λ x r _. (x ≡ table_at s own q) × (r ≡ q + 2)) (d.table (le16 s 2) own (drop q s)) (after 3 s (cursor q 0 v))
unfolding d.table after which_of after_name table_at
table_agrees s own q v b =
    finish s (NumberOr s q 1025) _ (d.size_or (drop q s)) (λ z. record { name = own; export_size = z }) _ (size_or_read s q v b)
    (λ z r u n. ((λ i. record { name = own; export_size = n.absent i }), n.next))

pub field_agrees : (s : List ℕ) (own q v : ℕ) → q ≤ length s → Agrees s (λ x r _. (x ≡ field_at s own q) × (r ≡ q + 2)) (d.field (le16 s 2) own (drop q s)) (after 7 s (cursor q 0 v))
unfolding d.field after which_of after_name field_at
field_agrees s own q v b =
    finish s (NumberOr s q 1025) _ (d.size_or (drop q s)) (λ z. record { name = own; size = z }) _ (size_or_read s q v b)
    (λ z r u n. ((λ i. record { name = own; size = n.absent i }), n.next))

pub subtable_agrees : (s : List ℕ) (own q v : ℕ) → q ≤ length s → Agrees s (λ x r _. (x ≡ subtable_at s own q) × (r ≡ q + 2)) (d.subtable (le16 s 2) (le16 s 10) own (drop q s)) (after 8 s (cursor q 0 v))
unfolding d.subtable after which_of after_name subtable_at refusal_number
subtable_agrees s own q v b =
    finish s (Number s 2 q (le16 s 10)) _ (d.index (le16 s 10) (drop q s)) (λ z. record { name = own; table = z }) _ (u16_agrees s (le16 s 10) q v (naming (le16 s 10)) names_nothing (naming-below (le16 s 10)) b)
    (λ z r u n. ((λ i. record { name = own; table = (n.is ∙ le_16 s q) i }), n.next))

pub user-op_agrees : (s : List ℕ) (own q v : ℕ) → q ≤ length s → Agrees s (λ x r _. (x ≡ name_only own q) × (r ≡ q + 0)) (pure own (drop q s)) (after 4 s (cursor q 0 v))
unfolding after which_of after_name name_only
user-op_agrees s own q v b = went own q v b (refl, sym (add-zero q)) refl refl

pub other_agrees : (s : List ℕ) (own q v : ℕ) → q ≤ length s → Agrees s (λ x r _. (x ≡ name_only own q) × (r ≡ q + 0)) (pure own (drop q s)) (after 6 s (cursor q 0 v))
unfolding after which_of after_name name_only
other_agrees s own q v b = went own q v b (refl, sym (add-zero q)) refl refl

-- Macros: first the parameters and the count of statements, then the statements.

on_assoc : {A B C : Type 0} (x : Parsed A) (f : A → Read B) (g : B → Read C) → on (on x f) g ≡ on x (λ a u. on (f a u) g)
unfolding on
on_assoc (parsed a s) f g = refl
on_assoc (refused r) f g = refl

rest_of_lem : ℕ → ℕ → List ℕ × ℕ → Read Macro
rest_of_lem m own a u = on (list_of (d.statement m) a.1 u) (λ b. pure (record { name = own; params = a.0; body = b }))

macro_split : (m own : ℕ) (u : List ℕ) → on (head_of m u) (rest_of_lem m own) ≡ d.macro m own u
unfolding d.macro head_of rest_of_lem on
macro_split m own u =
    on_assoc (d.small_count u) _ (rest_of_lem m own)
    ∙ (λ i. on (d.small_count u) (λ n u. (on_assoc (list_of (d.name m) n u) (λ ps u. on (on (little_endian 2 u) (up_to 1024)) (λ c. pure (ps, c))) (rest_of_lem m own)
    ∙ (λ j. on (list_of (d.name m) n u) (λ ps u. on_assoc (on (little_endian 2 u) (up_to 1024)) (λ c. pure (ps, c)) (rest_of_lem m own) j))) i))

head_agrees : (s : List ℕ) (m q v : ℕ) → q ≤ length s → Agrees s (λ a r u. (u ≡ a.1) × (a.1 ≤ 1024)) (head_of m (drop q s)) (macro_head s m (cursor q 0 v))
unfolding head_of macro_head params counted
head_agrees s m q v b =
    bind s (Number s 1 q 9) _ (d.small_count (drop q s)) _ (λ c. u16 s 1025 4 (counted (w.name s m) c)) (w.small_count s (cursor q 0 v)) (count-read s q v b) (stuck_both _ _ (stuck_counted _ (stuck_u16 s m 5)) (stuck_u16 s 1025 4))
    (λ n q1 v1 b1 n1. bind s (λ xs _ _. length xs ≡ n) _ (list_of (d.name m) n (drop q1 s)) _ (u16 s 1025 4) (run v1 0 (λ _. w.name s m) (cursor q1 0 v1))
    (rw n1.same (list_agrees s Any (d.name m) (w.name s m) (names-read s m) n 0 q1 n b1)) (stuck_u16 s 1025 4)
    (λ ps q2 v2 b2 e. finish s (Number s 2 q2 1025) _ (on (little_endian 2 (drop q2 s)) (up_to 1024)) (λ c. (ps, c)) _ (limit_read s 1024 q2 v2 b2)
    (λ c r u n2. (n2.same, small c n2.below))))
  where
    small : (c : ℕ) → c < 1025 → c ≤ 1024
    small c h = omega arith

    names-read : (s : List ℕ) (m : ℕ) → Reads s Any (d.name m) (w.name s m)
    names-read s m = record { stuck = stuck_u16 s m 5; agrees = λ q v b. weaken s (Number s 2 q m) Any (d.name m (drop q s)) (w.name s m (cursor q 0 v)) (name_read s m q v b) (λ _ _ _ _. tt) }

-- what is known once macro i, whose parameter count stands at q, is read; the table t' was t
pub record MacroHeld (s : List ℕ) (i own q : ℕ) (t : List ℕ) (x : Macro) (r : ℕ) (t' : List ℕ) : Type 0 where
  pub name : x.name ≡ own
  pub noted_there : t' ≡ noted i q (length x.body) t
  pub few : length x.body ≤ 1024
  pub room : q + length x.body ≤ r
  pub there : MacroAt s q x

-- a macro's statements are as many bytes or more
macro_room : (s : List ℕ) (q p r : ℕ) (a : List ℕ × ℕ) (xs : List Statement) → q ≤ length s → p ≤ length s → r ≤ length s → head_of (le16 s 2) (drop q s) ≡ parsed a (drop p s) → list_of (d.statement (le16 s 2)) a.1 (drop p s) ≡ parsed xs (drop r s) → q + a.1 ≤ r
macro_room s q p r a xs lq lp lr e g =
    let i = simp length-drop at ((head_takes (le16 s 2)).takes (drop q s) a (drop p s) e) in
    let j = simp length-drop at ((list_takes (d.statement (le16 s 2)) (statement_takes (le16 s 2)) a.1).takes (drop p s) xs (drop r s) g) in
    omega arith

macro-body : (s : List ℕ) (i own q p : ℕ) (t : List ℕ) (a : List ℕ × ℕ) → q ≤ length s → p ≤ length s → a.1 ≤ 1024 → head_of (le16 s 2) (drop q s) ≡ parsed a (drop p s) →
    Agrees s (λ xs _ _. length xs ≡ a.1) (list_of (d.statement (le16 s 2)) a.1 (drop p s)) (body s (le16 s 2) a.1 (cursor p 0 a.1)) →
    Fills s (MacroHeld s i own q t) (rest_of_lem (le16 s 2) own a (drop p s)) (reading (body s (le16 s 2) a.1 (cursor p 0 a.1)) (noted i q a.1 t))
unfolding on rest_of_lem
macro-body s i own q p t a b c l e (went xs r w d n g k) =
    goes (record { name = own; params = a.0; body = xs }) r w (noted i q a.1 t) d
    (record {
      name = refl;
      noted_there = rw n;
      few = rw n l;
      room = rw n (macro_room s q p r a xs b c d e g);
      there = record { after = r; inside = b; reads = sym (macro_split (le16 s 2) own (drop q s)) ∙ rw (e, g) };
    }) (rw g) (rw k)
macro-body s i own q p t a b c l e (stopped r w g k) = stops r w (rw g) (rw k)

macro-fill : (s : List ℕ) (i own q v : ℕ) (t : List ℕ) → q ≤ length s → Fills s (MacroHeld s i own q t) (d.macro (le16 s 2) own (drop q s)) (macro s (le16 s 2) i (reading (cursor q 0 v) t))
unfolding macro on
macro-fill s i own q v t b = rw (← macro_split (le16 s 2) own (drop q s)) (read (head_agrees s (le16 s 2) q v b))
  where
    read : Agrees s (λ a r u. (u ≡ a.1) × (a.1 ≤ 1024)) (head_of (le16 s 2) (drop q s)) (macro_head s (le16 s 2) (cursor q 0 v)) →
        Fills s (MacroHeld s i own q t) (on (head_of (le16 s 2) (drop q s)) (rest_of_lem (le16 s 2) own)) (reading (body s (le16 s 2) (macro_head s (le16 s 2) (cursor q 0 v)).val (macro_head s (le16 s 2) (cursor q 0 v))) (noted i q (macro_head s (le16 s 2) (cursor q 0 v)).val t))
    read (stopped r p e f) = stops r p (rw e) (rw f ((stuck_body s (le16 s 2) 0).stays _ (refusal_bad r)))
    read (went a p u c n e f) = rw (e, f, n.0) (macro-body s i own q p t a b c n.1 e (body_agrees s (le16 s 2) a.1 p a.1 c))

-- n macros from macro i on, from p on; the table t' was t
pub record MacrosHeld (s : List ℕ) (i n p : ℕ) (taken t : List ℕ) (xs : List Macro) (q : ℕ) (t' : List ℕ) : Type 0 where
  pub count : length xs ≡ n
  pub macro : (j : ℕ) (x : Macro) → get_elem? xs j ≡ some x → MacroAt s (get_or t' (3072 + (i + j)) 0) x
  pub ordinal : (j : ℕ) → j < n → get_or t' (3200 + (i + j)) 0 ≡ (get_or t 3338 0 + bodies (take j xs)) % 65536
  pub room : p + bodies xs ≤ q
  pub next-ordinal : get_or t' 3338 0 ≡ (get_or t 3338 0 + bodies xs) % 65536
  pub marks : (x : ℕ) → x < 1024 → get_or t' (1024 + x) 0 ≡ marked (stamp 5) i (map (λ (y : Macro). y.name) xs) x (get_or t (1024 + x) 0)
  pub kept : (j : ℕ) → (1024 ≤ j → j < 2048 → ⊥) → (3072 + i ≤ j → j < 3072 + (i + n) → ⊥) → (3200 + i ≤ j → j < 3200 + (i + n) → ⊥) → (j ≡ 3338 → ⊥) → get_or t' j 0 ≡ get_or t j 0
  pub size : length t' ≡ length t
  pub all_taken : Taken 1024 t' (map (λ (y : Macro). y.name) xs ++ taken)

macros_none : (s : List ℕ) (i p : ℕ) (taken t : List ℕ) → get_or t 3338 0 < 65536 → Taken 1024 t taken → MacrosHeld s i 0 p taken t [] p t
unfolding bodies
macros_none s i p taken t l a = record {
  count = refl;
  macro = λ j x e. absurd (let z : ◌≡◌ {A = ℕ} 0 1 = cc in omega arith);
  ordinal = λ j h. absurd (omega arith);
  room = omega arith;
  next-ordinal = omega arith;
  marks = λ x h. marked_none (stamp 5) i x (get_or t (1024 + x) 0);
  kept = λ j a b c d. refl;
  size = refl;
  all_taken = a;
}

-- the table after a macro is noted
noted_own : (i q n : ℕ) (t : List ℕ) → length t ≡ 3344 → i < 128 → get_or (noted i q n t) (3072 + i) 0 ≡ q % 65536
unfolding noted
noted_own i q n t z h =
    get_or-set_other (set (set t (3072 + i) (q % 65536)) (3200 + i) (get_or t 3338 0)) 3338 (3072 + i) ((get_or t 3338 0 + n % 65536) % 65536) 0 (λ e. absurd (omega arith))
    ∙ get_or-set_other (set t (3072 + i) (q % 65536)) (3200 + i) (3072 + i) (get_or t 3338 0) 0 (λ e. absurd (omega arith))
    ∙ get_or-set_same t (3072 + i) (q % 65536) 0 (omega arith)

noted-ordinal : (i q n : ℕ) (t : List ℕ) → length t ≡ 3344 → i < 128 → get_or (noted i q n t) (3200 + i) 0 ≡ get_or t 3338 0
unfolding noted
noted-ordinal i q n t z h =
    get_or-set_other (set (set t (3072 + i) (q % 65536)) (3200 + i) (get_or t 3338 0)) 3338 (3200 + i) ((get_or t 3338 0 + n % 65536) % 65536) 0 (λ e. absurd (omega arith))
    ∙ get_or-set_same (set t (3072 + i) (q % 65536)) (3200 + i) (get_or t 3338 0) 0 (rw length-set (omega arith))

noted-next : (i q n : ℕ) (t : List ℕ) → length t ≡ 3344 → get_or (noted i q n t) 3338 0 ≡ (get_or t 3338 0 + n % 65536) % 65536
unfolding noted
noted-next i q n t z = get_or-set_same (set (set t (3072 + i) (q % 65536)) (3200 + i) (get_or t 3338 0)) 3338 ((get_or t 3338 0 + n % 65536) % 65536) 0 (rw (length-set, length-set) (omega arith))

noted_kept : (i q n : ℕ) (t : List ℕ) (j : ℕ) → (j ≡ 3072 + i → ⊥) → (j ≡ 3200 + i → ⊥) → (j ≡ 3338 → ⊥) → get_or (noted i q n t) j 0 ≡ get_or t j 0
unfolding noted
noted_kept i q n t j a b c =
    get_or-set_other (set (set t (3072 + i) (q % 65536)) (3200 + i) (get_or t 3338 0)) 3338 j ((get_or t 3338 0 + n % 65536) % 65536) 0 c
    ∙ get_or-set_other (set t (3072 + i) (q % 65536)) (3200 + i) j (get_or t 3338 0) 0 b
    ∙ get_or-set_other t (3072 + i) j (q % 65536) 0 a

noted_length : (i q n : ℕ) (t : List ℕ) → length (noted i q n t) ≡ length t
unfolding noted
noted_length i q n t = rw (length-set, length-set, length-set)

macros_more : (s : List ℕ) (i n p own q0 q1 q : ℕ) (taken t t1 t' : List ℕ) (x : Macro) (xs : List Macro) → length s < 65536 →
    length t ≡ 3344 → i + suc n ≤ 128 → q0 ≤ length s → get_or t 3338 0 < 65536 → Own s 1024 p t own q0 → MacroHeld s i own q0 (set t (1024 + own) (stamp 5 i)) x q1 t1 →
    MacrosHeld s (suc i) n q1 (own ∷ taken) t1 xs q t' → MacrosHeld s i (suc n) p taken t (x ∷ xs) q t'
unfolding bodies
macros_more s i n p own q0 q1 q taken t t1 t' x xs short z li b0 lo o m h = record {
  count = ap suc h.count;
  macro = each;
  ordinal = first;
  room = (let a = h.room in let b = m.room in let e = o.next in omega arith);
  next-ordinal = h.next-ordinal ∙ sums (bodies xs);
  marks = λ y k. rw m.name (marks_more 1024 t t' (stamp 5) i own (map (λ (y : Macro). y.name) xs) own_inside ((base_global 5 (omega arith)).stamps i (omega arith)) o.free (λ y k. h.marks y k ∙ ap (marked (stamp 5) (suc i) (map (λ (y : Macro). y.name) xs) y) (before (1024 + y) (λ e. absurd (omega arith)) (λ e. absurd (omega arith)) (λ e. absurd (omega arith)))) y k);
  kept = λ j a b c d. h.kept j a (λ e f. b (omega arith) (omega arith)) (λ e f. c (omega arith) (omega arith)) d
      ∙ before j (λ e. b (omega arith) (omega arith)) (λ e. c (omega arith) (omega arith)) d
      ∙ get_or-set_other t (1024 + own) j (stamp 5 i) 0 (λ e. a (omega arith) (under j e));
  size = h.size ∙ ap length m.noted_there ∙ noted_length i q0 (length x.body) (set t (1024 + own) (stamp 5 i)) ∙ length-set t (1024 + own) (stamp 5 i);
  all_taken = rw m.name (taken_again 1024 t' own (map (λ (y : Macro). y.name) xs) taken h.all_taken);
}
  where
    own_inside : 1024 + own < length t
    own_inside = let e = o.below in omega arith

    under : (j : ℕ) → j ≡ 1024 + own → j < 2048
    under j e = let l = o.below in omega arith

    before : (j : ℕ) → (j ≡ 3072 + i → ⊥) → (j ≡ 3200 + i → ⊥) → (j ≡ 3338 → ⊥) → get_or t1 j 0 ≡ get_or (set t (1024 + own) (stamp 5 i)) j 0
    before j a b c = ap (λ (l : List ℕ). get_or l j 0) m.noted_there ∙ noted_kept i q0 (length x.body) (set t (1024 + own) (stamp 5 i)) j a b c

    long : length (set t (1024 + own) (stamp 5 i)) ≡ 3344
    long = length-set t (1024 + own) (stamp 5 i) ∙ z

    running : get_or (set t (1024 + own) (stamp 5 i)) 3338 0 ≡ get_or t 3338 0
    running = get_or-set_other t (1024 + own) 3338 (stamp 5 i) 0 (λ e. absurd (let l = o.below in omega arith))

    after : get_or t1 3338 0 ≡ (get_or t 3338 0 + length x.body % 65536) % 65536
    after = ap (λ (l : List ℕ). get_or l 3338 0) m.noted_there ∙ noted-next i q0 (length x.body) (set t (1024 + own) (stamp 5 i)) long ∙ ap (λ (y : ℕ). (y + length x.body % 65536) % 65536) running

    sums : (y : ℕ) → (get_or t1 3338 0 + y) % 65536 ≡ (get_or t 3338 0 + (length x.body + y)) % 65536
    sums y = let e = after in let f = m.few in omega arith

    here : get_or t' (3072 + i) 0 ≡ q0
    here =
        h.kept (3072 + i) (λ a b. absurd (omega arith)) (λ a b. absurd (omega arith)) (λ a b. absurd (omega arith)) (λ a. absurd (omega arith))
        ∙ ap (λ (l : List ℕ). get_or l (3072 + i) 0) m.noted_there ∙ noted_own i q0 (length x.body) (set t (1024 + own) (stamp 5 i)) long (omega arith) ∙ place-fits s q0 short b0

    here_ordinal : get_or t' (3200 + i) 0 ≡ get_or t 3338 0
    here_ordinal =
        h.kept (3200 + i) (λ a b. absurd (omega arith)) (λ a b. absurd (omega arith)) (λ a b. absurd (omega arith)) (λ a. absurd (omega arith))
        ∙ ap (λ (l : List ℕ). get_or l (3200 + i) 0) m.noted_there ∙ noted-ordinal i q0 (length x.body) (set t (1024 + own) (stamp 5 i)) long (omega arith) ∙ running

    each : (j : ℕ) (y : Macro) → get_elem? (x ∷ xs) j ≡ some y → MacroAt s (get_or t' (3072 + (i + j)) 0) y
    each zero y e = let f : x ≡ y = cc in rw (add-zero, here, ← f) m.there
    each (suc j) y e = let f : suc i + j ≡ i + suc j = omega arith in rw (← f) (h.macro j y e)

    first : (j : ℕ) → j < suc n → get_or t' (3200 + (i + j)) 0 ≡ (get_or t 3338 0 + bodies (take j (x ∷ xs))) % 65536
    first zero k = rw (add-zero, here_ordinal) (omega arith)
    first (suc j) k = let f : suc i + j ≡ i + suc j = omega arith in rw (← f) (h.ordinal j (omega arith) ∙ sums (bodies (take j xs)))

rest-macro : (s : List ℕ) (i : ℕ) (w : Reading) → rest_of 5 s i w ≡ macro s (le16 s 2) i w
unfolding rest_of
rest-macro s i w = refl

pub macros-fill : (s : List ℕ) → length s < 65536 → le16 s 2 ≤ 1024 → (n i p v : ℕ) (t taken : List ℕ) → i + n ≤ 128 → length t ≡ 3344 → get_or t 3338 0 < 65536 → Taken 1024 t taken → p ≤ length s →
    Fills s (MacrosHeld s i n p taken t) (d.entries (le16 s 2) (d.macro (le16 s 2)) taken n (drop p s)) (run n i (entry 5 s) (reading (cursor p 0 v) t))
unfolding d.entries run entry
macros-fill s short few zero i p v t taken l z o a b = goes [] p v t b (macros_none s i p taken t o a) refl refl
macros-fill s short few (suc n) i p v t taken l z o a b =
    named_then s few 5 1024 (base_global 5 (omega arith)) (MacrosHeld s i (suc n) p taken t) _ (λ w. run n (suc i) (entry 5 s) (rest_of 5 s i w)) i p v t taken a b
    (stays_both (rest_of 5 s i) (run n (suc i) (entry 5 s)) (stays_rest 5 s i) (stays_run n (suc i) (entry 5 s) (stays_entry 5 s)))
    (λ own q u w c. rw (rest-macro s i (reading (cursor q 0 u) (set t (1024 + own) (stamp 5 i))))
    (fills_bind s (MacroHeld s i own q (set t (1024 + own) (stamp 5 i))) (MacrosHeld s i (suc n) p taken t) (d.macro (le16 s 2) own (drop q s)) _ (run n (suc i) (entry 5 s)) (macro s (le16 s 2) i (reading (cursor q 0 u) (set t (1024 + own) (stamp 5 i))))
    (macro-fill s i own q u (set t (1024 + own) (stamp 5 i)) c) (stays_run n (suc i) (entry 5 s) (stays_entry 5 s))
    (λ x q1 u1 t1 c1 m. fills_finish s (MacrosHeld s (suc i) n q1 (own ∷ taken) t1) _ (d.entries (le16 s 2) (d.macro (le16 s 2)) (own ∷ taken) n (drop q1 s)) (λ xs. x ∷ xs) _
    (macros-fill s short few n (suc i) q1 u1 t1 (own ∷ taken) (omega arith) (long own q x q1 t1 m) (running own q x q1 t1 w m) (retaken own q x q1 t1 w m) c1)
    (λ xs r t' h. macros_more s i n p own q q1 r taken t t1 t' x xs short z l c o w m h))))
  where
    long : (own q : ℕ) (x : Macro) (q1 : ℕ) (t1 : List ℕ) → MacroHeld s i own q (set t (1024 + own) (stamp 5 i)) x q1 t1 → length t1 ≡ 3344
    long own q x q1 t1 m = ap length m.noted_there ∙ noted_length i q (length x.body) (set t (1024 + own) (stamp 5 i)) ∙ length-set t (1024 + own) (stamp 5 i) ∙ z

    running : (own q : ℕ) (x : Macro) (q1 : ℕ) (t1 : List ℕ) → Own s 1024 p t own q → MacroHeld s i own q (set t (1024 + own) (stamp 5 i)) x q1 t1 → get_or t1 3338 0 < 65536
    running own q x q1 t1 w m =
        let e : get_or t1 3338 0 ≡ (get_or (set t (1024 + own) (stamp 5 i)) 3338 0 + length x.body % 65536) % 65536 =
        ap (λ (l : List ℕ). get_or l 3338 0) m.noted_there ∙ noted-next i q (length x.body) (set t (1024 + own) (stamp 5 i)) (length-set t (1024 + own) (stamp 5 i) ∙ z) in
        omega arith

    retaken : (own q : ℕ) (x : Macro) (q1 : ℕ) (t1 : List ℕ) → Own s 1024 p t own q → MacroHeld s i own q (set t (1024 + own) (stamp 5 i)) x q1 t1 → Taken 1024 t1 (own ∷ taken)
    retaken own q x q1 t1 w m =
        taken_kept 1024 (set t (1024 + own) (stamp 5 i)) t1 (own ∷ taken)
        (λ y h. ap (λ (l : List ℕ). get_or l (1024 + y) 0) m.noted_there ∙ noted_kept i q (length x.body) (set t (1024 + own) (stamp 5 i)) (1024 + y) (λ e. absurd (omega arith)) (λ e. absurd (omega arith)) (λ e. absurd (omega arith)))
        (taken_more 1024 t taken own (stamp 5 i) (let l = w.below in omega arith) ((base_global 5 (omega arith)).stamps i (omega arith)) a)
