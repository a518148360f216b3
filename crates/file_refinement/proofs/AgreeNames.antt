-- The header and the names: the cursor agrees with the definition's reading, and the table holds where each name stands.
use mathlib.Core.Path.{◌≡◌, refl, sym, ◌∙◌, ap}
use mathlib.Core.Bool.{Bool, true, false}
use mathlib.Core.List.{List, [], ◌∷◌}
use mathlib.Core.Option.{Option, some}
use Prim.Native.Nat.{ℕ, zero, suc, ◌+◌, ◌-◌, ◌*◌, ◌%◌, ◌≤◌, ◌<◌}
use native.Mathlib.Nat.{add-zero}
use native.Mathlib.Omega.{arith}
use lib.ListN.{length, get_or, set, take, drop, get_elem?, length-set, length-drop}
use lib.Seq.{drop-cons, get_or-set_same, get_or-set_other, length-take-le}
use lib.Dec.{eqb, leb, ltb}
use borrow.Author.Tests.{eqb-true, eqb-false, eq-eqb, ne_eqb, ltb-true, ltb-false, leb-true, leb-false, lt-leb, le-leb}
use Rattle.prelude.specs.Base.{when◌then◌else◌, any, same_numbers}
use Rattle.definition.specs.Refusals.{Refusal, refusal_number, malformed, outside_limit, names_nothing, spelled_twice}
use Rattle.definition.specs.SectionFile.{Parsed, parsed, refused, on, Read, pure, require, little_endian, up_to, naming, or_absent, list_of}
use Rattle.definition.specs.Ast.{Header}
use Rattle.definition.specs.SectionFile as d
use Rattle.access.specs.Le.{le16}
use Rattle.file_syntax.specs.Cursors.{Cursor, cursor, number, u8, u16, u16or, skip}
use Rattle.access.specs.Loops.{run}
use Rattle.file_syntax.specs.Cursors as w
use Rattle.file_section.specs.Headers.{global_counts, counts, roles, header}
use Rattle.file_section.specs.Names.{Reading, reading, agree, rest_alike, alike, known, letters, spelling, name_at}
use Rattle.file_refinement.specs.Holds.{absent_at, Limits, Named, spelled_at}
use Rattle.file_refinement.proofs.Agree.{Agrees, went, stopped, Stuck, stuck_both, bind, Number, NumberOr, Tests, le_16, u8_at, u8_cut, up_to_lem, naming-below, stuck_u8, stuck_u16, stuck_u16or, u16_agrees, u16or_agrees, refusal_bad}

-- The header, each u16 at its place.

unfoldable pub header_at : List ℕ → Header
header_at s = record {
  rule_set = le16 s 0;
  names = le16 s 2;
  spaces = le16 s 4;
  registers = le16 s 6;
  bit_ranges = le16 s 8;
  tables = le16 s 10;
  user_ops = le16 s 12;
  macros = le16 s 14;
  others = le16 s 16;
  fields = le16 s 18;
  subtables = le16 s 20;
  statements = le16 s 22;
  default_space = absent_at s 24;
  inst_start = le16 s 26;
  inst_next = le16 s 28;
  const = le16 s 30;
  delay_slot = le16 s 32;
}

-- a tested u16 at p, and what follows
step : (s : List ℕ) {B : Type 0} (Q : B → ℕ → ℕ → Type 0) (check : ℕ → Read ℕ) (lim : ℕ) (r : Refusal) → Tests check lim r → (g : ℕ → Read B) (f : Cursor → Cursor) (p v : ℕ) → p ≤ length s → Stuck f →
    ((u : ℕ) → p + 2 ≤ length s → le16 s p < lim → Agrees s Q (g (le16 s p) (drop (p + 2) s)) (f (cursor (p + 2) 0 u))) →
    Agrees s Q (on (on (little_endian 2 (drop p s)) check) g) (f (u16 s lim (refusal_number r) (cursor p 0 v)))
step s Q check lim r test g f p v b st k =
    bind s (Number s 2 p lim) Q (on (little_endian 2 (drop p s)) check) g f _ (u16_agrees s lim p v check r test b) st
    (λ a q u c n.
    let z : a ≡ le16 s p = n.is ∙ le_16 s p in
    rw (n.next, z) (k u (rw n.next at c) (rw z at n.below)))

step_or : (s : List ℕ) {B : Type 0} (Q : B → ℕ → ℕ → Type 0) (check : ℕ → Read ℕ) (lim : ℕ) (r : Refusal) → Tests check lim r → (g : Option ℕ → Read B) (f : Cursor → Cursor) (p v : ℕ) → p ≤ length s → Stuck f →
    ((u : ℕ) → p + 2 ≤ length s → ((x : ℕ) → absent_at s p ≡ some x → x < lim) → Agrees s Q (g (absent_at s p) (drop (p + 2) s)) (f (cursor (p + 2) 0 u))) →
    Agrees s Q (on (on (little_endian 2 (drop p s)) (or_absent check)) g) (f (u16or s lim (refusal_number r) (cursor p 0 v)))
step_or s Q check lim r test g f p v b st k =
    bind s (NumberOr s p lim) Q (on (little_endian 2 (drop p s)) (or_absent check)) g f _ (u16or_agrees s lim p v check r test b) st
    (λ a q u c n. rw (n.next, n.absent) (k u (rw n.next at c) (λ x e. n.below x (n.absent ∙ e))))

stuck_same : Stuck (λ c. c)
stuck_same = record { stays = λ c h. refl }

pub header_agrees : (s : List ℕ) → Agrees s (λ h q v. (h ≡ header_at s) × (q ≡ 34) × Limits s) (d.header (drop 0 s)) (header s)
unfolding d.header header roles counts global_counts refusal_number header_at
header_agrees s =
    step s _ (up_to 0) 1 outside_limit (up_to_lem 0) _ (λ c. w.name s (le16 s 2) (w.name s (le16 s 2) (w.name s (le16 s 2) (w.name s (le16 s 2) (u16or s (le16 s 4) 5 (u16 s 1025 4 (u16 s 33 4 (u16 s 65 4 (u16 s 1025 4 (u16 s 129 4 (u16 s 257 4 (u16 s 257 4 (u16 s 1025 4 (u16 s 1025 4 (u16 s 9 4 (u16 s 1025 4 c)))))))))))))))) 0 0 (omega arith) (stuck_both _ _ (stuck_u16 s 1025 4) (stuck_both _ _ (stuck_u16 s 9 4) (stuck_both _ _ (stuck_u16 s 1025 4) (stuck_both _ _ (stuck_u16 s 1025 4) (stuck_both _ _ (stuck_u16 s 257 4) (stuck_both _ _ (stuck_u16 s 257 4) (stuck_both _ _ (stuck_u16 s 129 4) (stuck_both _ _ (stuck_u16 s 1025 4) (stuck_both _ _ (stuck_u16 s 65 4) (stuck_both _ _ (stuck_u16 s 33 4) (stuck_both _ _ (stuck_u16 s 1025 4) (stuck_both _ _ (stuck_u16or s (le16 s 4) 5) (stuck_both _ _ (stuck_u16 s (le16 s 2) 5) (stuck_both _ _ (stuck_u16 s (le16 s 2) 5) (stuck_both _ _ (stuck_u16 s (le16 s 2) 5) (stuck_u16 s (le16 s 2) 5))))))))))))))))
    (λ v1 b1 l0.
    step s _ (up_to 1024) 1025 outside_limit (up_to_lem 1024) _ (λ c. w.name s (le16 s 2) (w.name s (le16 s 2) (w.name s (le16 s 2) (w.name s (le16 s 2) (u16or s (le16 s 4) 5 (u16 s 1025 4 (u16 s 33 4 (u16 s 65 4 (u16 s 1025 4 (u16 s 129 4 (u16 s 257 4 (u16 s 257 4 (u16 s 1025 4 (u16 s 1025 4 (u16 s 9 4 c))))))))))))))) 2 v1 b1 (stuck_both _ _ (stuck_u16 s 9 4) (stuck_both _ _ (stuck_u16 s 1025 4) (stuck_both _ _ (stuck_u16 s 1025 4) (stuck_both _ _ (stuck_u16 s 257 4) (stuck_both _ _ (stuck_u16 s 257 4) (stuck_both _ _ (stuck_u16 s 129 4) (stuck_both _ _ (stuck_u16 s 1025 4) (stuck_both _ _ (stuck_u16 s 65 4) (stuck_both _ _ (stuck_u16 s 33 4) (stuck_both _ _ (stuck_u16 s 1025 4) (stuck_both _ _ (stuck_u16or s (le16 s 4) 5) (stuck_both _ _ (stuck_u16 s (le16 s 2) 5) (stuck_both _ _ (stuck_u16 s (le16 s 2) 5) (stuck_both _ _ (stuck_u16 s (le16 s 2) 5) (stuck_u16 s (le16 s 2) 5)))))))))))))))
    (λ v2 b2 l1.
    step s _ (up_to 8) 9 outside_limit (up_to_lem 8) _ (λ c. w.name s (le16 s 2) (w.name s (le16 s 2) (w.name s (le16 s 2) (w.name s (le16 s 2) (u16or s (le16 s 4) 5 (u16 s 1025 4 (u16 s 33 4 (u16 s 65 4 (u16 s 1025 4 (u16 s 129 4 (u16 s 257 4 (u16 s 257 4 (u16 s 1025 4 (u16 s 1025 4 c)))))))))))))) 4 v2 b2 (stuck_both _ _ (stuck_u16 s 1025 4) (stuck_both _ _ (stuck_u16 s 1025 4) (stuck_both _ _ (stuck_u16 s 257 4) (stuck_both _ _ (stuck_u16 s 257 4) (stuck_both _ _ (stuck_u16 s 129 4) (stuck_both _ _ (stuck_u16 s 1025 4) (stuck_both _ _ (stuck_u16 s 65 4) (stuck_both _ _ (stuck_u16 s 33 4) (stuck_both _ _ (stuck_u16 s 1025 4) (stuck_both _ _ (stuck_u16or s (le16 s 4) 5) (stuck_both _ _ (stuck_u16 s (le16 s 2) 5) (stuck_both _ _ (stuck_u16 s (le16 s 2) 5) (stuck_both _ _ (stuck_u16 s (le16 s 2) 5) (stuck_u16 s (le16 s 2) 5))))))))))))))
    (λ v3 b3 l2.
    step s _ (up_to 1024) 1025 outside_limit (up_to_lem 1024) _ (λ c. w.name s (le16 s 2) (w.name s (le16 s 2) (w.name s (le16 s 2) (w.name s (le16 s 2) (u16or s (le16 s 4) 5 (u16 s 1025 4 (u16 s 33 4 (u16 s 65 4 (u16 s 1025 4 (u16 s 129 4 (u16 s 257 4 (u16 s 257 4 (u16 s 1025 4 c))))))))))))) 6 v3 b3 (stuck_both _ _ (stuck_u16 s 1025 4) (stuck_both _ _ (stuck_u16 s 257 4) (stuck_both _ _ (stuck_u16 s 257 4) (stuck_both _ _ (stuck_u16 s 129 4) (stuck_both _ _ (stuck_u16 s 1025 4) (stuck_both _ _ (stuck_u16 s 65 4) (stuck_both _ _ (stuck_u16 s 33 4) (stuck_both _ _ (stuck_u16 s 1025 4) (stuck_both _ _ (stuck_u16or s (le16 s 4) 5) (stuck_both _ _ (stuck_u16 s (le16 s 2) 5) (stuck_both _ _ (stuck_u16 s (le16 s 2) 5) (stuck_both _ _ (stuck_u16 s (le16 s 2) 5) (stuck_u16 s (le16 s 2) 5)))))))))))))
    (λ v4 b4 l3.
    step s _ (up_to 1024) 1025 outside_limit (up_to_lem 1024) _ (λ c. w.name s (le16 s 2) (w.name s (le16 s 2) (w.name s (le16 s 2) (w.name s (le16 s 2) (u16or s (le16 s 4) 5 (u16 s 1025 4 (u16 s 33 4 (u16 s 65 4 (u16 s 1025 4 (u16 s 129 4 (u16 s 257 4 (u16 s 257 4 c)))))))))))) 8 v4 b4 (stuck_both _ _ (stuck_u16 s 257 4) (stuck_both _ _ (stuck_u16 s 257 4) (stuck_both _ _ (stuck_u16 s 129 4) (stuck_both _ _ (stuck_u16 s 1025 4) (stuck_both _ _ (stuck_u16 s 65 4) (stuck_both _ _ (stuck_u16 s 33 4) (stuck_both _ _ (stuck_u16 s 1025 4) (stuck_both _ _ (stuck_u16or s (le16 s 4) 5) (stuck_both _ _ (stuck_u16 s (le16 s 2) 5) (stuck_both _ _ (stuck_u16 s (le16 s 2) 5) (stuck_both _ _ (stuck_u16 s (le16 s 2) 5) (stuck_u16 s (le16 s 2) 5))))))))))))
    (λ v5 b5 l4.
    step s _ (up_to 256) 257 outside_limit (up_to_lem 256) _ (λ c. w.name s (le16 s 2) (w.name s (le16 s 2) (w.name s (le16 s 2) (w.name s (le16 s 2) (u16or s (le16 s 4) 5 (u16 s 1025 4 (u16 s 33 4 (u16 s 65 4 (u16 s 1025 4 (u16 s 129 4 (u16 s 257 4 c))))))))))) 10 v5 b5 (stuck_both _ _ (stuck_u16 s 257 4) (stuck_both _ _ (stuck_u16 s 129 4) (stuck_both _ _ (stuck_u16 s 1025 4) (stuck_both _ _ (stuck_u16 s 65 4) (stuck_both _ _ (stuck_u16 s 33 4) (stuck_both _ _ (stuck_u16 s 1025 4) (stuck_both _ _ (stuck_u16or s (le16 s 4) 5) (stuck_both _ _ (stuck_u16 s (le16 s 2) 5) (stuck_both _ _ (stuck_u16 s (le16 s 2) 5) (stuck_both _ _ (stuck_u16 s (le16 s 2) 5) (stuck_u16 s (le16 s 2) 5)))))))))))
    (λ v6 b6 l5.
    step s _ (up_to 256) 257 outside_limit (up_to_lem 256) _ (λ c. w.name s (le16 s 2) (w.name s (le16 s 2) (w.name s (le16 s 2) (w.name s (le16 s 2) (u16or s (le16 s 4) 5 (u16 s 1025 4 (u16 s 33 4 (u16 s 65 4 (u16 s 1025 4 (u16 s 129 4 c)))))))))) 12 v6 b6 (stuck_both _ _ (stuck_u16 s 129 4) (stuck_both _ _ (stuck_u16 s 1025 4) (stuck_both _ _ (stuck_u16 s 65 4) (stuck_both _ _ (stuck_u16 s 33 4) (stuck_both _ _ (stuck_u16 s 1025 4) (stuck_both _ _ (stuck_u16or s (le16 s 4) 5) (stuck_both _ _ (stuck_u16 s (le16 s 2) 5) (stuck_both _ _ (stuck_u16 s (le16 s 2) 5) (stuck_both _ _ (stuck_u16 s (le16 s 2) 5) (stuck_u16 s (le16 s 2) 5))))))))))
    (λ v7 b7 l6.
    step s _ (up_to 128) 129 outside_limit (up_to_lem 128) _ (λ c. w.name s (le16 s 2) (w.name s (le16 s 2) (w.name s (le16 s 2) (w.name s (le16 s 2) (u16or s (le16 s 4) 5 (u16 s 1025 4 (u16 s 33 4 (u16 s 65 4 (u16 s 1025 4 c))))))))) 14 v7 b7 (stuck_both _ _ (stuck_u16 s 1025 4) (stuck_both _ _ (stuck_u16 s 65 4) (stuck_both _ _ (stuck_u16 s 33 4) (stuck_both _ _ (stuck_u16 s 1025 4) (stuck_both _ _ (stuck_u16or s (le16 s 4) 5) (stuck_both _ _ (stuck_u16 s (le16 s 2) 5) (stuck_both _ _ (stuck_u16 s (le16 s 2) 5) (stuck_both _ _ (stuck_u16 s (le16 s 2) 5) (stuck_u16 s (le16 s 2) 5)))))))))
    (λ v8 b8 l7.
    step s _ (up_to 1024) 1025 outside_limit (up_to_lem 1024) _ (λ c. w.name s (le16 s 2) (w.name s (le16 s 2) (w.name s (le16 s 2) (w.name s (le16 s 2) (u16or s (le16 s 4) 5 (u16 s 1025 4 (u16 s 33 4 (u16 s 65 4 c)))))))) 16 v8 b8 (stuck_both _ _ (stuck_u16 s 65 4) (stuck_both _ _ (stuck_u16 s 33 4) (stuck_both _ _ (stuck_u16 s 1025 4) (stuck_both _ _ (stuck_u16or s (le16 s 4) 5) (stuck_both _ _ (stuck_u16 s (le16 s 2) 5) (stuck_both _ _ (stuck_u16 s (le16 s 2) 5) (stuck_both _ _ (stuck_u16 s (le16 s 2) 5) (stuck_u16 s (le16 s 2) 5))))))))
    (λ v9 b9 l8.
    step s _ (up_to 64) 65 outside_limit (up_to_lem 64) _ (λ c. w.name s (le16 s 2) (w.name s (le16 s 2) (w.name s (le16 s 2) (w.name s (le16 s 2) (u16or s (le16 s 4) 5 (u16 s 1025 4 (u16 s 33 4 c))))))) 18 v9 b9 (stuck_both _ _ (stuck_u16 s 33 4) (stuck_both _ _ (stuck_u16 s 1025 4) (stuck_both _ _ (stuck_u16or s (le16 s 4) 5) (stuck_both _ _ (stuck_u16 s (le16 s 2) 5) (stuck_both _ _ (stuck_u16 s (le16 s 2) 5) (stuck_both _ _ (stuck_u16 s (le16 s 2) 5) (stuck_u16 s (le16 s 2) 5)))))))
    (λ v10 b10 l9.
    step s _ (up_to 32) 33 outside_limit (up_to_lem 32) _ (λ c. w.name s (le16 s 2) (w.name s (le16 s 2) (w.name s (le16 s 2) (w.name s (le16 s 2) (u16or s (le16 s 4) 5 (u16 s 1025 4 c)))))) 20 v10 b10 (stuck_both _ _ (stuck_u16 s 1025 4) (stuck_both _ _ (stuck_u16or s (le16 s 4) 5) (stuck_both _ _ (stuck_u16 s (le16 s 2) 5) (stuck_both _ _ (stuck_u16 s (le16 s 2) 5) (stuck_both _ _ (stuck_u16 s (le16 s 2) 5) (stuck_u16 s (le16 s 2) 5))))))
    (λ v11 b11 l10.
    step s _ (up_to 1024) 1025 outside_limit (up_to_lem 1024) _ (λ c. w.name s (le16 s 2) (w.name s (le16 s 2) (w.name s (le16 s 2) (w.name s (le16 s 2) (u16or s (le16 s 4) 5 c))))) 22 v11 b11 (stuck_both _ _ (stuck_u16or s (le16 s 4) 5) (stuck_both _ _ (stuck_u16 s (le16 s 2) 5) (stuck_both _ _ (stuck_u16 s (le16 s 2) 5) (stuck_both _ _ (stuck_u16 s (le16 s 2) 5) (stuck_u16 s (le16 s 2) 5)))))
    (λ v12 b12 l11.
    step_or s _ (naming (le16 s 4)) (le16 s 4) names_nothing (naming-below (le16 s 4)) _ (λ c. w.name s (le16 s 2) (w.name s (le16 s 2) (w.name s (le16 s 2) (w.name s (le16 s 2) c)))) 24 v12 b12 (stuck_both _ _ (stuck_u16 s (le16 s 2) 5) (stuck_both _ _ (stuck_u16 s (le16 s 2) 5) (stuck_both _ _ (stuck_u16 s (le16 s 2) 5) (stuck_u16 s (le16 s 2) 5))))
    (λ v13 b13 l12.
    step s _ (naming (le16 s 2)) (le16 s 2) names_nothing (naming-below (le16 s 2)) _ (λ c. w.name s (le16 s 2) (w.name s (le16 s 2) (w.name s (le16 s 2) c))) 26 v13 b13 (stuck_both _ _ (stuck_u16 s (le16 s 2) 5) (stuck_both _ _ (stuck_u16 s (le16 s 2) 5) (stuck_u16 s (le16 s 2) 5)))
    (λ v14 b14 l13.
    step s _ (naming (le16 s 2)) (le16 s 2) names_nothing (naming-below (le16 s 2)) _ (λ c. w.name s (le16 s 2) (w.name s (le16 s 2) c)) 28 v14 b14 (stuck_both _ _ (stuck_u16 s (le16 s 2) 5) (stuck_u16 s (le16 s 2) 5))
    (λ v15 b15 l14.
    step s _ (naming (le16 s 2)) (le16 s 2) names_nothing (naming-below (le16 s 2)) _ (λ c. w.name s (le16 s 2) c) 30 v15 b15 (stuck_u16 s (le16 s 2) 5)
    (λ v16 b16 l15.
    step s _ (naming (le16 s 2)) (le16 s 2) names_nothing (naming-below (le16 s 2)) _ (λ c. c) 32 v16 b16 (stuck_same)
    (λ v17 b17 l16.
    went (header_at s) 34 v17 b17 (refl, refl, record { rule_set = omega arith; names = omega arith; spaces = omega arith; registers = omega arith; bit_ranges = omega arith; tables = omega arith; user_ops = omega arith; macros = omega arith; others = omega arith; fields = omega arith; subtables = omega arith; statements = omega arith; default_space = l12; inst_start = l13; inst_next = l14; const = l15; delay_slot = l16 }) refl refl)))))))))))))))))

-- Readings that fill the table: what holds of the thing, the position after it and the table.

pub data Fills (s : List ℕ) {A : Type 0} (P : A → ℕ → List ℕ → Type 0) (x : Parsed A) (w : Reading) : Type 0 where
  goes : (a : A) (q v : ℕ) (t : List ℕ) → q ≤ length s → P a q t → x ≡ parsed a (drop q s) → w ≡ reading (cursor q 0 v) t → Fills s P x w
  stops : (r : Refusal) (q : ℕ) → x ≡ refused r → w.cursor ≡ cursor q (refusal_number r) 0 → Fills s P x w

pub record Stays (f : Reading → Reading) : Type 0 where
  pub stays : (w : Reading) → eqb w.cursor.bad 0 ≡ false → (f w).cursor ≡ w.cursor

pub stays_both : (f g : Reading → Reading) → Stays f → Stays g → Stays (λ w. g (f w))
stays_both f g p q = record { stays = λ w h. let e = p.stays w h in q.stays (f w) (rw e h) ∙ e }

pub fills_bind : (s : List ℕ) {A B : Type 0} (P : A → ℕ → List ℕ → Type 0) (Q : B → ℕ → List ℕ → Type 0) (x : Parsed A) (g : A → Read B) (f : Reading → Reading) (w : Reading) →
    Fills s P x w → Stays f → ((a : A) (q v : ℕ) (t : List ℕ) → q ≤ length s → P a q t → Fills s Q (g a (drop q s)) (f (reading (cursor q 0 v) t))) → Fills s Q (on x g) (f w)
unfolding on
fills_bind s P Q x g f w (goes a q v t b p e h) st k = rw (e, h) (k a q v t b p)
fills_bind s P Q x g f w (stops r q e h) st k = stops r q (rw e) (st.stays w (rw h (refusal_bad r)) ∙ h)

-- a reading that leaves the table
pub fills_from : (s : List ℕ) {A B : Type 0} (P : A → ℕ → ℕ → Type 0) (Q : B → ℕ → List ℕ → Type 0) (x : Parsed A) (g : A → Read B) (f : Reading → Reading) (c : Cursor) (t : List ℕ) →
    Agrees s P x c → Stays f → ((a : A) (q v : ℕ) → q ≤ length s → P a q v → Fills s Q (g a (drop q s)) (f (reading (cursor q 0 v) t))) → Fills s Q (on x g) (f (reading c t))
unfolding on
fills_from s P Q x g f c t (went a q v b p e h) st k = rw (e, h) (k a q v b p)
fills_from s P Q x g f c t (stopped r q e h) st k = stops r q (rw e) (rw h (st.stays _ (refusal_bad r)))

pub stays_run : (n i : ℕ) (f : ℕ → Reading → Reading) → ((j : ℕ) → Stays (f j)) → Stays (run n i f)
unfolding run
stays_run zero i f st = record { stays = λ w h. refl }
stays_run (suc n) i f st = stays_both (f i) (run n (suc i) f) (st i) (stays_run n (suc i) f st)

-- Spellings.

bytes_at : (n : ℕ) (s : List ℕ) (p : ℕ) → p + n ≤ length s → list_of d.u8 n (drop p s) ≡ parsed (take n (drop p s)) (drop (p + n) s)
unfolding list_of on
bytes_at zero s p h = rw add-zero
bytes_at (suc n) s p h =
    let z : suc p + n ≡ p + suc n = omega arith in
    let e = bytes_at n s (suc p) (omega arith) in
    rw (u8_at s p (omega arith), e, drop-cons s p 0 (omega arith), z)

bytes_cut : (n : ℕ) (s : List ℕ) (p : ℕ) → p ≤ length s → length s < p + n → list_of d.u8 n (drop p s) ≡ refused malformed
unfolding list_of on
bytes_cut zero s p b h = absurd (omega arith)
bytes_cut (suc n) s p b h = go (λ i. bytes_cut n s (suc p) i (omega arith)) (leb (suc p) (length s)) refl
  where
    go : (suc p ≤ length s → list_of d.u8 n (drop (suc p) s) ≡ refused malformed) → (t : Bool) → leb (suc p) (length s) ≡ t → on (d.u8 (drop p s)) (λ x u. on (list_of d.u8 n u) (λ xs. pure (x ∷ xs))) ≡ refused malformed
    go rest true e = let i : suc p ≤ length s = leb-true _ _ e in rw (u8_at s p (omega arith), rest i)
    go rest false e = let i : length s < suc p = leb-false _ _ e in rw (u8_cut s p (omega arith))

-- the bytes of two names, compared one by one
same-agree : (n i : ℕ) (s : List ℕ) (a b : ℕ) → a + i + n ≤ length s → b + i + n ≤ length s → same_numbers (take n (drop (a + i) s)) (take n (drop (b + i) s)) ≡ agree n i s a b
unfolding same_numbers agree
same-agree zero i s a b h k = refl
same-agree (suc n) i s a b h k =
    let p : suc (a + i) ≡ a + suc i = omega arith in
    let q : suc (b + i) ≡ b + suc i = omega arith in
    rw (drop-cons s (a + i) 0 (omega arith), drop-cons s (b + i) 0 (omega arith), p, q, same-agree n (suc i) s a b (omega arith) (omega arith))

longer : (xs ys : List ℕ) → (length xs ≡ length ys → ⊥) → same_numbers xs ys ≡ false
unfolding same_numbers
longer [] [] h = absurd (h refl)
longer [] (y ∷ ys) h = refl
longer (x ∷ xs) [] h = refl
longer (x ∷ xs) (y ∷ ys) h = go (eqb x y) (longer xs ys (λ e. h (ap suc e)))
  where
    go : (t : Bool) → same_numbers xs ys ≡ false → (when t then same_numbers xs ys else false) ≡ false
    go true e = e
    go false e = refl

high : (n x y : ℕ) → eqb (n + 256 * x) (n + 256 * y) ≡ eqb x y
high n x y = go (eqb x y) refl
  where
    go : (t : Bool) → eqb x y ≡ t → eqb (n + 256 * x) (n + 256 * y) ≡ eqb x y
    go true e = let z : x ≡ y = eqb-true _ _ e in rw (e, eq-eqb (n + 256 * x) (n + 256 * y) (ap (λ (k : ℕ). n + 256 * k) z))
    go false e = rw (e, ne_eqb (n + 256 * x) (n + 256 * y) (λ z. eqb-false x y e (omega arith)))

agree_open : (s : List ℕ) (p q k : ℕ) → agree (suc k) 1 s p q ≡ (when eqb (get_or s (p + 1) 0) (get_or s (q + 1) 0) then agree k 2 s p q else false)
unfolding agree
agree_open s p q k = refl

-- n letters of each of two names, n being the length of both
alike_length : (s : List ℕ) (p q n : ℕ) → 1 ≤ n → n ≡ get_or s p 0 → n ≡ get_or s q 0 → suc p + n ≤ length s → suc q + n ≤ length s → same_numbers (take n (drop (suc p) s)) (take n (drop (suc q) s)) ≡ alike s p q
unfolding alike rest_alike le16
alike_length s p q n h a b i j =
    let op : p + 1 ≡ suc p = omega arith in
    let oq : q + 1 ≡ suc q = omega arith in
    let e : same_numbers (take n (drop (p + 1) s)) (take n (drop (q + 1) s)) ≡ agree n 1 s p q = same-agree n 1 s p q (omega arith) (omega arith) in
    rw (← a, ← b, high) (rw (op, oq) at e ∙ first n (n - 1) (omega arith))
  where
    first : (n k : ℕ) → n ≡ suc k → agree n 1 s p q ≡ (when eqb (get_or s (p + 1) 0) (get_or s (q + 1) 0) then agree k 2 s p q else false)
    first n k z = rw z (agree_open s p q k)

alike_lengths : (s : List ℕ) (p q n m : ℕ) → n ≡ m → 1 ≤ n → n ≡ get_or s p 0 → m ≡ get_or s q 0 → suc p + n ≤ length s → suc q + m ≤ length s → same_numbers (take n (drop (suc p) s)) (take m (drop (suc q) s)) ≡ alike s p q
alike_lengths s p q n m z h a b i j = rw (← z) (alike_length s p q n h a (z ∙ b) i (rw z j))

letters_there : (s : List ℕ) (p : ℕ) → suc p + get_or s p 0 ≤ length s → get_or s p 0 ≤ length (drop (suc p) s)
letters_there s p h = rw length-drop (omega arith)

pub alike_same : (s : List ℕ) (p q : ℕ) → Named s p → Named s q → same_numbers (spelled_at s p) (spelled_at s q) ≡ alike s p q
unfolding alike le16
alike_same s p q a b = go (eqb (get_or s p 0) (get_or s q 0)) refl
  where
    go : (t : Bool) → eqb (get_or s p 0) (get_or s q 0) ≡ t → same_numbers (spelled_at s p) (spelled_at s q) ≡ alike s p q
    go true e =
        let z : get_or s p 0 ≡ get_or s q 0 = eqb-true _ _ e in
        alike_lengths s p q (get_or s p 0) (get_or s q 0) z a.some refl refl a.inside b.inside
    go false e =
        let n : get_or s p 0 ≡ get_or s q 0 → ⊥ = eqb-false _ _ e in
        let x : length (take (get_or s p 0) (drop (suc p) s)) ≡ get_or s p 0 = length-take-le _ _ (letters_there s p a.inside) in
        let y : length (take (get_or s q 0) (drop (suc q) s)) ≡ get_or s q 0 = length-take-le _ _ (letters_there s q b.inside) in
        let u = a.few in
        let v = b.few in
        rw (longer (spelled_at s p) (spelled_at s q) (λ z. n (sym x ∙ z ∙ y)), ne_eqb (get_or s p 0 + 256 * get_or s (p + 1) 0) (get_or s q 0 + 256 * get_or s (q + 1) 0) (λ z. n (omega arith)))

-- the first i names, the last first
unfoldable pub taken_of : List ℕ → List ℕ → ℕ → List (List ℕ)
taken_of s t zero = []
taken_of s t (suc i) = spelled_at s (get_or t i 0) ∷ taken_of s t i

known_any : (s t : List ℕ) (p i : ℕ) → Named s p → ((j : ℕ) → j < i → Named s (get_or t j 0)) → any (same_numbers (spelled_at s p)) (taken_of s t i) ≡ known s t p i
unfolding taken_of any known
known_any s t p zero a n = refl
known_any s t p (suc i) a n = rw (alike_same s p (get_or t i 0) a (n i (omega arith)), known_any s t p i a (λ j h. n j (omega arith)))

taken_set : (s t : List ℕ) (i k v : ℕ) → i ≤ k → taken_of s (set t k v) i ≡ taken_of s t i
unfolding taken_of
taken_set s t zero k v h = refl
taken_set s t (suc i) k v h = rw (get_or-set_other t k i v 0 (λ e. absurd (omega arith)), taken_set s t i k v (omega arith))

-- what a spelling at p is
pub record Spelt (s : List ℕ) (p : ℕ) (a : List ℕ) (q v : ℕ) : Type 0 where
  pub is : a ≡ spelled_at s p
  pub next : q ≡ suc p + get_or s p 0
  pub named : Named s p

spelling-last : (s t : List ℕ) (i p v : ℕ) (x : Bool) → Named s p → ((j : ℕ) → j < i → Named s (get_or t j 0)) → leb (p + 1) (length s) ≡ true → eqb (get_or s p 0) 0 ≡ false → ltb (get_or s p 0) 25 ≡ true → leb (p + 1 + get_or s p 0) (length s) ≡ true → known s t p i ≡ x →
    Agrees s (Spelt s p) (d.spelling (taken_of s t i) (drop p s)) (spelling s t i (cursor p 0 v))
unfolding d.spelling spelling letters u8 skip number w.refuse on require refusal_number
spelling-last s t i p v true a n e1 e2 e3 e4 e5 =
    let f = a.few in
    let h = a.inside in
    stopped spelled_twice (p + 1 + get_or s p 0)
    (rw (u8_at s p (omega arith), le-leb 1 (get_or s p 0) a.some, le-leb (get_or s p 0) 24 f, bytes_at (get_or s p 0) s (suc p) h, known_any s t p i a n, e5)) (rw (e1, e3, e2, e4, e5))
spelling-last s t i p v false a n e1 e2 e3 e4 e5 =
    let f = a.few in
    let h = a.inside in
    let o : p + 1 + get_or s p 0 ≡ suc p + get_or s p 0 = omega arith in
    went (spelled_at s p) (suc p + get_or s p 0) 0 h (record { is = refl; next = refl; named = a })
    (rw (u8_at s p (omega arith), le-leb 1 (get_or s p 0) a.some, le-leb (get_or s p 0) 24 f, bytes_at (get_or s p 0) s (suc p) h, known_any s t p i a n, e5)) (rw (e1, e3, e2, e4, e5, o))

pub spelling_agrees : (s t : List ℕ) (i p v : ℕ) → p ≤ length s → ((j : ℕ) → j < i → Named s (get_or t j 0)) → Agrees s (Spelt s p) (d.spelling (taken_of s t i) (drop p s)) (spelling s t i (cursor p 0 v))
unfolding d.spelling spelling letters u8 skip number w.refuse on require refusal_number
spelling_agrees s t i p v b n = go (leb (p + 1) (length s)) (eqb (get_or s p 0) 0) (ltb (get_or s p 0) 25) (leb (p + 1 + get_or s p 0) (length s)) (known s t p i) refl refl refl refl refl
  where
    go : (x1 x2 x3 x4 x5 : Bool) → leb (p + 1) (length s) ≡ x1 → eqb (get_or s p 0) 0 ≡ x2 → ltb (get_or s p 0) 25 ≡ x3 → leb (p + 1 + get_or s p 0) (length s) ≡ x4 → known s t p i ≡ x5 →
        Agrees s (Spelt s p) (d.spelling (taken_of s t i) (drop p s)) (spelling s t i (cursor p 0 v))
    go false x2 x3 x4 x5 e1 e2 e3 e4 e5 =
        let h : length s < p + 1 = leb-false _ _ e1 in
        stopped malformed p (rw (u8_cut s p (omega arith))) (rw e1)
    go true x2 false x4 x5 e1 e2 e3 e4 e5 =
        let h : p + 1 ≤ length s = leb-true _ _ e1 in
        let k : 25 ≤ get_or s p 0 = ltb-false _ _ e3 in
        stopped outside_limit p (rw (u8_at s p (omega arith), le-leb 1 (get_or s p 0) (omega arith), lt-leb (get_or s p 0) 24 (omega arith))) (rw (e1, e3))
    go true true true x4 x5 e1 e2 e3 e4 e5 =
        let h : p + 1 ≤ length s = leb-true _ _ e1 in
        let k : get_or s p 0 ≡ 0 = eqb-true _ _ e2 in
        stopped outside_limit (p + 1) (rw (u8_at s p (omega arith), k)) (rw (e1, k))
    go true false true false x5 e1 e2 e3 e4 e5 =
        let h : p + 1 ≤ length s = leb-true _ _ e1 in
        let k : get_or s p 0 ≡ 0 → ⊥ = eqb-false _ _ e2 in
        let l : get_or s p 0 < 25 = ltb-true _ _ e3 in
        let m : length s < p + 1 + get_or s p 0 = leb-false _ _ e4 in
        stopped malformed (p + 1) (rw (u8_at s p (omega arith), le-leb 1 (get_or s p 0) (omega arith), le-leb (get_or s p 0) 24 (omega arith), bytes_cut (get_or s p 0) s (suc p) (omega arith) (omega arith))) (rw (e1, e3, e2, e4))
    go true false true true x5 e1 e2 e3 e4 e5 =
        let h : p + 1 ≤ length s = leb-true _ _ e1 in
        let k : get_or s p 0 ≡ 0 → ⊥ = eqb-false _ _ e2 in
        let l : get_or s p 0 < 25 = ltb-true _ _ e3 in
        let m : p + 1 + get_or s p 0 ≤ length s = leb-true _ _ e4 in
        let a : Named s p = record { some = omega arith; few = omega arith; inside = omega arith } in
        spelling-last s t i p v x5 a n e1 e2 e3 e4 e5

pub fills_finish : (s : List ℕ) {A B : Type 0} (P : A → ℕ → List ℕ → Type 0) (Q : B → ℕ → List ℕ → Type 0) (x : Parsed A) (g : A → B) (w : Reading) →
    Fills s P x w → ((a : A) (q : ℕ) (t : List ℕ) → P a q t → Q (g a) q t) → Fills s Q (on x (λ a. pure (g a))) w
unfolding on
fills_finish s P Q x g w (goes a q v t b p e h) k = goes (g a) q v t b (k a q t p) (rw e) h
fills_finish s P Q x g w (stops r q e h) k = stops r q (rw e) h

pub fills_weaken : (s : List ℕ) {A : Type 0} (P Q : A → ℕ → List ℕ → Type 0) (x : Parsed A) (w : Reading) → Fills s P x w → ((a : A) (q : ℕ) (t : List ℕ) → P a q t → Q a q t) → Fills s Q x w
fills_weaken s P Q x w (goes a q v t b p e h) k = goes a q v t b (k a q t p) e h
fills_weaken s P Q x w (stops r q e h) k = stops r q e h

pub place-fits : (s : List ℕ) (p : ℕ) → length s < 65536 → p ≤ length s → p % 65536 ≡ p
place-fits s p h b = omega arith

stuck_spelling : (s t : List ℕ) (i : ℕ) → Stuck (spelling s t i)
unfolding spelling
stuck_spelling s t i = record { stays = λ c h. let e = (stuck_u8 s 25 4).stays c h in rw (e, h) }

pub stays_name : (s : List ℕ) (i : ℕ) → Stays (name_at s i)
unfolding name_at
stays_name s i = record { stays = λ w h. (stuck_spelling s w.table i).stays w.cursor h }

-- names i up to i + n: what the table t' holds, that was t
pub record NamesHeld (s : List ℕ) (i n : ℕ) (t t' : List ℕ) (xs : List (List ℕ)) : Type 0 where
  pub count : length xs ≡ n
  pub spelt : (j : ℕ) → j < n → get_elem? xs j ≡ some (spelled_at s (get_or t' (i + j) 0))
  pub named : (j : ℕ) → j < n → Named s (get_or t' (i + j) 0)
  pub below : (j : ℕ) → j < i → get_or t' j 0 ≡ get_or t j 0
  pub above : (j : ℕ) → i + n ≤ j → get_or t' j 0 ≡ get_or t j 0
  pub size : length t' ≡ length t

names_more : (s : List ℕ) (i n p : ℕ) (t t' : List ℕ) (x : List ℕ) (xs : List (List ℕ)) → i < length t → x ≡ spelled_at s p → Named s p → NamesHeld s (suc i) n (set t i p) t' xs → NamesHeld s i (suc n) t t' (x ∷ xs)
names_more s i n p t t' x xs l e a h = record {
  count = ap suc h.count;
  spelt = each;
  named = every;
  below = λ j k. h.below j (omega arith) ∙ get_or-set_other t i j p 0 (λ z. absurd (omega arith));
  above = λ j k. h.above j (omega arith) ∙ get_or-set_other t i j p 0 (λ z. absurd (omega arith));
  size = h.size ∙ length-set t i p;
}
  where
    here : get_or t' i 0 ≡ p
    here = h.below i (omega arith) ∙ get_or-set_same t i p 0 l

    each : (j : ℕ) → j < suc n → get_elem? (x ∷ xs) j ≡ some (spelled_at s (get_or t' (i + j) 0))
    each zero k = rw (add-zero, here, e)
    each (suc j) k = let o : suc i + j ≡ i + suc j = omega arith in rw (← o) (h.spelt j (omega arith))

    every : (j : ℕ) → j < suc n → Named s (get_or t' (i + j) 0)
    every zero k = rw (add-zero, here) a
    every (suc j) k = let o : suc i + j ≡ i + suc j = omega arith in rw (← o) (h.named j (omega arith))

taken_next : (s t : List ℕ) (i p : ℕ) (x : List ℕ) → i < length t → x ≡ spelled_at s p → x ∷ taken_of s t i ≡ taken_of s (set t i p) (suc i)
unfolding taken_of
taken_next s t i p x l e = rw (get_or-set_same t i p 0 l, taken_set s t i i p (omega arith), e)

below_it : (j i : ℕ) → j < suc i → (j ≡ i → ⊥) → j < i
below_it j i h z = omega arith

named-next : (s t : List ℕ) (i p : ℕ) → i < length t → Named s p → ((j : ℕ) → j < i → Named s (get_or t j 0)) → (j : ℕ) → j < suc i → Named s (get_or (set t i p) j 0)
named-next s t i p l a n j h = go (eqb j i) refl
  where
    go : (x : Bool) → eqb j i ≡ x → Named s (get_or (set t i p) j 0)
    go true e = let z : j ≡ i = eqb-true _ _ e in rw (z, get_or-set_same t i p 0 l) a
    go false e = let z : j ≡ i → ⊥ = eqb-false _ _ e in rw (get_or-set_other t i j p 0 z) (n j (below_it j i h z))

pub names-fill : (s : List ℕ) → length s < 65536 → (n i p v : ℕ) (t : List ℕ) → i + n ≤ length t → p ≤ length s → ((j : ℕ) → j < i → Named s (get_or t j 0)) →
    Fills s (λ xs _ t'. NamesHeld s i n t t' xs) (d.spellings (taken_of s t i) n (drop p s)) (run n i (name_at s) (reading (cursor p 0 v) t))
unfolding d.spellings run name_at
names-fill s z zero i p v t l b a = goes [] p v t b (record { count = refl; spelt = λ j h. absurd (omega arith); named = λ j h. absurd (omega arith); below = λ j h. refl; above = λ j h. refl; size = refl }) refl refl
names-fill s z (suc n) i p v t l b a =
    fills_from s (Spelt s p) (λ xs _ t'. NamesHeld s i (suc n) t t' xs) (d.spelling (taken_of s t i) (drop p s)) _ (run n (suc i) (name_at s)) (spelling s t i (cursor p 0 v)) (set t i (p % 65536))
    (spelling_agrees s t i p v b a) (stays_run n (suc i) (name_at s) (stays_name s))
    (λ x q u c e.
    fills_finish s (λ xs _ t'. NamesHeld s (suc i) n (set t i p) t' xs) _ (d.spellings (x ∷ taken_of s t i) n (drop q s)) (λ xs. x ∷ xs) _
    (rw (place-fits s p z b, taken_next s t i p x (omega arith) e.is) (names-fill s z n (suc i) q u (set t i p) (rw length-set (omega arith)) c (named-next s t i p (omega arith) e.named a)))
    (λ xs r t' h. names_more s i n p t t' x xs (omega arith) e.is e.named h))
