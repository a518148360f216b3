-- A reading that succeeded, taken apart at its positions in the stream: by the code at a position, what was read and where
-- each part stands. Everything is general in the stream s.
use mathlib.Core.Path.{◌≡◌, refl, sym, ◌∙◌, ap}
use mathlib.Core.Bool.{Bool, true, false}
use mathlib.Core.List.{List, [], ◌∷◌, map}
use mathlib.Core.Option.{Option, some}
use Prim.Native.Nat.{ℕ, zero, suc, ◌+◌, ◌*◌, ◌≤◌, ◌<◌}
use native.Mathlib.Omega.{arith}
use lib.ListN.{length, get_or, drop, get_elem?}
use lib.Dec.{leb, ltb}
use borrow.Author.Tests.{leb-true, leb-false, ltb-true, ltb-false}
use Rattle.definition.specs.Refusals.{Refusal, outside_limit, names_nothing}
use Rattle.definition.specs.Ast.{PcodeOp, PcodeExpr, Args, no_args, arg, JumpLabel, BranchDst, BranchHint, Statement, Macro}
use Rattle.definition.specs.SectionFile.{Parsed, parsed, refused, on, Read, pure, choose, little_endian, up_to, naming, or_absent, args_of, list_of}
use Rattle.definition.specs.SectionFile as d
use Rattle.access.specs.Le.{le16, le32, le64}
use Rattle.file_syntax.specs.Cursors.{Cursor}
use Rattle.file_refinement.specs.Holds.{absent_at}
use Rattle.file_refinement.proofs.Agree.{Agrees, went, stopped, Any, Number, NumberOr, Tests, le, le_16, u8_at, u8_cut, up_to_lem, naming-below, u16_agrees, u8_agrees, u16or_agrees, skip_agrees}
use Rattle.file_refinement.proofs.AgreeCode.{past, OneOf, one_of_agrees, args_agrees, list_agrees, expr_agrees, jump_agrees, target_agrees, statement_agrees}

never : {A : Type 0} {r : Refusal} {a : A} {t : List ℕ} → refused r ≡ parsed a t → ⊥
never {A} {r} {a} {t} h = let z : ◌≡◌ {A = ℕ} 0 1 = cc in omega (arith, z)

-- the first thing read, where it ends, and what was read from there
pub record Part {A B : Type 0} (s : List ℕ) (P : A → ℕ → ℕ → Type 0) (x : Parsed A) (g : A → Read B) (b : B) (t : List ℕ) : Type 0 where
  pub got : A
  pub at : ℕ
  pub val : ℕ
  pub inside : at ≤ length s
  pub post : P got at val
  pub first : x ≡ parsed got (drop at s)
  pub then : g got (drop at s) ≡ parsed b t

pub part : {A B : Type 0} (s : List ℕ) (P : A → ℕ → ℕ → Type 0) (x : Parsed A) (c : Cursor) (g : A → Read B) (b : B) (t : List ℕ) → Agrees s P x c → on x g ≡ parsed b t → Part s P x g b t
unfolding on
part s P x c g b t (went a q v i p e f) h = record { got = a; at = q; val = v; inside = i; post = p; first = e; then = rw e at h }
part s P x c g b t (stopped r q e f) h = absurd (never (rw e at h))

-- A tested u16 at p, the bytes after it at r.

pub record Then {B : Type 0} (s : List ℕ) (r lim v : ℕ) (g : ℕ → Read B) (b : B) (t : List ℕ) : Type 0 where
  pub below : v < lim
  pub inside : r ≤ length s
  pub then : g v (drop r s) ≡ parsed b t

u16_then : {B : Type 0} (s : List ℕ) (p r lim : ℕ) (check : ℕ → Read ℕ) (f : Refusal) → Tests check lim f → (g : ℕ → Read B) (b : B) (t : List ℕ) → p ≤ length s → r ≡ p + 2 → on (on (little_endian 2 (drop p s)) check) g ≡ parsed b t → Then s r lim (le16 s p) g b t
u16_then s p r lim check f test g b t i e h = closed (part s (Number s 2 p lim) _ _ g b t (u16_agrees s lim p 0 check f test i) h)
  where
    closed : Part s (Number s 2 p lim) (on (little_endian 2 (drop p s)) check) g b t → Then s r lim (le16 s p) g b t
    closed k =
        let z : k.got ≡ le16 s p = k.post.is ∙ le_16 s p in
        let y : k.at ≡ r = k.post.next ∙ sym e in
        record { below = rw z at k.post.below; inside = rw y at k.inside; then = rw (z, y) at k.then }

pub record ThenOr {B : Type 0} (s : List ℕ) (p r lim : ℕ) (g : Option ℕ → Read B) (b : B) (t : List ℕ) : Type 0 where
  pub below : (x : ℕ) → absent_at s p ≡ some x → x < lim
  pub inside : r ≤ length s
  pub then : g (absent_at s p) (drop r s) ≡ parsed b t

or_then : {B : Type 0} (s : List ℕ) (p r lim : ℕ) (check : ℕ → Read ℕ) (f : Refusal) → Tests check lim f → (g : Option ℕ → Read B) (b : B) (t : List ℕ) → p ≤ length s → r ≡ p + 2 → on (on (little_endian 2 (drop p s)) (or_absent check)) g ≡ parsed b t → ThenOr s p r lim g b t
or_then s p r lim check f test g b t i e h = closed (part s (NumberOr s p lim) _ _ g b t (u16or_agrees s lim p 0 check f test i) h)
  where
    closed : Part s (NumberOr s p lim) (on (little_endian 2 (drop p s)) (or_absent check)) g b t → ThenOr s p r lim g b t
    closed k =
        let z = k.post.absent in
        let y : k.at ≡ r = k.post.next ∙ sym e in
        record { below = λ x w. k.post.below x (z ∙ w); inside = rw y at k.inside; then = rw (z, y) at k.then }

u8_is : (s : List ℕ) (p : ℕ) → le 1 s p ≡ get_or s p 0
unfolding le
u8_is s p = omega arith

-- a count of arguments
count_then : {B : Type 0} (s : List ℕ) (p r : ℕ) (g : ℕ → Read B) (b : B) (t : List ℕ) → p ≤ length s → r ≡ p + 1 → on (d.small_count (drop p s)) g ≡ parsed b t → Then s r 9 (get_or s p 0) g b t
count_then s p r g b t i e h = closed (part s (Number s 1 p 9) _ _ g b t (u8_agrees s 9 p 0 (up_to 8) outside_limit (up_to_lem 8) i) h)
  where
    closed : Part s (Number s 1 p 9) (d.small_count (drop p s)) g b t → Then s r 9 (get_or s p 0) g b t
    closed k =
        let z : k.got ≡ get_or s p 0 = k.post.is ∙ u8_is s p in
        let y : k.at ≡ r = k.post.next ∙ sym e in
        record { below = rw z at k.post.below; inside = rw y at k.inside; then = rw (z, y) at k.then }

pub le_64 : (s : List ℕ) (p : ℕ) → le 8 s p ≡ le64 s p
unfolding le le64 le32 le16
le_64 s p =
    let a : p + 4 + 2 ≡ p + 6 = omega arith in
    let b1 : p + 1 ≡ suc p = omega arith in
    let b2 : p + 2 ≡ suc (suc p) = omega arith in
    let b3 : suc (suc p) + 1 ≡ suc (suc (suc p)) = omega arith in
    let b4 : p + 4 ≡ suc (suc (suc (suc p))) = omega arith in
    let b5 : suc (suc (suc (suc p))) + 1 ≡ suc (suc (suc (suc (suc p)))) = omega arith in
    let b6 : suc (suc (suc (suc p))) + 2 ≡ suc (suc (suc (suc (suc (suc p))))) = omega arith in
    let b7 : suc (suc (suc (suc (suc (suc p))))) + 1 ≡ suc (suc (suc (suc (suc (suc (suc p)))))) = omega arith in
    rw (b1, b2, b3, b4, b5, b6, b7) (omega arith)

-- an integer
pub record ThenWide {B : Type 0} (s : List ℕ) (p r : ℕ) (g : ℕ → Read B) (b : B) (t : List ℕ) : Type 0 where
  pub inside : r ≤ length s
  pub then : g (le64 s p) (drop r s) ≡ parsed b t

wide_then : {B : Type 0} (s : List ℕ) (p r : ℕ) (g : ℕ → Read B) (b : B) (t : List ℕ) → p ≤ length s → r ≡ p + 8 → on (d.u64 (drop p s)) g ≡ parsed b t → ThenWide s p r g b t
wide_then s p r g b t i e h = closed (part s (λ a q v. (a ≡ le 8 s p) × (q ≡ p + 8)) _ _ g b t (skip_agrees s 8 p 0 i) h)
  where
    closed : Part s (λ a q v. (a ≡ le 8 s p) × (q ≡ p + 8)) (d.u64 (drop p s)) g b t → ThenWide s p r g b t
    closed k =
        let z : k.got ≡ le64 s p = k.post.0 ∙ le_64 s p in
        let y : k.at ≡ r = k.post.1 ∙ sym e in
        record { inside = rw y at k.inside; then = rw (z, y) at k.then }

-- a code of something that has no fields
pub record ThenOne {A B : Type 0} (s : List ℕ) (things : List A) (p r : ℕ) (g : A → Read B) (b : B) (t : List ℕ) : Type 0 where
  pub got : A
  pub is : get_elem? things (get_or s p 0) ≡ some got
  pub inside : r ≤ length s
  pub then : g got (drop r s) ≡ parsed b t

one_then : {A B : Type 0} (s : List ℕ) (things : List A) (p r : ℕ) (g : A → Read B) (b : B) (t : List ℕ) → p ≤ length s → r ≡ p + 1 → on (d.one_of things (drop p s)) g ≡ parsed b t → ThenOne s things p r g b t
one_then {A} {B} s things p r g b t i e h = closed (part s (OneOf s things p) _ _ g b t (one_of_agrees s things p 0 i) h)
  where
    closed : Part s (OneOf s things p) (d.one_of things (drop p s)) g b t → ThenOne s things p r g b t
    closed k =
        let o : suc p ≡ p + 1 = omega arith in
        let y : k.at ≡ r = k.post.next ∙ o ∙ sym e in
        record { got = k.got; is = k.post.is; inside = rw y at k.inside; then = rw y at k.then }

pub record Last {B : Type 0} (x : B) (u : List ℕ) (b : B) (t : List ℕ) : Type 0 where
  pub is : b ≡ x
  pub rest : t ≡ u

last : {B : Type 0} (x : B) (u : List ℕ) (b : B) (t : List ℕ) → parsed x u ≡ parsed b t → Last x u b t
last x u b t h = record { is = cc; rest = cc }

-- the alternative of a code
pub record Coded {A : Type 0} (s : List ℕ) (p n : ℕ) (alternatives : List (Read A)) (x : A) (t : List ℕ) : Type 0 where
  pub inside : p + 1 ≤ length s
  pub then : choose (get_elem? alternatives n) (drop (p + 1) s) ≡ parsed x t

code_then : {A : Type 0} (s : List ℕ) (p n : ℕ) (alternatives : List (Read A)) (x : A) (t : List ℕ) → get_or s p 0 ≡ n → d.code alternatives (drop p s) ≡ parsed x t → Coded s p n alternatives x t
unfolding d.code on
code_then s p n alternatives x t e h = go (leb (suc p) (length s)) refl
  where
    go : (b : Bool) → leb (suc p) (length s) ≡ b → Coded s p n alternatives x t
    go true f =
        let i : suc p ≤ length s = leb-true _ _ f in
        let o : suc p ≡ p + 1 = omega arith in
        record { inside = omega arith; then = rw (u8_at s p (omega arith), e, o) at h }
    go false f = let i : length s < suc p = leb-false _ _ f in absurd (never (rw (u8_cut s p (omega arith)) at h))

-- Expressions, by their codes. `q` is where a part ends; a field that is not a part has its fixed place.

pub record IdentAt (s : List ℕ) (m depth p : ℕ) (x : PcodeExpr) (t : List ℕ) : Type 0 where
  pub name_below : le16 s (p + 1) < m
  pub is : x ≡ PcodeExpr.Ident (le16 s (p + 1))
  pub rest : t ≡ drop (p + 3) s

pub ident_at : (s : List ℕ) (m depth p : ℕ) (x : PcodeExpr) (t : List ℕ) → get_or s p 0 ≡ 0 → d.expr_within m (suc depth) (drop p s) ≡ parsed x t → IdentAt s m depth p x t
unfolding d.expr_within choose d.exprs d.call
ident_at s m depth p x t c h =
    let k = code_then s p 0 (d.exprs m (d.expr_within m depth)) x t c h in
    let k1 = u16_then s (p + 1) (p + 3) m (naming m) names_nothing (naming-below m) _ x t k.inside (omega arith) k.then in
    let e = last (PcodeExpr.Ident (le16 s (p + 1))) (drop (p + 3) s) x t k1.then in
    record { name_below = k1.below; is = e.is; rest = e.rest }

pub record IntegerAt (s : List ℕ) (m depth p : ℕ) (x : PcodeExpr) (t : List ℕ) : Type 0 where
  pub is : x ≡ PcodeExpr.Integer (le64 s (p + 1))
  pub rest : t ≡ drop (p + 9) s

pub integer_at : (s : List ℕ) (m depth p : ℕ) (x : PcodeExpr) (t : List ℕ) → get_or s p 0 ≡ 1 → d.expr_within m (suc depth) (drop p s) ≡ parsed x t → IntegerAt s m depth p x t
unfolding d.expr_within choose d.exprs d.call
integer_at s m depth p x t c h =
    let k = code_then s p 1 (d.exprs m (d.expr_within m depth)) x t c h in
    let k1 = wide_then s (p + 1) (p + 9) _ x t k.inside (omega arith) k.then in
    let e = last (PcodeExpr.Integer (le64 s (p + 1))) (drop (p + 9) s) x t k1.then in
    record { is = e.is; rest = e.rest }

pub record AddressOfAt (s : List ℕ) (m depth p : ℕ) (x : PcodeExpr) (t : List ℕ) : Type 0 where
  pub size_below : (y : ℕ) → absent_at s (p + 1) ≡ some y → y < 1025
  pub name_below : le16 s (p + 3) < m
  pub is : x ≡ PcodeExpr.AddressOf (absent_at s (p + 1)) (le16 s (p + 3))
  pub rest : t ≡ drop (p + 5) s

pub address_of_at : (s : List ℕ) (m depth p : ℕ) (x : PcodeExpr) (t : List ℕ) → get_or s p 0 ≡ 2 → d.expr_within m (suc depth) (drop p s) ≡ parsed x t → AddressOfAt s m depth p x t
unfolding d.expr_within choose d.exprs d.call
address_of_at s m depth p x t c h =
    let k = code_then s p 2 (d.exprs m (d.expr_within m depth)) x t c h in
    let k1 = or_then s (p + 1) (p + 3) 1025 (up_to 1024) outside_limit (up_to_lem 1024) _ x t k.inside (omega arith) k.then in
    let k2 = u16_then s (p + 3) (p + 5) m (naming m) names_nothing (naming-below m) _ x t k1.inside (omega arith) k1.then in
    let e = last (PcodeExpr.AddressOf (absent_at s (p + 1)) (le16 s (p + 3))) (drop (p + 5) s) x t k2.then in
    record { size_below = k1.below; name_below = k2.below; is = e.is; rest = e.rest }

pub record TruncateAt (s : List ℕ) (m depth p : ℕ) (x : PcodeExpr) (t : List ℕ) : Type 0 where
  pub value : PcodeExpr
  pub value_end : ℕ
  pub value_inside : value_end ≤ length s
  pub value_reads : d.expr_within m depth (drop (p + 1) s) ≡ parsed value (drop value_end s)
  pub size_below : le16 s value_end < 1025
  pub is : x ≡ PcodeExpr.Truncate value (le16 s value_end)
  pub rest : t ≡ drop (value_end + 2) s

pub truncate_at : (s : List ℕ) (m depth p : ℕ) (x : PcodeExpr) (t : List ℕ) → get_or s p 0 ≡ 3 → d.expr_within m (suc depth) (drop p s) ≡ parsed x t → TruncateAt s m depth p x t
unfolding d.expr_within choose d.exprs d.call
truncate_at s m depth p x t c h =
    let k = code_then s p 3 (d.exprs m (d.expr_within m depth)) x t c h in
    let k1 = part s Any (d.expr_within m depth (drop (p + 1) s)) _ _ x t ((expr_agrees s m depth).agrees (p + 1) 0 k.inside) k.then in
    let k2 = u16_then s k1.at (k1.at + 2) 1025 (up_to 1024) outside_limit (up_to_lem 1024) _ x t k1.inside (omega arith) k1.then in
    let e = last (PcodeExpr.Truncate k1.got (le16 s k1.at)) (drop (k1.at + 2) s) x t k2.then in
    record { value = k1.got; value_end = k1.at; value_inside = k1.inside; value_reads = k1.first; size_below = k2.below; is = e.is; rest = e.rest }

pub record SliceBitsAt (s : List ℕ) (m depth p : ℕ) (x : PcodeExpr) (t : List ℕ) : Type 0 where
  pub value : PcodeExpr
  pub value_end : ℕ
  pub value_inside : value_end ≤ length s
  pub value_reads : d.expr_within m depth (drop (p + 1) s) ≡ parsed value (drop value_end s)
  pub first_below : le16 s value_end < 8193
  pub count-below : le16 s (value_end + 2) < 8193
  pub is : x ≡ PcodeExpr.SliceBits value (le16 s value_end) (le16 s (value_end + 2))
  pub rest : t ≡ drop (value_end + 4) s

pub slice_bits_at : (s : List ℕ) (m depth p : ℕ) (x : PcodeExpr) (t : List ℕ) → get_or s p 0 ≡ 4 → d.expr_within m (suc depth) (drop p s) ≡ parsed x t → SliceBitsAt s m depth p x t
unfolding d.expr_within choose d.exprs d.call
slice_bits_at s m depth p x t c h =
    let k = code_then s p 4 (d.exprs m (d.expr_within m depth)) x t c h in
    let k1 = part s Any (d.expr_within m depth (drop (p + 1) s)) _ _ x t ((expr_agrees s m depth).agrees (p + 1) 0 k.inside) k.then in
    let k2 = u16_then s k1.at (k1.at + 2) 8193 (up_to 8192) outside_limit (up_to_lem 8192) _ x t k1.inside (omega arith) k1.then in
    let k3 = u16_then s (k1.at + 2) (k1.at + 4) 8193 (up_to 8192) outside_limit (up_to_lem 8192) _ x t k2.inside (omega arith) k2.then in
    let e = last (PcodeExpr.SliceBits k1.got (le16 s k1.at) (le16 s (k1.at + 2))) (drop (k1.at + 4) s) x t k3.then in
    record { value = k1.got; value_end = k1.at; value_inside = k1.inside; value_reads = k1.first; first_below = k2.below; count-below = k3.below; is = e.is; rest = e.rest }

pub record OpAt (s : List ℕ) (m depth p : ℕ) (x : PcodeExpr) (t : List ℕ) : Type 0 where
  pub a : PcodeExpr
  pub a_end : ℕ
  pub a_inside : a_end ≤ length s
  pub a_reads : d.expr_within m depth (drop (p + 1) s) ≡ parsed a (drop a_end s)
  pub op : PcodeOp
  pub op_is : get_elem? d.pcode_ops (get_or s a_end 0) ≡ some op
  pub b : PcodeExpr
  pub b_end : ℕ
  pub b_inside : b_end ≤ length s
  pub b_reads : d.expr_within m depth (drop (a_end + 1) s) ≡ parsed b (drop b_end s)
  pub is : x ≡ PcodeExpr.Op a op b
  pub rest : t ≡ drop b_end s

pub op_at : (s : List ℕ) (m depth p : ℕ) (x : PcodeExpr) (t : List ℕ) → get_or s p 0 ≡ 5 → d.expr_within m (suc depth) (drop p s) ≡ parsed x t → OpAt s m depth p x t
unfolding d.expr_within choose d.exprs d.call
op_at s m depth p x t c h =
    let k = code_then s p 5 (d.exprs m (d.expr_within m depth)) x t c h in
    let k1 = part s Any (d.expr_within m depth (drop (p + 1) s)) _ _ x t ((expr_agrees s m depth).agrees (p + 1) 0 k.inside) k.then in
    let k2 = one_then s d.pcode_ops k1.at (k1.at + 1) _ x t k1.inside (omega arith) k1.then in
    let k3 = part s Any (d.expr_within m depth (drop (k1.at + 1) s)) _ _ x t ((expr_agrees s m depth).agrees (k1.at + 1) 0 k2.inside) k2.then in
    let e = last (PcodeExpr.Op k1.got k2.got k3.got) (drop k3.at s) x t k3.then in
    record { a = k1.got; a_end = k1.at; a_inside = k1.inside; a_reads = k1.first; op = k2.got; op_is = k2.is; b = k3.got; b_end = k3.at; b_inside = k3.inside; b_reads = k3.first; is = e.is; rest = e.rest }

pub record DerefAt (s : List ℕ) (m depth p : ℕ) (x : PcodeExpr) (t : List ℕ) : Type 0 where
  pub space-below : (y : ℕ) → absent_at s (p + 1) ≡ some y → y < m
  pub size_below : (y : ℕ) → absent_at s (p + 3) ≡ some y → y < 1025
  pub pointer : PcodeExpr
  pub pointer-end : ℕ
  pub pointer-inside : pointer-end ≤ length s
  pub pointer-reads : d.expr_within m depth (drop (p + 5) s) ≡ parsed pointer (drop pointer-end s)
  pub is : x ≡ PcodeExpr.Deref (absent_at s (p + 1)) (absent_at s (p + 3)) pointer
  pub rest : t ≡ drop pointer-end s

pub deref_at : (s : List ℕ) (m depth p : ℕ) (x : PcodeExpr) (t : List ℕ) → get_or s p 0 ≡ 6 → d.expr_within m (suc depth) (drop p s) ≡ parsed x t → DerefAt s m depth p x t
unfolding d.expr_within choose d.exprs d.call
deref_at s m depth p x t c h =
    let k = code_then s p 6 (d.exprs m (d.expr_within m depth)) x t c h in
    let k1 = or_then s (p + 1) (p + 3) m (naming m) names_nothing (naming-below m) _ x t k.inside (omega arith) k.then in
    let k2 = or_then s (p + 3) (p + 5) 1025 (up_to 1024) outside_limit (up_to_lem 1024) _ x t k1.inside (omega arith) k1.then in
    let k3 = part s Any (d.expr_within m depth (drop (p + 5) s)) _ _ x t ((expr_agrees s m depth).agrees (p + 5) 0 k2.inside) k2.then in
    let e = last (PcodeExpr.Deref (absent_at s (p + 1)) (absent_at s (p + 3)) k3.got) (drop k3.at s) x t k3.then in
    record { space-below = k1.below; size_below = k2.below; pointer = k3.got; pointer-end = k3.at; pointer-inside = k3.inside; pointer-reads = k3.first; is = e.is; rest = e.rest }

pub record ConstantPoolRefAt (s : List ℕ) (m depth p : ℕ) (x : PcodeExpr) (t : List ℕ) : Type 0 where
  pub count-below : get_or s (p + 1) 0 < 9
  pub params : Args
  pub params-end : ℕ
  pub params-inside : params-end ≤ length s
  pub params-reads : args_of (d.expr_within m depth) (get_or s (p + 1) 0) (drop (p + 2) s) ≡ parsed params (drop params-end s)
  pub is : x ≡ PcodeExpr.ConstantPoolRef params
  pub rest : t ≡ drop params-end s

pub constant_pool_at : (s : List ℕ) (m depth p : ℕ) (x : PcodeExpr) (t : List ℕ) → get_or s p 0 ≡ 7 → d.expr_within m (suc depth) (drop p s) ≡ parsed x t → ConstantPoolRefAt s m depth p x t
unfolding d.expr_within choose d.exprs d.call
constant_pool_at s m depth p x t c h =
    let k = code_then s p 7 (d.exprs m (d.expr_within m depth)) x t c h in
    let k1 = count_then s (p + 1) (p + 2) _ x t k.inside (omega arith) k.then in
    let k1a = part s Any (args_of (d.expr_within m depth) (get_or s (p + 1) 0) (drop (p + 2) s)) _ _ x t (args_agrees s (d.expr_within m depth) _ (expr_agrees s m depth) (get_or s (p + 1) 0) 0 (p + 2) 0 k1.inside) k1.then in
    let e = last (PcodeExpr.ConstantPoolRef k1a.got) (drop k1a.at s) x t k1a.then in
    record { count-below = k1.below; params = k1a.got; params-end = k1a.at; params-inside = k1a.inside; params-reads = k1a.first; is = e.is; rest = e.rest }

pub record CallAt (s : List ℕ) (m depth p : ℕ) (x : PcodeExpr) (t : List ℕ) : Type 0 where
  pub name_below : le16 s (p + 1) < m
  pub count-below : get_or s (p + 3) 0 < 9
  pub args : Args
  pub args_end : ℕ
  pub args_inside : args_end ≤ length s
  pub args_reads : args_of (d.expr_within m depth) (get_or s (p + 3) 0) (drop (p + 4) s) ≡ parsed args (drop args_end s)
  pub is : x ≡ PcodeExpr.Call (le16 s (p + 1)) args
  pub rest : t ≡ drop args_end s

pub call_at : (s : List ℕ) (m depth p : ℕ) (x : PcodeExpr) (t : List ℕ) → get_or s p 0 ≡ 8 → d.expr_within m (suc depth) (drop p s) ≡ parsed x t → CallAt s m depth p x t
unfolding d.expr_within choose d.exprs d.call
call_at s m depth p x t c h =
    let k = code_then s p 8 (d.exprs m (d.expr_within m depth)) x t c h in
    let k1 = u16_then s (p + 1) (p + 3) m (naming m) names_nothing (naming-below m) _ x t k.inside (omega arith) k.then in
    let k2 = count_then s (p + 3) (p + 4) _ x t k1.inside (omega arith) k1.then in
    let k2a = part s Any (args_of (d.expr_within m depth) (get_or s (p + 3) 0) (drop (p + 4) s)) _ _ x t (args_agrees s (d.expr_within m depth) _ (expr_agrees s m depth) (get_or s (p + 3) 0) 0 (p + 4) 0 k2.inside) k2.then in
    let e = last (PcodeExpr.Call (le16 s (p + 1)) k2a.got) (drop k2a.at s) x t k2a.then in
    record { name_below = k1.below; count-below = k2.below; args = k2a.got; args_end = k2a.at; args_inside = k2a.inside; args_reads = k2a.first; is = e.is; rest = e.rest }

-- Jump labels and branch destinations.

pub record JumpNameAt (s : List ℕ) (m p : ℕ) (x : JumpLabel) (t : List ℕ) : Type 0 where
  pub name_below : le16 s (p + 1) < m
  pub is : x ≡ JumpLabel.Ident (le16 s (p + 1))
  pub rest : t ≡ drop (p + 3) s

pub jump_name_at : (s : List ℕ) (m p : ℕ) (x : JumpLabel) (t : List ℕ) → get_or s p 0 ≡ 0 → d.jump_label m (drop p s) ≡ parsed x t → JumpNameAt s m p x t
unfolding d.jump_label choose
jump_name_at s m p x t c h =
    let k = code_then s p 0 _ x t c h in
    let k1 = u16_then s (p + 1) (p + 3) m (naming m) names_nothing (naming-below m) _ x t k.inside (omega arith) k.then in
    let e = last (JumpLabel.Ident (le16 s (p + 1))) (drop (p + 3) s) x t k1.then in
    record { name_below = k1.below; is = e.is; rest = e.rest }

pub record JumpIntegerAt (s : List ℕ) (m p : ℕ) (x : JumpLabel) (t : List ℕ) : Type 0 where
  pub size_below : le16 s (p + 9) < 1025
  pub is : x ≡ JumpLabel.Integer (le64 s (p + 1)) (le16 s (p + 9))
  pub rest : t ≡ drop (p + 11) s

pub jump_integer_at : (s : List ℕ) (m p : ℕ) (x : JumpLabel) (t : List ℕ) → get_or s p 0 ≡ 1 → d.jump_label m (drop p s) ≡ parsed x t → JumpIntegerAt s m p x t
unfolding d.jump_label choose
jump_integer_at s m p x t c h =
    let k = code_then s p 1 _ x t c h in
    let k1 = wide_then s (p + 1) (p + 9) _ x t k.inside (omega arith) k.then in
    let k2 = u16_then s (p + 9) (p + 11) 1025 (up_to 1024) outside_limit (up_to_lem 1024) _ x t k1.inside (omega arith) k1.then in
    let e = last (JumpLabel.Integer (le64 s (p + 1)) (le16 s (p + 9))) (drop (p + 11) s) x t k2.then in
    record { size_below = k2.below; is = e.is; rest = e.rest }

pub record DirectAt (s : List ℕ) (m p : ℕ) (x : BranchDst) (t : List ℕ) : Type 0 where
  pub label : JumpLabel
  pub label-end : ℕ
  pub label_inside : label-end ≤ length s
  pub label-reads : d.jump_label m (drop (p + 1) s) ≡ parsed label (drop label-end s)
  pub is : x ≡ BranchDst.Direct label
  pub rest : t ≡ drop label-end s

pub direct_at : (s : List ℕ) (m p : ℕ) (x : BranchDst) (t : List ℕ) → get_or s p 0 ≡ 0 → d.branch_dst m (drop p s) ≡ parsed x t → DirectAt s m p x t
unfolding d.branch_dst choose
direct_at s m p x t c h =
    let k = code_then s p 0 _ x t c h in
    let k1 = part s Any (d.jump_label m (drop (p + 1) s)) _ _ x t ((jump_agrees s m).agrees (p + 1) 0 k.inside) k.then in
    let e = last (BranchDst.Direct k1.got) (drop k1.at s) x t k1.then in
    record { label = k1.got; label-end = k1.at; label_inside = k1.inside; label-reads = k1.first; is = e.is; rest = e.rest }

pub record IndirectAt (s : List ℕ) (m p : ℕ) (x : BranchDst) (t : List ℕ) : Type 0 where
  pub label : JumpLabel
  pub label-end : ℕ
  pub label_inside : label-end ≤ length s
  pub label-reads : d.jump_label m (drop (p + 1) s) ≡ parsed label (drop label-end s)
  pub is : x ≡ BranchDst.Indirect label
  pub rest : t ≡ drop label-end s

pub indirect_at : (s : List ℕ) (m p : ℕ) (x : BranchDst) (t : List ℕ) → get_or s p 0 ≡ 1 → d.branch_dst m (drop p s) ≡ parsed x t → IndirectAt s m p x t
unfolding d.branch_dst choose
indirect_at s m p x t c h =
    let k = code_then s p 1 _ x t c h in
    let k1 = part s Any (d.jump_label m (drop (p + 1) s)) _ _ x t ((jump_agrees s m).agrees (p + 1) 0 k.inside) k.then in
    let e = last (BranchDst.Indirect k1.got) (drop k1.at s) x t k1.then in
    record { label = k1.got; label-end = k1.at; label_inside = k1.inside; label-reads = k1.first; is = e.is; rest = e.rest }

pub record BranchLabelAt (s : List ℕ) (m p : ℕ) (x : BranchDst) (t : List ℕ) : Type 0 where
  pub name_below : le16 s (p + 1) < m
  pub is : x ≡ BranchDst.Label (le16 s (p + 1))
  pub rest : t ≡ drop (p + 3) s

pub branch-label_at : (s : List ℕ) (m p : ℕ) (x : BranchDst) (t : List ℕ) → get_or s p 0 ≡ 2 → d.branch_dst m (drop p s) ≡ parsed x t → BranchLabelAt s m p x t
unfolding d.branch_dst choose
branch-label_at s m p x t c h =
    let k = code_then s p 2 _ x t c h in
    let k1 = u16_then s (p + 1) (p + 3) m (naming m) names_nothing (naming-below m) _ x t k.inside (omega arith) k.then in
    let e = last (BranchDst.Label (le16 s (p + 1))) (drop (p + 3) s) x t k1.then in
    record { name_below = k1.below; is = e.is; rest = e.rest }

-- Statements.

unfoldable pub hints : List BranchHint
hints = BranchHint.Jump ∷ BranchHint.Call ∷ BranchHint.Return ∷ []

pub record UnimplementedAt (s : List ℕ) (m p : ℕ) (x : Statement) (t : List ℕ) : Type 0 where
  pub is : x ≡ Statement.Unimplemented
  pub rest : t ≡ drop (p + 1) s

pub unimplemented_at : (s : List ℕ) (m p : ℕ) (x : Statement) (t : List ℕ) → get_or s p 0 ≡ 0 → d.statement m (drop p s) ≡ parsed x t → UnimplementedAt s m p x t
unfolding d.statement choose d.call d.branch_hint hints
unimplemented_at s m p x t c h =
    let k = code_then s p 0 _ x t c h in
    let e = last (Statement.Unimplemented) (drop (p + 1) s) x t k.then in
    record { is = e.is; rest = e.rest }

pub record ExportAt (s : List ℕ) (m p : ℕ) (x : Statement) (t : List ℕ) : Type 0 where
  pub value : PcodeExpr
  pub value_end : ℕ
  pub value_inside : value_end ≤ length s
  pub value_reads : d.expr_within m 32 (drop (p + 1) s) ≡ parsed value (drop value_end s)
  pub is : x ≡ Statement.Export value
  pub rest : t ≡ drop value_end s

pub export_at : (s : List ℕ) (m p : ℕ) (x : Statement) (t : List ℕ) → get_or s p 0 ≡ 1 → d.statement m (drop p s) ≡ parsed x t → ExportAt s m p x t
unfolding d.statement choose d.call d.branch_hint hints
export_at s m p x t c h =
    let k = code_then s p 1 _ x t c h in
    let k1 = part s Any (d.expr_within m 32 (drop (p + 1) s)) _ _ x t ((expr_agrees s m 32).agrees (p + 1) 0 k.inside) k.then in
    let e = last (Statement.Export k1.got) (drop k1.at s) x t k1.then in
    record { value = k1.got; value_end = k1.at; value_inside = k1.inside; value_reads = k1.first; is = e.is; rest = e.rest }

pub record LocalAt (s : List ℕ) (m p : ℕ) (x : Statement) (t : List ℕ) : Type 0 where
  pub name_below : le16 s (p + 1) < m
  pub size_below : (y : ℕ) → absent_at s (p + 3) ≡ some y → y < 1025
  pub is : x ≡ Statement.Local (le16 s (p + 1)) (absent_at s (p + 3))
  pub rest : t ≡ drop (p + 5) s

pub local_at : (s : List ℕ) (m p : ℕ) (x : Statement) (t : List ℕ) → get_or s p 0 ≡ 2 → d.statement m (drop p s) ≡ parsed x t → LocalAt s m p x t
unfolding d.statement choose d.call d.branch_hint hints
local_at s m p x t c h =
    let k = code_then s p 2 _ x t c h in
    let k1 = u16_then s (p + 1) (p + 3) m (naming m) names_nothing (naming-below m) _ x t k.inside (omega arith) k.then in
    let k2 = or_then s (p + 3) (p + 5) 1025 (up_to 1024) outside_limit (up_to_lem 1024) _ x t k1.inside (omega arith) k1.then in
    let e = last (Statement.Local (le16 s (p + 1)) (absent_at s (p + 3))) (drop (p + 5) s) x t k2.then in
    record { name_below = k1.below; size_below = k2.below; is = e.is; rest = e.rest }

pub record LocalAssignmentAt (s : List ℕ) (m p : ℕ) (x : Statement) (t : List ℕ) : Type 0 where
  pub name_below : le16 s (p + 1) < m
  pub size_below : (y : ℕ) → absent_at s (p + 3) ≡ some y → y < 1025
  pub expr : PcodeExpr
  pub expr-end : ℕ
  pub expr-inside : expr-end ≤ length s
  pub expr-reads : d.expr_within m 32 (drop (p + 5) s) ≡ parsed expr (drop expr-end s)
  pub is : x ≡ Statement.LocalAssignment (le16 s (p + 1)) (absent_at s (p + 3)) expr
  pub rest : t ≡ drop expr-end s

pub local_assignment_at : (s : List ℕ) (m p : ℕ) (x : Statement) (t : List ℕ) → get_or s p 0 ≡ 3 → d.statement m (drop p s) ≡ parsed x t → LocalAssignmentAt s m p x t
unfolding d.statement choose d.call d.branch_hint hints
local_assignment_at s m p x t c h =
    let k = code_then s p 3 _ x t c h in
    let k1 = u16_then s (p + 1) (p + 3) m (naming m) names_nothing (naming-below m) _ x t k.inside (omega arith) k.then in
    let k2 = or_then s (p + 3) (p + 5) 1025 (up_to 1024) outside_limit (up_to_lem 1024) _ x t k1.inside (omega arith) k1.then in
    let k3 = part s Any (d.expr_within m 32 (drop (p + 5) s)) _ _ x t ((expr_agrees s m 32).agrees (p + 5) 0 k2.inside) k2.then in
    let e = last (Statement.LocalAssignment (le16 s (p + 1)) (absent_at s (p + 3)) k3.got) (drop k3.at s) x t k3.then in
    record { name_below = k1.below; size_below = k2.below; expr = k3.got; expr-end = k3.at; expr-inside = k3.inside; expr-reads = k3.first; is = e.is; rest = e.rest }

pub record BuildAt (s : List ℕ) (m p : ℕ) (x : Statement) (t : List ℕ) : Type 0 where
  pub name_below : le16 s (p + 1) < m
  pub is : x ≡ Statement.Build (le16 s (p + 1))
  pub rest : t ≡ drop (p + 3) s

pub build_at : (s : List ℕ) (m p : ℕ) (x : Statement) (t : List ℕ) → get_or s p 0 ≡ 4 → d.statement m (drop p s) ≡ parsed x t → BuildAt s m p x t
unfolding d.statement choose d.call d.branch_hint hints
build_at s m p x t c h =
    let k = code_then s p 4 _ x t c h in
    let k1 = u16_then s (p + 1) (p + 3) m (naming m) names_nothing (naming-below m) _ x t k.inside (omega arith) k.then in
    let e = last (Statement.Build (le16 s (p + 1))) (drop (p + 3) s) x t k1.then in
    record { name_below = k1.below; is = e.is; rest = e.rest }

pub record CopyAt (s : List ℕ) (m p : ℕ) (x : Statement) (t : List ℕ) : Type 0 where
  pub from : PcodeExpr
  pub from_end : ℕ
  pub from_inside : from_end ≤ length s
  pub from_reads : d.expr_within m 32 (drop (p + 1) s) ≡ parsed from (drop from_end s)
  pub to : PcodeExpr
  pub to_end : ℕ
  pub to_inside : to_end ≤ length s
  pub to_reads : d.expr_within m 32 (drop from_end s) ≡ parsed to (drop to_end s)
  pub is : x ≡ Statement.Copy from to
  pub rest : t ≡ drop to_end s

pub copy_at : (s : List ℕ) (m p : ℕ) (x : Statement) (t : List ℕ) → get_or s p 0 ≡ 5 → d.statement m (drop p s) ≡ parsed x t → CopyAt s m p x t
unfolding d.statement choose d.call d.branch_hint hints
copy_at s m p x t c h =
    let k = code_then s p 5 _ x t c h in
    let k1 = part s Any (d.expr_within m 32 (drop (p + 1) s)) _ _ x t ((expr_agrees s m 32).agrees (p + 1) 0 k.inside) k.then in
    let k2 = part s Any (d.expr_within m 32 (drop k1.at s)) _ _ x t ((expr_agrees s m 32).agrees k1.at 0 k1.inside) k1.then in
    let e = last (Statement.Copy k1.got k2.got) (drop k2.at s) x t k2.then in
    record { from = k1.got; from_end = k1.at; from_inside = k1.inside; from_reads = k1.first; to = k2.got; to_end = k2.at; to_inside = k2.inside; to_reads = k2.first; is = e.is; rest = e.rest }

pub record StoreAt (s : List ℕ) (m p : ℕ) (x : Statement) (t : List ℕ) : Type 0 where
  pub space-below : (y : ℕ) → absent_at s (p + 1) ≡ some y → y < m
  pub size_below : (y : ℕ) → absent_at s (p + 3) ≡ some y → y < 1025
  pub pointer : PcodeExpr
  pub pointer-end : ℕ
  pub pointer-inside : pointer-end ≤ length s
  pub pointer-reads : d.expr_within m 32 (drop (p + 5) s) ≡ parsed pointer (drop pointer-end s)
  pub value : PcodeExpr
  pub value_end : ℕ
  pub value_inside : value_end ≤ length s
  pub value_reads : d.expr_within m 32 (drop pointer-end s) ≡ parsed value (drop value_end s)
  pub is : x ≡ Statement.Store (absent_at s (p + 1)) (absent_at s (p + 3)) pointer value
  pub rest : t ≡ drop value_end s

pub store_at_lem : (s : List ℕ) (m p : ℕ) (x : Statement) (t : List ℕ) → get_or s p 0 ≡ 6 → d.statement m (drop p s) ≡ parsed x t → StoreAt s m p x t
unfolding d.statement choose d.call d.branch_hint hints
store_at_lem s m p x t c h =
    let k = code_then s p 6 _ x t c h in
    let k1 = or_then s (p + 1) (p + 3) m (naming m) names_nothing (naming-below m) _ x t k.inside (omega arith) k.then in
    let k2 = or_then s (p + 3) (p + 5) 1025 (up_to 1024) outside_limit (up_to_lem 1024) _ x t k1.inside (omega arith) k1.then in
    let k3 = part s Any (d.expr_within m 32 (drop (p + 5) s)) _ _ x t ((expr_agrees s m 32).agrees (p + 5) 0 k2.inside) k2.then in
    let k4 = part s Any (d.expr_within m 32 (drop k3.at s)) _ _ x t ((expr_agrees s m 32).agrees k3.at 0 k3.inside) k3.then in
    let e = last (Statement.Store (absent_at s (p + 1)) (absent_at s (p + 3)) k3.got k4.got) (drop k4.at s) x t k4.then in
    record { space-below = k1.below; size_below = k2.below; pointer = k3.got; pointer-end = k3.at; pointer-inside = k3.inside; pointer-reads = k3.first; value = k4.got; value_end = k4.at; value_inside = k4.inside; value_reads = k4.first; is = e.is; rest = e.rest }

pub record CallStatementAt (s : List ℕ) (m p : ℕ) (x : Statement) (t : List ℕ) : Type 0 where
  pub name_below : le16 s (p + 1) < m
  pub count-below : get_or s (p + 3) 0 < 9
  pub args : Args
  pub args_end : ℕ
  pub args_inside : args_end ≤ length s
  pub args_reads : args_of (d.expr_within m 32) (get_or s (p + 3) 0) (drop (p + 4) s) ≡ parsed args (drop args_end s)
  pub is : x ≡ Statement.Call (le16 s (p + 1)) args
  pub rest : t ≡ drop args_end s

pub call-statement_at : (s : List ℕ) (m p : ℕ) (x : Statement) (t : List ℕ) → get_or s p 0 ≡ 7 → d.statement m (drop p s) ≡ parsed x t → CallStatementAt s m p x t
unfolding d.statement choose d.call d.branch_hint hints
call-statement_at s m p x t c h =
    let k = code_then s p 7 _ x t c h in
    let k1 = u16_then s (p + 1) (p + 3) m (naming m) names_nothing (naming-below m) _ x t k.inside (omega arith) k.then in
    let k2 = count_then s (p + 3) (p + 4) _ x t k1.inside (omega arith) k1.then in
    let k2a = part s Any (args_of (d.expr_within m 32) (get_or s (p + 3) 0) (drop (p + 4) s)) _ _ x t (args_agrees s (d.expr_within m 32) _ (expr_agrees s m 32) (get_or s (p + 3) 0) 0 (p + 4) 0 k2.inside) k2.then in
    let e = last (Statement.Call (le16 s (p + 1)) k2a.got) (drop k2a.at s) x t k2a.then in
    record { name_below = k1.below; count-below = k2.below; args = k2a.got; args_end = k2a.at; args_inside = k2a.inside; args_reads = k2a.first; is = e.is; rest = e.rest }

pub record BranchAt (s : List ℕ) (m p : ℕ) (x : Statement) (t : List ℕ) : Type 0 where
  pub dst : BranchDst
  pub dst_end : ℕ
  pub dst_inside : dst_end ≤ length s
  pub dst_reads : d.branch_dst m (drop (p + 1) s) ≡ parsed dst (drop dst_end s)
  pub hint : BranchHint
  pub hint_is : get_elem? hints (get_or s dst_end 0) ≡ some hint
  pub is : x ≡ Statement.Branch dst hint
  pub rest : t ≡ drop (dst_end + 1) s

pub branch_at : (s : List ℕ) (m p : ℕ) (x : Statement) (t : List ℕ) → get_or s p 0 ≡ 8 → d.statement m (drop p s) ≡ parsed x t → BranchAt s m p x t
unfolding d.statement choose d.call d.branch_hint hints
branch_at s m p x t c h =
    let k = code_then s p 8 _ x t c h in
    let k1 = part s Any (d.branch_dst m (drop (p + 1) s)) _ _ x t ((target_agrees s m).agrees (p + 1) 0 k.inside) k.then in
    let k2 = one_then s hints k1.at (k1.at + 1) _ x t k1.inside (omega arith) k1.then in
    let e = last (Statement.Branch k1.got k2.got) (drop (k1.at + 1) s) x t k2.then in
    record { dst = k1.got; dst_end = k1.at; dst_inside = k1.inside; dst_reads = k1.first; hint = k2.got; hint_is = k2.is; is = e.is; rest = e.rest }

pub record CondBranchAt (s : List ℕ) (m p : ℕ) (x : Statement) (t : List ℕ) : Type 0 where
  pub cond : PcodeExpr
  pub cond_end : ℕ
  pub cond_inside : cond_end ≤ length s
  pub cond_reads : d.expr_within m 32 (drop (p + 1) s) ≡ parsed cond (drop cond_end s)
  pub dst : BranchDst
  pub dst_end : ℕ
  pub dst_inside : dst_end ≤ length s
  pub dst_reads : d.branch_dst m (drop cond_end s) ≡ parsed dst (drop dst_end s)
  pub hint : BranchHint
  pub hint_is : get_elem? hints (get_or s dst_end 0) ≡ some hint
  pub is : x ≡ Statement.CondBranch cond dst hint
  pub rest : t ≡ drop (dst_end + 1) s

pub cond_branch_at : (s : List ℕ) (m p : ℕ) (x : Statement) (t : List ℕ) → get_or s p 0 ≡ 9 → d.statement m (drop p s) ≡ parsed x t → CondBranchAt s m p x t
unfolding d.statement choose d.call d.branch_hint hints
cond_branch_at s m p x t c h =
    let k = code_then s p 9 _ x t c h in
    let k1 = part s Any (d.expr_within m 32 (drop (p + 1) s)) _ _ x t ((expr_agrees s m 32).agrees (p + 1) 0 k.inside) k.then in
    let k2 = part s Any (d.branch_dst m (drop k1.at s)) _ _ x t ((target_agrees s m).agrees k1.at 0 k1.inside) k1.then in
    let k3 = one_then s hints k2.at (k2.at + 1) _ x t k2.inside (omega arith) k2.then in
    let e = last (Statement.CondBranch k1.got k2.got k3.got) (drop (k2.at + 1) s) x t k3.then in
    record { cond = k1.got; cond_end = k1.at; cond_inside = k1.inside; cond_reads = k1.first; dst = k2.got; dst_end = k2.at; dst_inside = k2.inside; dst_reads = k2.first; hint = k3.got; hint_is = k3.is; is = e.is; rest = e.rest }

pub record LabelAt (s : List ℕ) (m p : ℕ) (x : Statement) (t : List ℕ) : Type 0 where
  pub name_below : le16 s (p + 1) < m
  pub is : x ≡ Statement.Label (le16 s (p + 1))
  pub rest : t ≡ drop (p + 3) s

pub label_at : (s : List ℕ) (m p : ℕ) (x : Statement) (t : List ℕ) → get_or s p 0 ≡ 10 → d.statement m (drop p s) ≡ parsed x t → LabelAt s m p x t
unfolding d.statement choose d.call d.branch_hint hints
label_at s m p x t c h =
    let k = code_then s p 10 _ x t c h in
    let k1 = u16_then s (p + 1) (p + 3) m (naming m) names_nothing (naming-below m) _ x t k.inside (omega arith) k.then in
    let e = last (Statement.Label (le16 s (p + 1))) (drop (p + 3) s) x t k1.then in
    record { name_below = k1.below; is = e.is; rest = e.rest }

-- Arguments and statements, one after another.

pub record ArgAt (s : List ℕ) (m depth n p : ℕ) (x : Args) (t : List ℕ) : Type 0 where
  pub first : PcodeExpr
  pub first_end : ℕ
  pub first_inside : first_end ≤ length s
  pub first_reads : d.expr_within m depth (drop p s) ≡ parsed first (drop first_end s)
  pub others : Args
  pub others-end : ℕ
  pub others-reads : args_of (d.expr_within m depth) n (drop first_end s) ≡ parsed others (drop others-end s)
  pub is : x ≡ arg first others
  pub rest : t ≡ drop others-end s

pub arg_at_lem : (s : List ℕ) (m depth n p : ℕ) (x : Args) (t : List ℕ) → p ≤ length s → args_of (d.expr_within m depth) (suc n) (drop p s) ≡ parsed x t → ArgAt s m depth n p x t
unfolding args_of
arg_at_lem s m depth n p x t i h =
    let k = part s Any (d.expr_within m depth (drop p s)) _ _ x t ((expr_agrees s m depth).agrees p 0 i) h in
    let l = part s Any (args_of (d.expr_within m depth) n (drop k.at s)) _ _ x t (args_agrees s (d.expr_within m depth) _ (expr_agrees s m depth) n 0 k.at 0 k.inside) k.then in
    let e = last (arg k.got l.got) (drop l.at s) x t l.then in
    record { first = k.got; first_end = k.at; first_inside = k.inside; first_reads = k.first; others = l.got; others-end = l.at; others-reads = l.first; is = e.is; rest = e.rest }

pub no_arg_at : (s : List ℕ) (m depth p : ℕ) (x : Args) (t : List ℕ) → args_of (d.expr_within m depth) 0 (drop p s) ≡ parsed x t → Last no_args (drop p s) x t
unfolding args_of
no_arg_at s m depth p x t h = last no_args (drop p s) x t h

pub record StatementAt (s : List ℕ) (m n p : ℕ) (x : List Statement) (t : List ℕ) : Type 0 where
  pub first : Statement
  pub first_end : ℕ
  pub first_inside : first_end ≤ length s
  pub first_reads : d.statement m (drop p s) ≡ parsed first (drop first_end s)
  pub others : List Statement
  pub others-end : ℕ
  pub others-reads : list_of (d.statement m) n (drop first_end s) ≡ parsed others (drop others-end s)
  pub is : x ≡ first ∷ others
  pub rest : t ≡ drop others-end s

pub statement_at : (s : List ℕ) (m n p : ℕ) (x : List Statement) (t : List ℕ) → p ≤ length s → list_of (d.statement m) (suc n) (drop p s) ≡ parsed x t → StatementAt s m n p x t
unfolding list_of
statement_at s m n p x t i h =
    let k = part s Any (d.statement m (drop p s)) _ _ x t ((statement_agrees s m).agrees p 0 i) h in
    let l = part s (λ xs _ _. length xs ≡ n) (list_of (d.statement m) n (drop k.at s)) _ _ x t (list_agrees s Any (d.statement m) _ (statement_agrees s m) n 0 k.at 0 k.inside) k.then in
    let e = last (k.got ∷ l.got) (drop l.at s) x t l.then in
    record { first = k.got; first_end = k.at; first_inside = k.inside; first_reads = k.first; others = l.got; others-end = l.at; others-reads = l.first; is = e.is; rest = e.rest }

-- What was read began with a known code, inside the stream; nothing is read at depth 0.

pub record Begun (s : List ℕ) (p n : ℕ) : Type 0 where
  pub known : get_or s p 0 < n
  pub inside : p < length s

begun : {A : Type 0} (s : List ℕ) (p n : ℕ) (alternatives : List (Read A)) (x : A) (t : List ℕ) → length alternatives ≡ n → d.code alternatives (drop p s) ≡ parsed x t → Begun s p n
unfolding choose
begun {A} s p n alternatives x t e h = go (ltb (get_or s p 0) n) refl (code_then s p (get_or s p 0) alternatives x t refl h)
  where
    go : (b : Bool) → ltb (get_or s p 0) n ≡ b → Coded s p (get_or s p 0) alternatives x t → Begun s p n
    go true f k = record { known = ltb-true _ _ f; inside = (let i = k.inside in omega arith) }
    go false f k = let i : n ≤ get_or s p 0 = ltb-false _ _ f in absurd (never (rw (past alternatives (get_or s p 0) (omega arith)) at k.then))

pub expr-begun : (s : List ℕ) (m depth p : ℕ) (x : PcodeExpr) (t : List ℕ) → d.expr_within m (suc depth) (drop p s) ≡ parsed x t → Begun s p 9
unfolding d.expr_within d.exprs
expr-begun s m depth p x t h = begun s p 9 (d.exprs m (d.expr_within m depth)) x t refl h

pub jump-begun : (s : List ℕ) (m p : ℕ) (x : JumpLabel) (t : List ℕ) → d.jump_label m (drop p s) ≡ parsed x t → Begun s p 2
unfolding d.jump_label
jump-begun s m p x t h = begun s p 2 _ x t refl h

pub branch_dst_begun : (s : List ℕ) (m p : ℕ) (x : BranchDst) (t : List ℕ) → d.branch_dst m (drop p s) ≡ parsed x t → Begun s p 3
unfolding d.branch_dst
branch_dst_begun s m p x t h = begun s p 3 _ x t refl h

pub statement-begun : (s : List ℕ) (m p : ℕ) (x : Statement) (t : List ℕ) → d.statement m (drop p s) ≡ parsed x t → Begun s p 11
unfolding d.statement
statement-begun s m p x t h = begun s p 11 _ x t refl h

too_deep : (l : List (Read PcodeExpr)) (b : ℕ) (u : List ℕ) (x : PcodeExpr) (t : List ℕ) → choose (get_elem? (map (λ (_ : Read PcodeExpr). d.refuse {A = PcodeExpr} outside_limit) l) b) u ≡ parsed x t → ⊥
unfolding choose
too_deep [] b u x t h = never h
too_deep (r ∷ l) zero u x t h = never h
too_deep (r ∷ l) (suc b) u x t h = too_deep l b u x t h

pub nothing_deeper : (s : List ℕ) (m p : ℕ) (x : PcodeExpr) (t : List ℕ) → d.expr_within m 0 (drop p s) ≡ parsed x t → ⊥
unfolding d.expr_within
nothing_deeper s m p x t h = too_deep (d.exprs m (d.refuse outside_limit)) (get_or s p 0) _ x t (code_then s p (get_or s p 0) _ x t refl h).then

-- Macros: the parameter count stands at p, then the parameters, the count of statements and the statements.

pub record NamesAt (s : List ℕ) (m n p : ℕ) (xs t : List ℕ) : Type 0 where
  pub count : length xs ≡ n
  pub element : (j : ℕ) → j < n → get_elem? xs j ≡ some (le16 s (p + 2 * j))
  pub below : (j : ℕ) → j < n → le16 s (p + 2 * j) < m
  pub inside : p + 2 * n ≤ length s
  pub rest : t ≡ drop (p + 2 * n) s

names_more : (s : List ℕ) (m n p : ℕ) (xs t : List ℕ) → le16 s p < m → NamesAt s m n (p + 2) xs t → NamesAt s m (suc n) p (le16 s p ∷ xs) t
names_more s m n p xs t l h = record {
  count = ap suc h.count;
  element = each;
  below = every;
  inside = (let i = h.inside in omega arith);
  rest = h.rest ∙ ap (λ (k : ℕ). drop k s) (far n);
}
  where
    far : (j : ℕ) → p + 2 + 2 * j ≡ p + 2 * suc j
    far j = omega arith

    each : (j : ℕ) → j < suc n → get_elem? (le16 s p ∷ xs) j ≡ some (le16 s (p + 2 * j))
    each zero k = let z : p + 2 * 0 ≡ p = omega arith in rw z
    each (suc j) k = rw (← far j) (h.element j (omega arith))

    every : (j : ℕ) → j < suc n → le16 s (p + 2 * j) < m
    every zero k = let z : p + 2 * 0 ≡ p = omega arith in rw z l
    every (suc j) k = rw (← far j) (h.below j (omega arith))

pub names_at : (s : List ℕ) (m n p : ℕ) (xs t : List ℕ) → p ≤ length s → list_of (d.name m) n (drop p s) ≡ parsed xs t → NamesAt s m n p xs t
unfolding list_of on
names_at s m zero p xs t i h =
    let e = last [] (drop p s) xs t h in
    let z : p ≡ p + 2 * 0 = omega arith in
    record { count = ap length e.is; element = λ j k. absurd (omega arith); below = λ j k. absurd (omega arith); inside = omega arith; rest = e.rest ∙ ap (λ (k : ℕ). drop k s) z }
names_at s m (suc n) p xs t i h = go (λ ys u g k. names_at s m n (p + 2) ys u g k) (u16_then s p (p + 2) m (naming m) names_nothing (naming-below m) _ xs t i refl h)
  where
    go : ((ys u : List ℕ) → p + 2 ≤ length s → list_of (d.name m) n (drop (p + 2) s) ≡ parsed ys u → NamesAt s m n (p + 2) ys u) →
        Then s (p + 2) m (le16 s p) (λ y u. on (list_of (d.name m) n u) (λ ys. pure (y ∷ ys))) xs t → NamesAt s m (suc n) p xs t
    go more k = read (list_of (d.name m) n (drop (p + 2) s)) refl k.then
      where
        read : (y : Parsed (List ℕ)) → list_of (d.name m) n (drop (p + 2) s) ≡ y → on y (λ ys. pure (le16 s p ∷ ys)) ≡ parsed xs t → NamesAt s m (suc n) p xs t
        read (parsed ys u) f g =
            let e = last (le16 s p ∷ ys) u xs t g in
            rw (e.is, e.rest) (names_more s m n p ys u k.below (more ys u k.inside f))
        read (refused r) f g = absurd (never g)

pub record MacroParts (s : List ℕ) (m own p : ℕ) (x : Macro) (t : List ℕ) : Type 0 where
  pub count-below : get_or s p 0 < 9
  pub params : NamesAt s m (get_or s p 0) (p + 1) x.params (drop (p + 1 + 2 * get_or s p 0) s)
  pub statements-below : le16 s (p + 1 + 2 * get_or s p 0) < 1025
  pub body-inside : p + 1 + 2 * get_or s p 0 + 2 ≤ length s
  pub body_reads : list_of (d.statement m) (le16 s (p + 1 + 2 * get_or s p 0)) (drop (p + 1 + 2 * get_or s p 0 + 2) s) ≡ parsed x.body t
  pub name : x.name ≡ own

pub macro_at_lem : (s : List ℕ) (m own p : ℕ) (x : Macro) (t : List ℕ) → p ≤ length s → d.macro m own (drop p s) ≡ parsed x t → MacroParts s m own p x t
unfolding d.macro on
macro_at_lem s m own p x t i h = counted (count_then s p (p + 1) _ x t i refl h)
  where
    bodied : (ps : List ℕ) → get_or s p 0 < 9 → NamesAt s m (get_or s p 0) (p + 1) ps (drop (p + 1 + 2 * get_or s p 0) s) →
        Then s (p + 1 + 2 * get_or s p 0 + 2) 1025 (le16 s (p + 1 + 2 * get_or s p 0)) (λ n u. on (list_of (d.statement m) n u) (λ b. pure (record { name = own; params = ps; body = b }))) x t → MacroParts s m own p x t
    bodied ps l a k = read (list_of (d.statement m) (le16 s (p + 1 + 2 * get_or s p 0)) (drop (p + 1 + 2 * get_or s p 0 + 2) s)) refl k.then
      where
        read : (y : Parsed (List Statement)) → list_of (d.statement m) (le16 s (p + 1 + 2 * get_or s p 0)) (drop (p + 1 + 2 * get_or s p 0 + 2) s) ≡ y → on y (λ b. pure (record { name = own; params = ps; body = b })) ≡ parsed x t → MacroParts s m own p x t
        read (parsed b u) f g =
            let e = last (record { name = own; params = ps; body = b }) u x t g in
            rw (e.is, e.rest) (record { count-below = l; params = a; statements-below = k.below; body-inside = k.inside; body_reads = f; name = refl })
        read (refused r) f g = absurd (never g)

    counted : Then s (p + 1) 9 (get_or s p 0) (λ n u. on (list_of (d.name m) n u) (λ ps u. on (on (little_endian 2 u) (up_to 1024)) (λ c u. on (list_of (d.statement m) c u) (λ b. pure (record { name = own; params = ps; body = b }))))) x t → MacroParts s m own p x t
    counted k = read (list_of (d.name m) (get_or s p 0) (drop (p + 1) s)) refl k.then
      where
        read : (y : Parsed (List ℕ)) → list_of (d.name m) (get_or s p 0) (drop (p + 1) s) ≡ y → on y (λ ps u. on (on (little_endian 2 u) (up_to 1024)) (λ c u. on (list_of (d.statement m) c u) (λ b. pure (record { name = own; params = ps; body = b })))) ≡ parsed x t → MacroParts s m own p x t
        read (parsed ps u) f g =
            let a = names_at s m (get_or s p 0) (p + 1) ps u k.inside f in
            bodied ps k.below (rw a.rest at a) (u16_then s (p + 1 + 2 * get_or s p 0) (p + 1 + 2 * get_or s p 0 + 2) 1025 (up_to 1024) outside_limit (up_to_lem 1024) _ x t a.inside refl (rw a.rest at g))
        read (refused r) f g = absurd (never g)
