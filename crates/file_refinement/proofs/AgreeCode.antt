-- Expressions and statements: the cursor's walk agrees with the definition's reading.
use mathlib.Core.Path.{◌≡◌, refl, ap}
use mathlib.Core.Bool.{Bool, true, false}
use mathlib.Core.List.{List, [], ◌∷◌, map}
use mathlib.Core.Option.{none, some}
use Prim.Native.Nat.{ℕ, zero, suc, ◌+◌, ◌≤◌, ◌<◌}
use native.Mathlib.Omega.{arith}
use lib.ListN.{length, get_or, drop, get_elem?, length-map}
use lib.Dec.{leb, ltb}
use borrow.Author.Tests.{ltb-true, ltb-false, leb-true, leb-false}
use Rattle.prelude.specs.Base.{when◌then◌else◌}
use Rattle.definition.specs.Operations.{operators}
use Rattle.definition.specs.Refusals.{refusal_number, malformed, outside_limit, names_nothing}
use Rattle.definition.specs.Ast.{PcodeExpr, Args, no_args, arg, JumpLabel, BranchDst, BranchHint, Statement}
use Rattle.definition.specs.SectionFile.{parsed, refused, on, Read, pure, refuse, choose, little_endian, up_to, naming, args_of, list_of}
use Rattle.definition.specs.SectionFile as d
use Rattle.file_syntax.specs.Cursors.{Cursor, cursor, number, u8, u16, skip}
use Rattle.access.specs.Loops.{run}
use Rattle.file_syntax.specs.Cursors as w
use Rattle.file_syntax.specs.Expressions.{counted, Kind, kind_of, after_code}
use Rattle.file_syntax.specs.Expressions as e
use Rattle.file_syntax.specs.Statements as t
use Rattle.file_refinement.proofs.Agree.{Agrees, went, stopped, Stuck, stuck_both, bind, finish, Any, Number, NumberOr, u8_at, u8_cut, up_to_lem, naming-below, stuck_u8, stuck_u16, stuck_u16or, stuck_skip, stuck_refuse, u16_agrees, u8_agrees, u16or_agrees, skip_agrees}

-- A code: which of the alternatives follows.

pub code_agrees : (s : List ℕ) {A : Type 0} (P : A → ℕ → ℕ → Type 0) (alternatives : List (Read A)) (f : Cursor → Cursor) (n p v : ℕ) → p ≤ length s → Stuck f →
    ((b : ℕ) → n ≤ b → get_elem? alternatives b ≡ none) →
    ((b : ℕ) → b < n → b ≡ get_or s p 0 → suc p ≤ length s → Agrees s P (choose (get_elem? alternatives b) (drop (suc p) s)) (f (cursor (suc p) 0 b))) →
    Agrees s P (d.code alternatives (drop p s)) (f (u8 s n 3 (cursor p 0 v)))
unfolding d.code on u8 number choose refusal_number
code_agrees s {A} P alternatives f n p v b st past k = go (leb (p + 1) (length s)) (ltb (get_or s p 0) n) refl refl
  where
    go : (t x : Bool) → leb (p + 1) (length s) ≡ t → ltb (get_or s p 0) n ≡ x →
        Agrees s P (on (d.u8 (drop p s)) (λ b. choose (get_elem? alternatives b))) (f (when leb (p + 1) (length s) then (when ltb (get_or s p 0) n then cursor (p + 1) 0 (get_or s p 0) else cursor p 3 0) else cursor p 3 0))
    go false x h g =
        let i : length s < p + 1 = leb-false _ _ h in
        stopped malformed p (rw (u8_cut s p (omega arith))) (rw h (st.stays _ refl))
    go true false h g =
        let i : p + 1 ≤ length s = leb-true _ _ h in
        let m : n ≤ get_or s p 0 = ltb-false _ _ g in
        stopped malformed p (rw (u8_at s p (omega arith), past (get_or s p 0) m)) (rw (h, g) (st.stays _ refl))
    go true true h g =
        let i : p + 1 ≤ length s = leb-true _ _ h in
        let o : p + 1 ≡ suc p = omega arith in
        rw (u8_at s p (omega arith), h, g, o) (k (get_or s p 0) (ltb-true _ _ g) refl (omega arith))

-- past the end of a list there is none
pub past : {A : Type 0} (l : List A) (b : ℕ) → length l ≤ b → get_elem? l b ≡ none
past [] b h = refl
past (x ∷ l) zero h = absurd (omega arith)
past (x ∷ l) (suc b) h = past l b (omega arith)

pick : {A : Type 0} (things : List A) (b : ℕ) → b < length things → (a : A) × (get_elem? things b ≡ some a) × ((u : List ℕ) → choose (get_elem? (map (λ (x : A). pure x) things) b) u ≡ parsed a u)
unfolding choose
pick [] b h = absurd (omega arith)
pick (x ∷ l) zero h = (x, refl, λ u. refl)
pick (x ∷ l) (suc b) h = pick l b (omega arith)

stuck_same : Stuck (λ c. c)
stuck_same = record { stays = λ c h. refl }

-- a code of something that has no fields
pub record OneOf {A : Type 0} (s : List ℕ) (things : List A) (p : ℕ) (a : A) (q v : ℕ) : Type 0 where
  pub is : get_elem? things (get_or s p 0) ≡ some a
  pub next : q ≡ suc p

pub one_of_agrees : (s : List ℕ) {A : Type 0} (things : List A) (p v : ℕ) → p ≤ length s → Agrees s (OneOf s things p) (d.one_of things (drop p s)) (u8 s (length things) 3 (cursor p 0 v))
unfolding d.one_of
one_of_agrees s {A} things p v b =
    code_agrees s (OneOf s things p) (map (λ (x : A). pure x) things) (λ c. c) (length things) p v b stuck_same
    (λ n h. past (map (λ (x : A). pure x) things) n (rw (length-map things (λ (x : A). pure x)) h))
    (λ n h e i. let k = pick things n h in went k.0 (suc p) n i (record { is = rw (← e) k.1; next = refl }) (k.2 _) refl)

-- The fields.

pub name_read : (s : List ℕ) (m q v : ℕ) → q ≤ length s → Agrees s (Number s 2 q m) (d.name m (drop q s)) (w.name s m (cursor q 0 v))
unfolding refusal_number
name_read s m q v b = u16_agrees s m q v (naming m) names_nothing (naming-below m) b

pub name_or_read : (s : List ℕ) (m q v : ℕ) → q ≤ length s → Agrees s (NumberOr s q m) (d.name_or m (drop q s)) (w.name_or s m (cursor q 0 v))
unfolding refusal_number
name_or_read s m q v b = u16or_agrees s m q v (naming m) names_nothing (naming-below m) b

pub limit_read : (s : List ℕ) (limit q v : ℕ) → q ≤ length s → Agrees s (Number s 2 q (suc limit)) (on (little_endian 2 (drop q s)) (up_to limit)) (u16 s (suc limit) 4 (cursor q 0 v))
unfolding refusal_number
limit_read s limit q v b = u16_agrees s (suc limit) q v (up_to limit) outside_limit (up_to_lem limit) b

pub size_or_read : (s : List ℕ) (q v : ℕ) → q ≤ length s → Agrees s (NumberOr s q 1025) (d.size_or (drop q s)) (w.size_or s (cursor q 0 v))
unfolding refusal_number
size_or_read s q v b = u16or_agrees s 1025 q v (up_to 1024) outside_limit (up_to_lem 1024) b

pub count-read : (s : List ℕ) (q v : ℕ) → q ≤ length s → Agrees s (Number s 1 q 9) (d.small_count (drop q s)) (w.small_count s (cursor q 0 v))
unfolding refusal_number
count-read s q v b = u8_agrees s 9 q v (up_to 8) outside_limit (up_to_lem 8) b

-- Lists.

pub stuck_run : (n i : ℕ) (f : Cursor → Cursor) → Stuck f → Stuck (run n i (λ _. f))
unfolding run
stuck_run zero i f st = stuck_same
stuck_run (suc n) i f st = stuck_both f (run n (suc i) (λ _. f)) st (stuck_run n (suc i) f st)

pub stuck_counted : (f : Cursor → Cursor) → Stuck f → Stuck (counted f)
unfolding counted
stuck_counted f st = record { stays = λ c h. (stuck_run c.val 0 f st).stays c h }

-- what reads an item where the definition does
pub record Reads (s : List ℕ) {A : Type 0} (P : A → ℕ → ℕ → Type 0) (r : Read A) (f : Cursor → Cursor) : Type 0 where
  pub stuck : Stuck f
  pub agrees : (q v : ℕ) → q ≤ length s → Agrees s P (r (drop q s)) (f (cursor q 0 v))

pub args_agrees : (s : List ℕ) (item : Read PcodeExpr) (f : Cursor → Cursor) → Reads s Any item f → (n i q v : ℕ) → q ≤ length s → Agrees s Any (args_of item n (drop q s)) (run n i (λ _. f) (cursor q 0 v))
unfolding args_of run
args_agrees s item f r zero i q v b = went no_args q v b tt refl refl
args_agrees s item f r (suc n) i q v b =
    bind s Any Any (item (drop q s)) _ (run n (suc i) (λ _. f)) (f (cursor q 0 v)) (r.agrees q v b) (stuck_run n (suc i) f r.stuck)
    (λ x q v b p. finish s Any Any (args_of item n (drop q s)) (arg x) _ (args_agrees s item f r n (suc i) q v b) (λ _ _ _ _. tt))

pub list_agrees : (s : List ℕ) {A : Type 0} (P : A → ℕ → ℕ → Type 0) (item : Read A) (f : Cursor → Cursor) → Reads s P item f → (n i q v : ℕ) → q ≤ length s → Agrees s (λ xs _ _. length xs ≡ n) (list_of item n (drop q s)) (run n i (λ _. f) (cursor q 0 v))
unfolding list_of run
list_agrees s P item f r zero i q v b = went [] q v b refl refl refl
list_agrees s P item f r (suc n) i q v b =
    bind s P _ (item (drop q s)) _ (run n (suc i) (λ _. f)) (f (cursor q 0 v)) (r.agrees q v b) (stuck_run n (suc i) f r.stuck)
    (λ x q v b p. finish s (λ xs _ _. length xs ≡ n) _ (list_of item n (drop q s)) (λ xs. x ∷ xs) _ (list_agrees s P item f r n (suc i) q v b) (λ _ _ _ e. ap suc e))

-- the count, and as many arguments
pub counted_agrees : (s : List ℕ) (item : Read PcodeExpr) (f : Cursor → Cursor) {B : Type 0} (g : Args → B) → Reads s Any item f → (q v : ℕ) → q ≤ length s →
    Agrees s Any (on (d.small_count (drop q s)) (λ n u. on (args_of item n u) (λ a. pure (g a)))) (counted f (w.small_count s (cursor q 0 v)))
unfolding counted
counted_agrees s item f g r q v b =
    bind s (Number s 1 q 9) Any (d.small_count (drop q s)) _ (counted f) (w.small_count s (cursor q 0 v)) (count-read s q v b) (stuck_counted f r.stuck)
    (λ n q v b p. finish s Any Any (args_of item n (drop q s)) g _ (rw p.same (args_agrees s item f r n 0 q n b)) (λ _ _ _ _. tt))

pub call_agrees : (s : List ℕ) (m : ℕ) (item : Read PcodeExpr) (f : Cursor → Cursor) {B : Type 0} (g : ℕ → Args → B) → Reads s Any item f → (q v : ℕ) → q ≤ length s →
    Agrees s Any (d.call m g item (drop q s)) (counted f (e.call s m (cursor q 0 v)))
unfolding d.call
call_agrees s m item f g r q v b =
    bind s (Number s 2 q m) Any (d.name m (drop q s)) _ (λ c. counted f (w.small_count s c)) (w.name s m (cursor q 0 v)) (name_read s m q v b)
    (stuck_both _ _ (stuck_u8 s 9 4) (stuck_counted f r.stuck))
    (λ n q v b p. counted_agrees s item f (g n) r q v b)

ops_read : (s : List ℕ) (q v : ℕ) → q ≤ length s → Agrees s (OneOf s d.pcode_ops q) (d.one_of d.pcode_ops (drop q s)) (u8 s 39 3 (cursor q 0 v))
unfolding d.pcode_ops operators
ops_read s q v b = one_of_agrees s d.pcode_ops q v b

-- Expressions.

stuck_after : (K : Kind) (s : List ℕ) (m : ℕ) (f : Cursor → Cursor) → Stuck f → Stuck (after_code K s m f)
unfolding after_code
stuck_after Kind.ident s m f st = stuck_u16 s m 5
stuck_after Kind.integer s m f st = stuck_skip s 8
stuck_after Kind.address s m f st = stuck_both _ _ (stuck_u16or s 1025 4) (stuck_u16 s m 5)
stuck_after Kind.truncate s m f st = stuck_both _ _ st (stuck_u16 s 1025 4)
stuck_after Kind.slice s m f st = stuck_both _ _ st (stuck_both _ _ (stuck_u16 s 8193 4) (stuck_u16 s 8193 4))
stuck_after Kind.operator s m f st = stuck_both _ _ (stuck_both _ _ st (stuck_u8 s 39 3)) st
stuck_after Kind.deref s m f st = stuck_both _ _ (stuck_both _ _ (stuck_u16or s m 5) (stuck_u16or s 1025 4)) st
stuck_after Kind.pool s m f st = stuck_both _ _ (stuck_u8 s 9 4) (stuck_counted f st)
stuck_after Kind.calling s m f st = stuck_both _ _ (stuck_both _ _ (stuck_u16 s m 5) (stuck_u8 s 9 4)) (stuck_counted f st)

stuck_by_code : (s : List ℕ) (m : ℕ) (f : Cursor → Cursor) → Stuck f → Stuck (λ k. after_code (kind_of k.val) s m f k)
stuck_by_code s m f st = record { stays = λ c h. (stuck_after (kind_of c.val) s m f st).stays c h }

pub stuck_expr : (depth : ℕ) (s : List ℕ) (m : ℕ) → Stuck (e.expr depth s m)
unfolding e.expr
stuck_expr zero s m = stuck_both _ _ (stuck_u8 s 9 3) (stuck_refuse 4)
stuck_expr (suc depth) s m = stuck_both _ (λ k. after_code (kind_of k.val) s m (e.expr depth s m) k) (stuck_u8 s 9 3) (stuck_by_code s m _ (stuck_expr depth s m))

bits-read : (s : List ℕ) {B : Type 0} (g : ℕ → ℕ → B) (q v : ℕ) → q ≤ length s → Agrees s Any (on (d.bit_number (drop q s)) (λ a u. on (d.bit_number u) (λ b. pure (g a b)))) (w.bits s (cursor q 0 v))
bits-read s g q v b =
    bind s (Number s 2 q 8193) Any (d.bit_number (drop q s)) _ (u16 s 8193 4) (u16 s 8193 4 (cursor q 0 v)) (limit_read s 8192 q v b) (stuck_u16 s 8193 4)
    (λ x q v b p. finish s (Number s 2 q 8193) Any (d.bit_number (drop q s)) (g x) _ (limit_read s 8192 q v b) (λ _ _ _ _. tt))

arm : (s : List ℕ) (m : ℕ) (item : Read PcodeExpr) (f : Cursor → Cursor) → Reads s Any item f → (b q : ℕ) → b < 9 → q ≤ length s → Agrees s Any (choose (get_elem? (d.exprs m item) b) (drop q s)) (after_code (kind_of b) s m f (cursor q 0 b))
unfolding choose d.exprs kind_of after_code
arm s m item f r zero q h b = finish s (Number s 2 q m) Any (d.name m (drop q s)) PcodeExpr.Ident _ (name_read s m q 0 b) (λ _ _ _ _. tt)
arm s m item f r (suc zero) q h b = finish s _ Any (d.u64 (drop q s)) PcodeExpr.Integer _ (skip_agrees s 8 q 1 b) (λ _ _ _ _. tt)
arm s m item f r (suc (suc zero)) q h b =
    bind s (NumberOr s q 1025) Any (d.size_or (drop q s)) _ (w.name s m) (w.size_or s (cursor q 0 2)) (size_or_read s q 2 b) (stuck_u16 s m 5)
    (λ z q v b p. finish s (Number s 2 q m) Any (d.name m (drop q s)) (PcodeExpr.AddressOf z) _ (name_read s m q v b) (λ _ _ _ _. tt))
arm s m item f r (suc (suc (suc zero))) q h b =
    bind s Any Any (item (drop q s)) _ (w.size s) (f (cursor q 0 3)) (r.agrees q 3 b) (stuck_u16 s 1025 4)
    (λ x q v b p. finish s (Number s 2 q 1025) Any (d.size (drop q s)) (PcodeExpr.Truncate x) _ (limit_read s 1024 q v b) (λ _ _ _ _. tt))
arm s m item f r (suc (suc (suc (suc zero)))) q h b =
    bind s Any Any (item (drop q s)) _ (w.bits s) (f (cursor q 0 4)) (r.agrees q 4 b) (stuck_both _ _ (stuck_u16 s 8193 4) (stuck_u16 s 8193 4))
    (λ x q v b p. bits-read s (PcodeExpr.SliceBits x) q v b)
arm s m item f r (suc (suc (suc (suc (suc zero))))) q h b =
    bind s Any Any (item (drop q s)) _ (λ c. f (u8 s 39 3 c)) (f (cursor q 0 5)) (r.agrees q 5 b) (stuck_both _ _ (stuck_u8 s 39 3) r.stuck)
    (λ x q v b p. bind s _ Any (d.one_of d.pcode_ops (drop q s)) _ f (u8 s 39 3 (cursor q 0 v)) (ops_read s q v b) r.stuck
    (λ o q v b p. finish s Any Any (item (drop q s)) (PcodeExpr.Op x o) _ (r.agrees q v b) (λ _ _ _ _. tt)))
arm s m item f r (suc (suc (suc (suc (suc (suc zero)))))) q h b =
    bind s (NumberOr s q m) Any (d.name_or m (drop q s)) _ (λ c. f (w.size_or s c)) (w.name_or s m (cursor q 0 6)) (name_or_read s m q 6 b) (stuck_both _ _ (stuck_u16or s 1025 4) r.stuck)
    (λ n q v b p. bind s (NumberOr s q 1025) Any (d.size_or (drop q s)) _ f (w.size_or s (cursor q 0 v)) (size_or_read s q v b) r.stuck
    (λ z q v b p. finish s Any Any (item (drop q s)) (PcodeExpr.Deref n z) _ (r.agrees q v b) (λ _ _ _ _. tt)))
arm s m item f r (suc (suc (suc (suc (suc (suc (suc zero))))))) q h b = counted_agrees s item f PcodeExpr.ConstantPoolRef r q 7 b
arm s m item f r (suc (suc (suc (suc (suc (suc (suc (suc zero)))))))) q h b = call_agrees s m item f PcodeExpr.Call r q 8 b
arm s m item f r (suc (suc (suc (suc (suc (suc (suc (suc (suc n))))))))) q h b = absurd (omega arith)

refuse-four : (q v : ℕ) → w.refuse 4 (cursor q 0 v) ≡ cursor q (refusal_number outside_limit) 0
unfolding w.refuse refusal_number
refuse-four q v = refl

deepest : (s : List ℕ) (l : List (Read PcodeExpr)) (b q : ℕ) → b < length l → (u : List ℕ) → choose (get_elem? (map (λ (_ : Read PcodeExpr). refuse {A = PcodeExpr} outside_limit) l) b) u ≡ refused outside_limit
unfolding choose
deepest s [] b q h u = absurd (omega arith)
deepest s (x ∷ l) zero q h u = refl
deepest s (x ∷ l) (suc b) q h u = deepest s l b q (omega arith) u

pub expr_agrees : (s : List ℕ) (m depth : ℕ) → Reads s Any (d.expr_within m depth) (e.expr depth s m)
unfolding d.expr_within e.expr d.exprs
expr_agrees s m zero = record {
  stuck = stuck_expr zero s m;
  agrees = λ q v b.
      code_agrees s Any (map (λ (_ : Read PcodeExpr). refuse outside_limit) (d.exprs m (refuse outside_limit))) (w.refuse 4) 9 q v b (stuck_refuse 4)
      (λ n h. past (map (λ (_ : Read PcodeExpr). refuse {A = PcodeExpr} outside_limit) (d.exprs m (refuse outside_limit))) n h)
      (λ n h z i. stopped outside_limit (suc q) (deepest s (d.exprs m (refuse outside_limit)) n q h _) (refuse-four (suc q) n));
}
expr_agrees s m (suc depth) = record {
  stuck = stuck_expr (suc depth) s m;
  agrees = λ q v b.
      code_agrees s Any (d.exprs m (d.expr_within m depth)) (λ k. after_code (kind_of k.val) s m (e.expr depth s m) k) 9 q v b (stuck_by_code s m _ (stuck_expr depth s m))
      (λ n h. past (d.exprs m (d.expr_within m depth)) n h)
      (λ n h z i. arm s m (d.expr_within m depth) (e.expr depth s m) (expr_agrees s m depth) n (suc q) h i);
}

-- Jump labels, branch destinations, hints.

stuck_jump : (K : t.Jump) (s : List ℕ) (m : ℕ) → Stuck (t.after_jump K s m)
unfolding t.after_jump
stuck_jump t.Jump.to_name s m = stuck_u16 s m 5
stuck_jump t.Jump.to_integer s m = stuck_both _ _ (stuck_skip s 8) (stuck_u16 s 1025 4)

stuck_jump-code : (s : List ℕ) (m : ℕ) → Stuck (λ k. t.after_jump (t.jump_of k.val) s m k)
stuck_jump-code s m = record { stays = λ c h. (stuck_jump (t.jump_of c.val) s m).stays c h }

labels : (m : ℕ) → List (Read JumpLabel)
labels m =
    (λ u. on (d.name m u) (λ n. pure (JumpLabel.Ident n)))
    ∷ (λ u. on (d.u64 u) (λ v u. on (d.size u) (λ z. pure (JumpLabel.Integer v z))))
    ∷ []

jump_arm : (s : List ℕ) (m b q : ℕ) → b < 2 → q ≤ length s → Agrees s Any (choose (get_elem? (labels m) b) (drop q s)) (t.after_jump (t.jump_of b) s m (cursor q 0 b))
unfolding choose labels t.jump_of t.after_jump
jump_arm s m zero q h b = finish s (Number s 2 q m) Any (d.name m (drop q s)) JumpLabel.Ident _ (name_read s m q 0 b) (λ _ _ _ _. tt)
jump_arm s m (suc zero) q h b =
    bind s _ Any (d.u64 (drop q s)) _ (w.size s) (skip s 8 (cursor q 0 1)) (skip_agrees s 8 q 1 b) (stuck_u16 s 1025 4)
    (λ x q v b p. finish s (Number s 2 q 1025) Any (d.size (drop q s)) (JumpLabel.Integer x) _ (limit_read s 1024 q v b) (λ _ _ _ _. tt))
jump_arm s m (suc (suc n)) q h b = absurd (omega arith)

pub jump_agrees : (s : List ℕ) (m : ℕ) → Reads s Any (d.jump_label m) (t.jump_label s m)
unfolding d.jump_label t.jump_label labels
jump_agrees s m = record {
  stuck = stuck_both _ (λ k. t.after_jump (t.jump_of k.val) s m k) (stuck_u8 s 2 3) (stuck_jump-code s m);
  agrees = λ q v b. code_agrees s Any (labels m) (λ k. t.after_jump (t.jump_of k.val) s m k) 2 q v b (stuck_jump-code s m) (λ n h. past (labels m) n h) (λ n h z i. jump_arm s m n (suc q) h i);
}

stuck_target : (K : t.Target) (s : List ℕ) (m : ℕ) → Stuck (t.after_target K s m)
unfolding t.after_target
stuck_target t.Target.direct s m = (jump_agrees s m).stuck
stuck_target t.Target.indirect s m = (jump_agrees s m).stuck
stuck_target t.Target.label s m = stuck_u16 s m 5

stuck_target_code : (s : List ℕ) (m : ℕ) → Stuck (λ k. t.after_target (t.target_of k.val) s m k)
stuck_target_code s m = record { stays = λ c h. (stuck_target (t.target_of c.val) s m).stays c h }

targets : (m : ℕ) → List (Read BranchDst)
targets m =
    (λ u. on (d.jump_label m u) (λ l. pure (BranchDst.Direct l)))
    ∷ (λ u. on (d.jump_label m u) (λ l. pure (BranchDst.Indirect l)))
    ∷ (λ u. on (d.name m u) (λ n. pure (BranchDst.Label n)))
    ∷ []

target_arm : (s : List ℕ) (m b q : ℕ) → b < 3 → q ≤ length s → Agrees s Any (choose (get_elem? (targets m) b) (drop q s)) (t.after_target (t.target_of b) s m (cursor q 0 b))
unfolding choose targets t.target_of t.after_target
target_arm s m zero q h b = finish s Any Any (d.jump_label m (drop q s)) BranchDst.Direct _ ((jump_agrees s m).agrees q 0 b) (λ _ _ _ _. tt)
target_arm s m (suc zero) q h b = finish s Any Any (d.jump_label m (drop q s)) BranchDst.Indirect _ ((jump_agrees s m).agrees q 1 b) (λ _ _ _ _. tt)
target_arm s m (suc (suc zero)) q h b = finish s (Number s 2 q m) Any (d.name m (drop q s)) BranchDst.Label _ (name_read s m q 2 b) (λ _ _ _ _. tt)
target_arm s m (suc (suc (suc n))) q h b = absurd (omega arith)

pub target_agrees : (s : List ℕ) (m : ℕ) → Reads s Any (d.branch_dst m) (t.branch_dst s m)
unfolding d.branch_dst t.branch_dst targets
target_agrees s m = record {
  stuck = stuck_both _ (λ k. t.after_target (t.target_of k.val) s m k) (stuck_u8 s 3 3) (stuck_target_code s m);
  agrees = λ q v b. code_agrees s Any (targets m) (λ k. t.after_target (t.target_of k.val) s m k) 3 q v b (stuck_target_code s m) (λ n h. past (targets m) n h) (λ n h z i. target_arm s m n (suc q) h i);
}

hint-read : (s : List ℕ) (m : ℕ) {B : Type 0} (g : BranchHint → B) (q v : ℕ) → q ≤ length s → Agrees s Any (on (d.branch_hint m (drop q s)) (λ h. pure (g h))) (u8 s 3 3 (cursor q 0 v))
unfolding d.branch_hint
hint-read s m g q v b = finish s _ Any (d.one_of (BranchHint.Jump ∷ BranchHint.Call ∷ BranchHint.Return ∷ []) (drop q s)) g _ (one_of_agrees s (BranchHint.Jump ∷ BranchHint.Call ∷ BranchHint.Return ∷ []) q v b) (λ _ _ _ _. tt)

-- Statements.

stuck_form : (K : t.Form) (s : List ℕ) (m : ℕ) → Stuck (t.after_form K s m)
unfolding t.after_form
stuck_form t.Form.unimplemented s m = stuck_same
stuck_form t.Form.export s m = stuck_expr 32 s m
stuck_form t.Form.local s m = stuck_both _ _ (stuck_u16 s m 5) (stuck_u16or s 1025 4)
stuck_form t.Form.assignment s m = stuck_both _ _ (stuck_both _ _ (stuck_u16 s m 5) (stuck_u16or s 1025 4)) (stuck_expr 32 s m)
stuck_form t.Form.build s m = stuck_u16 s m 5
stuck_form t.Form.copy s m = stuck_both _ _ (stuck_expr 32 s m) (stuck_expr 32 s m)
stuck_form t.Form.store s m = stuck_both _ _ (stuck_both _ _ (stuck_both _ _ (stuck_u16or s m 5) (stuck_u16or s 1025 4)) (stuck_expr 32 s m)) (stuck_expr 32 s m)
stuck_form t.Form.calling s m = stuck_both _ _ (stuck_both _ _ (stuck_u16 s m 5) (stuck_u8 s 9 4)) (stuck_counted _ (stuck_expr 32 s m))
stuck_form t.Form.branch s m = stuck_both _ _ (target_agrees s m).stuck (stuck_u8 s 3 3)
stuck_form t.Form.cond_branch s m = stuck_both _ _ (stuck_both _ _ (stuck_expr 32 s m) (target_agrees s m).stuck) (stuck_u8 s 3 3)
stuck_form t.Form.placed s m = stuck_u16 s m 5

stuck_form_code : (s : List ℕ) (m : ℕ) → Stuck (λ k. t.after_form (t.form_of k.val) s m k)
stuck_form_code s m = record { stays = λ c h. (stuck_form (t.form_of c.val) s m).stays c h }

statements : (m : ℕ) → List (Read Statement)
statements m =
    (λ u. parsed Statement.Unimplemented u)
    ∷ (λ u. on (d.expr m u) (λ e. pure (Statement.Export e)))
    ∷ (λ u. on (d.name m u) (λ n u. on (d.size_or u) (λ z. pure (Statement.Local n z))))
    ∷ (λ u. on (d.name m u) (λ n u. on (d.size_or u) (λ z u. on (d.expr m u) (λ e. pure (Statement.LocalAssignment n z e)))))
    ∷ (λ u. on (d.name m u) (λ n. pure (Statement.Build n)))
    ∷ (λ u. on (d.expr m u) (λ from u. on (d.expr m u) (λ to. pure (Statement.Copy from to))))
    ∷ (λ u. on (d.name_or m u) (λ n u. on (d.size_or u) (λ z u. on (d.expr m u) (λ pointer u. on (d.expr m u) (λ value. pure (Statement.Store n z pointer value))))))
    ∷ d.call m Statement.Call (d.expr m)
    ∷ (λ u. on (d.branch_dst m u) (λ x u. on (d.branch_hint m u) (λ h. pure (Statement.Branch x h))))
    ∷ (λ u. on (d.expr m u) (λ c u. on (d.branch_dst m u) (λ x u. on (d.branch_hint m u) (λ h. pure (Statement.CondBranch c x h)))))
    ∷ (λ u. on (d.name m u) (λ n. pure (Statement.Label n)))
    ∷ []

module _ (s : List ℕ) (m : ℕ) where
  expr-read : (q v : ℕ) → q ≤ length s → Agrees s Any (d.expr m (drop q s)) (e.expr 32 s m (cursor q 0 v))
  expr-read q v b = (expr_agrees s m 32).agrees q v b

  last-expr : {B : Type 0} (g : PcodeExpr → B) (q v : ℕ) → q ≤ length s → Agrees s Any (on (d.expr m (drop q s)) (λ x. pure (g x))) (e.expr 32 s m (cursor q 0 v))
  last-expr g q v b = finish s Any Any (d.expr m (drop q s)) g _ (expr-read q v b) (λ _ _ _ _. tt)

  two-exprs : {B : Type 0} (g : PcodeExpr → PcodeExpr → B) (q v : ℕ) → q ≤ length s → Agrees s Any (on (d.expr m (drop q s)) (λ x u. on (d.expr m u) (λ y. pure (g x y)))) (e.expr 32 s m (e.expr 32 s m (cursor q 0 v)))
  two-exprs g q v b = bind s Any Any (d.expr m (drop q s)) _ (e.expr 32 s m) (e.expr 32 s m (cursor q 0 v)) (expr-read q v b) (stuck_expr 32 s m) (λ x q v b p. last-expr (g x) q v b)

  last_name : {B : Type 0} (g : ℕ → B) (q v : ℕ) → q ≤ length s → Agrees s Any (on (d.name m (drop q s)) (λ x. pure (g x))) (w.name s m (cursor q 0 v))
  last_name g q v b = finish s (Number s 2 q m) Any (d.name m (drop q s)) g _ (name_read s m q v b) (λ _ _ _ _. tt)

  branch : {B : Type 0} (g : BranchDst → BranchHint → B) (q v : ℕ) → q ≤ length s → Agrees s Any (on (d.branch_dst m (drop q s)) (λ x u. on (d.branch_hint m u) (λ h. pure (g x h)))) (u8 s 3 3 (t.branch_dst s m (cursor q 0 v)))
  branch g q v b = bind s Any Any (d.branch_dst m (drop q s)) _ (u8 s 3 3) (t.branch_dst s m (cursor q 0 v)) ((target_agrees s m).agrees q v b) (stuck_u8 s 3 3) (λ x q v b p. hint-read s m (g x) q v b)

  form_arm : (b q : ℕ) → b < 11 → q ≤ length s → Agrees s Any (choose (get_elem? (statements m) b) (drop q s)) (t.after_form (t.form_of b) s m (cursor q 0 b))
  unfolding choose statements t.form_of t.after_form
  form_arm zero q h b = went Statement.Unimplemented q 0 b tt refl refl
  form_arm (suc zero) q h b = last-expr Statement.Export q 1 b
  form_arm (suc (suc zero)) q h b =
      bind s (Number s 2 q m) Any (d.name m (drop q s)) _ (w.size_or s) (w.name s m (cursor q 0 2)) (name_read s m q 2 b) (stuck_u16or s 1025 4)
      (λ n q v b p. finish s (NumberOr s q 1025) Any (d.size_or (drop q s)) (Statement.Local n) _ (size_or_read s q v b) (λ _ _ _ _. tt))
  form_arm (suc (suc (suc zero))) q h b =
      bind s (Number s 2 q m) Any (d.name m (drop q s)) _ (λ c. e.expr 32 s m (w.size_or s c)) (w.name s m (cursor q 0 3)) (name_read s m q 3 b) (stuck_both _ _ (stuck_u16or s 1025 4) (stuck_expr 32 s m))
      (λ n q v b p. bind s (NumberOr s q 1025) Any (d.size_or (drop q s)) _ (e.expr 32 s m) (w.size_or s (cursor q 0 v)) (size_or_read s q v b) (stuck_expr 32 s m)
      (λ z q v b p. last-expr (Statement.LocalAssignment n z) q v b))
  form_arm (suc (suc (suc (suc zero)))) q h b = last_name Statement.Build q 4 b
  form_arm (suc (suc (suc (suc (suc zero))))) q h b = two-exprs Statement.Copy q 5 b
  form_arm (suc (suc (suc (suc (suc (suc zero)))))) q h b =
      bind s (NumberOr s q m) Any (d.name_or m (drop q s)) _ (λ c. e.expr 32 s m (e.expr 32 s m (w.size_or s c))) (w.name_or s m (cursor q 0 6)) (name_or_read s m q 6 b) (stuck_both _ _ (stuck_u16or s 1025 4) (stuck_both _ _ (stuck_expr 32 s m) (stuck_expr 32 s m)))
      (λ n q v b p. bind s (NumberOr s q 1025) Any (d.size_or (drop q s)) _ (λ c. e.expr 32 s m (e.expr 32 s m c)) (w.size_or s (cursor q 0 v)) (size_or_read s q v b) (stuck_both _ _ (stuck_expr 32 s m) (stuck_expr 32 s m))
      (λ z q v b p. two-exprs (Statement.Store n z) q v b))
  form_arm (suc (suc (suc (suc (suc (suc (suc zero))))))) q h b = call_agrees s m (d.expr m) (e.expr 32 s m) Statement.Call (expr_agrees s m 32) q 7 b
  form_arm (suc (suc (suc (suc (suc (suc (suc (suc zero)))))))) q h b = branch Statement.Branch q 8 b
  form_arm (suc (suc (suc (suc (suc (suc (suc (suc (suc zero))))))))) q h b =
      bind s Any Any (d.expr m (drop q s)) _ (λ c. u8 s 3 3 (t.branch_dst s m c)) (e.expr 32 s m (cursor q 0 9)) (expr-read q 9 b) (stuck_both _ _ (target_agrees s m).stuck (stuck_u8 s 3 3))
      (λ c q v b p. branch (Statement.CondBranch c) q v b)
  form_arm (suc (suc (suc (suc (suc (suc (suc (suc (suc (suc zero)))))))))) q h b = last_name Statement.Label q 10 b
  form_arm (suc (suc (suc (suc (suc (suc (suc (suc (suc (suc (suc n))))))))))) q h b = absurd (omega arith)

pub statement_agrees : (s : List ℕ) (m : ℕ) → Reads s Any (d.statement m) (t.statement s m)
unfolding d.statement t.statement statements
statement_agrees s m = record {
  stuck = stuck_both _ (λ k. t.after_form (t.form_of k.val) s m k) (stuck_u8 s 11 3) (stuck_form_code s m);
  agrees = λ q v b. code_agrees s Any (statements m) (λ k. t.after_form (t.form_of k.val) s m k) 11 q v b (stuck_form_code s m) (λ n h. past (statements m) n h) (λ n h z i. form_arm s m n (suc q) h i);
}

pub body_agrees : (s : List ℕ) (m n q v : ℕ) → q ≤ length s → Agrees s (λ xs _ _. length xs ≡ n) (list_of (d.statement m) n (drop q s)) (t.body s m n (cursor q 0 v))
unfolding t.body
body_agrees s m n q v b = list_agrees s Any (d.statement m) (t.statement s m) (statement_agrees s m) n 0 q v b

pub stuck_body : (s : List ℕ) (m n : ℕ) → Stuck (t.body s m n)
unfolding t.body
stuck_body s m n = stuck_run n 0 (t.statement s m) (statement_agrees s m).stuck
