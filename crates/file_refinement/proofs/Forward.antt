-- Readings go forward: what is left after a reading is no longer than before, and a statement is at least one byte.
use mathlib.Core.Path.{◌≡◌, refl, ap}
use mathlib.Core.Bool.{Bool, true, false}
use mathlib.Core.List.{List, [], ◌∷◌, map}
use mathlib.Core.Option.{none, some}
use Prim.Native.Nat.{ℕ, zero, suc, ◌+◌, ◌≤◌, ◌<◌}
use native.Mathlib.Omega.{arith}
use lib.ListN.{length, length-drop, drop, get_elem?}
use lib.Dec.{eqb}
use Rattle.prelude.specs.Base.{when◌then◌else◌}
use Rattle.definition.specs.Refusals.{Refusal, malformed, outside_limit}
use Rattle.definition.specs.Ast.{PcodeExpr, Args, no_args, Statement}
use Rattle.definition.specs.SectionFile.{Parsed, parsed, refused, on, Read, ◌>>=◌, ◌>>◌, pure, refuse, require, u8, little_endian, up_to, naming, or_absent, choose, code, one_of, list_of, args_of}
use Rattle.definition.specs.SectionFile as d

never : {A : Type 0} {r : Refusal} {a : A} {t : List ℕ} → refused r ≡ parsed a t → ⊥
never {A} {r} {a} {t} h = let z : ◌≡◌ {A = ℕ} 0 1 = cc in omega (arith, z)

same_rest : {A : Type 0} {a b : A} {u v : List ℕ} → parsed a u ≡ parsed b v → u ≡ v
same_rest {A} {a} {b} {u} {v} h = cc

-- at least k bytes are read
pub record Takes (k : ℕ) {A : Type 0} (r : Read A) : Type 0 where
  pub takes : (u : List ℕ) (a : A) (v : List ℕ) → r u ≡ parsed a v → length v + k ≤ length u

on_takes : {A B : Type 0} (k : ℕ) (x : Parsed A) (f : A → Read B) (n : ℕ) → ((a : A) (v : List ℕ) → x ≡ parsed a v → length v ≤ n) → ((a : A) → Takes k (f a)) → (b : B) (v : List ℕ) → on x f ≡ parsed b v → length v + k ≤ n
unfolding on
on_takes k (parsed a w) f n h t b v e = let l = h a w refl in let m = (t a).takes w b v e in omega arith
on_takes k (refused r) f n h t b v e = absurd (never e)

bind_takes : {A B : Type 0} (k : ℕ) (m : Read A) (f : A → Read B) → Takes 0 m → ((a : A) → Takes k (f a)) → Takes k (m >>= f)
bind_takes k m f p q = record { takes = λ u b v e. on_takes k (m u) f (length u) (λ a w h. let l = p.takes u a w h in omega arith) q b v e }

then_takes : {B : Type 0} (k : ℕ) (m : Read (Unit {0})) (r : Read B) → Takes 0 m → Takes k r → Takes k (m >> r)
then_takes k m r p q = bind_takes k m (λ _. r) p (λ _. q)

pure_takes : {A : Type 0} (a : A) → Takes 0 (pure a)
pure_takes a = record { takes = λ u b v e. let z = same_rest e in let l : length u ≡ length v = ap length z in omega arith }

refuse_takes : {A : Type 0} (k : ℕ) (r : Refusal) → Takes k (refuse {A = A} r)
refuse_takes k r = record { takes = λ u b v e. absurd (never e) }

require_takes : (b : Bool) (r : Refusal) → Takes 0 (require b r)
unfolding require
require_takes true r = pure_takes tt
require_takes false r = refuse_takes 0 r

byte_takes : Takes 1 u8
unfolding u8
byte_takes = record { takes = go }
  where
    go : (u : List ℕ) (a : ℕ) (v : List ℕ) → u8 u ≡ parsed a v → length v + 1 ≤ length u
    go [] a v e = absurd (never e)
    go (x ∷ u) a v e = let z = same_rest e in let l : length u ≡ length v = ap length z in omega arith

any_takes : {A : Type 0} (k : ℕ) (r : Read A) → Takes k r → Takes 0 r
any_takes k r p = record { takes = λ u a v e. let l = p.takes u a v e in omega arith }

byte_any : Takes 0 u8
byte_any = any_takes 1 u8 byte_takes

little_takes : (n : ℕ) → Takes 0 (little_endian n)
unfolding little_endian
little_takes zero = pure_takes 0
little_takes (suc n) = bind_takes 0 u8 _ byte_any (λ low. bind_takes 0 (little_endian n) _ (little_takes n) (λ high. pure_takes _))

up_to_takes : (limit v : ℕ) → Takes 0 (up_to limit v)
unfolding up_to
up_to_takes limit v = then_takes 0 _ _ (require_takes _ _) (pure_takes v)

naming_takes : (count v : ℕ) → Takes 0 (naming count v)
unfolding naming
naming_takes count v = then_takes 0 _ _ (require_takes _ _) (pure_takes v)

absent_takes : (check : ℕ → Read ℕ) (v : ℕ) → ((w : ℕ) → Takes 0 (check w)) → Takes 0 (or_absent check v)
unfolding or_absent
absent_takes check v p = go (eqb v 65535)
  where
    go : (b : Bool) → Takes 0 (when b then pure none else (check v >>= (λ w. pure (some w))))
    go true = pure_takes none
    go false = bind_takes 0 (check v) _ (p v) (λ w. pure_takes (some w))

size_takes : Takes 0 d.size
size_takes = bind_takes 0 (little_endian 2) _ (little_takes 2) (up_to_takes 1024)

size_or_takes : Takes 0 d.size_or
size_or_takes = bind_takes 0 (little_endian 2) _ (little_takes 2) (λ v. absent_takes (up_to 1024) v (up_to_takes 1024))

bit_takes : Takes 0 d.bit_number
bit_takes = bind_takes 0 (little_endian 2) _ (little_takes 2) (up_to_takes 8192)

count_takes : Takes 0 d.small_count
count_takes = bind_takes 0 u8 _ byte_any (up_to_takes 8)

-- each of the alternatives
data All {A : Type 0} : List (Read A) → Type 0 where
  nil : All []
  also : {r : Read A} {l : List (Read A)} → Takes 0 r → All l → All (r ∷ l)

choose_takes : {A : Type 0} (l : List (Read A)) (b : ℕ) → All l → Takes 0 (choose (get_elem? l b))
unfolding choose
choose_takes [] b nil = refuse_takes 0 malformed
choose_takes (r ∷ l) zero (also p q) = p
choose_takes (r ∷ l) (suc b) (also p q) = choose_takes l b q

code_takes : {A : Type 0} (l : List (Read A)) → All l → Takes 1 (code l)
unfolding code on
code_takes {A} l p = record { takes = λ u a v e. go u (u8 u) refl a v e }
  where
    go : (u : List ℕ) (x : Parsed ℕ) → u8 u ≡ x → (a : A) (v : List ℕ) → on x (λ b. choose (get_elem? l b)) ≡ parsed a v → length v + 1 ≤ length u
    go u (parsed b w) f a v e = let i = byte_takes.takes u b w f in let j = (choose_takes l b p).takes w a v e in omega arith
    go u (refused r) f a v e = absurd (never e)

pures : {A : Type 0} (l : List A) → All (map (λ (x : A). pure x) l)
pures [] = nil
pures (x ∷ l) = also (pure_takes x) (pures l)

one_of_takes : {A : Type 0} (l : List A) → Takes 1 (one_of l)
unfolding one_of
one_of_takes {A} l = code_takes (map (λ (x : A). pure x) l) (pures l)

args_takes : (item : Read PcodeExpr) → Takes 0 item → (n : ℕ) → Takes 0 (args_of item n)
unfolding args_of
args_takes item p zero = pure_takes no_args
args_takes item p (suc n) = bind_takes 0 item _ p (λ x. bind_takes 0 (args_of item n) _ (args_takes item p n) (λ xs. pure_takes _))

list_takes_any : {A : Type 0} (item : Read A) → Takes 0 item → (n : ℕ) → Takes 0 (list_of item n)
unfolding list_of
list_takes_any item p zero = pure_takes []
list_takes_any item p (suc n) = bind_takes 0 item _ p (λ x. bind_takes 0 (list_of item n) _ (list_takes_any item p n) (λ xs. pure_takes _))

-- n items that are one byte or more are n bytes or more
pub list_takes : {A : Type 0} (item : Read A) → Takes 1 item → (n : ℕ) → Takes n (list_of item n)
unfolding list_of on
list_takes item p zero = pure_takes []
list_takes {A} item p (suc n) = record { takes = λ u a v e. first u (item u) refl a v (list_takes item p n) e }
  where
    rest : (x : A) (w : List ℕ) (y : Parsed (List A)) → list_of item n w ≡ y → (a : List A) (v : List ℕ) → Takes n (list_of item n) → on y (λ xs. pure (x ∷ xs)) ≡ parsed a v → length v + n ≤ length w
    rest x w (parsed xs z) f a v q e = let i = q.takes w xs z f in let j : length z ≡ length v = ap length (same_rest e) in omega arith
    rest x w (refused r) f a v q e = absurd (never e)

    first : (u : List ℕ) (x : Parsed A) → item u ≡ x → (a : List A) (v : List ℕ) → Takes n (list_of item n) → on x (λ x w. on (list_of item n w) (λ xs. pure (x ∷ xs))) ≡ parsed a v → length v + suc n ≤ length u
    first u (parsed x w) f a v q e = let i = p.takes u x w f in let j = rest x w (list_of item n w) refl a v q e in omega arith
    first u (refused r) f a v q e = absurd (never e)

module _ (m : ℕ) where
  name_takes : Takes 0 (d.name m)
  name_takes = bind_takes 0 (little_endian 2) _ (little_takes 2) (naming_takes m)

  name_or_takes : Takes 0 (d.name_or m)
  name_or_takes = bind_takes 0 (little_endian 2) _ (little_takes 2) (λ v. absent_takes (naming m) v (naming_takes m))

  call_takes : {A : Type 0} (f : ℕ → Args → A) (item : Read PcodeExpr) → Takes 0 item → Takes 0 (d.call m f item)
  unfolding d.call
  call_takes f item p = bind_takes 0 (d.name m) _ name_takes (λ n. bind_takes 0 d.small_count _ count_takes (λ c. bind_takes 0 (args_of item c) _ (args_takes item p c) (λ a. pure_takes _)))

  exprs_take : (part : Read PcodeExpr) → Takes 0 part → All (d.exprs m part)
  unfolding d.exprs
  exprs_take part p =
      also (bind_takes 0 (d.name m) _ name_takes (λ n. pure_takes _))
      (also (bind_takes 0 d.u64 _ (little_takes 8) (λ v. pure_takes _))
      (also (bind_takes 0 d.size_or _ size_or_takes (λ z. bind_takes 0 (d.name m) _ name_takes (λ n. pure_takes _)))
      (also (bind_takes 0 part _ p (λ e. bind_takes 0 d.size _ size_takes (λ z. pure_takes _)))
      (also (bind_takes 0 part _ p (λ e. bind_takes 0 d.bit_number _ bit_takes (λ a. bind_takes 0 d.bit_number _ bit_takes (λ b. pure_takes _))))
      (also (bind_takes 0 part _ p (λ a. bind_takes 0 (d.one_of d.pcode_ops) _ (any_takes 1 _ (one_of_takes d.pcode_ops)) (λ o. bind_takes 0 part _ p (λ b. pure_takes _))))
      (also (bind_takes 0 (d.name_or m) _ name_or_takes (λ n. bind_takes 0 d.size_or _ size_or_takes (λ z. bind_takes 0 part _ p (λ e. pure_takes _))))
      (also (bind_takes 0 d.small_count _ count_takes (λ c. bind_takes 0 (args_of part c) _ (args_takes part p c) (λ a. pure_takes _)))
      (also (call_takes PcodeExpr.Call part p) nil))))))))

  refusals : (l : List (Read PcodeExpr)) → All (map (λ (_ : Read PcodeExpr). refuse {A = PcodeExpr} outside_limit) l)
  refusals [] = nil
  refusals (x ∷ l) = also (refuse_takes 0 outside_limit) (refusals l)

  pub expr_takes : (depth : ℕ) → Takes 1 (d.expr_within m depth)
  unfolding d.expr_within
  expr_takes zero = code_takes _ (refusals (d.exprs m (refuse outside_limit)))
  expr_takes (suc depth) = code_takes (d.exprs m (d.expr_within m depth)) (exprs_take (d.expr_within m depth) (any_takes 1 _ (expr_takes depth)))

  expr_any : Takes 0 (d.expr m)
  expr_any = any_takes 1 _ (expr_takes 32)

  label_takes : Takes 0 (d.jump_label m)
  unfolding d.jump_label
  label_takes = any_takes 1 _ (code_takes _
      (also (bind_takes 0 (d.name m) _ name_takes (λ n. pure_takes _))
      (also (bind_takes 0 d.u64 _ (little_takes 8) (λ v. bind_takes 0 d.size _ size_takes (λ z. pure_takes _))) nil)))

  target_takes : Takes 0 (d.branch_dst m)
  unfolding d.branch_dst
  target_takes = any_takes 1 _ (code_takes _
      (also (bind_takes 0 (d.jump_label m) _ label_takes (λ l. pure_takes _))
      (also (bind_takes 0 (d.jump_label m) _ label_takes (λ l. pure_takes _))
      (also (bind_takes 0 (d.name m) _ name_takes (λ n. pure_takes _)) nil))))

  hint_takes : Takes 0 (d.branch_hint m)
  unfolding d.branch_hint
  hint_takes = any_takes 1 _ (one_of_takes _)

  pub statement_takes : Takes 1 (d.statement m)
  unfolding d.statement
  statement_takes = code_takes _
      (also (pure_takes Statement.Unimplemented)
      (also (bind_takes 0 (d.expr m) _ expr_any (λ e. pure_takes _))
      (also (bind_takes 0 (d.name m) _ name_takes (λ n. bind_takes 0 d.size_or _ size_or_takes (λ z. pure_takes _)))
      (also (bind_takes 0 (d.name m) _ name_takes (λ n. bind_takes 0 d.size_or _ size_or_takes (λ z. bind_takes 0 (d.expr m) _ expr_any (λ e. pure_takes _))))
      (also (bind_takes 0 (d.name m) _ name_takes (λ n. pure_takes _))
      (also (bind_takes 0 (d.expr m) _ expr_any (λ a. bind_takes 0 (d.expr m) _ expr_any (λ b. pure_takes _)))
      (also (bind_takes 0 (d.name_or m) _ name_or_takes (λ n. bind_takes 0 d.size_or _ size_or_takes (λ z. bind_takes 0 (d.expr m) _ expr_any (λ a. bind_takes 0 (d.expr m) _ expr_any (λ b. pure_takes _)))))
      (also (call_takes Statement.Call (d.expr m) expr_any)
      (also (bind_takes 0 (d.branch_dst m) _ target_takes (λ x. bind_takes 0 (d.branch_hint m) _ hint_takes (λ h. pure_takes _)))
      (also (bind_takes 0 (d.expr m) _ expr_any (λ c. bind_takes 0 (d.branch_dst m) _ target_takes (λ x. bind_takes 0 (d.branch_hint m) _ hint_takes (λ h. pure_takes _))))
      (also (bind_takes 0 (d.name m) _ name_takes (λ n. pure_takes _)) nil)))))))))))

  -- so a statement that stands at a position ends behind it
  pub statement_ends : (s : List ℕ) (pos next : ℕ) (x : Statement) → d.statement m (drop pos s) ≡ parsed x (drop next s) → pos ≤ length s → next ≤ length s → pos < next
  statement_ends s pos next x e i j = let h = statement_takes.takes (drop pos s) x (drop next s) e in omega (arith, length-drop pos s, length-drop next s)

  pub params_take : (n : ℕ) → Takes 0 (list_of (d.name m) n)
  params_take n = list_takes_any (d.name m) name_takes n

  -- a macro's parameters and its count of statements
  unfoldable pub head_of : Read (List ℕ × ℕ)
  head_of u = on (d.small_count u) (λ n u. on (list_of (d.name m) n u) (λ ps u. on (on (little_endian 2 u) (up_to 1024)) (λ c. pure (ps, c))))

  pub head_takes : Takes 0 head_of
  unfolding head_of
  head_takes = bind_takes 0 d.small_count _ count_takes (λ n. bind_takes 0 (list_of (d.name m) n) _ (params_take n) (λ ps. bind_takes 0 (little_endian 2 >>= up_to 1024) _ (bind_takes 0 (little_endian 2) _ (little_takes 2) (up_to_takes 1024)) (λ c. pure_takes (ps, c))))
