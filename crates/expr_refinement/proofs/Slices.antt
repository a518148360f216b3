-- Slices of bits, as the definition has them.
use Prim.Native.Nat.{ℕ, ◌+◌, ◌*◌, ◌/◌, ◌%◌, ◌^◌, ◌≤◌}
use mathlib.Core.Path.{◌≡◌, refl}
use mathlib.Core.Bool.{true, false}
use mathlib.Core.List.{List}
use mathlib.Core.Option.{Option, none, some}
use native.Mathlib.Omega.{arith}
use lib.Dec.{leb, ltb}
use borrow.Author.Tests.{ltb-true, ltb-false, leb-true, leb-false, le-leb, lt-leb, lt-ltb, le-ltb, ne_eqb}
use Rattle.prelude.specs.Base.{or_else, is_some}
use Rattle.definition.specs.Refusals.{refusal_number, slice_past_end, shift_too_far}
use Rattle.definition.specs.Value.{Value}
use Rattle.definition.specs.Walk.{ExprValue, State, Env, Outcome, done}
use Rattle.definition.specs.Expressions as d
use Rattle.definition.specs.ActionList.{or_none}
use Rattle.list_values.specs.declared.value.Value.{Value as WordValue}
use Rattle.list_pushes.specs.declared.push.State.{State as WordState}
use Rattle.list_pushes.specs.declared.push.Env.{Env as WordEnv}
use Rattle.list_pushes.specs.Outcomes.{Read}
use Rattle.list_values.specs.Values.{absent}
use Rattle.list_pushes.specs.Pushes.{ReadOut, read}
use Rattle.list_refinement.specs.Encoding.{enc_v, Sound}
use Rattle.list_refinement.proofs.Seen.{yes, no, seen_read}
use Rattle.expr_scope.specs.declared.scope.ExprValue.{ExprValue as WordExpr}
use Rattle.expr_terms.specs.Outcomes.{Expr}
use Rattle.expr_terms.specs.Answers.{ExprOut, resolved, expr_of}
use Rattle.expr_reading.specs.Reading.{needed_bytes, read_slice}
use Rattle.expr_terms.specs.Slices.{low_bits, unbound_then, slice_read, const_bytes, slice_const, slice_range, slice_bits}
use Rattle.expr_refinement.proofs.Answers.{bind, bind_read, bind_unless, acts, temps, word, seen_expr, Refines, refines_done}
use Rattle.expr_refinement.proofs.Below.{Spare, Below}
use Rattle.expr_refinement.proofs.Reading.{to_of, read-operand, read_slice_lem}
use Rattle.expr_refinement.specs.Encoding.{enc_x, Small, SoundX, count, Stood}

-- a test of a sum against a limit, the other way round
pub not_less : (a b : ℕ) → ltb a b ≡ false → leb b a ≡ true
not_less a b h = le-leb b a (ltb-false a b h)

pub less : (a b : ℕ) → ltb a b ≡ true → leb b a ≡ false
less a b h = lt-leb b a (ltb-true a b h)

const-bytes : (z : Option ℕ) → Small z → const_bytes (or_none z) ≡ or_else 8 z
unfolding const_bytes or_none or_else
const-bytes none h = refl
const-bytes (some n) h = rw (ne_eqb n 65535 (λ q. omega arith)) (omega arith)

module _ (s t : List ℕ) (e : Env) (front tail rest : List ℕ) (we : WordEnv) (below : Below s t e front tail rest we) (spare : ℕ) (room : Spare spare tail) (next : ℕ) where
  abbrev A : State → List ℕ
  A st = acts e.section front tail rest st

  abbrev M : State → List ℕ
  M st = temps e.section front tail rest st

  abbrev W : State → WordState
  W st = word e.section front tail rest st

  -- an answer with what an expression means, and the position behind it
  abbrev pub Means : State → ExprOut → Outcome ExprValue → Type 0
  Means st x o = Refines e.section front tail rest spare st (λ (x : ExprValue). (enc_x x, next)) (SoundX e.section) (seen_expr x) o

  pub means-done : (st : State) → Stood e.section tail rest spare st → (x : ExprValue) → SoundX e.section (count st) x → Means st (resolved (Expr.Value next (enc_x x) (W st)) (A st) (M st)) (done x st)
  unfolding seen_expr
  means-done st f x h = refines_done e.section front tail rest spare st _ (SoundX e.section) x (enc_x x, next) f h refl

  slice_const_lem : (st : State) → Stood e.section tail rest spare st → (from bits n : ℕ) (size : Option ℕ) → Small size → from ≤ 16384 → bits ≤ 16384
      → Means st (resolved (slice_const n (or_none size) from bits next (W st)) (A st) (M st)) (d.slice_bits from bits (ExprValue.Const n size) e st)
  unfolding slice_const d.slice_bits
  slice_const_lem st f from bits n size h l j =
      let a : from % 65536 ≡ from = omega arith in
      let b : bits % 65536 ≡ bits = omega arith in
      rw (const-bytes size h, a, b)
      (bind_unless e.section front tail rest spare e st (λ (x : Expr). seen_expr (resolved x (A st) (M st))) (λ (x : ExprValue). (enc_x x, next)) (SoundX e.section) (ltb (8 * or_else 8 size) (from + bits)) slice_past_end _ (Expr.No 36) _ (unfold seen_expr refusal_number in refl)
      (λ q. bind_unless e.section front tail rest spare e st (λ (x : Expr). seen_expr (resolved x (A st) (M st))) (λ (x : ExprValue). (enc_x x, next)) (SoundX e.section) (leb 64 from) shift_too_far (Expr.Value next (WordExpr.Const (low_bits n from bits) (needed_bytes bits)) (W st)) (Expr.No 41) (λ _. λ e2 st2. done (ExprValue.Const (d.masked bits (n / 2 ^ from)) (some (needed_bytes bits))) st2) (unfold seen_expr refusal_number in refl)
      (λ r. unfold enc_x or_none or_else in means-done st f (ExprValue.Const (d.masked bits (n / 2 ^ from)) (some (needed_bytes bits))) (unfold or_else in omega arith))
      (ltb from 64) (λ r. lt-ltb from 64 (leb-false 64 from r)) (λ r. le-ltb from 64 (leb-true 64 from r)))
      (leb (from + bits) (8 * or_else 8 size)) (not_less (8 * or_else 8 size) (from + bits)) (less (8 * or_else 8 size) (from + bits)))

  slice_range_lem : (st : State) → Stood e.section tail rest spare st → (from bits : ℕ) (v : Value) (before whole : ℕ) → Sound e.section (count st) v → before + whole ≤ 16384 → from ≤ 16384 → bits ≤ 16384
      → Means st (resolved (slice_range (enc_v v) before whole from bits next (W st)) (A st) (M st)) (d.slice_bits from bits (ExprValue.BitRange v before whole) e st)
  unfolding slice_range d.slice_bits
  slice_range_lem st f from bits v before whole h k l j =
      let a : from % 65536 ≡ from = omega arith in
      let b : bits % 65536 ≡ bits = omega arith in
      let c : before % 65536 ≡ before = omega arith in
      rw (a, b, c)
      (bind_unless e.section front tail rest spare e st (λ (x : Expr). seen_expr (resolved x (A st) (M st))) (λ (x : ExprValue). (enc_x x, next)) (SoundX e.section) (ltb whole (from + bits)) slice_past_end (Expr.Value next (WordExpr.BitRange (record { base = enc_v v; bits = record { from = before + from; count = bits } })) (W st)) (Expr.No 36) (λ _. λ e2 st2. done (ExprValue.BitRange v (before + from) bits) st2) (unfold seen_expr refusal_number in refl)
      (λ q. let i = ltb-false whole (from + bits) q in unfold enc_x in means-done st f (ExprValue.BitRange v (before + from) bits) (h, omega arith))
      (leb (from + bits) whole) (not_less whole (from + bits)) (less whole (from + bits)))

  -- read first, then sliced
  slice_read_lem : (st : State) → Stood e.section tail rest spare st → (from bits : ℕ) (x : ExprValue) → SoundX e.section (count st) x → bits ≤ 16384
      → Means st (slice_read s t (A st) (M st) we (enc_x x) from bits next (W st)) (d.slice_read from bits x e st)
  unfolding slice_read d.slice_read seen_read expr_of unbound_then seen_expr
  slice_read_lem st f from bits x h l =
      bind_read e.section front tail rest spare spare e st (Sound e.section) seen_expr (λ (x : ExprValue). (enc_x x, next)) (SoundX e.section) _ enc_v _ _ _ _
      (read-operand s t e front tail rest we below spare room st f x h) (λ n a m. unfold seen_expr in refl)
      λ v st1 r p.
      bind e.section front tail rest spare spare e st1 enc_v (Sound e.section) seen_expr (λ (x : ExprValue). (enc_x x, next)) (SoundX e.section) (λ part. λ e2 st2. done (ExprValue.Unbound part) st2)
      (seen_read (read_slice s t (A st1) (M st1) we (enc_v v) from bits false absent (W st1))) (d.read_slice v from bits none e st1)
      (expr_of (read_slice s t (A st1) (M st1) we (enc_v v) from bits false absent (W st1)) (unbound_then next)) (λ u st2 a m. resolved (Expr.Value next (WordExpr.Unbound u) st2) a m)
      (unfold is_some to_of in read_slice_lem s t e front tail rest we below spare room st1 r.stood v from bits none p l tt)
      (λ u st2 q k. unfold enc_x in means-done st2 q.stood (ExprValue.Unbound u) k)
      (go (read_slice s t (A st1) (M st1) we (enc_v v) from bits false absent (W st1))) (stop (read_slice s t (A st1) (M st1) we (enc_v v) from bits false absent (W st1)))
    where
      go : (y : ReadOut) (v : WordValue) (st1 : WordState) (a m : List ℕ) → seen_read y ≡ yes v st1 a m → seen_expr (expr_of y (unbound_then next)) ≡ seen_expr (resolved (Expr.Value next (WordExpr.Unbound v) st1) a m)
      go (read (Read.Value u st2) b w) v st1 a m q = (let i : u ≡ v = cc in let j : st2 ≡ st1 = cc in let k : b ≡ a = cc in let l : w ≡ m = cc in rw (i, j, k, l))
      go (read (Read.No n) b w) v st1 a m q = cc

      stop : (y : ReadOut) (n : ℕ) → seen_read y ≡ no n → seen_expr (expr_of y (unbound_then next)) ≡ no n
      stop (read (Read.Value u st2) b w) n q = cc
      stop (read (Read.No k) b w) n q = (let i : k ≡ n = cc in rw i)

  pub slice_bits_lem : (st : State) → Stood e.section tail rest spare st → (from bits : ℕ) (x : ExprValue) → SoundX e.section (count st) x → from + bits ≤ 16384
      → Means st (slice_bits s t (A st) (M st) we (enc_x x) from bits next (W st)) (d.slice_bits from bits x e st)
  unfolding slice_bits enc_x d.slice_bits
  slice_bits_lem st f from bits (ExprValue.Local v) h l = unfold enc_x in means-done st f (ExprValue.BitRange v from bits) (h, l)
  slice_bits_lem st f from bits (ExprValue.Const n z) h l = slice_const_lem st f from bits n z h (omega arith) (omega arith)
  slice_bits_lem st f from bits (ExprValue.BitRange v before whole) h l = slice_range_lem st f from bits v before whole h.0 h.1 (omega arith) (omega arith)
  slice_bits_lem st f from bits (ExprValue.Unbound v) h l = slice_read_lem st f from bits (ExprValue.Unbound v) h (omega arith)
  slice_bits_lem st f from bits (ExprValue.Apply op n vs) h l = slice_read_lem st f from bits (ExprValue.Apply op n vs) h (omega arith)
  slice_bits_lem st f from bits (ExprValue.RamRef v z) h l = slice_read_lem st f from bits (ExprValue.RamRef v z) h (omega arith)
  slice_bits_lem st f from bits (ExprValue.RegisterRef v z) h l = slice_read_lem st f from bits (ExprValue.RegisterRef v z) h (omega arith)
  slice_bits_lem st f from bits (ExprValue.AddressOf v z) h l = slice_read_lem st f from bits (ExprValue.AddressOf v z) h (omega arith)
