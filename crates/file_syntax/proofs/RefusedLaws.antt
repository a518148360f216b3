-- A refused cursor passes each word unchanged.
use mathlib.Core.Path.{◌≡◌, refl, sym, ◌∙◌}
use mathlib.Core.Bool.{false}
use mathlib.Core.List.{List}
use Prim.Native.Nat.{ℕ, zero, suc, ◌+◌, ◌-◌, ◌<◌}
use native.Mathlib.Omega.{arith}
use lib.Dec.{eqb}
use borrow.Author.Tests.{ne_eqb}
use Rattle.std.specs.Int.NonZero.{non_zero_u64_get}
use Rattle.std.specs.declared.num.NonZeroU64.{NonZeroU64}
use Rattle.codes.specs.declared.refusal.Refusal.{Refusal}
use Rattle.codes.specs.Refusals as refusals
use Rattle.codes.proofs.Numbers.{number-positive}
use Rattle.access.specs.Loops.{run}
use Rattle.access.proofs.LoopLaws.{run_again, run_end}
use Rattle.file_syntax.specs.Cursors.{Cursor, cursor, refuse, number, u8, u16, u16or, skip}
use Rattle.file_syntax.specs.Expressions.{counted, Kind, kind_of, after_code, expr}
use Rattle.file_syntax.specs.Statements.{Jump, jump_of, after_jump, jump_label, Target, target_of, after_target, branch_dst, Form, form_of, after_form, statement, body}

abbrev pub refused : ℕ → NonZeroU64 → ℕ → Cursor
refused p r x = cursor p (non_zero_u64_get r) x

pub not_zero : (r : NonZeroU64) → eqb (non_zero_u64_get r) 0 ≡ false
not_zero r = ne_eqb (non_zero_u64_get r) 0 (λ z. omega (arith, r.ok))

-- a refusal of `codes` as such a number: with it, and 0 for x, the laws below are those of a `Refusal`
abbrev pub nonzero_number : Refusal → NonZeroU64
nonzero_number r = record { value = refusals.number r; ok = number-positive r }

pub refusal_number : (r : Refusal) → eqb (refusals.number r) 0 ≡ false
refusal_number r = not_zero (nonzero_number r)

pub number_passes : (v n len lim k p : ℕ) (r : NonZeroU64) (x : ℕ) → number v n len lim k (refused p r x) ≡ refused p r x
unfolding number
number_passes v n len lim k p r x = rw (not_zero r)

pub u8_passes : (s : List ℕ) (lim k p : ℕ) (r : NonZeroU64) (x : ℕ) → u8 s lim k (refused p r x) ≡ refused p r x
unfolding u8
u8_passes s lim k p r x = number_passes _ _ _ _ _ p r x

pub u16_passes : (s : List ℕ) (lim k p : ℕ) (r : NonZeroU64) (x : ℕ) → u16 s lim k (refused p r x) ≡ refused p r x
unfolding u16
u16_passes s lim k p r x = number_passes _ _ _ _ _ p r x

pub u16or_passes : (s : List ℕ) (lim k p : ℕ) (r : NonZeroU64) (x : ℕ) → u16or s lim k (refused p r x) ≡ refused p r x
unfolding u16or
u16or_passes s lim k p r x = number_passes _ _ _ _ _ p r x

pub skip_passes : (s : List ℕ) (n p : ℕ) (r : NonZeroU64) (x : ℕ) → skip s n (refused p r x) ≡ refused p r x
unfolding skip
skip_passes s n p r x = number_passes _ _ _ _ _ p r x

pub refuse_passes : (k p : ℕ) (r : NonZeroU64) (x : ℕ) → refuse k (refused p r x) ≡ refused p r x
unfolding refuse
refuse_passes k p r x = rw (not_zero r)

pub run_passes : {A : Type 0} (n i : ℕ) (f : A → A) (x : A) → f x ≡ x → run n i (λ _. f) x ≡ x
unfolding run
run_passes zero i f x e = refl
run_passes (suc n) i f x e = rw e (run_passes n (suc i) f x e)

-- where its number is 0 no part follows
pub counted_passes : (f : Cursor → Cursor) (p k : ℕ) → counted f (cursor p k 0) ≡ cursor p k 0
unfolding counted run
counted_passes f p k = refl

pub counted_refused : (f : Cursor → Cursor) (p : ℕ) (r : NonZeroU64) (x : ℕ) → f (refused p r x) ≡ refused p r x → counted f (refused p r x) ≡ refused p r x
unfolding counted
counted_refused f p r x e = run_passes x 0 f _ e

pub after_code_passes : (w : Kind) (s : List ℕ) (m : ℕ) (f : Cursor → Cursor) (p : ℕ) (r : NonZeroU64) (x : ℕ) → f (refused p r x) ≡ refused p r x → after_code w s m f (refused p r x) ≡ refused p r x
unfolding after_code
after_code_passes Kind.ident s m f p r x e = u16_passes s m 5 p r x
after_code_passes Kind.integer s m f p r x e = skip_passes s 8 p r x
after_code_passes Kind.address s m f p r x e = rw (u16or_passes s 1025 4 p r x) (u16_passes s m 5 p r x)
after_code_passes Kind.truncate s m f p r x e = rw e (u16_passes s 1025 4 p r x)
after_code_passes Kind.slice s m f p r x e = rw (e, u16_passes s 8193 4 p r x) (u16_passes s 8193 4 p r x)
after_code_passes Kind.operator s m f p r x e = rw (e, u8_passes s 39 3 p r x) e
after_code_passes Kind.deref s m f p r x e = rw (u16or_passes s m 5 p r x, u16or_passes s 1025 4 p r x) e
after_code_passes Kind.pool s m f p r x e = rw (u8_passes s 9 4 p r x) (counted_refused f p r x e)
after_code_passes Kind.calling s m f p r x e = rw (u16_passes s m 5 p r x, u8_passes s 9 4 p r x) (counted_refused f p r x e)

pub expr_passes : (d : ℕ) (s : List ℕ) (m p : ℕ) (r : NonZeroU64) (x : ℕ) → expr d s m (refused p r x) ≡ refused p r x
unfolding expr
expr_passes zero s m p r x = rw (u8_passes s 9 3 p r x) (refuse_passes 4 p r x)
expr_passes (suc d) s m p r x = rw (u8_passes s 9 3 p r x) (after_code_passes (kind_of x) s m (expr d s m) p r x (expr_passes d s m p r x))

pub exprs_passes : (d : ℕ) (s : List ℕ) (m p : ℕ) (r : NonZeroU64) (x : ℕ) → counted (expr d s m) (refused p r x) ≡ refused p r x
exprs_passes d s m p r x = counted_refused (expr d s m) p r x (expr_passes d s m p r x)

after_jump_passes : (w : Jump) (s : List ℕ) (m p : ℕ) (r : NonZeroU64) (x : ℕ) → after_jump w s m (refused p r x) ≡ refused p r x
unfolding after_jump
after_jump_passes Jump.to_name s m p r x = u16_passes s m 5 p r x
after_jump_passes Jump.to_integer s m p r x = rw (skip_passes s 8 p r x) (u16_passes s 1025 4 p r x)

pub jump_label_passes : (s : List ℕ) (m p : ℕ) (r : NonZeroU64) (x : ℕ) → jump_label s m (refused p r x) ≡ refused p r x
unfolding jump_label
jump_label_passes s m p r x = rw (u8_passes s 2 3 p r x) (after_jump_passes (jump_of x) s m p r x)

after_target_passes : (w : Target) (s : List ℕ) (m p : ℕ) (r : NonZeroU64) (x : ℕ) → after_target w s m (refused p r x) ≡ refused p r x
unfolding after_target
after_target_passes Target.direct s m p r x = jump_label_passes s m p r x
after_target_passes Target.indirect s m p r x = jump_label_passes s m p r x
after_target_passes Target.label s m p r x = u16_passes s m 5 p r x

pub branch_dst_passes : (s : List ℕ) (m p : ℕ) (r : NonZeroU64) (x : ℕ) → branch_dst s m (refused p r x) ≡ refused p r x
unfolding branch_dst
branch_dst_passes s m p r x = rw (u8_passes s 3 3 p r x) (after_target_passes (target_of x) s m p r x)

after_form_passes : (w : Form) (s : List ℕ) (m p : ℕ) (r : NonZeroU64) (x : ℕ) → after_form w s m (refused p r x) ≡ refused p r x
unfolding after_form
after_form_passes Form.unimplemented s m p r x = refl
after_form_passes Form.export s m p r x = expr_passes 32 s m p r x
after_form_passes Form.local s m p r x = rw (u16_passes s m 5 p r x) (u16or_passes s 1025 4 p r x)
after_form_passes Form.assignment s m p r x = rw (u16_passes s m 5 p r x, u16or_passes s 1025 4 p r x) (expr_passes 32 s m p r x)
after_form_passes Form.build s m p r x = u16_passes s m 5 p r x
after_form_passes Form.copy s m p r x = rw (expr_passes 32 s m p r x) (expr_passes 32 s m p r x)
after_form_passes Form.store s m p r x = rw (u16or_passes s m 5 p r x, u16or_passes s 1025 4 p r x, expr_passes 32 s m p r x) (expr_passes 32 s m p r x)
after_form_passes Form.calling s m p r x = rw (u16_passes s m 5 p r x, u8_passes s 9 4 p r x) (exprs_passes 32 s m p r x)
after_form_passes Form.branch s m p r x = rw (branch_dst_passes s m p r x) (u8_passes s 3 3 p r x)
after_form_passes Form.cond_branch s m p r x = rw (expr_passes 32 s m p r x, branch_dst_passes s m p r x) (u8_passes s 3 3 p r x)
after_form_passes Form.placed s m p r x = u16_passes s m 5 p r x

pub statement_passes : (s : List ℕ) (m p : ℕ) (r : NonZeroU64) (x : ℕ) → statement s m (refused p r x) ≡ refused p r x
unfolding statement
statement_passes s m p r x = rw (u8_passes s 11 3 p r x) (after_form_passes (form_of x) s m p r x)

pub body_passes : (s : List ℕ) (m n p : ℕ) (r : NonZeroU64) (x : ℕ) → body s m n (refused p r x) ≡ refused p r x
unfolding body
body_passes s m n p r x = run_passes n 0 (statement s m) _ (statement_passes s m p r x)

-- a turn that is refused is the last
pub run_stops : {A : Type 0} (n i : ℕ) (f : A → A) (x y w : A) → i < n → run (n - i) i (λ _. f) x ≡ w → y ≡ f x → f y ≡ y → y ≡ w
run_stops n i f x y w h e p q = sym (run_passes (n - (i + 1)) (i + 1) f y q) ∙ run_again n i (λ _. f) x y w h e p

pub ruleset passing = (u8_passes, u16_passes, u16or_passes, skip_passes, refuse_passes, counted_passes, expr_passes, exprs_passes, jump_label_passes, branch_dst_passes, statement_passes, body_passes)

pub ruleset body_laws = (run_end, body_passes, exprs_passes)
