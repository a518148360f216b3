-- What a reading comes to be refused by. P says which number of a refusal may stand beside which number read last. Where it holds
-- of each number that a word refuses by, beside 0, and of the cursor if that is refused, it holds of what the word leaves.
use mathlib.Core.Path.{refl}
use mathlib.Core.Bool.{Bool, true, false}
use mathlib.Core.List.{List}
use Prim.Native.Nat.{ℕ, zero, suc, ◌+◌}
use native.Mathlib.Omega.{arith}
use lib.ListN.{length}
use lib.Dec.{eqb, leb, ltb}
use Rattle.prelude.specs.Base.{when◌then◌else◌}
use Rattle.std.specs.Int.NonZero.{non_zero_u64_get}
use Rattle.std.specs.declared.num.NonZeroU64.{NonZeroU64}
use Rattle.codes.specs.declared.refusal.Refusal.{Refusal}
use Rattle.codes.specs.Refusals as refusals
use Rattle.codes.proofs.Numbers.{numbered-number}
use Rattle.access.specs.Loops.{run}
use Rattle.file_syntax.specs.Cursors.{Cursor, cursor, refuse, number, u8, u16, u16or, skip, code, name}
use Rattle.file_syntax.specs.Expressions.{space, call, counted, Kind, kind_of, after_code, expr, exprs}
use Rattle.file_syntax.specs.Statements.{Jump, jump_of, after_jump, jump_label, Target, target_of, after_target, branch_dst, Form, form_of, after_form, statement, body}
use Rattle.file_syntax.specs.Reads.{RefusedBy, OfRefusal, good}
use Rattle.file_syntax.specs.declared.cursor.Cursor as places
use Rattle.file_syntax.proofs.RefusedLaws.{refused}

-- what each turn keeps holds at the end
pub run_keeps : {A : Type 0} (Q : A → Type 0) (n i : ℕ) (f : ℕ → A → A) (x : A) → ((j : ℕ) (y : A) → Q y → Q (f j y)) → Q x → Q (run n i f x)
unfolding run
run_keeps Q zero i f x h p = p
run_keeps Q (suc n) i f x h p = run_keeps Q n (suc i) f (f i x) h (h i x p)

module _ (P : ℕ → ℕ → Type 0) where
  pub good_refused_by : (c : places.Cursor) → RefusedBy P (good c)
  good_refused_by c z = absurd (z refl)

  pub refused_by : (p : ℕ) (r : NonZeroU64) (x : ℕ) → RefusedBy P (refused p r x) → P (non_zero_u64_get r) x
  refused_by p r x f = f (λ z. omega (arith, r.ok, z))

  pub refuse_refused_by : (k : ℕ) (c : Cursor) → P k 0 → RefusedBy P c → RefusedBy P (refuse k c)
  unfolding refuse
  refuse_refused_by k c h f = go (eqb c.bad 0)
    where
      go : (a : Bool) → RefusedBy P (when a then cursor c.at k 0 else c)
      go true = λ z. h
      go false = f

  pub counted_refused_by : (g : Cursor → Cursor) (c : Cursor) → ((y : Cursor) → RefusedBy P y → RefusedBy P (g y)) → RefusedBy P c → RefusedBy P (counted g c)
  unfolding counted
  counted_refused_by g c h f = run_keeps (RefusedBy P) c.val 0 (λ _. g) c (λ j. h) f

  -- a field, of which 3 says that it is cut off
  module _ (cut : P 3 0) where
    pub number_refused_by : (v n len lim k : ℕ) (c : Cursor) → P k 0 → RefusedBy P c → RefusedBy P (number v n len lim k c)
    unfolding number
    number_refused_by v n len lim k c h f = go (eqb c.bad 0) (leb (c.at + n) len) (ltb v lim)
      where
        go : (a b d : Bool) → RefusedBy P (when a then (when b then (when d then cursor (c.at + n) 0 v else cursor c.at k 0) else cursor c.at 3 0) else c)
        go true true true = λ z. absurd (z refl)
        go true true false = λ z. h
        go true false d = λ z. cut
        go false b d = f

    pub u8_refused_by : (s : List ℕ) (lim k : ℕ) (c : Cursor) → P k 0 → RefusedBy P c → RefusedBy P (u8 s lim k c)
    unfolding u8
    u8_refused_by s lim k c h f = number_refused_by _ _ _ _ k c h f

    pub u16_refused_by : (s : List ℕ) (lim k : ℕ) (c : Cursor) → P k 0 → RefusedBy P c → RefusedBy P (u16 s lim k c)
    unfolding u16
    u16_refused_by s lim k c h f = number_refused_by _ _ _ _ k c h f

    pub u16or_refused_by : (s : List ℕ) (lim k : ℕ) (c : Cursor) → P k 0 → RefusedBy P c → RefusedBy P (u16or s lim k c)
    unfolding u16or
    u16or_refused_by s lim k c h f = number_refused_by _ _ _ _ k c h f

    pub skip_refused_by : (s : List ℕ) (n : ℕ) (c : Cursor) → RefusedBy P c → RefusedBy P (skip s n c)
    unfolding skip number
    skip_refused_by s n c f = go (eqb c.bad 0) (leb (c.at + n) (length s))
      where
        go : (a b : Bool) → RefusedBy P (when a then (when b then cursor (c.at + n) 0 0 else cursor c.at 3 0) else c)
        go true true = λ z. absurd (z refl)
        go true false = λ z. cut
        go false b = f

    pub code_refused_by : (s : List ℕ) (n : ℕ) (c : Cursor) → RefusedBy P c → RefusedBy P (code s n c)
    code_refused_by s n c f = u8_refused_by s n 3 c cut f

    pub count_refused_by : (s : List ℕ) (lim : ℕ) (c : Cursor) → P 4 0 → RefusedBy P c → RefusedBy P (u16 s lim 4 c)
    count_refused_by s lim c h f = u16_refused_by s lim 4 c h f

    pub name_refused_by : (s : List ℕ) (m : ℕ) (c : Cursor) → P 5 0 → RefusedBy P c → RefusedBy P (name s m c)
    name_refused_by s m c h f = u16_refused_by s m 5 c h f

    -- the parts of a section, which refuse by 3, 4 and 5
    module _ (outside_limit : P 4 0) (names_nothing : P 5 0) where
      pub space_refused_by : (s : List ℕ) (m : ℕ) (c : Cursor) → RefusedBy P c → RefusedBy P (space s m c)
      space_refused_by s m c f = u16or_refused_by s 1025 4 _ outside_limit (u16or_refused_by s m 5 c names_nothing f)

      pub call_refused_by : (s : List ℕ) (m : ℕ) (c : Cursor) → RefusedBy P c → RefusedBy P (call s m c)
      call_refused_by s m c f = u8_refused_by s 9 4 _ outside_limit (name_refused_by s m c names_nothing f)

      after_code_refused_by : (w : Kind) (s : List ℕ) (m : ℕ) (g : Cursor → Cursor) (c : Cursor) → ((y : Cursor) → RefusedBy P y → RefusedBy P (g y)) → RefusedBy P c → RefusedBy P (after_code w s m g c)
      unfolding after_code
      after_code_refused_by Kind.ident s m g c h f = name_refused_by s m c names_nothing f
      after_code_refused_by Kind.integer s m g c h f = skip_refused_by s 8 c f
      after_code_refused_by Kind.address s m g c h f = name_refused_by s m _ names_nothing (u16or_refused_by s 1025 4 c outside_limit f)
      after_code_refused_by Kind.truncate s m g c h f = count_refused_by s 1025 _ outside_limit (h c f)
      after_code_refused_by Kind.slice s m g c h f = count_refused_by s 8193 _ outside_limit (count_refused_by s 8193 _ outside_limit (h c f))
      after_code_refused_by Kind.operator s m g c h f = h _ (code_refused_by s 39 _ (h c f))
      after_code_refused_by Kind.deref s m g c h f = h _ (space_refused_by s m c f)
      after_code_refused_by Kind.pool s m g c h f = counted_refused_by g _ h (u8_refused_by s 9 4 c outside_limit f)
      after_code_refused_by Kind.calling s m g c h f = counted_refused_by g _ h (call_refused_by s m c f)

      pub expr_refused_by : (d : ℕ) (s : List ℕ) (m : ℕ) (c : Cursor) → RefusedBy P c → RefusedBy P (expr d s m c)
      unfolding expr
      expr_refused_by zero s m c f = refuse_refused_by 4 _ outside_limit (code_refused_by s 9 c f)
      expr_refused_by (suc d) s m c f = after_code_refused_by (kind_of (u8 s 9 3 c).val) s m (expr d s m) _ (expr_refused_by d s m) (code_refused_by s 9 c f)

      pub exprs_refused_by : (d : ℕ) (s : List ℕ) (m : ℕ) (c : Cursor) → RefusedBy P c → RefusedBy P (exprs d s m c)
      exprs_refused_by d s m c f = counted_refused_by (expr d s m) c (expr_refused_by d s m) f

      after_jump_refused_by : (w : Jump) (s : List ℕ) (m : ℕ) (c : Cursor) → RefusedBy P c → RefusedBy P (after_jump w s m c)
      unfolding after_jump
      after_jump_refused_by Jump.to_name s m c f = name_refused_by s m c names_nothing f
      after_jump_refused_by Jump.to_integer s m c f = count_refused_by s 1025 _ outside_limit (skip_refused_by s 8 c f)

      pub jump_label_refused_by : (s : List ℕ) (m : ℕ) (c : Cursor) → RefusedBy P c → RefusedBy P (jump_label s m c)
      unfolding jump_label
      jump_label_refused_by s m c f = after_jump_refused_by (jump_of (u8 s 2 3 c).val) s m _ (code_refused_by s 2 c f)

      after_target_refused_by : (w : Target) (s : List ℕ) (m : ℕ) (c : Cursor) → RefusedBy P c → RefusedBy P (after_target w s m c)
      unfolding after_target
      after_target_refused_by Target.direct s m c f = jump_label_refused_by s m c f
      after_target_refused_by Target.indirect s m c f = jump_label_refused_by s m c f
      after_target_refused_by Target.label s m c f = name_refused_by s m c names_nothing f

      pub branch_dst_refused_by : (s : List ℕ) (m : ℕ) (c : Cursor) → RefusedBy P c → RefusedBy P (branch_dst s m c)
      unfolding branch_dst
      branch_dst_refused_by s m c f = after_target_refused_by (target_of (u8 s 3 3 c).val) s m _ (code_refused_by s 3 c f)

      after_form_refused_by : (w : Form) (s : List ℕ) (m : ℕ) (c : Cursor) → RefusedBy P c → RefusedBy P (after_form w s m c)
      unfolding after_form
      after_form_refused_by Form.unimplemented s m c f = f
      after_form_refused_by Form.export s m c f = expr_refused_by 32 s m c f
      after_form_refused_by Form.local s m c f = u16or_refused_by s 1025 4 _ outside_limit (name_refused_by s m c names_nothing f)
      after_form_refused_by Form.assignment s m c f = expr_refused_by 32 s m _ (u16or_refused_by s 1025 4 _ outside_limit (name_refused_by s m c names_nothing f))
      after_form_refused_by Form.build s m c f = name_refused_by s m c names_nothing f
      after_form_refused_by Form.copy s m c f = expr_refused_by 32 s m _ (expr_refused_by 32 s m c f)
      after_form_refused_by Form.store s m c f = expr_refused_by 32 s m _ (expr_refused_by 32 s m _ (space_refused_by s m c f))
      after_form_refused_by Form.calling s m c f = exprs_refused_by 32 s m _ (call_refused_by s m c f)
      after_form_refused_by Form.branch s m c f = code_refused_by s 3 _ (branch_dst_refused_by s m c f)
      after_form_refused_by Form.cond_branch s m c f = code_refused_by s 3 _ (branch_dst_refused_by s m _ (expr_refused_by 32 s m c f))
      after_form_refused_by Form.placed s m c f = name_refused_by s m c names_nothing f

      pub statement_refused_by : (s : List ℕ) (m : ℕ) (c : Cursor) → RefusedBy P c → RefusedBy P (statement s m c)
      unfolding statement
      statement_refused_by s m c f = after_form_refused_by (form_of (u8 s 11 3 c).val) s m _ (code_refused_by s 11 c f)

      pub body_refused_by : (s : List ℕ) (m n : ℕ) (c : Cursor) → RefusedBy P c → RefusedBy P (body s m n c)
      unfolding body
      body_refused_by s m n c f = run_keeps (RefusedBy P) n 0 (λ _. statement s m) c (λ j. statement_refused_by s m) f

-- each refusal has its number
pub of_refusal : (r : Refusal) → OfRefusal (refusals.number r) 0
of_refusal r = (rw (numbered-number r) refl, refl)
