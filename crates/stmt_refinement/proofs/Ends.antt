-- Where a statement that was read ends, by its code, where its last part does not say so; and the same of what a branch
-- goes to.
use Prim.Native.Nat.{ℕ, ◌+◌, ◌≤◌}
use mathlib.Core.Path.{◌≡◌, refl, sym, ◌∙◌, ap}
use mathlib.Core.List.{List}
use native.Mathlib.Omega.{arith}
use lib.ListN.{length, get_or, drop}
use borrow.Author.Tests.{le-leb, lt-ltb}
use Rattle.access.specs.Le.{le16}
use Rattle.definition.specs.Ast.{PcodeExpr, JumpLabel, BranchDst, Statement}
use Rattle.definition.specs.SectionFile.{parsed, refused, Read, expr_within}
use Rattle.definition.specs.SectionFile as d
use Rattle.file_syntax.specs.Cursors.{Cursor, cursor, number, u8, u16, u16or, skip}
use Rattle.file_syntax.specs.Expressions as expressions
use Rattle.file_syntax.specs.Statements as section
use Rattle.file_refinement.proofs.Agree.{Agrees, went, stopped, Any}
use Rattle.file_refinement.proofs.AgreeCode.{Reads, expr_agrees, jump_agrees, target_agrees, statement_agrees}
use Rattle.file_refinement.proofs.Inversion.{Begun, jump-begun, branch_dst_begun, statement-begun}
use Rattle.expr_refinement.proofs.Positions.{drop_same, skipped, run_good, passed, ends}

-- a cursor comes to where a reading ends
cursor_ends : {A : Type 0} (s : List ℕ) (r : Read A) (f : Cursor → Cursor) → Reads s Any r f → (pos v : ℕ) (x : A) (next : ℕ) → r (drop pos s) ≡ parsed x (drop next s) → pos ≤ length s → next ≤ length s → (w : ℕ) × (f (cursor pos 0 v) ≡ cursor next 0 w)
cursor_ends {A} s r f reads pos v x next h i j = go (reads.agrees pos v i)
  where
    go : Agrees s Any (r (drop pos s)) (f (cursor pos 0 v)) → (w : ℕ) × (f (cursor pos 0 v) ≡ cursor next 0 w)
    go (went a q w b _ e k) =
        let g : parsed a (drop q s) ≡ parsed x (drop next s) = sym e ∙ h in
        let l : drop q s ≡ drop next s = cc in
        (w, rw (drop_same s q next b j l) at k)
    go (stopped c q e k) = let g : refused c ≡ parsed x (drop next s) = sym e ∙ h in let z : ◌≡◌ {A = ℕ} 0 1 = cc in absurd (omega arith)

coded : (s : List ℕ) (n pos v : ℕ) → Begun s pos n → u8 s n 3 (cursor pos 0 v) ≡ cursor (pos + 1) 0 (get_or s pos 0)
unfolding u8 number
coded s n pos v b = let i = b.inside in rw (le-leb (pos + 1) (length s) (omega arith), lt-ltb (get_or s pos 0) n b.known)

-- behind a name
name_ends : (s : List ℕ) (m pos v next w : ℕ) → u16 s m 5 (cursor pos 0 v) ≡ cursor next 0 w → next ≡ pos + 2
unfolding u16
name_ends s m pos v next w h =
    let p = passed (le16 s pos) 2 (length s) m 5 (cursor pos 0 v) refl (ap (λ (k : Cursor). k.bad) h) in
    let q = ap (λ (k : Cursor). k.at) h in
    omega (arith, p.at)

-- behind a hint
hint_ends : (s : List ℕ) (pos v next w : ℕ) → u8 s 3 3 (cursor pos 0 v) ≡ cursor next 0 w → next ≡ pos + 1
unfolding u8
hint_ends s pos v next w h =
    let p = passed (get_or s pos 0) 1 (length s) 3 3 (cursor pos 0 v) refl (ap (λ (k : Cursor). k.bad) h) in
    let q = ap (λ (k : Cursor). k.at) h in
    omega (arith, p.at)

module _ (s : List ℕ) (m pos : ℕ) (x : JumpLabel) (next : ℕ) (reads : d.jump_label m (drop pos s) ≡ parsed x (drop next s)) (inside : next ≤ length s) where
  jump_ends : (code : ℕ) → get_or s pos 0 ≡ code → (v : ℕ) × (section.after_jump (section.jump_of code) s m (cursor (pos + 1) 0 code) ≡ cursor next 0 v)
  unfolding section.jump_label
  jump_ends code c =
      let b = jump-begun s m pos x (drop next s) reads in
      let i = b.inside in
      let e = cursor_ends s (d.jump_label m) (section.jump_label s m) (jump_agrees s m) pos 0 x next reads (omega arith) inside in
      (e.0, rw (coded s 2 pos 0 b, c) at e.1)

  pub jump_name_ends : get_or s pos 0 ≡ 0 → next ≡ pos + 3
  unfolding section.jump_of section.after_jump
  jump_name_ends c = let e = jump_ends 0 c in name_ends s m (pos + 1) 0 next e.0 e.1 ∙ omega arith

  pub jump_integer_ends : get_or s pos 0 ≡ 1 → next ≡ pos + 11
  unfolding section.jump_of section.after_jump u16
  jump_integer_ends c =
      let e = jump_ends 1 c in
      let p = passed _ 2 (length s) 1025 4 (skip s 8 (cursor (pos + 1) 0 1)) refl (ap (λ (k : Cursor). k.bad) e.1) in
      let q = ap (λ (k : Cursor). k.at) e.1 in
      omega (arith, p.at, skipped s 8 (pos + 1) 1 p.good)

pub label_dst_ends : (s : List ℕ) (m pos : ℕ) (x : BranchDst) (next : ℕ) → d.branch_dst m (drop pos s) ≡ parsed x (drop next s) → next ≤ length s → get_or s pos 0 ≡ 2 → next ≡ pos + 3
unfolding section.branch_dst section.target_of section.after_target
label_dst_ends s m pos x next reads inside c =
    let b = branch_dst_begun s m pos x (drop next s) reads in
    let i = b.inside in
    let e = cursor_ends s (d.branch_dst m) (section.branch_dst s m) (target_agrees s m) pos 0 x next reads (omega arith) inside in
    name_ends s m (pos + 1) 2 next e.0 (rw (coded s 3 pos 0 b, c) at e.1) ∙ omega arith

module _ (s : List ℕ) (m pos : ℕ) (x : Statement) (next : ℕ) (reads : d.statement m (drop pos s) ≡ parsed x (drop next s)) (inside : next ≤ length s) where
  pub starts : pos + 1 ≤ length s
  starts = let b = (statement-begun s m pos x (drop next s) reads).inside in omega arith

  form_ends : (code : ℕ) → get_or s pos 0 ≡ code → (v : ℕ) × (section.after_form (section.form_of code) s m (cursor (pos + 1) 0 code) ≡ cursor next 0 v)
  unfolding section.statement
  form_ends code c =
      let b = statement-begun s m pos x (drop next s) reads in
      let i = b.inside in
      let e = cursor_ends s (d.statement m) (section.statement s m) (statement_agrees s m) pos 0 x next reads (omega arith) inside in
      (e.0, rw (coded s 11 pos 0 b, c) at e.1)

  pub unimplemented_ends : get_or s pos 0 ≡ 0 → next ≡ pos + 1
  unfolding section.form_of section.after_form
  unimplemented_ends c = let e = form_ends 0 c in let q = ap (λ (k : Cursor). k.at) e.1 in omega arith

  pub local_ends : get_or s pos 0 ≡ 2 → next ≡ pos + 5
  unfolding section.form_of section.after_form u16 u16or
  local_ends c =
      let e = form_ends 2 c in
      let p = passed _ 2 (length s) _ 4 (u16 s m 5 (cursor (pos + 1) 0 2)) refl (ap (λ (k : Cursor). k.bad) e.1) in
      let u = passed (le16 s (pos + 1)) 2 (length s) m 5 (cursor (pos + 1) 0 2) refl p.good in
      let q = ap (λ (k : Cursor). k.at) e.1 in
      omega (arith, p.at, u.at)

  pub build_ends : get_or s pos 0 ≡ 4 → next ≡ pos + 3
  unfolding section.form_of section.after_form
  build_ends c = let e = form_ends 4 c in name_ends s m (pos + 1) 4 next e.0 e.1 ∙ omega arith

  pub label_ends : get_or s pos 0 ≡ 10 → next ≡ pos + 3
  unfolding section.form_of section.after_form
  label_ends c = let e = form_ends 10 c in name_ends s m (pos + 1) 10 next e.0 e.1 ∙ omega arith

  pub branch_ends : (y : BranchDst) (end : ℕ) → d.branch_dst m (drop (pos + 1) s) ≡ parsed y (drop end s) → end ≤ length s → get_or s pos 0 ≡ 8 → next ≡ end + 1
  unfolding section.form_of section.after_form
  branch_ends y end part within c =
      let e = form_ends 8 c in
      let f = cursor_ends s (d.branch_dst m) (section.branch_dst s m) (target_agrees s m) (pos + 1) 8 y end part starts within in
      hint_ends s end f.0 next e.0 (rw f.1 at e.1)

  pub cond_branch_ends : (cond : PcodeExpr) (cond_end : ℕ) → expr_within m 32 (drop (pos + 1) s) ≡ parsed cond (drop cond_end s) → cond_end ≤ length s → (y : BranchDst) (end : ℕ) → d.branch_dst m (drop cond_end s) ≡ parsed y (drop end s) → end ≤ length s → get_or s pos 0 ≡ 9 → next ≡ end + 1
  unfolding section.form_of section.after_form
  cond_branch_ends cond cond_end part within y end dst inner c =
      let e = form_ends 9 c in
      let g = ends s m 32 (pos + 1) 9 cond cond_end part starts within in
      let f = cursor_ends s (d.branch_dst m) (section.branch_dst s m) (target_agrees s m) cond_end g.val y end dst within inner in
      hint_ends s end f.0 next e.0 (rw (g.is, f.1) at e.1)

  -- the arguments of a call stand inside
  pub call-inside : get_or s pos 0 ≡ 7 → pos + 4 ≤ length s
  unfolding section.form_of section.after_form expressions.counted u16 u8
  call-inside c =
      let e = form_ends 7 c in
      let g = run_good (u8 s 9 4 (u16 s m 5 (cursor (pos + 1) 0 7))).val 0 (expressions.expr 32 s m) (expr_agrees s m 32).stuck (u8 s 9 4 (u16 s m 5 (cursor (pos + 1) 0 7))) (ap (λ (k : Cursor). k.bad) e.1) in
      let p = passed _ 1 (length s) 9 4 (u16 s m 5 (cursor (pos + 1) 0 7)) refl g in
      let u = passed (le16 s (pos + 1)) 2 (length s) m 5 (cursor (pos + 1) 0 7) refl p.good in
      omega (arith, p.fits, u.at)
