-- Where an expression that was read ends: the position behind it, by its code, and the one that a cursor comes to.
use Prim.Native.Nat.{ℕ, zero, suc, ◌+◌, ◌-◌, ◌≤◌}
use mathlib.Core.Path.{◌≡◌, refl, sym, ◌∙◌, ap}
use mathlib.Core.Bool.{Bool, true, false}
use mathlib.Core.List.{List}
use native.Mathlib.Omega.{arith}
use lib.ListN.{length, get_or, get_elem?, drop, length-drop}
use lib.Dec.{eqb, leb, ltb}
use borrow.Author.Tests.{eqb-true, eqb-false, le-leb, lt-ltb, leb-true}
use Rattle.access.specs.Le.{le16}
use Rattle.prelude.specs.Base.{when◌then◌else◌}
use Rattle.definition.specs.Ast.{PcodeExpr}
use Rattle.definition.specs.SectionFile.{Parsed, parsed, refused, on, Read, choose, args_of, expr_within}
use Rattle.definition.specs.SectionFile as d
use Rattle.file_syntax.specs.Cursors.{Cursor, cursor, refuse, number, u8, u16, u16or, skip}
use Rattle.access.specs.Loops.{run}
use Rattle.file_syntax.specs.Expressions.{Kind, kind_of, after_code, counted}
use Rattle.file_syntax.specs.Expressions as section
use Rattle.file_refinement.proofs.Agree.{Agrees, went, stopped, Stuck, Any}
use Rattle.file_refinement.proofs.AgreeCode.{expr_agrees}
use Rattle.file_refinement.proofs.Inversion.{expr-begun, nothing_deeper}

pub drop_same : (s : List ℕ) (n k : ℕ) → n ≤ length s → k ≤ length s → drop n s ≡ drop k s → n ≡ k
drop_same s n k h j e = let q = ap length e in let r : length s - n ≡ length s - k = sym (length-drop n s) ∙ q ∙ length-drop k s in omega arith

-- a cursor that has read a number
pub record Passed (v n len lim k : ℕ) (c : Cursor) : Type 0 where
  pub at : (number v n len lim k c).at ≡ c.at + n
  pub good : c.bad ≡ 0
  pub fits : c.at + n ≤ len

pub passed : (v n len lim k : ℕ) (c : Cursor) → eqb k 0 ≡ false → (number v n len lim k c).bad ≡ 0 → Passed v n len lim k c
unfolding number
passed v n len lim k c z h = go (eqb c.bad 0) (leb (c.at + n) len) (ltb v lim) refl refl refl
  where
    go : (a b l : Bool) → eqb c.bad 0 ≡ a → leb (c.at + n) len ≡ b → ltb v lim ≡ l → Passed v n len lim k c
    go true true true p q r = record { at = rw (p, q, r); good = eqb-true c.bad 0 p; fits = leb-true (c.at + n) len q }
    go true true false p q r = let x : k ≡ 0 = rw (p, q, r) at h in absurd (eqb-false k 0 z x)
    go true false l p q r = let x : ◌≡◌ {A = ℕ} 3 0 = rw (p, q) at h in absurd (omega arith)
    go false b l p q r = let x : c.bad ≡ 0 = rw p at h in absurd (eqb-false c.bad 0 p x)

pub skipped : (s : List ℕ) (n p v : ℕ) → (skip s n (cursor p 0 v)).bad ≡ 0 → (skip s n (cursor p 0 v)).at ≡ p + n
unfolding skip number
skipped s n p v h = go (leb (p + n) (length s)) refl
  where
    go : (b : Bool) → leb (p + n) (length s) ≡ b → (skip s n (cursor p 0 v)).at ≡ p + n
    go true q = rw q
    go false q = let x : ◌≡◌ {A = ℕ} 3 0 = rw q at h in absurd (omega arith)

-- a refused cursor passes the parts unchanged
run_stuck : (n i : ℕ) (f : Cursor → Cursor) → Stuck f → (c : Cursor) → eqb c.bad 0 ≡ false → run n i (λ _. f) c ≡ c
unfolding run
run_stuck zero i f h c q = refl
run_stuck (suc n) i f h c q = rw (h.stays c q) (run_stuck n (suc i) f h c q)

pub run_good : (n i : ℕ) (f : Cursor → Cursor) → Stuck f → (c : Cursor) → (run n i (λ _. f) c).bad ≡ 0 → c.bad ≡ 0
run_good n i f h c q = go (eqb c.bad 0) refl
  where
    go : (b : Bool) → eqb c.bad 0 ≡ b → c.bad ≡ 0
    go true r = eqb-true c.bad 0 r
    go false r = rw (run_stuck n i f h c r) at q

module _ (s : List ℕ) (m : ℕ) where
  -- where the cursor stands behind an expression
  pub record Ends (deep pos v next : ℕ) : Type 0 where
    pub val : ℕ
    pub is : section.expr deep s m (cursor pos 0 v) ≡ cursor next 0 val

  pub ends : (deep pos v : ℕ) (x : PcodeExpr) (next : ℕ) → expr_within m deep (drop pos s) ≡ parsed x (drop next s) → pos ≤ length s → next ≤ length s → Ends deep pos v next
  ends deep pos v x next h i j = go ((expr_agrees s m deep).agrees pos v i)
    where
      go : Agrees s Any (expr_within m deep (drop pos s)) (section.expr deep s m (cursor pos 0 v)) → Ends deep pos v next
      go (went a q w b _ e f) =
          let g : parsed a (drop q s) ≡ parsed x (drop next s) = sym e ∙ h in
          let k : drop q s ≡ drop next s = cc in
          let l = drop_same s q next b j k in
          record { val = w; is = rw l at f }
      go (stopped r q e f) = let g : refused r ≡ parsed x (drop next s) = sym e ∙ h in cc

  module _ (deep pos : ℕ) (x : PcodeExpr) (next : ℕ) (reads : expr_within m (suc deep) (drop pos s) ≡ parsed x (drop next s)) (inside : next ≤ length s) where
    pub starts : pos + 1 ≤ length s
    starts = let b = (expr-begun s m deep pos x (drop next s) reads).inside in omega arith

    coded : u8 s 9 3 (cursor pos 0 0) ≡ cursor (pos + 1) 0 (get_or s pos 0)
    unfolding u8 number
    coded =
        let b = expr-begun s m deep pos x (drop next s) reads in
        rw (le-leb (pos + 1) (length s) starts, lt-ltb (get_or s pos 0) 9 b.known)

    -- what follows the code comes to the end
    rest_ends : (code : ℕ) → get_or s pos 0 ≡ code → (v : ℕ) × (after_code (kind_of code) s m (section.expr deep s m) (cursor (pos + 1) 0 code) ≡ cursor next 0 v)
    unfolding section.expr
    rest_ends code c =
        let b = (expr-begun s m deep pos x (drop next s) reads).inside in
        let e = ends (suc deep) pos 0 x next reads (omega arith) inside in
        (e.val, rw (coded, c) at e.is)

    pub ident_ends : get_or s pos 0 ≡ 0 → next ≡ pos + 3
    unfolding kind_of after_code u16
    ident_ends c =
        let r = rest_ends 0 c in
        let p = passed (le16 s (pos + 1)) 2 (length s) m 5 (cursor (pos + 1) 0 0) refl (ap (λ (k : Cursor). k.bad) r.1) in
        let q = ap (λ (k : Cursor). k.at) r.1 in
        omega (arith, p.at)

    pub integer_ends : get_or s pos 0 ≡ 1 → next ≡ pos + 9
    unfolding kind_of after_code
    integer_ends c =
        let r = rest_ends 1 c in
        let p = skipped s 8 (pos + 1) 1 (ap (λ (k : Cursor). k.bad) r.1) in
        let q = ap (λ (k : Cursor). k.at) r.1 in
        omega arith

    pub address_of_ends : get_or s pos 0 ≡ 2 → next ≡ pos + 5
    unfolding kind_of after_code u16 u16or
    address_of_ends c =
        let r = rest_ends 2 c in
        let p = passed _ 2 (length s) m 5 (u16or s 1025 4 (cursor (pos + 1) 0 2)) refl (ap (λ (k : Cursor). k.bad) r.1) in
        let u = passed (le16 s (pos + 1)) 2 (length s) (when eqb (le16 s (pos + 1)) 65535 then 65536 else 1025) 4 (cursor (pos + 1) 0 2) refl p.good in
        let q = ap (λ (k : Cursor). k.at) r.1 in
        omega (arith, p.at, u.at)

    pub call-inside : get_or s pos 0 ≡ 8 → pos + 4 ≤ length s
    unfolding kind_of after_code counted u16 u8
    call-inside c =
        let r = rest_ends 8 c in
        let g = run_good (u8 s 9 4 (u16 s m 5 (cursor (pos + 1) 0 8))).val 0 (section.expr deep s m) (expr_agrees s m deep).stuck (u8 s 9 4 (u16 s m 5 (cursor (pos + 1) 0 8))) (ap (λ (k : Cursor). k.bad) r.1) in
        let p = passed _ 1 (length s) 9 4 (u16 s m 5 (cursor (pos + 1) 0 8)) refl g in
        let u = passed (le16 s (pos + 1)) 2 (length s) m 5 (cursor (pos + 1) 0 8) refl p.good in
        omega (arith, p.fits, u.at)

    -- a truncation and a slice, behind the part that ends at a position
    module _ (y : PcodeExpr) (end : ℕ) (part : expr_within m deep (drop (pos + 1) s) ≡ parsed y (drop end s)) (within : end ≤ length s) where
      pub truncate_ends : get_or s pos 0 ≡ 3 → next ≡ end + 2
      unfolding kind_of after_code u16
      truncate_ends c =
          let f = ends deep (pos + 1) 3 y end part starts within in
          let r = rest_ends 3 c in
          let p = passed _ 2 (length s) 1025 4 (section.expr deep s m (cursor (pos + 1) 0 3)) refl (ap (λ (k : Cursor). k.bad) r.1) in
          let q = ap (λ (k : Cursor). k.at) r.1 in
          let o = ap (λ (k : Cursor). k.at) f.is in
          omega (arith, p.at)

      pub slice_ends : get_or s pos 0 ≡ 4 → next ≡ end + 4
      unfolding kind_of after_code u16
      slice_ends c =
          let f = ends deep (pos + 1) 4 y end part starts within in
          let r = rest_ends 4 c in
          let p = passed _ 2 (length s) 8193 4 (u16 s 8193 4 (section.expr deep s m (cursor (pos + 1) 0 4))) refl (ap (λ (k : Cursor). k.bad) r.1) in
          let u = passed _ 2 (length s) 8193 4 (section.expr deep s m (cursor (pos + 1) 0 4)) refl p.good in
          let q = ap (λ (k : Cursor). k.at) r.1 in
          let o = ap (λ (k : Cursor). k.at) f.is in
          omega (arith, p.at, u.at)

-- a cursor never goes back

number_on : (v n len lim k : ℕ) (c : Cursor) → c.at ≤ (number v n len lim k c).at
unfolding number
number_on v n len lim k c = go (eqb c.bad 0) (leb (c.at + n) len) (ltb v lim)
  where
    go : (a b l : Bool) → c.at ≤ (when a then (when b then (when l then cursor (c.at + n) 0 v else cursor c.at k 0) else cursor c.at 3 0) else c).at
    go true true true = omega arith
    go true true false = omega arith
    go true false l = omega arith
    go false b l = omega arith

run_on : (n i : ℕ) (f : Cursor → Cursor) → ((c : Cursor) → c.at ≤ (f c).at) → (c : Cursor) → c.at ≤ (run n i (λ _. f) c).at
unfolding run
run_on zero i f h c = omega arith
run_on (suc n) i f h c = let a = h c in let b = run_on n (suc i) f h (f c) in omega arith

u8_on : (s : List ℕ) (lim k : ℕ) (c : Cursor) → c.at ≤ (u8 s lim k c).at
unfolding u8
u8_on s lim k c = number_on _ _ _ _ _ c

u16_on : (s : List ℕ) (lim k : ℕ) (c : Cursor) → c.at ≤ (u16 s lim k c).at
unfolding u16
u16_on s lim k c = number_on _ _ _ _ _ c

u16or_on : (s : List ℕ) (lim k : ℕ) (c : Cursor) → c.at ≤ (u16or s lim k c).at
unfolding u16or
u16or_on s lim k c = number_on _ _ _ _ _ c

after_on : (K : Kind) (s : List ℕ) (m : ℕ) (f : Cursor → Cursor) → ((c : Cursor) → c.at ≤ (f c).at) → (c : Cursor) → c.at ≤ (after_code K s m f c).at
unfolding after_code skip counted
after_on Kind.ident s m f h c = u16_on s m 5 c
after_on Kind.integer s m f h c = number_on _ _ _ _ _ c
after_on Kind.address s m f h c = omega (arith, u16or_on s 1025 4 c, u16_on s m 5 (u16or s 1025 4 c))
after_on Kind.truncate s m f h c = omega (arith, h c, u16_on s 1025 4 (f c))
after_on Kind.slice s m f h c = omega (arith, h c, u16_on s 8193 4 (f c), u16_on s 8193 4 (u16 s 8193 4 (f c)))
after_on Kind.operator s m f h c = omega (arith, h c, u8_on s 39 3 (f c), h (u8 s 39 3 (f c)))
after_on Kind.deref s m f h c = omega (arith, u16or_on s m 5 c, u16or_on s 1025 4 (u16or s m 5 c), h (u16or s 1025 4 (u16or s m 5 c)))
after_on Kind.pool s m f h c = omega (arith, u8_on s 9 4 c, run_on (u8 s 9 4 c).val 0 f h (u8 s 9 4 c))
after_on Kind.calling s m f h c = omega (arith, u16_on s m 5 c, u8_on s 9 4 (u16 s m 5 c), run_on (u8 s 9 4 (u16 s m 5 c)).val 0 f h (u8 s 9 4 (u16 s m 5 c)))

refuse_on : (k : ℕ) (c : Cursor) → c.at ≤ (refuse k c).at
unfolding refuse
refuse_on k c = go (eqb c.bad 0)
  where
    go : (b : Bool) → c.at ≤ (when b then cursor c.at k 0 else c).at
    go true = omega arith
    go false = omega arith

expr_on : (deep : ℕ) (s : List ℕ) (m : ℕ) (c : Cursor) → c.at ≤ (section.expr deep s m c).at
unfolding section.expr
expr_on zero s m c = omega (arith, u8_on s 9 3 c, refuse_on 4 (u8 s 9 3 c))
expr_on (suc deep) s m c = omega (arith, u8_on s 9 3 c, after_on (kind_of (u8 s 9 3 c).val) s m (section.expr deep s m) (expr_on deep s m) (u8 s 9 3 c))

pub end_behind : (s : List ℕ) (m deep pos : ℕ) (x : PcodeExpr) (next : ℕ) → expr_within m deep (drop pos s) ≡ parsed x (drop next s) → pos ≤ length s → next ≤ length s → pos ≤ next
end_behind s m deep pos x next h i j =
    let e = ends s m deep pos 0 x next h i j in
    let a = expr_on deep s m (cursor pos 0 0) in
    let b = ap (λ (k : Cursor). k.at) e.is in
    omega arith

-- What is read within a depth is read within a greater one.

abbrev Less : {A : Type 0} → Parsed A → Parsed A → Type 0
Less {A} a b = (x : A) (t : List ℕ) → a ≡ parsed x t → b ≡ parsed x t

less_on : {A B : Type 0} (a b : Parsed A) (g h : A → Read B) → Less a b → ((x : A) (u : List ℕ) → Less (g x u) (h x u)) → Less (on a g) (on b h)
unfolding on
less_on (parsed x u) b g h l k y t q = rw (l x u refl) (k x u y t q)
less_on (refused r) b g h l k y t q = cc

less_same : {A : Type 0} (a : Parsed A) → Less a a
less_same a x t q = q

less_args : (r q : Read PcodeExpr) → ((u : List ℕ) → Less (r u) (q u)) → (n : ℕ) (u : List ℕ) → Less (args_of r n u) (args_of q n u)
unfolding args_of
less_args r q h zero u = less_same _
less_args r q h (suc n) u = less_on (r u) (q u) _ _ (h u) (λ x v. less_on (args_of r n v) (args_of q n v) _ _ (less_args r q h n v) (λ xs w. less_same _))

less_arm : (m : ℕ) (r q : Read PcodeExpr) → ((u : List ℕ) → Less (r u) (q u)) → (b : ℕ) (u : List ℕ) → Less (choose (get_elem? (d.exprs m r) b) u) (choose (get_elem? (d.exprs m q) b) u)
unfolding choose d.exprs d.call
less_arm m r q h zero u = less_same _
less_arm m r q h (suc zero) u = less_same _
less_arm m r q h (suc (suc zero)) u = less_same _
less_arm m r q h (suc (suc (suc zero))) u = less_on (r u) (q u) _ _ (h u) (λ x v. less_same _)
less_arm m r q h (suc (suc (suc (suc zero)))) u = less_on (r u) (q u) _ _ (h u) (λ x v. less_same _)
less_arm m r q h (suc (suc (suc (suc (suc zero))))) u = less_on (r u) (q u) _ _ (h u) (λ x v. less_on (d.one_of d.pcode_ops v) (d.one_of d.pcode_ops v) _ _ (less_same _) (λ o w. less_on (r w) (q w) _ _ (h w) (λ y z. less_same _)))
less_arm m r q h (suc (suc (suc (suc (suc (suc zero)))))) u = less_on (d.name_or m u) (d.name_or m u) _ _ (less_same _) (λ n v. less_on (d.size_or v) (d.size_or v) _ _ (less_same _) (λ z w. less_on (r w) (q w) _ _ (h w) (λ y z. less_same _)))
less_arm m r q h (suc (suc (suc (suc (suc (suc (suc zero))))))) u = less_on (d.small_count u) (d.small_count u) _ _ (less_same _) (λ n v. less_on (args_of r n v) (args_of q n v) _ _ (less_args r q h n v) (λ xs w. less_same _))
less_arm m r q h (suc (suc (suc (suc (suc (suc (suc (suc zero)))))))) u = less_on (d.name m u) (d.name m u) _ _ (less_same _) (λ n v. less_on (d.small_count v) (d.small_count v) _ _ (less_same _) (λ k w. less_on (args_of r k w) (args_of q k w) _ _ (less_args r q h k w) (λ xs z. less_same _)))
less_arm m r q h (suc (suc (suc (suc (suc (suc (suc (suc (suc b))))))))) u = less_same _

less_deep : (m deep more : ℕ) → deep ≤ more → (u : List ℕ) → Less (expr_within m deep u) (expr_within m more u)
unfolding expr_within d.code
less_deep m zero more h u x t q = absurd (nothing_deeper u m 0 x t q)
less_deep m (suc deep) zero h u x t q = absurd (omega arith)
less_deep m (suc deep) (suc more) h u x t q =
    less_on (d.u8 u) (d.u8 u) _ _ (less_same (d.u8 u)) (λ b v. less_arm m (expr_within m deep) (expr_within m more) (less_deep m deep more (omega arith)) b v) x t q

pub deeper : (s : List ℕ) (m deep more : ℕ) → deep ≤ more → (pos : ℕ) (x : PcodeExpr) (t : List ℕ) → expr_within m deep (drop pos s) ≡ parsed x t → expr_within m more (drop pos s) ≡ parsed x t
deeper s m deep more h pos x t q = less_deep m deep more h (drop pos s) x t q

-- what was read stands inside
pub begins : (s : List ℕ) (m deep pos : ℕ) (x : PcodeExpr) (t : List ℕ) → expr_within m deep (drop pos s) ≡ parsed x t → pos + 1 ≤ length s
begins s m zero pos x t h = absurd (nothing_deeper s m pos x t h)
begins s m (suc deep) pos x t h = let b = (expr-begun s m deep pos x t h).inside in omega arith
