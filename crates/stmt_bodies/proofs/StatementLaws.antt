-- One law for each way out of the statements and macro bodies.
use Rattle.std.proofs.Common.{◌≡◌, ℕ, suc, ◌+◌, ◌-◌, ◌%◌, ◌^◌, ◌<◌, ◌≤◌, Bool, true, false, ltb, leb, List, length, sym, refl, ap, ◌∙◌, arith, ltb-true, leb-true}
use Rattle.std.specs.Cmp.{first_so, second_so}
use Rattle.access.specs.Le.{le16}
use Rattle.list_pushes.specs.declared.push.State.{State}
use Rattle.list_pushes.specs.declared.push.Env.{Env}
use Rattle.prelude.specs.Base.{when◌then◌else◌}
use Rattle.expr_terms.specs.Answers.{after}
use Rattle.stmt_walk.specs.Outcomes.{Walk}
use Rattle.stmt_walk.specs.Outcomes.{Step}
use Rattle.stmt_walk.specs.Walks.{Walked, walked, on_step, with_state, stop}
use Rattle.stmt_simple.specs.Calls.{macro_at}
use Rattle.stmt_bodies.specs.Statements.{returned, returned_to, macro_env, body_at, first_ordinal, resolve_statement, Statement, forward, resolve_all, macro_body, enter_macro, resolve_body}

-- ---- macros
module _ (deep : ℕ) (s t p a m : List ℕ) (e : Env) (id n next : ℕ) (st : State) (w : Walk) where
  pub enter_deep : (z : Step) → deep ≡ 0 → z ≡ stop 11 w → walked z p a m ≡ enter_macro deep s t p a m e id n next st w
  unfolding enter_macro
  enter_deep z q h = rw (q, h)

  entering : (deep ≡ 0 → ⊥) → enter_macro deep s t p a m e id n next st w ≡ returned_to next (macro_body (enter_macro (deep - 1) s t) s t (macro_at t id) p a m e id n st w)
  unfolding enter_macro
  entering nz = let h : deep ≡ suc (deep - 1) = omega arith in
      let g : enter_macro (suc (deep - 1)) s t p a m e id n next st w ≡ returned_to next (macro_body (enter_macro (deep - 1) s t) s t (macro_at t id) p a m e id n st w) = refl in
      ap (λ d. enter_macro d s t p a m e id n next st w) h ∙ g

  module _ (at start count first here : ℕ) (inner : Env) (v : Walk) (p2 a2 m2 : List ℕ) (nz : deep ≡ 0 → ⊥) (e1 : at ≡ macro_at t id) (e6 : start ≡ body_at at n)
      (e7 : (count ≡ le16 s (start + 0)) × (count < 65536)) (e8 : inner ≡ macro_env n e) (e9 : first ≡ first_ordinal t id) (e10 : here ≡ after start 2) (e11 : v ≡ with_state st w) where
    went : (r : Step) → walked r p2 a2 m2 ≡ resolve_body (deep - 1) s t p a m inner here count first v → walked (returned next r) p2 a2 m2 ≡ enter_macro deep s t p a m e id n next st w
    unfolding macro_body resolve_body returned_to
    went r f =
        let g : walked r p2 a2 m2 ≡ resolve_body (deep - 1) s t p a m (macro_env n e) here count first (with_state st w) = rw (e8, e11) at f in
        rw (entering nz, ← e1, ← e6, ← e7.0, ← e9, ← e10, ← g)

    pub enter_stop : (k o : ℕ) → walked (Step.Stop k o) p2 a2 m2 ≡ resolve_body (deep - 1) s t p a m inner here count first v → walked (Step.Stop k o) p2 a2 m2 ≡ enter_macro deep s t p a m e id n next st w
    unfolding returned
    enter_stop k o f = went (Step.Stop k o) f

    pub enter_next : (end : ℕ) (u : Walk) → walked (Step.Next end u) p2 a2 m2 ≡ resolve_body (deep - 1) s t p a m inner here count first v → walked (Step.Next next u) p2 a2 m2 ≡ enter_macro deep s t p a m e id n next st w
    unfolding returned
    enter_next end u f = went (Step.Next end u) f

-- ---- bodies; what is left to resolve gives the whole, B
-- the bytes left fall
pub bytes_fall : (pos next len : ℕ) (x : Bool) → x ≡ forward pos next len → x ≡ true → len - next < len - pos
unfolding forward
bytes_fall pos next len x e h = let k = sym e ∙ h in omega (arith, ltb-true pos next (first_so _ (leb next len) k), leb-true next len (second_so (ltb pos next) _ k))

pub body_start : (deep : ℕ) (s t p a m : List ℕ) (e : Env) (pos n ordinal : ℕ) (w : Walk) → resolve_all (resolve_statement (enter_macro deep s t) s t e) (length s) (n - 0) 0 ordinal pos p a m w ≡ resolve_body deep s t p a m e pos n ordinal w
unfolding resolve_body
body_start deep s t p a m e pos n ordinal w = let z : n - 0 ≡ n = omega arith in rw z

module _ (resolve : Statement) (len n i ordinal pos : ℕ) (p a m : List ℕ) (w : Walk) (B : Walked) (inv : resolve_all resolve len (n - i) i ordinal pos p a m w ≡ B) where
  pub body_end : n ≤ i → walked (Step.Next pos w) p a m ≡ B
  unfolding resolve_all
  body_end h = let z : n - i ≡ 0 = omega arith in rw z at inv

  module _ (h : i < n) (o : ℕ) (eo : o ≡ (ordinal + i) % 2 ^ 64) (p1 a1 m1 : List ℕ) where
    turn : (r : Step) → walked r p1 a1 m1 ≡ resolve pos o p a m w → on_step (walked r p1 a1 m1) (λ next w1 q b u. when forward pos next len then resolve_all resolve len (n - (i + 1)) (suc i) ordinal next q b u w1 else walked (stop 3 w1) q b u) ≡ B
    unfolding resolve_all
    turn r f = let z : n - i ≡ suc (n - (i + 1)) = omega arith in rw (f, eo) (rw z at inv)

    pub body-stop : (refusal k : ℕ) → walked (Step.Stop refusal k) p1 a1 m1 ≡ resolve pos o p a m w → walked (Step.Stop refusal k) p1 a1 m1 ≡ B
    unfolding on_step
    body-stop refusal k f = turn (Step.Stop refusal k) f

    module _ (next : ℕ) (w1 : Walk) (f : walked (Step.Next next w1) p1 a1 m1 ≡ resolve pos o p a m w) (x : Bool) (ex : x ≡ forward pos next len) where
      pub body_cut : (refusal k : ℕ) → x ≡ false → Step.Stop refusal k ≡ stop 3 w1 → walked (Step.Stop refusal k) p1 a1 m1 ≡ B
      unfolding on_step
      body_cut refusal k c y = let g = turn (Step.Next next w1) f in rw y (rw (← ex, c) at g)

      pub body-next : x ≡ true → resolve_all resolve len (n - (i + 1)) (i + 1) ordinal next p1 a1 m1 w1 ≡ B
      unfolding on_step
      body-next c = let o1 : i + 1 ≡ suc i = omega arith in let k = turn (Step.Next next w1) f in rw o1 (rw (← ex, c, o1) at k)

pub ruleset enter_laws = (enter_deep, enter_stop, enter_next)

pub ruleset body_laws = (body_cut, bytes_fall, body_start, body_end, body-stop, body-next)
