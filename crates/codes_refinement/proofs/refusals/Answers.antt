use Rattle.std.proofs.Common.{◌≡◌, map, ℕ, ◌<◌, length, get_or, arith, rules, refl, List, [], ◌∷◌, suc}
use Rattle.std.specs.Array.{IsMapOf}
use denote.Param.Members.{Mut, Called}
use Rattle.codes.specs.declared.refusal.Refusal.{Refusal}
use Rattle.codes.specs.Refusals.{number}
use Rattle.definition.specs.Refusals.{refusal_number}
use Rattle.codes_refinement.specs.Lists.{refusals}
use Rattle.codes_refinement.proofs.refusals.Goals as goal

same : (xs : List Refusal) (ys : List ℕ) → length ys ≡ length xs → ((i : ℕ) → i < length xs → get_or ys i 0 ≡ number (get_or xs i Refusal.BadLength)) → ys ≡ map number xs
same [] [] h f = refl
same [] (y ∷ ys) h f = absurd (omega arith)
same (x ∷ xs) [] h f = absurd (omega arith)
same (x ∷ xs) (y ∷ ys) h f =
    let a : y ≡ number x = f 0 (omega arith) in
    let b : ys ≡ map number xs = same xs ys (omega arith) (λ i l. f (suc i) (omega arith)) in cc

mapped : {F : Type 0} {g : Mut F (Refusal × Unit {0}) ℕ} {f : F} {xs : List Refusal} {ys : List ℕ} {n : ℕ} → IsMapOf g f xs ys n → length xs ≡ n → ((p q : F) (x : Refusal) (y : ℕ) → Called g p (x, tt) y q → y ≡ number x) → ys ≡ map number xs
mapped {xs = xs} {ys = ys} h l k = same xs ys (omega (arith, h.long)) (λ i b. let m = h.at i Refusal.BadLength 0 (omega arith) in k m.0 m.1 _ _ m.2)

pub returns : goal.returns
unfolding refusals refusal_number
returns c = mapped c.map.ensures.items refl (λ p q x y h. search rules)
