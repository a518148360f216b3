-- What is read from a stream has a property, whatever the stream: readings one after another.
use Prim.Native.Nat.{ℕ, ◌≤◌}
use mathlib.Core.Path.{◌≡◌, refl}
use mathlib.Core.Bool.{Bool, true, false}
use mathlib.Core.List.{List}
use lib.Dec.{leb}
use Rattle.definition.specs.Refusals.{Refusal, outside_limit}
use Rattle.definition.specs.SectionFile.{Parsed, parsed, refused, Read, on, ◌>>=◌, ◌>>◌, pure, refuse, require, up_to, bit_number}
use Rattle.std.proofs.lemmas.Bool.{leb-true}

abbrev pub Reading : {A : Type 0} → (A → Type 0) → Parsed A → Type 0
Reading P (parsed a s) = P a
Reading P (refused r) = Unit {0}

-- whatever is read has P
pub record Reads {A : Type 0} (P : A → Type 0) (m : Read A) : Type 0 where
  pub reads : (s : List ℕ) → Reading P (m s)

pub then_reads : {A B : Type 0} (P : A → Type 0) (Q : B → Type 0) (x : Parsed A) (f : A → Read B) → Reading P x → ((a : A) → P a → Reads Q (f a))
    → Reading Q (on x f)
unfolding on
then_reads P Q (parsed a s) f h k = (k a h).reads s
then_reads P Q (refused r) f h k = tt

pub bind : {A B : Type 0} {P : A → Type 0} {Q : B → Type 0} (m : Read A) (f : A → Read B) → Reads P m → ((a : A) → P a → Reads Q (f a))
    → Reads Q (m >>= f)
bind {A} {B} {P} {Q} m f h k = record { reads = λ s. then_reads P Q (m s) f (h.reads s) k }

pub returns : {A : Type 0} {P : A → Type 0} (a : A) → P a → Reads P (pure a)
returns a h = record { reads = λ s. h }

pub refuses : {A : Type 0} {P : A → Type 0} (r : Refusal) → Reads P (refuse {A = A} r)
refuses r = record { reads = λ s. tt }

any_reading : {A : Type 0} (x : Parsed A) → Reading (λ _. Unit {0}) x
any_reading (parsed a s) = tt
any_reading (refused r) = tt

pub anything : {A : Type 0} (m : Read A) → Reads (λ _. Unit {0}) m
anything m = record { reads = λ s. any_reading (m s) }

-- what is read and then passed over
pub passed : {A B : Type 0} {Q : B → Type 0} (m : Read A) (f : A → Read B) → ((a : A) → Reads Q (f a)) → Reads Q (m >>= f)
passed m f k = bind m f (anything m) (λ a h. k a)

pub passes : {B : Type 0} {Q : B → Type 0} (m : Read (Unit {0})) (r : Read B) → Reads Q r → Reads Q (m >> r)
passes {B} {Q} m r k = record { reads = λ s. then_reads (λ _. Unit {0}) Q (m s) (λ _. r) (any_reading (m s)) (λ _ _. k) }

pub reads-require : (b : Bool) (r : Refusal) → Reads (λ _. b ≡ true) (require b r)
unfolding require
reads-require true r = record { reads = λ s. refl }
reads-require false r = record { reads = λ s. tt }

pub reads-up_to : (limit v : ℕ) → Reads (λ n. n ≤ limit) (up_to limit v)
unfolding up_to
reads-up_to limit v = record {
  reads = λ s. then_reads (λ _. leb v limit ≡ true) (λ n. n ≤ limit) (require (leb v limit) outside_limit s)
      (λ _. pure v) ((reads-require (leb v limit) outside_limit).reads s) (λ _ h. returns v (leb-true v limit h));
}

pub reads-bits : Reads (λ n. n ≤ 8192) bit_number
reads-bits = passed _ _ (λ v. reads-up_to 8192 v)
