-- What statements leave for the callers of a macro, one after another; and a statement that begins.
use Prim.Native.Nat.{ℕ}
use mathlib.Core.List.{List}
use native.Mathlib.Omega.{arith}
use Rattle.definition.specs.Walk.{State, Env}
use Rattle.definition.specs.Statements as d
use Rattle.list_pushes.specs.declared.push.Env.{Env as WordEnv}
use Rattle.stmt_refinement.proofs.Begin.{one_more, started}
use Rattle.stmt_refinement.specs.Standing.{Beside, Standing, Framed}

pub framed_refl : (b : Beside) (st : State) → Framed b st b st
framed_refl b st = record { labels = omega arith; temporaries = omega arith }

pub framed_trans : {b c d : Beside} {from mid u : State} → Framed b from c mid → Framed c mid d u → Framed b from d u
framed_trans f g = record { labels = omega (arith, f.labels, g.labels); temporaries = omega (arith, f.temporaries, g.temporaries) }

-- a statement that begins changes nothing of this
pub framed_begun : {b c : Beside} {st u : State} (ordinal : ℕ) → Framed (one_more b) (started ordinal st) c u → Framed b st c u
unfolding d.counted d.begin_at
framed_begun ordinal f = record { labels = f.labels; temporaries = f.temporaries }

pub standing_begun : {t : List ℕ} {e : Env} {tail rest : List ℕ} {we : WordEnv} {spare : ℕ} {p : List ℕ} {b : Beside} {st : State} (ordinal : ℕ) → Standing t e tail rest we spare p b st
    → Standing t e tail rest we spare p (one_more b) (started ordinal st)
unfolding d.counted d.begin_at
standing_begun ordinal h = let f = h.stood in record {
  stood = record { actions = f.actions; temporaries = f.temporaries; sizes = f.sizes; errors = f.errors; sound = f.sound; params = f.params; mapping = f.mapping };
  scoped = record { params = h.scoped.params; counted = h.scoped.counted; locals = h.scoped.locals };
  labelled = h.labelled;
  labels = h.labels;
  few = h.few;
  statements = (let q = h.statements in omega arith);
  export = h.export;
  export_sound = h.export_sound;
  long = h.long;
}
