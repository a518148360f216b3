-- Statements and macro bodies. A statement takes what enters a macro as an argument; only that goes a level deeper. In all
-- of these s is the stream, t the section's table, p the scope's list, a the actions, m the temporaries, e the environment,
-- st the state, w the walk.
use Rattle.std.specs.Prelude.{ℕ, zero, suc, ◌+◌, ◌*◌, ◌%◌, ◌^◌, Bool, false, ◌&&◌, leb, List, length, replicate, ◌==◌, nat_le, nat_lt, slice_index}
use Rattle.access.specs.Le.{le16}
use Rattle.list_pushes.specs.declared.push.State.{State}
use Rattle.list_pushes.specs.declared.push.Env.{Env}
use Rattle.list_values.specs.Base.{then_l}
use Rattle.prelude.specs.Base.{when◌then◌else◌}
use Rattle.expr_terms.specs.Answers.{on_args, after}
use Rattle.stmt_walk.specs.Outcomes.{Walk}
use Rattle.stmt_walk.specs.Outcomes.{Step}
use Rattle.stmt_simple.specs.Outcomes.{Called}
use Rattle.stmt_walk.specs.Walks.{Stepped, stepped, Walked, walked, beside_p, without_p, on_step, with_state, stop}
use Rattle.stmt_branches.specs.Branches.{branch, cond_branch, label_statement}
use Rattle.stmt_simple.specs.Simple.{unimplemented, export_statement, local_statement, local_assignment, build}
use Rattle.stmt_assignments.specs.Stores.{store_statement}
use Rattle.stmt_assignments.specs.Copies.{copy_statement}
use Rattle.stmt_simple.specs.Calls.{called_of, delay_slot, user_op_statement, macro_at, macro_args}

-- where the actions stay
unfoldable pub beside_a : List ℕ → Stepped → Walked
beside_a a (stepped r p m) = walked r p a m

unfoldable pub simple : ℕ → List ℕ → List ℕ → List ℕ → List ℕ → List ℕ → Env → ℕ → Walk → Walked
simple code s t p a m e pos w =
    when code == 0 then beside_p p (unimplemented s t a m e pos w)
    else when code == 1 then beside_p p (export_statement s t p a m e pos w)
    else when code == 2 then beside_a a (local_statement s t p m e pos w)
    else when code == 3 then local_assignment s t p a m e pos w
    else when code == 4 then then_l (build s t a pos w) (λ r b. walked r p b m)
    else when code == 5 then copy_statement s t p a m e pos w
    else beside_p p (store_statement s t p a m e pos w)

-- a statement that is no call
unfoldable pub other_statement : ℕ → List ℕ → List ℕ → List ℕ → List ℕ → List ℕ → Env → ℕ → Walk → Walked
other_statement code s t p a m e pos w =
    when code == 8 then branch s t p a m e pos w
    else when code == 9 then cond_branch s t p a m e pos w
    else when code == 10 then label_statement s t p a m e pos w
    else simple code s t p a m e pos w

abbrev pub begun : ℕ → ℕ → Walk → Walk
begun ordinal statements w = record {
  st = record {
    end = w.st.end;
    temporaries = w.st.temporaries;
    sizing = record { begun = ordinal; errors = w.st.sizing.errors; first = w.st.sizing.first };
  };
  labels = w.labels;
  placed = w.placed;
  statements = statements;
  export = w.export;
}

-- a statement begins: it has its ordinal, may not follow an export, and is counted up to 4,096
unfoldable pub begin : ℕ → Walk → Step
begin ordinal w =
    when w.export.kind == 0
    then (when leb 4096 w.statements then Step.Stop 10 ordinal else Step.Next 0 (begun ordinal (w.statements + 1) w))
    else Step.Stop 20 ordinal

-- on behind the call after a macro's body
unfoldable pub returned : ℕ → Step → Step
returned next (Step.Next end w) = Step.Next next w
returned next (Step.Stop refusal ordinal) = Step.Stop refusal ordinal

unfoldable pub returned_to : ℕ → Walked → Walked
returned_to next (walked r p a m) = walked (returned next r) p a m

-- a macro's parameters, locals and labels stand in the words of its own call
abbrev pub macro_env : ℕ → Env → Env
macro_env count e = record { pointer = e.pointer; own = false; count = count }

-- where the body of a macro with n parameters begins, behind their names
unfoldable pub body_at : ℕ → ℕ → ℕ
body_at at n = after at (1 + 2 * (n % 16))

unfoldable pub first_ordinal : List ℕ → ℕ → ℕ
first_ordinal t id = slice_index t (3200 + id % 128)

-- what enters a macro: its scope and the other lists, the macro's number, how many parameters, where the call ends, the state
abbrev pub Enter : Type 0
Enter = List ℕ → List ℕ → List ℕ → Env → ℕ → ℕ → ℕ → State → Walk → Walked

unfoldable pub macro_statement : Enter → List ℕ → List ℕ → List ℕ → List ℕ → List ℕ → Env → ℕ → ℕ → ℕ → Walk → Stepped
macro_statement enter s t p a m e pos id n w =
    on_args (macro_args s t p a m (replicate 406 0) e pos id n w.st)
    (λ next st b u q. without_p (enter q b u e id n next st w))
    (λ k b u. stepped (stop k w) b u)

unfoldable pub call_named : Enter → Called → List ℕ → List ℕ → List ℕ → List ℕ → List ℕ → Env → ℕ → ℕ → Walk → Stepped
call_named enter Called.DelaySlot s t p a m e pos n w = then_l (delay_slot s a pos n w) λ r b. stepped r b m
call_named enter (Called.UserOp id) s t p a m e pos n w = user_op_statement s t p a m e pos id n w
call_named enter (Called.Macro id) s t p a m e pos n w = macro_statement enter s t p a m e pos id n w
call_named enter (Called.No k) s t p a m e pos n w = stepped (stop k w) a m

unfoldable pub call_statement : Enter → List ℕ → List ℕ → List ℕ → List ℕ → List ℕ → Env → ℕ → Walk → Stepped
call_statement enter s t p a m e pos w =
    call_named enter (called_of s t (le16 s (pos + 1))) s t p a m e pos (slice_index s (pos + 3)) w

unfoldable pub statement_by : ℕ → Enter → List ℕ → List ℕ → Env → ℕ → List ℕ → List ℕ → List ℕ → Walk → Walked
statement_by code enter s t e pos p a m w =
    when code == 7 then beside_p p (call_statement enter s t p a m e pos w) else other_statement code s t p a m e pos w

unfoldable pub statement_begun : Step → Enter → List ℕ → List ℕ → Env → ℕ → List ℕ → List ℕ → List ℕ → Walked
statement_begun (Step.Next next w) enter s t e pos p a m = statement_by (slice_index s (pos + 0)) enter s t e pos p a m w
statement_begun (Step.Stop refusal ordinal) enter s t e pos p a m = walked (Step.Stop refusal ordinal) p a m

unfoldable pub resolve_statement : Enter → List ℕ → List ℕ → Env → ℕ → ℕ → List ℕ → List ℕ → List ℕ → Walk → Walked
resolve_statement enter s t e pos ordinal p a m w = statement_begun (begin ordinal w) enter s t e pos p a m

-- a statement at a position, with its ordinal
abbrev pub Statement : Type 0
Statement = ℕ → ℕ → List ℕ → List ℕ → List ℕ → Walk → Walked

-- a statement that begins at a position ends behind it, inside a stream of so many bytes
unfoldable pub forward : ℕ → ℕ → ℕ → Bool
forward pos next len = nat_lt pos next && nat_le next len

-- k statements from a position on, the first number i of a body whose first has that ordinal, in a stream of so many bytes.
-- Each ends behind its beginning; one that did not would be refused as cut.
unfoldable pub resolve_all : Statement → ℕ → ℕ → ℕ → ℕ → ℕ → List ℕ → List ℕ → List ℕ → Walk → Walked
resolve_all resolve len zero i ordinal pos p a m w = walked (Step.Next pos w) p a m
resolve_all resolve len (suc k) i ordinal pos p a m w =
    on_step (resolve pos ((ordinal + i) % 2 ^ 64) p a m w) λ next w1 q b u.
    when forward pos next len then resolve_all resolve len k (suc i) ordinal next q b u w1 else walked (stop 3 w1) q b u

-- the body of a macro that stands at a position, with its parameters, in a scope of its own
unfoldable pub macro_body : Enter → List ℕ → List ℕ → ℕ → List ℕ → List ℕ → List ℕ → Env → ℕ → ℕ → State → Walk → Walked
macro_body enter s t at p a m e id n st w =
    resolve_all
    (resolve_statement enter s t (macro_env n e)) (length s)
    (le16 s (body_at at n + 0)) 0 (first_ordinal t id) (after (body_at at n) 2) p a m (with_state st w)

-- with macro calls so deep at most
unfoldable pub enter_macro : ℕ → List ℕ → List ℕ → Enter
enter_macro zero s t p a m e id n next st w = walked (stop 11 w) p a m
enter_macro (suc d) s t p a m e id n next st w =
    returned_to next (macro_body (enter_macro d s t) s t (macro_at t id) p a m e id n st w)

unfoldable pub resolve_body : ℕ → List ℕ → List ℕ → List ℕ → List ℕ → List ℕ → Env → ℕ → ℕ → ℕ → Walk → Walked
resolve_body deep s t p a m e pos n ordinal w = resolve_all (resolve_statement (enter_macro deep s t) s t e) (length s) n 0 ordinal pos p a m w
