-- Branches: to a label of the section, or to an address, which a direct jump takes as it is and an indirect one reads. In
-- all of these s is the stream, t the section's table, p the scope's list, a the actions, m the temporaries, e the
-- environment, st the state, w the walk.
use Rattle.std.specs.Prelude.{ℕ, ◌+◌, List, ◌==◌, slice_index}
use Rattle.access.specs.Le.{le16, le64}
use Rattle.list_values.specs.declared.value.Value.{Value}
use Rattle.list_pushes.specs.declared.push.State.{State}
use Rattle.list_pushes.specs.declared.push.Env.{Env}
use Rattle.prelude.specs.Base.{when◌then◌else◌}
use Rattle.list_values.specs.Values.{absent, no_output}
use Rattle.list_pushes.specs.Pushes.{on_read, push_op}
use Rattle.expr_scope.specs.declared.scope.ExprValue.{ExprValue}
use Rattle.expr_scope.specs.Outcomes.{Meaning}
use Rattle.expr_scope.specs.Scopes.{resolve_ident}
use Rattle.expr_reading.specs.Reading.{constant, read_operand}
use Rattle.expr_terms.specs.Answers.{on_operand, after}
use Rattle.expr_resolver.specs.Expressions.{expr_value, resolve_expr}
use Rattle.stmt_walk.specs.Outcomes.{Walk}
use Rattle.stmt_walk.specs.Walks.{Stepped, stepped, Walked, walked, step_pushed, beside_p, stop, pushed_then}
use Rattle.stmt_branches.specs.Labels.{get_or_insert_label, on_label, resolve_label, labelled}

unfoldable pub push_label : List ℕ → List ℕ → List ℕ → List ℕ → Env → ℕ → ℕ → Walk → Stepped
push_label s t a m e id next w =
    step_pushed (push_op s t a m e 62 id 0 no_output absent absent w.st) (pushed_then next (labelled id 1 w.st w))

unfoldable pub label_statement : List ℕ → List ℕ → List ℕ → List ℕ → List ℕ → Env → ℕ → Walk → Walked
label_statement s t p a m e pos w =
    on_label (resolve_label p (le16 s (pos + 1)) w.labels)
    (λ id q. beside_p q (push_label s t a m e id (after pos 3) w))
    (λ n q. walked (stop n w) q a m)

-- the branch's hint stands at a position
unfoldable pub branch_to : List ℕ → List ℕ → List ℕ → List ℕ → Env → Value → Value → ℕ → State → Walk → Stepped
branch_to s t a m e cond address hint st w =
    step_pushed (push_op s t a m e 60 (slice_index s (hint + 0)) 2 no_output cond address st) (pushed_then (after hint 1) w)

unfoldable pub branch_label : List ℕ → List ℕ → List ℕ → List ℕ → Env → ℕ → Value → ℕ → State → Walk → Stepped
branch_label s t a m e id cond next st w =
    step_pushed (push_op s t a m e 61 id 2 no_output cond (constant 0) st) (pushed_then next (labelled id 0 st w))

unfoldable pub label_branch : List ℕ → List ℕ → List ℕ → List ℕ → List ℕ → Env → ℕ → Value → State → Walk → Walked
label_branch s t p a m e pos cond st w =
    on_label (get_or_insert_label p (le16 s (pos + 1)) w.labels)
    (λ id q. beside_p q (branch_label s t a m e id cond (after pos 4) st w))
    (λ n q. walked (stop n w) q a m)

-- a name, or an integer with a size
unfoldable pub jump_value : List ℕ → List ℕ → List ℕ → ℕ → Env → Meaning
jump_value s t p pos e =
    when slice_index s (pos + 0) == 0 then resolve_ident s t p e (le16 s (pos + 1))
    else Meaning.Means (ExprValue.Const (le64 s (after pos 1)) (le16 s (pos + 9)))

unfoldable pub after_jump : List ℕ → ℕ → ℕ
after_jump s pos = when slice_index s (pos + 0) == 0 then after pos 3 else after pos 11

-- a direct jump to a subtable takes its SubtableRef at pointer size
unfoldable pub direct_address : ℕ → Value → Value
direct_address pointer v =
    when v.kind == 4 then record { kind = 5; number = v.number; offset = v.offset; size = pointer } else v

unfoldable pub direct : List ℕ → List ℕ → List ℕ → List ℕ → Env → ExprValue → Value → ℕ → State → Walk → Stepped
direct s t a m e (ExprValue.Local v) cond hint st w = branch_to s t a m e cond (direct_address e.pointer v) hint st w
direct s t a m e (ExprValue.Unbound v) cond hint st w = stepped (stop 29 w) a m
direct s t a m e (ExprValue.Const n z) cond hint st w = stepped (stop 29 w) a m
direct s t a m e (ExprValue.Apply operation) cond hint st w = stepped (stop 29 w) a m
direct s t a m e (ExprValue.RamRef access) cond hint st w = stepped (stop 29 w) a m
direct s t a m e (ExprValue.RegisterRef access) cond hint st w = stepped (stop 29 w) a m
direct s t a m e (ExprValue.AddressOf v z) cond hint st w = stepped (stop 29 w) a m
direct s t a m e (ExprValue.BitRange r) cond hint st w = stepped (stop 29 w) a m

unfoldable pub indirect : List ℕ → List ℕ → List ℕ → List ℕ → Env → ExprValue → Value → ℕ → State → Walk → Stepped
indirect s t a m e x cond hint st w =
    on_read (read_operand s t a m e x st)
    (λ v st1 b u. branch_to s t b u e cond v hint st1 w)
    (λ n b u. stepped (stop n w) b u)

unfoldable pub jump_to : ℕ → List ℕ → List ℕ → List ℕ → List ℕ → Env → ExprValue → Value → ℕ → State → Walk → Stepped
jump_to code s t a m e x cond hint st w =
    when code == 0 then direct s t a m e x cond hint st w else indirect s t a m e x cond hint st w

unfoldable pub jump_meant : Meaning → ℕ → List ℕ → List ℕ → List ℕ → List ℕ → Env → Value → ℕ → State → Walk → Stepped
jump_meant (Meaning.Means x) code s t a m e cond hint st w = jump_to code s t a m e x cond hint st w
jump_meant (Meaning.Wrong n) code s t a m e cond hint st w = stepped (stop n w) a m

unfoldable pub jump : List ℕ → List ℕ → List ℕ → List ℕ → List ℕ → Env → ℕ → Value → State → Walk → Stepped
jump s t p a m e pos cond st w =
    jump_meant (jump_value s t p (after pos 1) e) (slice_index s (pos + 0)) s t a m e cond (after_jump s (after pos 1)) st w

unfoldable pub resolve_branch : List ℕ → List ℕ → List ℕ → List ℕ → List ℕ → Env → ℕ → Value → State → Walk → Walked
resolve_branch s t p a m e pos cond st w =
    when slice_index s (pos + 0) == 2 then label_branch s t p a m e pos cond st w
    else beside_p p (jump s t p a m e pos cond st w)

unfoldable pub branch : List ℕ → List ℕ → List ℕ → List ℕ → List ℕ → Env → ℕ → Walk → Walked
branch s t p a m e pos w = resolve_branch s t p a m e (after pos 1) (constant 1) w.st w

unfoldable pub cond_branch : List ℕ → List ℕ → List ℕ → List ℕ → List ℕ → Env → ℕ → Walk → Walked
cond_branch s t p a m e pos w =
    on_operand (expr_value (resolve_expr 32 s t p e) s t e (after pos 1) a m w.st)
    (λ v next st b u. resolve_branch s t p b u e next v st w)
    (λ n b u. walked (stop n w) p b u)
