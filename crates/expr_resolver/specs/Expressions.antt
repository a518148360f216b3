-- Expressions, resolved by a walk over their prefix code. A step takes the walk over a part, one level deeper, as an
-- argument. In all of these s is the stream, t the section's table, p the scope's list, a the actions, m the temporaries, e
-- the environment, st the state.
use Rattle.std.specs.Prelude.{ℕ, zero, suc, ◌+◌, ◌*◌, max, List, get_or, replicate, eqb, ltb}
use Rattle.access.specs.Le.{le16, le64}
use Rattle.file_syntax.specs.Cursors.{cursor}
use Rattle.file_syntax.specs.Expressions as section
use Rattle.expr_inbuilts.specs.Outcomes.{Inbuilt}
use Rattle.list_values.specs.declared.value.Value.{Value}
use Rattle.list_pushes.specs.declared.push.State.{State}
use Rattle.list_pushes.specs.declared.push.Env.{Env}
use Rattle.list_pushes.specs.Outcomes.{Read}
use Rattle.prelude.specs.Base.{when◌then◌else◌}
use Rattle.list_values.specs.Values.{absent}
use Rattle.expr_scope.specs.declared.scope.ExprValue.{ExprValue}
use Rattle.expr_scope.specs.Outcomes.{Meaning}
use Rattle.expr_terms.specs.Outcomes.{Expr}
use Rattle.expr_terms.specs.Outcomes.{Operand}
use Rattle.expr_resolver.specs.declared.expr.Order.{Order}
use Rattle.expr_scope.specs.Outcomes.{Args}
use Rattle.expr_terms.specs.Outcomes.{Callee}
use Rattle.expr_scope.specs.Slots.{put_arg}
use Rattle.expr_scope.specs.Scopes.{resolve_ident}
use Rattle.expr_reading.specs.Reading.{read_operand}
use Rattle.expr_terms.specs.Answers.{ExprOut, resolved, on_expr, OperandOut, operand, on_operand, ArgsOut, passed, on_args, operand_of, applied_to, after}
use Rattle.expr_terms.specs.Slices.{slice_bits}
use Rattle.expr_terms.specs.Addresses.{resolve_address}
use Rattle.expr_terms.specs.Calls.{callee_of, applied, call_user_op, subpiece}

unfoldable pub value_then : ℕ → Read → Operand
value_then next (Read.Value v st) = Operand.Value v next st
value_then next (Read.No n) = Operand.No n

unfoldable pub means_at : Meaning → ℕ → State → Expr
means_at (Meaning.Means x) next st = Expr.Value next x st
means_at (Meaning.Wrong n) next st = Expr.No n

-- the address of what is a local, and nothing else
unfoldable pub local_address : ExprValue → ℕ → ℕ → State → Expr
local_address (ExprValue.Local v) size next st = Expr.Value next (ExprValue.AddressOf v size) st
local_address (ExprValue.Unbound v) size next st = Expr.No 30
local_address (ExprValue.Const n z) size next st = Expr.No 30
local_address (ExprValue.Apply operation) size next st = Expr.No 30
local_address (ExprValue.RamRef access) size next st = Expr.No 30
local_address (ExprValue.RegisterRef access) size next st = Expr.No 30
local_address (ExprValue.AddressOf v z) size next st = Expr.No 30
local_address (ExprValue.BitRange r) size next st = Expr.No 30

unfoldable pub address_meant : Meaning → ℕ → ℕ → State → Expr
address_meant (Meaning.Means x) size next st = local_address x size next st
address_meant (Meaning.Wrong n) size next st = Expr.No n

unfoldable pub address_of : List ℕ → List ℕ → List ℕ → ℕ → Env → State → Expr
address_of s t p pos e st = address_meant (resolve_ident s t p e (le16 s (pos + 3))) (le16 s (pos + 1)) (after pos 5) st

-- a name, an integer or the address of a local
unfoldable pub atom : ℕ → List ℕ → List ℕ → List ℕ → ℕ → Env → State → Expr
atom code s t p pos e st =
    when eqb code 0 then means_at (resolve_ident s t p e (le16 s (pos + 1))) (after pos 3) st
    else when eqb code 1 then Expr.Value (after pos 9) (ExprValue.Const (le64 s (after pos 1)) 65535) st
    else address_of s t p pos e st

-- the operation of an operator: the six greater ones are the lesser ones swapped
unfoldable pub operation_of : ℕ → ℕ
operation_of code =
    when eqb code 33 then 12
    else when eqb code 34 then 13
    else when eqb code 35 then 10
    else when eqb code 36 then 11
    else when eqb code 37 then 20
    else when eqb code 38 then 21
    else code

-- where the expression at a position ends
unfoldable pub skip_expr : List ℕ → ℕ → ℕ
skip_expr s pos = (section.expr 32 s (le16 s 2) (cursor pos 0 0)).at

abbrev pub order : ℕ → ℕ → ℕ → Order
order op first second = record { op = op; first = first; second = second }

unfoldable pub order_of : ℕ → ℕ → ℕ → Order
order_of code first second = when ltb code 33 then order code first second else order (operation_of code) second first

-- the first operand ends where the operator's code stands
unfoldable pub operands_around : List ℕ → ℕ → ℕ → Order
operands_around s first middle = order_of (get_or s (middle + 0) 0) first (after middle 1)

unfoldable pub operands_of : List ℕ → ℕ → Order
operands_of s pos = operands_around s (after pos 1) (skip_expr s (after pos 1))

unfoldable pub apply1 : ℕ → Operand → Expr
apply1 op (Operand.Value v next st) = applied op 0 1 v absent next st
apply1 op (Operand.No n) = Expr.No n

unfoldable pub apply2 : ℕ → Value → ℕ → Operand → Expr
apply2 op v end (Operand.Value w next st) = applied op 0 2 v w (max end next) st
apply2 op v end (Operand.No n) = Expr.No n

-- where the part of a truncation, a slice or a dereference stands, after its code
unfoldable pub part_at : ℕ → ℕ
part_at code = when eqb code 6 then 5 else 1

unfoldable pub with_part : ℕ → List ℕ → List ℕ → List ℕ → List ℕ → ℕ → Env → ExprValue → ℕ → State → ExprOut
with_part code s t a m pos e x next st =
    when eqb code 3 then slice_bits s t a m e x 0 (8 * le16 s (next + 0)) (after next 2) st
    else when eqb code 4 then slice_bits s t a m e x (le16 s (next + 0)) (le16 s (next + 2)) (after next 4) st
    else resolve_address s t a m e (le16 s (pos + 1)) (le16 s (pos + 3)) x next st

-- a walk over the expression at a position
abbrev pub Walk : Type 0
Walk = ℕ → List ℕ → List ℕ → State → ExprOut

-- resolved, then read
unfoldable pub expr_value : Walk → List ℕ → List ℕ → Env → ℕ → List ℕ → List ℕ → State → OperandOut
expr_value walk s t e pos a m st =
    on_expr (walk pos a m st)
    (λ x next st1 b w. operand_of (read_operand s t b w e x st1) (value_then next))
    (λ n b w. operand (Operand.No n) b w)

-- what has one part: a truncation, a slice or a dereference
unfoldable pub part : Walk → ℕ → List ℕ → List ℕ → Env → ℕ → List ℕ → List ℕ → State → ExprOut
part walk code s t e pos a m st =
    on_expr (walk (after pos (part_at code)) a m st)
    (λ x next st1 b w. with_part code s t b w pos e x next st1)
    (λ n b w. resolved (Expr.No n) b w)

unfoldable pub binary : Walk → List ℕ → List ℕ → Env → Order → List ℕ → List ℕ → State → ExprOut
binary walk s t e o a m st =
    on_operand (expr_value walk s t e o.first a m st)
    (λ v next st1 b w. applied_to (expr_value walk s t e o.second b w st1) (apply2 o.op v next))
    (λ n b w. resolved (Expr.No n) b w)

unfoldable pub resolve_op : Walk → List ℕ → List ℕ → Env → ℕ → List ℕ → List ℕ → State → ExprOut
resolve_op walk s t e pos a m st = binary walk s t e (operands_of s pos) a m st

-- each argument is read before the next is resolved
unfoldable pub second_of : Walk → List ℕ → List ℕ → Env → ℕ → OperandOut → ExprOut
second_of walk s t e op first =
    on_operand first
    (λ v next st1 b w. applied_to (expr_value walk s t e next b w st1) (apply2 op v 0))
    (λ n b w. resolved (Expr.No n) b w)

unfoldable pub call_inbuilt : Walk → List ℕ → List ℕ → Env → ℕ → Inbuilt → List ℕ → List ℕ → State → ExprOut
call_inbuilt walk s t e pos f a m st =
    when eqb f.arguments 2
    then second_of walk s t e f.op (expr_value walk s t e (after pos 4) a m st)
    else applied_to (expr_value walk s t e (after pos 4) a m st) (apply1 f.op)

-- k arguments, resolved only, the first into slot i
unfoldable pub resolve_args : Walk → ℕ → ℕ → ℕ → List ℕ → List ℕ → List ℕ → State → ArgsOut
resolve_args walk zero i pos a m args st = passed (Args.Done pos st) a m args
resolve_args walk (suc k) i pos a m args st =
    on_expr (walk pos a m st)
    (λ x next st1 b w. resolve_args walk k (suc i) next b w (put_arg args i x) st1)
    (λ n b w. passed (Args.No n) b w args)

unfoldable pub user_op : Walk → List ℕ → List ℕ → Env → ℕ → ℕ → ℕ → List ℕ → List ℕ → State → ExprOut
user_op walk s t e pos id n a m st =
    on_args (resolve_args walk n 0 (after pos 4) a m (replicate 64 0) st)
    (λ next st1 b w args. call_user_op s t b w args n id next e st1)
    (λ k b w. resolved (Expr.No k) b w)

unfoldable pub call_named : Walk → List ℕ → List ℕ → List ℕ → Env → ℕ → ℕ → ℕ → Callee → List ℕ → List ℕ → State → ExprOut
call_named walk s t p e pos name n (Callee.Inbuilt f) a m st = call_inbuilt walk s t e pos f a m st
call_named walk s t p e pos name n (Callee.UserOp id) a m st = user_op walk s t e pos id n a m st
call_named walk s t p e pos name n Callee.Local a m st = subpiece s t p a m pos name n e st
call_named walk s t p e pos name n (Callee.No k) a m st = resolved (Expr.No k) a m

unfoldable pub resolve_call : Walk → List ℕ → List ℕ → List ℕ → Env → ℕ → List ℕ → List ℕ → State → ExprOut
resolve_call walk s t p e pos a m st =
    call_named walk s t p e pos (le16 s (pos + 1)) (get_or s (pos + 3) 0)
    (callee_of s t (le16 s (pos + 1)) (get_or s (pos + 3) 0)) a m st

unfoldable pub by_code : Walk → ℕ → List ℕ → List ℕ → List ℕ → Env → ℕ → List ℕ → List ℕ → State → ExprOut
by_code walk code s t p e pos a m st =
    when ltb code 3 then resolved (atom code s t p pos e st) a m
    else when eqb code 5 then resolve_op walk s t e pos a m st
    else when ltb code 7 then part walk code s t e pos a m st
    else when eqb code 7 then resolved (Expr.No 32) a m
    else resolve_call walk s t p e pos a m st

-- depth left, the stream, the section's table, the scope's list, the walk's own; a position, the two lists, the state
unfoldable pub resolve_expr : ℕ → List ℕ → List ℕ → List ℕ → Env → ℕ → List ℕ → List ℕ → State → ExprOut
resolve_expr zero s t p e pos a m st = resolved (Expr.No 4) a m
resolve_expr (suc d) s t p e pos a m st = by_code (resolve_expr d s t p e) (get_or s (pos + 0) 0) s t p e pos a m st
