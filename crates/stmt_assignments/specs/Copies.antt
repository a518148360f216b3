-- Copies: the target is a local, a place in RAM or a range of bits, which keeps the bits around it. In all of these s is the
-- stream, t the section's table, p the scope's list, a the actions, m the temporaries, e the environment, st the state, w
-- the walk.
use Rattle.std.specs.Prelude.{ℕ, ◌+◌, ◌-◌, ◌*◌, ◌/◌, ◌%◌, ◌^◌, Bool, true, false, List, get_or, eqb, leb, Option, Some, None}
use Rattle.std.specs.Option.{option_map}
use Rattle.access.specs.Le.{le16}
use Rattle.access.specs.Mask.{mask_of}
use Rattle.list_values.specs.declared.value.Value.{Value}
use Rattle.list_pushes.specs.declared.push.State.{State}
use Rattle.list_pushes.specs.declared.push.Env.{Env}
use Rattle.list_pushes.specs.Outcomes.{Read}
use Rattle.prelude.specs.Base.{when◌then◌else◌}
use Rattle.list_values.specs.Values.{absent}
use Rattle.list_values.specs.Sizes.{size_of}
use Rattle.list_pushes.specs.Pushes.{ReadOut, read, on_read, on_tmp, add_tmp, op_to}
use Rattle.expr_scope.specs.declared.scope.ExprValue.{ExprValue}
use Rattle.expr_scope.specs.Outcomes.{Meaning}
use Rattle.expr_terms.specs.Outcomes.{Expr}
use Rattle.expr_scope.specs.Scopes.{resolve_ident, named_tmp}
use Rattle.expr_reading.specs.Reading.{constant, byte_aligned, sliced, read_value, read_operand}
use Rattle.expr_terms.specs.Answers.{ExprOut, resolved, on_expr, given, after}
use Rattle.expr_resolver.specs.Expressions.{resolve_expr}
use Rattle.stmt_walk.specs.Outcomes.{Walk}
use Rattle.stmt_walk.specs.Walks.{Stepped, stepped, Walked, walked, step_read, beside_p, stop, read_then}
use Rattle.stmt_assignments.specs.Stores.{store}
use Rattle.stmt_assignments.specs.declared.copies.Target.{Target}

-- all 64 bits but those of a bit write
abbrev pub mask_but : ℕ → ℕ → ℕ
mask_but from bits = 2 ^ 64 - 1 - mask_of bits * 2 ^ from % 2 ^ 64

-- the bits of the value shifted to their place, and merged with the rest
unfoldable pub merge_bits : List ℕ → List ℕ → List ℕ → List ℕ → Env → Value → Value → Value → ℕ → State → ReadOut
merge_bits s t a m e to prev tmp from st =
    on_read (op_to s t a m e 7 0 2 tmp tmp (constant from) st)
    (λ _ st1 b u. op_to s t b u e 26 0 2 to prev tmp st1)
    (λ n b u. read (Read.No n) b u)

unfoldable pub extend_bits : List ℕ → List ℕ → List ℕ → List ℕ → Env → Value → Value → ℕ → State → ReadOut
extend_bits s t a m e v tmp bits st =
    on_read (op_to s t a m e 43 0 1 tmp v absent st)
    (λ _ st1 b u. op_to s t b u e 24 0 2 tmp tmp (constant (mask_of bits)) st1)
    (λ n b u. read (Read.No n) b u)

-- by way of a temporary
unfoldable pub insert_in : List ℕ → List ℕ → List ℕ → List ℕ → Env → Value → Value → Value → Value → ℕ → ℕ → State → ReadOut
insert_in s t a m e v to prev tmp from bits st =
    on_read (extend_bits s t a m e v tmp bits st)
    (λ _ st1 b u. merge_bits s t b u e to prev tmp from st1)
    (λ n b u. read (Read.No n) b u)

unfoldable pub insert_bits : List ℕ → List ℕ → List ℕ → List ℕ → Env → Value → Value → Value → ℕ → ℕ → State → ReadOut
insert_bits s t a m e v to prev from bits st =
    on_tmp (add_tmp m 65535 (size_of s t m to) st)
    (λ tmp st1 u. insert_in s t a u e v to prev tmp from bits st1)
    (λ n u. read (Read.No n) a u)

-- the bits of the target that stay, in a temporary; then those of the value
unfoldable pub keep_bits : List ℕ → List ℕ → List ℕ → List ℕ → Env → Value → Value → Value → ℕ → ℕ → State → ReadOut
keep_bits s t a m e v to prev from bits st =
    on_read (op_to s t a m e 24 0 2 prev to (constant (mask_but from bits)) st)
    (λ _ st1 b u. insert_bits s t b u e v to prev from bits st1)
    (λ n b u. read (Read.No n) b u)

unfoldable pub write_bits : List ℕ → List ℕ → List ℕ → List ℕ → Env → Value → Value → ℕ → ℕ → State → ReadOut
write_bits s t a m e v to from bits st =
    when leb 64 from then read (Read.No 41) a m
    else on_tmp (add_tmp m 65535 (size_of s t m to) st)
    (λ prev st1 u. keep_bits s t a u e v to prev from bits st1)
    (λ n u. read (Read.No n) a u)

unfoldable pub copy_bits : List ℕ → List ℕ → List ℕ → List ℕ → Env → ExprValue → Value → ℕ → ℕ → State → ReadOut
copy_bits s t a m e x to from bits st =
    on_read (read_operand s t a m e x st)
    (λ v st1 b u. write_bits s t b u e v to from bits st1)
    (λ n b u. read (Read.No n) b u)

-- a range of whole bytes is a slice of the target
unfoldable pub read_sliced : Read → List ℕ → List ℕ → List ℕ → List ℕ → Env → ExprValue → ReadOut
read_sliced (Read.Value v st) s t a m e x = read_value s t a m e x true v st
read_sliced (Read.No n) s t a m e x = read (Read.No n) a m

unfoldable pub copy_bytes : List ℕ → List ℕ → List ℕ → List ℕ → Env → ExprValue → Value → ℕ → ℕ → State → ReadOut
copy_bytes s t a m e x to from bits st = read_sliced (sliced to (from / 8) (bits / 8) st) s t a m e x

unfoldable pub copy_range : List ℕ → List ℕ → List ℕ → List ℕ → Env → ExprValue → Value → ℕ → ℕ → State → ReadOut
copy_range s t a m e x to from bits st =
    when byte_aligned from bits then copy_bytes s t a m e x to from bits st else copy_bits s t a m e x to from bits st

unfoldable pub copy_ram : List ℕ → List ℕ → List ℕ → List ℕ → Env → ExprValue → Value → ℕ → ℕ → State → Walk → Stepped
copy_ram s t a m e x pointer size next st w =
    on_read (read_operand s t a m e x st)
    (λ v st1 b u. store s t b u e pointer size v next st1 w)
    (λ n b u. stepped (stop n w) b u)

unfoldable pub copy_into : List ℕ → List ℕ → List ℕ → List ℕ → Env → ExprValue → ExprValue → ℕ → State → Walk → Stepped
copy_into s t a m e x (ExprValue.Local v) next st w = step_read (read_value s t a m e x true v st) (read_then next w)
copy_into s t a m e x (ExprValue.RamRef y) next st w = copy_ram s t a m e x y.pointer y.size next st w
copy_into s t a m e x (ExprValue.BitRange r) next st w = step_read (copy_range s t a m e x r.base r.bits.from r.bits.count st) (read_then next w)
copy_into s t a m e x (ExprValue.Unbound v) next st w = stepped (stop 37 w) a m
copy_into s t a m e x (ExprValue.Const n z) next st w = stepped (stop 37 w) a m
copy_into s t a m e x (ExprValue.Apply operation) next st w = stepped (stop 37 w) a m
copy_into s t a m e x (ExprValue.RegisterRef y) next st w = stepped (stop 37 w) a m
copy_into s t a m e x (ExprValue.AddressOf v z) next st w = stepped (stop 37 w) a m

-- the name of a target, bare or truncated, or 65,535
unfoldable pub target_name : List ℕ → ℕ → ℕ
target_name s pos =
    when eqb (get_or s (pos + 0) 0) 0 then le16 s (pos + 1)
    else when eqb (get_or s (pos + 0) 0) 3 then (when eqb (get_or s (pos + 1) 0) 0 then le16 s (pos + 2) else 65535)
    else 65535

unfoldable pub target_size : List ℕ → ℕ → ℕ
target_size s pos = when eqb (get_or s (pos + 0) 0) 0 then 65535 else le16 s (pos + 4)

unfoldable pub after_target : List ℕ → ℕ → ℕ
after_target s pos = when eqb (get_or s (pos + 0) 0) 0 then after pos 3 else after pos 6

-- the size that a target is truncated to, unless it is bare
unfoldable pub truncated : List ℕ → ℕ → Option ℕ
truncated s pos = when eqb (get_or s (pos + 0) 0) 0 then None else Some (le16 s (pos + 4))

-- a target that is a name
unfoldable pub target_at : List ℕ → ℕ → Option Target
target_at s pos = option_map (λ name. record { name = name; size = truncated s pos; next = after_target s pos }) (given (target_name s pos))

-- a temporary of a target's name
unfoldable pub declared : List ℕ → List ℕ → List ℕ → Env → ℕ → ℕ → ℕ → State → ExprOut
declared t p m e name size next st =
    on_read (named_tmp t p m e name size st)
    (λ v st1 q u. resolved (Expr.Value next (ExprValue.Local v) st1) q u)
    (λ n q u. resolved (Expr.No n) q u)

-- the scope and the temporaries
unfoldable pub new_target : List ℕ → List ℕ → List ℕ → List ℕ → Env → ℕ → ℕ → State → ExprOut
new_target s t p m e pos name st =
    on_read (named_tmp t p m e name (target_size s pos) st)
    (λ v st1 q u. resolved (Expr.Value (after_target s pos) (ExprValue.Local v) st1) q u)
    (λ n q u. resolved (Expr.No n) q u)

unfoldable pub is_wrong : Meaning → Bool
is_wrong (Meaning.Wrong n) = true
is_wrong (Meaning.Means x) = false

unfoldable pub is_new : List ℕ → List ℕ → List ℕ → Env → ℕ → Bool
is_new s t p e name = when eqb name 65535 then false else is_wrong (resolve_ident s t p e name)

-- an answer, the scope, the actions and the temporaries
pub data Targeted : Type 0 where
  targeted : Expr → List ℕ → List ℕ → List ℕ → Targeted

unfoldable pub on_target : {A : Type 0} → Targeted → (ExprValue → ℕ → State → List ℕ → List ℕ → List ℕ → A) → (ℕ → List ℕ → List ℕ → List ℕ → A) → A
on_target (targeted (Expr.Value next x st) p a m) f g = f x next st p a m
on_target (targeted (Expr.No n) p a m) f g = g n p a m

-- where the actions stay
unfoldable pub beside_a : List ℕ → ExprOut → Targeted
beside_a a (resolved r p m) = targeted r p a m

-- where the scope stays
unfoldable pub in_scope : List ℕ → ExprOut → Targeted
in_scope p (resolved r a m) = targeted r p a m

-- an unknown or disallowed name as target becomes a temporary
unfoldable pub resolve_dst : List ℕ → List ℕ → List ℕ → List ℕ → List ℕ → Env → ℕ → State → Targeted
resolve_dst s t p a m e pos st =
    when is_new s t p e (target_name s pos)
    then beside_a a (new_target s t p m e pos (target_name s pos) st)
    else in_scope p (resolve_expr 32 s t p e pos a m st)

unfoldable pub copy_target : List ℕ → List ℕ → List ℕ → List ℕ → List ℕ → Env → ExprValue → ℕ → State → Walk → Walked
copy_target s t p a m e x pos st w =
    on_target (resolve_dst s t p a m e pos st)
    (λ d next st1 q b u. beside_p q (copy_into s t b u e x d next st1 w))
    (λ n q b u. walked (stop n w) q b u)

unfoldable pub copy_statement : List ℕ → List ℕ → List ℕ → List ℕ → List ℕ → Env → ℕ → Walk → Walked
copy_statement s t p a m e pos w =
    on_expr (resolve_expr 32 s t p e (after pos 1) a m w.st)
    (λ x next st b u. copy_target s t p b u e x next st w)
    (λ n b u. walked (stop n w) p b u)
