-- Statements, and what only they hold, as a cursor passes them. In all of these s is the stream, c the cursor, m the number
-- of names.
use Rattle.std.specs.Prelude.{ℕ, List, [], ◌∷◌, get_or}
use Rattle.file_syntax.specs.Cursors.{Cursor, skip, code, name, size, size_or}
use Rattle.access.specs.Loops.{run}
use Rattle.file_syntax.specs.Expressions.{space, call, expr, exprs}

pub data Jump : Type 0 where
  to_name to_integer : Jump

unfoldable pub jump_of : ℕ → Jump
jump_of b = get_or (to_name ∷ []) b to_integer

unfoldable pub after_jump : Jump → List ℕ → ℕ → Cursor → Cursor
after_jump to_name s m k = name s m k
after_jump to_integer s m k = size s (skip s 8 k)

unfoldable pub jump_label : List ℕ → ℕ → Cursor → Cursor
jump_label s m c = after_jump (jump_of (code s 2 c).val) s m (code s 2 c)

pub data Target : Type 0 where
  direct indirect label : Target

unfoldable pub target_of : ℕ → Target
target_of b = get_or (direct ∷ indirect ∷ []) b label

unfoldable pub after_target : Target → List ℕ → ℕ → Cursor → Cursor
after_target direct s m k = jump_label s m k
after_target indirect s m k = jump_label s m k
after_target label s m k = name s m k

unfoldable pub branch_dst : List ℕ → ℕ → Cursor → Cursor
branch_dst s m c = after_target (target_of (code s 3 c).val) s m (code s 3 c)

pub data Form : Type 0 where
  unimplemented export local assignment build copy store calling branch cond_branch placed : Form

unfoldable pub form_of : ℕ → Form
form_of b = get_or (unimplemented ∷ export ∷ local ∷ assignment ∷ build ∷ copy ∷ store ∷ calling ∷ branch ∷ cond_branch ∷ []) b placed

unfoldable pub after_form : Form → List ℕ → ℕ → Cursor → Cursor
after_form unimplemented s m k = k
after_form export s m k = expr 32 s m k
after_form local s m k = size_or s (name s m k)
after_form assignment s m k = expr 32 s m (size_or s (name s m k))
after_form build s m k = name s m k
after_form copy s m k = expr 32 s m (expr 32 s m k)
after_form store s m k = expr 32 s m (expr 32 s m (space s m k))
after_form calling s m k = exprs 32 s m (call s m k)
after_form branch s m k = code s 3 (branch_dst s m k)
after_form cond_branch s m k = code s 3 (branch_dst s m (expr 32 s m k))
after_form placed s m k = name s m k

unfoldable pub statement : List ℕ → ℕ → Cursor → Cursor
statement s m c = after_form (form_of (code s 11 c).val) s m (code s 11 c)

-- n statements
unfoldable pub body : List ℕ → ℕ → ℕ → Cursor → Cursor
body s m n c = run n 0 (λ _. statement s m) c
