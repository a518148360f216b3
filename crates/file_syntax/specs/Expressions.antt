-- Expressions, each ahead of its parts, as a cursor passes them. In all of these s is the stream, c the cursor, m the number
-- of names.
use Rattle.std.specs.Prelude.{ℕ, zero, suc, List, [], ◌∷◌, get_or}
use Rattle.file_syntax.specs.Cursors.{Cursor, refuse, skip, code, small_count, name, name_or, size, size_or, bits}
use Rattle.access.specs.Loops.{run}

abbrev pub address_of : List ℕ → ℕ → Cursor → Cursor
address_of s m c = name s m (size_or s c)

-- the space and the size of a dereference or a store
abbrev pub space : List ℕ → ℕ → Cursor → Cursor
space s m c = size_or s (name_or s m c)

-- the name and the count of arguments of a call
abbrev pub call : List ℕ → ℕ → Cursor → Cursor
call s m c = small_count s (name s m c)

-- as many parts, each read by f, as the cursor's number says
unfoldable pub counted : (Cursor → Cursor) → Cursor → Cursor
counted f c = run c.val 0 (λ _. f) c

-- the kinds of expressions, in the order of their codes
pub data Kind : Type 0 where
  ident integer address truncate slice operator deref pool calling : Kind

unfoldable pub kind_of : ℕ → Kind
kind_of b = get_or (ident ∷ integer ∷ address ∷ truncate ∷ slice ∷ operator ∷ deref ∷ pool ∷ []) b calling

-- what follows the code, where f reads a part
unfoldable pub after_code : Kind → List ℕ → ℕ → (Cursor → Cursor) → Cursor → Cursor
after_code ident s m f k = name s m k
after_code integer s m f k = skip s 8 k
after_code address s m f k = address_of s m k
after_code truncate s m f k = size s (f k)
after_code slice s m f k = bits s (f k)
after_code operator s m f k = f (code s 39 (f k))
after_code deref s m f k = f (space s m k)
after_code pool s m f k = counted f (small_count s k)
after_code calling s m f k = counted f (call s m k)

-- an expression that is nested at most d deep; one deeper is 4 at its code, once the code is known
unfoldable pub expr : ℕ → List ℕ → ℕ → Cursor → Cursor
expr zero s m c = refuse 4 (code s 9 c)
expr (suc d) s m c = after_code (kind_of (code s 9 c).val) s m (expr d s m) (code s 9 c)

abbrev pub exprs : ℕ → List ℕ → ℕ → Cursor → Cursor
exprs d s m c = counted (expr d s m) c
