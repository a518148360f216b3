-- Little-endian numbers in a list of bytes; 0 past its end.
use Rattle.std.specs.Prelude.{ℕ, ◌+◌, ◌*◌, List, get_or}

unfoldable pub le16 : List ℕ → ℕ → ℕ
le16 s p = get_or s p 0 + 256 * get_or s (p + 1) 0

unfoldable pub le32 : List ℕ → ℕ → ℕ
le32 s p = le16 s p + 65536 * le16 s (p + 2)

unfoldable pub le64 : List ℕ → ℕ → ℕ
le64 s p = le32 s p + 4294967296 * le32 s (p + 4)
