-- The bytes of a row of a token table (this project's own).
use Rattle.std.specs.Prelude.{ℕ, ◌+◌, List, [], ◌∷◌, ◌++◌, length}
use Rattle.byteorder.specs.Endian.{big_bytes}

-- What stands behind the gate of a row: the length of its body, then the body, and the next gate, which is shut. The body is the length of
-- the spelling of its first entry, that spelling, and the spelling of the second.
abbrev pub row_bytes : List ℕ → List ℕ → List ℕ
row_bytes first second =
    (((big_bytes 4 (4 + length first + length second) ++ big_bytes 4 (length first)) ++ first) ++ second) ++ 0 ∷ []
