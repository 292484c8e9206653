-- Places in a template: JSON pointers (RFC 6901). The root is the empty text.
use Rattle.std.specs.Prelude.{ℕ, nat_eq, List, [], ◌∷◌, ◌++◌, codes, if◌then◌else◌, decimal}

-- a text with a word in place of each byte b
abbrev pub replaced : ℕ → List ℕ → List ℕ → List ℕ
replaced b word [] = []
replaced b word (c ∷ cs) = if nat_eq b c then word ++ replaced b word cs else c ∷ replaced b word cs

-- a name in a pointer: first each `~` becomes `~0`, then each `/` becomes `~1`
abbrev pub escaped : List ℕ → List ℕ
escaped name = replaced 47 (codes "~1") (replaced 126 (codes "~0") name)

-- the member of a name, at an object's place
abbrev pub member_place : List ℕ → List ℕ → List ℕ
member_place at name = at ++ (47 ∷ []) ++ escaped name

-- the item of an index, at a list's place
abbrev pub item_at : List ℕ → ℕ → List ℕ
item_at at i = at ++ (47 ∷ []) ++ decimal i
