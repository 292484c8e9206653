-- The word that asks for progress (this project's own).
use Rattle.std.specs.Prelude.{ℕ, List, [], ◌∷◌, Bool, false, if◌then◌else◌, codes}
use Rattle.std.specs.Str.{bytes_eq}

-- calls are to be told where the first word is `--progress`
abbrev pub asks_progress : List (List ℕ) → Bool
asks_progress [] = false
asks_progress (word ∷ words) = bytes_eq (codes "--progress") word

-- what stands behind it is the command line
abbrev pub behind_progress : List (List ℕ) → List (List ℕ)
behind_progress [] = []
behind_progress (word ∷ words) = if bytes_eq (codes "--progress") word then words else word ∷ words
