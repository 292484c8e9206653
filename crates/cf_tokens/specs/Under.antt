-- The path of what has a name in a folder (this project's own).
use Rattle.std.specs.Prelude.{ℕ, List, ◌++◌, ◌∷◌}

-- a slash, which is 47, stands between them
abbrev pub under : List ℕ → List ℕ → List ℕ
under folder name = folder ++ 47 ∷ name
