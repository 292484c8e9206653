-- Patterns by the grammar of `regex`, and whether one matches a whole text (template reference, AllowedPattern; the grammar is that of
-- the crate, this project's own choice).
use Rattle.std.specs.Prelude.{ℕ, ◌++◌, List, Option, Some, None, Bool, false, ◌&&◌, codes, chars, nat_le, is_some, not}
use Rattle.std.specs.List.{list_any}
use Rattle.regex.specs.Patterns.{Re, find_str, default_config}
use Rattle.regex_syntax.specs.Grammar.{read, Names}
use Rattle.regex_syntax.specs.Brackets.{Nested}

-- what was read nests no deeper than the crate allows
abbrev pub is_within : Option (Nested Re × Names) → Bool
is_within None = false
is_within (Some x) = nat_le x.0.depth default_config.nest_limit

-- the text is a pattern by the crate's grammar, and nests no deeper than it allows
abbrev pub is_pattern : List ℕ → Bool
is_pattern pattern = is_within (read default_config (chars pattern))

-- the pattern, anchored at both ends
abbrev pub anchored : List ℕ → List ℕ
anchored pattern = codes "\\A(?:" ++ (pattern ++ codes ")\\z")

-- the text is a pattern, alone and anchored
abbrev pub is_usable : List ℕ → Bool
is_usable pattern = is_pattern pattern && is_pattern (anchored pattern)

abbrev pub found_in : List ℕ → Option (Nested Re × Names) → Bool
found_in value None = false
found_in value (Some x) = is_some (find_str x.0.value value 0)

-- a search for the anchored pattern finds something in the value
abbrev pub matches_whole : List ℕ → List ℕ → Bool
matches_whole pattern value = found_in value (read default_config (chars (anchored pattern)))

-- a text is there that the pattern doesn't match as a whole
abbrev pub any_unmatched : List ℕ → List (List ℕ) → Bool
any_unmatched pattern ts = list_any (λ t. not (matches_whole pattern t)) ts
