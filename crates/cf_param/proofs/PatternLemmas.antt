-- What `Regex::new` ensures, in the words of `Pattern`.
use Rattle.std.proofs.Common.{◌≡◌, ◌≢◌, ◌⊎◌, ℕ, ◌<◌, ◌≤◌, List, Option, Some, None, true, false, IsSomeAnd, IfSome, is_some, chars, length, get_or, refl, ⊎_elim, arith}
use Rattle.std.proofs.lemmas.Bool.Decides.{nat_tests}
use Rattle.regex.specs.Patterns.{Re, find_str, default_config, Reads, Refuses, SameCaptures}
use Rattle.regex.proofs.ForCallers.{is_match_alike}
use Rattle.regex_hir.specs.Meaning.{meaning}
use Rattle.regex_hir.specs.declared.hir.Hir.{Hir}
use Rattle.regex_syntax.specs.Grammar.{read, Names, group_count}
use Rattle.regex_syntax.specs.Brackets.{Nested}
use Rattle.regex_syntax.specs.declared.error.ErrorKind.{ErrorKind}
use Rattle.regex_syntax.specs.declared.error.ErrorKind.TheVariants.{OutOfMemory, NestLimitExceeded}
use Rattle.cf_param.specs.Pattern.{is_within, is_pattern, found_in, matches_whole, anchored}

-- what `Reads` says of what was read
abbrev Says : Option (Nested Re × Names) → Re → Names → Type 0
Says o seen names = IsSomeAnd o (λ (re, found). (re.depth ≤ default_config.nest_limit) × SameCaptures seen re.value
    × (names ≡ found) × (group_count seen ≤ length names))

within : (o : Option (Nested Re × Names)) (seen : Re) (names : Names) → Says o seen names → is_within o ≡ true
within None seen names h = absurd h
within (Some x) seen names h = let deep = h.0 in grind (arith, nat_tests)

pub is_pattern-reads : (source : List ℕ) (hir : Hir) (names : Names) → Reads default_config source hir names → is_pattern source ≡ true
unfolding Reads
is_pattern-reads source hir names h = within (read default_config (chars source)) _ _ h

refused : (o : Option (Nested Re × Names)) (kind : ErrorKind) → kind ≢ OutOfMemory →
    (kind ≡ OutOfMemory) ⊎ ((o ≡ None) ⊎ ((kind ≡ NestLimitExceeded) × IfSome o (λ (re, _). default_config.nest_limit < re.depth)))
    → is_within o ≡ false
refused None kind fine h = refl
refused (Some x) kind fine h =
    ⊎_elim (λ m. absurd (fine m)) (λ r. ⊎_elim (λ e. absurd cc) (λ d. let deep = d.1 in grind (arith, nat_tests)) r) h

pub is_pattern-refuses : (source : List ℕ) (kind : ErrorKind) → kind ≢ OutOfMemory → Refuses default_config source kind → is_pattern source ≡ false
unfolding Refuses
is_pattern-refuses source kind fine h = refused (read default_config (chars source)) kind fine h

found : (o : Option (Nested Re × Names)) (seen : Re) (names : Names) → Says o seen names →
    (value : List ℕ) → ((k : ℕ) → get_or value k 0 < 256) → is_some (find_str seen value 0) ≡ found_in value o
found None seen names h value bytes = absurd h
found (Some x) seen names h value bytes = is_match_alike h.1 value bytes true 0

-- a search by the regex of the anchored pattern
pub matches_whole-reads : (pattern value : List ℕ) (hir : Hir) (names : Names) → Reads default_config (anchored pattern) hir names →
    ((k : ℕ) → get_or value k 0 < 256) → is_some (find_str (meaning hir) value 0) ≡ matches_whole pattern value
unfolding Reads
matches_whole-reads pattern value hir names h bytes = found (read default_config (chars (anchored pattern))) _ names h value bytes
