-- What a library of templates tells of itself, and what a fetch does (this project's own).
use Rattle.std.specs.Prelude.{◌≡◌, ℕ, ◌≤◌, List, ⊤, None, Some, Result, Ok, Err}
use Rattle.std.specs.Option.{option_map}
use Rattle.std.specs.List.{find}
use Rattle.std.specs.Str.{bytes_eq}
use Rattle.std.specs.Prelude.{Option}
use Rattle.std.specs.Global.{Vec}
use Rattle.cf_tree.specs.Counts.{HasRisen}
use Rattle.cf_io.specs.declared.library.FetchFault.{FetchFault}
use Rattle.cf_io.specs.declared.library.FetchFault.TheVariants.{Failed, NoMemory}

-- names with the bytes that stand under them (this project's own)
abbrev pub Texts : Type 0
Texts = List (List ℕ × List ℕ)

-- the bytes under a name; where the name stands twice, its first place counts (this project's own)
abbrev pub text_named : List ℕ → Texts → Option (List ℕ)
text_named name texts = option_map (λ t. t.1) (find (λ t. bytes_eq name t.0) texts)

-- what was found under the name is what stands there; a library that tells no content claims nothing
abbrev pub StandsUnder : Option Texts → List ℕ → Option (List ℕ) → Type 0
StandsUnder None name found = ⊤
StandsUnder (Some texts) name found = found ≡ text_named name texts

-- the bytes that a fetch found
abbrev pub bytes_found : Option (Vec ℕ) → Option (List ℕ)
bytes_found found = option_map (λ v. v.items) found

-- a fetch answers what stands under the name, None exactly where nothing does
abbrev pub Fetches : Option Texts → List ℕ → Result (Option (Vec ℕ)) FetchFault → Type 0
Fetches texts name (Ok found) = StandsUnder texts name (bytes_found found)
Fetches texts name (Err e) = ⊤

-- the count of faults never falls, and a fetch is answered Failed only where it rose
abbrev pub HasFetchCause : ℕ → ℕ → Result (Option (Vec ℕ)) FetchFault → Type 0
HasFetchCause before after (Ok found) = before ≤ after
HasFetchCause before after (Err Failed) = (before ≤ after) × HasRisen before after
HasFetchCause before after (Err NoMemory) = before ≤ after

-- the count of misses rises, while below its last value, exactly in a fetch that answers None
abbrev pub CountsMisses : ℕ → ℕ → Result (Option (Vec ℕ)) FetchFault → Type 0
CountsMisses before after (Ok None) = (before ≤ after) × HasRisen before after
CountsMisses before after (Ok (Some bytes)) = after ≡ before
CountsMisses before after (Err e) = after ≡ before
