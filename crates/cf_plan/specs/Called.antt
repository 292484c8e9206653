-- How code sees the answers of a stack's entries (this project's own).
use Rattle.std.specs.Prelude.{ℕ, suc, Bool, false, List, [], ◌∷◌, if◌then◌else◌}
use Rattle.std.specs.List.{list_any}
use Rattle.std.specs.Option.{option_map_or}
use Rattle.cf_entry.specs.declared.entry.Entry.{Entry}
use Rattle.cf_effect.specs.Operation.{Response, reply_in}

-- the entry writes down an answer that passes
abbrev pub reply_passes : (Response → Bool) → Entry → Bool
reply_passes test e = option_map_or test (reply_in e) false

-- how many there are up to the last that passes, this one included
abbrev pub last_place : {A : Type 0} → (A → Bool) → List A → ℕ
last_place test [] = 0
last_place test (x ∷ xs) = if list_any test xs then suc (last_place test xs) else if test x then 1 else 0
