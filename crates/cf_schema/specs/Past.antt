-- What follows the front of a text (this project's own).
use Rattle.std.specs.Prelude.{◌≡◌, ℕ, List, length, take, drop, true, false, Option, Some, None}
use Rattle.std.specs.Str.{bytes_eq}

-- the rest of the text behind `front`, or nothing where the text doesn't begin with it
abbrev pub IsBehind : List ℕ → List ℕ → Option (List ℕ) → Type 0
IsBehind front text None = bytes_eq (take (length front) text) front ≡ false
IsBehind front text (Some rest) = (bytes_eq (take (length front) text) front ≡ true) × (rest ≡ drop (length front) text)
