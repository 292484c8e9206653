-- The bytes of texts, lists, options and truth values (this project's own format): numbers are big-endian, and a text or a list stands
-- behind its length in four bytes.
use Rattle.std.specs.Prelude.{ℕ, ◌≡◌, ◌+◌, ◌<◌, ◌≤◌, ◌^◌, vec_len, vec_capacity, Bool, true, false, List, [], ◌∷◌, ◌++◌, length, Option, Some, None}
use Rattle.std.specs.List.{flat_map, AllByRecursion}
use Rattle.std.specs.Int.{w32, w64, to_be_bytes}
use Rattle.std.specs.Str.{IsUtf8}
use Rattle.std.specs.Global.{Vec}

-- a number in four bytes, and one in eight
abbrev pub four_bytes : ℕ → List ℕ
four_bytes n = to_be_bytes w32 n

abbrev pub eight_bytes : ℕ → List ℕ
eight_bytes n = to_be_bytes w64 n

-- a run of bytes behind its length
abbrev pub text_bytes : List ℕ → List ℕ
text_bytes t = four_bytes (length t) ++ t

-- members one after another behind their number
abbrev pub list_bytes : {X : Type 0} → (X → List ℕ) → List X → List ℕ
list_bytes spell xs = four_bytes (length xs) ++ flat_map spell xs

-- a 0, or a 1 and the value
abbrev pub option_bytes : {X : Type 0} → (X → List ℕ) → Option X → List ℕ
option_bytes spell None = 0 ∷ []
option_bytes spell (Some x) = 1 ∷ spell x

abbrev pub truth_byte : Bool → ℕ
truth_byte false = 0
truth_byte true = 1

-- two texts, one behind the other
abbrev pub pair_bytes : List ℕ × List ℕ → List ℕ
pair_bytes p = text_bytes p.0 ++ text_bytes p.1

-- what has a spelling: a run of bytes whose length four bytes hold
abbrev pub IsRun : List ℕ → Type 0
IsRun t = length t < 2 ^ 32

-- a text is such a run in UTF-8
abbrev pub IsText : List ℕ → Type 0
IsText t = (length t < 2 ^ 32) × IsUtf8 t

-- a pair of texts
abbrev pub IsPair : List ℕ × List ℕ → Type 0
IsPair p = IsText p.0 × IsText p.1

-- a template: its name, and its bytes
abbrev pub IsTemplate : List ℕ × List ℕ → Type 0
IsTemplate p = IsText p.0 × IsRun p.1

-- a number that eight bytes hold
abbrev pub IsEight : ℕ → Type 0
IsEight n = n < 2 ^ 64

-- a list whose number of members four bytes hold, each with a spelling
abbrev pub AreAll : {X : Type 0} → (X → Type 0) → List X → Type 0
AreAll Is xs = (length xs < 2 ^ 32) × AllByRecursion Is xs

-- a vector has room for some more bytes without taking memory
abbrev pub HasCapacity : Vec ℕ → List ℕ → Type 0
HasCapacity v bytes = vec_len v + length bytes ≤ vec_capacity v

-- one holds some more bytes than before, and has no less room in all
abbrev pub AddsBytes : Vec ℕ → Vec ℕ → List ℕ → Type 0
AddsBytes v w bytes = (w.items ≡ v.items ++ bytes) × (vec_len w ≡ vec_len v + length bytes) × (vec_capacity v ≤ vec_capacity w)
