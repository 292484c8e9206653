-- How a disk's first bytes say whether it holds a journal (this project's own format, docs/JOURNAL.md).
use Rattle.std.specs.Prelude.{◌≡◌, ◌≢◌, ◌⊎◌, ◌==◌, ◌++◌, ℕ, List, [], ◌∷◌, length, drop, codes, nat_lt, not, if◌then◌else◌, bytes_eq, slice_index, slice_range}
use Rattle.cf_journal.specs.declared.head.Head.{Head}
use Rattle.cf_journal.specs.declared.head.Head.TheVariants.{New, Foreign, Made}

-- the text behind the head gate
abbrev pub title : List ℕ
title = codes "CFSTACK1"

-- A disk of at most one byte is a new journal, and so is one whose head gate is closed, or is neither open nor closed.
abbrev pub head_of : List ℕ → Head
head_of bytes =
    if nat_lt (length bytes) 2 then New
    else if slice_index bytes 0 == 0 then New
    else if not (bytes_eq title (slice_range bytes 1 9)) then Foreign
    else if slice_index bytes 0 == 1 then Made
    else New

-- a journal that is made, and these bytes from its first gate on
abbrev pub made : List ℕ → List ℕ
made frames = (1 ∷ title) ++ frames

-- a gate that is not open stands first
abbrev pub IsShut : List ℕ → Type 0
IsShut [] = ⊥
IsShut (gate ∷ bytes) = gate ≢ 1

-- a new journal, or one that is made and has no entry
abbrev pub IsEmpty : List ℕ → Type 0
IsEmpty bytes = (head_of bytes ≡ New) ⊎ ((head_of bytes ≡ Made) × IsShut (drop 9 bytes))

-- whatever byte stands first, no frame counts
abbrev pub IsHarmless : List ℕ → Type 0
IsHarmless bytes = (gate : ℕ) → IsEmpty (gate ∷ drop 1 bytes)

-- a journal that is made and has no entry
abbrev pub IsMadeEmpty : List ℕ → Type 0
IsMadeEmpty bytes = (bytes ≡ made (drop 9 bytes)) × IsShut (drop 9 bytes)
