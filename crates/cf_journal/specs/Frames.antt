-- What the bytes of a disk say: the bodies of its frames (this project's own format, docs/JOURNAL.md). A frame is a gate, the length of
-- its body in four bytes, the body, and the gate of the next one. It counts if its gate is open, a 1.
use Rattle.std.specs.Prelude.{◌+◌, ◌==◌, ℕ, zero, suc, Bool, List, [], ◌∷◌, ◌++◌, length, take, drop, nat_lt, if◌then◌else◌, Option, Some, None, Result, Ok, Err}
use Rattle.std.specs.Int.{w32, to_be_bytes, from_be_bytes}
use Rattle.cf_journal.specs.Head.{head_of}
use Rattle.cf_journal.specs.declared.head.Head.{Head}
use Rattle.cf_journal.specs.declared.head.Head.TheVariants.{New, Foreign, Made}

-- behind a gate: how long the body is
abbrev pub body_size : List ℕ → ℕ
body_size bytes = from_be_bytes w32 (take 4 bytes)

-- whether the length, the body and the next gate are there
abbrev pub is_whole : List ℕ → Bool
is_whole bytes = nat_lt (4 + body_size bytes) (length bytes)

abbrev pub body_of : List ℕ → List ℕ
body_of bytes = take (body_size bytes) (drop 4 bytes)

-- from the next gate on
abbrev pub next_of : List ℕ → List ℕ
next_of bytes = drop (4 + body_size bytes) bytes

-- what stands behind the gate of a frame: the length of the body, the body, and the next gate, closed
abbrev pub frame_of : List ℕ → List ℕ
frame_of body = to_be_bytes w32 (length body) ++ body ++ 0 ∷ []

-- What is read: entries with the journal's length, which is the offset of its last gate plus 1, or the offset at which no journal stands.
abbrev pub Reading : Type 0 → Type 0
Reading E = Result (List E × ℕ) ℕ

-- a frame at this offset, and then what is read behind it
abbrev pub with_frame : {E : Type 0} → ℕ → Option E → Reading E → Reading E
with_frame at None read = Err at
with_frame at (Some e) (Err offset) = Err offset
with_frame at (Some e) (Ok read) = Ok (e ∷ read.0, read.1)

-- Frames from the gate at this offset on, which stands first in the bytes. At most as many are read as the number says.
abbrev pub frames_from : {E : Type 0} → (List ℕ → Option E) → ℕ → ℕ → List ℕ → Reading E
frames_from entry_of zero at bytes = Err at
frames_from entry_of (suc n) at [] = Err at
frames_from entry_of (suc n) at (gate ∷ bytes) =
    if gate == 1 then
    (if is_whole bytes then with_frame at (entry_of (body_of bytes))
    (frames_from entry_of n (at + 5 + body_size bytes) (next_of bytes)) else Err at)
    else Ok ([], at + 1)

-- all frames: each takes at least a byte
abbrev pub frames_of : {E : Type 0} → (List ℕ → Option E) → ℕ → List ℕ → Reading E
frames_of entry_of at bytes = frames_from entry_of (length bytes) at bytes

-- a new journal has no entry and the length 10
abbrev pub read_by_head : {E : Type 0} → (List ℕ → Option E) → Head → List ℕ → Reading E
read_by_head entry_of New bytes = Ok ([], 10)
read_by_head entry_of Foreign bytes = Err 1
read_by_head entry_of Made bytes = frames_of entry_of 9 (drop 9 bytes)

abbrev pub reading_by : {E : Type 0} → (List ℕ → Option E) → List ℕ → Reading E
reading_by entry_of bytes = read_by_head entry_of (head_of bytes) bytes

-- the length of the journal, where one was read
abbrev pub length_in : {E : Type 0} → Reading E → ℕ
length_in (Ok read) = read.1
length_in (Err offset) = 0

-- its entries, or where no journal stands
abbrev pub record_in : {E : Type 0} → Reading E → Result (List E) ℕ
record_in (Ok read) = Ok read.0
record_in (Err offset) = Err offset

-- what is read of some frames, and then what follows them
abbrev pub with_front : {E : Type 0} → List E → Reading E → Reading E
with_front es (Ok read) = Ok (es ++ read.0, read.1)
with_front es (Err offset) = Err offset
