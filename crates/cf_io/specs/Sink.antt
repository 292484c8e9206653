-- What a sink of printed bytes tells of itself, and what a put does (this project's own).
use Rattle.std.specs.Prelude.{ℕ, ◌≤◌, List, take, Option, Result, Ok, Err}
use Rattle.std.specs.Io.KnownBytes.{Appends}
use Rattle.cf_tree.specs.Counts.{HasRisen}
use Rattle.cf_io.specs.declared.sink.SinkFail.{SinkFail}
use Rattle.cf_io.specs.declared.sink.SinkFail.TheVariants.{Failed, NoMemory}

-- after a put the sink holds the bytes more, and after one that failed some prefix of them; a sink that
-- tells no bytes claims nothing
abbrev pub Puts : Option (List ℕ) → Option (List ℕ) → List ℕ → Result (Unit {0}) SinkFail → Type 0
Puts before after bytes (Ok _) = Appends before after bytes
Puts before after bytes (Err e) = (n : ℕ) × Appends before after (take n bytes)

-- the count of faults never falls, and a put is answered Failed only where it rose
abbrev pub HasPutCause : ℕ → ℕ → Result (Unit {0}) SinkFail → Type 0
HasPutCause before after (Ok _) = before ≤ after
HasPutCause before after (Err Failed) = (before ≤ after) × HasRisen before after
HasPutCause before after (Err NoMemory) = before ≤ after
