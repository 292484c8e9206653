-- What is said of a count that a contract reads: it never falls, and answers of failure come only where it rose (this project's own).
use Rattle.std.specs.Prelude.{ℕ, ◌+◌, ◌-◌, ◌^◌, ◌<◌, min, Bool, if◌then◌else◌}

-- the last value of a count, at which it stays (this project's own)
abbrev pub last_count : ℕ
last_count = 2 ^ 64 - 1

-- the count rose, where one at its last value counts as risen in each call (this project's own)
abbrev pub HasRisen : ℕ → ℕ → Type 0
HasRisen before after = before < last_count → before < after

-- one more, but no more than the last value
abbrev pub next_count : ℕ → ℕ
next_count n = min (n + 1) last_count

-- the count after a call that is counted, or is not
abbrev pub count_after : Bool → ℕ → ℕ
count_after counted n = if counted then next_count n else n
