-- What a disk in memory shows (this project's own).
use Rattle.std.specs.Prelude.{◌≡◌, ◌==◌, ◌+◌, ◌-◌, ◌^◌, ◌<◌, ◌≤◌, min, ◌&&◌, ℕ, Bool, not, nat_lt, nat_le, if◌then◌else◌, List, length, reverse, vec_len}
use Rattle.std.specs.List.{list_any}
use Rattle.cf_disk.specs.declared.memory.MemoryDisk.{MemoryDisk}
use Rattle.cf_disk.specs.Calls.{left_after, left_after_since}
use Rattle.cf_disk.specs.Disk.{Only}
use Rattle.cf_tree.specs.Counts.{HasRisen}

-- what a read gives
abbrev pub memory_bytes : MemoryDisk → List ℕ
memory_bytes m = m.bytes.items

-- what a crash now may leave
abbrev pub memory_may_leave : MemoryDisk → List ℕ → Type 0
memory_may_leave m = left_after m.first.items (reverse m.calls.items) m.log.items

abbrev pub memory_room : MemoryDisk → ℕ
memory_room m = m.room

abbrev pub memory_count : MemoryDisk → ℕ
memory_count m = m.faults

-- the moment is the number of calls that are noted
abbrev pub memory_moment : MemoryDisk → ℕ
memory_moment m = length (reverse m.calls.items)

-- what a crash since a moment may have left
abbrev pub memory_left_since : MemoryDisk → ℕ → List ℕ → Type 0
memory_left_since m = left_after_since m.first.items (reverse m.calls.items) m.log.items

-- one more call can be noted
abbrev pub memory_reaches : MemoryDisk → Type 0
memory_reaches m = vec_len m.calls < m.most_calls

-- A call that writes n bytes succeeds if it can be noted with its bytes, and its number is not listed.
abbrev pub memory_passes : MemoryDisk → ℕ → Bool
memory_passes m n =
    nat_lt (vec_len m.calls) m.most_calls
    && (not (list_any (λ k. k == vec_len m.calls + 1) m.fails.items) && nat_le (vec_len m.log + n) m.most_written)

-- After a call that writes n bytes: it is counted unless so many are noted already, its bytes are counted if it succeeded and else a
-- fault is, and what is to fail stays the same.
pub record CallIsCounted (old : MemoryDisk) (passed : Bool) (n : ℕ) (new : MemoryDisk) : Type 0 where
  pub fails : new.fails.items ≡ old.fails.items
  pub most : (new.most_calls ≡ old.most_calls) × (new.most_written ≡ old.most_written)
  pub calls : vec_len new.calls ≡ (if nat_lt (vec_len old.calls) old.most_calls then vec_len old.calls + 1 else vec_len old.calls)
  pub written : vec_len new.log ≡ (if passed then vec_len old.log + n else vec_len old.log)
  pub faults : new.faults ≡ (if passed then old.faults else min (old.faults + 1) (2 ^ 64 - 1))

-- it holds these bytes, all of them synced, with this room, no call was made, and these are to fail
pub record IsFresh (bytes : List ℕ) (room : ℕ) (fails : List ℕ) (calls written : ℕ) (m : MemoryDisk) : Type 0 where
  pub bytes_are : memory_bytes m ≡ bytes
  pub synced : Only bytes (memory_may_leave m)
  pub room_is : memory_room m ≡ room
  pub no_fault : memory_count m ≡ 0
  pub fails_are : m.fails.items ≡ fails
  pub calls_left : (m.most_calls ≡ calls) × (vec_len m.calls ≡ 0)
  pub written_left : (m.most_written ≡ written) × (vec_len m.log ≡ 0)

-- after the disk refused a call: the count has risen, and a read gives the same
pub record IsRefused (old new : MemoryDisk) : Type 0 where
  pub bytes : memory_bytes new ≡ memory_bytes old
  pub room : new.room ≡ old.room
  pub later : old.faults ≤ new.faults
  pub risen : HasRisen old.faults new.faults
