-- What is said of one file of the system (this project's own).
use Rattle.std.specs.Prelude.{◌≡◌, ℕ, List}
use Rattle.cf_disk.specs.Disk.{NoneNew, NoneLost}

-- how long the file of a disk may become, in bytes: 2^32 (this project's own)
abbrev pub most_bytes : ℕ
most_bytes = 4294967296

-- A call that does nothing to the bytes: a read gives the same, and a crash may leave the same, now and since each moment.
pub record IsSame {F : Type 0} (seen : F → List ℕ) (may_leave : F → List ℕ → Type 0) (moment : F → ℕ)
    (left_since : F → ℕ → List ℕ → Type 0) (old new : F) : Type 0 where
  pub same_seen : seen new ≡ seen old
  pub same_moment : moment new ≡ moment old
  pub none_new : NoneNew (may_leave old) (may_leave new)
  pub none_lost : NoneLost (may_leave old) (may_leave new)
  pub no_other : (t : ℕ) (c : List ℕ) → left_since new t c → left_since old t c
  pub no_fewer : (t : ℕ) (c : List ℕ) → left_since old t c → left_since new t c
