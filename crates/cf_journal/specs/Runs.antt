-- Runs of calls of a disk (this project's own).
use Rattle.std.specs.Prelude.{◌≡◌, ◌⊎◌, ◌-◌, ℕ, List, [], ◌∷◌, length}
use Rattle.cf_disk.specs.Disk.{overwritten, Torn, NoneNew, LeavesOnly}

-- The calls changed nothing: a read gives the same, and a crash during them or now leaves only what it might have left before.
pub record Unchanged {D : Type 0} (seen : D → List ℕ) (may_leave : D → List ℕ → Type 0) (moment : D → ℕ)
    (left_since : D → ℕ → List ℕ → Type 0) (old new : D) : Type 0 where
  pub same : seen new ≡ seen old
  pub fewer : NoneNew (may_leave old) (may_leave new)
  pub moments : LeavesOnly moment left_since old new (may_leave old)

-- the file with a frame behind its last gate, which still is shut
abbrev pub staged : List ℕ → ℕ → List ℕ → List ℕ
staged file end frame = overwritten file end frame

-- and with that gate open
abbrev pub gate_opened : List ℕ → ℕ → List ℕ → List ℕ
gate_opened file end frame = overwritten (staged file end frame) (end - 1) (1 ∷ [])

-- what a crash leaves while a frame is put behind the last gate, which stands right before `end`
abbrev pub IsMidway : List ℕ → ℕ → List ℕ → List ℕ → Type 0
IsMidway file end frame c = Torn end (length frame) file c ⊎ Torn (end - 1) 1 (staged file end frame) c
