-- What a fuse shows (this project's own).
use Rattle.std.specs.Prelude.{ℕ}
use Rattle.cf_disk.specs.declared.fuse.FuseDisk.{FuseDisk}
use Rattle.cf_disk.specs.declared.memory.MemoryDisk.{MemoryDisk}

-- the disk behind it
abbrev pub disk_of : FuseDisk → MemoryDisk
disk_of f = f.disk

-- how many calls it still passes on
abbrev pub calls_left : FuseDisk → ℕ
calls_left f = f.left
