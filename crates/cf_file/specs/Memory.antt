-- What a file in memory shows (this project's own).
use Rattle.std.specs.Prelude.{Bool}
use Rattle.cf_disk.specs.declared.memory.MemoryDisk.{MemoryDisk}
use Rattle.cf_file.specs.declared.memory_file.MemoryFile.{MemoryFile}

-- the disk that stands for its bytes
abbrev pub bytes_of : MemoryFile → MemoryDisk
bytes_of f = f.disk

-- another opening has its lock
abbrev pub is_taken : MemoryFile → Bool
is_taken f = f.taken
