-- What a disk over a file shows (this project's own).
use Rattle.cf_file.specs.declared.file_disk.FileDisk.{FileDisk}

-- the file that it is over
abbrev pub file_of : {F : Type 0} → FileDisk F → F
file_of d = d.file
