-- What a file of the system shows (this project's own).
use Rattle.std.specs.Prelude.{ℕ, List, string_bytes}
use Rattle.cf_file.specs.declared.real_file.RealFile.{RealFile}

-- the folder that it is in
abbrev pub folder_of_file : {R : Type 0} → RealFile R → List ℕ
folder_of_file f = string_bytes f.folder

-- where it is
abbrev pub path_of_file : {R : Type 0} → RealFile R → List ℕ
path_of_file f = string_bytes f.path
