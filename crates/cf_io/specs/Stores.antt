-- What the stores in memory hold and which of their calls fail, and what a folder gives (this project's own).
use Rattle.std.specs.Prelude.{◌≡◌, ◌≢◌, ◌≤◌, ◌==◌, ◌&&◌, ℕ, Bool, true, false, not, List, [], ◌∷◌, length, map, IfSome, Option, Result, Err, string_bytes}
use Rattle.std.specs.List.{list_any}
use Rattle.std.specs.Global.{Vec}
use Rattle.cf_io.specs.Library.{Texts}
use Rattle.cf_io.specs.declared.folder_library.FolderLibrary.{FolderLibrary}

-- the names and bytes of a list of texts
abbrev pub stored_texts : List (List ℕ × Vec ℕ) → Texts
stored_texts items = map (λ t. (t.0, t.1.items)) items

-- whether the call of this number, counted from 1, is one of those that are to fail (this project's own)
abbrev pub is_planned : List ℕ → ℕ → Bool
is_planned fails call = list_any (λ n. n == call) fails

-- a call that is to fail gives this failure, and no other call does
abbrev pub FailsWhere : {A E : Type 0} → E → Bool → Result A E → Type 0
FailsWhere failure true result = result ≡ Err failure
FailsWhere failure false result = result ≢ Err failure

-- the folder of a library
abbrev pub folder_of : {R F G : Type 0} → FolderLibrary R F G → List ℕ
folder_of l = string_bytes l.folder

-- whether a name may stand for a file of a folder: it is not empty, does not begin with a dot (46) and holds
-- no slash (47) (this project's own)
abbrev pub is_file_name : List ℕ → Bool
is_file_name [] = false
is_file_name (b ∷ bytes) = not (b == 46) && not (list_any (λ c. c == 47) (b ∷ bytes))

-- the largest file of a folder that is read, in bytes: 2^30 (this project's own)
abbrev pub most_file_bytes : ℕ
most_file_bytes = 1073741824

-- what was found in a folder is no larger
abbrev pub IsBounded : Option (Vec ℕ) → Type 0
IsBounded found = IfSome found (λ bytes. length bytes.items ≤ most_file_bytes)
