-- Records that grow (this project's own format, docs/JOURNAL.md).
use Rattle.std.specs.Prelude.{◌≡◌, ℕ, List, ◌++◌, Ok}
use Rattle.cf_entry.specs.declared.entry.Entry.{Entry}
use Rattle.cf_journal.specs.Record.{record_of}

-- the second list begins with the first
abbrev pub Extends : List Entry → List Entry → Type 0
Extends es now = (more : List Entry) × (now ≡ es ++ more)

-- the file's record begins with the first entries, and the last begin with it
pub record IsBetween (es es' : List Entry) (file : List ℕ) : Type 0 where
  pub now : List Entry
  pub record_is : record_of file ≡ Ok now
  pub no_shorter : Extends es now
  pub no_longer : Extends now es'
