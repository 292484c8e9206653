-- Of which operation an entry is (this project's own).
use Rattle.std.specs.Prelude.{◌≡◌, ℕ}
use Rattle.cf_entry.specs.declared.entry.Entry.{Entry}
use Rattle.cf_entry.specs.declared.entry.Entry.TheVariants as entry

-- the entry is of this operation, and begins none
abbrev pub IsOwn : ℕ → Entry → Type 0
IsOwn number (entry.Kept n path physical w) = n ≡ number
IsOwn number (entry.Intent n token lane path r) = n ≡ number
IsOwn number (entry.Outcome n token a before after) = n ≡ number
IsOwn number (entry.Phase n p cause) = n ≡ number
IsOwn number (entry.Done n state failed) = n ≡ number
IsOwn number _ = ⊥
