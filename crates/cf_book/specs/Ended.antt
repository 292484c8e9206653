-- The operations that have ended since a book was opened (this project's own).
use Rattle.std.specs.Prelude.{ℕ, ◌==◌, List, [], ◌∷◌, ◌++◌, Option, find, fold, option_map}
use Rattle.cf_entry.specs.declared.entry.Entry.{Entry}
use Rattle.cf_entry.specs.declared.entry.Entry.TheVariants as entry
use Rattle.cf_entry.specs.declared.status.Status.{Status}
use Rattle.cf_book.specs.declared.ending.Ended.{Ended}

-- each with its status, in the order in which they ended; an opening begins anew
abbrev pub with_end : List Ended → Entry → List Ended
with_end ends (entry.Opened epoch lanes) = []
with_end ends (entry.Done number status failed) = ends ++ record { number = number; status = status } ∷ []
with_end ends e = ends

abbrev pub ended_in : List Entry → List Ended
ended_in es = fold with_end [] es

-- the status in which an operation ended
abbrev pub end_status : ℕ → List Ended → Option Status
end_status number ends = option_map (λ e. e.status) (find (λ e. number == e.number) ends)
