use Rattle.std.proofs.Common.{◌≡◌, take}
use Rattle.cf_book.specs.Finding.{entries_of}
use Rattle.cf_book.proofs.entering.kept.Given as goal

abbrev pub invariant-loop-entry : goal.invariant-loop-entry
invariant-loop-entry l = entries_of l.kept.items ≡ take l.entry-index l.entries
