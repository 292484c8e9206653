-- What a call met outside, from what stands in its contract.
use Rattle.std.proofs.Common.{List}
use Rattle.cf_io.specs.declared.sink.Sink.{Ghosts as SinkGhosts}
use Rattle.cf_top.specs.Outside.{Outside, Printing}
use Rattle.cf_top.specs.Refusals.{LibraryUse}
pub use Rattle.cf_top.specs.Refusals.{use_of as used}

-- a sink before and after
abbrev pub printing : {K : Type 0} → SinkGhosts K → K → K → Printing
printing g now new = record { held = g.held now; held' = g.held new; faults = g.count now; faults' = g.count new }

-- with these a disk and handlers
abbrev pub outside : {D H : Type 0} → LibraryUse → D → D → List H → List H → Outside D H
outside o disk disk' handlers handlers' = record { library = o; disk = disk; disk' = disk'; handlers = handlers; handlers' = handlers' }
