use Rattle.std.proofs.Common.{◌≡◌, ◌++◌, take, string_bytes}
use Rattle.std.specs.List.{flat_map}
use Rattle.cf_face.specs.Report.{leftover_line}
use Rattle.cf_face.proofs.telling.push_leftovers.Given as goal

abbrev pub invariant-loop-leftover : goal.invariant-loop-leftover
invariant-loop-leftover l =
    string_bytes l.report ≡ string_bytes l.fn.report ++ flat_map leftover_line (take l.leftover-index l.leftovers)
