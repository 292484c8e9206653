use Rattle.std.proofs.Common.{◌≡◌, ◌++◌, take, string_bytes}
use Rattle.std.specs.List.{flat_map}
use Rattle.cf_face.specs.Report.{event_line}
use Rattle.cf_face.proofs.overview.push_events.Given as goal

abbrev pub invariant-loop-line : goal.invariant-loop-line
invariant-loop-line l =
    string_bytes l.report ≡ string_bytes l.fn.report ++ flat_map event_line (take l.line-index l.lines)
