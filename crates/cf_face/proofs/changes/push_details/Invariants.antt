use Rattle.std.proofs.Common.{◌≡◌, ◌++◌, take, string_bytes}
use Rattle.std.specs.List.{flat_map}
use Rattle.cf_face.specs.SetReport.{detail_line}
use Rattle.cf_face.proofs.changes.push_details.Given as goal

abbrev pub invariant-loop-detail : goal.invariant-loop-detail
invariant-loop-detail l =
    string_bytes l.report ≡ string_bytes l.fn.report ++ flat_map detail_line (take l.detail-index l.details)
