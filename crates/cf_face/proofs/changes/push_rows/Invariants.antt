use Rattle.std.proofs.Common.{◌≡◌, ◌++◌, take, string_bytes}
use Rattle.std.specs.List.{flat_map}
use Rattle.cf_face.specs.SetReport.{row_lines}
use Rattle.cf_face.proofs.changes.push_rows.Given as goal

abbrev pub invariant-loop-row : goal.invariant-loop-row
invariant-loop-row l =
    string_bytes l.report ≡ string_bytes l.fn.report ++ flat_map row_lines (take l.row-index l.rows)
