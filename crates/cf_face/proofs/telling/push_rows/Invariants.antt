use Rattle.std.proofs.Common.{◌≡◌, ◌++◌, map, take, string_bytes}
use Rattle.std.specs.List.{flat_map}
use Rattle.cf_face.specs.Report.{held_line}
use Rattle.cf_face.proofs.telling.push_rows.Given as goal

abbrev pub invariant-loop-row : goal.invariant-loop-row
invariant-loop-row l =
    string_bytes l.report ≡ string_bytes l.fn.report ++ flat_map held_line (map (λ r. r.now) (take l.row-index l.rows))
