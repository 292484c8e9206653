use Rattle.std.proofs.Common.{◌≡◌, ◌++◌, take, string_bytes}
use Rattle.std.specs.List.{flat_map}
use Rattle.cf_face.specs.Report.{failed_line}
use Rattle.cf_face.proofs.telling.push_paths.Given as goal

abbrev pub invariant-loop-path : goal.invariant-loop-path
invariant-loop-path l =
    string_bytes l.report ≡ string_bytes l.fn.report ++ flat_map failed_line (take l.path-index l.paths)
