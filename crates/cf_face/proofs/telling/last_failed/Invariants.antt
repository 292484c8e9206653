use Rattle.std.proofs.Common.{◌≡◌, take}
use Rattle.cf_face.specs.Report.{last_failed}
use Rattle.cf_face.proofs.telling.last_failed.Given as goal

abbrev pub invariant-loop-at : goal.invariant-loop-at
invariant-loop-at l = last_failed l.entries ≡ last_failed (take l.at l.entries)
