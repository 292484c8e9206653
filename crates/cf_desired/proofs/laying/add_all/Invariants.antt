use Rattle.std.proofs.Common.{◌≡◌, ◌++◌, take}
use Rattle.cf_desired.proofs.laying.add_all.Given as goal

abbrev pub invariant-loop-path : goal.invariant-loop-path
invariant-loop-path l = l.paths ≡ l.fn.paths ++ take l.path-index l.path-items
