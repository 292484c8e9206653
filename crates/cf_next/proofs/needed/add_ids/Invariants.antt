use Rattle.std.proofs.Common.{◌≡◌, ◌++◌, take}
use Rattle.cf_next.specs.Needed.{ids_at}
use Rattle.cf_next.proofs.needed.add_ids.Given as goal

abbrev pub invariant-loop-path : goal.invariant-loop-path
invariant-loop-path l = l.needed ≡ l.fn.needed ++ ids_at l.ids (take l.path-index l.paths)
