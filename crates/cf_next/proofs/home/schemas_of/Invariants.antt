use Rattle.std.proofs.Common.{◌≡◌, take}
use Rattle.cf_next.specs.Chosen.{schemas_of}
use Rattle.cf_next.proofs.home.schemas_of.Given as goal

abbrev pub invariant-loop-home : goal.invariant-loop-home
invariant-loop-home l = l.schemas ≡ schemas_of (take l.home-index l.homes)
