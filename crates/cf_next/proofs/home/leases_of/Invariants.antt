use Rattle.std.proofs.Common.{◌≡◌, take}
use Rattle.cf_next.specs.Chosen.{leases_of}
use Rattle.cf_next.proofs.home.leases_of.Given as goal

abbrev pub invariant-loop-home : goal.invariant-loop-home
invariant-loop-home l = l.out.items ≡ leases_of (take l.home-index l.homes)
