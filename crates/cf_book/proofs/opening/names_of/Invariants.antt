use Rattle.std.proofs.Common.{◌≡◌, map, take}
use Rattle.cf_book.specs.Opening.{name_of_home}
use Rattle.cf_book.proofs.opening.names_of.Given as goal

abbrev pub invariant-loop-home : goal.invariant-loop-home
invariant-loop-home l = l.names ≡ map name_of_home (take l.home-index l.homes)
