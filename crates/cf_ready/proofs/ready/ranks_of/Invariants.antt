use Rattle.std.proofs.Common.{◌≡◌, length, map}
use Rattle.cf_ready.proofs.Ranked.{AreRanked}
use Rattle.cf_ready.proofs.ready.ranks_of.Given as goal

abbrev pub invariant-loop-rank : goal.invariant-loop-rank
invariant-loop-rank l = AreRanked l.count (map (λ p. p.1) l.names) l.rank l.ranks.items
