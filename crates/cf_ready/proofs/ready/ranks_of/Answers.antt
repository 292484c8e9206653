use Rattle.std.proofs.Common.{arith, map}
use Rattle.std.proofs.lemmas.List.{length-map}
use Rattle.cf_ready.proofs.Ranked.{all_ranked}
use Rattle.cf_ready.proofs.ready.ranks_of.Goals as goal

pub returns-clause-ranks : goal.returns-clause-ranks
returns-clause-ranks c =
    let count = length-map c.args.names.now (λ p. p.1) in
    all_ranked c.args.count (map (λ p. p.1) c.args.names.now) c.loop-rank.ranks.items c.loop-rank.rank (omega (arith, count, c.loop-rank-test.false)) c.loop-rank.invariant
