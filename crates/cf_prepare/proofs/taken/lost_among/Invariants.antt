use Rattle.std.proofs.Common.{◌≡◌, ◌++◌, drop, filter, map}
use Rattle.cf_plan.specs.Accept.{is_taken_away}
use Rattle.cf_prepare.proofs.taken.lost_among.Given as goal

abbrev pub invariant-loop-export : goal.invariant-loop-export
invariant-loop-export l =
    l.lost ++ map (λ e. e.name) (filter (is_taken_away l.name l.world.world l.kept) (drop l.export-index l.exports))
    ≡ map (λ e. e.name) (filter (is_taken_away l.name l.world.world l.kept) l.exports)
