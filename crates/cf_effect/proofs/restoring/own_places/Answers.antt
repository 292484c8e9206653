use Rattle.cf_effect.proofs.restoring.own_places.Goals as goal

pub returns-then-are_first : goal.returns-then-are_first
returns-then-are_first c = record { found = c.in_ok-places.ensures; first = c.are_first.ensures c.if-are_first.true }
