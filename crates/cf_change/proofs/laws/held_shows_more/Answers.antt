use Rattle.cf_change.proofs.Shown.{held_shows_more}
use Rattle.cf_change.proofs.laws.held_shows_more.Goals as goal

pub returns : goal.returns
returns c = held_shows_more
