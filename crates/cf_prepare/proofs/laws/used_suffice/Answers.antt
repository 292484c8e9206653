use Rattle.cf_change.proofs.Shown.{held_shows_more}
use Rattle.cf_prepare.proofs.Suffice as suffice
use Rattle.cf_prepare.proofs.laws.used_suffice.Goals as goal

pub returns : goal.returns
returns c = suffice.used_suffice held_shows_more
