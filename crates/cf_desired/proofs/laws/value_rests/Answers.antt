use Rattle.cf_desired.proofs.Mentions.{value_rests}
use Rattle.cf_desired.proofs.laws.value_rests.Goals as goal

pub returns : goal.returns
returns c = value_rests
