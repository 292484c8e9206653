use Rattle.cf_desired.proofs.ComeFirst.{needs_first}
use Rattle.cf_desired.proofs.laws.needs_come_first.Goals as goal

pub returns : goal.returns
returns c = needs_first
