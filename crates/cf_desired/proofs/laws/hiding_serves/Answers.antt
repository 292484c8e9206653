use Rattle.cf_desired.proofs.Hiding.{hiding_serves}
use Rattle.cf_desired.proofs.laws.hiding_serves.Goals as goal

pub returns : goal.returns
returns c = hiding_serves
