use Rattle.cf_desired.proofs.OutputRest.{output_rests}
use Rattle.cf_desired.proofs.laws.output_rests.Goals as goal

pub returns : goal.returns
returns c = output_rests
