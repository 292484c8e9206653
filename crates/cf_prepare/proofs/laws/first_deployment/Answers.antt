use Rattle.cf_prepare.proofs.First as first
use Rattle.cf_prepare.proofs.laws.first_deployment.Goals as goal

pub returns : goal.returns
returns c = first.first_deployment
