use Rattle.cf_plan.proofs.Proper.{granted_is_proper}
use Rattle.cf_plan.proofs.laws.granted_is_proper.Goals as goal

pub returns : goal.returns
returns c = granted_is_proper
