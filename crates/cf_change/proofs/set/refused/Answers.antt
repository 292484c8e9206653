use Rattle.cf_change.proofs.Refused.{refused_plan}
use Rattle.cf_change.proofs.set.refused.Goals as goal

pub returns-in_default : goal.returns-in_default
returns-in_default c = refused_plan c.args.fault c.in_default.not-NoMemory
