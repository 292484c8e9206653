use Rattle.cf_stacks.proofs.Awaited.{awaited_stays}
use Rattle.cf_stacks.proofs.laws.awaited_stays.Goals as goal

pub returns : goal.returns
returns c = awaited_stays
