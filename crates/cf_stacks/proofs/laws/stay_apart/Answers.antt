use Rattle.cf_stacks.proofs.Apart.{stay_apart}
use Rattle.cf_stacks.proofs.laws.stay_apart.Goals as goal

pub returns : goal.returns
returns c = stay_apart
