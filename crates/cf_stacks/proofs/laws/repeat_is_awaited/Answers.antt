use Rattle.cf_stacks.proofs.Awaited.{repeat_is_awaited}
use Rattle.cf_stacks.proofs.laws.repeat_is_awaited.Goals as goal

pub returns : goal.returns
returns c = repeat_is_awaited
