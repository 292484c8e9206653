use Rattle.cf_desired.proofs.SeenKnown.{seen_known}
use Rattle.cf_desired.proofs.laws.seen_is_known.Goals as goal

pub returns : goal.returns
returns c = seen_known
