use Rattle.cf_desired.proofs.Apart.{paths_apart}
use Rattle.cf_desired.proofs.laws.paths_differ.Goals as goal

pub returns : goal.returns
returns c = paths_apart
