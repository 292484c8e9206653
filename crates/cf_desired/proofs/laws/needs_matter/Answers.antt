use Rattle.cf_desired.proofs.NeedsMatter.{needs_suffice}
use Rattle.cf_desired.proofs.laws.needs_matter.Goals as goal

pub returns : goal.returns
returns c = needs_suffice
