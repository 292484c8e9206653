use Rattle.cf_rests.proofs.Viewed.{by_paths}
use Rattle.cf_rests.proofs.laws.plan_by_paths.Goals as goal

pub returns : goal.returns
returns c = by_paths
