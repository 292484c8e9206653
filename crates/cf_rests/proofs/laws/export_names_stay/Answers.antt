use Rattle.cf_rests.proofs.Exported.{names_stay}
use Rattle.cf_rests.proofs.laws.export_names_stay.Goals as goal

pub returns : goal.returns
returns c = names_stay
