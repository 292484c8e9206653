use Rattle.cf_desired.proofs.Flawless.{flawless_clear}
use Rattle.cf_desired.proofs.laws.flawless_is_clear.Goals as goal

pub returns : goal.returns
returns c = flawless_clear
