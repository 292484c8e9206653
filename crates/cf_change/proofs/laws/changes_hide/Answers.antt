use Rattle.cf_change.proofs.Leaving.{changes_hide}
use Rattle.cf_change.proofs.laws.changes_hide.Goals as goal

pub returns : goal.returns
returns c = changes_hide
