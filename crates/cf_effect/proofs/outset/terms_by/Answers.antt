use Rattle.cf_effect.proofs.Termed.{all_given}
use Rattle.cf_effect.proofs.outset.terms_by.Goals as goal

pub returns : goal.returns
returns c = all_given c.args.shape.now c.in_ok-all_terms.field-0 c.by_path.result c.by_path.ensures c.in_ok-all_terms.ensures
