use Rattle.cf_effect.proofs.Rowed.{laid_by}
use Rattle.cf_effect.proofs.outset.laid_by.Goals as goal

pub returns : goal.returns
returns c = laid_by c.args.shape.now c.as_slice.result.now c.in_ok-all.all c.lay_out.result c.as_slice.ensures c.in_ok-all.ensures c.lay_out.ensures
