use Rattle.cf_eval.proofs.Wholes.{whole_refused}
use Rattle.cf_eval.proofs.texts.whole_of.Goals as goal

pub returns : goal.returns
returns c = rw (← c.as_str.ensures) (whole_refused c.as_str.result.now c.in-Err.field-0 c.in-Err.ensures.value.0)
