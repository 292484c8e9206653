use Rattle.std.proofs.Common.{arith, sym, ◌∙◌}
use Rattle.cf_funcs.proofs.Digits.{parsed}
use Rattle.cf_template.proofs.param.digits.Goals as goal

pub returns-then-are_digits : goal.returns-then-are_digits
returns-then-are_digits c =
    c.ok.ensures.value ∙ (parsed 18 c.args.text.now _ (omega arith) (sym c.are_digits.ensures ∙ c.if-are_digits.true) c.parse.ensures.value.0).0
