use Rattle.std.proofs.Common.{sym, ◌∙◌}
use Rattle.cf_funcs.proofs.Digits.{parsed}
use Rattle.cf_funcs.proofs.numbers.digits.Goals as goal

pub returns-then-are_digits-clause-value : goal.returns-then-are_digits-clause-value
returns-then-are_digits-clause-value c =
    c.ok.ensures.value ∙ (parsed _ c.args.text.now _ c.requires (sym c.are_digits.ensures ∙ c.if-are_digits.true) c.parse.ensures.value.0).0

pub returns-then-are_digits-clause-bound : goal.returns-then-are_digits-clause-bound
returns-then-are_digits-clause-bound c =
    rw c.ok.ensures.value (parsed _ c.args.text.now _ c.requires (sym c.are_digits.ensures ∙ c.if-are_digits.true) c.parse.ensures.value.0).1
