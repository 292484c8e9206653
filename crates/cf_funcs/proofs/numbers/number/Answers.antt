use Rattle.std.proofs.Common.{◌∙◌, ◌≡◌, sym, None}
use Rattle.cf_funcs.specs.Number.{size_of}
use Rattle.cf_funcs.proofs.Digits.{unsigned}
use Rattle.cf_funcs.proofs.numbers.number.Goals as goal

pub returns-in_err-size_from-in-None : goal.returns-in_err-size_from-in-None
returns-in_err-size_from-in-None c =
    let nothing : size_of c.args.text.now ≡ None = sym c.size_from-in-None.ensures.size ∙ c.in_err-size_from-in-None.was in
    c.from_residual-in_err-size_from-in-None.ensures ∙ sym (unsigned _ c.in-None.ensures.cases nothing)
