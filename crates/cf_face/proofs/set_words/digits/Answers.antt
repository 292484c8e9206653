-- Digits that are few enough are read.
use Rattle.std.proofs.Common.{arith, sym, ◌∙◌}
use Rattle.cf_funcs.proofs.Digits.{parsed}
use Rattle.cf_face.proofs.set_words.digits.Goals as goal

pub returns-then-are_digits : goal.returns-then-are_digits
returns-then-are_digits c =
    c.ok.ensures.value ∙ (parsed 18 c.args.word.now _ (omega arith) (sym c.are_digits.ensures ∙ c.if-are_digits.true) c.parse.ensures.value.0).0
