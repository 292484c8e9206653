use Rattle.std.proofs.Common.{◌∙◌, List, ap, map}
use Rattle.std.proofs.lemmas.Result.{IfOk-weaker}
use Rattle.cf_desired.specs.declared.shape.Turn as kept_turn
use Rattle.cf_desired.specs.Kept.{turn_in}
use Rattle.cf_desired.specs.Turns.{all_terms}
use Rattle.cf_desired.proofs.Turning.{all_terms_so}
use Rattle.cf_desired.proofs.shape.all_terms.Goals as goal

pub returns : goal.returns
returns c =
    IfOk-weaker c.terms_along.result _ _ (λ ts e b s. all_terms_so c.args.shape.now ts (e ∙ ap (λ (xs : List kept_turn.Turn). all_terms (map turn_in xs)) c.as_slice.ensures) b s) c.terms_along.ensures
