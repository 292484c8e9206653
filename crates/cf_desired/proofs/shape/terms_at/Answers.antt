use Rattle.std.proofs.Common.{◌∙◌, List, ap, map, sym}
use Rattle.std.proofs.lemmas.Result.{IfOk-weaker}
use Rattle.cf_desired.specs.declared.shape.Turn as kept_turn
use Rattle.cf_desired.specs.Kept.{turn_in}
use Rattle.cf_desired.specs.Turns.{terms_among}
use Rattle.cf_desired.proofs.Turning.{terms_so}
use Rattle.cf_desired.proofs.shape.terms_at.Goals as goal

pub returns : goal.returns
returns c =
    let same = ap (λ (ts : List kept_turn.Turn). terms_among (map turn_in ts) c.args.path.now) c.as_slice.ensures in
    IfOk-weaker c.terms_among.result _ _ (λ t e b s. terms_so c.args.shape.now c.args.path.now t (sym (e ∙ same)) b s) c.terms_among.ensures
