use Rattle.std.proofs.Common.{◌≡◌, ◌==◌, ◌&&◌, ◌∙◌, sym, arith}
use Rattle.std.specs.Prelude.{count_by}
use Rattle.std.proofs.lemmas.Grind.{common_steps}
use Rattle.cf_effect.specs.Operation.{Response, is_doubt}
use Rattle.cf_plan.specs.Called.{reply_passes}
use Rattle.cf_plan.proofs.Answered.{count_replied}
use Rattle.cf_plan.proofs.calls.doubts_in.Goals as goal

pub returns : goal.returns
returns c =
    let test = λ (r : Response). c.args.token == r.token && is_doubt r.answer in
    let counted : c.loop-heard.count ≡ count_by (λ e. reply_passes test e) c.args.entries.now = grind (arith, common_steps) in
    counted ∙ sym (count_replied test c.args.entries.now)
