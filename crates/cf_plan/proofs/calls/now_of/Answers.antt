use Rattle.std.proofs.Common.{◌∙◌, ap, drop, sym}
use Rattle.cf_effect.specs.Operation.{is_turn_or_opening}
use Rattle.cf_plan.proofs.Parting.{behind_last, rest_from}
use Rattle.cf_plan.proofs.calls.now_of.Goals as goal

pub returns : goal.returns
returns c =
    rest_from c.args.entries.now c.last_turn.result ∙ ap (λ n. drop n c.args.entries.now) c.last_turn.ensures.place
    ∙ sym (behind_last is_turn_or_opening c.args.entries.now)
