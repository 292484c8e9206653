use Rattle.std.proofs.Common.{◌∙◌, ap, take, sym}
use Rattle.cf_effect.specs.Operation.{is_turn_or_opening}
use Rattle.cf_plan.proofs.Parting.{up_last}
use Rattle.cf_plan.proofs.calls.up_to_last_turn.Goals as goal

pub returns : goal.returns
returns c = ap (λ n. take n c.args.entries.now) c.last_turn.ensures.place ∙ sym (up_last is_turn_or_opening c.args.entries.now)
