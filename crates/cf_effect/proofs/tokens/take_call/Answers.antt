use Rattle.std.proofs.Common.{ap, ◌∙◌}
use Rattle.cf_effect.specs.Words.{has_token, without_token}
use Rattle.cf_effect.proofs.Closed.{closed_first, closed_none}
use Rattle.cf_effect.proofs.tokens.take_call.Goals as goal

pub returns-in-Some-clause-items : goal.returns-in-Some-clause-items
returns-in-Some-clause-items c =
    c.close.ensures.items ∙ ap (without_token c.args.token) c.remove-pending.ensures.items
    ∙ closed_first (has_token c.args.token) c.args.tokens.now.items c.in-Some.at c.remove-pending.result (cc)

pub returns-in-None-clause-items : goal.returns-in-None-clause-items
returns-in-None-clause-items c = closed_none (has_token c.args.token) c.args.tokens.now.items (cc)
