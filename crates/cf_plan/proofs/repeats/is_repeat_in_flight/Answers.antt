use Rattle.std.proofs.Common.{◌∙◌, ◌&&◌, List, ap, sym}
use Rattle.std.specs.List.{list_any}
use Rattle.cf_effect.specs.declared.call.Call.{Call}
use Rattle.cf_plan.specs.Follow.{is_in_flight, is_repeated}
use Rattle.cf_plan.proofs.Told.{any_filtered}
use Rattle.cf_plan.proofs.repeats.is_repeat_in_flight.Goals as goal

pub returns : goal.returns
returns c =
    let s = c.args.stack.now.stack in
    c.has_repeat_in_flight.ensures
    ∙ ap (λ (ks : List Call). list_any (λ k. is_in_flight c.args.out.now k.token && is_repeated k) ks) (c.as_slice.ensures.value ∙ c.ledger.ensures)
    ∙ sym (any_filtered (λ (k : Call). is_in_flight c.args.out.now k.token) is_repeated s.ledger)
