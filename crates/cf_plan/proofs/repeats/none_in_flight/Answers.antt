use Rattle.std.proofs.Common.{◌∙◌, List, sym, ap, not}
use Rattle.std.specs.List.{list_any}
use Rattle.cf_effect.specs.declared.call.Call.{Call}
use Rattle.cf_plan.specs.Follow.{is_in_flight}
use Rattle.cf_plan.proofs.Told.{none_left}
use Rattle.cf_plan.proofs.repeats.none_in_flight.Goals as goal

pub returns : goal.returns
returns c =
    let s = c.args.stack.now.stack in
    ap not
    (c.has_call_in_flight.ensures ∙ ap (λ (ks : List Call). list_any (λ k. is_in_flight c.args.out.now k.token) ks) (c.as_slice.ensures.value ∙ c.ledger.ensures))
    ∙ sym (none_left (λ (k : Call). is_in_flight c.args.out.now k.token) s.ledger)
