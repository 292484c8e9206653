use Rattle.std.proofs.Common.{◌∙◌, ◌&&◌, List, sym, ap}
use Rattle.std.specs.List.{list_any}
use Rattle.std.specs.Str.{bytes_eq}
use Rattle.cf_effect.specs.declared.call.Call.{Call}
use Rattle.cf_plan.specs.Follow.{is_in_flight}
use Rattle.cf_plan.proofs.Told.{any_filtered}
use Rattle.cf_plan.proofs.lanes.is_out_on.Goals as goal

pub returns : goal.returns
returns c =
    let s = c.args.stack.now.stack in
    c.has_call_on.ensures
    ∙ ap (λ (ks : List Call). list_any (λ k. is_in_flight c.args.out.now k.token && bytes_eq c.args.lane.now k.lane) ks) (c.as_slice.ensures.value ∙ c.ledger.ensures)
    ∙ sym (any_filtered (λ (k : Call). is_in_flight c.args.out.now k.token) (λ (k : Call). bytes_eq c.args.lane.now k.lane) s.ledger)
