use Rattle.std.proofs.Common.{length, sym, ◌∙◌}
use Rattle.std.proofs.lemmas.Bool.{eqb-true}
use Rattle.std.proofs.lemmas.List.{nil_from_length}
use Rattle.cf_plan.proofs.AtHome.{no_call_out}
use Rattle.cf_plan.proofs.repeats.has_call_in_flight.Goals as goal

pub returns-then-is_empty : goal.returns-then-is_empty
returns-then-is_empty c =
    no_call_out c.args.out.now c.args.calls.now
    (nil_from_length c.args.out.now (eqb-true (length c.args.out.now) 0 (sym c.is_empty.ensures ∙ c.if-is_empty.true)))
