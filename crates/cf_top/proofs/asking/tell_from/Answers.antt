use Rattle.std.proofs.Common.{◌∙◌, inl, inr, subst}
use Rattle.cf_top.specs.Answer.{TellsIn}
use Rattle.cf_top.proofs.Meeting.{printing}
use Rattle.cf_top.proofs.asking.tell_from.Goals as goal

pub returns-in-Ok-clause-tells : goal.returns-in-Ok-clause-tells
returns-in-Ok-clause-tells g c =
    inl (
      c.in-Ok.ensures.found.0,
      c.in-Ok.ensures.found.1,
      (λ told. (c.in-Ok.ensures.kept told).same ∙ c.in-Ok.ensures.found.1 told),
      subst (λ x. TellsIn c.args.what.now (printing g.K.Sink c.args.out.now c.tell-exit.new.out) x c.tell-exit.result) c.in-Ok.ensures.found.2 c.tell-exit.ensures.tells,
    )

pub returns-in-Err-clause-tells : goal.returns-in-Err-clause-tells
returns-in-Err-clause-tells g c = inr (c.in-Err.exit, c.in-Err.ensures.cause, c.print_exit.ensures.tells)
