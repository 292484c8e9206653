use Rattle.std.proofs.Common.{ap, subst, sym, ◌∙◌}
use Rattle.cf_face.specs.Print.{PrintTells}
use Rattle.cf_face.specs.SetReport.{set_report}
use Rattle.cf_face.specs.declared.exit.Exit.TheVariants.{Done}
use Rattle.cf_top.specs.Reviewing.{review_text}
use Rattle.cf_top.proofs.reviewing.tell_review.Goals as goal

pub returns-in-Ok-clause-tells : goal.returns-in-Ok-clause-tells
returns-in-Ok-clause-tells g c =
    subst (λ text. PrintTells (g.K.Sink.held c.args.out.now) (g.K.Sink.held c.put.new.out) (g.K.Sink.count c.args.out.now) (g.K.Sink.count c.put.new.out) text Done c.put.result)
    (c.as_str.ensures.value ∙ c.in-Ok.ensures ∙ ap (λ rows. set_report c.args.name.now c.in-ChangeSet.number rows c.in-ChangeSet.outputs Done) c.as_slice.ensures
    ∙ ap (review_text c.args.name.now) (sym c.in-ChangeSet.is)) c.put.ensures.tells
