use Rattle.std.proofs.Common.{ap, subst, sym}
use Rattle.std.specs.Option.{option_copied}
use Rattle.cf_face.specs.Print.{PrintTells}
use Rattle.cf_top.specs.Telling.{kept_exit, kept_text}
use Rattle.cf_top.proofs.asking.tell_set.Goals as goal

pub returns-in-Some-clause-tells : goal.returns-in-Some-clause-tells
returns-in-Some-clause-tells g c =
    subst (λ set. PrintTells (g.K.Sink.held c.args.out.now) (g.K.Sink.held c.tell_kept.new.out) (g.K.Sink.count c.args.out.now) (g.K.Sink.count c.tell_kept.new.out)
    (kept_text c.args.name.now c.args.number set) (kept_exit c.args.number set) c.tell_kept.result) (sym (ap option_copied c.in-Some.is)) c.tell_kept.ensures.tells
