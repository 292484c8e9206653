use Rattle.std.proofs.Common.{◌==◌, ap, find, subst, ◌∙◌}
use Rattle.cf_effect.specs.World.{stack_at}
use Rattle.cf_effect.specs.declared.held.KeptSet.{KeptSet}
use Rattle.cf_face.specs.Print.{PrintTells}
use Rattle.cf_top.specs.Telling.{kept_exit, kept_text, set_exit, set_text}
use Rattle.cf_top.proofs.asking.describe_set.Goals as goal

pub returns-in-Some-clause-tells : goal.returns-in-Some-clause-tells
returns-in-Some-clause-tells g c =
    subst (λ stack. PrintTells (g.K.Sink.held c.args.out.now) (g.K.Sink.held c.tell_set.new.out) (g.K.Sink.count c.args.out.now) (g.K.Sink.count c.tell_set.new.out)
    (set_text c.args.name.now c.args.number stack) (set_exit c.args.number stack) c.tell_set.result) (c.in-Some.ensures ∙ ap (λ name. stack_at name c.args.world.now.world) c.as_str.ensures)
    (subst (λ set. PrintTells (g.K.Sink.held c.args.out.now) (g.K.Sink.held c.tell_set.new.out) (g.K.Sink.count c.args.out.now) (g.K.Sink.count c.tell_set.new.out)
    (kept_text c.args.name.now c.args.number set) (kept_exit c.args.number set) c.tell_set.result)
    (c.set_in-set.ensures ∙ ap (find (λ (k : KeptSet). c.args.number == k.number)) (c.as_slice.ensures.value ∙ c.sets.ensures)) c.tell_set.ensures.tells)
