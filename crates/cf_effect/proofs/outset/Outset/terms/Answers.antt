use Rattle.std.proofs.Common.{◌≡◌, ap, subst, ◌∙◌}
use Rattle.std.specs.Arc.{arc_value}
use Rattle.cf_tree.specs.Keys.{value_at}
use Rattle.cf_desired.specs.Plan.{plan_of}
use Rattle.cf_desired.specs.Whole.{wanted_at}
use Rattle.cf_effect.specs.declared.outset.Ground.{Ground}
use Rattle.cf_effect.specs.Begin.{seen_in}
use Rattle.cf_effect.specs.Outset.{Outset, given_terms}
use Rattle.cf_effect.specs.Reply.{terms_of}
use Rattle.cf_effect.proofs.Termed.{terms_known}
use Rattle.cf_effect.proofs.outset.Outset.terms.Goals as goal

pub returns : goal.returns
returns c =
    let g : Ground = arc_value c.self.inside.ground in
    terms_known c.given_terms.result c.given_terms.ensures
    (ap (λ (x : Ground). given_terms (value_at c.args.path.now x.read.terms)) c.deref.ensures
    ∙ subst (λ (o : Outset). given_terms (value_at c.args.path.now g.read.terms) ≡ terms_of (wanted_at c.args.path.now (plan_of o.source (seen_in o.before)))) c.self.view_is
    (c.self.invariant.terms g.source (seen_in g.before.items) c.self.invariant.shape c.args.path.now))
