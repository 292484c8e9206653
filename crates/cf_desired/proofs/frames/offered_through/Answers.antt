use Rattle.std.proofs.Common.{◌≡◌, ◌∙◌, IfOk, Option, ap, sym, subst}
use Rattle.std.specs.Option.{option_copied}
use Rattle.std.specs.Prelude.{codes}
use Rattle.cf_tree.specs.Keys.{value_at}
use Rattle.cf_eval.specs.Scope.{Scope}
use Rattle.cf_desired.specs.declared.flaw.Flaw.{Flaw}
use Rattle.cf_desired.specs.Given.{Given, given_in}
use Rattle.cf_desired.specs.Kept.{kept_entry_in, offer_in}
use Rattle.cf_desired.specs.Met.{offers_flaw}
use Rattle.cf_desired.specs.Turns.{flaw_through, given_through}
use Rattle.cf_desired.proofs.OnTop.{on_top}
use Rattle.cf_desired.proofs.frames.offered_through.Goals as goal

pub returns-in-Some-clause-given : goal.returns-in-Some-clause-given
returns-in-Some-clause-given c =
    let top = on_top c.args.frames.now c.in-Some.frame.now (sym c.last.ensures.value ∙ ap option_copied c.in-Some.is) in
    let same = ap (λ (s : Scope). given_in s (value_at (codes "Parameters") c.in-Nested.resource.props)) c.env_on.ensures.scope ∙ sym (λ j. given_through c.args.source.now (top j) (kept_entry_in (c.in-Nested.is j))) in
    subst (λ (g : Given). IfOk c.offered_to.result (λ o. offer_in o.given ≡ g)) same c.offered_to.ensures.given

pub returns-in-Some-clause-flaw : goal.returns-in-Some-clause-flaw
returns-in-Some-clause-flaw c =
    let top = on_top c.args.frames.now c.in-Some.frame.now (sym c.last.ensures.value ∙ ap option_copied c.in-Some.is) in
    let same = (λ j. offers_flaw (c.env_on.ensures.stack j) (c.env_on.ensures.scope j) (value_at (codes "Parameters") c.in-Nested.resource.props)) ∙ sym (λ j. flaw_through c.args.source.now (top j) (kept_entry_in (c.in-Nested.is j))) in
    subst (λ (f : Option Flaw). IfOk c.offered_to.result (λ o. o.flaw ≡ f)) same c.offered_to.ensures.flaw
