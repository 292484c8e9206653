-- What the conditions of a template and the needs in it come to.
use Rattle.std.proofs.Common.{◌≡◌, ℕ, List, [], ◌∷◌, Bool, Option, Some, None, Result, Ok, Err, refl, sym, ap, subst, ◌∙◌, map}
use Rattle.std.specs.Option.{option_map_or}
use Rattle.cf_tree.specs.declared.bound.Verdict.{Verdict}
use Rattle.cf_tree.specs.declared.bound.Verdict.TheVariants as verdict
use Rattle.cf_tree.specs.declared.source.Source.{Source}
use Rattle.cf_tree.specs.declared.template.Template.{Template}
use Rattle.cf_template.proofs.Ordered.{AreOrdered}
use Rattle.cf_desired.proofs.ComeFirst.{IfOrdered, if_ordered}
use Rattle.cf_eval.specs.declared.fault.EvalFault.{EvalFault}
use Rattle.cf_eval.specs.Env.{RefusesIn}
use Rattle.cf_eval.specs.Outcome.{Outcome, got, later, bad}
use Rattle.cf_desired.specs.declared.evaluations.Blame.{Blame}
use Rattle.cf_desired.specs.Kept.{IsBlameOf, flaw_of_blame}
use Rattle.cf_desired.proofs.Blames.{refused}
use Rattle.cf_eval.specs.Scope.{verdict_of}
use Rattle.cf_graph.specs.Needs.{OrderFault, needs_of}
use Rattle.cf_desired.specs.declared.flaw.Flaw.{Flaw}
use Rattle.cf_desired.specs.declared.flaw.Flaw.TheVariants as flaw
use Rattle.cf_desired.specs.Laying.{by_order, decision_of, order_found}
use Rattle.cf_desired.specs.Seeing.{Seen}
use Rattle.cf_desired.specs.Shape.{Entering, Laying, body_decided, body_in_order, first_later, verdict_from, verdicts_of}
use Rattle.cf_desired.specs.Stack.{Stack, Settings, Verdicts}
use Rattle.cf_desired.specs.Templates.{template_named}
use Rattle.cf_desired.specs.Work.{Body, halted}

verdict_back : (v : Verdict) → verdict_from (verdict_of v) ≡ v
verdict_back verdict.True = refl
verdict_back verdict.False = refl
verdict_back verdict.Later = refl

pub verdicts_back : (conds : Verdicts) → verdicts_of (map (λ c. (c.0, verdict_of c.1)) conds) ≡ conds
verdicts_back [] = refl
verdicts_back (c ∷ conds) = λ i. (c.0, verdict_back c.1 i) ∷ verdicts_back conds i

-- the body of a template by a decision
module _ (lay : Option Laying) (source : Source) (seen : Seen) (e : Entering) (bound : Settings) (templates members : ℕ) where
  abbrev pub body_of : Result (Verdicts × List (List ℕ × List (List ℕ))) Flaw → Body
  body_of (Err f) = halted e.stack f
  body_of (Ok d) = body_in_order lay source seen e bound templates members d.0 (Ok d.1)

  by_needs : (conds : Verdicts) (r : Result (List (List ℕ × List (List ℕ))) OrderFault) → body_in_order lay source seen e bound templates members conds r ≡ body_of (by_order e.stack conds r)
  by_needs conds (Ok order) = refl
  by_needs conds (Err t) = refl

  pub body_decides : (o : Outcome (List (List ℕ × Option Bool))) → body_decided lay source seen e bound templates members o ≡ body_of (decision_of e.stack o)
  body_decides (bad s) = refl
  body_decides later = refl
  body_decides (got conds) = either (first_later conds) where
    either : (o : Option (List ℕ))
        → option_map_or (λ name. halted e.stack (flaw.DynamicCondition e.stack.path name)) o (body_in_order lay source seen e bound templates members (verdicts_of conds) (needs_of e.stack.template (verdicts_of conds)))
        ≡ body_of (option_map_or (λ name. Err (flaw.DynamicCondition e.stack.path name)) o (order_found e.stack (verdicts_of conds)))
    either None = by_needs (verdicts_of conds) (needs_of e.stack.template (verdicts_of conds))
    either (Some name) = refl

-- a template of a source has its resources in order
pub named_ordered : (name : List ℕ) (source : Source) (t : Template) → template_named name source ≡ Some t → AreOrdered t.resources
named_ordered name source t e = subst IfOrdered e (if_ordered name source)

-- where no condition is Later, the order decides
pub undelayed : (t : Stack) (conds : Verdicts) → first_later (map (λ c. (c.0, verdict_of c.1)) conds) ≡ None
    → decision_of t (got (map (λ c. (c.0, verdict_of c.1)) conds)) ≡ order_found t conds
undelayed t conds h =
    ap (λ (o : Option (List ℕ)). option_map_or (λ name. Err (flaw.DynamicCondition t.path name)) o (order_found t (verdicts_of (map (λ c. (c.0, verdict_of c.1)) conds)))) h
    ∙ ap (order_found t) (verdicts_back conds)

pub stopped_decision : (t : Stack) (o : Outcome (List (List ℕ × Option Bool))) (e : EvalFault) (b : Blame) → RefusesIn t.path o e → IsBlameOf e b → Err (flaw_of_blame b) ≡ decision_of t o
stopped_decision t o e b h g =
    let s = refused t.path o e b h g in
    ap (λ (x : Blame). Err (flaw_of_blame x)) s.1.1 ∙ sym (ap (decision_of t) s.1.0)
