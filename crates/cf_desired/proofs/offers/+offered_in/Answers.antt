use Rattle.std.proofs.Common.{◌≡◌, ◌∙◌, ℕ, List, Some, None, IfOk, ap, sym, subst}
use Rattle.std.specs.Option.{option_copied}
use Rattle.cf_tree.specs.Form.{node_of}
use Rattle.cf_tree.specs.Forms.{Form, expr, place_of}
use Rattle.cf_tree.specs.Keys.{value_at}
use Rattle.cf_tree.specs.declared.expr.ExprNode.{ExprNode}
use Rattle.cf_tree.specs.declared.expr.ExprNode.TheVariants as kept
use Rattle.cf_eval.specs.Env.{scope_in}
use Rattle.cf_eval.specs.Outcome.{Outcome}
use Rattle.cf_eval.specs.declared.fault.EvalWhy.TheVariants.{UnknownName}
use Rattle.cf_desired.specs.declared.flaw.Flaw.TheVariants as flaw
use Rattle.cf_desired.specs.declared.evaluations.Blame.{Blame}
use Rattle.cf_desired.specs.Given.{Offers, offers_in, value_offers}
use Rattle.cf_desired.specs.Kept.{IsOffers, flaw_of_blame}
use Rattle.cf_desired.proofs.Offering.{by_value, by_undecided}
use Rattle.cf_desired.proofs.offers.+offered_in.Goals as goal

pub returns-in_ok-undecided-in-None : goal.returns-in_ok-undecided-in-None
returns-in_ok-undecided-in-None t c =
    let env = c.args.env.now in
    let around = option_copied c.args.around in
    let path = env.stack.now in
    let name = c.in-If.name in
    let none : value_at name env.conds.now ≡ None =
    ap (λ (n : List ℕ). value_at n env.conds.now) (sym c.as_str.ensures) ∙ sym c.get.ensures ∙ ap (λ o. option_copied o) c.in-None.is in
    let node : c.args.expr.now ≡ expr (place_of c.args.expr.now) (node_of (kept.If c.in-If.name c.in-If.yes c.in-If.no)) = c.node.ensures ∙ ap (λ (n : ExprNode). expr (place_of c.args.expr.now) (node_of n)) c.in-If.is in
    let found = ap (λ (e : Form). offers_in (scope_in env) around e) node ∙ by_undecided env around (place_of c.args.expr.now) name c.in-If.yes.value c.in-If.no.value none in
    subst (λ (o : Outcome Offers). IsOffers path o c.unknown-in-None.result) (sym found)
    (record {
      given = c.unknown-in-None.ensures.given;
      flaw =
          c.unknown-in-None.ensures.flaw ∙ ap (λ (b : Blame). Some (flaw_of_blame b)) (c.in_ok-undecided-in-None.ensures name)
          ∙ ap (λ (a : List ℕ). Some (flaw.Eval UnknownName path a)) c.at-in-None.ensures;
    })

pub returns-in_default : goal.returns-in_default
returns-in_default t c =
    let s = scope_in c.args.env.now in
    let around = option_copied c.args.around in
    let same : value_offers s around c.args.expr.now ≡ offers_in s around c.args.expr.now =
    ap (λ (e : Form). value_offers s around e) c.node.ensures ∙ sym (by_value s around (place_of c.args.expr.now) c.node.result.now c.in_default.not-Dict c.in_default.not-If)
    ∙ sym (ap (λ (e : Form). offers_in s around e) c.node.ensures) in
    subst (λ (o : Outcome Offers). IfOk c.value_offered.result (IsOffers c.args.env.now.stack.now o)) same c.value_offered.ensures
