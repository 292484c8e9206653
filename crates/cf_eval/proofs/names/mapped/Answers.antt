use Rattle.std.proofs.Common.{◌≡◌, ◌∙◌, ℕ, List, Option, Some, None, ap, sym, subst}
use Rattle.std.specs.Option.{option_copied}
use Rattle.cf_tree.specs.Datum.{Data}
use Rattle.cf_tree.specs.Keys.{value_at}
use Rattle.cf_eval.specs.declared.fault.EvalWhy.TheVariants.{UnknownName}
use Rattle.cf_eval.specs.Functions.{or_fault, under_key}
use Rattle.cf_eval.specs.Gives.{Gives}
use Rattle.cf_eval.specs.Outcome.{bad, fault, on_got}
use Rattle.cf_eval.proofs.names.mapped.Goals as goal

pub returns-in-Some : goal.returns-in-Some
returns-in-Some c =
    let mappings = c.args.scope.now.mappings.now in
    let there : value_at c.args.name.now mappings ≡ Some c.in-Some.keys.now =
    ap (λ (n : List ℕ). value_at n mappings) (sym c.as_str.ensures) ∙ sym c.get.ensures ∙ ap (λ o. option_copied o) c.in-Some.is in
    subst (λ (o : Option (List (List ℕ × List (List ℕ × Data)))).
    Gives (on_got (or_fault UnknownName c.args.at.now o) (under_key c.args.at.now c.args.first.now c.args.second.now)) c.under_key.result) (sym there)
    c.under_key.ensures

pub returns-in_ok-try_clone-in-None : goal.returns-in_ok-try_clone-in-None
returns-in_ok-try_clone-in-None c =
    let mappings = c.args.scope.now.mappings.now in
    let none : value_at c.args.name.now mappings ≡ None =
    ap (λ (n : List ℕ). value_at n mappings) (sym c.as_str.ensures) ∙ sym c.get.ensures ∙ ap (λ o. option_copied o) c.in-None.is in
    ap (λ (o : Option (List (List ℕ × List (List ℕ × Data)))).
    on_got (or_fault UnknownName c.args.at.now o) (under_key c.args.at.now c.args.first.now c.args.second.now)) none
    ∙ ap (λ (at : List ℕ). bad (fault UnknownName at)) (sym c.in_ok-try_clone-in-None.ensures)
