use Rattle.std.proofs.Common.{rules, arith, ◌≡◌, ◌∙◌, ap, sym, ◌∷◌, [], ◌+◌, drop}
use Rattle.std.proofs.lemmas.Grind.{common_steps}
use Rattle.serde_json.specs.View.{view, items_view}
use Rattle.cf_template.specs.Places.{item_at}
use Rattle.cf_template.specs.Conds.{test_of, tests_in}
use Rattle.cf_template.proofs.Steps.{tested}
use Rattle.cf_template.proofs.cond.+condition.Goals as goal

pub push_each-loop-item-preserved : goal.push_each-loop-item-preserved
push_each-loop-item-preserved t c =
    let i = c.loop-item.item-index in
    let place : c.in_ok-place.place ≡ item_at c.args.at.now i = cc (c.in_ok-place.ensures, c.as_str.ensures, c.loop-item.invariant.count) in
    record {
      count = omega arith;
      so_far =
          c.loop-item.invariant.so_far
          ∙ tested c.args.params.now c.deref-item-items.result.now c.args.at.now i _ c.in_ok-condition.field-0 c.item-item.result c.loop-item-test.true c.item-item.is
          (ap (test_of c.args.params.now (view c.item-item.result)) (sym place) ∙ c.in_ok-condition.ensures)
          ∙ ap (tests_in c.args.params.now (items_view (drop (i + 1) c.deref-item-items.result.now)) c.args.at.now (i + 1)) (sym c.in_ok-push.ensures.ok);
    }

pub negation_items-returns : goal.negation_items-returns
negation_items-returns t c =
    let all : c.args.items.now.items ≡ c.in-Some.only.now ∷ [] = first_of (cc, search rules, grind (arith, common_steps)) in
    rw all c.negated.ensures
