use Rattle.std.proofs.Common.{◌≡◌, ◌∙◌, ◌+◌, ℕ, List, [], ◌∷◌, Option, length, drop, option_map, ap, sym, subst, arith}
use Rattle.std.specs.Option.{option_copied, option_or}
use Rattle.std.proofs.lemmas.List.{drop_more}
use Rattle.cf_tree.specs.Form.{fields_in, node_of}
use Rattle.cf_tree.specs.Forms.{Form, expr, fields_of, place_of}
use Rattle.cf_tree.specs.Forms as node
use Rattle.cf_tree.specs.Keys.{ascends}
use Rattle.cf_tree.specs.declared.expr.ExprPair.{ExprPair}
use Rattle.cf_eval.specs.Env.{scope_in}
use Rattle.cf_eval.specs.Value.{blamed, value_within}
use Rattle.cf_param.specs.declared.offered.Piece.{Piece}
use Rattle.cf_desired.specs.declared.offers.Offer.TheVariants as offer
use Rattle.cf_desired.specs.declared.evaluations.Blame.{Blame}
use Rattle.cf_desired.specs.Given.{blamed_on, offered_fields, offers_in, pieces}
use Rattle.cf_desired.specs.Kept.{IsOffers, Takes, blame_at, flaw_of_blame}
use Rattle.cf_desired.specs.Stack.{stop_in}
use Rattle.cf_desired.proofs.Offering.{IsTaking, all_flaws, all_pieces, drop_all, fields_ascend, pieces_in_order, take_one}
use Rattle.cf_desired.proofs.offers.members_offered.Goals as goal

pub loop-pair-preserved : goal.loop-pair-preserved
loop-pair-preserved c =
    let items = c.as_slice-pair-items.result.now in
    let i = c.loop-pair.pair-index in
    let left : List ExprPair = drop (i + 1) items in
    let split : drop i items ≡ c.pair-item.result ∷ left = drop_more items i c.pair-item.result c.loop-pair-test.true ∙ ap (λ (p : ExprPair). p ∷ left) (sym c.pair-item.is) in
    let s = scope_in c.args.env.now in
    let around = option_copied c.args.around in
    let stack = c.args.env.now.stack.now in
    let e = c.pair-item.result.value in
    let f = value_within s around e in
    let offered = offered_fields s around (fields_of c.args.pairs.now) in
    let at_is : c.blamed-at.result.now ≡ blamed_on around e =
    c.blamed-at.ensures ∙ ap (λ (a : List ℕ). blamed around a (node_of c.node.result.now)) c.at.ensures ∙ sym (ap (λ (x : Form). blamed_on around x) c.node.ensures) in
    take_one stack offered (record { name = c.pair-item.result.name; at = blamed_on around e; value = f }) (offered_fields s around (fields_of (fields_in left))) c.loop-pair.taken c.in_ok-taken.taken
    (subst (λ (ps : List ExprPair). IsTaking stack offered (offered_fields s around (fields_of (fields_in ps))) c.loop-pair.taken) split c.loop-pair.invariant)
    (subst (λ (a : List ℕ). Takes stack c.pair-item.result.name a f c.loop-pair.taken c.in_ok-taken.taken) at_is (c.in_ok-taken.ensures f c.eval_within-value.ensures))

pub from_vec-requires : goal.from_vec-requires
from_vec-requires c =
    let items = c.as_slice-pair-items.result.now in
    let all : c.loop-pair.pair-index ≡ length items = omega arith in
    let none : drop c.loop-pair.pair-index items ≡ [] = ap (λ (k : ℕ). drop k items) all ∙ drop_all items in
    let s = scope_in c.args.env.now in
    let around = option_copied c.args.around in
    let offered = offered_fields s around (fields_of c.args.pairs.now) in
    let done = subst (λ (ps : List ExprPair). IsTaking c.args.env.now.stack.now offered (offered_fields s around (fields_of (fields_in ps))) c.loop-pair.taken) none c.loop-pair.invariant in
    let ordered = ap (λ (ps : List (List ℕ × Form)). ascends ps) (sym c.as_slice-pair-items.ensures.value) ∙ c.as_slice-pair-items.ensures.in_order in
    ap (λ (ps : List (List ℕ × Piece)). ascends ps) (all_pieces c.args.env.now.stack.now offered c.loop-pair.taken done)
    ∙ pieces_in_order offered (fields_ascend s around c.args.pairs.now ordered)

pub returns : goal.returns
returns c =
    let items = c.as_slice-pair-items.result.now in
    let all : c.loop-pair.pair-index ≡ length items = omega arith in
    let none : drop c.loop-pair.pair-index items ≡ [] = ap (λ (k : ℕ). drop k items) all ∙ drop_all items in
    let s = scope_in c.args.env.now in
    let around = option_copied c.args.around in
    let stack = c.args.env.now.stack.now in
    let offered = offered_fields s around (fields_of c.args.pairs.now) in
    let done = subst (λ (ps : List ExprPair). IsTaking stack offered (offered_fields s around (fields_of (fields_in ps))) c.loop-pair.taken) none c.loop-pair.invariant in
    let whole = λ (x : Form). stop_in (value_within s around x) in
    let form : Form = expr (place_of c.args.form.now) (node.dict (fields_of c.args.pairs.now)) in
    subst (λ (x : Form). IsOffers stack (offers_in s around x) (record { given = offer.Pieces c.from_names.result; flaw = c.some_flaw_by.result })) (sym c.requires)
    (record {
      given = ap pieces (c.from_names.ensures ∙ c.from_vec.ensures ∙ all_pieces stack offered c.loop-pair.taken done);
      flaw =
          c.some_flaw_by.ensures ∙ ap (option_map flaw_of_blame) c.in_ok-blame.ensures
          ∙ ap (λ (o : Option Blame). option_map flaw_of_blame (option_or o (option_map (blame_at stack) (whole c.args.form.now)))) c.or.ensures
          ∙ ap (λ (x : Form). option_map flaw_of_blame (option_or (option_or c.loop-pair.taken.part c.loop-pair.taken.kind) (option_map (blame_at stack) (whole x)))) c.requires
          ∙ all_flaws stack offered c.loop-pair.taken done (whole form);
    })
