use Rattle.std.proofs.Common.{◌≡◌, ◌∙◌, ◌+◌, ℕ, List, [], ◌∷◌, Some, length, drop, option_map, ap, sym, subst, arith}
use Rattle.std.proofs.lemmas.List.{drop_more}
use Rattle.cf_tree.specs.Datum.{Data, members_of}
use Rattle.cf_tree.specs.Keys.{ascends}
use Rattle.cf_tree.specs.Value.{datum_of, pairs_of}
use Rattle.cf_tree.specs.declared.value.Pair.{Pair}
use Rattle.cf_eval.specs.Outcome.{got}
use Rattle.cf_eval.specs.Texts.{known}
use Rattle.cf_param.specs.declared.offered.Piece.{Piece}
use Rattle.cf_desired.specs.Given.{offered_members, pieces}
use Rattle.cf_desired.specs.Kept.{flaw_of_blame}
use Rattle.cf_desired.proofs.Offering.{IsTaking, all_pieces, drop_all, member_flaws, members_ascend, pieces_in_order, take_one}
use Rattle.cf_desired.proofs.offers.dict_offered.Goals as goal

pub loop-pair-preserved : goal.loop-pair-preserved
loop-pair-preserved c =
    let items = c.as_slice-pair-items.result.now in
    let i = c.loop-pair.pair-index in
    let left : List Pair = drop (i + 1) items in
    let split : drop i items ≡ c.pair-item.result ∷ left = drop_more items i c.pair-item.result c.loop-pair-test.true ∙ ap (λ (p : Pair). p ∷ left) (sym c.pair-item.is) in
    let at = c.args.at.now in
    take_one c.args.stack.now (offered_members at (members_of c.args.dict.now)) (record { name = c.pair-item.result.name; at = at; value = got (Some (datum_of c.pair-item.result.value)) })
    (offered_members at (members_of (pairs_of left))) c.loop-pair.taken c.in_ok-taken.taken
    (subst (λ (ps : List Pair). IsTaking c.args.stack.now (offered_members at (members_of c.args.dict.now)) (offered_members at (members_of (pairs_of ps))) c.loop-pair.taken) split c.loop-pair.invariant)
    (c.in_ok-taken.ensures (got (Some (datum_of c.pair-item.result.value))) (ap known (sym c.in_ok-try_clone.ensures)))

pub from_vec-requires : goal.from_vec-requires
from_vec-requires c =
    let items = c.as_slice-pair-items.result.now in
    let all : c.loop-pair.pair-index ≡ length items = omega arith in
    let none : drop c.loop-pair.pair-index items ≡ [] = ap (λ (k : ℕ). drop k items) all ∙ drop_all items in
    let at = c.args.at.now in
    let offered = offered_members at (members_of c.args.dict.now) in
    let done = subst (λ (ps : List Pair). IsTaking c.args.stack.now offered (offered_members at (members_of (pairs_of ps))) c.loop-pair.taken) none c.loop-pair.invariant in
    let ordered : ascends c.args.dict.now ≡ _ = ap (λ (ps : List (List ℕ × Data)). ascends ps) (sym c.as_slice-pair-items.ensures.value) ∙ c.as_slice-pair-items.ensures.in_order in
    ap (λ (ps : List (List ℕ × Piece)). ascends ps) (all_pieces c.args.stack.now offered c.loop-pair.taken done)
    ∙ pieces_in_order offered (members_ascend at c.args.dict.now ordered)

pub returns : goal.returns
returns c =
    let items = c.as_slice-pair-items.result.now in
    let all : c.loop-pair.pair-index ≡ length items = omega arith in
    let none : drop c.loop-pair.pair-index items ≡ [] = ap (λ (k : ℕ). drop k items) all ∙ drop_all items in
    let at = c.args.at.now in
    let offered = offered_members at (members_of c.args.dict.now) in
    let done = subst (λ (ps : List Pair). IsTaking c.args.stack.now offered (offered_members at (members_of (pairs_of ps))) c.loop-pair.taken) none c.loop-pair.invariant in record {
      given = ap pieces (c.from_names.ensures ∙ c.from_vec.ensures ∙ all_pieces c.args.stack.now offered c.loop-pair.taken done);
      flaw = c.some_flaw_by.ensures ∙ ap (option_map flaw_of_blame) c.or.ensures ∙ member_flaws c.args.stack.now offered c.loop-pair.taken done;
    }
