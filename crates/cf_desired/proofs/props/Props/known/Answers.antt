use Rattle.std.proofs.Common.{◌≡◌, ◌∙◌, ℕ, List, Bool, Some, length, take, map, ap, sym, subst, arith}
use Rattle.std.specs.Bool.{IsTrue}
use Rattle.std.proofs.Math.Seq.{take-length}
use Rattle.cf_tree.specs.Datum.{Data}
use Rattle.cf_tree.specs.Keys.{ascends}
use Rattle.cf_tree.specs.Value.{pairs_of}
use Rattle.cf_desired.specs.Props.{prop_of}
use Rattle.cf_desired.specs.Whole.{known_props_from}
use Rattle.cf_desired.specs.declared.props.Prop.{Prop}
use Rattle.cf_desired.proofs.Known.{all_known, known_as, known_ascend}
use Rattle.cf_desired.proofs.props.Props.known.Goals as goal

pub from_pairs-requires : goal.from_pairs-requires
from_pairs-requires c =
    let items = c.as_slice-prop-items.result.now in
    let all : c.loop-prop.prop-index ≡ length items = omega arith in
    let taken : take c.loop-prop.prop-index items ≡ items = ap (λ (k : ℕ). take k items) all ∙ take-length items in
    let same : map prop_of items ≡ map known_as (pairs_of c.loop-prop.pairs.items) = ap (λ (ps : List Prop). map prop_of ps) (sym taken) ∙ c.loop-prop.invariant in
    subst (λ (b : Bool). IsTrue b) (ap ascends same ∙ known_ascend (pairs_of c.loop-prop.pairs.items)) c.as_slice-prop-items.ensures.in_order

pub returns : goal.returns
returns c =
    let items = c.as_slice-prop-items.result.now in
    let all : c.loop-prop.prop-index ≡ length items = omega arith in
    let taken : take c.loop-prop.prop-index items ≡ items = ap (λ (k : ℕ). take k items) all ∙ take-length items in
    let same : map prop_of items ≡ map known_as (pairs_of c.loop-prop.pairs.items) = ap (λ (ps : List Prop). map prop_of ps) (sym taken) ∙ c.loop-prop.invariant in
    ap (λ (ds : List (List ℕ × Data)). Some ds) c.from_pairs.ensures ∙ sym (all_known (pairs_of c.loop-prop.pairs.items)) ∙ ap known_props_from (sym same)
    ∙ ap known_props_from c.as_slice-prop-items.ensures.value
