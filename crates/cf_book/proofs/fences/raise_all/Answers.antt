use Rattle.std.proofs.Common.{◌≡◌, suc, ◌+◌, ◌<◌, ◌≤◌, arith, [], length, take, drop, refl, subst}
use Rattle.std.proofs.lemmas.List.{drop_all, length-map}
use Rattle.cf_lane.specs.Lanes.{IsFenced, lane_with}
use Rattle.cf_book.specs.Fences.{EachRaised, handed_in}
use Rattle.cf_book.proofs.Fenced.{raised_all, raised_more, still_there, stops_there}
use Rattle.cf_book.proofs.fences.raise_all.Goals as goal

pub loop-at-init : goal.loop-at-init
loop-at-init g c = record { raised = tt; rest = refl }

pub raise_at-requires : goal.raise_at-requires
raise_at-requires g c =
    let within : c.loop-at.at < length c.args.lanes.now.items = omega (arith, c.loop-at-test.true, c.len-at-end.ensures) in
    still_there (λ h. lane_with g.H.Handler h []) c.loop-at.at c.loop-at.lanes.items c.args.lanes.now.items c.loop-at.invariant.rest within

pub returns-in_default : goal.returns-in_default
returns-in_default g c = (
  stops_there c.args.epoch c.loop-at.at (handed_in g.H.Handler c.args.lanes.now.items) (handed_in g.H.Handler c.loop-at.lanes.items)
      (handed_in g.H.Handler c.raise_at.new.lanes.items) c.raise_at.ensures.lane c.raise_at.ensures.lane' c.raise_at.result c.loop-at.invariant.raised
      c.loop-at.invariant.rest c.raise_at.ensures.was c.raise_at.ensures.now c.raise_at.ensures.fenced,
  c.in_default.not-Raised,
)

pub loop-at-preserved : goal.loop-at-preserved
loop-at-preserved g c =
    let was = handed_in g.H.Handler c.args.lanes.now.items in
    let now = handed_in g.H.Handler c.raise_at.new.lanes.items in
    let next : suc c.loop-at.at ≡ c.loop-at.at + 1 = omega arith in
    let more = subst (λ n. EachRaised (take n was) (take n now) c.args.epoch × (drop n now ≡ drop n was)) next
    (raised_more c.args.epoch c.loop-at.at was (handed_in g.H.Handler c.loop-at.lanes.items) now c.raise_at.ensures.lane c.raise_at.ensures.lane'
    c.loop-at.invariant.raised c.loop-at.invariant.rest c.raise_at.ensures.was c.raise_at.ensures.now
    (subst (IsFenced c.raise_at.ensures.lane c.raise_at.ensures.lane' c.args.epoch) c.in-Raised.is c.raise_at.ensures.fenced)) in
    record { raised = more.0; rest = more.1 }

pub returns : goal.returns
returns g c =
    let past : length (handed_in g.H.Handler c.args.lanes.now.items) ≤ c.loop-at.at =
    omega (arith, c.loop-at-test.false, c.len-at-end.ensures, length-map c.args.lanes.now.items (λ h. lane_with g.H.Handler h [])) in
    raised_all c.args.epoch c.loop-at.at (handed_in g.H.Handler c.args.lanes.now.items) (handed_in g.H.Handler c.loop-at.lanes.items)
    c.loop-at.invariant.raised c.loop-at.invariant.rest (drop_all c.loop-at.at (handed_in g.H.Handler c.args.lanes.now.items) past)
