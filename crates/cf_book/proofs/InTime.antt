-- No call of a book comes too late in a life that it stands for; and the entries of a book are fewer than a count can tell.
use Rattle.std.proofs.Common.{◌≡◌, ◌<◌, ◌^◌, ℕ, List, [], ◌∷◌, Some, length, refl, sym, ◌∙◌, ap, subst, arith}
use Rattle.std.proofs.lemmas.List.{length-map}
use Rattle.cf_tree.specs.Lists.{In}
use Rattle.cf_tree.specs.declared.request.Answer.{Answer}
use Rattle.cf_tree.specs.declared.request.Answer.TheVariants as answer
use Rattle.cf_handler.specs.Fence.{CallMove, FencedLane, late_by}
use Rattle.cf_handler.specs.Tells.{AreLate, CallTells, LateEffect}
use Rattle.cf_handler.specs.declared.handler.Handler.{Ghosts}
use Rattle.std.specs.Str.{bytes_eq}
use Rattle.cf_plan.proofs.CreatedStays.{found_one}
use Rattle.cf_plan.proofs.Listed.{in_map}
use Rattle.cf_plan.specs.Lanes.{Lane}
use Rattle.cf_plan.specs.Life.{named_lane, world_of}
use Rattle.cf_lane.specs.Calling.{Granted, granted_in}
use Rattle.cf_lane.specs.Lanes.{LaneNow}
use Rattle.cf_lane.specs.declared.told.Told.{Told}
use Rattle.cf_book.specs.Calls.{ComesInTime, IsBack, IsStale}
use Rattle.cf_book.specs.Inside.{entries_in}
use Rattle.cf_book.specs.Lives.{lane_name}
use Rattle.cf_book.specs.Parking.{MayPark, ParksInTime}
use Rattle.cf_book.specs.State.{BookNow, lent_for}
use Rattle.cf_book.specs.declared.homing.Parked.{Parked}
use Rattle.cf_book.specs.declared.homing.Parked.TheVariants.{Lease, Answered}
use Rattle.cf_book.specs.declared.record.Record.{Record}
use Rattle.cf_book.proofs.Parks.{AreOfOpening, told_as}
use Rattle.cf_book.proofs.Raised.{late_fence}

-- late effects leave the fence
lates_fence : (name : List ℕ) (effects : List LateEffect) (before after : FencedLane) → AreLate name before effects after → after.fence ≡ before.fence
lates_fence name [] before after h = ap (λ (l : FencedLane). l.fence) h
lates_fence name (e ∷ es) before after h =
    lates_fence name es (late_by e.place e.settlement before) after h.1 ∙ late_fence e.place e.settlement before

-- a stale call was made below the fence
below_fence : (name : List ℕ) (mid after : FencedLane) (call : Granted) (a : Answer) → CallMove name mid after call.epoch call.token call.request a
    → IsStale a → call.epoch < mid.fence
below_fence name mid after call (answer.Success physical attrs) h s = absurd s
below_fence name mid after call (answer.Failed code) h s = absurd s
below_fence name mid after call answer.Fault h s = absurd s
below_fence name mid after call (answer.Stale fence) h s = h.0
below_fence name mid after call answer.NoMemory h s = absurd s

pub comes_in_time : {D : Type 0} (old : BookNow D) (lane : LaneNow) (told : Told) → IsBack old.lanes lane told → AreOfOpening old → ComesInTime old told
comes_in_time old lane told back opening life stands stale =
    let was = back.before in
    let call : Granted = granted_in told in
    let (l, tells, at) = stands.lanes (lent_for call was) back.out in
    let t = told_as was call l tells in
    let (mid, lates, after, is, move) = subst (λ o. CallTells was.name o lane.told call.epoch call.token call.request told.answer) t.told back.called.tells in
    let epoch : call.epoch ≡ (world_of life).epoch = opening (lent_for call was) call life.entries back.out refl stands.entries in
    let there : In l life.lanes = (found_one (λ (x : Lane). bytes_eq l.name x.name) life.lanes l at).0 in
    let named : In (named_lane l) (world_of life).lanes =
    subst (λ n. In n (world_of life).lanes) (sym (ap named_lane t.is))
    (subst (In (lane_name (lent_for call was))) (sym stands.named) (in_map lane_name (lent_for call was) old.lanes back.out)) in
    let raised : l.state.fence ≡ (world_of life).epoch = stands.raised l there named in
    let still : mid.fence ≡ l.state.fence = lates_fence was.name lates.0 t.state mid lates.1 ∙ ap (λ (z : Lane). z.state.fence) (sym t.is) in
    let late = below_fence was.name mid after call told.answer move stale in
    omega (arith, epoch, raised, still, late)

pub parks_in_time : {H D : Type 0} (g : Ghosts H) (old : BookNow D) (p : Parked H) → MayPark g old.lanes p → AreOfOpening old → ParksInTime old p
parks_in_time g old (Lease lease) may opening = tt
parks_in_time g old (Answered answered) may opening = comes_in_time old _ _ may opening

-- a vector holds fewer entries than a count can tell
pub few_entries : {D : Type 0} (r : Record D) → length (entries_in r) < 2 ^ 64
few_entries r =
    let long = r.entries.ok.0 in
    let within = r.entries.ok.1 in
    let small = r.entries.small in
    let same = length-map r.entries.items (λ e. e.value) in
    omega (arith, long, within, small, same)
