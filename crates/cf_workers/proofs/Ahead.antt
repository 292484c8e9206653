-- No lane is ahead of a book that stands for a life in which what always holds holds: no call of it is too old.
use Rattle.std.proofs.Common.{◌≡◌, ◌⊎◌, inl, inr, ℕ, ◌<◌, ◌≤◌, List, [], Option, Some, None, option_map, ap, subst, arith}
use Rattle.std.specs.Option.{option_map_or}
use Rattle.cf_tree.specs.declared.request.Answer.TheVariants as answer
use Rattle.cf_disk.specs.declared.disk.Disk.{Ghosts}
use Rattle.cf_handler.specs.Fence.{FencedLane}
use Rattle.cf_handler.specs.Tells.{IsStaleWhereBelow}
use Rattle.cf_entry.specs.declared.entry.Reply.{Reply}
use Rattle.cf_schema.specs.declared.described.Schema.{Schema}
use Rattle.cf_plan.specs.Lanes.{Lane, lane_at}
use Rattle.cf_plan.specs.Life.{Life, world_of}
use Rattle.cf_core.specs.Theorem.{HoldsAlways}
use Rattle.cf_book.specs.Events.{reply_for}
use Rattle.cf_book.specs.Lives.{StandsFor}
use Rattle.cf_book.specs.Record.{world_left}
use Rattle.cf_book.specs.State.{BookNow, at_home}
use Rattle.cf_book.specs.declared.stop.StopFault.TheVariants as stop
use Rattle.cf_workers.specs.declared.drive.Drove.TheVariants.{Stopped}
use Rattle.cf_workers.specs.Driving.{CallMade, IsAtRest, LacksOutcome, RoundTells, StopsAfter, StopsBefore}
use Rattle.cf_workers.specs.Leading.{LeadsWith}
use Rattle.cf_workers.proofs.Lives.{one_record}

-- no fence is above the last epoch
pub fence_below : (schemas : List Schema) (life : Life) → HoldsAlways schemas life → (l : Lane) → lane_at l.name life.lanes ≡ Some l
    → l.state.fence ≤ (world_of life).epoch
fence_below schemas life holds l at =
    let none : FencedLane = record { state = record { base = []; settled = [] }; flying = []; fence = 0 } in
    subst (λ (o : Option Lane). (option_map_or (λ (k : Lane). k.state) o none).fence ≤ (world_of life).epoch) at (holds.sound.agrees.tied.ties.fences l.name)

module _ {D : Type 0} (number : ℕ) (b : BookNow D) (schemas : List Schema) (life : Life) (certain : b.doubt ≡ None) (stands : StandsFor b life)
    (holds : HoldsAlways schemas life) (made : CallMade number b.entries b.lanes) (fence : ℕ) (too_old : made.told.answer ≡ answer.Stale fence) where
  epochs : (world_of life).epoch ≡ (world_left b.entries).epoch
  epochs = ap (λ es. (world_left es).epoch) (one_record b life.entries certain stands.entries)

  below : (l : Lane) → lane_at l.name life.lanes ≡ Some l → (o : Option FencedLane)
      → option_map (λ (state : FencedLane). record { name = made.lane.name; kind = made.lane.schema.kind; state = state }) o ≡ Some l
      → IsStaleWhereBelow o (world_left b.entries).epoch (answer.Stale fence) → ⊥
  below l at None e s = let never : ⊥ = cc in never
  below l at (Some state) e s =
      let same : state ≡ l.state = cc in
      let high : (world_left b.entries).epoch < l.state.fence = subst (λ (z : FencedLane). (world_left b.entries).epoch < z.fence) same s.0 in
      omega (arith, high, fence_below schemas life holds l at, epochs)

  pub never_stale : ⊥
  never_stale =
      let (l, is, at) = stands.lanes (at_home made.lane) made.home in
      below l at made.lane.told is (subst (IsStaleWhereBelow made.lane.told (world_left b.entries).epoch) too_old made.called.stale)

-- A round does not stop the book for a lane that is ahead.
module _ {D : Type 0} (g : Ghosts D) (number : ℕ) (b c : BookNow D) (rest : IsAtRest g b) (schemas : List Schema) (life : Life)
    (l : LeadsWith schemas life b b.entries) (holds : HoldsAlways schemas l.after) (place fence epoch : ℕ) where
  lacks : (made : CallMade number b.entries b.lanes) (disk : D) (o : Option Reply)
      → LacksOutcome g disk b c made.after made.told o (stop.LaneAhead place fence epoch) → ⊥
  lacks made disk (Some r) w = w
  lacks made disk None w = never_stale number b schemas l.after rest.certain l.stands holds made fence w.1.0

  pub never_ahead : RoundTells g number b c (Some (Stopped (stop.LaneAhead place fence epoch))) → ⊥
  never_ahead stops = by stops.3 where
    by : StopsBefore g number b c (stop.LaneAhead place fence epoch) ⊎ StopsAfter g number b c (stop.LaneAhead place fence epoch) → ⊥
    by (inl (same, lanes, inl (q, none, l))) = cc
    by (inl (same, lanes, inr (n, e, comes, q, w))) = w
    by (inr (made, intends, same, lanes, w)) = lacks made intends.lent.disk (reply_for made.told.answer) w
