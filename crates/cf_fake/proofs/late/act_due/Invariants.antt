use Rattle.std.proofs.Common.{◌≡◌, ◌-◌, ◌≤◌, ◌++◌, length, drop, take}
use Rattle.cf_handler.specs.Tells.{Lates}
use Rattle.cf_fake.specs.Late.{lane_at, late_settled, late_waiting}
use Rattle.cf_fake.proofs.late.act_due.Given as goal

-- those before this place had their turn
abbrev pub invariant-loop-at : goal.invariant-loop-at
invariant-loop-at l = record {
  name : l.store.name ≡ l.initial.store.name;
  schema : l.store.schema ≡ l.initial.store.schema;
  within : l.at ≤ length l.waiting.items;
  settled : late_settled l.initial.store.schema l.initial.store.name l.number l.fence l.initial.waiting.items l.initial.store.settled.items
      ≡ late_settled l.initial.store.schema l.initial.store.name l.number l.fence (drop l.at l.waiting.items) l.store.settled.items;
  waiting : late_waiting l.initial.store.schema l.initial.store.name l.number l.fence l.initial.waiting.items l.initial.store.settled.items
      ≡ take l.at l.waiting.items
      ++ late_waiting l.initial.store.schema l.initial.store.name l.number l.fence (drop l.at l.waiting.items) l.store.settled.items;
  late : Lates l.initial.store.name (lane_at l.initial.store.settled.items l.initial.waiting.items l.fence)
      (lane_at l.store.settled.items l.waiting.items l.fence);
}

abbrev pub decreases-loop-at : goal.decreases-loop-at
decreases-loop-at l = length l.waiting.items - l.at
