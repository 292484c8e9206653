-- A lane as plain values: what its handler shows, and its log (this project's own).
use Rattle.std.specs.Prelude.{◌≡◌, ℕ, List, Option}
use Rattle.cf_schema.specs.declared.described.Schema.{Schema}
use Rattle.cf_handler.specs.declared.fence.FenceAnswer.{FenceAnswer}
use Rattle.cf_handler.specs.declared.handler.Handler.{Ghosts}
use Rattle.cf_handler.specs.Fence.{FencedLane}
use Rattle.cf_handler.specs.Tells.{FenceTells, HasFenceCause}
use Rattle.cf_lane.specs.Log.{calls_in}
use Rattle.cf_lane.specs.declared.lane.Lane.{Lane}
use Rattle.cf_lane.specs.declared.told.Told.{Told}

-- a lane as it is now: its name, the schema of its type, its count of faults, what it tells, and the calls that were made on it
pub record LaneNow : Type 0 where
  pub name : List ℕ
  pub schema : Schema
  pub count : ℕ
  pub told : Option FencedLane
  pub log : List Told

-- a handler with these calls behind it
abbrev pub lane_with : {H : Type 0} → Ghosts H → H → List Told → LaneNow
lane_with g handler calls = record {
  name = g.label handler;
  schema = g.schema_of handler;
  count = g.count handler;
  told = g.told handler;
  log = calls;
}

abbrev pub handler_of : {H : Type 0} → Lane H → H
handler_of l = l.handler

abbrev pub calls_of : {H : Type 0} → Lane H → List Told
calls_of l = calls_in l.log

abbrev pub lane_now : {H : Type 0} → Ghosts H → Lane H → LaneNow
lane_now g l = lane_with g (handler_of l) (calls_of l)

-- the same handler with the same log
pub record IsSameLane {H : Type 0} (before after : Lane H) : Type 0 where
  pub handler : handler_of after ≡ handler_of before
  pub log : calls_of after ≡ calls_of before

-- raising the fence of a lane: name, schema and log stay, and the answer has its cause
pub record IsFenced (before after : LaneNow) (epoch : ℕ) (a : FenceAnswer) : Type 0 where
  pub name : after.name ≡ before.name
  pub schema : after.schema ≡ before.schema
  pub log : after.log ≡ before.log
  pub cause : HasFenceCause before.count after.count a
  pub tells : FenceTells before.name before.told after.told epoch a before.count after.count
