-- A lease makes one call on the lane that it owns (this project's own).
use Rattle.std.specs.Prelude.{◌≡◌, ℕ, [], ◌∷◌, ◌++◌}
use Rattle.cf_tree.specs.declared.request.Request.{Request}
use Rattle.cf_handler.specs.Move.{CreatesInLane, HasCause, IsShort}
use Rattle.cf_handler.specs.Tells.{CallTells, IsStaleWhereBelow}
use Rattle.cf_lane.specs.Lanes.{LaneNow}
use Rattle.cf_lane.specs.declared.lane.Lane.{Lane}
use Rattle.cf_lane.specs.declared.lease.Lease.{Lease}
use Rattle.cf_lane.specs.declared.lease.Answered.{Answered}
use Rattle.cf_lane.specs.declared.told.Told.{Told}

-- the call that was granted: of which opening and operation, under which token, and what is asked
pub record Granted : Type 0 where
  pub epoch : ℕ
  pub number : ℕ
  pub token : ℕ
  pub request : Request

abbrev pub granted_of : {H : Type 0} → Lease H → Granted
granted_of l = record { epoch = l.epoch; number = l.number; token = l.token; request = l.request }

abbrev pub granted_in : Told → Granted
granted_in t = record { epoch = t.epoch; number = t.number; token = t.token; request = t.request }

-- the lane that a lease owns, and that of an answer; what was answered
abbrev pub leased_lane : {H : Type 0} → Lease H → Lane H
leased_lane l = l.lane

abbrev pub answered_lane : {H : Type 0} → Answered H → Lane H
answered_lane a = a.lane

abbrev pub told_of : {H : Type 0} → Answered H → Told
told_of a = a.told

-- One call of the lane, the granted one, came to this: it is the last of the log, with the counts before and after, and has its cause.
pub record IsCalled (granted : Granted) (before after : LaneNow) (told : Told) : Type 0 where
  pub granted_is : granted_in told ≡ granted
  pub name : after.name ≡ before.name
  pub schema : after.schema ≡ before.schema
  pub log : after.log ≡ before.log ++ told ∷ []
  pub count_before : told.before ≡ before.count
  pub count_after : told.after ≡ after.count
  pub cause : HasCause told.before told.after told.answer
  pub short : IsShort told.answer
  pub created : CreatesInLane before.name granted.request told.answer
  pub stale : IsStaleWhereBelow before.told granted.epoch told.answer
  pub tells : CallTells before.name before.told after.told granted.epoch granted.token granted.request told.answer
