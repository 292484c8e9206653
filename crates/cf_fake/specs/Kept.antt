-- What the handler in memory is, as its calls are told (this project's own).
use Rattle.std.specs.Prelude.{◌≡◌}
use Rattle.cf_fake.specs.declared.memory.MemoryHandler.{MemoryHandler}
use Rattle.cf_fake.specs.Call.{Kept}

abbrev pub kept_of : MemoryHandler → Kept
kept_of h = record {
  name = h.store.name;
  schema = h.store.schema;
  plan = h.plan;
  has_fenced = h.has_fenced;
  calls = h.calls;
  faults = h.faults;
  fence = h.fence;
  settled = h.store.settled.items;
  waiting = h.waiting.items;
}

-- all stays but what was settled and what waits
pub record IsSameButTables (before after : MemoryHandler) : Type 0 where
  pub name : after.store.name ≡ before.store.name
  pub schema : after.store.schema ≡ before.store.schema
  pub plan : after.plan ≡ before.plan
  pub has_fenced : after.has_fenced ≡ before.has_fenced
  pub calls : after.calls ≡ before.calls
  pub faults : after.faults ≡ before.faults
  pub fence : after.fence ≡ before.fence
