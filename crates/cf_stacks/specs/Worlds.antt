-- How a world stands for its record (this project's own).
use Rattle.std.specs.Prelude.{◌≡◌, ⊤, ℕ, ◌+◌, ◌<◌, ◌≤◌, ◌^◌, Option, Some, None, option_map}
use Rattle.cf_entry.specs.declared.entry.Entry.{Entry}
use Rattle.cf_stacks.specs.declared.ready.Ready.{Ready}
use Rattle.cf_stacks.specs.declared.world.World.TheInside.{Inside}
use Rattle.cf_stacks.specs.Ready.{IsPrepared}
use Rattle.cf_stacks.specs.Room.{Standing}
use Rattle.cf_stacks.specs.Standing.{awaited_in, calls_total, world_in}

abbrev pub entry_ready : Option Ready → Option Entry
entry_ready r = option_map (λ q. q.entry) r

abbrev pub standing_of : Inside → Standing
standing_of i = record { world = world_in i.fields; ready = entry_ready i.ready; awaited = awaited_in i.fields }

-- an entry counts for itself and for the outcome that it may leave to come
abbrev pub places_ready : Option Ready → ℕ
places_ready None = 0
places_ready (Some r) = 2

abbrev pub IsPreparedIn : Inside → Option Ready → Type 0
IsPreparedIn i None = ⊤
IsPreparedIn i (Some r) = IsPrepared r.entry i.fields r.work

pub record IsStanding (i : Inside) : Type 0 where
  pub ready : IsPreparedIn i i.ready
  pub total : calls_total i.fields.stacks ≤ i.calls
  pub counts : i.fields.place + i.calls + places_ready i.ready < 2 ^ 64
