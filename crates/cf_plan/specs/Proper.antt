-- What the engine appends can be written (this project's own).
use Rattle.std.specs.Prelude.{ℕ, List}
use Rattle.cf_schema.specs.declared.described.Schema.{Schema}
use Rattle.cf_entry.specs.declared.entry.Entry.{Entry}
use Rattle.cf_entry.specs.Entry.{IsProper}
use Rattle.cf_effect.specs.World.{World}
use Rattle.cf_plan.specs.Follow.{MayFollow}
use Rattle.cf_plan.specs.Life.{IsGranted}

-- each entry that comes next in an operation, of whatever kind
abbrev pub GrantedIsProper : Type 0
GrantedIsProper = (schemas : List Schema) (x : World) (out : List ℕ) (e : Entry) → IsGranted e → MayFollow schemas x out e → IsProper e
