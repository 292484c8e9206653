-- The life of a book whose calls are all home, at rest.
use Rattle.std.proofs.Common.{◌≡◌, List, [], refl, subst}
use Rattle.cf_schema.specs.declared.described.Schema.{Schema}
use Rattle.cf_plan.specs.Life.{Life, world_of}
use Rattle.cf_core.specs.SoundLife.{AreSound}
use Rattle.cf_core.specs.Theorem.{HoldsAlways}
use Rattle.cf_workers.specs.Agreement.{at_rest}

-- What holds of a life whose calls are all home holds of it at rest.
pub rests : (schemas : List Schema) (life : Life) → life.leases ≡ [] → HoldsAlways schemas life → HoldsAlways schemas (at_rest life.entries life.lanes)
rests schemas life none h = record {
  sound = subst (λ ls. AreSound schemas life.entries (world_of life) life.lanes ls) none h.sound;
  described = h.described;
  leases = refl;
  in_flight = λ l i. elim i [ ];
  settles = h.settles;
  leaves = h.leaves;
  way = h.way;
}
