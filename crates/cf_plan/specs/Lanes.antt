-- The lanes that are handed in, and what the journal and the lanes tell of an id and of a token (this project's own).
use Rattle.std.specs.Prelude.{◌≡◌, ℕ, true, IsTrue, List, Option, Some, None, find, filter_map, map, is_some}
use Rattle.std.specs.List.{list_all}
use Rattle.std.specs.Str.{bytes_eq}
use Rattle.cf_tree.specs.declared.request.Request.TheVariants as request
use Rattle.cf_handler.specs.Fence.{FencedLane}
use Rattle.cf_handler.specs.Move.{IsOfLane}
use Rattle.cf_handler.specs.Name.{is_lane_name}
use Rattle.cf_schema.specs.declared.described.Schema.{Schema}
use Rattle.cf_schema.specs.Kinds.{found, kinds_distinct}
use Rattle.cf_entry.specs.declared.entry.Entry.{Entry}
use Rattle.cf_entry.specs.declared.entry.Entry.TheVariants as entry
use Rattle.cf_effect.specs.declared.held.Pending.{Pending}
use Rattle.cf_effect.specs.Words.{has_token}
use Rattle.cf_tree.specs.Named.{all_differ}

-- a lane that is handed in
pub record Lane : Type 0 where
  pub name : List ℕ
  pub kind : List ℕ
  pub state : FencedLane

-- each has a lane's name, and no two have the same
pub record AreLanes (lanes : List Lane) : Type 0 where
  pub named : IsTrue (list_all (λ l. is_lane_name l.name) lanes)
  pub names_differ : all_differ bytes_eq (map (λ l. l.name) lanes) ≡ true

-- there is one schema for each type, and one for the type of each lane
pub record AreSchemas (schemas : List Schema) (lanes : List Lane) : Type 0 where
  pub kinds_differ : IsTrue (kinds_distinct schemas)
  pub described : IsTrue (list_all (λ l. is_some (found l.kind schemas)) lanes)

abbrev pub lane_at : List ℕ → List Lane → Option Lane
lane_at name lanes = find (λ l. bytes_eq name l.name) lanes

-- the resource's lane, which its id names, is handed in
pub record IsHome (lanes : List Lane) (id : List ℕ) (lane : Lane) : Type 0 where
  pub handed_in : lane_at lane.name lanes ≡ Some lane
  pub named : IsOfLane lane.name id

-- the call of a token, as the journal's Intent wrote it down
abbrev pub written_in : Entry → Option Pending
written_in (entry.Intent number token lane path request) = Some (record { token = token; path = path; lane = lane; request = request })
written_in _ = None

abbrev pub call_at : ℕ → List Entry → Option Pending
call_at token entries = find (has_token token) (filter_map written_in entries)
