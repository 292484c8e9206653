-- Nulls and numbers, wherever they stand in a template: a null is refused everywhere, and a number that is no signed whole number of 64
-- bits everywhere but in the Metadata of the template and of its resources (this project's own; User Guide: Metadata is free). An object
-- or a list comes before its members, members come in the order of their names' bytes.
use Rattle.std.specs.Prelude.{◌≡◌, ◌⊎◌, ℕ, suc, List, codes, Bool, true, is_some, Option, Some, None, Result, Ok, Err, ⊤, if◌then◌else◌}
use Rattle.std.specs.Str.{bytes_eq}
use Rattle.serde_json.specs.Data.{Num, Data, null, boolean, number, string, array, object, Items, no_items, item, Members, no_members, member}
use Rattle.serde_json.specs.Find.{as_i64}
use Rattle.cf_template.specs.declared.refusal.TemplateFault.{TemplateFault}
use Rattle.cf_template.specs.declared.refusal.TemplateFault.TheVariants.{NullValue, BadNumber, NoMemory}
use Rattle.cf_template.specs.declared.walk.Region.{Region}
use Rattle.cf_template.specs.declared.walk.Region.TheVariants.{Root, Resources, Resource, Metadata, Other}
use Rattle.cf_template.specs.Refusals.{first_refusal}
use Rattle.cf_template.specs.Places.{member_place, item_at}

-- where the member of a name stands, in an object that stands somewhere
abbrev pub member_region : Region → List ℕ → Region
member_region Root k = if bytes_eq k (codes "Metadata") then Metadata else if bytes_eq k (codes "Resources") then Resources else Other
member_region Resources k = Resource
member_region Resource k = if bytes_eq k (codes "Metadata") then Metadata else Other
member_region Metadata k = Metadata
member_region Other k = Other

-- where the items of a list stand
abbrev pub item_region : Region → Region
item_region Metadata = Metadata
item_region r = Other

-- whether a number may stand somewhere
abbrev pub is_allowed : Region → Num → Bool
is_allowed Metadata n = true
is_allowed r n = is_some (as_i64 n)

abbrev pub number_fault : Num → Region → List ℕ → Option TemplateFault
number_fault n r at = if is_allowed r n then None else Some (BadNumber at)

-- the first null, or number that may not stand where it does
abbrev mutual
  pub walk_fault : Data → Region → List ℕ → Option TemplateFault
  walk_fault null r at = Some (NullValue at)
  walk_fault (boolean b) r at = None
  walk_fault (number n) r at = number_fault n r at
  walk_fault (string t) r at = None
  walk_fault (array ds) r at = items_fault ds (item_region r) at 0
  walk_fault (object ms) r at = members_fault ms r at

  pub items_fault : Items → Region → List ℕ → ℕ → Option TemplateFault
  items_fault no_items r at i = None
  items_fault (item d ds) r at i = first_refusal (walk_fault d r (item_at at i)) (items_fault ds r at (suc i))

  pub members_fault : Members → Region → List ℕ → Option TemplateFault
  members_fault no_members r at = None
  members_fault (member k d ms) r at = first_refusal (walk_fault d (member_region r k) (member_place at k)) (members_fault ms r at)

-- what a walk from a place answers: nothing where nothing is refused, and the place is as it was; else the first refusal, or that memory
-- was not there
abbrev pub Walks : Option TemplateFault → List ℕ → List ℕ → Result ⊤ TemplateFault → Type 0
Walks fault before later (Ok _) = (fault ≡ None) × (later ≡ before)
Walks fault before later (Err e) = (e ≡ NoMemory) ⊎ (fault ≡ Some e)
