-- Which resources of a stack others need, worked out once: their physical ids (this project's own).
use Rattle.std.specs.Prelude.{◌≡◌, ◌||◌, ℕ, List, [], ◌++◌, Option, None, Some, flat_map, fold, if◌then◌else◌}
use Rattle.std.specs.Option.{option_to_list}
use Rattle.cf_tree.specs.Keys.{value_at}
use Rattle.cf_tree.specs.Lists.{is_among}
use Rattle.cf_effect.specs.declared.held.Held.{Held}
use Rattle.cf_effect.specs.declared.held.Pending.{Pending}
use Rattle.cf_effect.specs.Words.{is_create}
use Rattle.cf_effect.specs.World.{StackState}
use Rattle.cf_plan.specs.Between.{is_needed_by_create, is_needed_by_held, is_needed_by_made, needs_at}
use Rattle.cf_next.specs.Lookups.{with_named}

-- the path at which a resource is the one of its path
abbrev pub current_path : Held → Option (List ℕ)
current_path h = if h.superseded then None else Some h.path

-- the physical ids of the resources at the paths of a list, of the first at each
abbrev pub with_id : List (List ℕ × List ℕ) → Held → List (List ℕ × List ℕ)
with_id ids h = with_named (current_path h) h.physical ids

abbrev pub held_ids : StackState → List (List ℕ × List ℕ)
held_ids s = fold with_id [] s.held

abbrev pub resource_ids : StackState → List (List ℕ × List ℕ)
resource_ids s = fold with_id (fold with_id [] s.made) s.held

-- the ids at some paths
abbrev pub ids_at : List (List ℕ × List ℕ) → List (List ℕ) → List (List ℕ)
ids_at ids paths = flat_map (λ p. option_to_list (value_at p ids)) paths

-- what a made resource needs, what a create that is open needs, what a held resource needs
abbrev pub for_made : List (List ℕ × List ℕ) → StackState → Held → List (List ℕ)
for_made ids s m = ids_at ids (needs_at m.path s)

abbrev pub for_create : List (List ℕ × List ℕ) → StackState → Pending → List (List ℕ)
for_create ids s p = if is_create p.request then ids_at ids (needs_at p.path s) else []

abbrev pub for_held : List (List ℕ × List ℕ) → Held → List (List ℕ)
for_held ids h = if h.superseded then [] else ids_at ids h.needs

-- these tell of each resource whether it is needed: by what is made or is being created; by any of these or by what is held
abbrev pub AreNeeded : StackState → List (List ℕ) → Type 0
AreNeeded s ids = (r : Held) → is_among r.physical ids ≡ (is_needed_by_made s r || is_needed_by_create s r)

abbrev pub AreAllNeeded : StackState → List (List ℕ) → Type 0
AreAllNeeded s ids = (r : Held) → is_among r.physical ids ≡ ((is_needed_by_made s r || is_needed_by_create s r) || is_needed_by_held s r)

-- as code finds them
abbrev pub needed_ids : StackState → List (List ℕ)
needed_ids s = flat_map (for_made (resource_ids s) s) s.made ++ flat_map (for_create (resource_ids s) s) s.tokens

abbrev pub held_needs : StackState → List (List ℕ)
held_needs s = flat_map (for_held (held_ids s)) s.held
