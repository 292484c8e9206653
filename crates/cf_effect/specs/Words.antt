-- What is asked of a stack's lists (this project's own).
use Rattle.std.specs.Prelude.{ℕ, ◌==◌, Bool, true, false, ◌&&◌, not, List, [], ◌∷◌, ◌++◌, Option, Some, None, find, filter, codes, if◌then◌else◌}
use Rattle.std.specs.List.{list_any}
use Rattle.std.specs.Option.{option_or, option_map_or}
use Rattle.std.specs.Str.{bytes_eq}
use Rattle.cf_tree.specs.declared.request.Request.{Request}
use Rattle.cf_tree.specs.declared.request.Request.TheVariants as request
use Rattle.cf_export.specs.declared.Export.{Export}
use Rattle.cf_export.specs.Export.{pins_name}
use Rattle.cf_effect.specs.declared.held.Held.{Held}
use Rattle.cf_effect.specs.declared.held.Pending.{Pending}
use Rattle.cf_effect.specs.World.{StackState, World}

-- the export is of this stack, and another stack pins it
abbrev pub is_pinned : List ℕ → World → Export → Bool
is_pinned name x e = bytes_eq name e.stack && list_any (pins_name e.name name) x.pins

-- a resource of this physical id, of this path
abbrev pub has_physical : List ℕ → Held → Bool
has_physical physical h = bytes_eq physical h.physical

abbrev pub is_at : List ℕ → Held → Bool
is_at path h = bytes_eq path h.path

-- the resource that a list holds at a path: one that is superseded is no longer the resource of its path
abbrev pub is_current_at : List ℕ → Held → Bool
is_current_at path h = is_at path h && not h.superseded

abbrev pub current_at : List ℕ → List Held → Option Held
current_at path hs = find (is_current_at path) hs

-- the resource of a path: the one that the operation made, or else the held one
abbrev pub resource_at : List ℕ → StackState → Option Held
resource_at path s = option_or (current_at path s.made) (current_at path s.held)

-- all resources that a stack holds or has made
abbrev pub resources_of : StackState → List Held
resources_of s = s.held ++ s.made

abbrev pub without : List ℕ → List Held → List Held
without physical hs = filter (λ h. not (has_physical physical h)) hs

-- the first that passes is changed
abbrev pub change_first : {A : Type 0} → (A → Bool) → (A → A) → List A → List A
change_first test change [] = []
change_first test change (a ∷ rest) = if test a then change a ∷ rest else a ∷ change_first test change rest

-- the resource of this id is changed; ids are distinct
abbrev pub where_physical : List ℕ → (Held → Held) → List Held → List Held
where_physical physical change hs = change_first (has_physical physical) change hs

-- the open call of this token
abbrev pub has_token : ℕ → Pending → Bool
has_token token p = token == p.token

abbrev pub pending_of : ℕ → StackState → Option Pending
pending_of token s = find (has_token token) s.tokens

abbrev pub without_token : ℕ → List Pending → List Pending
without_token token ps = filter (λ p. not (has_token token p)) ps

-- the physical id that a request names; a create names none
abbrev pub id_named : Request → Option (List ℕ)
id_named (request.Create kind props) = None
id_named (request.Update physical props) = Some physical
id_named (request.Delete physical) = Some physical

-- the physical id of what a call may have made, where it is not known
abbrev pub unknown_id : List ℕ
unknown_id = codes "-"

-- the open call is on this resource
abbrev pub is_on : List ℕ → Pending → Bool
is_on physical p = option_map_or (bytes_eq physical) (id_named p.request) false

abbrev pub is_update : Request → Bool
is_update (request.Update physical props) = true
is_update _ = false

abbrev pub is_create : Request → Bool
is_create (request.Create kind props) = true
is_create _ = false

-- the request deletes, or updates, this resource
abbrev pub deletes : List ℕ → Request → Bool
deletes physical (request.Delete other) = bytes_eq physical other
deletes physical _ = false

abbrev pub updates : List ℕ → Request → Bool
updates physical (request.Update other props) = bytes_eq physical other
updates physical _ = false

-- the open call is a create, at all or at this path
abbrev pub is_created : Pending → Bool
is_created p = is_create p.request

abbrev pub is_create_at : List ℕ → Pending → Bool
is_create_at path p = is_created p && bytes_eq path p.path
