-- Which resource of a stack needs which (User Guide, DependsOn and references: what is needed is made before and deleted after what needs
-- it).
use Rattle.std.specs.Prelude.{ℕ, Bool, ◌&&◌, not, List, filter}
use Rattle.std.specs.List.{list_any}
use Rattle.cf_effect.specs.declared.held.Held.{Held}
use Rattle.cf_effect.specs.World.{StackState}
use Rattle.cf_effect.specs.Words.{current_at, resource_at, is_create}
use Rattle.cf_effect.specs.End.{is_physical_of}
use Rattle.cf_effect.specs.Reply.{terms_at}

-- the resource is the held one at one of these paths
abbrev pub is_held_at_one : List (List ℕ) → StackState → Held → Bool
is_held_at_one paths s r = list_any (λ p. is_physical_of r.physical (current_at p s.held)) paths

-- the resource is the made one, or else the held one, at one of these paths
abbrev pub is_at_one : List (List ℕ) → StackState → Held → Bool
is_at_one paths s r = list_any (λ p. is_physical_of r.physical (resource_at p s)) paths

-- the paths that a path needs in the operation's template
abbrev pub needs_at : List ℕ → StackState → List (List ℕ)
needs_at path s = (terms_at path s).needs

-- a held resource needs the held ones at the paths that its record names
abbrev pub is_needed_by_held : StackState → Held → Bool
is_needed_by_held s r = list_any (λ h. is_held_at_one h.needs s r) (filter (λ h. not h.superseded) s.held)

-- a made resource, and a create that is open, needs at each path that its own path needs the made one, or else the held one
abbrev pub is_needed_by_made : StackState → Held → Bool
is_needed_by_made s r = list_any (λ m. is_at_one (needs_at m.path s) s r) s.made

abbrev pub is_needed_by_create : StackState → Held → Bool
is_needed_by_create s r = list_any (λ p. is_create p.request && is_at_one (needs_at p.path s) s r) s.tokens
