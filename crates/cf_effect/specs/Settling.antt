-- How the resources of a completed operation are settled by the lists in which their paths are looked up (this project's own).
use Rattle.std.specs.Prelude.{Bool, true, ◌&&◌, not, List, find, if◌then◌else◌}
use Rattle.std.specs.Option.{option_or}
use Rattle.cf_desired.specs.Whole.{Right}
use Rattle.cf_effect.specs.declared.held.Held.{Held}
use Rattle.cf_effect.specs.End.{as_wanted, is_physical_of, is_right_at}
use Rattle.cf_effect.specs.Words.{current_at}

-- whether a resource is the one of its path among those that an operation made and those that are held
abbrev pub is_of_its_path : List Held → List Held → Held → Bool
is_of_its_path made held h =
    is_physical_of h.physical (option_or (current_at h.path made) (current_at h.path held)) && not h.superseded

abbrev pub settled_among : List Right → List Held → List Held → Held → Held
settled_among wanted made held h =
    if is_of_its_path made held h then as_wanted (find (is_right_at h.path) wanted) h else record h { superseded = true }
