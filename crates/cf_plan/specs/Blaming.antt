-- Which paths failed, as it is worked out: in one walk over the outcomes, and then over the resources (this project's own).
use Rattle.std.specs.Prelude.{ℕ, ◌==◌, Bool, true, List, [], Option, Some, None, nat_lt, fold, filter, map, if◌then◌else◌}
use Rattle.cf_tree.specs.Keys.{put}
use Rattle.cf_entry.specs.declared.entry.Entry.{Entry}
use Rattle.cf_entry.specs.declared.entry.Entry.TheVariants as entry
use Rattle.cf_entry.specs.declared.entry.Reply.{Reply}
use Rattle.cf_effect.specs.declared.held.Held.{Held}
use Rattle.cf_effect.specs.World.{StackState}
use Rattle.cf_effect.specs.Words.{resources_of}
use Rattle.cf_effect.specs.declared.call.Call.{Call}
use Rattle.cf_effect.specs.Calls.{call_under, refusals_of}
use Rattle.cf_plan.specs.Follow.{is_bad_outcome}

-- of each path, whether its last outcome is a doubt or a refusal
abbrev pub BadPaths : Type 0
BadPaths = List (List ℕ × Bool)

abbrev pub noted_call : Option Call → Reply → BadPaths → BadPaths
noted_call None answer vs = vs
noted_call (Some c) answer vs = put c.path (is_bad_outcome (Some c) answer) vs

abbrev pub with_outcome : StackState → BadPaths → Entry → BadPaths
with_outcome s vs (entry.Outcome number token answer before after) =
    if s.operation == number then noted_call (call_under token s) answer vs else vs
with_outcome s vs _ = vs

abbrev pub bad_paths : StackState → BadPaths
bad_paths s = fold (with_outcome s) [] s.entries

-- the path of a resource, where its deletion was refused
abbrev pub with_refused : StackState → BadPaths → Held → BadPaths
with_refused s vs r = if nat_lt 0 (refusals_of r.physical s) then put r.path true vs else vs

abbrev pub blames_of : StackState → BadPaths
blames_of s = fold (with_refused s) (bad_paths s) (resources_of s)

abbrev pub bad_among : BadPaths → List (List ℕ)
bad_among vs = map (λ v. v.0) (filter (λ v. v.1) vs)
