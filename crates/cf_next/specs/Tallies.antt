-- How often an operation began to delete each resource, and how often that was refused, counted in one walk over its calls (this
-- project's own).
use Rattle.std.specs.Prelude.{ℕ, ◌==◌, List, Option, Some, None, nat_lt, length, if◌then◌else◌}
use Rattle.std.specs.Option.{unwrap_or}
use Rattle.cf_tree.specs.Keys.{put, value_at}
use Rattle.cf_tree.specs.declared.request.Request.{Request}
use Rattle.cf_tree.specs.declared.request.Request.TheVariants as request
use Rattle.cf_effect.specs.declared.call.Call.{Call}
use Rattle.cf_effect.specs.Calls.{deletions_of, one_more, refusals_of, was_refused}
use Rattle.cf_effect.specs.World.{StackState}
use Rattle.cf_next.specs.declared.tallies.Tally.{Tally}

-- three tries and more are not told apart
abbrev pub up_to_three : ℕ → ℕ
up_to_three n = if nat_lt n 3 then n else 3

abbrev pub tally_of : List ℕ → StackState → Tally
tally_of id s = record { begun = up_to_three (length (deletions_of id s)); refused = up_to_three (refusals_of id s) }

-- the resource that a request deletes
abbrev pub deleted_id : Request → Option (List ℕ)
deleted_id (request.Delete physical) = Some physical
deleted_id _ = None

-- as code counts them
abbrev pub no_tally : Tally
no_tally = record { begun = 0; refused = 0 }

abbrev pub tally_under : List ℕ → List (List ℕ × Tally) → Tally
tally_under id tallies = unwrap_or (value_at id tallies) no_tally

abbrev pub one_tallied : Call → Tally → Tally
one_tallied c t = record { begun = one_more t.begun; refused = if was_refused c then one_more t.refused else t.refused }

abbrev pub tallied_under : Option (List ℕ) → Call → List (List ℕ × Tally) → List (List ℕ × Tally)
tallied_under None c tallies = tallies
tallied_under (Some id) c tallies = put id (one_tallied c (tally_under id tallies)) tallies

abbrev pub with_call : ℕ → List (List ℕ × Tally) → Call → List (List ℕ × Tally)
with_call number tallies c = if c.number == number then tallied_under (deleted_id c.request) c tallies else tallies
