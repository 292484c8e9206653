-- What is known of each path of an operation's template, by its place in the order of work; which of them are done by that, which
-- are at fault, and which requests may begin (this project's own).
use Rattle.std.specs.Prelude.{◌≡◌, ℕ, Bool, true, false, ◌&&◌, ◌||◌, not, List, [], ◌∷◌, ◌++◌, ◌<◌, Option, Some, None, ⊤, fold, flat_map, filter_map, is_some, map, option_map, suc, unwrap_or, if◌then◌else◌}
use Rattle.std.specs.List.{list_all, slice_get}
use Rattle.std.specs.Option.{option_copied}
use Rattle.std.specs.Str.{bytes_eq}
use Rattle.cf_tree.specs.Datum.{Data, members_of}
use Rattle.cf_tree.specs.Same.{same_members}
use Rattle.cf_schema.specs.declared.described.Schema.{Schema}
use Rattle.cf_desired.specs.declared.flaw.Flaw.{Flaw}
use Rattle.cf_effect.specs.declared.held.Held.{Held}
use Rattle.cf_effect.specs.World.{StackState}
use Rattle.cf_effect.specs.Words.{current_at}
use Rattle.cf_tree.specs.declared.request.Request.{Request}
use Rattle.cf_tree.specs.declared.request.Request.TheVariants as request
use Rattle.cf_plan.specs.Between.{needs_at}
use Rattle.cf_plan.specs.Follow.{is_free}
use Rattle.cf_plan.specs.Forward.{Finding, Bad, Later, Known, evaluated_at, wanted_paths, was_answered_at, was_updated_at}
use Rattle.cf_tree.specs.Lists.{In}
use Rattle.cf_plan.specs.Start.{Start}
use Rattle.cf_plan.specs.Starts.{create_over, start_of, wants_update}
use Rattle.cf_plan.specs.declared.path_state.PathFinding.{PathFinding}
use Rattle.cf_plan.specs.declared.path_state.PathFinding.TheVariants as it
use Rattle.cf_plan.specs.declared.path_state.PathState.{PathState}

-- what its properties come to, once that is worked out
abbrev pub finding_in : PathFinding → Option Finding
finding_in it.Unread = None
finding_in (it.Bad flaw) = Some (Bad flaw.now)
finding_in it.Later = Some Later
finding_in (it.Known kind props) = Some (Known kind.now props.now)

-- the path at a place is done; those at these places are
abbrev pub is_done_at : List Bool → ℕ → Bool
is_done_at done place = unwrap_or (slice_get done place) false

abbrev pub are_done_at : List Bool → List ℕ → Bool
are_done_at done places = list_all (λ place. is_done_at done place) places

-- what is held is sure, and of the type and with the properties that are wanted
abbrev pub has_props : PathFinding → List ℕ → List (List ℕ × Data) → Bool
has_props (it.Known kind props) k ps = bytes_eq kind.now k && same_members (members_of props.now) (members_of ps)
has_props _ k ps = false

abbrev pub is_as_wanted : PathFinding → Option Held → Bool
is_as_wanted found None = false
is_as_wanted found (Some h) = not h.unsure && has_props found h.kind h.props

-- A path is done by those before it; and all of them one after another.
abbrev pub is_done_by : List Bool → PathState → Bool
is_done_by done p = p.is_made || (p.is_updated || (are_done_at done p.needs.now && is_as_wanted p.found (option_copied p.held)))

abbrev pub with_done : List Bool → PathState → List Bool
with_done done p = done ++ is_done_by done p ∷ []

abbrev pub done_by_places : List PathState → List Bool
done_by_places ps = fold with_done [] ps

abbrev pub are_all_done_at : List Bool → List PathState → Bool
are_all_done_at done ps = list_all (λ p. is_done_at done p.place) ps

-- what the properties come to is worked out, at each path that is ready
abbrev pub is_read : PathFinding → Bool
is_read it.Unread = false
is_read _ = true

abbrev pub is_enough : List Bool → PathState → Bool
is_enough done p = is_read p.found || not (are_done_at done p.needs.now)

abbrev pub are_enough : List Bool → List PathState → Bool
are_enough done ps = list_all (is_enough done) ps

-- a path that is ready and at fault
abbrev pub flaw_seen : PathFinding → Option Flaw
flaw_seen (it.Bad flaw) = Some flaw.now
flaw_seen _ = None

abbrev pub ready_flaw : List Bool → PathState → Option (List ℕ × Flaw)
ready_flaw done p = if are_done_at done p.needs.now then option_map (λ f. (p.path.now, f)) (flaw_seen p.found) else None

abbrev pub ready_flaws : List Bool → List PathState → List (List ℕ × Flaw)
ready_flaws done ps = filter_map (ready_flaw done) ps

-- the requests that a path may begin with
abbrev pub may_begin : StackState → List Bool → PathState → Bool
may_begin s done p = not (is_done_at done p.place) && (are_done_at done p.needs.now && is_free p.path.now s)

abbrev pub update_unless : List Schema → Bool → List ℕ → List (List ℕ × Data) → Option Held → Option Request
update_unless schemas answered kind props None = None
update_unless schemas answered kind props (Some h) =
    if bytes_eq h.kind kind && (wants_update schemas h props && not answered) then Some (request.Update h.physical props) else None

abbrev pub create_of : List Schema → StackState → PathFinding → Option Held → Option Request
create_of schemas s (it.Known kind props) held = create_over schemas s kind.now props.now held
create_of schemas s _ held = None

abbrev pub update_of : List Schema → PathFinding → Bool → Option Held → Option Request
update_of schemas (it.Known kind props) answered held = update_unless schemas answered kind.now props.now held
update_of schemas _ answered held = None

abbrev pub starts_of_path : List Schema → StackState → PathState → List Start
starts_of_path schemas s p =
    start_of p.path.now (create_of schemas s p.found (option_copied p.held))
    ++ start_of p.path.now (update_of schemas p.found p.is_answered (option_copied p.held))

abbrev pub starts_from : List Schema → StackState → List Bool → PathState → List Start
starts_from schemas s done p = if may_begin s done p then starts_of_path schemas s p else []

abbrev pub starts_from_all : List Schema → StackState → List Bool → List PathState → List Start
starts_from_all schemas s done ps = flat_map (starts_from schemas s done) ps

-- What is known of a path is so.
pub record IsStateOf (s : StackState) (p : PathState) : Type 0 where
  pub needs : map (λ place. slice_get (wanted_paths s) place) p.needs.now ≡ map (λ need. Some need) (needs_at p.path.now s)
  pub before : (place : ℕ) → In place p.needs.now → place < p.place
  pub made : p.is_made ≡ is_some (current_at p.path.now s.made)
  pub updated : p.is_updated ≡ was_updated_at p.path.now s
  pub answered : p.is_answered ≡ was_answered_at p.path.now s
  pub held : option_copied p.held ≡ current_at p.path.now s.held
  pub found : (f : Finding) → finding_in p.found ≡ Some f → evaluated_at p.path.now s ≡ f

-- each has its place, from a first one on
abbrev pub AreInPlace : ℕ → List PathState → Type 0
AreInPlace first [] = ⊤
AreInPlace first (p ∷ ps) = (p.place ≡ first) × AreInPlace (suc first) ps

-- all paths of the operation's template, in the order of work
pub record AreStatesOf (s : StackState) (ps : List PathState) : Type 0 where
  pub paths : map (λ p. p.path.now) ps ≡ wanted_paths s
  pub places : AreInPlace 0 ps
  pub each : (p : PathState) → In p ps → IsStateOf s p
