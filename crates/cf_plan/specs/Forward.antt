-- The forward phase: which paths are done and which are ready, when it has failed, and why (User Guide: creating and updating a stack;
-- how often a call is made, and which cause is told, are this project's own).
use Rattle.std.specs.Prelude.{◌≡◌, ℕ, ◌==◌, ◌⊎◌, Bool, true, false, ◌&&◌, not, List, [], ◌∷◌, ◌++◌, Option, Some, None, IsTrue, filter, find, is_some, map, option_map, if◌then◌else◌}
use Rattle.std.specs.List.{list_any}
use Rattle.std.specs.Option.{option_or, option_map_or}
use Rattle.std.specs.Str.{bytes_eq}
use Rattle.cf_tree.specs.Datum.{Data}
use Rattle.cf_tree.specs.Keys.{bytes_lt}
use Rattle.cf_tree.specs.declared.request.Request.{Request}
use Rattle.cf_tree.specs.declared.request.Request.TheVariants as request
use Rattle.cf_tree.specs.declared.code.Code.{Code}
use Rattle.cf_tree.specs.declared.code.Code.TheVariants as code
use Rattle.cf_export.specs.declared.Export.{Export}
use Rattle.cf_entry.specs.declared.entry.Entry.{Entry}
use Rattle.cf_entry.specs.declared.entry.Entry.TheVariants as entry
use Rattle.cf_entry.specs.declared.entry.Reply.TheVariants as reply
use Rattle.cf_entry.specs.declared.turn.Reason.{Reason}
use Rattle.cf_entry.specs.declared.turn.Reason.TheVariants as reason
use Rattle.cf_entry.specs.declared.turn.Cause.{Cause}
use Rattle.cf_entry.specs.declared.turn.Cause.TheVariants as cause
use Rattle.cf_tree.specs.declared.source.Source.{Source}
use Rattle.cf_tree.specs.Lists.{In, first_in}
use Rattle.cf_effect.specs.declared.held.Held.{Held}
use Rattle.cf_effect.specs.World.{StackState, World}
use Rattle.cf_effect.specs.Words.{current_at, has_physical, is_update, is_pinned}
use Rattle.cf_effect.specs.Begin.{seen_in}
use Rattle.cf_effect.specs.End.{seen_now}
use Rattle.cf_effect.specs.declared.call.Call.{Call}
use Rattle.cf_effect.specs.Operation.{now_of, forward_of, doubts_in, up_to_last, is_turn_or_opening}
use Rattle.cf_effect.specs.Calls.{call_under, succeeded}
use Rattle.cf_schema.specs.declared.described.Schema.{Schema}
use Rattle.cf_schema.specs.declared.changed.Difference.{Difference}
use Rattle.cf_schema.specs.declared.changed.Difference.TheVariants.{Update, MayReplace}
use Rattle.cf_schema.specs.Change.{difference_of}
use Rattle.cf_schema.specs.Kinds.{found}
use Rattle.cf_desired.specs.declared.wanted.Evaluated.TheVariants.{Flawed as flawed, Known as evaluated}
use Rattle.cf_desired.specs.declared.flaw.Flaw.{Flaw}
use Rattle.cf_desired.specs.declared.wanted.Evaluated.{Evaluated}
use Rattle.cf_desired.specs.declared.wanted.Inner.{Inner}
use Rattle.cf_desired.specs.declared.wanted.Plan.{Plan}
use Rattle.cf_desired.specs.declared.wanted.Wanted.{Wanted}
use Rattle.cf_desired.specs.Seeing.{Seen}
use Rattle.cf_desired.specs.Plan.{plan_by, no_plan}
use Rattle.cf_desired.specs.Shape.{shape_of}
use Rattle.cf_desired.specs.Whole.{wanted_at, known_props_from}
use Rattle.cf_desired.specs.FlawText.{flaw_text}
use Rattle.cf_plan.specs.Between.{needs_at}
use Rattle.cf_effect.specs.Calls.{own_calls}

-- What the operation's template says, over what was held before and over the resources of now: both by the shape that it has
-- over what was held before, so that paths and needs are the same.
abbrev pub plan_in : Option Source → Seen → Seen → Plan
plan_in None before seen = no_plan 0 0 []
plan_in (Some source) before seen = plan_by source (shape_of source before) seen

abbrev pub plan_before : StackState → Plan
plan_before s = plan_in s.going (seen_in s.before) (seen_in s.before)

abbrev pub plan_now : StackState → Plan
plan_now s = plan_in s.going (seen_in s.before) (seen_now s)

-- the paths of the operation's template
abbrev pub wanted_paths : StackState → List (List ℕ)
wanted_paths s = map (λ w. w.path) (plan_before s).wanted

-- what the properties of a path come to: a fault, not known yet, or known
pub data Finding : Type 0 where
  Bad : (fault : Flaw) → Finding
  Later : Finding
  Known : (kind : List ℕ) (props : List (List ℕ × Data)) → Finding

abbrev pub known_or_later : List ℕ → Option (List (List ℕ × Data)) → Finding
known_or_later k None = Later
known_or_later k (Some props) = Known k props

abbrev pub finding : List ℕ → Evaluated → Finding
finding k (flawed f) = Bad f
finding k (evaluated ps) = known_or_later k (known_props_from ps)

-- by a plan, what the properties of a path come to
abbrev pub finding_over : Option Wanted → Finding
finding_over o = option_map_or (λ w. finding w.kind w.props) o Later

abbrev pub finding_by : List ℕ → Plan → Finding
finding_by path p = finding_over (wanted_at path p)

-- the properties of a path, evaluated over the ids and attributes of now
abbrev pub evaluated_at : List ℕ → StackState → Finding
evaluated_at path s = finding_by path (plan_now s)

-- this operation's update of the path succeeded; was answered, be it refused
abbrev pub was_updated_at : List ℕ → StackState → Bool
was_updated_at path s = list_any (λ c. bytes_eq path c.path && (is_update c.request && succeeded c)) (own_calls s)

abbrev pub was_answered_at : List ℕ → StackState → Bool
was_answered_at path s = list_any (λ c. bytes_eq path c.path && (is_update c.request && is_some c.answer)) (own_calls s)

-- a path is done where a resource is made at it, or its update succeeded, or all that it needs are done and what is
-- held is sure and has the evaluated type and properties
pub data IsDone (s : StackState) : List ℕ → Type 0 where
  is_made : {p : List ℕ} (r : Held) → current_at p s.made ≡ Some r → IsDone s p
  is_updated : {p : List ℕ} → IsTrue (was_updated_at p s) → IsDone s p
  is_right :
      {p : List ℕ} (h : Held) → In p (wanted_paths s) → ((q : List ℕ) → In q (needs_at p s) → IsDone s q) → current_at p s.held ≡ Some h
      → h.unsure ≡ false → evaluated_at p s ≡ Known h.kind h.props → IsDone s p

-- a path is ready where all that it needs are done
abbrev pub IsReady : StackState → List ℕ → Type 0
IsReady s p = In p (wanted_paths s) × ((q : List ℕ) → In q (needs_at p s) → IsDone s q)

abbrev pub AllDone : StackState → Type 0
AllDone s = (p : List ℕ) → In p (wanted_paths s) → IsDone s p

-- An update that is answered NotUpdatable where a conditional create-only property differs is no failure: a new resource is made in its
-- place.
abbrev pub is_conditional : Difference → Bool
is_conditional MayReplace = true
is_conditional _ = false

-- how other properties differ from those that are held, by the schema of the resource's type
abbrev pub difference_to : List Schema → Held → List (List ℕ × Data) → Difference
difference_to schemas h props = option_map_or (λ schema. difference_of schema h.props props) (found h.kind schemas) Update

abbrev pub held_before : List ℕ → StackState → Option Held
held_before physical s = find (has_physical physical) s.before

abbrev pub is_excused : List Schema → StackState → Request → Code → Bool
is_excused schemas s (request.Update physical props) code.NotUpdatable =
    option_map_or (λ h. is_conditional (difference_to schemas h props)) (held_before physical s) false
is_excused schemas s _ _ = false

-- The outcomes that fail the phase, each of a call that the ledger has: a refusal that is not excused, at any time in the phase,
-- and in this opening the third doubt of a token.
abbrev pub is_refused_call : List Schema → StackState → Option Call → Code → Bool
is_refused_call schemas s None c = false
is_refused_call schemas s (Some call) c = not (is_excused schemas s call.request c)

abbrev pub refusing : List Schema → StackState → Entry → Option (ℕ × Reason)
refusing schemas s (entry.Outcome number token (reply.Failed c) before after) =
    if is_refused_call schemas s (call_under token s) c then Some (token, reason.Code c) else None
refusing schemas s _ = None

abbrev pub doubting : StackState → List Entry → Entry → Option (ℕ × Reason)
doubting s earlier (entry.Outcome number token reply.Doubt before after) =
    if is_some (call_under token s) && doubts_in token earlier == 2 then Some (token, reason.Fault) else None
doubting s earlier _ = None

abbrev pub first_refusing : List Schema → StackState → List Entry → Option (ℕ × Reason)
first_refusing schemas s [] = None
first_refusing schemas s (e ∷ es) = option_or (refusing schemas s e) (first_refusing schemas s es)

abbrev pub first_failing_behind : List Schema → StackState → List Entry → List Entry → Option (ℕ × Reason)
first_failing_behind schemas s earlier [] = None
first_failing_behind schemas s earlier (e ∷ es) =
    option_or (refusing schemas s e) (option_or (doubting s earlier e) (first_failing_behind schemas s (earlier ++ e ∷ []) es))

-- the first outcome that fails the phase: its token, and the reason
abbrev pub first_failing : List Schema → StackState → Option (ℕ × Reason)
first_failing schemas s =
    option_or (first_refusing schemas s (up_to_last is_turn_or_opening (forward_of s))) (first_failing_behind schemas s [] (now_of s))

-- The template fails over the resources of now: at a ready path, at a nested stack whose stack resource has all its
-- needs done, or, where all is done, at an output.
abbrev pub IsBadAt : StackState → List ℕ → Flaw → Type 0
IsBadAt s p fault = IsReady s p × (evaluated_at p s ≡ Bad fault)

-- the parameters of a nested stack can't be bound
abbrev pub IsBadNested : StackState → List ℕ → Flaw → Type 0
IsBadNested s p fault =
    (i : Inner) × In i (plan_now s).nested × (i.path ≡ p) × ((q : List ℕ) → In q i.needs → IsDone s q) × (i.fault ≡ Some fault)

abbrev pub IsBadPath : StackState → List ℕ → Flaw → Type 0
IsBadPath s p fault = IsBadAt s p fault ⊎ IsBadNested s p fault

-- all paths are done, and this is the first flaw: of an output, where no path is bad
abbrev pub IsBadOutput : StackState → Flaw → Type 0
IsBadOutput s fault = AllDone s × (first_in (plan_now s).flaws ≡ Some fault)

-- An export that another stack pins would be gone, or have another value.
abbrev pub keeps_value : Export → List ℕ × Option (List ℕ) → Bool
keeps_value e (name, Some value) = bytes_eq name e.name && bytes_eq value e.value
keeps_value e (name, None) = false

abbrev pub is_lost : List ℕ → World → Plan → Export → Bool
is_lost name x p e = is_pinned name x e && not (list_any (keeps_value e) p.exports)

abbrev pub lost_exports : List ℕ → World → StackState → List Export
lost_exports name x s = filter (is_lost name x (plan_now s)) x.exports

abbrev pub IsLostExport : List ℕ → World → StackState → List ℕ → Type 0
IsLostExport name x s export = AllDone s × (option_map (λ e. e.name) (first_in (lost_exports name x s)) ≡ Some export)

-- the forward phase of this stack has failed
abbrev pub HasFailed : List Schema → List ℕ → World → StackState → Type 0
HasFailed schemas name x s =
    ((f : ℕ × Reason) × (first_failing schemas s ≡ Some f)) ⊎ ((p : List ℕ) × (fault : Flaw) × IsBadPath s p fault)
    ⊎ ((fault : Flaw) × IsBadOutput s fault) ⊎ ((export : List ℕ) × IsLostExport name x s export)

-- Its cause: the first outcome that fails it; else the fault of the first path in byte order, outputs after all paths; else the first
-- export name.
abbrev pub path_of_token : ℕ → StackState → Option (List ℕ)
path_of_token token s = option_map (λ c. c.path) (call_under token s)

abbrev pub IsCause : List Schema → List ℕ → World → StackState → Cause → Type 0
IsCause schemas name x s (cause.Handler path r) =
    (token : ℕ) × (first_failing schemas s ≡ Some (token, r)) × (path_of_token token s ≡ Some path)
IsCause schemas name x s (cause.Plan text) =
    (fault : Flaw) × (text ≡ flaw_text fault) × (first_failing schemas s ≡ None)
    × (((p : List ℕ) × IsBadPath s p fault × ((q : List ℕ) (other : Flaw) → IsBadPath s q other → bytes_lt q p ≡ false))
    ⊎ (IsBadOutput s fault × ((q : List ℕ) (other : Flaw) → IsBadPath s q other → ⊥)))
IsCause schemas name x s (cause.Export export) =
    (first_failing schemas s ≡ None) × ((q : List ℕ) (other : Flaw) → IsBadPath s q other → ⊥) × ((other : Flaw) → IsBadOutput s other → ⊥)
    × IsLostExport name x s export
