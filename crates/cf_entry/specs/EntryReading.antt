-- Reading entries from the front of bytes, and all of some bytes as one entry (this project's own format, docs/ENTRIES.md).
use Rattle.std.specs.Prelude.{ℕ, ◌==◌, if◌then◌else◌, Bool, List, [], ◌∷◌, length, Option, Some, None}
use Rattle.cf_tree.specs.Codes.{code_of}
use Rattle.cf_tree.specs.Datum.{Data}
use Rattle.cf_tree.specs.declared.request.Request.{Request}
use Rattle.cf_tree.specs.declared.request.Request.TheVariants as request
use Rattle.cf_tree.specs.declared.row.Action.{Action}
use Rattle.cf_tree.specs.declared.row.Attribute.{Attribute}
use Rattle.cf_tree.specs.declared.row.Detail.{Detail}
use Rattle.cf_tree.specs.declared.row.Evaluation.{Evaluation}
use Rattle.cf_tree.specs.declared.row.Recreation.{Recreation}
use Rattle.cf_tree.specs.declared.row.Replacement.{Replacement}
use Rattle.cf_tree.specs.declared.row.Row.{Row}
use Rattle.cf_tree.specs.declared.source.Source.{Source}
use Rattle.cf_entry.specs.declared.entry.Entry.{Entry}
use Rattle.cf_entry.specs.declared.entry.Entry.TheVariants as entry
use Rattle.cf_entry.specs.declared.entry.Begun.{Begun}
use Rattle.cf_entry.specs.declared.entry.Begun.TheVariants as begun
use Rattle.cf_entry.specs.declared.entry.Reply.{Reply}
use Rattle.cf_entry.specs.declared.entry.Reply.TheVariants as reply
use Rattle.cf_entry.specs.declared.status.Status.{Status}
use Rattle.cf_entry.specs.declared.turn.Cause.{Cause}
use Rattle.cf_entry.specs.declared.turn.Cause.TheVariants as cause
use Rattle.cf_entry.specs.declared.turn.Phase.{Phase}
use Rattle.cf_entry.specs.Numbers.{why_of, phase_of, action_of, attribute_numbered, recreation_numbered, evaluation_of, replacement_numbered, reason_of, has_cause, is_named}
use Rattle.cf_entry.specs.Status.{status_numbered, is_end}
use Rattle.cf_entry.specs.Entry.{texts_ascend}
use Rattle.cf_entry.specs.Reading.{◌>>=◌, then_at, pick_at, byte_at, eight_at, text_at, list_at, option_at, pair_at, template_at, ordered_of, truth_of, dict_at}

-- properties or attributes; each level takes a byte and more, so that there are no more levels than bytes
unfoldable pub properties_at : List ℕ → Option (List (List ℕ × Data) × List ℕ)
properties_at bytes = dict_at (length bytes) bytes

-- a source, for an operation on this stack
abbrev pub source_read : List ℕ → List ℕ × (List (List ℕ × List ℕ) × (List (List ℕ × List ℕ) × List (List ℕ × List ℕ))) → Option Source
source_read stack p = Some (record { root = p.0; texts = p.1.0; given = p.1.1.0; imports = p.1.1.1; stack = stack; number = 0 })

unfoldable pub source_at : List ℕ → List ℕ → Option (Source × List ℕ)
source_at stack bytes =
    pick_at (source_read stack) (then_at text_at
    (then_at (pick_at ordered_of (list_at template_at))
    (then_at (pick_at ordered_of (list_at pair_at)) (pick_at ordered_of (list_at pair_at))))) bytes

-- a creation or an update has a source and no paths, a deletion or a rollback that goes on has paths that ascend
abbrev pub begun_of : ℕ × (Option Source × List (List ℕ)) → Option Begun
begun_of (k, (Some s, [])) = if k == 1 then Some (begun.Create s) else if k == 2 then Some (begun.Update s) else None
begun_of (k, (Some s, p ∷ ps)) = None
begun_of (k, (None, ps)) =
    if texts_ascend ps then (if k == 3 then Some (begun.Delete ps) else if k == 4 then Some (begun.Continue ps) else None) else None

unfoldable pub begun_at : List ℕ → List ℕ → Option (Begun × List ℕ)
begun_at stack bytes = pick_at begun_of (then_at byte_at (then_at (option_at (source_at stack)) (list_at text_at))) bytes

unfoldable pub request_at : List ℕ → Option (Request × List ℕ)
request_at bytes = byte_at bytes >>= λ kind.
    if kind.0 == 1 then pick_at (λ p. Some (request.Create p.0 p.1)) (then_at text_at properties_at) kind.1
    else if kind.0 == 2 then pick_at (λ p. Some (request.Update p.0 p.1)) (then_at text_at properties_at) kind.1
    else if kind.0 == 3 then pick_at (λ t. Some (request.Delete t)) text_at kind.1
    else None

unfoldable pub reply_at : List ℕ → Option (Reply × List ℕ)
reply_at bytes = byte_at bytes >>= λ kind.
    if kind.0 == 1 then pick_at (λ p. Some (reply.Success p.0 p.1)) (then_at text_at properties_at) kind.1
    else if kind.0 == 2 then pick_at (λ c. Some (reply.Failed c)) (pick_at code_of byte_at) kind.1
    else if kind.0 == 3 then Some (reply.Doubt, kind.1)
    else None

unfoldable pub cause_at : List ℕ → Option (Cause × List ℕ)
cause_at bytes = byte_at bytes >>= λ kind.
    if kind.0 == 1 then pick_at (λ p. Some (cause.Handler p.0 p.1)) (then_at text_at (pick_at reason_of byte_at)) kind.1
    else if kind.0 == 2 then pick_at (λ t. Some (cause.Plan t)) text_at kind.1
    else if kind.0 == 3 then pick_at (λ t. Some (cause.Export t)) text_at kind.1
    else None

abbrev pub detail_of : Attribute × (List ℕ × (Recreation × Evaluation)) → Option Detail
detail_of p =
    if is_named p.0 p.1.0 then Some (record { attribute = p.0; name = p.1.0; recreation = p.1.1.0; evaluation = p.1.1.1 }) else None

unfoldable pub detail_at : List ℕ → Option (Detail × List ℕ)
detail_at bytes =
    pick_at detail_of (then_at (pick_at attribute_numbered byte_at)
    (then_at text_at (then_at (pick_at recreation_numbered byte_at) (pick_at evaluation_of byte_at)))) bytes

abbrev pub row_of : Action × (List ℕ × (List ℕ × (Option Replacement × (Bool × List Detail)))) → Option Row
row_of p =
    Some (record { action = p.0; path = p.1.0; kind = p.1.1.0; replacement = p.1.1.1.0; unsure = p.1.1.1.1.0; details = p.1.1.1.1.1 })

unfoldable pub row_at : List ℕ → Option (Row × List ℕ)
row_at bytes =
    pick_at row_of (then_at (pick_at action_of byte_at)
    (then_at text_at (then_at text_at (then_at (pick_at replacement_numbered byte_at)
    (then_at (pick_at truth_of byte_at) (list_at detail_at)))))) bytes

-- the status in which an operation ends
abbrev pub end_of : Status → Option Status
end_of s = if is_end s then Some s else None

unfoldable pub opened_at : List ℕ → Option (Entry × List ℕ)
opened_at bytes = pick_at (λ p. Some (entry.Opened p.0 p.1)) (then_at eight_at (list_at pair_at)) bytes

unfoldable pub begin_at : List ℕ → Option (Entry × List ℕ)
begin_at bytes =
    eight_at bytes >>= λ number. text_at number.1 >>= λ stack. begun_at stack.0 stack.1 >>=
    λ kind. Some (entry.Begin number.0 stack.0 kind.0, kind.1)

unfoldable pub kept_at : List ℕ → Option (Entry × List ℕ)
kept_at bytes =
    pick_at (λ p. Some (entry.Kept p.0 p.1.0 p.1.1.0 p.1.1.1))
    (then_at eight_at (then_at text_at (then_at text_at (pick_at why_of byte_at)))) bytes

unfoldable pub intent_at : List ℕ → Option (Entry × List ℕ)
intent_at bytes =
    pick_at (λ p. Some (entry.Intent p.0 p.1.0 p.1.1.0 p.1.1.1.0 p.1.1.1.1))
    (then_at eight_at (then_at eight_at (then_at text_at (then_at text_at request_at)))) bytes

unfoldable pub outcome_at : List ℕ → Option (Entry × List ℕ)
outcome_at bytes =
    pick_at (λ p. Some (entry.Outcome p.0 p.1.0 p.1.1.0 p.1.1.1.0 p.1.1.1.1))
    (then_at eight_at (then_at eight_at (then_at reply_at (then_at eight_at eight_at)))) bytes

-- a turn back has a cause, and no other phase has one
abbrev pub turn_of : ℕ × (Phase × Option Cause) → Option Entry
turn_of p = if has_cause p.1.0 p.1.1 then Some (entry.Phase p.0 p.1.0 p.1.1) else None

unfoldable pub phase_at : List ℕ → Option (Entry × List ℕ)
phase_at bytes = pick_at turn_of (then_at eight_at (then_at (pick_at phase_of byte_at) (option_at cause_at))) bytes

unfoldable pub done_at : List ℕ → Option (Entry × List ℕ)
done_at bytes =
    pick_at (λ p. Some (entry.Done p.0 p.1.0 p.1.1))
    (then_at eight_at (then_at (pick_at end_of (pick_at status_numbered byte_at)) (list_at text_at))) bytes

-- what follows the stack of a change set
abbrev pub set_at : List ℕ → List ℕ → Option ((Source × (List Row × Bool)) × List ℕ)
set_at stack bytes = then_at (source_at stack) (then_at (list_at row_at) (pick_at truth_of byte_at)) bytes

unfoldable pub change_set_at : List ℕ → Option (Entry × List ℕ)
change_set_at bytes =
    eight_at bytes >>= λ number. text_at number.1 >>= λ stack. set_at stack.0 stack.1 >>=
    λ set. Some (entry.ChangeSet number.0 stack.0 set.0.0 set.0.1.0 set.0.1.1, set.1)

unfoldable pub entry_at : List ℕ → Option (Entry × List ℕ)
entry_at bytes = byte_at bytes >>= λ kind.
    if kind.0 == 1 then opened_at kind.1
    else if kind.0 == 2 then begin_at kind.1
    else if kind.0 == 3 then kept_at kind.1
    else if kind.0 == 4 then intent_at kind.1
    else if kind.0 == 5 then outcome_at kind.1
    else if kind.0 == 6 then phase_at kind.1
    else if kind.0 == 7 then done_at kind.1
    else if kind.0 == 8 then change_set_at kind.1
    else None

-- the entry whose spelling these bytes are, all of them, if there is one
unfoldable pub entry_of : List ℕ → Option Entry
entry_of bytes = entry_at bytes >>= λ e. if length e.1 == 0 then Some e.0 else None
