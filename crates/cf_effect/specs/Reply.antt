-- What a call, its answer, and a resource that is kept change of their stack (User Guide: resource status codes, the
-- DeletionPolicy attribute).
use Rattle.std.specs.Prelude.{ℕ, Bool, true, false, ◌&&◌, not, List, [], ◌∷◌, ◌++◌, Option, Some, None, map, filter, if◌then◌else◌}
use Rattle.std.specs.List.{list_any}
use Rattle.std.specs.Option.{option_map_or}
use Rattle.std.specs.Str.{bytes_eq}
use Rattle.cf_tree.specs.Datum.{Data}
use Rattle.cf_tree.specs.declared.request.Request.{Request}
use Rattle.cf_tree.specs.declared.request.Request.TheVariants as request
use Rattle.cf_tree.specs.declared.code.Code.TheVariants as code
use Rattle.cf_tree.specs.declared.source.Source.{Source}
use Rattle.cf_tree.specs.declared.template.Deletion.TheVariants as deletion
use Rattle.cf_tree.specs.declared.template.Replace.TheVariants as replace
use Rattle.cf_entry.specs.declared.entry.Reply.{Reply}
use Rattle.cf_entry.specs.declared.entry.Reply.TheVariants as reply
use Rattle.cf_entry.specs.declared.turn.Why.{Why}
use Rattle.cf_desired.specs.declared.wanted.Wanted.{Wanted}
use Rattle.cf_desired.specs.Plan.{plan_of}
use Rattle.cf_desired.specs.Seeing.{Seen}
use Rattle.cf_desired.specs.Whole.{wanted_at}
use Rattle.cf_effect.specs.declared.call.Call.{Call}
use Rattle.cf_effect.specs.declared.held.Held.{Held}
use Rattle.cf_effect.specs.declared.held.HeldStatus.{HeldStatus}
use Rattle.cf_effect.specs.declared.held.HeldStatus.TheVariants as held
use Rattle.cf_effect.specs.declared.held.Pending.{Pending}
use Rattle.cf_effect.specs.declared.terms.Terms.{Terms}
use Rattle.cf_effect.specs.World.{StackState}
use Rattle.cf_effect.specs.Words.{current_at, has_physical, has_token, is_create_at, is_on, pending_of, resources_of, unknown_id, where_physical, without, without_token}
use Rattle.cf_effect.specs.Calls.{answered_call, is_restore, new_call, where_call}
use Rattle.cf_effect.specs.Begin.{given_up, seen_in}

-- A call goes out. Under a token that is open already nothing changes: no call has the token of another one.
abbrev pub intending : ℕ → Pending → StackState → StackState
intending number p s =
    if list_any (has_token p.token) s.tokens then s
    else record s { tokens = s.tokens ++ p ∷ []; ledger = s.ledger ++ new_call number s.status p ∷ [] }

-- The policies and needs that the operation's source gives a path over what was held before, or else the defaults.
abbrev pub wanted_in : Option Source → Seen → List ℕ → Option Wanted
wanted_in None seen path = None
wanted_in (Some source) seen path = wanted_at path (plan_of source seen)

abbrev pub terms_of : Option Wanted → Terms
terms_of None = record { needs = []; deletion = deletion.Delete; replace = replace.Delete }
terms_of (Some w) = record { needs = w.needs; deletion = w.deletion; replace = w.replace }

abbrev pub terms_at : List ℕ → StackState → Terms
terms_at path s = terms_of (wanted_in s.going (seen_in s.before) path)

-- A create that succeeds makes a resource. One that takes the place of a held one counts as updated, any other as created.
abbrev pub status_made : Option Held → HeldStatus
status_made None = held.CreateComplete
status_made (Some h) = held.UpdateComplete

abbrev pub made_of : Terms → HeldStatus → List ℕ → List ℕ → List (List ℕ × Data) → List ℕ → List (List ℕ × Data) → Held
made_of t state path k props physical attrs = record {
  path = path;
  kind = k;
  physical = physical;
  props = props;
  attrs = attrs;
  needs = t.needs;
  deletion = t.deletion;
  replace = t.replace;
  status = state;
  unsure = false;
  superseded = false;
}

abbrev pub making : Held → StackState → StackState
making h s = record s { made = s.made ++ h ∷ [] }

-- An update that succeeds gives its resource the requested properties and the attributes of the answer, and makes it sure.
abbrev pub updating : List (List ℕ × Data) → List (List ℕ × Data) → Held → Held
updating props attrs h = record h { props = props; attrs = attrs; status = held.UpdateComplete; unsure = false }

-- the resource of this id is changed, be it held or else made; or it goes off its list
abbrev pub changing : List ℕ → (Held → Held) → StackState → StackState
changing physical change s =
    if list_any (has_physical physical) s.held then record s { held = where_physical physical change s.held }
    else record s { made = where_physical physical change s.made }

abbrev pub with_status : List ℕ → HeldStatus → StackState → StackState
with_status physical state s = changing physical (λ h. record h { status = state }) s

abbrev pub deleting : List ℕ → StackState → StackState
deleting physical s = record s { held = without physical s.held; made = without physical s.made }

-- What an answer to a request at a path changes of the resources. A deletion that finds nothing is complete; an update that is
-- refused leaves the status as it was, but for one that restores: that went out in the rollback.
abbrev pub answered : Bool → List ℕ → Request → Reply → StackState → StackState
answered restores path (request.Create k props) (reply.Success physical attrs) s =
    making (made_of (terms_at path s) (status_made (current_at path s.held)) path k props physical attrs) s
answered restores path (request.Update id props) (reply.Success physical attrs) s = changing id (updating props attrs) s
answered restores path (request.Update id props) (reply.Failed c) s = if restores then with_status id held.UpdateFailed s else s
answered restores path (request.Delete id) (reply.Success physical attrs) s = deleting id s
answered restores path (request.Delete id) (reply.Failed code.NotFound) s = deleting id s
answered restores path (request.Delete id) (reply.Failed c) s = with_status id held.DeleteFailed s
answered restores path r answer s = s

-- Success and Failed close the call, and a doubt is counted. Where the token is not open, nothing changes.
abbrev pub still_open : ℕ → Reply → List Pending → List Pending
still_open token reply.Doubt ps = ps
still_open token _ ps = without_token token ps

abbrev pub closing : ℕ → Reply → StackState → StackState
closing token answer s =
    record s { tokens = still_open token answer s.tokens; ledger = where_call token (answered_call answer) s.ledger }

abbrev pub replied : ℕ → Reply → Option Pending → StackState → StackState
replied token answer None s = s
replied token answer (Some p) s = closing token answer (answered (is_restore token s) p.path p.request answer s)

abbrev pub replying : ℕ → Reply → StackState → StackState
replying token answer s = replied token answer (pending_of token s) s

-- A resource that is kept leaves its list and is a leftover, and an open call on it is given up. Without an id it is
-- the open create of its path, which is given up. Where there is neither, nothing changes.
abbrev pub keeping_known : List ℕ → List ℕ → Why → StackState → StackState
keeping_known path physical w s = record (deleting physical s) {
  tokens = filter (λ p. not (is_on physical p)) s.tokens;
  leftovers = s.leftovers ++ record { path = path; physical = physical; why = w } ∷ [];
}

abbrev pub keeping_unknown : List ℕ → Why → StackState → StackState
keeping_unknown path w s = record s {
  tokens = filter (λ p. not (is_create_at path p)) s.tokens;
  leftovers = s.leftovers ++ record { path = path; physical = unknown_id; why = w } ∷ [];
  abandoned = s.abandoned ++ map given_up (filter (is_create_at path) s.tokens);
}

abbrev pub keeping : List ℕ → List ℕ → Why → StackState → StackState
keeping path physical w s =
    if bytes_eq physical [] then if list_any (is_create_at path) s.tokens then keeping_unknown path w s else s
    else if list_any (has_physical physical) (resources_of s) then keeping_known path physical w s
    else s
