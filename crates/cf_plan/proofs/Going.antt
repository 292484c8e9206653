-- A stack keeps its operation and its status as calls are written down and answered; an end gives it its last status.
use Rattle.std.proofs.Common.{◌≡◌, ℕ, ◌+◌, List, [], ◌∷◌, ◌++◌, Bool, true, false, Option, Some, None, refl}
use Rattle.std.specs.Prelude.{cond}
use Rattle.std.specs.List.{list_any}
use Rattle.std.specs.Str.{bytes_eq}
use Rattle.cf_tree.specs.Datum.{Data}
use Rattle.cf_tree.specs.declared.code.Code.{Code}
use Rattle.cf_tree.specs.declared.code.Code.TheVariants as code
use Rattle.cf_tree.specs.declared.request.Request.{Request}
use Rattle.cf_tree.specs.declared.request.Request.TheVariants as request
use Rattle.cf_entry.specs.declared.entry.Reply.{Reply}
use Rattle.cf_entry.specs.declared.entry.Reply.TheVariants as reply
use Rattle.cf_entry.specs.declared.status.Status.{Status}
use Rattle.cf_entry.specs.declared.status.Status.TheVariants as status
use Rattle.cf_entry.specs.declared.turn.Why.{Why}
use Rattle.cf_effect.specs.declared.held.Held.{Held}
use Rattle.cf_effect.specs.declared.held.HeldStatus.TheVariants as held
use Rattle.cf_effect.specs.declared.held.Pending.{Pending}
use Rattle.cf_effect.specs.World.{StackState}
use Rattle.cf_effect.specs.Words.{has_token, is_create_at, has_physical, resources_of, where_physical}
use Rattle.cf_effect.specs.Calls.{is_restore, new_call}
use Rattle.cf_effect.specs.Reply.{answered, changing, intending, keeping, keeping_known, keeping_unknown, replied, updating}
use Rattle.cf_effect.specs.End.{ended_effect}

-- the stack has the operation and the status that it had
pub record IsLike (s t : StackState) : Type 0 where
  pub operation : t.operation ≡ s.operation
  pub status : t.status ≡ s.status

alike : (s : StackState) → IsLike s s
alike s = record { operation = refl; status = refl }

like_either : (b : Bool) (s t u : StackState) → IsLike s t → IsLike s u → IsLike s (cond b t u)
like_either true s t u a c = a
like_either false s t u a c = c

pub like_kept : (path physical : List ℕ) (w : Why) (s : StackState) → IsLike s (keeping path physical w s)
like_kept path physical w s =
    like_either (bytes_eq physical []) s (cond (list_any (is_create_at path) s.tokens) (keeping_unknown path w s) s)
    (cond (list_any (has_physical physical) (resources_of s)) (keeping_known path physical w s) s)
    (like_either (list_any (is_create_at path) s.tokens) s (keeping_unknown path w s) s (record { operation = refl; status = refl }) (alike s))
    (like_either (list_any (has_physical physical) (resources_of s)) s (keeping_known path physical w s) s (record { operation = refl; status = refl }) (alike s))

like_changed : (id : List ℕ) (change : Held → Held) (s : StackState) → IsLike s (changing id change s)
like_changed id change s =
    like_either (list_any (has_physical id) s.held) s (record s { held = where_physical id change s.held }) (record s { made = where_physical id change s.made })
    (record { operation = refl; status = refl }) (record { operation = refl; status = refl })

like_refused_update : (restores : Bool) (path id : List ℕ) (props : List (List ℕ × Data)) (c : Code) (s : StackState) → IsLike s (answered restores path (request.Update id props) (reply.Failed c) s)
like_refused_update true path id props c s = like_changed id (λ h. record h { status = held.UpdateFailed }) s
like_refused_update false path id props c s = alike s

like_refused_deletion : (restores : Bool) (path id : List ℕ) (c : Code) (s : StackState) → IsLike s (answered restores path (request.Delete id) (reply.Failed c) s)
like_refused_deletion restores path id code.NotFound s = record { operation = refl; status = refl }
like_refused_deletion restores path id c s = like_changed id (λ h. record h { status = held.DeleteFailed }) s

like_answered : (restores : Bool) (path : List ℕ) (r : Request) (a : Reply) (s : StackState) → IsLike s (answered restores path r a s)
like_answered restores path (request.Create k props) (reply.Success physical attrs) s = record { operation = refl; status = refl }
like_answered restores path (request.Create k props) (reply.Failed c) s = alike s
like_answered restores path (request.Create k props) reply.Doubt s = alike s
like_answered restores path (request.Update id props) (reply.Success physical attrs) s = like_changed id (updating props attrs) s
like_answered restores path (request.Update id props) (reply.Failed c) s = like_refused_update restores path id props c s
like_answered restores path (request.Update id props) reply.Doubt s = alike s
like_answered restores path (request.Delete id) (reply.Success physical attrs) s = record { operation = refl; status = refl }
like_answered restores path (request.Delete id) (reply.Failed c) s = like_refused_deletion restores path id c s
like_answered restores path (request.Delete id) reply.Doubt s = alike s

pub like_replied : (token : ℕ) (a : Reply) (p : Option Pending) (s : StackState) → IsLike s (replied token a p s)
like_replied token a None s = alike s
like_replied token a (Some p) s =
    let like = like_answered (is_restore token s) p.path p.request a s in record { operation = like.operation; status = like.status }

pub like_intended : (number : ℕ) (p : Pending) (s : StackState) → IsLike s (intending number p s)
like_intended number p s =
    like_either (list_any (has_token p.token) s.tokens) s s (record s { tokens = s.tokens ++ p ∷ []; ledger = s.ledger ++ new_call number s.status p ∷ [] })
    (alike s) (record { operation = refl; status = refl })

-- the stack as it ends
pub end_operation : (state : Status) (s : StackState) → (ended_effect state s).stack.operation ≡ s.operation
end_operation status.CreateComplete s = refl
end_operation status.RollbackFailed s = refl
end_operation status.UpdateRollbackComplete s = refl
end_operation status.RollbackComplete s = refl
end_operation status.DeleteComplete s = refl
end_operation state s = refl

pub end_status : (state : Status) (s : StackState) → (ended_effect state s).stack.status ≡ state
end_status status.CreateComplete s = refl
end_status status.RollbackFailed s = refl
end_status status.UpdateRollbackComplete s = refl
end_status status.RollbackComplete s = refl
end_status status.DeleteComplete s = refl
end_status state s = refl
