-- An answer for good: it closes its call before or after it changes the resources, which is all the same.
use Rattle.std.proofs.Common.{◌≡◌, ℕ, Bool, true, false, List, Option, Some, None, refl, sym, ap, ◌∙◌, subst, cond}
use Rattle.std.specs.List.{list_any}
use Rattle.cf_tree.specs.Datum.{Data}
use Rattle.cf_tree.specs.declared.request.Request.{Request}
use Rattle.cf_tree.specs.declared.request.Request.TheVariants as request
use Rattle.cf_tree.specs.declared.code.Code.{Code}
use Rattle.cf_tree.specs.declared.code.Code.TheVariants as code
use Rattle.cf_entry.specs.declared.entry.Reply.{Reply}
use Rattle.cf_entry.specs.declared.entry.Reply.TheVariants as reply
use Rattle.cf_effect.specs.declared.call.Call.{Call}
use Rattle.cf_effect.specs.declared.held.Held.{Held}
use Rattle.cf_effect.specs.declared.held.HeldStatus.TheVariants as held
use Rattle.cf_effect.specs.declared.held.Pending.{Pending}
use Rattle.cf_effect.specs.World.{StackState}
use Rattle.cf_effect.specs.Words.{has_physical, pending_of, where_physical, without_token}
use Rattle.cf_effect.specs.Calls.{answered_call, is_restore, where_call}
use Rattle.cf_effect.specs.Operation.{is_doubt}
use Rattle.cf_effect.specs.Reply.{answered, changing, closing, replied, replying, still_open, updating}

-- only updates are restores
pub only_restores_created : (b : Bool) (path k : List ℕ) (props : List (List ℕ × Data)) (a : Reply) (s : StackState) → answered false path (request.Create k props) a s ≡ answered b path (request.Create k props) a s
only_restores_created b path k props (reply.Success physical attrs) s = refl
only_restores_created b path k props (reply.Failed c) s = refl
only_restores_created b path k props reply.Doubt s = refl

pub only_restores_deleted : (b : Bool) (path id : List ℕ) (a : Reply) (s : StackState) → answered false path (request.Delete id) a s ≡ answered b path (request.Delete id) a s
only_restores_deleted b path id (reply.Success physical attrs) s = refl
only_restores_deleted b path id (reply.Failed c) s = by c
  where
    by : (c : Code) → answered false path (request.Delete id) (reply.Failed c) s ≡ answered b path (request.Delete id) (reply.Failed c) s
    by code.NotFound = refl
    by c = refl
only_restores_deleted b path id reply.Doubt s = refl

module _ (ts : List Pending) (cs : List Call) where
  -- the stack with its calls closed
  abbrev closed : StackState → StackState
  closed s = record s { tokens = ts; ledger = cs }

  changing_apart : (id : List ℕ) (change : Held → Held) (s : StackState) → changing id change (closed s) ≡ closed (changing id change s)
  changing_apart id change s = by (list_any (has_physical id) s.held)
    where
      by : (b : Bool)
          → cond b (record (closed s) { held = where_physical id change s.held }) (record (closed s) { made = where_physical id change s.made })
          ≡ closed (cond b (record s { held = where_physical id change s.held }) (record s { made = where_physical id change s.made }))
      by true = refl
      by false = refl

  failed_apart : (b : Bool) (path id : List ℕ) (props : List (List ℕ × Data)) (c : Code) (s : StackState)
      → answered b path (request.Update id props) (reply.Failed c) (closed s) ≡ closed (answered b path (request.Update id props) (reply.Failed c) s)
  failed_apart true path id props c s = changing_apart id (λ h. record h { status = held.UpdateFailed }) s
  failed_apart false path id props c s = refl

  refused_apart : (b : Bool) (path id : List ℕ) (c : Code) (s : StackState)
      → answered b path (request.Delete id) (reply.Failed c) (closed s) ≡ closed (answered b path (request.Delete id) (reply.Failed c) s)
  refused_apart b path id code.NotFound s = refl
  refused_apart b path id c s = changing_apart id (λ h. record h { status = held.DeleteFailed }) s

  answered_apart : (b : Bool) (path : List ℕ) (r : Request) (a : Reply) (s : StackState) → answered b path r a (closed s) ≡ closed (answered b path r a s)
  answered_apart b path (request.Create k props) (reply.Success physical attrs) s = refl
  answered_apart b path (request.Create k props) (reply.Failed c) s = refl
  answered_apart b path (request.Create k props) reply.Doubt s = refl
  answered_apart b path (request.Update id props) (reply.Success physical attrs) s = changing_apart id (updating props attrs) s
  answered_apart b path (request.Update id props) (reply.Failed c) s = failed_apart b path id props c s
  answered_apart b path (request.Update id props) reply.Doubt s = refl
  answered_apart b path (request.Delete id) (reply.Success physical attrs) s = refl
  answered_apart b path (request.Delete id) (reply.Failed c) s = refused_apart b path id c s
  answered_apart b path (request.Delete id) reply.Doubt s = refl

-- an answer leaves the calls as they are
pub calls_stay : (b : Bool) (path : List ℕ) (r : Request) (a : Reply) (s : StackState) → answered b path r a s ≡ record (answered b path r a s) { tokens = s.tokens; ledger = s.ledger }
calls_stay b path r a s = answered_apart s.tokens s.ledger b path r a s

settles : (token : ℕ) (a : Reply) (ps : List Pending) → is_doubt a ≡ false → still_open token a ps ≡ without_token token ps
settles token (reply.Success physical attrs) ps h = refl
settles token (reply.Failed c) ps h = refl
settles token reply.Doubt ps h = absurd cc

closing_so : (token : ℕ) (a : Reply) (s x : StackState) → is_doubt a ≡ false → x.tokens ≡ s.tokens → x.ledger ≡ s.ledger
    → record x { tokens = without_token token s.tokens; ledger = where_call token (answered_call a) s.ledger } ≡ closing token a x
closing_so token a s x d t l = rw (settles token a x.tokens d, t, l) refl

pub settled_by : (token : ℕ) (a : Reply) (p : Pending) (s mid new : StackState) (b : Bool) → is_doubt a ≡ false → pending_of token s ≡ Some p → b ≡ is_restore token s
    → mid ≡ record s { tokens = without_token token s.tokens; ledger = where_call token (answered_call a) s.ledger } → new ≡ answered b p.path p.request a mid → new ≡ replying token a s
settled_by token a p s mid new b d e restores is_mid is_new =
    let x : StackState = answered (is_restore token s) p.path p.request a s in
    let stay : x ≡ record x { tokens = s.tokens; ledger = s.ledger } = calls_stay (is_restore token s) p.path p.request a s in
    is_new ∙ ap (λ m. answered b p.path p.request a m) is_mid
    ∙ ap (λ c. answered c p.path p.request a (record s { tokens = without_token token s.tokens; ledger = where_call token (answered_call a) s.ledger })) restores
    ∙ answered_apart (without_token token s.tokens) (where_call token (answered_call a) s.ledger) (is_restore token s) p.path p.request a s
    ∙ closing_so token a s x d (ap (λ y. y.tokens) stay) (ap (λ y. y.ledger) stay)
    ∙ ap (λ o. replied token a o s) (sym e)

pub settled_not : (token : ℕ) (a : Reply) (s : StackState) → pending_of token s ≡ None → s ≡ replying token a s
settled_not token a s e = ap (λ o. replied token a o s) (sym e)
