-- What entries leave of the open calls of a stack, and of what these calls rest on.
use Rattle.std.proofs.Common.{◌≡◌, ℕ, ◌+◌, Bool, true, false, not, List, [], ◌∷◌, ◌++◌, Option, Some, None, filter, find, refl, sym, ap, ◌∙◌, cond, subst}
use Rattle.std.specs.List.{list_any}
use Rattle.std.specs.Str.{bytes_eq}
use Rattle.cf_tree.specs.Datum.{Data}
use Rattle.cf_tree.specs.Lists.{is_among}
use Rattle.cf_tree.specs.declared.request.Request.{Request}
use Rattle.cf_tree.specs.declared.request.Request.TheVariants as request
use Rattle.cf_tree.specs.declared.code.Code.{Code}
use Rattle.cf_tree.specs.declared.code.Code.TheVariants as code
use Rattle.cf_entry.specs.declared.entry.Begun.TheVariants as begin
use Rattle.cf_entry.specs.declared.entry.Entry.{Entry}
use Rattle.cf_entry.specs.declared.entry.Entry.TheVariants as entry
use Rattle.cf_entry.specs.declared.entry.Reply.{Reply}
use Rattle.cf_entry.specs.declared.entry.Reply.TheVariants as reply
use Rattle.cf_entry.specs.declared.status.Status.{Status}
use Rattle.cf_entry.specs.declared.status.Status.TheVariants as status
use Rattle.cf_entry.specs.declared.turn.Phase.{Phase}
use Rattle.cf_entry.specs.declared.turn.Phase.TheVariants as phase
use Rattle.cf_entry.specs.declared.turn.Cause.{Cause}
use Rattle.cf_entry.specs.declared.turn.Why.{Why}
use Rattle.cf_effect.specs.declared.held.Held.{Held}
use Rattle.cf_effect.specs.declared.held.HeldStatus.TheVariants as held
use Rattle.cf_effect.specs.declared.held.Pending.{Pending}
use Rattle.cf_effect.specs.World.{StackState}
use Rattle.cf_effect.specs.Words.{has_physical, has_token, is_create_at, is_on, pending_of, resources_of, where_physical, without_token}
use Rattle.cf_effect.specs.Calls.{is_restore}
use Rattle.cf_effect.specs.Fold.{effect_at, is_opening}
use Rattle.cf_effect.specs.Reply.{answered, changing, keeping, keeping_known, keeping_unknown, replied, replying, still_open, updating}
use Rattle.cf_effect.specs.Bounds.{IsShortOutcomeOf}
use Rattle.cf_stacks.specs.Spare.{HaveOwnTokens, KeepsCalls, LeavesCalls}
use Rattle.cf_effect.proofs.Answered.{calls_stay}
use Rattle.cf_stacks.proofs.Kindred.{apart_filter, kept_call}

-- where tokens are apart they stay so, and each call rests on what it did
abbrev Keeps : StackState → StackState → Type 0
Keeps s new = HaveOwnTokens s.tokens → KeepsCalls s new × HaveOwnTokens new.tokens

keeps_same : (s new : StackState) → new.going ≡ s.going → new.before ≡ s.before → new.tokens ≡ s.tokens → Keeps s new
keeps_same s new g b t h = (record { going = g; before = b; tokens = λ u p e. ap (λ ps. find (has_token u) ps) (sym t) ∙ e }, subst HaveOwnTokens (sym t) h)

keeps_fewer : (s new : StackState) (test : Pending → Bool) → new.going ≡ s.going → new.before ≡ s.before → new.tokens ≡ filter test s.tokens → Keeps s new
keeps_fewer s new test g b t h =
    (record { going = g; before = b; tokens = λ u p e. kept_call test u p s.tokens h (ap (λ ps. find (has_token u) ps) (sym t) ∙ e) }, subst HaveOwnTokens (sym t) (apart_filter test s.tokens h))

-- what a stack works by stays
abbrev Rests : StackState → StackState → Type 0
Rests s new = (new.going ≡ s.going) × (new.before ≡ s.before)

changing_rests : (id : List ℕ) (change : Held → Held) (s : StackState) → Rests s (changing id change s)
changing_rests id change s = by (list_any (has_physical id) s.held)
  where
    by : (b : Bool) → Rests s (cond b (record s { held = where_physical id change s.held }) (record s { made = where_physical id change s.made }))
    by true = (refl, refl)
    by false = (refl, refl)

failed_rests : (b : Bool) (path id : List ℕ) (props : List (List ℕ × Data)) (c : Code) (s : StackState) → Rests s (answered b path (request.Update id props) (reply.Failed c) s)
failed_rests true path id props c s = changing_rests id (λ h. record h { status = held.UpdateFailed }) s
failed_rests false path id props c s = (refl, refl)

refused_rests : (b : Bool) (path id : List ℕ) (c : Code) (s : StackState) → Rests s (answered b path (request.Delete id) (reply.Failed c) s)
refused_rests b path id code.NotFound s = (refl, refl)
refused_rests b path id c s = changing_rests id (λ h. record h { status = held.DeleteFailed }) s

answered_rests : (b : Bool) (path : List ℕ) (r : Request) (a : Reply) (s : StackState) → Rests s (answered b path r a s)
answered_rests b path (request.Create k props) (reply.Success physical attrs) s = (refl, refl)
answered_rests b path (request.Create k props) (reply.Failed c) s = (refl, refl)
answered_rests b path (request.Create k props) reply.Doubt s = (refl, refl)
answered_rests b path (request.Update id props) (reply.Success physical attrs) s = changing_rests id (updating props attrs) s
answered_rests b path (request.Update id props) (reply.Failed c) s = failed_rests b path id props c s
answered_rests b path (request.Update id props) reply.Doubt s = (refl, refl)
answered_rests b path (request.Delete id) (reply.Success physical attrs) s = (refl, refl)
answered_rests b path (request.Delete id) (reply.Failed c) s = refused_rests b path id c s
answered_rests b path (request.Delete id) reply.Doubt s = (refl, refl)

open_keeps : (token : ℕ) (a : Reply) (s new : StackState) → Rests s new → new.tokens ≡ still_open token a s.tokens → Keeps s new
open_keeps token (reply.Success physical attrs) s new r t = keeps_fewer s new (λ p. not (has_token token p)) r.0 r.1 t
open_keeps token (reply.Failed c) s new r t = keeps_fewer s new (λ p. not (has_token token p)) r.0 r.1 t
open_keeps token reply.Doubt s new r t = keeps_same s new r.0 r.1 t

replied_keeps : (token : ℕ) (a : Reply) (o : Option Pending) (s : StackState) → Keeps s (replied token a o s)
replied_keeps token a None s = keeps_same s s refl refl refl
replied_keeps token a (Some p) s =
    let b : Bool = is_restore token s in
    open_keeps token a s (replied token a (Some p) s) (answered_rests b p.path p.request a s)
    (ap (λ (x : StackState). still_open token a x.tokens) (calls_stay b p.path p.request a s))

kept_keeps : (path physical : List ℕ) (w : Why) (s : StackState) → Keeps s (keeping path physical w s)
kept_keeps path physical w s = by (bytes_eq physical []) (list_any (is_create_at path) s.tokens) (list_any (has_physical physical) (resources_of s))
  where
    by : (b c d : Bool) → Keeps s (cond b (cond c (keeping_unknown path w s) s) (cond d (keeping_known path physical w s) s))
    by true true d = keeps_fewer s (keeping_unknown path w s) (λ p. not (is_create_at path p)) refl refl refl
    by true false d = keeps_same s s refl refl refl
    by false c true = keeps_fewer s (keeping_known path physical w s) (λ p. not (is_on physical p)) refl refl refl
    by false c false = keeps_same s s refl refl refl

module _ (place : ℕ) (s : StackState) where
  abbrev left_by : Entry → StackState
  left_by e = (effect_at place e s).stack

  turned_keeps : (number : ℕ) (p : Phase) (cause : Option Cause) → Keeps s (left_by (entry.Phase number p cause))
  turned_keeps number phase.Clean cause = keeps_same s (left_by (entry.Phase number phase.Clean cause)) refl refl refl
  turned_keeps number phase.Back cause = keeps_same s (left_by (entry.Phase number phase.Back cause)) refl refl refl
  turned_keeps number phase.BackClean cause = keeps_same s (left_by (entry.Phase number phase.BackClean cause)) refl refl refl

  ended_rests : (number : ℕ) (failed : List (List ℕ)) (state : Status) → Rests s (left_by (entry.Done number state failed)) × ((left_by (entry.Done number state failed)).tokens ≡ s.tokens)
  ended_rests number failed status.CreateComplete = ((refl, refl), refl)
  ended_rests number failed status.RollbackFailed = ((refl, refl), refl)
  ended_rests number failed status.UpdateRollbackComplete = ((refl, refl), refl)
  ended_rests number failed status.RollbackComplete = ((refl, refl), refl)
  ended_rests number failed status.DeleteComplete = ((refl, refl), refl)
  ended_rests number failed state = ((refl, refl), refl)

  -- what an entry leaves, but for an intent and an opening, of the calls of its stack
  pub leaves_calls : (e : Entry) → HaveOwnTokens s.tokens → LeavesCalls e s (left_by e)
  leaves_calls (entry.Opened epoch lanes) h = keeps_same s (left_by (entry.Opened epoch lanes)) refl refl refl h
  leaves_calls (entry.Begin number name (begin.Create source)) h = h
  leaves_calls (entry.Begin number name (begin.Update source)) h = h
  leaves_calls (entry.Begin number name (begin.Delete paths)) h = keeps_same s (left_by (entry.Begin number name (begin.Delete paths))) refl refl refl h
  leaves_calls (entry.Begin number name (begin.Continue paths)) h = keeps_fewer s (left_by (entry.Begin number name (begin.Continue paths))) (λ p. not (is_among p.path paths)) refl refl refl h
  leaves_calls (entry.Kept number path physical w) h =
      let k = kept_keeps path physical w s h in
      (record { going = k.0.going; before = k.0.before; tokens = k.0.tokens }, k.1)
  leaves_calls (entry.Intent number token lane path r) h = tt
  leaves_calls (entry.Outcome number token answer before after) h =
      let k = replied_keeps token answer (pending_of token s) s h in
      (record { going = k.0.going; before = k.0.before; tokens = k.0.tokens }, k.1)
  leaves_calls (entry.Phase number p cause) h = turned_keeps number p cause h
  leaves_calls (entry.Done number state failed) h = keeps_same s (left_by (entry.Done number state failed)) (ended_rests number failed state).0.0 (ended_rests number failed state).0.1 (ended_rests number failed state).1 h
  leaves_calls (entry.ChangeSet number name source rows outputs) h = keeps_same s (left_by (entry.ChangeSet number name source rows outputs)) refl refl refl h

  pub opening_keeps : (e : Entry) → is_opening e ≡ true → HaveOwnTokens s.tokens → KeepsCalls s (left_by e) × HaveOwnTokens (left_by e).tokens
  opening_keeps (entry.Opened epoch lanes) o h = keeps_same s (left_by (entry.Opened epoch lanes)) refl refl refl h
  opening_keeps (entry.Begin number name k) o h = absurd cc
  opening_keeps (entry.Kept number path physical w) o h = absurd cc
  opening_keeps (entry.Intent number token lane path r) o h = absurd cc
  opening_keeps (entry.Outcome number token answer before after) o h = absurd cc
  opening_keeps (entry.Phase number p cause) o h = absurd cc
  opening_keeps (entry.Done number state failed) o h = absurd cc
  opening_keeps (entry.ChangeSet number name source rows outputs) o h = absurd cc

  -- the same of an outcome
  pub outcome_keeps : (token : ℕ) (e : Entry) → IsShortOutcomeOf token e → HaveOwnTokens s.tokens → KeepsCalls s (left_by e) × HaveOwnTokens (left_by e).tokens
  outcome_keeps token (entry.Opened epoch lanes) o h = absurd o
  outcome_keeps token (entry.Begin number name k) o h = absurd o
  outcome_keeps token (entry.Kept number path physical w) o h = absurd o
  outcome_keeps token (entry.Intent number t lane path r) o h = absurd o
  outcome_keeps token (entry.Outcome number t answer before after) o h = leaves_calls (entry.Outcome number t answer before after) h
  outcome_keeps token (entry.Phase number p cause) o h = absurd o
  outcome_keeps token (entry.Done number state failed) o h = absurd o
  outcome_keeps token (entry.ChangeSet number name source rows outputs) o h = absurd o
