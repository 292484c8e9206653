-- All calls that an operation has made as it goes forward are told by its change set.
use Rattle.std.proofs.Common.{◌≡◌, ◌∙◌, ◌++◌, ◌∷◌, ◌||◌, ℕ, ◌+◌, Bool, true, false, cond, List, [], Option, Some, None, IsTrue, filter, map, not, refl, sym, ap, subst, true≢false}
use Rattle.std.specs.List.{list_any}
use Rattle.std.specs.Str.{bytes_eq}
use Rattle.cf_tree.specs.Datum.{Data}
use Rattle.cf_tree.specs.Lists.{In}
use Rattle.cf_tree.specs.declared.code.Code.TheVariants as code
use Rattle.cf_tree.specs.declared.request.Request.{Request}
use Rattle.cf_tree.specs.declared.request.Request.TheVariants as request
use Rattle.cf_tree.specs.declared.source.Source.{Source}
use Rattle.cf_schema.specs.declared.described.Schema.{Schema}
use Rattle.cf_entry.specs.declared.entry.Begun.{Begun}
use Rattle.cf_entry.specs.declared.entry.Begun.TheVariants as begin
use Rattle.cf_entry.specs.declared.entry.Entry.{Entry}
use Rattle.cf_entry.specs.declared.entry.Entry.TheVariants as entry
use Rattle.cf_entry.specs.declared.entry.Reply.{Reply}
use Rattle.cf_entry.specs.declared.entry.Reply.TheVariants as reply
use Rattle.cf_entry.specs.declared.status.Status.{Status}
use Rattle.cf_entry.specs.declared.status.Status.TheVariants as status
use Rattle.cf_entry.specs.declared.turn.Phase.{Phase}
use Rattle.cf_entry.specs.declared.turn.Phase.TheVariants as phase
use Rattle.cf_entry.specs.declared.turn.Why.{Why}
use Rattle.cf_change.specs.Changes.{changes_of}
use Rattle.cf_effect.specs.declared.call.Call.{Call}
use Rattle.cf_effect.specs.declared.held.Held.{Held}
use Rattle.cf_effect.specs.declared.held.Pending.{Pending}
use Rattle.cf_effect.specs.Calls.{answered_call, anew, is_call, is_open_call, is_restore, new_call, where_call}
use Rattle.cf_effect.specs.End.{ending, stopping, turned_effect}
use Rattle.cf_effect.specs.Fold.{effect_at}
use Rattle.cf_effect.specs.Reply.{answered, changing, intending, keeping, keeping_known, keeping_unknown, replied}
use Rattle.cf_effect.specs.Status.{Forward, Stage, goes_forward, is_in_progress, stage_of}
use Rattle.cf_effect.specs.Words.{has_physical, has_token, is_create_at, pending_of, resources_of, where_physical}
use Rattle.cf_effect.specs.World.{StackState, World}
use Rattle.cf_plan.specs.Accept.{creates_from, held_as}
use Rattle.cf_plan.specs.Follow.{MayFollowIn, MayIntend, updates_from}
use Rattle.cf_plan.specs.Run.{IsOwn}
use Rattle.cf_plan.proofs.ChangedLists.{each_map}
use Rattle.cf_plan.proofs.Listed.{or_right}
use Rattle.cf_plan.proofs.Members.{in_none}
use Rattle.cf_core.specs.Advancing.{IsAdvancing, changes_begun}
use Rattle.cf_core.specs.Fits.{IsWritten}
use Rattle.cf_core.specs.Foretold.{AreTold, IsTold, CallsBeginTold, CallsStayTold, row_at}
use Rattle.cf_core.specs.Written as to
use Rattle.cf_core.specs.Written.{IsTo}
use Rattle.cf_core.proofs.AdvSteps.{HasBegunBy, begins_ahead, none_begins, none_kept_of, only_forward}
use Rattle.cf_core.proofs.ToldRows.{intended_told}
use Rattle.cf_core.proofs.HidCalls.{advancing_stays}
use Rattle.cf_core.proofs.Lemmas.{false_from, in_more}
use Rattle.cf_core.proofs.Moving.{written_is_to}

-- what a change of resources leaves of the ledger
changed_ledger : (id : List ℕ) (f : Held → Held) (s : StackState) → (changing id f s).ledger ≡ s.ledger
changed_ledger id f s = by (list_any (has_physical id) s.held) where
  by : (c : Bool) → (cond c (record s { held = where_physical id f s.held }) (record s { made = where_physical id f s.made })).ledger ≡ s.ledger
  by true = refl
  by false = refl

answered_ledger : (restores : Bool) (path : List ℕ) (r : Request) (a : Reply) (s : StackState) → (answered restores path r a s).ledger ≡ s.ledger
answered_ledger restores path (request.Create k props) (reply.Success physical attrs) s = refl
answered_ledger restores path (request.Create k props) (reply.Failed c) s = refl
answered_ledger restores path (request.Create k props) reply.Doubt s = refl
answered_ledger restores path (request.Update id props) (reply.Success physical attrs) s = changed_ledger id _ s
answered_ledger true path (request.Update id props) (reply.Failed c) s = changed_ledger id _ s
answered_ledger false path (request.Update id props) (reply.Failed c) s = refl
answered_ledger restores path (request.Update id props) reply.Doubt s = refl
answered_ledger restores path (request.Delete id) (reply.Success physical attrs) s = refl
answered_ledger restores path (request.Delete id) (reply.Failed code.NotFound) s = refl
answered_ledger restores path (request.Delete id) (reply.Failed c) s = changed_ledger id _ s
answered_ledger restores path (request.Delete id) reply.Doubt s = refl

-- What is said of the path and the request of each call.
module _ (P : List ℕ → Request → Type 0) where
  abbrev Say : List Call → Type 0
  Say cs = (c : Call) → In c cs → P c.path c.request

  say_anew : (cs : List Call) → Say cs → Say (map anew cs)
  say_anew cs h = each_map (λ (c : Call). P c.path c.request) anew cs h

  say_answered : (token : ℕ) (a : Reply) (cs : List Call) → Say cs → Say (where_call token (answered_call a) cs)
  say_answered token a cs h = each_map (λ (c : Call). P c.path c.request) (λ (c : Call). cond (is_call token c) (answered_call a c) c) cs (λ c i. by (is_call token c) a c (h c i)) where
    by : (b : Bool) (r : Reply) (c : Call) → P c.path c.request → P (cond b (answered_call r c) c).path (cond b (answered_call r c) c).request
    by true (reply.Success physical attrs) c p = p
    by true (reply.Failed k) c p = p
    by true reply.Doubt c p = p
    by false r c p = p

  say_replied : (token : ℕ) (a : Reply) (p : Option Pending) (s : StackState) → Say s.ledger → Say (replied token a p s).ledger
  say_replied token a None s h = h
  say_replied token a (Some p) s h =
      say_answered token a (answered (is_restore token s) p.path p.request a s).ledger (subst Say (sym (answered_ledger (is_restore token s) p.path p.request a s)) h)

  say_intended : (number : ℕ) (p : Pending) (s : StackState) → P p.path p.request → Say s.ledger → Say (intending number p s).ledger
  say_intended number p s one h = by (list_any (has_token p.token) s.tokens) where
    by : (b : Bool) → Say (cond b s (record s { tokens = s.tokens ++ p ∷ []; ledger = s.ledger ++ new_call number s.status p ∷ [] })).ledger
    by true = h
    by false = in_more (λ (c : Call). P c.path c.request) (new_call number s.status p) s.ledger h one

  say_kept : (path physical : List ℕ) (w : Why) (s : StackState) → Say s.ledger → Say (keeping path physical w s).ledger
  say_kept path physical w s h = by (bytes_eq physical []) (list_any (is_create_at path) s.tokens) (list_any (has_physical physical) (resources_of s)) where
    by : (b c d : Bool) → Say (cond b (cond c (keeping_unknown path w s) s) (cond d (keeping_known path physical w s) s)).ledger
    by true true d = h
    by true false d = h
    by false c true = h
    by false c false = h

  say_ended : (state : Status) (s : StackState) → Say s.ledger → Say (ending state (stopping state s)).stack.ledger
  say_ended status.CreateComplete s h = h
  say_ended status.RollbackFailed s h = h
  say_ended status.UpdateRollbackComplete s h = h
  say_ended status.RollbackComplete s h = h
  say_ended status.DeleteComplete s h = h
  say_ended state s h = h

  say_turned : (p : Phase) (s : StackState) → Say s.ledger → Say (turned_effect p s).stack.ledger
  say_turned phase.Clean s h = say_anew s.ledger h
  say_turned p s h = say_anew s.ledger h

  module _ (schemas : List Schema) (x : World) (out : List ℕ) (name : List ℕ) (s : StackState) (forward : goes_forward s.status ≡ true)
      (told : (token : ℕ) (lane path : List ℕ) (r : Request) → MayIntend schemas name x out s Forward token lane path r → P path r) (h : Say s.ledger) where
    stage_is : (z : Status) → goes_forward z ≡ true → (stage : Stage) → stage_of z ≡ Some stage → stage ≡ Forward
    stage_is = only_forward (λ z. (stage : Stage) → stage_of z ≡ Some stage → stage ≡ Forward) (λ stage e. same stage e) (λ stage e. same stage e) where
      same : (stage : Stage) → Some Forward ≡ Some stage → stage ≡ Forward
      same stage e = cc

    say_step : (stage : Stage) (e : Entry) → stage ≡ Forward → IsOwn s.operation e → MayFollowIn schemas name x out s stage e → Say (effect_at (x.place + 1) e s).stack.ledger
    say_step stage (entry.Kept number path physical w) is own may = say_kept path physical w s h
    say_step stage (entry.Intent number token lane path r) is own may =
        say_intended number (record { token = token; path = path; lane = lane; request = r }) s
        (told token lane path r (subst (λ (g : Stage). MayIntend schemas name x out s g token lane path r) is may)) h
    say_step stage (entry.Outcome number token a before after) is own may = say_replied token a (pending_of token s) s h
    say_step stage (entry.Phase number p c) is own may = say_turned p s h
    say_step stage (entry.Done number state failed) is own may = say_ended state s h
    say_step stage e is own may = absurd own

    say_to : (e : Entry) (t : StackState) → IsTo schemas x out name s e t → Say t.ledger
    say_to e t (to.step stage is own may) = say_step stage e (stage_is s.status forward stage is) own may
    say_to e t (to.begins k from by) = absurd (none_begins k s.status forward from)
    say_to e t (to.reviewed number source rows outputs from) = h
    say_to e t (to.opened epoch lanes) = say_anew s.ledger h
    say_to e t to.other = h

pub calls_stay_told : CallsStayTold
calls_stay_told schemas x out e name s t source w forward on a ordered described h =
    let stays = advancing_stays schemas x out e name s t source w forward on a ordered described in
    subst (λ (hs : List Held). (c : Call) → In c t.ledger
    → IsTold (row_at c.path (changes_of schemas (map held_as (filter (λ b. not b.superseded) hs)) [] [] source).rows) c.request) (sym stays.before)
    (say_to (λ path r. IsTold (row_at path (changes_begun schemas s source).rows) r) schemas x out name s forward
    (λ token lane path r may. intended_told schemas name x out s source token lane path r a w.fits ordered described may) h e t (written_is_to schemas x out e name s t w))

pub calls_begin_told : CallsBeginTold
calls_begin_told schemas x out e name s t source w rests on free = by (begins_ahead w (false_from (goes_forward s.status) (none_forward s.status rests)) on) where
  none_forward : (z : Status) → is_in_progress z ≡ false → goes_forward z ≡ true → ⊥
  none_forward z n f = only_forward (λ v. is_in_progress v ≡ false → ⊥) true≢false true≢false z f n

  no_call : s.tokens ≡ [] → t.ledger ≡ map anew (filter (is_open_call s.tokens) s.ledger) → AreTold schemas t source
  no_call none is c i = absurd (in_none (subst (In c) (is ∙ none_kept_of s none) i))

  by : HasBegunBy schemas x name s t → AreTold schemas t source
  by (begin.Create c, from, b, q) = no_call (free (ap (λ d. d || updates_from s.status) from)).0 (ap (λ (u : StackState). u.ledger) (sym q))
  by (begin.Update c, from, b, q) = no_call (free (or_right (creates_from s.status) (updates_from s.status) from)).0 (ap (λ (u : StackState). u.ledger) (sym q))
  by (begin.Delete paths, from, b, q) = absurd (true≢false (sym on ∙ ap (λ (u : StackState). goes_forward u.status) (sym q)))
  by (begin.Continue paths, from, b, q) = absurd (true≢false (sym on ∙ ap (λ (u : StackState). goes_forward u.status) (sym q)))
