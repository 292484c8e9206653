-- Each resource that an operation made was created at its path by a call of it.
use Rattle.std.proofs.Common.{◌≡◌, ◌∙◌, ◌⊎◌, inl, inr, ◌++◌, ◌∷◌, ℕ, ◌+◌, Bool, true, false, cond, not, List, [], Option, Some, None, IsTrue, filter, find, map, refl, sym, ap, subst, true≢false}
use Rattle.std.specs.List.{list_any}
use Rattle.std.specs.Str.{bytes_eq}
use Rattle.cf_tree.specs.Datum.{Data}
use Rattle.cf_tree.specs.Lists.{In}
use Rattle.cf_tree.specs.declared.code.Code.TheVariants as code
use Rattle.cf_tree.specs.declared.request.Request.{Request}
use Rattle.cf_tree.specs.declared.request.Request.TheVariants as request
use Rattle.cf_tree.specs.declared.row.Row.{Row}
use Rattle.cf_schema.specs.declared.described.Schema.{Schema}
use Rattle.cf_entry.specs.declared.entry.Begun.{Begun}
use Rattle.cf_entry.specs.declared.entry.Begun.TheVariants as begin
use Rattle.cf_entry.specs.declared.entry.Entry.{Entry}
use Rattle.cf_entry.specs.declared.entry.Entry.TheVariants as entry
use Rattle.cf_entry.specs.declared.entry.Reply.{Reply}
use Rattle.cf_entry.specs.declared.entry.Reply.TheVariants as reply
use Rattle.cf_entry.specs.declared.status.Status.{Status}
use Rattle.cf_entry.specs.declared.status.Status.TheVariants as status
use Rattle.cf_entry.specs.declared.turn.Phase.{Phase}
use Rattle.cf_entry.specs.declared.turn.Phase.TheVariants as phase
use Rattle.cf_entry.specs.declared.turn.Why.{Why}
use Rattle.cf_effect.specs.declared.call.Call.{Call}
use Rattle.cf_effect.specs.declared.held.Held.{Held}
use Rattle.cf_effect.specs.declared.held.HeldStatus.TheVariants.{DeleteFailed, UpdateFailed}
use Rattle.cf_effect.specs.declared.held.Pending.{Pending}
use Rattle.cf_effect.specs.Calls.{anew, answered_call, is_call, is_restore, new_call, where_call}
use Rattle.cf_effect.specs.End.{ending, left_in_doubt, marked, stopping, turned_effect}
use Rattle.cf_effect.specs.Fold.{effect_at}
use Rattle.cf_effect.specs.Reply.{answered, closing, intending, keeping, keeping_known, keeping_unknown, made_of, replied, status_made, terms_at, updating}
use Rattle.cf_effect.specs.Status.{goes_forward}
use Rattle.cf_effect.specs.Words.{current_at, has_physical, has_token, is_create, is_create_at, is_on, pending_of, resources_of, where_physical, without}
use Rattle.cf_effect.specs.World.{StackState, World}
use Rattle.cf_plan.specs.Run.{IsOwn}
use Rattle.cf_plan.proofs.ChangedLists.{each_map}
use Rattle.cf_plan.proofs.Members.{in_none}
use Rattle.cf_core.specs.Advancing.{changes_begun}
use Rattle.cf_core.specs.Fits.{Fits}
use Rattle.cf_core.specs.Foretold.{AreMadeByCalls, IsTold, MadeBeginCalled, MadeIsTold, MadeStayCalled, TellsCreate, row_at}
use Rattle.cf_core.specs.Written as to
use Rattle.cf_core.specs.Written.{IsTo}
use Rattle.cf_core.proofs.AdvSteps.{HasBegunBy, begins_ahead, none_begins}
use Rattle.cf_core.proofs.Cleanups.{from_changed}
use Rattle.cf_core.proofs.Lemmas.{found_one, in_filter, in_front, in_map, in_more}
use Rattle.cf_core.proofs.Moving.{written_is_to}

-- a call of these creates at the path
abbrev Creates : List Call → List ℕ → Type 0
Creates cs path = (c : Call) × In c cs × (c.path ≡ path) × (is_create c.request ≡ true)

abbrev Made : List Held → List Call → Type 0
Made ms cs = (r : Held) → In r ms → Creates cs r.path

-- each row is still there, with its path and request
abbrev KeepRows : List Call → List Call → Type 0
KeepRows cs ds = (c : Call) → In c cs → (d : Call) × In d ds × (d.path ≡ c.path) × (d.request ≡ c.request)

keep_made : (ms : List Held) (cs ds : List Call) → KeepRows cs ds → Made ms cs → Made ms ds
keep_made ms cs ds keeps h r i = let (c, j, at, creates) = h r i in let (d, k, path, asked) = keeps c j in (d, k, path ∙ at, ap is_create asked ∙ creates)

-- some are off the list, or changed, which leaves their paths
fewer : (test : Held → Bool) (ms : List Held) (cs : List Call) → Made ms cs → Made (filter test ms) cs
fewer test ms cs h r i = h r (in_filter test ms r i).0

changed : (id : List ℕ) (f : Held → Held) → ((r : Held) → (f r).path ≡ r.path) → (ms : List Held) (cs : List Call) → Made ms cs → Made (where_physical id f ms) cs
changed id f same ms cs h r i = by (from_changed (has_physical id) f ms r i) where
  by : (q : Held) × In q ms × ((r ≡ q) ⊎ (r ≡ f q)) → Creates cs r.path
  by (q, j, inl e) = subst (λ (k : Held). Creates cs k.path) (sym e) (h q j)
  by (q, j, inr e) = subst (Creates cs) (sym (ap (λ (k : Held). k.path) e ∙ same q)) (h q j)

marked_path : (o : Option Pending) (h : Held) → (left_in_doubt o h).path ≡ h.path
marked_path None h = refl
marked_path (Some p) h = refl

marked_made : (ps : List Pending) (ms : List Held) (cs : List Call) → Made ms cs → Made (map (marked ps) ms) cs
marked_made ps ms cs h = each_map (λ (r : Held). Creates cs r.path) (marked ps) ms (λ r i. subst (Creates cs) (sym (marked_path (find (is_on r.physical) ps) r)) (h r i))

none_made : (cs : List Call) → Made [] cs
none_made cs r i = absurd (in_none i)

row_kept : (b : Bool) (a : Reply) (c : Call) → ((cond b (answered_call a c) c).path ≡ c.path) × ((cond b (answered_call a c) c).request ≡ c.request)
row_kept true (reply.Success physical attrs) c = (refl, refl)
row_kept true (reply.Failed k) c = (refl, refl)
row_kept true reply.Doubt c = (refl, refl)
row_kept false a c = (refl, refl)

keep_anew : (cs : List Call) → KeepRows cs (map anew cs)
keep_anew cs c i = (anew c, in_map anew c cs i, refl, refl)

keep_answered : (token : ℕ) (a : Reply) (cs : List Call) → KeepRows cs (where_call token (answered_call a) cs)
keep_answered token a cs c i =
    let k = row_kept (is_call token c) a c in
    (cond (is_call token c) (answered_call a c) c, in_map (λ d. cond (is_call token d) (answered_call a d) d) c cs i, k.0, k.1)

module _ (s : StackState) (h : Made s.made s.ledger) where
  abbrev Stays : StackState → Type 0
  Stays u = Made u.made u.ledger

  kept_so : (path physical : List ℕ) (w : Why) → Stays (keeping path physical w s)
  kept_so path physical w = by (bytes_eq physical []) (list_any (is_create_at path) s.tokens) (list_any (has_physical physical) (resources_of s)) where
    by : (b c d : Bool) → Stays (cond b (cond c (keeping_unknown path w s) s) (cond d (keeping_known path physical w s) s))
    by true true d = h
    by true false d = h
    by false c true = fewer (λ q. not (has_physical physical q)) s.made s.ledger h
    by false c false = h

  intended_so : (number : ℕ) (p : Pending) → Stays (intending number p s)
  intended_so number p = by (list_any (has_token p.token) s.tokens) where
    rows : List Call
    rows = s.ledger ++ new_call number s.status p ∷ []

    by : (b : Bool) → Stays (cond b s (record s { tokens = s.tokens ++ p ∷ []; ledger = rows }))
    by true = h
    by false = keep_made s.made s.ledger rows (λ c i. (c, in_front c s.ledger (new_call number s.status p ∷ []) i, refl, refl)) h

  module _ (token : ℕ) (a : Reply) where
    abbrev rows : List Call
    rows = where_call token (answered_call a) s.ledger

    same_so : Made s.made rows
    same_so = keep_made s.made s.ledger rows (keep_answered token a s.ledger) h

    changed_so : (id : List ℕ) (f : Held → Held) → ((r : Held) → (f r).path ≡ r.path) → (b : Bool)
        → Stays (closing token a (cond b (record s { held = where_physical id f s.held }) (record s { made = where_physical id f s.made })))
    changed_so id f same true = same_so
    changed_so id f same false = changed id f same s.made rows same_so

    gone_so : (id : List ℕ) → Made (without id s.made) rows
    gone_so id = fewer (λ q. not (has_physical id q)) s.made rows same_so

  -- what a create made has its row
  module _ (x : World) (fits : Fits x s) (token : ℕ) (p : Pending) (open_ : pending_of token s ≡ Some p) where
    created : (k : List ℕ) (props : List (List ℕ × Data)) → p.request ≡ request.Create k props → Creates s.ledger p.path
    created k props asks =
        let row = fits.rows p (found_one (has_token token) s.tokens p open_).0 in
        (row.0, (found_one (is_call p.token) s.ledger row.0 row.1).0, row.2.path, ap is_create (row.2.request ∙ asks))

    answered_so : (restores : Bool) (r : Request) → p.request ≡ r → (a : Reply) → Stays (closing token a (answered restores p.path r a s))
    answered_so restores (request.Create k props) asks (reply.Success physical attrs) =
        in_more (λ (r : Held). Creates (where_call token (answered_call (reply.Success physical attrs)) s.ledger) r.path)
        (made_of (terms_at p.path s) (status_made (current_at p.path s.held)) p.path k props physical attrs) s.made (same_so token (reply.Success physical attrs))
        (let (c, j, at, creates) = created k props asks in
        let (d, l, path, asked) = keep_answered token (reply.Success physical attrs) s.ledger c j in (d, l, path ∙ at, ap is_create asked ∙ creates))
    answered_so restores (request.Create k props) asks (reply.Failed c) = same_so token (reply.Failed c)
    answered_so restores (request.Create k props) asks reply.Doubt = same_so token reply.Doubt
    answered_so restores (request.Update id props) asks (reply.Success physical attrs) =
        changed_so token (reply.Success physical attrs) id (updating props attrs) (λ r. refl) (list_any (has_physical id) s.held)
    answered_so true (request.Update id props) asks (reply.Failed c) =
        changed_so token (reply.Failed c) id (λ q. record q { status = UpdateFailed }) (λ r. refl) (list_any (has_physical id) s.held)
    answered_so false (request.Update id props) asks (reply.Failed c) = same_so token (reply.Failed c)
    answered_so restores (request.Update id props) asks reply.Doubt = same_so token reply.Doubt
    answered_so restores (request.Delete id) asks (reply.Success physical attrs) = gone_so token (reply.Success physical attrs) id
    answered_so restores (request.Delete id) asks (reply.Failed code.NotFound) = gone_so token (reply.Failed code.NotFound) id
    answered_so restores (request.Delete id) asks (reply.Failed c) =
        changed_so token (reply.Failed c) id (λ q. record q { status = DeleteFailed }) (λ r. refl) (list_any (has_physical id) s.held)
    answered_so restores (request.Delete id) asks reply.Doubt = same_so token reply.Doubt

  replied_so : (x : World) → Fits x s → (token : ℕ) (a : Reply) (o : Option Pending) → pending_of token s ≡ o → Stays (replied token a o s)
  replied_so x fits token a None e = h
  replied_so x fits token a (Some p) e = answered_so x fits token p e (is_restore token s) p.request refl a

  ended_so : (state : Status) → Stays (ending state (stopping state s)).stack
  ended_so status.CreateComplete = none_made s.ledger
  ended_so status.RollbackFailed = none_made s.ledger
  ended_so status.UpdateRollbackComplete = marked_made s.tokens s.made s.ledger h
  ended_so status.RollbackComplete = marked_made s.tokens s.made s.ledger h
  ended_so status.DeleteComplete = marked_made s.tokens s.made s.ledger h
  ended_so state = marked_made s.tokens s.made s.ledger h

  turned_so : (p : Phase) → Stays (turned_effect p s).stack
  turned_so phase.Clean = none_made (map anew s.ledger)
  turned_so p = keep_made s.made s.ledger (map anew s.ledger) (keep_anew s.ledger) h

  module _ (schemas : List Schema) (x : World) (out : List ℕ) (name : List ℕ) (fits : Fits x s) (forward : goes_forward s.status ≡ true) where
    by_own : (e : Entry) → IsOwn s.operation e → Stays (effect_at (x.place + 1) e s).stack
    by_own (entry.Kept number path physical w) own = kept_so path physical w
    by_own (entry.Intent number token lane path r) own = intended_so number (record { token = token; path = path; lane = lane; request = r })
    by_own (entry.Outcome number token a before after) own = replied_so x fits token a (pending_of token s) refl
    by_own (entry.Phase number p c) own = turned_so p
    by_own (entry.Done number state failed) own = ended_so state
    by_own e own = absurd own

    made_to : (e : Entry) (t : StackState) → IsTo schemas x out name s e t → Stays t
    made_to e t (to.step stage is own may) = by_own e own
    made_to e t (to.begins k from by) = absurd (none_begins k s.status forward from)
    made_to e t (to.reviewed number source shown outputs from) = h
    made_to e t (to.opened epoch lanes) = keep_made s.made s.ledger (map anew s.ledger) (keep_anew s.ledger) h
    made_to e t to.other = h

pub made_stay_called : MadeStayCalled
made_stay_called schemas x out e name s t w forward h = made_to s h schemas x out name w.fits forward e t (written_is_to schemas x out e name s t w)

pub made_begin_called : MadeBeginCalled
made_begin_called schemas x out e name s t w rests on = by (begins_ahead w rests on) where
  nothing : t.made ≡ [] → AreMadeByCalls t
  nothing is r i = absurd (in_none (subst (In r) is i))

  by : HasBegunBy schemas x name s t → AreMadeByCalls t
  by (begin.Create c, from, b, q) = nothing (ap (λ (u : StackState). u.made) (sym q))
  by (begin.Update c, from, b, q) = nothing (ap (λ (u : StackState). u.made) (sym q))
  by (begin.Delete paths, from, b, q) = absurd (true≢false (sym on ∙ ap (λ (u : StackState). goes_forward u.status) (sym q)))
  by (begin.Continue paths, from, b, q) = absurd (true≢false (sym on ∙ ap (λ (u : StackState). goes_forward u.status) (sym q)))

-- what creates is told as a create
create_told : (row : Option Row) (r : Request) → is_create r ≡ true → IsTold row r → TellsCreate row
create_told row (request.Create k props) creates told = (k, props, told)
create_told row (request.Update physical props) creates told = absurd (true≢false (sym creates))
create_told row (request.Delete physical) creates told = absurd (true≢false (sym creates))

pub made_told : MadeIsTold
made_told schemas s source told made r i =
    let (c, j, at, creates) = made r i in
    subst (λ path. TellsCreate (row_at path (changes_begun schemas s source).rows)) at (create_told (row_at c.path (changes_begun schemas s source).rows) c.request creates (told c j))
