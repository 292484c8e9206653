-- What is kept of a creation follows what its stack hears.
use Rattle.std.proofs.Common.{◌≡◌, ℕ, ◌==◌, ◌&&◌, ◌||◌, not, Bool, true, false, List, [], ◌∷◌, ◌++◌, Option, Some, None, Result, Ok, Err, IfOk, IfSome, find, map, set, refl, sym, ◌∙◌, ap, cond, subst, true≢false}
use Rattle.std.specs.Prelude.{is_some}
use Rattle.std.specs.List.{list_any, slice_get}
use Rattle.std.specs.Option.{option_map_or, option_or}
use Rattle.std.specs.Global.{Vec}
use Rattle.std.proofs.lemmas.Bool.{or_from}
use Rattle.std.proofs.lemmas.List.Folds.{list_any-append}
use Rattle.std.proofs.lemmas.Option.{none-some}
use Rattle.cf_tree.specs.Datum.{Data}
use Rattle.cf_tree.specs.declared.request.Request.{Request}
use Rattle.cf_tree.specs.declared.request.Request.TheVariants as request
use Rattle.cf_entry.specs.declared.entry.Entry.{Entry}
use Rattle.cf_entry.specs.declared.entry.Entry.TheVariants as entry
use Rattle.cf_entry.specs.declared.entry.Reply.{Reply}
use Rattle.cf_entry.specs.declared.entry.Reply.TheVariants as reply
use Rattle.cf_desired.specs.Work.{Member}
use Rattle.cf_effect.specs.declared.ahead.Ahead.{Ahead}
use Rattle.cf_effect.specs.declared.call.Call.{Call}
use Rattle.cf_effect.specs.declared.findings.Findings.{Findings}
use Rattle.cf_effect.specs.declared.findings.Found.{Found}
use Rattle.cf_effect.specs.declared.held.Pending.{Pending}
use Rattle.cf_effect.specs.declared.layout.Layout.{Layout}
use Rattle.cf_effect.specs.Ahead.{AreKept, FollowsCall, FollowsFound, FollowsMade, GoesForth, IsAhead, KeepsAhead, StaysAfter, StaysAhead, StaysIf, called_heard, unless_kept, completes_create, is_created_by, is_setback, is_update_of, nestings_of}
use Rattle.cf_effect.specs.Calls.{answered_call, is_call, is_restore, new_call, where_call}
use Rattle.cf_effect.specs.Findings.{AreFindings, IsFound}
use Rattle.cf_effect.specs.Fold.{effect_at}
use Rattle.cf_effect.specs.Following.{Forgets, IsPlaceOf, with_place}
use Rattle.cf_effect.specs.Layout.{AreRows, source_members}
use Rattle.cf_effect.specs.Reply.{answered, closing, intending, replied, replying}
use Rattle.cf_effect.specs.Words.{has_token, is_create, is_update, pending_of}
use Rattle.cf_effect.specs.World.{StackState}
use Rattle.cf_effect.proofs.Noted.{members_stay}
use Rattle.cf_effect.proofs.Sought.{findings_stay, found_more, kept_same}

-- findings that say the same
pub kept_first : (s : StackState) (f : Findings) → AreFindings s f → f.ahead ≡ None → AreKept s f
kept_first s f a none = record {
  findings = a;
  ahead = subst (λ (o : Option Ahead). IfSome o (IsAhead s f.made.items f.found.items)) (sym none) tt;
}

pub kept_looked : (old new : Findings) → new.made ≡ old.made → new.held ≡ old.held → new.found ≡ old.found → new.ahead ≡ old.ahead
    → (s : StackState) → AreKept s old → AreKept s new
kept_looked old new made held found ahead s k = record {
  findings = kept_same s old new k.findings made held found;
  ahead =
      subst (λ (a : Option Ahead). IfSome a (IsAhead s new.made.items new.found.items)) (sym ahead)
      (subst (λ (v : Vec (Option ℕ)). IfSome old.ahead (IsAhead s v.items new.found.items)) (sym made)
      (subst (λ (v : Vec (Option Found)). IfSome old.ahead (IsAhead s old.made.items v.items)) (sym found) k.ahead));
}

pub kept_ahead : (s : StackState) (old new : Findings) (ahead : Option Ahead) → AreKept s old → IfSome ahead (IsAhead s old.made.items old.found.items)
    → new ≡ record old { ahead = ahead } → AreKept s new
kept_ahead s old new ahead k a is = subst (AreKept s) (sym is) (record { findings = kept_same s old (record old { ahead = ahead }) k.findings refl refl refl; ahead = a })

-- what an entry leaves of a creation that goes forward
pub rows_stay : (s t : StackState) (l : Layout) → t.going ≡ s.going → t.before ≡ s.before → AreRows (source_members s) l → AreRows (source_members t) l
rows_stay s t l going before a = subst (λ ms. AreRows ms l) (sym (members_stay s t going before)) a

nested_stay : (s t : StackState) → t.going ≡ s.going → t.before ≡ s.before → nestings_of t ≡ nestings_of s
nested_stay s t g b = rw (g, b) refl

pub ahead_stays : (s t : StackState) (f : Findings) → t.going ≡ s.going → t.before ≡ s.before → (GoesForth s → GoesForth t) → KeepsAhead s f → KeepsAhead t f
ahead_stays s t f going before forth k = by f.ahead k where
  by : (o : Option Ahead) → IfSome o (IsAhead s f.made.items f.found.items) → IfSome o (IsAhead t f.made.items f.found.items)
  by None a = tt
  by (Some x) a = record { forth = forth a.forth; rows = rows_stay s t x.layout going before a.rows; ready = a.ready }

-- a call that is a create goes out
no_update_more : (n : ℕ) (cs : List Call) (c : Call) → list_any (is_update_of n) cs ≡ false → is_update c.request ≡ false → list_any (is_update_of n) (cs ++ c ∷ []) ≡ false
no_update_more n cs c h u =
    list_any-append (is_update_of n) cs (c ∷ [])
    ∙ or_from (list_any (is_update_of n) cs) (list_any (is_update_of n) (c ∷ [])) h (ap (λ b. ((c.number == n) && b) || false) u ∙ none (c.number == n)) where
      none : (b : Bool) → ((b && false) || false) ≡ false
      none true = refl
      none false = refl

no_setback_more : (es : List Entry) (e : Entry) → list_any is_setback es ≡ false → is_setback e ≡ false → list_any is_setback (es ++ e ∷ []) ≡ false
no_setback_more es e h u =
    list_any-append is_setback es (e ∷ []) ∙ or_from (list_any is_setback es) (list_any is_setback (e ∷ [])) h (ap (λ b. b || false) u)

create_no_update : (r : Request) → is_create r ≡ true → is_update r ≡ false
create_no_update (request.Create k props) h = refl
create_no_update (request.Update id props) h = absurd (true≢false (sym h))
create_no_update (request.Delete id) h = refl

-- the parts of a stack on which a call went out
module _ (n : ℕ) (p : Pending) (s : StackState) where
  pub same_for : {A : Type 0} (part : StackState → A) → part (record s { tokens = s.tokens ++ p ∷ []; ledger = s.ledger ++ new_call n s.status p ∷ [] }) ≡ part s
      → part (intending n p s) ≡ part s
  same_for part e = by (list_any (has_token p.token) s.tokens) where
    by : (b : Bool) → part (cond b s (record s { tokens = s.tokens ++ p ∷ []; ledger = s.ledger ++ new_call n s.status p ∷ [] })) ≡ part s
    by true = refl
    by false = e

  forth_called : (e : Entry) (lines : List (List ℕ)) → is_create p.request ≡ true → is_setback e ≡ false → GoesForth s → GoesForth (called_heard n p e lines s)
  forth_called e lines c h g = record {
    creates = same_for (λ x. x.status) refl ∙ g.creates;
    held = same_for (λ x. x.held) refl ∙ g.held;
    updates = ap (λ k. list_any (is_update_of k) (intending n p s).ledger) (same_for (λ x. x.operation) refl) ∙ no_updates (list_any (has_token p.token) s.tokens);
    setbacks = no_setback_more s.entries e g.setbacks h;
    nested = nested_stay s (called_heard n p e lines s) (same_for (λ x. x.going) refl) (same_for (λ x. x.before) refl) ∙ g.nested;
  } where
    no_updates : (b : Bool) → list_any (is_update_of s.operation) (cond b s (record s { tokens = s.tokens ++ p ∷ []; ledger = s.ledger ++ new_call n s.status p ∷ [] })).ledger ≡ false
    no_updates true = g.updates
    no_updates false = no_update_more s.operation s.ledger (new_call n s.status p) g.updates (create_no_update p.request c)

  findings_called : (e : Entry) (lines : List (List ℕ)) (f : Findings) → AreFindings s f → AreFindings (called_heard n p e lines s) f
  findings_called e lines f a =
      findings_stay s (called_heard n p e lines s) f (same_for (λ x. x.made) refl) (same_for (λ x. x.held) refl) (same_for (λ x. x.before) refl) (same_for (λ x. x.going) refl) a

  kept_called : (e : Entry) (lines : List (List ℕ)) (f : Findings) → is_create p.request ≡ true → is_setback e ≡ false → AreKept s f → AreKept (called_heard n p e lines s) f
  kept_called e lines f c h k = record {
    findings = findings_called e lines f k.findings;
    ahead = ahead_stays s (called_heard n p e lines s) f (same_for (λ x. x.going) refl) (same_for (λ x. x.before) refl) (forth_called e lines c h) k.ahead;
  }

  kept_lost : (e : Entry) (lines : List (List ℕ)) (f g : Findings) → g.made ≡ f.made → g.held ≡ f.held → g.found ≡ f.found → g.ahead ≡ None → AreKept s f
      → AreKept (called_heard n p e lines s) g
  kept_lost e lines f g made held found none k = record {
    findings = findings_called e lines g (kept_same s f g k.findings made held found);
    ahead = subst (λ (a : Option Ahead). IfSome a (IsAhead (called_heard n p e lines s) g.made.items g.found.items)) (sym none) tt;
  }

pub called_kept : (p : Pending) (e : Entry) (f g : Findings) (stays : Bool) → stays ≡ (is_create p.request && not (is_setback e)) → g ≡ unless_kept stays f
    → FollowsCall p e (Some f) (Some g)
called_kept p e f g stays told is s n lines k = subst (AreKept (called_heard n p e lines s)) (sym is) (by stays (is_create p.request) (is_setback e) refl refl told) where
  by : (b c d : Bool) → is_create p.request ≡ c → is_setback e ≡ d → b ≡ (c && not d) → AreKept (called_heard n p e lines s) (unless_kept b f)
  by true true false c h t = kept_called n p s e lines f c h k
  by true true true c h t = absurd (true≢false t)
  by true false d c h t = absurd (true≢false t)
  by false x d c h t = kept_lost n p s e lines f (unless_kept false f) refl refl refl refl k

pub called_none : (p : Pending) (e : Entry) → FollowsCall p e None None
called_none p e s n lines k = tt

-- a create is complete
same_updates : (n token : ℕ) (answer : Reply) (cs : List Call) → list_any (is_update_of n) (where_call token (answered_call answer) cs) ≡ list_any (is_update_of n) cs
same_updates n token answer [] = refl
same_updates n token answer (c ∷ cs) = ap (λ b. b || list_any (is_update_of n) (where_call token (answered_call answer) cs)) (one (is_call token c) answer) ∙ ap (λ b. is_update_of n c || b) (same_updates n token answer cs)
  where
    one : (b : Bool) (answer : Reply) → is_update_of n (cond b (answered_call answer c) c) ≡ is_update_of n c
    one true (reply.Success id attrs) = refl
    one true (reply.Failed k) = refl
    one true reply.Doubt = refl
    one false answer = refl

module _ (s : StackState) (n token b e place : ℕ) (p : Pending) (open_there : pending_of token s ≡ Some p) (k : List ℕ) (props : List (List ℕ × Data))
    (id : List ℕ) (attrs : List (List ℕ × Data)) (asked : p.request ≡ request.Create k props) where
  abbrev outcome : Entry
  outcome = entry.Outcome n token (reply.Success id attrs) b e

  made_so : replying token (reply.Success id attrs) s ≡ closing token (reply.Success id attrs) (answered (is_restore token s) p.path (request.Create k props) (reply.Success id attrs) s)
  made_so =
      ap (λ o. replied token (reply.Success id attrs) o s) open_there
      ∙ ap (λ r. closing token (reply.Success id attrs) (answered (is_restore token s) p.path r (reply.Success id attrs) s)) asked

  forth_answered : GoesForth s → GoesForth (effect_at place outcome s).stack
  forth_answered g = record {
    creates = ap (λ (y : StackState). y.status) made_so ∙ g.creates;
    held = ap (λ (y : StackState). y.held) made_so ∙ g.held;
    updates =
        ap (λ (y : StackState). list_any (is_update_of y.operation) y.ledger) made_so
        ∙ same_updates s.operation token (reply.Success id attrs) s.ledger ∙ g.updates;
    setbacks =
        ap (λ (y : StackState). list_any is_setback (y.entries ++ outcome ∷ [])) made_so ∙ no_setback_more s.entries outcome g.setbacks refl;
    nested =
        nested_stay s (effect_at place outcome s).stack (ap (λ (y : StackState). y.going) made_so) (ap (λ (y : StackState). y.before) made_so)
        ∙ g.nested;
  }

  ahead_created : (f : Findings) → KeepsAhead s f → KeepsAhead (effect_at place outcome s).stack f
  ahead_created f was =
      ahead_stays s (effect_at place outcome s).stack f (ap (λ (y : StackState). y.going) made_so) (ap (λ (y : StackState). y.before) made_so)
      forth_answered was

pub ahead_answered : (s : StackState) (x : Entry) (f : Findings) (place : ℕ) → is_created_by x s ≡ true → KeepsAhead s f → KeepsAhead (effect_at place x s).stack f
ahead_answered s (entry.Outcome n token answer b e) f place h was = by (pending_of token s) refl h where
  created : (p : Pending) (r : Request) (a : Reply) → p.request ≡ r → pending_of token s ≡ Some p → completes_create r a ≡ true
      → KeepsAhead (effect_at place (entry.Outcome n token a b e) s).stack f
  created p (request.Create k props) (reply.Success id attrs) asked is t = ahead_created s n token b e place p is k props id attrs asked f was
  created p (request.Create k props) (reply.Failed c) asked is t = absurd (true≢false (sym t))
  created p (request.Create k props) reply.Doubt asked is t = absurd (true≢false (sym t))
  created p (request.Update id props) a asked is t = absurd (true≢false (sym t))
  created p (request.Delete id) a asked is t = absurd (true≢false (sym t))

  by : (o : Option Pending) → pending_of token s ≡ o → option_map_or (λ p. completes_create p.request answer) o false ≡ true
      → KeepsAhead (effect_at place (entry.Outcome n token answer b e) s).stack f
  by None is t = absurd (true≢false (sym t))
  by (Some p) is t = created p p.request answer refl is t
ahead_answered s x f place h was = absurd (true≢false (sym h))

-- what an entry leaves of findings
pub lost_found : (s : StackState) (old mid : Findings) (stays : Bool) → mid ≡ unless_kept stays old → AreKept s old → AreFindings s mid
lost_found s old mid stays is k = subst (AreFindings s) (sym is) (by stays) where
  by : (b : Bool) → AreFindings s (unless_kept b old)
  by true = k.findings
  by false = kept_same s old (record old { ahead = None }) k.findings refl refl refl

pub entry_followed : (s : StackState) (x : Entry) (old mid new : Findings) (stays : Bool) → stays ≡ is_created_by x s → mid ≡ unless_kept stays old → AreKept s old
    → ((place : ℕ) → AreFindings (effect_at place x s).stack new) → StaysAfter x s mid new → (place : ℕ) → AreKept (effect_at place x s).stack new
entry_followed s x old mid new stays told is k found after place =
    by stays (sym told) (subst (λ m. StaysIf (is_created_by x s) s m new) is after)
  where
    by : (b : Bool) → is_created_by x s ≡ b → StaysIf (is_created_by x s) s (unless_kept b old) new → AreKept (effect_at place x s).stack new
    by true t so = record {
      findings = found place;
      ahead = ahead_answered s x new place t (subst (λ c. StaysIf c s old new) t so k.ahead);
    }
    by false t so =
        kept_first (effect_at place x s).stack new (found place) (subst (λ c. StaysIf c s (record old { ahead = None }) new) t so refl)

-- a path is made
pub made_kept : (s : StackState) (path : List ℕ) (at place : ℕ) (old new : Findings) (made : List (Option ℕ)) (found : List (Option Found)) → IsPlaceOf s path at
    → Forgets s path old.found.items new.found.items → new.made.items ≡ with_place at place old.made.items → made ≡ new.made.items → found ≡ new.found.items
    → FollowsMade made found at old.ahead new.ahead → KeepsAhead s old → KeepsAhead s new
made_kept s path at place old new made found is gone put made_is found_is follows was =
    subst (λ fs. IfSome new.ahead (IsAhead s new.made.items fs)) found_is
    (subst (λ ms. IfSome new.ahead (IsAhead s ms found)) made_is
    (follows s path place old.made.items old.found.items was is (made_is ∙ put)
    (subst (Forgets s path old.found.items) (sym found_is) gone)))

-- an answer completes a create, or not
pub stays_created : (s : StackState) (old new : Findings) (r : Request) (a : Reply) (k : List ℕ) (props : List (List ℕ × Data)) (id : List ℕ) (attrs : List (List ℕ × Data))
    → r ≡ request.Create k props → a ≡ reply.Success id attrs → (KeepsAhead s old → KeepsAhead s new) → StaysAhead r a s old new
stays_created s old new r a k props id attrs asked told h =
    subst (λ q. StaysAhead q a s old new) (sym asked) (subst (λ b. StaysAhead (request.Create k props) b s old new) (sym told) h)

pub stays_other : (s : StackState) (old new : Findings) (r : Request) (a : Reply) → completes_create r a ≡ false → new.ahead ≡ old.ahead → StaysAhead r a s old new
stays_other s old new r a other same = subst (λ b. StaysIf b s old new) (sym other) (λ none. same ∙ none)

pub stays_after : (s : StackState) (old new : Findings) (x : Entry) (p : Pending) (n token : ℕ) (answer : Reply) (b e : ℕ) → x ≡ entry.Outcome n token answer b e
    → pending_of token s ≡ Some p → StaysAhead p.request answer s old new → StaysAfter x s old new
stays_after s old new x p n token answer b e is open_there h =
    subst (λ y. StaysAfter y s old new) (sym is)
    (subst (λ (o : Option Pending). StaysIf (option_map_or (λ q. completes_create q.request answer) o false) s old new) (sym open_there) h)

-- something is found
pub found_kept : (s : StackState) (old mid : Findings) (at : ℕ) (e : Found) (made : List (Option ℕ)) (found : List (Option Found)) (ahead : Option Ahead) → AreKept s old
    → mid.made ≡ old.made → mid.held ≡ old.held → mid.found.items ≡ set old.found.items at (Some e) → mid.ahead ≡ old.ahead
    → ((m : Member) → slice_get (source_members s) at ≡ Some m → IsFound s m.path e) → made ≡ mid.made.items → found ≡ mid.found.items
    → FollowsFound made found at mid.ahead ahead → AreKept s (record mid { ahead = ahead })
found_kept s old mid at e made found ahead k same held put kept is made_is found_is follows = record {
  findings = kept_same s mid (record mid { ahead = ahead }) (found_more s old mid at e k.findings same held put is) refl refl refl;
  ahead =
      subst (λ fs. IfSome ahead (IsAhead s mid.made.items fs)) found_is
      (subst (λ ms. IfSome ahead (IsAhead s ms found)) made_is (follows s old.found.items (Some e) was (found_is ∙ put)));
} where
  was : IfSome mid.ahead (IsAhead s made old.found.items)
  was =
      subst (λ ms. IfSome mid.ahead (IsAhead s ms old.found.items)) (sym (made_is ∙ ap (λ (v : Vec (Option ℕ)). v.items) same))
      (subst (λ (a : Option Ahead). IfSome a (IsAhead s old.made.items old.found.items)) (sym kept) k.ahead)

pub findings_kept : (s : StackState) (o : Option Findings) → IfSome o (AreKept s) → IfSome o (AreFindings s)
findings_kept s None k = tt
findings_kept s (Some f) k = k.findings
