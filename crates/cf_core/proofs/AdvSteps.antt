-- The forward phase begins, and goes on behind each entry that is written.
use Rattle.std.proofs.Common.{arith, ◌≡◌, ℕ, List, ◌++◌, Option, Some, None, refl, sym, ap, subst, ◌∙◌, map, option_map, ◌==◌, Bool, true, false, ◌&&◌, not, true≢false, ◌∷◌, inl, inr, ◌+◌, ◌||◌, IsTrue, is_some, filter, [], ◌⊎◌}
use Rattle.cf_core.proofs.Words.{AdvancingBegins, AdvancingGoesOn, AgreeAt, AreAhead, AreSameThings, AreSingle, BeginsBy, Begun, Call, CourseIsFree, Data, Entry, Fits, Forward, StaysForward, HasBegunForward, Held, HeldLeft, In, IntendsForward, IsAccepted, IsAdvancing, IsAsSaid, AsksForNow, IsDone, IsFreeToBegin, IsFurther, IsMove, IsMoved, IsOpenAhead, IsOwn, IsReady, IsRowOf, IsSameThing, IsStill, IsTo, IsWritten, Known, Later, LeftAt, MayFollowIn, MayIntend, MayKeep, Member, Pending, Phase, Reply, Request, RestIsSeen, Schema, Seen, Source, StackState, Status, Wanted, Why, World, anew, answered, answered_call, begins_from, by_create, by_update, bytes_eq, change_first, closed, closing, cond, creates_from, current_at, effect_at, evaluated_at, finding, first_so, goes_forward, has_physical, has_token, heard, is_call, is_current_at, is_in_progress, is_made, is_open_call, is_restore, is_right, is_success, is_update, is_updated, list_any, made_of, member_at, moved, needs_at, new_call, on_stack, option_map_or, pending_of, plan_by, plan_in, props_at, replied, resources_of, reviewed, seen_in, seen_now, settled_by, shape_of, source_for, status_made, still_open, succeeded, terms_at, terms_of, turned, unmoved, updates, updates_from, updating, value_at, wanted_at, wanted_from, wanted_in, wanted_paths, was_updated, was_updated_at, where_call, where_physical, without_token}
use Rattle.cf_core.proofs.Lemmas.{and_no, any_filtered, any_mapped, any_no_more, any_of, by_paths, bytes_eq-Decides, bytes_same, cases_Bool, each_map, eqb-true, false_from, find-append, found_changed, found_else, found_in_more, found_no_more, found_one, found_still, in_any, in_filter, in_front, in_more, kept_self, needs_suffice, no_and, none_if, none_kept, not_so, one_id, one_number, or_right, same_bytes, same_in, shown, shown_at, some_is, some_of, terms_by, wanted_terms}
use Rattle.cf_core.proofs.{Rows.answered_same, Rows.answered_row, Rows.answered_row_same, Statuses.ended_status, Statuses.turned_status, Moving.written_is_to, Moving.written_moves, BackSteps.is_of, BackSteps.same_things}
use Rattle.std.specs.Option.{option_and_then}
use Rattle.cf_desired.specs.declared.shape.Terms.{Terms}
use Rattle.cf_plan.proofs.ChangedLists.{in_changed}
use Rattle.cf_core.specs.Ahead.{HasHidden}
use Rattle.cf_core.specs.Advancing as things
use Rattle.cf_core.specs.Written as to
use Rattle.cf_core.specs.Moving as move

-- What the template says of a path that is ready stays so, as long as what is done is left as it was: it rests on what is seen of the
-- paths that it needs.

abbrev needs_in : Option Terms → List (List ℕ)
needs_in None = []
needs_in (Some t) = t.needs

needs_of : (o : Option Wanted) → (terms_of o).needs ≡ needs_in (option_map terms_by o)
needs_of o = grind arith

-- over one shape a plan says the same of a path where the same is seen of what the path needs
says_same :
    (source : Source) (before a b : Seen) (path : List ℕ) → ((m : Member) → member_at (shape_of source before) path ≡ Some m → AgreeAt m.needs a b)
    → wanted_at path (plan_by source (shape_of source before) b) ≡ wanted_at path (plan_by source (shape_of source before) a)
says_same source before a b path agree =
    (by_paths source (shape_of source before) b).wanted path ∙ by (member_at (shape_of source before) path) refl
    ∙ sym ((by_paths source (shape_of source before) a).wanted path)
  where
    by :
        (o : Option Member) → member_at (shape_of source before) path ≡ o
        → wanted_from o (props_at source (shape_of source before) b path) ≡ wanted_from o (props_at source (shape_of source before) a path)
    by o e = grind (arith, needs_suffice)

-- what is seen of a path is told by what is made and held at it
pub seen_still : (s t : StackState) (path : List ℕ) → IsStill s t path → value_at path (seen_now t) ≡ value_at path (seen_now s)
seen_still s t path h = grind (arith, shown_at, shown, find-append)

-- The same source over what was held before: paths and needs are the same.
module _ (s t : StackState) (source : Source) (going : s.going ≡ Some source) (goes : t.going ≡ Some source) (before : t.before ≡ s.before) where
  pub same_paths : wanted_paths t ≡ wanted_paths s
  same_paths = λ i. map (λ w. w.path) (plan_in ((goes ∙ sym going) i) (seen_in (before i)) (seen_in (before i))).wanted

  pub same_needs : (path : List ℕ) → needs_at path t ≡ needs_at path s
  same_needs path = λ i. (terms_of (wanted_in ((goes ∙ sym going) i) (seen_in (before i)) path)).needs

  -- what a path needs is what its shape says
  member_needs : (path : List ℕ) (m : Member) → member_at (shape_of source (seen_in s.before)) path ≡ Some m → needs_at path s ≡ m.needs
  member_needs path m e = grind (arith, needs_of, wanted_terms)

  -- what the template says of a path rests on what is seen of the paths that it needs
  pub said_still : (path : List ℕ) → ((q : List ℕ) → In q (needs_at path s) → IsStill s t q) → evaluated_at path t ≡ evaluated_at path s
  said_still path still =
      let agree : (m : Member) → member_at (shape_of source (seen_in s.before)) path ≡ Some m → AgreeAt m.needs (seen_now s) (seen_now t) =
      λ m e q among.
      let found = in_any (λ n. bytes_eq q n) m.needs among in
      let same : q ≡ found.0 = (bytes_eq-Decides q found.0).0 found.2 in
      let of_path : In q (needs_at path s) = subst (λ ns. In q ns) (sym (member_needs path m e)) (subst (λ n. In n m.needs) (sym same) found.1) in
      let shown_same = seen_still s t q (still q of_path) in
      (ap (option_and_then (λ v. v.physical)) shown_same, ap (option_and_then (λ v. v.attrs)) shown_same) in
      (λ i. option_map_or (λ w. finding w.kind w.props) (wanted_at path (plan_in (goes i) (seen_in (before i)) (seen_now t))) Later)
      ∙ ap (λ o. option_map_or (λ w. finding w.kind w.props) o Later) (says_same source (seen_in s.before) (seen_now s) (seen_now t) path agree)
      ∙ ap (λ g. option_map_or (λ w. finding w.kind w.props) (wanted_at path (plan_in g (seen_in s.before) (seen_now s))) Later) (sym going)

-- Each path that was done is as it was.
module _ (s t : StackState) (source : Source) (h : IsFurther s t source) where
  -- so the template says the same of what is ready
  pub ready_said : (path : List ℕ) → IsReady s path → evaluated_at path t ≡ evaluated_at path s
  ready_said path ready = said_still s t source h.going h.goes h.before path (λ q i. h.done q (ready.1 q i))

  -- what was done is done
  pub done_stays : (path : List ℕ) → IsDone s path → IsDone t path
  done_stays path (is_made r e) = is_made r ((h.done path (is_made r e)).made ∙ e)
  done_stays path (is_updated u) = is_updated ((h.done path (is_updated u)).updated ∙ u)
  done_stays path (is_right r i needs e sure said) =
      is_right r (subst (λ ps. In path ps) (sym (same_paths s t source h.going h.goes h.before)) i)
      (λ q j. done_stays q (needs q (subst (λ ns. In q ns) (same_needs s t source h.going h.goes h.before path) j)))
      ((h.done path (is_right r i needs e sure said)).held ∙ e) sure (ready_said path (i, needs) ∙ said)

  -- and what was ready is ready
  pub ready_stays : (path : List ℕ) → IsReady s path → IsReady t path
  ready_stays path ready = grind (arith, same_paths, done_stays, same_needs)

  -- a ready path that is left as it was is done only where it was
  pub not_done_stays : (path : List ℕ) → IsReady s path → IsStill s t path → IsDone t path → IsDone s path
  not_done_stays path ready still (is_made r e) = is_made r (sym still.made ∙ e)
  not_done_stays path ready still (is_updated u) = is_updated (sym still.updated ∙ u)
  not_done_stays path ready still (is_right r i needs e sure said) =
      is_right r ready.0 ready.1 (sym still.held ∙ e) sure (sym (ready_said path ready) ∙ said)

-- A stack that goes forward and moves so goes forward.

asked_stays : (s t : StackState) (source : Source) → IsFurther s t source → (path : List ℕ) (r : Request) → IsReady s path → IsStill s t path → AsksForNow s path r → AsksForNow t path r
asked_stays s t source f path (Request.Create kind props) ready still a = ready_said s t source f path ready ∙ a
asked_stays s t source f path (Request.Update physical props) ready still (h, e, id, said) = (h, still.held ∙ e, id, ready_said s t source f path ready ∙ said)
asked_stays s t source f path (Request.Delete physical) ready still a = a

-- what is open as a stack that goes forward has it
pub open_of : (schemas : List Schema) (s : StackState) (source : Source) → IsAdvancing schemas s source → (p : Pending) → In p s.tokens → IsOpenAhead schemas s source p
open_of schemas s source h p i = record { ready = h.ready p i; not_done = h.not_done p i; asked = h.asked p i; hidden = h.hidden p i }

-- The entry leaves the operation, and each path that is done; and its phase goes on where calls are hidden and the rest is seen.
pub record Goes (schemas : List Schema) (x : World) (out name : List ℕ) (s : StackState) (source : Source) (t : StackState) : Type 0 where
  pub going : t.going ≡ s.going
  pub before : t.before ≡ s.before
  pub left : (q : List ℕ) → LeftAt s t q
  pub goes : HasHidden schemas x out name s t source → StaysForward schemas s t source

module _ (schemas : List Schema) (s : StackState) (source : Source) (h : IsAdvancing schemas s source) where
  pub further_of : (t : StackState) → t.going ≡ s.going → t.before ≡ s.before → ((q : List ℕ) → LeftAt s t q) → IsFurther s t source
  further_of t going before left = grind arith

  module _ (x : World) (out name : List ℕ) (hs ms : List Held) (ts : List Pending) (cs : List Call) (es : List Entry)
      (lines : List (List ℕ)) where
    abbrev t : StackState
    t = moved s hs ms ts cs es lines

    pub goes_on : ((q : List ℕ) → LeftAt s t q) → (HasHidden schemas x out name s t source → IsMoved schemas s t source)
        → Goes schemas x out name s source t
    goes_on left moves =
        record { going = refl; before = refl; left = left; goes = λ hid. record { status = refl; before = refl; advancing = advances (moves hid) hid.rest } } where
          further : IsFurther s t source
          further = further_of t refl refl left

          said_stays : (r : Held) → IsAsSaid s r → IsAsSaid t r
          said_stays r a =
              record { sure = a.sure; said = ready_said s t source further r.path a.ready ∙ a.said; ready = ready_stays s t source further r.path a.ready }

          advances : IsMoved schemas s t source → RestIsSeen schemas t source → IsAdvancing schemas t source
          advances m rest = record {
            going = h.going;
            no_flaw = h.no_flaw;
            no_clash = h.no_clash;
            rest = rest;
            single_before = h.single_before;
            held = m.held;
            unchanged = m.unchanged;
            single_made = m.single_made;
            made = λ r i. said_stays r (m.made r i);
            updated = λ path u. let (g, e, a) = m.updated path u in (g, e, said_stays g a);
            ready = λ p i. ready_stays s t source further p.path (m.open_ p i).ready;
            not_done = λ p i d. (m.open_ p i).not_done (not_done_stays s t source further p.path (m.open_ p i).ready (grind arith) d);
            asked = λ p i. asked_stays s t source further p.path p.request (m.open_ p i).ready (grind arith) (m.open_ p i).asked;
            hidden = λ p i. grind arith;
            calls = m.calls.calls;
            at_path = m.calls.at_path;
          }

-- What the ledger tells of updates as an open call is answered.

-- what is so of the two statuses of a forward phase
pub only_forward : (P : Status → Type 0) → P Status.CreateInProgress → P Status.UpdateInProgress → (z : Status) → goes_forward z ≡ true → P z
only_forward P a b z e = grind arith

-- a good update in the operation of this number at a path; a success of an update of a resource that went out as it went forward
abbrev is_updated_at : ℕ → List ℕ → Call → Bool
is_updated_at n q c = (c.number == n) && (bytes_eq q c.path && (is_update c.request && succeeded c))

abbrev is_good_update : List ℕ → Call → Bool
is_good_update id c = goes_forward c.status && (updates id c.request && succeeded c)

-- paths that were updated are told by all rows alike
pub updated_all : (q : List ℕ) (s : StackState) → was_updated_at q s ≡ list_any (is_updated_at s.operation q) s.ledger
updated_all q s = any_filtered (λ c. c.number == s.operation) (λ c. bytes_eq q c.path && (is_update c.request && succeeded c)) s.ledger

module _ (x : World) (s : StackState) (fits : Fits x s) (token : ℕ) (p : Pending) (i : In p s.tokens) (named : has_token token p ≡ true) where
  row_of : IsRowOf p (fits.rows p i).0
  row_of = (fits.rows p i).2

  row_in : In (fits.rows p i).0 s.ledger × (is_call p.token (fits.rows p i).0 ≡ true)
  row_in = found_one (is_call p.token) s.ledger (fits.rows p i).0 (fits.rows p i).1

  -- no other row is of the token
  pub row_only : (c : Call) → In c s.ledger → is_call token c ≡ true → c ≡ (fits.rows p i).0
  row_only c j e = grind (arith, one_number, row_in, eqb-true)

  open_row : (c : Call) → In c s.ledger → is_call token c ≡ true → IsRowOf p c
  open_row c j e = subst (IsRowOf p) (sym (row_only c j e)) row_of

  -- another open call is at another path
  pub elsewhere : (q : Pending) → In q (without_token token s.tokens) → In q s.tokens × (q.path ≡ p.path → ⊥)
  elsewhere q j =
      let k = in_filter (λ y. not (has_token token y)) s.tokens q j in
      (k.0, λ e. true≢false (sym (ap (has_token token) (fits.paths q p k.0 i e) ∙ named) ∙ not_so _ k.1))

  pub was_open : (a : Reply) (q : Pending) → In q (still_open token a s.tokens) → In q s.tokens × ((q.path ≡ p.path → ⊥) ⊎ (a ≡ Reply.Doubt))
  was_open a q j = grind (arith, elsewhere)

  -- a call that went out as its stack went forward gives nothing back
  pub no_restore : AreAhead s s.ledger → is_restore token s ≡ false
  no_restore h = grind (arith, only_forward, row_in, eqb-true)

  module _ (a : Reply) where
    pub rows_ahead : AreAhead s s.ledger → AreAhead s (where_call token (answered_call a) s.ledger)
    rows_ahead h = record {
      calls =
          each_map (λ d. (d.number ≡ s.operation) × IsTrue (goes_forward d.status)) (answered_row token a) s.ledger
          (λ c j. ((answered_row_same token a c).number ∙ (h.calls c j).0, ap goes_forward (answered_row_same token a c).status ∙ (h.calls c j).1));
      at_path = λ d b j k u.
          each_map (λ e. IsTrue (updates b.physical e.request) → e.path ≡ b.path) (answered_row token a) s.ledger
          (λ c l v. (answered_row_same token a c).path ∙ h.at_path c b l k (sym (ap (updates b.physical) (answered_row_same token a c).request) ∙ v)) d j u;
    }

    -- what is so of a row as it is so of the row that is answered
    pub rows_same : (test : Call → Bool) → ((c : Call) → In c s.ledger → is_call token c ≡ true → IsRowOf p c → test (answered_call a c) ≡ test c)
        → list_any test (where_call token (answered_call a) s.ledger) ≡ list_any test s.ledger
    rows_same test same = grind (arith, any_mapped, same_in, open_row)

    -- a path is updated as before, but for that of the call where an update succeeds
    updated_same : (q : List ℕ) → (bytes_eq q p.path && (is_update p.request && is_success (settled_by a))) ≡ false
        → list_any (is_updated_at s.operation q) (where_call token (answered_call a) s.ledger) ≡ list_any (is_updated_at s.operation q) s.ledger
    updated_same q k = grind (arith, rows_same, answered_same, and_no, open_row)

    -- what was updated stays so
    pub updated_more : (id : List ℕ) → list_any (is_good_update id) (where_call token (answered_call a) s.ledger) ≡ false → was_updated id s ≡ false
    updated_more id none = false_from (was_updated id s) (λ yes.
        let one = some_of (is_good_update id) s.ledger yes in
        let passes : is_good_update id (answered_row token a one.one) ≡ true = by one.one one.of_list one.passes (is_call token one.one) refl in
        true≢false (sym (any_of (λ c. is_good_update id (answered_row token a c)) s.ledger one.one one.of_list passes)
        ∙ (sym (any_mapped (answered_row token a) (is_good_update id) s.ledger) ∙ none)))
      where
        by : (c : Call) → In c s.ledger → is_good_update id c ≡ true → (b : Bool) → is_call token c ≡ b → is_good_update id (cond b (answered_call a c) c) ≡ true
        by c j u b e = grind (arith, and_no, open_row)

  -- and what is updated now is
  pub updated_now :
      (id physical : List ℕ) (attrs : List (List ℕ × Data)) → AreAhead s s.ledger → updates id p.request ≡ true
      → list_any (is_good_update id) (where_call token (answered_call (Reply.Success physical attrs)) s.ledger) ≡ true
  updated_now id physical attrs h u = grind (arith, any_mapped, any_of, row_in, row_of, eqb-true)

-- A stack that goes forward does so behind the answer to an open call.

-- what has one id is one, of all resources of a stack
pub one_held : (x : World) (s : StackState) → Fits x s → (g h : Held) → In g s.held → In h s.held → g.physical ≡ h.physical → g ≡ h
one_held x s fits g h i j e =
    one_id (λ r. r.physical) (resources_of s) fits.ids g h (in_front g s.held s.made i) (in_front h s.held s.made j) e

-- what is found at a path is at it
found_at : (path : List ℕ) (hs : List Held) (h : Held) → current_at path hs ≡ Some h → h.path ≡ path
found_at path hs h e = sym (bytes_same path h.path (first_so (bytes_eq path h.path) _ (found_one (is_current_at path) hs h e).1))

-- two paths are told apart
pub apart : (q path : List ℕ) → (q ≡ path → ⊥) → bytes_eq q path ≡ false
apart q path n = false_from (bytes_eq q path) (λ e. n ((bytes_eq-Decides q path).0 e))

same_changed : (test : Held → Bool) (change : Held → Held) → ((b h : Held) → IsSameThing b h → IsSameThing b (change h)) → (bs hs : List Held)
    → AreSameThings bs hs → AreSameThings bs (change_first test change hs)
same_changed test change keeps _ _ things.none = things.none
same_changed test change keeps _ _ (things.more {b} {h} {bs} {hs} one rest) = by (test h) (same_changed test change keeps bs hs rest) where
  by : (c : Bool) → AreSameThings bs (change_first test change hs) → AreSameThings (b ∷ bs) (cond c (change h ∷ hs) (h ∷ change_first test change hs))
  by true ih = things.more (keeps b h one) rest
  by false ih = things.more one ih

module _ (schemas : List Schema) (x : World) (out name : List ℕ) (s : StackState) (source : Source) (h : IsAdvancing schemas s source) (fits : Fits x s) where
  abbrev On : StackState → Type 0
  On t = Goes schemas x out name s source t

  abbrev ahead : AreAhead s s.ledger
  ahead = record { calls = h.calls; at_path = h.at_path }

  -- other open calls and other rows, where no path is updated that was not
  module _ (ts : List Pending) (cs : List Call) (es : List Entry) (lines : List (List ℕ)) where
    still_goes :
        (HasHidden schemas x out name s (moved s s.held s.made ts cs es lines) source → (p : Pending) → In p ts → IsOpenAhead schemas s source p)
        → ((q : List ℕ) → was_updated_at q (moved s s.held s.made ts cs es lines) ≡ was_updated_at q s)
        → ((id : List ℕ) → was_updated id (moved s s.held s.made ts cs es lines) ≡ false → was_updated id s ≡ false) → AreAhead s cs
        → On (moved s s.held s.made ts cs es lines)
    still_goes open_ same more rows = goes_on schemas s source h x out name s.held s.made ts cs es lines left (λ hid. record {
      left = left;
      open_ = open_ hid;
      held = h.held;
      unchanged = λ b g i j e n. h.unchanged b g i j e (more b.physical n);
      single_made = h.single_made;
      made = h.made;
      updated = λ q u. h.updated q (sym (same q) ∙ u);
      calls = rows;
    }) where
      left : (q : List ℕ) → LeftAt s (moved s s.held s.made ts cs es lines) q
      left q = unmoved (record { made = refl; held = refl; updated = same q })

  module _ (token : ℕ) (p : Pending) (i : In p s.tokens) (named : has_token token p ≡ true) (es : List Entry) (lines : List (List ℕ)) where
    abbrev rows : Reply → List Call
    rows a = where_call token (answered_call a) s.ledger

    abbrev others : List Pending
    others = without_token token s.tokens

    -- a path is updated as before, but for that of the call where an update succeeds
    same : (a : Reply) (hs ms : List Held) (ts : List Pending) (q : List ℕ) → (bytes_eq q p.path && (is_update p.request && is_success (settled_by a))) ≡ false
        → was_updated_at q (moved s hs ms ts (rows a) es lines) ≡ was_updated_at q s
    same a hs ms ts q none =
        updated_all q (moved s hs ms ts (rows a) es lines) ∙ updated_same x s fits token p i named a q none ∙ sym (updated_all q s)

    -- each path is as it was, but for that of the call
    left_but : (t : StackState) → t.tokens ≡ others → HeldLeft s t p p.path → ((q : List ℕ) → bytes_eq q p.path ≡ false → IsStill s t q) → (q : List ℕ) → LeftAt s t q
    left_but t tokens held as_it_was q = elim (cases_Bool (bytes_eq q p.path)) [
      | inl e ↦
          let at = bytes_same q p.path e in
          closed p i (sym at) (λ k j f. (elsewhere x s fits token p i named k (subst (In k) tokens j)).1 (f ∙ at)) (subst (HeldLeft s t p) (sym at) held)
      | inr e ↦ unmoved (as_it_was q e)
    ]

    -- an answer that neither makes nor updates
    quiet : (a : Reply) → (is_update p.request && is_success (settled_by a)) ≡ false
        → On (moved s s.held s.made (still_open token a s.tokens) (rows a) es lines)
    quiet a none =
        still_goes (still_open token a s.tokens) (rows a) es lines (λ hid q j. open_of schemas s source h q (was_open x s fits token p i named a q j).0)
        (λ q. same a s.held s.made (still_open token a s.tokens) q (and_no (bytes_eq q p.path) _ none)) (updated_more x s fits token p i named a)
        (rows_ahead x s fits token p i named a ahead)

    -- a create succeeds
    makes : (physical : List ℕ) (attrs : List (List ℕ × Data)) (m : Held) → m.path ≡ p.path → m.superseded ≡ false
        → IsAsSaid s m → is_update p.request ≡ false → On (moved s s.held (s.made ++ m ∷ []) others (rows (Reply.Success physical attrs)) es lines)
    makes physical attrs m at current said none =
        let a : Reply = Reply.Success physical attrs in
        let ms : List Held = s.made ++ m ∷ [] in
        let passes : (q : List ℕ) → is_current_at q m ≡ bytes_eq q p.path = λ q. (λ n. bytes_eq q (at n) && not (current n)) ∙ with_true (bytes_eq q p.path) in
        let updated : (q : List ℕ) → was_updated_at q (moved s s.held ms others (rows a) es lines) ≡ was_updated_at q s =
        λ q. same a s.held ms others q (and_no (bytes_eq q p.path) _ (no_and (is_update p.request) _ none)) in
        let left = left_but (moved s s.held ms others (rows a) es lines) refl (by_create none refl)
        (λ q n. record { made = found_no_more (is_current_at q) s.made m (passes q ∙ n); held = refl; updated = updated q }) in
        goes_on schemas s source h x out name s.held ms others (rows a) es lines left (λ hid. record {
          left = left;
          open_ = λ q j. open_of schemas s source h q (elsewhere x s fits token p i named q j).0;
          held = h.held;
          unchanged = λ b g j l e n. h.unchanged b g j l e (updated_more x s fits token p i named a b.physical n);
          single_made =
              in_more (λ r. current_at r.path ms ≡ Some r) m s.made (λ r j. found_still (is_current_at r.path) s.made (m ∷ []) r (h.single_made r j))
              (found_in_more (is_current_at m.path) s.made m (passes m.path ∙ (bytes_eq-Decides m.path p.path).1 at)
              (none_if (current_at m.path s.made) (λ r e. h.not_done p i (subst (IsDone s) at (is_made r e)))));
          made = in_more (IsAsSaid s) m s.made h.made said;
          updated = λ q u. h.updated q (sym (updated q) ∙ u);
          calls = rows_ahead x s fits token p i named a ahead;
        })
      where
        with_true : (b : Bool) → (b && true) ≡ b
        with_true b = grind arith

    -- an update succeeds
    module _ (id : List ℕ) (props : List (List ℕ × Data)) (physical : List ℕ) (attrs : List (List ℕ × Data)) (of_call : p.request ≡ Request.Update id props)
        (g : Held) (at : current_at p.path s.held ≡ Some g) (named_so : g.physical ≡ id) (said : evaluated_at p.path s ≡ Known g.kind props) where
      abbrev changed : List Held
      changed = where_physical id (updating props attrs) s.held

      abbrev updated_to : StackState
      updated_to = moved s changed s.made others (rows (Reply.Success physical attrs)) es lines

      is_held : has_physical id g ≡ true
      is_held = (bytes_eq-Decides id g.physical).1 (sym named_so)

      in_held : In g s.held
      in_held = (found_one (is_current_at p.path) s.held g at).0

      only : (r : Held) → In r s.held → has_physical id r ≡ true → r ≡ g
      only r j e = one_held x s fits r g j in_held (sym (bytes_same id r.physical e) ∙ sym named_so)

      now : current_at p.path changed ≡ Some (updating props attrs g)
      now = found_changed (has_physical id) (updating props attrs) (is_current_at p.path) (λ a. refl) g s.held is_held only at

      as_it_was : (q : List ℕ) → bytes_eq q p.path ≡ false → IsStill s updated_to q
      as_it_was q n = record {
        made = refl;
        held =
            found_else (has_physical id) (updating props attrs) (is_current_at q) (λ a. refl) s.held
            (λ r j e. no_and (bytes_eq q r.path) _ (ap (bytes_eq q) (ap (λ o. o.path) (only r j e) ∙ found_at p.path s.held g at) ∙ n));
        updated = same (Reply.Success physical attrs) changed s.made others q (no_and (bytes_eq q p.path) _ n);
      }

      is_said : IsAsSaid s (updating props attrs g)
      is_said = record {
        sure = refl;
        said = ap (λ q. evaluated_at q s) (found_at p.path s.held g at) ∙ said;
        ready = subst (IsReady s) (sym (found_at p.path s.held g at)) (h.ready p i);
      }

      to_updated : (q : List ℕ) → IsTrue (was_updated_at q updated_to) → (r : Held) × (current_at q changed ≡ Some r) × IsAsSaid s r
      to_updated q u = elim (cases_Bool (bytes_eq q p.path)) [
        | inl e ↦ (updating props attrs g, ap (λ o. current_at o changed) (bytes_same q p.path e) ∙ now, is_said)
        | inr e ↦ let k = as_it_was q e in let (r, f, a) = h.updated q (sym k.updated ∙ u) in (r, k.held ∙ f, a)
      ]

      -- the resource counts as updated
      counts : (b r : Held) → r.physical ≡ b.physical → ((o : Held) × (has_physical id o ≡ true) × (r ≡ updating props attrs o)) → was_updated b.physical updated_to ≡ false → ⊥
      counts b r e (o, t, q) n =
          let is_id : b.physical ≡ id = sym e ∙ ap (λ v. v.physical) q ∙ sym (bytes_same id o.physical t) in
          true≢false (sym (updated_now x s fits token p i named id physical attrs ahead (ap (updates id) of_call ∙ same_bytes id))
          ∙ ap (λ v. was_updated v updated_to) (sym is_id) ∙ n)

      updates_so : On updated_to
      updates_so =
          let left = left_but updated_to refl (by_update g (updating props attrs g) (ap is_update of_call) refl at now refl) as_it_was in
          goes_on schemas s source h x out name changed s.made others (rows (Reply.Success physical attrs)) es lines left (λ hid. record {
            left = left;
            open_ = λ q j. open_of schemas s source h q (elsewhere x s fits token p i named q j).0;
            held =
                same_changed (has_physical id) (updating props attrs)
                (λ b r k. record { path = k.path; physical = k.physical; kind = k.kind; needs = k.needs; deletion = k.deletion; replace = k.replace; superseded = k.superseded })
                s.before s.held h.held;
            unchanged = λ b r j l e n. elim (in_changed (has_physical id) (updating props attrs) s.held r l) [
              | inl k ↦ h.unchanged b r j k e (updated_more x s fits token p i named (Reply.Success physical attrs) b.physical n)
              | inr k ↦ absurd (counts b r e k n)
            ];
            single_made = h.single_made;
            made = h.made;
            updated = to_updated;
            calls = rows_ahead x s fits token p i named (Reply.Success physical attrs) ahead;
          })

  -- The forward phase goes on behind each entry that is written: an answer, a call that goes out, an opening, and what is of another stack.

  -- Of each entry.
  module _ (place : ℕ) where
    -- an answer to an open call
    module _ (number token before after : ℕ) (p : Pending) (i : In p s.tokens) (named : has_token token p ≡ true) where
      abbrev heard_by : Reply → StackState → StackState
      heard_by a t = (heard place (Entry.Outcome number token a before after) s (on_stack (closing token a t))).stack

      by_held : (id : List ℕ) (props : List (List ℕ × Data)) (physical : List ℕ) (attrs : List (List ℕ × Data)) → p.request ≡ Request.Update id props
          → AsksForNow s p.path (Request.Update id props) → (b : Bool) → list_any (has_physical id) s.held ≡ b
          → On (heard_by (Reply.Success physical attrs) (cond b (record s { held = where_physical id (updating props attrs) s.held })
          (record s { made = where_physical id (updating props attrs) s.made })))
      by_held id props physical attrs of_call (g, at, named_so, said) true e =
          updates_so token p i named _ _ id props physical attrs of_call g at named_so said
      by_held id props physical attrs of_call (g, at, named_so, said) false e =
          absurd (true≢false (sym (any_of (has_physical id) s.held g (found_one (is_current_at p.path) s.held g at).0 ((bytes_eq-Decides id g.physical).1 (sym named_so))) ∙ e))

      by_request : (r : Request) (restores : Bool) (a : Reply) → p.request ≡ r → restores ≡ false → AsksForNow s p.path r → On (heard_by a (answered restores p.path r a s))
      by_request (Request.Create k props) restores (Reply.Success physical attrs) e none asked =
          makes token p i named _ _ physical attrs
          (made_of (terms_at p.path s) (status_made (current_at p.path s.held)) p.path k props physical attrs) refl refl
          (record { sure = refl; said = asked; ready = h.ready p i }) (ap is_update e)
      by_request (Request.Update id props) restores (Reply.Success physical attrs) e none asked = by_held id props physical attrs e asked (list_any (has_physical id) s.held) refl
      by_request (Request.Update id props) true (Reply.Failed c) e none asked = absurd (true≢false none)
      by_request (Request.Delete id) restores a e none asked = absurd asked
      by_request r restores a e none asked = quiet token p i named _ _ a (and_no (is_update p.request) false refl)

    -- an answer, be its call open or not
    by_pending : (number token before after : ℕ) (a : Reply) (o : Option Pending) → pending_of token s ≡ o
        → On (heard place (Entry.Outcome number token a before after) s (on_stack (replied token a o s))).stack
    by_pending number token before after a None e =
        still_goes s.tokens s.ledger _ _ (λ hid. open_of schemas s source h) (λ q. refl) (λ id n. n) ahead
    by_pending number token before after a (Some p) e =
        let found = found_one (has_token token) s.tokens p e in
        by_request number token before after p found.0 found.1 p.request (is_restore token s) a refl
        (no_restore x s fits token p found.0 found.1 ahead) (h.asked p found.0)

    -- an opening
    opening_goes : (epoch : ℕ) (lanes : List (List ℕ × List ℕ)) → On (effect_at place (Entry.Opened epoch lanes) s).stack
    opening_goes epoch lanes =
        still_goes s.tokens (map anew s.ledger) _ _ (λ hid. open_of schemas s source h)
        (λ q. any_filtered _ _ (map anew s.ledger) ∙ any_mapped anew _ s.ledger ∙ sym (any_filtered _ _ s.ledger)) (λ id n. sym (any_mapped anew _ s.ledger) ∙ n)
        (record {
          calls = each_map (λ d. (d.number ≡ s.operation) × IsTrue (goes_forward d.status)) anew s.ledger h.calls;
          at_path = λ d b j k u. each_map (λ c. IsTrue (updates b.physical c.request) → c.path ≡ b.path) anew s.ledger (λ c l v. h.at_path c b l k v) d j u;
        })

    at_its_path : (path : List ℕ) (r : Request) → IntendsForward schemas s path r → (b : Held) → In b s.before → IsTrue (updates b.physical r) → path ≡ b.path
    at_its_path path (Request.Update id props) (g, at, same, said, wants, first) b i u =
        let (k, j, thing) = is_of h.held i in
        let is_it : k ≡ g = one_held x s fits k g j (found_one (is_current_at path) s.held g at).0 (thing.physical ∙ bytes_same b.physical id u ∙ same) in
        sym (found_at path s.held g at) ∙ sym (ap (λ r. r.path) is_it) ∙ thing.path
    at_its_path path v1 f b i u = grind arith

    module _ (number token : ℕ) (lane path : List ℕ) (r : Request) (own : number ≡ s.operation) (forward : goes_forward s.status ≡ true)
        (may : MayIntend schemas name x out s Forward token lane path r) where
      abbrev call_out : Pending
      call_out = record { token = token; path = path; lane = lane; request = r }

      abbrev row_out : Call
      row_out = new_call number s.status (record { token = token; path = path; lane = lane; request = r })

      by_open : (b : Bool)
          → On (heard place (Entry.Intent number token lane path r) s (on_stack (cond b s (record s { tokens = s.tokens ++ call_out ∷ []; ledger = s.ledger ++ row_out ∷ [] })))).stack
      by_open true =
          still_goes s.tokens s.ledger _ _ (λ hid. open_of schemas s source h) (λ q. refl) (λ id n. n) ahead
      by_open false =
          still_goes (s.tokens ++ call_out ∷ []) (s.ledger ++ row_out ∷ []) _ _
          (λ hid. in_more (IsOpenAhead schemas s source) call_out s.tokens (open_of schemas s source h)
          (record { ready = may.chosen.1; not_done = may.chosen.2; asked = grind arith; hidden = hid.calls token lane path r may }))
          (λ q. grind (arith, any_filtered, any_no_more, and_no))
          (λ id n. sym (any_no_more _ s.ledger row_out (and_no (goes_forward s.status) _ (and_no (updates id r) _ refl))) ∙ n)
          (record {
            calls = in_more (λ c. (c.number ≡ s.operation) × IsTrue (goes_forward c.status)) row_out s.ledger h.calls (own, forward);
            at_path = λ c b i j u.
                in_more (λ d. IsTrue (updates b.physical d.request) → d.path ≡ b.path) row_out s.ledger (λ d k v. h.at_path d b k j v)
                (at_its_path path r may.chosen.3 b j) c i u;
          })

-- nothing is kept in the forward phase
pub keeps_nothing : (out : List ℕ) (s : StackState) (path physical : List ℕ) (w : Why) → MayKeep Forward out s path physical w → ⊥
keeps_nothing out s path physical w m = grind arith

pub none_begins : (k : Begun) (z : Status) → goes_forward z ≡ true → begins_from k z ≡ true → ⊥
none_begins k = grind (arith, only_forward)

-- a later phase, and an end, leave another status, whatever the operation was in
pub turned_back : (z : Status) (p : Phase) → goes_forward (turned z p) ≡ false
turned_back z p = grind arith

-- what is written as the phase goes on: a call that may go out, an answer, an opening, or what is of another stack
pub data IsAhead (schemas : List Schema) (x : World) (out name : List ℕ) (s : StackState) : Entry → StackState → Type 0 where
  asks :
      (number token : ℕ) (lane path : List ℕ) (r : Request) → number ≡ s.operation → MayIntend schemas name x out s Forward token lane path r
      → IsAhead schemas x out name s (Entry.Intent number token lane path r) (effect_at (x.place + 1) (Entry.Intent number token lane path r) s).stack
  hears :
      (number token before after : ℕ) (a : Reply) → is_some (pending_of token s) ≡ true
      → IsAhead schemas x out name s (Entry.Outcome number token a before after) (effect_at (x.place + 1) (Entry.Outcome number token a before after) s).stack
  opens : (epoch : ℕ) (lanes : List (List ℕ × List ℕ)) → IsAhead schemas x out name s (Entry.Opened epoch lanes) (effect_at (x.place + 1) (Entry.Opened epoch lanes) s).stack
  is_other : {e : Entry} → IsAhead schemas x out name s e s

module _ (schemas : List Schema) (x : World) (out name : List ℕ) (s : StackState) (forward : goes_forward s.status ≡ true) where
  stepped : (e : Entry) → IsOwn s.operation e → MayFollowIn schemas name x out s Forward e → goes_forward (effect_at (x.place + 1) e s).stack.status ≡ true
      → IsAhead schemas x out name s e (effect_at (x.place + 1) e s).stack
  stepped (Entry.Kept number path physical w) own may on = absurd (keeps_nothing out s path physical w may)
  stepped (Entry.Intent number token lane path r) own may on = asks number token lane path r own may
  stepped (Entry.Outcome number token a before after) own may on = hears number token before after a may.1
  stepped (Entry.Phase number p c) own may on = grind (arith, turned_status, turned_back)
  stepped (Entry.Done number state failed) own may on = grind (arith, ended_status)
  stepped e own may on = absurd own

  pub is_ahead : {e : Entry} {t : StackState} → IsTo schemas x out name s e t → goes_forward t.status ≡ true → IsAhead schemas x out name s e t
  is_ahead (to.step {e = e} stage at own may) on = grind (arith, some_is, only_forward, stepped)
  is_ahead (to.begins k from by) on = absurd (none_begins k s.status forward from)
  is_ahead (to.reviewed number from rows outputs may) on = grind (arith, only_forward)
  is_ahead (to.opened epoch lanes) on = opens epoch lanes
  is_ahead to.other on = is_other

module _ (schemas : List Schema) (x : World) (out name : List ℕ) (s : StackState) (source : Source) (h : IsAdvancing schemas s source) (fits : Fits x s)
    (forward : goes_forward s.status ≡ true) where
  pub goes_by : {e : Entry} {t : StackState} → IsAhead schemas x out name s e t → Goes schemas x out name s source t
  goes_by (asks number token lane path r own may) =
      by_open schemas x out name s source h fits (x.place + 1) number token lane path r own forward may (list_any (has_token token) s.tokens)
  goes_by (hears number token before after a open_) = by_pending schemas x out name s source h fits (x.place + 1) number token before after a (pending_of token s) refl
  goes_by (opens epoch lanes) = opening_goes schemas x out name s source h fits (x.place + 1) epoch lanes
  goes_by is_other = grind arith

pub advancing_goes_on : AdvancingGoesOn
advancing_goes_on schemas x out e name s t source w forward on h hid =
    (goes_by schemas x out name s source h w.fits forward (is_ahead schemas x out name s forward (written_is_to schemas x out e name s t w) on)).goes hid

abbrev pub begun_from : World → List ℕ → StackState → Begun → StackState
begun_from x name s k = (effect_at (x.place + 1) (Entry.Begin (x.operation + 1) name k) s).stack

abbrev pub HasBegunBy : List Schema → World → List ℕ → StackState → StackState → Type 0
HasBegunBy schemas x name s t = (k : Begun) × IsTrue (begins_from k s.status) × BeginsBy schemas name x (x.operation + 1) s k × (begun_from x name s k ≡ t)

pub begins_ahead : {schemas : List Schema} {x : World} {out : List ℕ} {e : Entry} {name : List ℕ} {s t : StackState} → IsWritten schemas x out e name s t
    → goes_forward s.status ≡ false → goes_forward t.status ≡ true → HasBegunBy schemas x name s t
begins_ahead {schemas} {x} {out} {e} {name} {s} {t} w waits = by (written_moves w) where
  by : {d : Entry} {u : StackState} → IsMove schemas x out name s d u → goes_forward u.status ≡ true → HasBegunBy schemas x name s u
  by (move.stays same) on = absurd (true≢false (sym on ∙ ap goes_forward same ∙ waits))
  by (move.turns number p why q may) on = absurd (true≢false (sym on ∙ ap goes_forward (turned_status (x.place + 1) number p s why) ∙ turned_back s.status p))
  by (move.ends number state failed stage q at may) on = grind (arith, ended_status)
  by (move.begins k from b) on = (k, from, b, refl)
  by (move.reviewed number from rows outputs may) on = absurd (true≢false (sym (grind arith) ∙ waits))
  by move.other on = absurd (true≢false (sym on ∙ waits))

-- where no call is open, no row is left as an operation begins
pub none_kept_of : (s : StackState) → s.tokens ≡ [] → map anew (filter (is_open_call s.tokens) s.ledger) ≡ []
none_kept_of s none = ap (λ ts. map anew (filter (is_open_call ts) s.ledger)) none ∙ ap (map anew) (none_kept s.ledger)

-- The forward phase of a creation or an update begins where no call is open and each resource is the one of its path.

module _ (schemas : List Schema) (x : World) (s : StackState) (fits : Fits x s) (none_open : s.tokens ≡ []) (single : AreSingle s.held) where
  -- the stack as a creation or an update has begun on it
  abbrev begun_by : Status → ℕ → ℕ → List Entry → List (List ℕ) → Source → StackState
  begun_by z number operation es lines source = record s {
    status = z;
    number = number;
    operation = operation;
    before = s.held;
    made = [];
    going = Some source;
    sets = [];
    entries = es;
    events = lines;
    ledger = map anew (filter (is_open_call s.tokens) s.ledger);
  }

  no_call : {A : Type 0} (c : Call) → In c (map anew (filter (is_open_call s.tokens) s.ledger)) → A
  no_call c i = elim (subst (In c) (none_kept_of s none_open) i) [ ]

  no_open : {A : Type 0} (p : Pending) → In p s.tokens → A
  no_open p i = elim (subst (In p) none_open i) [ ]

  begins_so : (z : Status) (number operation : ℕ) (es : List Entry) (lines : List (List ℕ)) (source : Source) (kinds : List (List ℕ)) (name : List ℕ)
      → IsAccepted schemas kinds name x s source → IsAdvancing schemas (begun_by z number operation es lines source) source
  begins_so z number operation es lines source kinds name accepted = record {
    going = refl;
    no_flaw = accepted.no_flaw;
    no_clash = accepted.same_types;
    rest = λ path. (λ e. kept_self _, λ e. kept_self _);
    single_before = single;
    held = same_things s.held;
    unchanged = λ b r i j e u.
        let same : r ≡ b = one_held x s fits r b j i e in
        record { props = ap (λ g. g.props) same; attrs = ap (λ g. g.attrs) same; unsure = ap (λ g. g.unsure) same };
    single_made = λ r i. elim i [ ];
    made = λ r i. elim i [ ];
    updated = grind (arith, none_kept_of);
    ready = λ p i. no_open p i;
    not_done = λ p i. no_open p i;
    asked = λ p i. no_open p i;
    hidden = λ p i. no_open p i;
    calls = λ c i. no_call c i;
    at_path = λ c b i j u. no_call c i;
  }

-- what begins
by_begun :
    (schemas : List Schema) (x : World) (place number : ℕ) (name : List ℕ) (k : Begun) (s : StackState) → Fits x s → IsTrue (begins_from k s.status)
    → BeginsBy schemas name x number s k → goes_forward (effect_at place (Entry.Begin number name k) s).stack.status ≡ true → IsFreeToBegin s
    → (source : Source) × HasBegunForward schemas s (effect_at place (Entry.Begin number name k) s).stack source
by_begun schemas x place number name (Begun.Create source) s fits from by on free =
    let f = free (ap (λ b. b || updates_from s.status) from) in
    let goes = begins_so schemas x s fits f.0 f.1 _ _ _ _ _ (source_for name number source) _ name by in
    (source_for name number source, record { creates = λ e. from; updates = λ e. absurd (cc); before = refl; advancing = goes })
by_begun schemas x place number name (Begun.Update source) s fits from by on free =
    let f = free (or_right (creates_from s.status) (updates_from s.status) from) in
    let goes = begins_so schemas x s fits f.0 f.1 _ _ _ _ _ (source_for name s.number source) _ name by in
    (source_for name s.number source, record { creates = λ e. absurd (cc); updates = λ e. from; before = refl; advancing = goes })
by_begun schemas x place number name k s fits from by on free = absurd (true≢false (sym on))

pub advancing_begins : AdvancingBegins
advancing_begins schemas x out e name s t w rests on free = by (begins_ahead w (false_from (goes_forward s.status) (none_forward s.status rests)) on) where
  none_forward : (z : Status) → is_in_progress z ≡ false → goes_forward z ≡ true → ⊥
  none_forward z n f = only_forward (λ v. is_in_progress v ≡ false → ⊥) true≢false true≢false z f n

  by : HasBegunBy schemas x name s t → (source : Source) × HasBegunForward schemas s t source
  by (k, from, b, q) =
      subst (λ u. goes_forward u.status ≡ true → (source : Source) × HasBegunForward schemas s u source) q
      (λ g. by_begun schemas x (x.place + 1) (x.operation + 1) name k s w.fits from b g free) on

pub course_is_free : CourseIsFree
course_is_free schemas name x s c = λ e. grind arith
