-- What an entry leaves of a stack whose update goes back: its resources, its ledger and its entries.
use Rattle.std.proofs.Common.{arith, ◌≡◌, ℕ, List, [], ◌∷◌, ◌++◌, Bool, true, false, not, ◌&&◌, Option, Some, None, refl, sym, ap, subst, ◌∙◌, map, cond, true≢false, find, inl, inr, flat_map, ◌+◌}
use Rattle.cf_core.proofs.Words.{AreSameThings, AreSingle, Held, In, IsSameThing, all_differ, bytes_eq, change_first, current_at, has_physical, here, is_current_at, more, none, there, without, Call, Data, Pending, Reply, Request, Status, anew, answered_call, goes_back, goes_forward, is_call, list_any, new_call, succeeded, updates, where_call, Entry, IsBack, IsGoingBack, IsOpenInBack, StackState, entries_with, id_named, intending, was_restored, was_skipped, EndsAs, IsTo, MayFollowIn, Phase, Schema, SkipsNone, Stage, UpdatesSkipNone, Why, World, begins, effect_at, effect_of, keeping, opened, step, turned}
use Rattle.cf_core.proofs.Lemmas.{bytes_eq-Decides, differ_apart, differ_rest, find-append, found_in_more, found_one, found_still, in_changed, in_more, list_any-append, map-append, none_false, one_id, any_in, any_mapped, none_any, append-nil, flat_map-append, map-id, answered_left}
use Rattle.cf_plan.proofs.RunLanes.{bytes_same, same_bytes}
use Rattle.cf_core.proofs.Rows.{IsSameCall, anew_same, answered_row, answered_row_same, row_found}
use Rattle.cf_effect.specs.Operation.{named_in}
use Rattle.cf_core.proofs.{Statuses.intended_way, Statuses.intended_status, Statuses.kept_status, Statuses.replied_status, Statuses.turned_status, Moving.written_is_to}
use Rattle.cf_stacks.proofs.Stepped.{intending_rest}
use Rattle.cf_core.specs.Written.{reviewed, other}

-- Resources before and after an entry: lists that go along each other, and the one that has an id.

-- what leaves each member of a list as it was leaves the list
pub map_same : {A : Type 0} (f : A → A) (xs : List A) → ((x : A) → In x xs → f x ≡ x) → map f xs ≡ xs
map_same f [] h = refl
map_same f (x ∷ xs) h = ap (λ y. y ∷ map f xs) (h x here) ∙ ap (λ ys. x ∷ ys) (map_same f xs (λ y i. h y (there i)))

-- no two have one id
abbrev pub ids_in : List Held → List (List ℕ)
ids_in hs = map (λ r. r.physical) hs

abbrev pub HaveOwnIds : List Held → Type 0
HaveOwnIds hs = all_differ bytes_eq (ids_in hs) ≡ true

others_own : (h : Held) (hs : List Held) → HaveOwnIds (h ∷ hs) → HaveOwnIds hs
others_own h hs d = (differ_rest bytes_eq h.physical (ids_in hs) d).1

pub one_of : (hs : List Held) → HaveOwnIds hs → (a b : Held) → In a hs → In b hs → a.physical ≡ b.physical → a ≡ b
one_of = one_id (λ r. r.physical)

-- of two lists together
pub own_front : (hs gs : List Held) → HaveOwnIds (hs ++ gs) → HaveOwnIds hs
own_front [] gs d = refl
own_front (h ∷ hs) gs d = grind (arith, own_front hs gs, list_any-append, map-append)

pub own_back : (hs gs : List Held) → HaveOwnIds (hs ++ gs) → HaveOwnIds gs
own_back [] gs d = d
own_back (h ∷ hs) gs d = own_back hs gs (others_own h (hs ++ gs) d)

pub not_in_both : (hs gs : List Held) → HaveOwnIds (hs ++ gs) → (a b : Held) → In a hs → In b gs → a.physical ≡ b.physical → ⊥
not_in_both = differ_apart bytes_eq (λ k l. (bytes_eq-Decides k l).1) (λ r. r.physical)

-- The one of an id is changed: so is each that has it.
module _ (id : List ℕ) (change : Held → Held) where
  abbrev pub changed_if : Held → Held
  changed_if h = cond (has_physical id h) (change h) h

  pub changed_all : (hs : List Held) → HaveOwnIds hs → change_first (has_physical id) change hs ≡ map changed_if hs
  changed_all [] d = refl
  changed_all (h ∷ hs) d = grind (arith, changed_all hs, others_own h hs d, map_same, unlike)
    where
      unlike : has_physical id h ≡ true → (g : Held) → In g hs → has_physical id g ≡ false
      unlike e g i = none_false (has_physical id g) (λ so.
          not_in_both (h ∷ []) hs d h g here i (sym (bytes_same id h.physical e) ∙ bytes_same id g.physical so))

pub without_none : (id : List ℕ) (hs : List Held) → ((h : Held) → In h hs → has_physical id h ≡ false) → without id hs ≡ hs
without_none id [] n = refl
without_none id (h ∷ hs) n = grind (arith, n h here, without_none id hs (λ g i. n g (there i)))

-- The same resources.
pub same_thing : (h : Held) → IsSameThing h h
same_thing h = record { path = refl; physical = refl; kind = refl; needs = refl; deletion = refl; replace = refl; superseded = refl }

-- the same resource, with the same properties, known as before
pub record IsLike (h g : Held) : Type 0 where
  pub same : IsSameThing h g
  pub props : g.props ≡ h.props
  pub unsure : g.unsure ≡ h.unsure

pub like_itself : (h : Held) → IsLike h h
like_itself h = record { same = same_thing h; props = refl; unsure = refl }

pub same_things : (hs : List Held) → AreSameThings hs hs
same_things [] = none
same_things (h ∷ hs) = more (same_thing h) (same_things hs)

pub same_mapped : {bs hs : List Held} (f : Held → Held) → ((h : Held) → IsSameThing h (f h)) → AreSameThings bs hs → AreSameThings bs (map f hs)
same_mapped f same none = none
same_mapped f same (more {b = b} {h = h} e rest) = more (grind arith) (same_mapped f same rest)

pub same_ids : {bs hs : List Held} → AreSameThings bs hs → ids_in hs ≡ ids_in bs
same_ids none = refl
same_ids (more {b = b} {hs = hs} e rest) = ap (λ p. p ∷ ids_in hs) e.physical ∙ ap (λ ps. b.physical ∷ ps) (same_ids rest)

-- the one that goes along one
pub was_of : {bs hs : List Held} {h : Held} → AreSameThings bs hs → In h hs → (b : Held) × In b bs × IsSameThing b h
was_of none i = elim i [ ]
was_of (more {b = b} e rest) here = (b, here, e)
was_of (more e rest) (there i) = let w = was_of rest i in (w.0, there w.1, w.2)

pub is_of : {bs hs : List Held} {b : Held} → AreSameThings bs hs → In b bs → (h : Held) × In h hs × IsSameThing b h
is_of none i = elim i [ ]
is_of (more {h = h} e rest) here = (h, here, e)
is_of (more e rest) (there i) = let w = is_of rest i in (w.0, there w.1, w.2)

-- so are those found at a path
abbrev Along : Option Held → Option Held → Type 0
Along None None = Unit {0}
Along (Some b) (Some h) = IsSameThing b h
Along b h = ⊥

along : {bs hs : List Held} (path : List ℕ) → AreSameThings bs hs → Along (current_at path bs) (current_at path hs)
along path none = tt
along path (more {b = b} {h = h} {bs = bs} {hs = hs} e rest) = grind (arith, along path rest)

pub none_along : {bs hs : List Held} (path : List ℕ) → AreSameThings bs hs → current_at path bs ≡ None → current_at path hs ≡ None
none_along {bs} {hs} path h e = grind (arith, along path h)

pub single_along : {bs hs : List Held} → AreSameThings bs hs → HaveOwnIds hs → AreSingle bs → AreSingle hs
single_along {bs} {hs} s d single h i =
    let w = was_of s i in
    let at : current_at w.0.path hs ≡ Some h = by w.0 w.2 (current_at w.0.path hs) refl (subst (λ o. Along o (current_at w.0.path hs)) (single w.0 w.1) (along w.0.path s)) in
    subst (λ p. current_at p hs ≡ Some h) (sym w.2.path) at
  where
    by : (b : Held) → IsSameThing b h → (o : Option Held) → current_at b.path hs ≡ o → Along (Some b) o → o ≡ Some h
    by b e None f a = absurd a
    by b e (Some g) f a = ap (λ r. Some r) (one_of hs d g h (found_one (is_current_at b.path) hs g f).0 i (a.physical ∙ sym e.physical))

-- one more, at a path of its own
pub single_more : (hs : List Held) (m : Held) → m.superseded ≡ false → current_at m.path hs ≡ None → AreSingle hs → AreSingle (hs ++ m ∷ [])
single_more hs m current n single =
    in_more (λ r. current_at r.path (hs ++ m ∷ []) ≡ Some r) m hs (λ r i. found_still (is_current_at r.path) hs (m ∷ []) r (single r i))
    (found_in_more (is_current_at m.path) hs m (ap (λ b. b && not m.superseded) (same_bytes m.path m.path refl) ∙ ap not current) n)

pub none_with : (hs : List Held) (m : Held) (path : List ℕ) → bytes_eq path m.path ≡ false → current_at path hs ≡ None → current_at path (hs ++ m ∷ []) ≡ None
none_with hs m path unlike n = grind (arith, find-append)

-- what was there before an update has the ids of what is held
pub own_before : (before hs ms : List Held) → AreSameThings before hs → HaveOwnIds (hs ++ ms) → HaveOwnIds before
own_before before hs ms s d = ap (all_differ bytes_eq) (sym (same_ids s)) ∙ own_front hs ms d

-- What the ledger says of updates, as its rows are counted anew, joined by another one and answered.

-- a call of these statuses updated the resource: a row, and the ledger
abbrev pub did_so : (Status → Bool) → List ℕ → Call → Bool
did_so dir id c = dir c.status && (updates id c.request && succeeded c)

abbrev pub did : (Status → Bool) → List ℕ → List Call → Bool
did dir id cs = list_any (did_so dir id) cs

pub false_with : (a b : Bool) → b ≡ false → (a && b) ≡ false
false_with a b e = grind arith

-- each row that was found is found again, in the status in which it was written down
abbrev pub KeepsRows : List Call → List Call → Type 0
KeepsRows cs ds =
    (token : ℕ) (c : Call) → find (is_call token) cs ≡ Some c → (d : Call) × (find (is_call token) ds ≡ Some d) × (d.status ≡ c.status)

mapped_rows : (f : Call → Call) → ((c : Call) → IsSameCall c (f c)) → (cs : List Call) → KeepsRows cs (map f cs)
mapped_rows f same cs token c e = (f c, row_found f same token cs c e, (same c).status)

-- and the same was updated and given back
pub record KeepsDone (cs ds : List Call) : Type 0 where
  pub rows : KeepsRows cs ds
  pub done : (dir : Status → Bool) (id : List ℕ) → did dir id ds ≡ did dir id cs

-- as before, counted anew, and with another one
pub same_done : (cs : List Call) → KeepsDone cs cs
same_done cs = record { rows = λ token c e. (c, e, refl); done = λ dir id. refl }

pub anew_done : (cs : List Call) → KeepsDone cs (map anew cs)
anew_done cs = record { rows = mapped_rows anew anew_same cs; done = λ dir id. any_mapped anew (did_so dir id) cs }

pub more_done : (n : ℕ) (st : Status) (p : Pending) (cs : List Call) → KeepsDone cs (cs ++ new_call n st p ∷ [])
more_done n st p cs = record { rows = λ token c e. (c, found_still (is_call token) cs (new_call n st p ∷ []) c e, refl); done = λ dir id. more dir id } where
  more : (dir : Status → Bool) (id : List ℕ) → did dir id (cs ++ new_call n st p ∷ []) ≡ did dir id cs
  more dir id = grind (arith, list_any-append, false_with)

-- Answered: the row of the token, which had no answer, has it.
pub answered_rows : (token : ℕ) (a : Reply) (cs : List Call) → KeepsRows cs (where_call token (answered_call a) cs)
answered_rows token a cs = mapped_rows (answered_row token a) (answered_row_same token a) cs

-- a call that succeeded did it
pub success_did :
    (token : ℕ) (physical : List ℕ) (attrs : List (List ℕ × Data)) (dir : Status → Bool) (id : List ℕ) (cs : List Call) (c : Call) → find (is_call token) cs ≡ Some c
    → dir c.status ≡ true → updates id c.request ≡ true → did dir id (where_call token (answered_call (Reply.Success physical attrs)) cs) ≡ true
success_did token physical attrs dir id cs c f d u =
    let i = found_one (is_call token) cs c f in
    any_mapped (λ x. cond (is_call token x) (answered_call (Reply.Success physical attrs) x) x) (did_so dir id) cs
    ∙ any_in (λ x. did_so dir id (cond (is_call token x) (answered_call (Reply.Success physical attrs) x) x)) c cs i.0 (grind arith)

pub forward_only : (st : Status) → goes_forward st ≡ true → goes_back st ≡ false
forward_only st e = grind arith

-- where all calls are of the forward phase, nothing was given back
pub none_did : (id : List ℕ) (cs : List Call) → ((c : Call) → In c cs → goes_forward c.status ≡ true) → did goes_back id cs ≡ false
none_did id cs h = none_any (did_so goes_back id) cs (λ c i e. true≢false (sym e ∙ ap (λ b. b && (updates id c.request && succeeded c)) (forward_only c.status (h c i))))

-- What an entry leaves of a stack whose update goes back, part by part.

opened_more : (epoch : ℕ) (lanes : List (List ℕ × List ℕ)) (es : List Entry) → flat_map named_in (entries_with (Entry.Opened epoch lanes) es) ≡ flat_map named_in es
opened_more epoch lanes es = grind (arith, flat_map-append, append-nil)

pub names_more : (e : Entry) (es : List Entry) → named_in e ≡ [] → flat_map named_in (entries_with e es) ≡ flat_map named_in es
names_more e es n = grind (arith, opened_more, flat_map-append, append-nil)

-- The held resources change one by one, and all that is said of them stays so.
pub record Goes (s t : StackState) (g : Held → Held) : Type 0 where
  pub before : t.before ≡ s.before
  pub held : t.held ≡ map g s.held
  pub same : (h : Held) → IsSameThing h (g h)
  pub as_before :
      (b h : Held) → In b s.before → In h s.held → h.physical ≡ b.physical → (g h).unsure ≡ false → IsBack t b → (g h).props ≡ b.props
  pub skipped : (h : Held) → In h s.held → was_skipped h.path t ≡ true → (g h).unsure ≡ true
  pub made : AreSingle t.made
  pub calls : (p : Pending) → In p t.tokens → IsOpenInBack t p p.request

pub goes_on : (s t : StackState) (g : Held → Held) → IsGoingBack s → Goes s t g → IsGoingBack t
goes_on s t g b k = grind (arith, same_mapped, in_changed)

-- an open call stays what it is
pub record Stays (s t : StackState) (p : Pending) : Type 0 where
  pub before : t.before ≡ s.before
  pub rows : KeepsRows s.ledger t.ledger
  pub restored : (id : List ℕ) → id_named p.request ≡ Some id → was_restored id s ≡ false → was_restored id t ≡ false
  pub skips : was_skipped p.path s ≡ false → was_skipped p.path t ≡ false
  pub made : current_at p.path s.made ≡ None → current_at p.path t.made ≡ None

pub open_stays : (s t : StackState) (p : Pending) → Stays s t p → (r : Request) → p.request ≡ r → IsOpenInBack s p r → IsOpenInBack t p r
open_stays s t p k = grind arith

-- what was updated and given back is told by the ledger
pub back_of : (s t : StackState) (c : Held) → ((dir : Status → Bool) → did dir c.physical t.ledger ≡ did dir c.physical s.ledger) → IsBack t c → IsBack s c
back_of s t c same (inl n) = inl (sym (same goes_forward) ∙ n)
back_of s t c same (inr n) = inr (sym (same goes_back) ∙ n)

-- Where nothing is updated or given back, and no property changes; each open call was as it has to be.
pub record Plain (s t : StackState) (g : Held → Held) : Type 0 where
  pub before : t.before ≡ s.before
  pub held : t.held ≡ map g s.held
  pub like : (h : Held) → IsLike h (g h)
  pub ledger : KeepsDone s.ledger t.ledger
  pub skips : (path : List ℕ) → was_skipped path t ≡ was_skipped path s
  pub calls : (p : Pending) → In p t.tokens → IsOpenInBack s p p.request
  pub made : (p : Pending) → In p t.tokens → current_at p.path s.made ≡ None → current_at p.path t.made ≡ None

pub plain : (s t : StackState) (g : Held → Held) → Plain s t g → AreSingle t.made → IsGoingBack s → IsGoingBack t
plain s t g k single b =
    goes_on s t g b (record {
      before = k.before;
      held = k.held;
      same = λ h. (k.like h).same;
      as_before = λ c h i j e u w. (k.like h).props ∙ b.as_before c h i j e (sym (k.like h).unsure ∙ u) (back_of s t c (λ dir. k.ledger.done dir c.physical) w);
      skipped = λ h j w. (k.like h).unsure ∙ b.skipped h j (sym (k.skips h.path) ∙ w);
      made = single;
      calls = λ p i. open_stays s t p (record {
        before = k.before;
        rows = k.ledger.rows;
        restored = λ id e n. k.ledger.done goes_back id ∙ n;
        skips = λ n. k.skips p.path ∙ n;
        made = k.made p i;
      }) p.request refl (k.calls p i);
    })

-- where no resource changes
pub quietly : (s t : StackState) → t.before ≡ s.before → t.held ≡ s.held → t.made ≡ s.made → KeepsDone s.ledger t.ledger
    → ((path : List ℕ) → was_skipped path t ≡ was_skipped path s) → ((p : Pending) → In p t.tokens → IsOpenInBack s p p.request) → IsGoingBack s → IsGoingBack t
quietly s t before held made ledger skips calls b =
    let none = λ (p : Pending) (i : In p t.tokens) (n : current_at p.path s.made ≡ None). ap (current_at p.path) made ∙ n in
    let k : Plain s t (λ h. h) = record { before = before; held = held ∙ sym (map-id s.held); like = like_itself; ledger = ledger; skips = skips; calls = calls; made = none } in
    plain s t (λ h. h) k (subst AreSingle (sym made) b.single_made) b

-- a stack hears of an entry that names no path
pub heard_of : (e : Entry) (u : StackState) (ls : List (List ℕ)) → named_in e ≡ [] → IsGoingBack u → IsGoingBack (record u { entries = entries_with e u.entries; events = ls })
heard_of e u ls n b = search (quietly, same_done, names_more)

-- its calls count anew
pub anew_back : (s : StackState) (st : Status) → IsGoingBack s → IsGoingBack (record s { status = st; ledger = map anew s.ledger })
anew_back s st b = quietly s (record s { status = st; ledger = map anew s.ledger }) refl refl refl (anew_done s.ledger) (λ path. refl) b.calls b

-- a restore goes out
pub intended_back : (n : ℕ) (p : Pending) (s : StackState) → IsOpenInBack s p p.request → IsGoingBack s → IsGoingBack (intending n p s)
intended_back n p s o b = intended_way IsGoingBack s b n p
    (quietly s (record s { tokens = s.tokens ++ p ∷ []; ledger = s.ledger ++ new_call n s.status p ∷ [] }) refl refl refl (more_done n s.status p s.ledger) (λ path. refl)
    (in_more (λ q. IsOpenInBack s q q.request) p s.tokens b.calls o) b)

-- No continued rollback has skipped a path of an update that goes forward.

entries_kept : (path physical : List ℕ) (w : Why) (s : StackState) → (keeping path physical w s).entries ≡ s.entries
entries_kept path physical w s = grind arith

-- no later phase goes forward
never_forward : (p : Phase) (st : Status) → turned st p ≡ Status.UpdateInProgress → ⊥
never_forward p st e = grind arith

module _ (schemas : List Schema) (x : World) (out : List ℕ) (name : List ℕ) (s : StackState) (h : s.status ≡ Status.UpdateInProgress → SkipsNone s) where
  abbrev left : Entry → StackState
  left e = (effect_at (x.place + 1) e s).stack

  -- an entry that names no path, after which the status and the other entries are as they were
  joined : (e : Entry) (u : StackState) → named_in e ≡ [] → u.status ≡ s.status → u.entries ≡ s.entries → u.status ≡ Status.UpdateInProgress → flat_map named_in (entries_with e u.entries) ≡ []
  joined e u n status_same entries_same is = names_more e u.entries n ∙ (ap (flat_map named_in) entries_same ∙ h (sym status_same ∙ is))

  never_ends : (st : Status) → EndsAs schemas name x s st Status.UpdateInProgress → ⊥
  never_ends st e = grind arith

  skip_none : (e : Entry) (stage : Stage) → MayFollowIn schemas name x out s stage e → (left e).status ≡ Status.UpdateInProgress → SkipsNone (left e)
  skip_none e stage may is = grind (arith, joined, kept_status, entries_kept, intended_status, intending_rest, replied_status, never_forward, turned_status, never_ends, answered_left)

  skipping_none : (e : Entry) (t : StackState) → IsTo schemas x out name s e t → t.status ≡ Status.UpdateInProgress → SkipsNone t
  skipping_none e t (step stage at is_own may) is = skip_none e stage may is
  skipping_none e t (begins k from by) is = grind arith
  skipping_none e t (reviewed number source rows outputs from) is = h (grind arith)
  skipping_none e t (opened epoch lanes) is = joined (Entry.Opened epoch lanes) (effect_of (Entry.Opened epoch lanes) s).stack refl refl refl is
  skipping_none e t other is = h is

pub updates_skip : UpdatesSkipNone
updates_skip schemas x out e name s t w h = skipping_none schemas x out name s h e t (written_is_to schemas x out e name s t w)
