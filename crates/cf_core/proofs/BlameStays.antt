-- What a stack's entries and its ledger say of each other stays so with each entry that is written.
use Rattle.std.proofs.Common.{◌≡◌, ℕ, ◌==◌, List, [], ◌∷◌, ◌++◌, Bool, true, false, Option, Some, None, refl, sym, ap, ◌∙◌, find, map, option_map, ◌<◌, ◌⊎◌, inl, inr, not, subst, true≢false, arith, ◌≤◌, filter, ◌+◌, IsTrue}
use Rattle.cf_core.proofs.Words.{AreApart, AreBooked, AreRanked, AreRestoring, AreSingle, Back, BackClean, BecomesBy, Begun, Call, Cause, Clean, Code, Course, Data, EndsAs, Entry, Fits, Forward, Held, HoldsIfWhole, HoldsWhole, In, IntendsDeletion, IntendsRestore, IsBooked, IsCounted, IsNew, IsOnCourse, IsRowOf, MayDelete, MayFollow, MayFollowIn, MayFollowOn, MayIntend, MayKeep, MayTurn, Pending, Phase, Reply, Request, Right, Schema, Seen, Source, StackState, Stage, Status, StayBooked, Wanted, Why, World, all_of, anew, answered, answers_of, at_opening, bytes_eq, calls_kept, changing, closing, cond, continues, current_at, deletes, deleting, effect_at, ended_effect, ending, entries_with, failed_in, failed_of, flat_map, goes_forward, has_physical, has_restore, has_token, here, id_named, intending, is_among, is_call, is_create, is_create_at, is_doubt, is_in_progress, is_of, is_on, is_open_call, is_opening, is_refusal, is_restore, is_restoring, is_right_at, is_some, is_wanted_at, keeping, keeping_known, keeping_unknown, keeps, known_stack, list_any, made_of, marked, named_paths, needs_at, new_call, no_stack, option_map_or, other as another, own as of_it, own_calls, own_of, pending_of, plan_of, replies_in, reply_in, replying, resources_of, restores_of, reviewed, right_of, seen_in, settled_by, settled_in, skipped_in, stack_for, stack_of_operation, stage_of, status_made, stopping, terms_at, there, turned, turned_effect, turning, unwrap_or, updates, whole_now, world_after}
use Rattle.cf_core.proofs.Lemmas.{answered_left, any_of, append-nil, append_assoc, bytes_eq-Decides, differ_apart, differ_one, each_map as each_mapped, eq-eqb, eqb-true, filter-append, filter_map-append, flat_map-append, found_one, in_back, in_either, in_filter, in_front, in_kept, in_more, nat_tests, none_any, none_false, not_so, second_not, some_is, some_of}
use Rattle.cf_core.proofs.{Cleanups.from_changed, Rows.answered_row, Rows.answered_row_same, Stacks.is_working, Stacks.on_option, Moving.in_stage, Moving.numbered_so, RowsBooked.IsLike, RowsBooked.IsLeftBy, RowsBooked.booked_begun, RowsBooked.restoring_begun, RowsBooked.booked_anew, RowsBooked.restoring_anew, RowsBooked.booked_fewer, RowsBooked.booked_called, RowsBooked.restoring_called, RowsBooked.booked_answered, RowsBooked.restoring_answered}
use Rattle.cf_desired.specs.Whole.{Whole}
use Rattle.cf_core.specs.Books.{row_in}
use Rattle.cf_effect.specs.Operation.{named_in}
use Rattle.cf_plan.proofs.BlameOrder.{needed_before, place_of}
use Rattle.cf_effect.specs.declared.held.KeptSet.{KeptSet}

-- What a stack's own entries tell by one more of them, and when what they and its ledger say of each other stays so.

-- what is told of an operation by one entry more
module _ (n : ℕ) (es : List Entry) (e : Entry) (own : is_of n e ≡ true) where
  pub own_more : filter (is_of n) (es ++ e ∷ []) ≡ filter (is_of n) es ++ e ∷ []
  own_more = filter-append (is_of n) es (e ∷ []) ∙ ap (λ b. filter (is_of n) es ++ cond b (e ∷ []) []) own

  pub answers_more : replies_in (filter (is_of n) (es ++ e ∷ [])) ≡ replies_in (filter (is_of n) es) ++ replies_in (e ∷ [])
  answers_more = ap replies_in own_more ∙ filter_map-append reply_in (filter (is_of n) es) (e ∷ [])

  pub told_more : {A : Type 0} (f : Entry → List A) → flat_map f (filter (is_of n) (es ++ e ∷ [])) ≡ flat_map f (filter (is_of n) es) ++ (f e ++ [])
  told_more f = ap (flat_map f) own_more ∙ flat_map-append f (filter (is_of n) es) (e ∷ [])

-- an entry that names no path leaves the operation those that it names
pub named_more : (n : ℕ) (es : List Entry) (e : Entry) → is_of n e ≡ true → named_in e ≡ []
    → flat_map named_in (filter (is_of n) (es ++ e ∷ [])) ≡ flat_map named_in (filter (is_of n) es)
named_more n es e own none =
    told_more n es e own named_in ∙ ap (λ ns. flat_map named_in (filter (is_of n) es) ++ (ns ++ [])) none ∙ append-nil (flat_map named_in (filter (is_of n) es))

-- What an entry of the operation leaves of its stack, before it is among the stack's own.
pub record Leaves (s : StackState) (e : Entry) (u : StackState) : Type 0 where
  pub operation : u.operation ≡ s.operation
  pub entries : u.entries ≡ s.entries
  pub goes : is_in_progress u.status ≡ true → failed_in e ≡ []
  pub books : AreBooked s.operation u.ledger (answers_of s ++ replies_in (e ∷ [])) u.tokens (resources_of u)
  pub unretained :
      u.status ≡ Status.DeleteInProgress → (c : Call) (id : List ℕ) → In c u.ledger → c.number ≡ s.operation → deletes id c.request ≡ true
      → is_among c.path (named_paths s) ≡ false
  restoring : u.status ≡ Status.UpdateRollbackInProgress → AreRestoring s.operation u.ledger (answers_of s ++ replies_in (e ∷ [])) u.tokens u.before
  pub needs : (r : Held) → In r u.made → r.needs ≡ needs_at r.path u
  pub ranked : AreRanked u.held

-- Such an entry joins the stack's own, and names no paths.
module _ (s : StackState) (h : IsBooked s) (going : is_in_progress s.status ≡ true) (e : Entry) (own : is_of s.operation e ≡ true)
    (joins : (es : List Entry) → entries_with e es ≡ es ++ e ∷ []) (names_none : named_in e ≡ []) (u : StackState) (left : Leaves s e u)
    (lines : List (List ℕ)) where
  abbrev pub after : StackState
  after = record u { entries = entries_with e u.entries; events = lines }

  entries_are : after.entries ≡ s.entries ++ e ∷ []
  entries_are = joins u.entries ∙ ap (λ es. es ++ e ∷ []) left.entries

  own_is : own_of after ≡ filter (is_of s.operation) (s.entries ++ e ∷ [])
  own_is = ap (λ n. filter (is_of n) after.entries) left.operation ∙ ap (filter (is_of s.operation)) entries_are

  pub answers_then : answers_of after ≡ answers_of s ++ replies_in (e ∷ [])
  answers_then = ap replies_in own_is ∙ answers_more s.operation s.entries e own

  pub failed_then : failed_of after ≡ failed_in e
  failed_then =
      ap (flat_map failed_in) own_is ∙ told_more s.operation s.entries e own failed_in
      ∙ ap (λ fs. fs ++ (failed_in e ++ [])) (h.none_failed going) ∙ append-nil (failed_in e)

  named_then : named_paths after ≡ named_paths s
  named_then = ap (flat_map named_in) own_is ∙ named_more s.operation s.entries e own names_none

  pub booked_then : IsBooked after
  booked_then = record {
    books = rw (answers_then, left.operation) left.books;
    numbered = λ d n i. in_more (λ x. is_of n x ≡ true → n ≤ u.operation) e s.entries (λ x j o. rw left.operation (h.numbered x n j o))
        (λ o. let is : u.operation ≡ s.operation = left.operation in let same : n ≡ s.operation = grind (arith, nat_tests) in omega (arith, is, same))
        d (subst (In d) entries_are i);
    none_failed = λ g. failed_then ∙ left.goes g;
    unretained = λ g c id i n d. ap (is_among c.path) named_then ∙ left.unretained g c id i (n ∙ left.operation) d;
    restoring = λ g. rw (answers_then, left.operation) (left.restoring g);
    needs = left.needs;
    ranked = left.ranked;
  }

-- an opening is of no operation
pub own_opened : (n epoch : ℕ) (lanes : List (List ℕ × List ℕ)) (es : List Entry)
    → filter (is_of n) (entries_with (Entry.Opened epoch lanes) es) ≡ filter (is_of n) es
own_opened n epoch lanes es = grind (arith, filter-append, append-nil)

pub in_opened : (P : Entry → Type 0) (epoch : ℕ) (lanes : List (List ℕ × List ℕ)) (es : List Entry) → ((e : Entry) → In e es → P e) → P (Entry.Opened epoch lanes)
    → (e : Entry) → In e (entries_with (Entry.Opened epoch lanes) es) → P e
in_opened P epoch lanes [] h o e i = elim i [ ]
in_opened P epoch lanes (d ∷ es) h o e i = in_more P (Entry.Opened epoch lanes) (d ∷ es) h o e i

-- A call is written down, and what a stack's entries and its ledger say of each other stays so.

module _ (x : World) (s : StackState) (fits : Fits x s) where
  -- the row of an open call, by its token
  pub row_is : (p : Pending) (c : Call) → In p s.tokens → In c s.ledger → p.token ≡ c.token → IsRowOf p c
  row_is p c i j e =
      let k = fits.rows p i in
      let one = found_one (is_call p.token) s.ledger k.0 k.1 in
      let same : k.0 ≡ c =
      differ_one ◌==◌ eq-eqb (λ c. c.token) s.ledger fits.row_tokens k.0 c one.0 j (sym (eqb-true p.token k.0.token one.1) ∙ e) in
      subst (IsRowOf p) same k.2

  pub one_resource : (a b : Held) → In a (resources_of s) → In b (resources_of s) → a.physical ≡ b.physical → a ≡ b
  one_resource = differ_one bytes_eq (λ k l. (bytes_eq-Decides k l).1) (λ r. r.physical) (resources_of s) fits.ids

  pub held_or_made : (a b : Held) → In a s.held → In b s.made → a.physical ≡ b.physical → ⊥
  held_or_made = differ_apart bytes_eq (λ k l. (bytes_eq-Decides k l).1) (λ r. r.physical) s.held s.made fits.ids

-- what a phase deletes is a resource of the stack
pub deleted_listed : (stage : Stage) (s : StackState) (r : Held) → MayDelete stage s r → In r (resources_of s)
deleted_listed stage s r may = grind (arith, in_front, in_back)

-- A call that is chosen: a deletion is of the resource that it names, and of none that is to be retained; and the rollback of an
-- update only gives back, each resource once.
record IsChosen (s : StackState) (path : List ℕ) (r : Request) : Type 0 where
  pub named : (h : Held) → In h (resources_of s) → deletes h.physical r ≡ true → path ≡ h.path
  pub unretained : s.status ≡ Status.DeleteInProgress → (id : List ℕ) → deletes id r ≡ true → is_among path (named_paths s) ≡ false
  pub restores :
      s.status ≡ Status.UpdateRollbackInProgress
      → (b : Held) × In b s.before × (b.path ≡ path) × (updates b.physical r ≡ true) × (has_restore b.physical s ≡ false)

module _ (schemas : List Schema) (name : List ℕ) (x : World) (s : StackState) (fits : Fits x s) where
  deletion : (stage : Stage) (path physical : List ℕ) → stage_of s.status ≡ Some stage → IntendsDeletion stage s path (Request.Delete physical)
      → IsChosen s path (Request.Delete physical)
  deletion stage path physical at (r, may, kept, p, i) = record {
    named = λ h j d.
        p ∙ ap (λ z. z.path) (sym (one_resource x s fits h r j (deleted_listed stage s r may) ((bytes_eq-Decides h.physical physical).0 d ∙ i)));
    unretained = grind (arith, some_is, second_not, kept);
    restores = grind (arith, some_is);
  }

  deleting_chosen : (stage : Stage) (path : List ℕ) (r : Request) → stage_of s.status ≡ Some stage → IntendsDeletion stage s path r → IsChosen s path r
  deleting_chosen stage path (Request.Delete id) at d = deletion stage path id at d
  deleting_chosen stage path v2 at d = grind arith

  restoring : (path : List ℕ) (r : Request) → IntendsRestore s path r → IsChosen s path r
  restoring path r d = grind (arith, bytes_eq-Decides)

  module _ (out : List ℕ) (h : IsBooked s) (stage : Stage) (at : stage_of s.status ≡ Some stage) (token : ℕ) (lane path : List ℕ) (r : Request)
      (may : MayIntend schemas name x out s stage token lane path r) (single : s.status ≡ Status.UpdateRollbackInProgress → AreSingle s.before) where
    abbrev q : Pending
    q = record { token = token; path = path; lane = lane; request = r }

    abbrev called : StackState
    called = record s { tokens = s.tokens ++ q ∷ []; ledger = s.ledger ++ new_call s.operation s.status q ∷ [] }

    abbrev intent : Entry
    intent = Entry.Intent s.operation token lane path r

    choice : IsChosen s path r
    choice = grind (arith, deleting_chosen, restoring, some_is)

    not_open : list_any (has_token token) s.tokens ≡ false
    not_open = grind (arith, none_any, eqb-true, found_one)

    apart : (g : s.status ≡ Status.UpdateRollbackInProgress) (c : Call) → In c s.ledger → c.number ≡ s.operation → is_restoring c ≡ true → path ≡ c.path → ⊥
    apart g c i n e p =
        let k = (h.restoring g).of_before c i n e in
        let b = choice.restores g in
        let at_path : k.0.path ≡ b.0.path = k.2 ∙ sym p ∙ sym b.2 in
        let both : Some k.0 ≡ Some b.0 = sym (single g k.0 k.1) ∙ ap (λ z. current_at z s.before) at_path ∙ single g b.0 b.1 in
        let same : k.0 ≡ b.0 = ap (λ o. unwrap_or o k.0) both in
        let own : In c (own_calls s) = in_kept (λ z. z.number == s.operation) s.ledger c i (eq-eqb c.number s.operation n) in
        let restore : In c (restores_of s) = in_kept is_restoring (own_calls s) c own e in
        true≢false (sym (any_of (λ z. updates b.0.physical z.request) (restores_of s) c restore (ap (λ z. updates z.physical c.request) (sym same) ∙ k.3)) ∙ b.4)

    left : Leaves s intent called
    left = record {
      operation = refl;
      entries = refl;
      goes = λ g. refl;
      books = rw (append-nil (answers_of s)) (booked_called s.operation s.ledger (answers_of s) s.tokens s.status q (resources_of s) h.books
          (λ z i e. let k = h.books.called z i in (grind (arith, found_one, eqb-true))) choice.named);
      unretained = λ g c id i n d.
          in_more (λ z. z.number ≡ s.operation → deletes id z.request ≡ true → is_among z.path (named_paths s) ≡ false) (new_call s.operation s.status q) s.ledger
          (λ z j m f. h.unretained g z id j m f) (λ m f. choice.unretained g id f) c i n d;
      restoring = λ g.
          let b = choice.restores g in
          rw (append-nil (answers_of s)) (restoring_called s.operation s.ledger (answers_of s) s.tokens s.status q s.before (h.restoring g) h.books.called (b.0, b.1, b.2, b.3)
          (λ c i n e f p. apart g c i n e p));
      needs = h.needs;
      ranked = h.ranked;
    }

    pub intent_left : (number : ℕ) → s.operation ≡ number → Leaves s (Entry.Intent number token lane path r) (intending number q s)
    intent_left number is =
        subst (λ n. Leaves s (Entry.Intent n token lane path r) (intending n q s)) is
        (subst (Leaves s intent) (sym (ap (λ b. cond b s called) not_open)) left)

-- A plan ranks what is made by it, and the whole map of a template what is held as it wants it.

pub among_in : (q : List ℕ) (ps : List (List ℕ)) → is_among q ps ≡ true → In q ps
among_in q ps e = let p = some_of (bytes_eq q) ps e in grind (arith, bytes_eq-Decides)

abbrev pub wanted_by : Option Source → Seen → List Wanted
wanted_by None seen = []
wanted_by (Some source) seen = (plan_of source seen).wanted

-- where a path stands in the plan of the operation
abbrev pub plan_rank : StackState → List ℕ → ℕ
plan_rank s path = place_of path (wanted_by s.going (seen_in s.before))

pub needs_lower : (s : StackState) (m q : List ℕ) → In q (needs_at m s) → plan_rank s q < plan_rank s m
needs_lower s m q i = grind (arith, place_of, needed_before)

right_wanted : (path : List ℕ) (ws : List Wanted) (rs : List Right) → all_of right_of ws ≡ Some rs
    → option_map (λ (w : Right). w.needs) (find (is_right_at path) rs) ≡ option_map (λ (v : Wanted). v.needs) (find (is_wanted_at path) ws)
right_wanted path [] rs e = cc
right_wanted path (v ∷ vs) rs e = grind (arith, right_wanted path vs)

wanted_as : (o : Option Wanted) (w : Right) → option_map (λ (v : Wanted). v.needs) o ≡ Some w.needs → (v : Wanted) × (o ≡ Some v) × (w.needs ≡ v.needs)
wanted_as o w e = grind arith

pub whole_ranked : (name : List ℕ) (x : World) (s : StackState) → HoldsWhole name x s → AreRanked s.held
whole_ranked name x s h = record {
  rank = λ path. place_of path (plan_of h.source h.seen).wanted;
  lower = λ a g i j c d n.
      let w = h.held a i c in
      let same = right_wanted a.path (plan_of h.source h.seen).wanted h.whole.wanted (grind arith) in
      let v = wanted_as (find (is_wanted_at a.path) (plan_of h.source h.seen).wanted) w.0 (sym same ∙ ap (option_map (λ (w : Right). w.needs)) w.1) in
      needed_before h.source h.seen a.path g.path v.0 v.1 (among_in g.path v.0.needs (ap (is_among g.path) (sym (w.2.needs ∙ v.2)) ∙ n));
}

-- What an answer and a kept resource make of a stack's resources: each that is there by then was there, at its path under its id, or
-- was made by the answer.

-- a resource of a list has this one's path, id and needs, and is superseded only where this one is
pub record IsAlike (hs : List Held) (h : Held) : Type 0 where
  pub one : Held
  pub of_list : In one hs
  pub path : one.path ≡ h.path
  pub physical : one.physical ≡ h.physical
  pub needs : one.needs ≡ h.needs
  pub current : h.superseded ≡ false → one.superseded ≡ false

pub like_of : {hs : List Held} {h : Held} → IsAlike hs h → IsLike hs h
like_of k = record { one = k.one; of_list = k.of_list; path = k.path; physical = k.physical }

pub alike_itself : (hs : List Held) (h : Held) → In h hs → IsAlike hs h
alike_itself hs h i = record { one = h; of_list = i; path = refl; physical = refl; needs = refl; current = λ e. e }

-- what each keeps of this, a list keeps
pub record KeepsThing (f : Held → Held) : Type 0 where
  pub path : (h : Held) → (f h).path ≡ h.path
  pub physical : (h : Held) → (f h).physical ≡ h.physical
  pub needs : (h : Held) → (f h).needs ≡ h.needs
  pub superseded : (h : Held) → (f h).superseded ≡ h.superseded

changed_alike : (f : Held → Held) → KeepsThing f → (hs : List Held) (h : Held) → In h hs → IsAlike hs (f h)
changed_alike f k hs h i = grind arith

pub mapped_alike : (f : Held → Held) → KeepsThing f → (hs : List Held) (h : Held) → In h (map f hs) → IsAlike hs h
mapped_alike f k hs = each_mapped (IsAlike hs) f hs (changed_alike f k hs)

pub kept_alike : (test : Held → Bool) (hs : List Held) (h : Held) → In h (filter test hs) → IsAlike hs h
kept_alike test hs h i = alike_itself hs h ((in_filter test hs h i).0)

pub ranked_alike : (hs hs' : List Held) → AreRanked hs → ((h : Held) → In h hs' → IsAlike hs h) → AreRanked hs'
ranked_alike hs hs' r alike = grind arith

-- each resource was there
pub record HasFewer (s t : StackState) : Type 0 where
  pub held : (h : Held) → In h t.held → IsAlike s.held h
  pub made : (h : Held) → In h t.made → IsAlike s.made h

pub fewer_all : (s t : StackState) → HasFewer s t → (h : Held) → In h (resources_of t) → IsLike (resources_of s) h
fewer_all s t k h i = grind (arith, in_either, like_of, in_front, in_back)

pub fewer_itself : (s : StackState) → HasFewer s s
fewer_itself s = record { held = alike_itself s.held; made = alike_itself s.made }

pub changing_fewer : (id : List ℕ) (f : Held → Held) → KeepsThing f → (s : StackState) → HasFewer s (changing id f s)
changing_fewer id f keeps s = (grind (arith, alike_itself, from_changed, changed_alike))

pub deleting_fewer : (id : List ℕ) (s : StackState) → HasFewer s (deleting id s)
deleting_fewer id s = record { held = kept_alike (λ h. not (has_physical id h)) s.held; made = kept_alike (λ h. not (has_physical id h)) s.made }

-- what is deleted is gone
pub deleted_gone : (id : List ℕ) (s : StackState) (h : Held) → In h (resources_of (deleting id s)) → h.physical ≡ id → ⊥
deleted_gone id s h i e = grind (arith, in_either, bytes_eq-Decides, not_so, in_filter)

-- what an answer makes of the resources: they were there, and one that the call deletes is deleted for good no more than it was;
-- or a create made one
pub data Answers (path : List ℕ) (q : Request) (a : Reply) (s t : StackState) : Type 0 where
  fewer :
      HasFewer s t → ((h : Held) → In h (resources_of t) → deletes h.physical q ≡ true → (is_doubt a ≡ true) ⊎ (is_refusal q (settled_by a) ≡ true))
      → Answers path q a s t
  more : (h : Held) → t.held ≡ s.held → t.made ≡ s.made ++ h ∷ [] → h.path ≡ path → h.needs ≡ needs_at path s → is_create q ≡ true
      → (attrs : List (List ℕ × Data)) → a ≡ Reply.Success h.physical attrs → Answers path q a s t

pub answers : (b : Bool) (path : List ℕ) (q : Request) (a : Reply) (s : StackState) → Answers path q a s (answered b path q a s)
answers b path (Request.Create k props) (Reply.Success physical attrs) s =
    more (made_of (terms_at path s) (status_made (current_at path s.held)) path k props physical attrs) refl refl refl refl refl attrs refl
answers b path (Request.Create k props) (Reply.Failed c) s = fewer (fewer_itself s) (λ h i d. absurd (true≢false (sym d)))
answers b path (Request.Create k props) Reply.Doubt s = fewer (fewer_itself s) (λ h i d. inl refl)
answers b path (Request.Update id props) (Reply.Success physical attrs) s = grind (arith, changing_fewer)
answers true path (Request.Update id props) (Reply.Failed c) s = grind (arith, changing_fewer)
answers false path (Request.Update id props) (Reply.Failed c) s = fewer (fewer_itself s) (λ h i d. inr refl)
answers b path (Request.Update id props) Reply.Doubt s = fewer (fewer_itself s) (λ h i d. inl refl)
answers b path (Request.Delete id) (Reply.Success physical attrs) s = grind (arith, deleting_fewer, deleted_gone, bytes_eq-Decides)
answers b path (Request.Delete id) (Reply.Failed Code.NotFound) s = grind (arith, deleting_fewer, deleted_gone, bytes_eq-Decides)
answers b path (Request.Delete id) (Reply.Failed c) s = grind (arith, changing_fewer)
answers b path (Request.Delete id) Reply.Doubt s = fewer (fewer_itself s) (λ h i d. inl refl)

-- A call is answered, or a resource is kept, and what a stack's entries and its ledger say of each other stays so.

-- what a made resource needs, is as the plan says, where it was made before
pub needs_alike : (s : StackState) → ((r : Held) → In r s.made → r.needs ≡ needs_at r.path s) → (r : Held) → IsAlike s.made r → r.needs ≡ needs_at r.path s
needs_alike s needs r k = sym k.needs ∙ needs k.one k.of_list ∙ ap (λ p. needs_at p s) k.path

module _ (name : List ℕ) (x : World) (s : StackState) (fits : Fits x s) (h : IsBooked s) (number : ℕ)
    (on : stack_of_operation number x ≡ Some (name, s)) where
  -- an answer
  module _ (token : ℕ) (a : Reply) (before after : ℕ) (still : IsTrue (is_some (pending_of token s))) (counted : IsCounted a before after)
      (new : IsNew x (Entry.Outcome number token a before after)) where
    abbrev outcome : Entry
    outcome = Entry.Outcome number token a before after

    module _ (p : Pending) (found : pending_of token s ≡ Some p) where
      abbrev then_ : StackState
      then_ = answered (is_restore token s) p.path p.request a s

      of_list : In p s.tokens
      of_list = (found_one (has_token token) s.tokens p found).0

      named : token ≡ p.token
      named = eqb-true token p.token (found_one (has_token token) s.tokens p found).1

      made_by : Answers p.path p.request a s then_
      made_by = answers (is_restore token s) p.path p.request a s

      abbrev From : Held → Type 0
      From = IsLeftBy (resources_of s) s.ledger p a

      from : (r : Held) → In r (then_.held ++ then_.made) → From r
      from r i = elim made_by [
        | fewer k tried ↦ inl (fewer_all s then_ k r i, tried r i)
        | more g held made path needs create attrs is ↦ (
            let all : then_.held ++ then_.made ≡ resources_of s ++ g ∷ [] = cc (held, made, append_assoc s.held s.made (g ∷ [])) in
            let none : id_named p.request ≡ None = grind arith in
            in_more From g (resources_of s)
            (λ z l. inl (record { one = z; of_list = l; path = refl; physical = refl }, λ d. absurd (grind arith)))
            (inr (λ c l d. (subst (λ b. IsNew x (Entry.Outcome number token b before after)) is new name s p on found none).calls c l
            (grind (arith, bytes_eq-Decides)))) r (subst (In r) all i)
            )
      ]

      needs_then : (r : Held) → In r then_.made → r.needs ≡ needs_at r.path s
      needs_then r i = elim made_by [
        | fewer k tried ↦ needs_alike s h.needs r (k.made r i)
        | more g held made path needs create attrs is ↦
            in_more (λ z. z.needs ≡ needs_at z.path s) g s.made h.needs (needs ∙ ap (λ q. needs_at q s) (sym path)) r (subst (In r) made i)
      ]

      ranked_then : (r : Held) → In r then_.held → IsAlike s.held r
      ranked_then r i = elim made_by [
        | fewer k tried ↦ k.held r i
        | more g held made path needs create attrs is ↦ alike_itself s.held r (subst (In r) held i)
      ]

      its : (c : Call) × (row_in token s.ledger ≡ Some c)
      its = let k = fits.rows p of_list in (k.0, ap (λ t. row_in t s.ledger) named ∙ k.1)

      closed_left : Leaves s outcome (closing token a (record s { held = then_.held; made = then_.made }))
      closed_left = record {
        operation = refl;
        entries = refl;
        goes = λ g. refl;
        books =
            booked_answered s.operation s.ledger (answers_of s) s.tokens p of_list token named a before after its.0 its.1 (row_is x s fits) fits.paths
            (resources_of s) (then_.held ++ then_.made) h.books counted from;
        unretained = λ g c id i n d.
            each_mapped (λ z. z.number ≡ s.operation → deletes id z.request ≡ true → is_among z.path (named_paths s) ≡ false) (answered_row token a) s.ledger
            (λ z j m f.
            let same = answered_row_same token a z in
            ap (λ q. is_among q (named_paths s)) same.path ∙ h.unretained g z id j (sym same.number ∙ m) (ap (deletes id) (sym same.request) ∙ f)) c i n d;
        restoring = λ g.
            restoring_answered s.operation s.ledger (answers_of s) s.tokens p of_list token named a before after its.0 its.1 (row_is x s fits) fits.paths
            s.before (h.restoring g);
        needs = needs_then;
        ranked = ranked_alike s.held then_.held h.ranked ranked_then;
      }

      outcome_at : Leaves s outcome (replying token a s)
      outcome_at = grind (arith, answered_left, closed_left)

    pub outcome_left : Leaves s outcome (replying token a s)
    outcome_left = on_option (pending_of token s) (λ e. absurd (true≢false (sym still ∙ ap is_some e))) (λ p e. outcome_at p e)

  -- a resource is kept
  module _ (out : List ℕ) (stage : Stage) (at : stage_of s.status ≡ Some stage) (path physical : List ℕ) (w : Why) (may : MayKeep stage out s path physical w) where
    abbrev kept : Entry
    kept = Entry.Kept number path physical w

    keeps_books : (t : StackState) → let u : StackState = record t { operation = s.operation; entries = s.entries; status = s.status; ledger = s.ledger } in
        HasFewer s u → ((r : Held) → In r u.made → r.needs ≡ needs_at r.path s → r.needs ≡ needs_at r.path u) → ((p : Pending) → In p u.tokens → In p s.tokens)
        → ((p : Pending) (c : Call) (r : Held) → In p s.tokens → In c s.ledger → p.token ≡ c.token → In r (resources_of u)
        → deletes r.physical c.request ≡ true → In p u.tokens) → Leaves s kept u
    keeps_books t few needs less stay = record {
      operation = refl;
      entries = refl;
      goes = λ g. refl;
      books = search (append-nil, booked_fewer, fewer_all);
      unretained = h.unretained;
      restoring = λ g. absurd (grind (arith, some_is));
      needs = λ r i. needs r i (needs_alike s h.needs r (few.made r i));
      ranked = ranked_alike s.held t.held h.ranked few.held;
    }

    no_create : (id : List ℕ) (p : Pending) → deletes id p.request ≡ true → is_create_at path p ≡ false
    no_create id p d = none_false (is_create_at path p) (λ e. grind arith)

    off_it : (r : Held) (q : Request) → deletes r.physical q ≡ true → (r.physical ≡ physical → ⊥) → option_map_or (bytes_eq physical) (id_named q) false ≡ false
    off_it r q d n = grind (arith, none_false, bytes_eq-Decides)

    as_asked : (p : Pending) (c : Call) (r : Held) → In p s.tokens → In c s.ledger → p.token ≡ c.token → deletes r.physical c.request ≡ true
        → deletes r.physical p.request ≡ true
    as_asked p c r i j e d = ap (deletes r.physical) (sym (row_is x s fits p c i j e).request) ∙ d

    unknown : Leaves s kept (keeping_unknown path w s)
    unknown =
        keeps_books (keeping_unknown path w s) (record { held = alike_itself s.held; made = alike_itself s.made }) (λ r i n. n)
        (λ p i. (in_filter (λ q. not (is_create_at path q)) s.tokens p i).0)
        (λ p c r i j e l d. in_kept (λ q. not (is_create_at path q)) s.tokens p i (ap not (no_create r.physical p (as_asked p c r i j e d))))

    known : Leaves s kept (keeping_known path physical w s)
    known =
        keeps_books (keeping_known path physical w s) (record { held = (deleting_fewer physical s).held; made = (deleting_fewer physical s).made }) (λ r i n. n)
        (λ p i. (in_filter (λ q. not (is_on physical q)) s.tokens p i).0)
        (λ p c r i j e l d. in_kept (λ q. not (is_on physical q)) s.tokens p i (ap not (off_it r p.request (as_asked p c r i j e d) (deleted_gone physical s r l))))

    pub kept_left : Leaves s kept (keeping path physical w s)
    kept_left = grind (arith, unknown, known, keeps_books, fewer_itself)

-- A phase begins, an operation begins or ends, or an opening comes, and what a stack's entries and its ledger say of each other stays so.

-- a resource as it is left where its template is complete is at its path, under its id
all_settled : (whole : Whole) (s : StackState) (hs : List Held) (h : Held) → In h (map (settled_in whole s) hs ++ []) → IsLike hs h
all_settled whole s hs h i =
    each_mapped (IsLike hs) (settled_in whole s) hs
    (λ h i. record { one = h; of_list = i; path = grind arith; physical = grind arith }) h
    (subst (In h) (append-nil (map (settled_in whole s) hs)) i)

mark_keeps : (ps : List Pending) → KeepsThing (marked ps)
mark_keeps ps = record { path = λ h. grind arith; physical = λ h. grind arith; needs = λ h. grind arith; superseded = λ h. grind arith }

module _ (s : StackState) (h : IsBooked s) where
  like_books : (hs : List Held) → ((r : Held) → In r hs → IsLike (resources_of s) r) → AreBooked s.operation s.ledger (answers_of s) s.tokens hs
  like_books hs less = booked_fewer s.operation s.ledger (answers_of s) s.tokens (resources_of s) h.books s.tokens hs (λ q i. i) less (λ q k r i j e l d. i)

  -- A phase begins.
  module _ (schemas : List Schema) (name : List ℕ) (x : World)
      (forward : s.status ≡ Status.UpdateInProgress → (k : Call) → In k s.ledger → IsTrue (goes_forward k.status)) (number : ℕ) where
    anew_books : (hs : List Held) → ((r : Held) → In r hs → IsLike (resources_of s) r) → AreBooked s.operation (map anew s.ledger) (answers_of s ++ []) s.tokens hs
    anew_books hs less = rw (append-nil (answers_of s)) (booked_anew s.operation s.ledger (answers_of s) s.tokens hs (like_books hs less))

    turning_left : (p : Phase) (c : Option Cause) → (turned s.status p ≡ Status.DeleteInProgress → ⊥)
        → (turned s.status p ≡ Status.UpdateRollbackInProgress → s.status ≡ Status.UpdateInProgress) → Leaves s (Entry.Phase number p c) (turning p s)
    turning_left p c stays back = record {
      operation = refl;
      entries = refl;
      goes = λ g. refl;
      books = anew_books (resources_of s) (λ r i. record { one = r; of_list = i; path = refl; physical = refl });
      unretained = λ g. absurd (stays g);
      restoring = λ g.
          restoring_begun s.operation (map anew s.ledger) s.tokens s.before (answers_of s ++ [])
          (λ k i n r. each_mapped (λ z. is_restoring z ≡ true → ⊥) anew s.ledger (λ z j. λ r. grind arith) k i r);
      needs = h.needs;
      ranked = h.ranked;
    }

    pub phase_left : (p : Phase) (c : Option Cause) → MayTurn schemas name x s p c → (p ≡ Phase.Clean → AreRanked (turned_effect p s).stack.held)
        → Leaves s (Entry.Phase number p c) (turned_effect p s).stack
    phase_left Phase.Clean None may ranked = record {
      operation = refl;
      entries = refl;
      goes = λ g. refl;
      books = anew_books _ (all_settled (whole_now (turning Phase.Clean s)) (turning Phase.Clean s) (resources_of s));
      unretained = λ g. absurd (cc);
      restoring = λ g. absurd (cc);
      needs = λ r i. elim i [ ];
      ranked = ranked refl;
    }
    phase_left Phase.Clean (Some c) may ranked = absurd may
    phase_left Phase.Back None may ranked = absurd may
    phase_left Phase.Back (Some c) may ranked = turning_left Phase.Back (Some c) (λ e. grind arith) (back s.status may.0) where
      back : (st : Status) → stage_of st ≡ Some Forward → turned st Phase.Back ≡ Status.UpdateRollbackInProgress → st ≡ Status.UpdateInProgress
      back st at e = grind arith
    phase_left Phase.BackClean None may ranked = turning_left Phase.BackClean None (λ e. cc) (λ e. absurd (cc))
    phase_left Phase.BackClean (Some c) may ranked = absurd may

  -- An operation ends.
  module _ (schemas : List Schema) (name : List ℕ) (x : World) (number : ℕ) (failed : List (List ℕ)) where
    abbrev done : Status → Entry
    done state = Entry.Done number state failed

    ends_left : (state : Status) → is_in_progress state ≡ false → (t : StackState) → ((r : Held) → In r (resources_of t) → IsLike (resources_of s) r)
        → ((r : Held) → In r t.made → r.needs ≡ needs_at r.path t) → AreRanked t.held
        → Leaves s (done state) (record t { operation = s.operation; entries = s.entries; status = state; ledger = s.ledger; tokens = s.tokens })
    ends_left state over t less needs ranked = grind (arith, append-nil)

    stopped : HasFewer s (stopping Status.CreateComplete s)
    stopped = record { held = mapped_alike (marked s.tokens) (mark_keeps s.tokens) s.held; made = mapped_alike (marked s.tokens) (mark_keeps s.tokens) s.made }

    like_stopped : (r : Held) → In r (map (marked s.tokens) s.held ++ map (marked s.tokens) s.made) → IsLike (resources_of s) r
    like_stopped = fewer_all s (stopping Status.CreateComplete s) stopped

    plain_left : (state : Status) → is_in_progress state ≡ false → (ending state (stopping state s)).stack ≡ stopping state s
        → Leaves s (done state) (ended_effect state s).stack
    plain_left state over is = grind (arith, ends_left, like_stopped, needs_alike, stopped, ranked_alike)

    pub done_left : (state : Status) → EndsAs schemas name x s s.status state → (state ≡ Status.CreateComplete
        → AreRanked (ended_effect state s).stack.held) → (s.status ≡ Status.RollbackInProgress → s.held ≡ [])
        → Leaves s (done state) (ended_effect state s).stack
    done_left Status.CreateComplete ends ranked unheld =
        ends_left Status.CreateComplete refl (ended_effect Status.CreateComplete s).stack
        (λ r i.
        let u : StackState = stopping Status.CreateComplete s in
        let k = all_settled (whole_now u) u (resources_of u) r i in
        let l = like_stopped k.one k.of_list in
        record { one = l.one; of_list = l.of_list; path = l.path ∙ k.path; physical = l.physical ∙ k.physical })
        (λ r i. elim i [ ]) (ranked refl)
    done_left Status.RollbackFailed ends ranked unheld =
        ends_left Status.RollbackFailed refl (ended_effect Status.RollbackFailed s).stack
        (λ r i. like_stopped r (subst (In r) (append-nil (map (marked s.tokens) s.held ++ map (marked s.tokens) s.made)) i)) (λ r i. elim i [ ])
        (record {
          rank = plan_rank s;
          lower = λ g k i j c d n. needs_lower s g.path k.path (among_in k.path (needs_at g.path s) (ap (is_among k.path)
              (sym (needs_alike s h.needs g (stopped.made g
              (subst (λ hs. In g (map (marked s.tokens) hs ++ map (marked s.tokens) s.made)) (unheld (grind arith)) i)))) ∙ n));
        })
    done_left Status.UpdateRollbackComplete ends ranked unheld = plain_left Status.UpdateRollbackComplete refl refl
    done_left Status.RollbackComplete ends ranked unheld = plain_left Status.RollbackComplete refl refl
    done_left Status.DeleteComplete ends ranked unheld = plain_left Status.DeleteComplete refl refl
    done_left state ends ranked unheld = plain_left state (grind arith) refl

  -- An operation begins.
  module _ (number : ℕ) (above : s.operation < number) (low : (c : Call) → In c s.ledger → c.number ≤ s.operation) (name : List ℕ) (k : Begun) where
    abbrev beginning_entry : Entry
    beginning_entry = Entry.Begin number name k

    other_number : (n : ℕ) → n ≤ s.operation → n ≡ number → ⊥
    other_number n l e = omega (arith, above, l, e)

    row_before : (c : Call) → In c (calls_kept k s) → (c.number ≤ s.operation) × (c.doubts ≡ 0)
    row_before = each_mapped (λ c. (c.number ≤ s.operation) × (c.doubts ≡ 0)) anew kept (λ c i. (by (continues k) c i, refl)) where
      kept : List Call
      kept = cond (continues k) s.ledger (filter (is_open_call s.tokens) s.ledger)

      by : (b : Bool) (c : Call) → In c (cond b s.ledger (filter (is_open_call s.tokens) s.ledger)) → c.number ≤ s.operation
      by b c i = grind (arith, in_filter)

    none_own : (es : List Entry) → ((d : Entry) → In d es → In d s.entries) → filter (is_of number) es ≡ []
    none_own [] of_stack = refl
    none_own (d ∷ es) of_stack = cc (
      none_false (is_of number d) (λ e. other_number number (h.numbered d number (of_stack d here) e) refl),
      none_own es (λ e i. of_stack e (there i)),
    )

    pub begins : (t : StackState) → t.operation ≡ number → t.ledger ≡ calls_kept k s → (es : List Entry) → ((d : Entry) → In d es → In d s.entries)
        → t.entries ≡ es ++ beginning_entry ∷ [] → ((r : Held) → In r t.made → r.needs ≡ needs_at r.path t) → AreRanked t.held → IsBooked t
    begins t operation ledger es of_stack entries needs ranked = record {
      books = grind (arith, own_is, booked_begun, other, row_before);
      numbered = λ d n i o. rw operation (below d n (subst (In d) entries i) o);
      none_failed = λ g. ap (flat_map failed_in) own_is;
      unretained = λ g c id i n. absurd (other c i n);
      restoring = λ g. restoring_begun t.operation t.ledger t.tokens t.before (answers_of t) (λ c i n r. other c i n);
      needs = needs;
      ranked = ranked;
    } where
      own_is : own_of t ≡ beginning_entry ∷ []
      own_is = grind (arith, filter-append, none_own, eq-eqb)

      other : (c : Call) → In c t.ledger → c.number ≡ t.operation → ⊥
      other c i n = other_number c.number (row_before c (subst (In c) ledger i)).0 (n ∙ operation)

      below : (d : Entry) (n : ℕ) → In d (es ++ beginning_entry ∷ []) → is_of n d ≡ true → n ≤ number
      below d n i = in_more (λ z. is_of n z ≡ true → n ≤ number) beginning_entry es
          (λ z j e. let l : n ≤ s.operation = h.numbered z n (of_stack z j) e in omega (arith, l, above))
          (λ e. let same : n ≡ number = eqb-true n number e in omega (arith, same)) d i

  -- An opening.
  pub opened_booked : (epoch : ℕ) (lanes : List (List ℕ × List ℕ)) (lines : List (List ℕ))
      → IsBooked (record s { ledger = map anew s.ledger; entries = entries_with (Entry.Opened epoch lanes) s.entries; events = lines })
  opened_booked epoch lanes lines = let own_is = own_opened s.operation epoch lanes s.entries in record {
    books = rw (ap replies_in own_is) (booked_anew s.operation s.ledger (answers_of s) s.tokens (resources_of s) h.books);
    numbered = λ d n i. in_opened (λ z. is_of n z ≡ true → n ≤ s.operation) epoch lanes s.entries
        (λ z j e. h.numbered z n j e) (λ e. absurd (true≢false (sym e))) d i;
    none_failed = λ g. ap (flat_map failed_in) own_is ∙ h.none_failed g;
    unretained = λ g c id i n d.
        ap (λ es. is_among c.path (flat_map named_in es)) own_is
        ∙ each_mapped (λ z. z.number ≡ s.operation → deletes id z.request ≡ true → is_among z.path (named_paths s) ≡ false) anew s.ledger
        (λ z j m f. h.unretained g z id j m f) c i n d;
    restoring = λ g. rw (ap replies_in own_is) (restoring_anew s.operation s.ledger (answers_of s) s.tokens s.before (h.restoring g));
    needs = h.needs;
    ranked = h.ranked;
  }

  -- A change set.
  pub reviewed_booked : (number : ℕ) (sets : List KeptSet) (lines : List (List ℕ))
      → IsBooked (record s { status = reviewed s.status; number = number; sets = sets; events = lines })
  reviewed_booked number sets lines = grind arith

-- What a stack's entries and its ledger say of each other stays so with each entry that is written.

-- the operation of this number is in progress on the stack, and the entry may follow there
pub record GoesOn (schemas : List Schema) (x : World) (out : List ℕ) (number : ℕ) (e : Entry) (name : List ℕ) (s : StackState) : Type 0 where
  pub stage : Stage
  pub at : stage_of s.status ≡ Some stage
  pub may : MayFollowIn schemas name x out s stage e
  pub going : is_in_progress s.status ≡ true
  pub is : s.operation ≡ number

pub goes_on : (schemas : List Schema) (x : World) (out : List ℕ) (number : ℕ) (e : Entry) (name : List ℕ) (s : StackState)
    → stack_of_operation number x ≡ Some (name, s) → MayFollowOn schemas number x out e → GoesOn schemas x out number e name s
goes_on schemas x out number e name s on m = grind (arith, in_stage, is_working, numbered_so)

skip_keeps : (paths : List (List ℕ)) (before : List Held) → KeepsThing (skipped_in paths before)
skip_keeps paths before = record { path = λ h. grind arith; physical = λ h. grind arith; needs = λ h. grind arith; superseded = λ h. grind arith }

-- an operation begins
begun_booked : (place number : ℕ) (name : List ℕ) (k : Begun) (s : StackState) → IsBooked s → s.operation < number → ((c : Call)
    → In c s.ledger → c.number ≤ s.operation) → IsBooked (effect_at place (Entry.Begin number name k) s).stack
begun_booked place number name (Begun.Create source) s h above low =
    begins s h number above low name (Begun.Create source) _ refl refl [] (λ d i. elim i [ ]) refl (λ r i. elim i [ ]) h.ranked
begun_booked place number name (Begun.Update source) s h above low =
    begins s h number above low name (Begun.Update source) _ refl refl [] (λ d i. elim i [ ]) refl (λ r i. elim i [ ]) h.ranked
begun_booked place number name (Begun.Delete paths) s h above low =
    begins s h number above low name (Begun.Delete paths) _ refl refl [] (λ d i. elim i [ ]) refl h.needs h.ranked
begun_booked place number name (Begun.Continue paths) s h above low =
    begins s h number above low name (Begun.Continue paths) _ refl refl s.entries (λ d i. i) refl h.needs
    (ranked_alike s.held (map (skipped_in paths s.before) s.held) h.ranked (mapped_alike (skipped_in paths s.before) (skip_keeps paths s.before) s.held))

module _ (schemas : List Schema) (x : World) (out : List ℕ) (name : List ℕ) (s : StackState) (fits : Fits x s) (apart : AreApart x) (was : known_stack name x ≡ s)
    (c : Course schemas name x s) where
  abbrev place : ℕ
  place = x.place + 1

  abbrev Now : Entry → Type 0
  Now e = IsBooked (effect_at place e s).stack

  abbrev WasWhole : Entry → Type 0
  WasWhole e = HoldsIfWhole name (world_after x e) (effect_at place e s).stack (effect_at place e s).stack.status

  own_now : (e : Entry) → MayFollow schemas x out e → IsNew x e → stack_for e x ≡ Some (name, s) → WasWhole e → Now e
  own_now (Entry.Begin number n k) may new f whole =
      let low : s.operation ≤ x.operation = grind arith in
      let next : number ≡ x.operation + 1 = may.0 in
      begun_booked place number n k s c.booked (omega (arith, low, next)) fits.numbers
  own_now (Entry.Kept number path physical w) may new f whole =
      let g = goes_on schemas x out number (Entry.Kept number path physical w) name s f may in
      booked_then s c.booked g.going _ (eq-eqb s.operation number g.is) (λ es. refl) refl _
      (kept_left name x s fits c.booked number f out g.stage g.at path physical w g.may) _
  own_now (Entry.Intent number token lane path r) may new f whole =
      let g = goes_on schemas x out number (Entry.Intent number token lane path r) name s f may in
      booked_then s c.booked g.going _ (eq-eqb s.operation number g.is) (λ es. refl) refl _
      (intent_left schemas name x s fits out c.booked g.stage g.at token lane path r g.may
      (λ u. (subst (IsOnCourse schemas name x s) u c.stage).single_before) number g.is) _
  own_now (Entry.Outcome number token a before after) may new f whole =
      let g = goes_on schemas x out number (Entry.Outcome number token a before after) name s f may in
      booked_then s c.booked g.going _ (eq-eqb s.operation number g.is) (λ es. refl) refl _
      (outcome_left name x s fits c.booked number f token a before after g.may.1 g.may.2 new) _
  own_now (Entry.Phase number p w) may new f whole =
      let g = goes_on schemas x out number (Entry.Phase number p w) name s f may in
      booked_then s c.booked g.going _ (eq-eqb s.operation number g.is) (λ es. refl) refl _
      (phase_left s c.booked schemas name x (λ u k i. ((subst (IsOnCourse schemas name x s) u c.stage).1.calls k i).1)
      number p w g.may.1 (λ e. grind (arith, whole_ranked))) _
  own_now (Entry.Done number state failed) may new f whole =
      let g = goes_on schemas x out number (Entry.Done number state failed) name s f may in
      booked_then s c.booked g.going _ (eq-eqb s.operation number g.is) (λ es. refl) refl _
      (done_left s c.booked schemas name x number failed state g.may.2 (λ e. grind (arith, whole_ranked))
      (λ u. (subst (IsOnCourse schemas name x s) u c.stage).none_held)) _
  own_now v0 may new f whole = grind (arith, reviewed_booked)

  opening_now : (e : Entry) → is_opening e ≡ true → Now e
  opening_now (Entry.Opened epoch lanes) o = opened_booked s c.booked epoch lanes _
  opening_now e o = absurd (true≢false (sym o))

pub stays_booked : StayBooked
stays_booked schemas x out e name s t w c whole = by w.becomes whole where
  by : {t : StackState} → BecomesBy x e name s t → HoldsIfWhole name (world_after x e) t t.status → IsBooked t
  by (of_it f) whole = own_now schemas x out name s w.fits w.apart w.was c e w.may w.new f whole
  by (at_opening o) whole = opening_now schemas x out name s w.fits w.apart w.was c e o
  by (another o f) whole = c.booked

pub none_booked : IsBooked no_stack
none_booked = record {
  books = booked_begun 0 [] [] [] (λ c i. elim i [ ]) (λ c i. elim i [ ]);
  numbered = λ e n i. elim i [ ];
  none_failed = λ g. refl;
  unretained = λ g c id i. elim i [ ];
  restoring = λ g. restoring_begun 0 [] [] [] [] (λ c i. elim i [ ]);
  needs = λ r i. elim i [ ];
  ranked = record { rank = λ p. 0; lower = λ h g i. elim i [ ] };
}
