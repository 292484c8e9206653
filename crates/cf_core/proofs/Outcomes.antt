-- What answers, phases, ends and what is kept move of the account; and the entries of an operation take nothing of another stack.
use Rattle.std.proofs.Common.{◌≡◌, ℕ, true, List, [], ◌∷◌, ◌++◌, Option, Some, None, refl, ap, ◌+◌, false, Bool, ◌&&◌, sym, subst, ◌∙◌, true≢false, ◌||◌, ◌==◌, ◌≢◌, ◌⊎◌, inl, inr, find, unwrap_or, map, arith, not, filter}
use Rattle.cf_core.proofs.Words.{AreOwn, AreTied, Cause, Code, Dict, DoneMoves, DoubtMoves, Entry, GivenUp, Held, HeldStatus, In, IsLocal, IsOfLane, IsOnce, IsSettledCall, KeptMay, KeptMoves, Lanes, Leftover as Left, StacksByName, OneStack, Open, OutcomeMoves, Pending, Phase, PhaseMoves, Reply, Request, Resource, Role, Settled, Settlement, StackState, Status, Stranger, Thing, Why, World, account_of, after_last, all_differ, answered as answer_on, ascends, bytes_eq, called_of, change_first, changed_by, changing, closing, completing, current_at, dropped, effect_at, ended_effect, ending, for_good, has_leftover, has_physical, has_token, heard, held_in, here, is_at_rest, is_create_at, is_created, is_done_entry, is_in_progress, is_on, is_opening, is_opened_since, is_restore, keeping, keeping_known, keeping_unknown, lane_of, leaves as gives_up, list_any, lost_in, lost_on, made_of, made_thing, marked, named_by, lane_types, names_id, of_leftover, on_stack as stays_listed, open_as, open_in, open_on, opening_heard, option_map_or, option_or, replied, resources_of, rested, resting_in, role_after, role_found, role_in, role_on, set_thing, settled_in, status_made, stopping, terms_at, there as there_, thing_of, told_in, turned_effect, turning, unknown_id, updating, value_at, where_physical, whole_now, with_status, without, without_token}
use Rattle.cf_core.proofs.Lemmas.{answered_left, any_of, at_other, at_same, bytes_or, differ_end, differ_less, differ_rest, each_map, eq-eqb, eqb-true, find-append, found_else, found_one, if_other, if_same, list_any-append, map-id, ne_eqb, none_false, none_passes, number_or, or_right, other_bytes, tail_ascends, unmapped, value_below}
use Rattle.cf_agree.proofs.Words.{bytes_same, same_bytes}
use Rattle.cf_agree.specs.{Account.Role.Leftover, Moves.stays}
use Rattle.cf_desired.specs.Whole.{Whole}
use Rattle.cf_effect.proofs.Closed.{any_found}
use Rattle.cf_plan.specs.Lanes.{written_in}
use Rattle.std.proofs.lemmas.Bool.Decides.{nat_tests}
use Rattle.std.specs.{Option.option_map, Prelude.cond}
use Rattle.cf_core.proofs.Stacks.{IsOnOne, Sends, call_same, held_role, is_working, lost_same, map_none, not_resting, on_bool, on_one, on_option, once_here, open_closed, open_not_own, open_now, open_of, open_same, option_end, or_none, or_resource, or_some, or_stranger, resting_same, role_alike, role_of, role_alone, role_own, role_same, role_stranger, same_account, told_more, told_same}
use Rattle.cf_core.proofs.Statuses.{turned_goes, turned_status}
use Rattle.cf_agree.specs.Account as account

-- What an answer for good does to the role of an id on its stack.

abbrev under : List ℕ → List Held → Option Held
under i hs = find (has_physical i) hs

-- what is found where the first that passes is changed
first_same : {A : Type 0} (test : A → Bool) (change : A → A) → ((a : A) → test (change a) ≡ test a) → (xs : List A) → find test (change_first test change xs) ≡ option_map change (find test xs)
first_same test change keeps [] = refl
first_same test change keeps (x ∷ xs) = let ih = first_same test change keeps xs in let k = keeps x in grind arith

pub gone_without : (i j : List ℕ) (hs : List Held) → i ≡ j → under i (without j hs) ≡ None
gone_without i j [] e = refl
gone_without i j (h ∷ hs) e = let ih = gone_without i j hs e in let k = ap (λ k. bytes_eq k h.physical) e in grind arith

pub other_without : (i j : List ℕ) (hs : List Held) → i ≢ j → under i (without j hs) ≡ under i hs
other_without i j [] e = refl
other_without i j (h ∷ hs) e = let ih = other_without i j hs e in let a = bytes_same j h.physical in let b = bytes_same i h.physical in grind arith

pub found_same : (name : List ℕ) (o q : Option Held) (b : Bool) → option_map (thing_of name) o ≡ option_map (thing_of name) q → role_found name o b ≡ role_found name q b
found_same name o q b e = grind arith

-- what an answer leaves of a stack but for its resources
pub record Leaves (s s' : StackState) : Type 0 where
  pub tokens : s'.tokens ≡ s.tokens
  pub status : s'.status ≡ s.status
  pub abandoned : s'.abandoned ≡ s.abandoned
  pub leftovers : s'.leftovers ≡ s.leftovers

-- the resource of an id is changed, held or made
module _ (j : List ℕ) (change : Held → Held) (keeps : (h : Held) → (change h).physical ≡ h.physical) (s : StackState) where
  same_at : (hs : List Held) → under j (where_physical j change hs) ≡ option_map change (under j hs)
  same_at hs = first_same (has_physical j) change (λ h. ap (bytes_eq j) (keeps h)) hs

  other_at : (i : List ℕ) (hs : List Held) → i ≢ j → under i (where_physical j change hs) ≡ under i hs
  other_at i hs n = grind (arith, found_else, other_bytes)

  pub changing_other : (i : List ℕ) → i ≢ j → held_in i (changing j change s) ≡ held_in i s
  changing_other i n = let h = other_at i s.held n in let m = other_at i s.made n in grind arith

  pub changing_same : held_in j (changing j change s) ≡ option_map change (held_in j s)
  changing_same = let h = same_at s.held in let m = same_at s.made in let a = any_found (has_physical j) s.held in grind arith

status_thing : (name j i : List ℕ) (state : HeldStatus) (s : StackState) → option_map (thing_of name) (held_in i (with_status j state s)) ≡ option_map (thing_of name) (held_in i s)
status_thing name j i state s = elim (bytes_or i j) [
  | inl e ↦ grind (arith, changing_same)
  | inr e ↦ ap (option_map (thing_of name)) (changing_other j (λ h. record h { status = state }) (λ h. refl) s i e)
]

pub leaves : (b : Bool) (path : List ℕ) (r : Request) (a : Reply) (s : StackState) → Leaves s (answer_on b path r a s)
leaves b path r a s = grind (arith, answered_left)

-- what an answer for good does to the role of an id on the stack, as to that of all: it makes the id, or is of a call that names the id,
-- or leaves its role
pub data OnStack (name : List ℕ) (o : Open) (r : Request) (y : Settlement) (s s' : StackState) (i : List ℕ) : Type 0 where
  made : (k : List ℕ) (q v : Dict) → r ≡ Request.Create k q → y ≡ Settlement.Success i v
      → (held_in i s ≡ None → (f : List ℕ → Role) → role_on name s' i ≡ role_after o r y f i) → OnStack name o r y s s' i
  named : named_by r ≡ Some i
      → ((h : Held) → held_in i s ≡ Some h → has_leftover i s.leftovers ≡ false → (f : List ℕ → Role) → f i ≡ Resource (thing_of name h)
      → role_on name s' i ≡ role_after o r y f i) → OnStack name o r y s s' i
  kept : role_on name s' i ≡ role_on name s i → ((f : List ℕ → Role) → role_after o r y f i ≡ f i) → OnStack name o r y s s' i

module _ (name : List ℕ) (b : Bool) (p : Pending) (s : StackState) where
  abbrev o : Open
  o = open_as name p

  abbrev after : Request → Reply → StackState
  after r a = answer_on b p.path r a s

  -- the deletion of what is there
  deleted : (j : List ℕ) (y : Settlement) (s' : StackState) → ((f : List ℕ → Role) (i : List ℕ) → role_after o (Request.Delete j) y f i ≡ cond (bytes_eq i j) Stranger (f i)) → s'.held ≡ without j s.held → s'.made ≡ without j s.made → s'.leftovers ≡ s.leftovers
      → (i : List ℕ) → OnStack name o (Request.Delete j) y s s' i
  deleted j y s' turns hd md lf i = elim (bytes_or i j) [
    | inl e ↦ named (ap Some (sym e)) (λ h k l f g. cc (gone_without i j s.held e, gone_without i j s.made e, turns f i, if_same i j Stranger (f i) e))
    | inr e ↦ kept (cc (other_without i j s.held e, other_without i j s.made e)) (λ f. turns f i ∙ if_other i j Stranger (f i) e)
  ]

  -- a refusal changes the status of a resource at most
  refused : (i : List ℕ) (r : Request) (y : Settlement) (s' : StackState) → option_map (thing_of name) (held_in i s') ≡ option_map (thing_of name) (held_in i s) → s'.leftovers ≡ s.leftovers
      → ((f : List ℕ → Role) → role_after o r y f i ≡ f i) → OnStack name o r y s s' i
  refused i r y s' e lf k = kept (ap (λ ls. role_found name (held_in i s') (has_leftover i ls)) lf ∙ found_same name (held_in i s') (held_in i s) (has_leftover i s.leftovers) e) k

  created : (k : List ℕ) (q : Dict) (j : List ℕ) (v : Dict) (i : List ℕ) → OnStack name o (Request.Create k q) (Settlement.Success j v) s (after (Request.Create k q) (Reply.Success j v)) i
  created k q j v i =
      let one : Held = made_of (terms_at p.path s) (status_made (current_at p.path s.held)) p.path k q j v in
      let both = find-append (has_physical i) s.made (one ∷ []) in
      elim (bytes_or i j) [
        | inl n ↦ made k q v refl (ap (λ z. Settlement.Success z v) (sym n))
            (λ h f. let z = or_none (under i s.held) (under i s.made) h in cc (both, z.0, z.1, if_same i j (Some one) None n, if_same i j (Resource (made_thing o k q v)) (f i) n))
        | inr n ↦ kept (cc (both, if_other i j (Some one) None n, option_end (under i s.made))) (λ f. if_other i j (Resource (made_thing o k q v)) (f i) n)
      ]

  updated : (j : List ℕ) (q : Dict) (j' : List ℕ) (v : Dict) (i : List ℕ) → OnStack name o (Request.Update j q) (Settlement.Success j' v) s (after (Request.Update j q) (Reply.Success j' v)) i
  updated j q j' v i =
      let left = (leaves b p.path (Request.Update j q) (Reply.Success j' v) s).leftovers in
      elim (bytes_or i j) [
        | inl n ↦ named (ap Some (sym n)) (λ h k l f g. cc (changing_same j (updating q v) (λ h. refl) s, if_same i j (set_thing q v (f i)) (f i) n))
        | inr n ↦ kept (cc (left, changing_other j (updating q v) (λ h. refl) s i n)) (λ f. if_other i j (set_thing q v (f i)) (f i) n)
      ]

  pub on_stack : (r : Request) (a : Reply) (y : Settlement) → for_good a ≡ Some y → (i : List ℕ) → OnStack name o r y s (after r a) i
  on_stack r a y e i = subst (λ z. OnStack name o r z s (after r a) i) (ap (λ o. unwrap_or o y) e) (by r a e) where
    by_restore : (d : Bool) (j : List ℕ) → option_map (thing_of name) (held_in i (cond d (with_status j HeldStatus.UpdateFailed s) s)) ≡ option_map (thing_of name) (held_in i s)
    by_restore v0 j = grind (arith, status_thing)

    by : (r : Request) (a : Reply) → for_good a ≡ Some y → OnStack name o r (unwrap_or (for_good a) y) s (after r a) i
    by (Request.Create k q) (Reply.Success j v) e = created k q j v i
    by (Request.Update j q) (Reply.Success j' v) e = updated j q j' v i
    by (Request.Delete j) (Reply.Success j' v) e = deleted j (Settlement.Success j' v) (after (Request.Delete j) (Reply.Success j' v)) (λ f i. refl) refl refl refl i
    by (Request.Create k q) (Reply.Failed c) e = kept refl (λ f. refl)
    by (Request.Update j q) (Reply.Failed c) e = grind (arith, refused, by_restore, leaves, Request.Update, Reply.Failed)
    by (Request.Delete j) (Reply.Failed Code.NotFound) e = deleted j (Settlement.Failed Code.NotFound) (after (Request.Delete j) (Reply.Failed Code.NotFound)) (λ f i. refl) refl refl refl i
    by (Request.Delete j) (Reply.Failed c) e =
        refused i (Request.Delete j) (Settlement.Failed c) (after (Request.Delete j) (Reply.Failed c)) (status_thing name j i HeldStatus.DeleteFailed s) (leaves b p.path (Request.Delete j) (Reply.Failed c) s).leftovers (λ f. refl)
    by r Reply.Doubt e = absurd (cc)

-- An Outcome moves the account.

pub token_gone : (t u : ℕ) (ps : List Pending) → t ≡ u → find (has_token t) (without_token u ps) ≡ None
token_gone t u [] e = refl
token_gone t u (p ∷ ps) e = let ih = token_gone t u ps e in grind (arith, nat_tests)

pub token_left : (t u : ℕ) (ps : List Pending) → t ≢ u → find (has_token t) (without_token u ps) ≡ find (has_token t) ps
token_left t u [] e = refl
token_left t u (p ∷ ps) e = let ih = token_left t u ps e in grind (arith, nat_tests)

-- what a stack of which an id is a stranger, or a resource, holds of it
pub found_none : (name : List ℕ) (o : Option Held) (b : Bool) → role_found name o b ≡ Stranger → (o ≡ None) × (b ≡ false)
found_none name o b e = grind arith

pub found_some : (name : List ℕ) (o : Option Held) (b : Bool) (r : Thing) → role_found name o b ≡ Resource r → (h : Held) × (o ≡ Some h) × (thing_of name h ≡ r)
found_some name o b r e = grind arith

-- the stack of a call that is open, answered so
abbrev pub answered_stack : ℕ → ℕ → ℕ → Reply → ℕ → ℕ → Pending → StackState → StackState
answered_stack place number token answer before after p s =
    (heard place (Entry.Outcome number token answer before after) s (stays_listed (closing token answer (answer_on (is_restore token s) p.path p.request answer s)))).stack

-- a doubt leaves a stack's lists as they were
pub record IsAlike (s s' : StackState) : Type 0 where
  pub held : s'.held ≡ s.held
  pub made : s'.made ≡ s.made
  pub leftovers : s'.leftovers ≡ s.leftovers
  pub tokens : s'.tokens ≡ s.tokens
  pub abandoned : s'.abandoned ≡ s.abandoned
  pub status : s'.status ≡ s.status

pub in_doubt : (place number token before after : ℕ) (s : StackState) → IsAlike s (effect_at place (Entry.Outcome number token Reply.Doubt before after) s).stack
in_doubt place number token before after s = grind arith

-- Where what the account tells is found: the stack of a resource and of an open call.

-- a resource that is held stands among those of its stack, under its id
pub held_stands : (i : List ℕ) (s : StackState) (h : Held) → held_in i s ≡ Some h → In h (resources_of s) × (i ≡ h.physical)
held_stands i s h e = let (j, t) = found_one (has_physical i) (resources_of s) h (find-append (has_physical i) s.held s.made ∙ e) in (j, bytes_same i h.physical t)

-- the value of a name stays behind one of another name
value_behind : (n : List ℕ) (t : List ℕ × StackState) (ss : StacksByName) (s : StackState) → ascends (t ∷ ss) ≡ true → value_at n ss ≡ Some s → value_at n (t ∷ ss) ≡ Some s
value_behind n t ss s d e = let none = value_below t.0 ss d in elim (bytes_or n t.0) [ inl k ↦ absurd (cc) | inr k ↦ if_other n t.0 (Some t.1) (value_at n ss) k ∙ e ]

-- the stack of a resource
pub record Holds (ss : StacksByName) (i : List ℕ) (r : Thing) : Type 0 where
  pub stack : StackState
  pub held : Held
  pub stands : value_at r.stack ss ≡ Some stack
  pub found : held_in i stack ≡ Some held
  pub same : thing_of r.stack held ≡ r

pub role_found_in : (ss : StacksByName) (i : List ℕ) (r : Thing) → ascends ss ≡ true → role_in ss i ≡ Resource r → Holds ss i r
role_found_in [] i r d e = absurd (cc)
role_found_in (t ∷ ss) i r d e = elim (or_resource (role_on t.0 t.1 i) (role_in ss i) r e) [
  | inl k ↦ (
      let (h, x, y) = found_some t.0 (held_in i t.1) (has_leftover i (t.1).leftovers) r k in
      let at : t.0 ≡ r.stack = ap (λ (q : Thing). q.stack) y in
      record { stack = t.1; held = h; stands = if_same r.stack t.0 (Some t.1) (value_at r.stack ss) (sym at); found = x; same = ap (λ n. thing_of n h) (sym at) ∙ y }
      )
  | inr k ↦ (let f = role_found_in ss i r (tail_ascends t.0 ss d) k.1 in record { stack = f.stack; held = f.held; stands = value_behind r.stack t ss f.stack d f.stands; found = f.found; same = f.same })
]

-- the stack of an open call
pub record Opens (ss : StacksByName) (t : ℕ) (o : Open) : Type 0 where
  pub stack : StackState
  pub pending : Pending
  pub stands : value_at o.stack ss ≡ Some stack
  pub found : find (has_token t) stack.tokens ≡ Some pending
  pub same : open_as o.stack pending ≡ o

pub open_found_in : (ss : StacksByName) (t : ℕ) (o : Open) → ascends ss ≡ true → open_in ss t ≡ Some o → Opens ss t o
open_found_in [] t o d e = absurd (cc)
open_found_in (s ∷ ss) t o d e = elim (or_some (open_on s.0 s.1 t) (open_in ss t) o e) [
  | inl k ↦ (
      let (p, x, y) = unmapped (open_as s.0) (find (has_token t) (s.1).tokens) o k in
      let at : s.0 ≡ o.stack = ap (λ (q : Open). q.stack) y in
      record { stack = s.1; pending = p; stands = if_same o.stack s.0 (Some s.1) (value_at o.stack ss) (sym at); found = x; same = ap (λ n. open_as n p) (sym at) ∙ y }
      )
  | inr k ↦ (let f = open_found_in ss t o (tail_ascends s.0 ss d) k.1 in record { stack = f.stack; pending = f.pending; stands = value_behind o.stack s ss f.stack d f.stands; found = f.found; same = f.same })
]

-- A doubt, a later phase and an end change nothing that the account tells.

-- the same is told of each resource, and the same calls are open and were given up
pub record Quiet (s s' : StackState) : Type 0 where
  pub things : (name i : List ℕ) → option_map (thing_of name) (held_in i s') ≡ option_map (thing_of name) (held_in i s)
  pub leftovers : s'.leftovers ≡ s.leftovers
  pub tokens : s'.tokens ≡ s.tokens
  pub abandoned : s'.abandoned ≡ s.abandoned

pub alike_quiet : (s s' : StackState) → s'.held ≡ s.held → s'.made ≡ s.made → s'.leftovers ≡ s.leftovers → s'.tokens ≡ s.tokens → s'.abandoned ≡ s.abandoned → Quiet s s'
alike_quiet s s' hd md lf tk ab = record { things = λ n i. cc; leftovers = lf; tokens = tk; abandoned = ab }

-- a resource's id and what is told of it stay
pub record LeavesThing (change : Held → Held) : Type 0 where
  pub physical : (h : Held) → (change h).physical ≡ h.physical
  pub thing : (name : List ℕ) (h : Held) → thing_of name (change h) ≡ thing_of name h

found_mapped : (name i : List ℕ) (change : Held → Held) (hs : List Held) → LeavesThing change → option_map (thing_of name) (find (has_physical i) (map change hs)) ≡ option_map (thing_of name) (find (has_physical i) hs)
found_mapped name i change [] l = refl
found_mapped name i change (h ∷ hs) l =
    let ih = found_mapped name i change hs l in let p = ap (bytes_eq i) (l.physical h) in let t = ap Some (l.thing name h) in grind arith

-- all resources come onto one list, changed so
quiet_joined : (change : Held → Held) (s s' : StackState) → LeavesThing change → s'.held ≡ map change (resources_of s) → s'.made ≡ [] → s'.leftovers ≡ s.leftovers → s'.tokens ≡ s.tokens → s'.abandoned ≡ s.abandoned → Quiet s s'
quiet_joined change s s' l hd md lf tk ab = grind (arith, option_end, found_mapped, find-append)

pub settled_leaves : (whole : Whole) (s : StackState) → LeavesThing (settled_in whole s)
settled_leaves whole s = record { physical = λ h. grind arith; thing = λ n h. grind arith }

pub marked_leaves : (ps : List Pending) → LeavesThing (marked ps)
marked_leaves ps = record { physical = λ h. grind arith; thing = λ n h. grind arith }

-- what an end and a later phase leave of a stack's calls and of what is told of it
quiet_ending : (state : Status) (s : StackState) → Quiet s (ending state s).stack
quiet_ending Status.CreateComplete s = quiet_joined (settled_in (whole_now s) s) s (completing (whole_now s) s) (settled_leaves (whole_now s) s) refl refl refl refl refl
quiet_ending Status.RollbackFailed s = quiet_joined (λ h. h) s (ending Status.RollbackFailed s).stack
    (record { physical = λ h. refl; thing = λ n h. refl }) (sym (map-id (resources_of s))) refl refl refl refl
quiet_ending state s = record { things = λ n i. refl; leftovers = refl; tokens = refl; abandoned = refl }

quiet_stopping : (state : Status) (s : StackState) → Quiet s (stopping state s)
quiet_stopping state s = grind (arith, found_mapped, marked_leaves)

quiet_turned : (p : Phase) (s : StackState) → Quiet s (turned_effect p s).stack
quiet_turned Phase.Clean s =
    quiet_joined (settled_in (whole_now s) (turning Phase.Clean s)) s (completing (whole_now s) (turning Phase.Clean s)) (settled_leaves (whole_now s) (turning Phase.Clean s)) refl refl refl refl refl
quiet_turned p s = record { things = λ n i. refl; leftovers = refl; tokens = refl; abandoned = refl }

pub phase_quiet : (place number : ℕ) (p : Phase) (cause : Option Cause) (s : StackState) → Quiet s (effect_at place (Entry.Phase number p cause) s).stack
phase_quiet place number p cause s = let q = quiet_turned p s in record { things = q.things; leftovers = q.leftovers; tokens = q.tokens; abandoned = q.abandoned }

pub done_quiet : (place number : ℕ) (state : Status) (failed : List (List ℕ)) (s : StackState) → Quiet s (effect_at place (Entry.Done number state failed) s).stack
done_quiet place number state failed s = let f = quiet_stopping state s in let g = quiet_ending state (stopping state s) in record {
  things = λ n i. g.things n i ∙ f.things n i;
  leftovers = g.leftovers;
  tokens = g.tokens;
  abandoned = g.abandoned;
}

-- some of the open calls are given up: what is found of those that are left, whether the one of a token is given up, and whether it
-- is a create that is
abbrev pub unless : (Pending → Bool) → Option Pending → Option Pending
unless test None = None
unless test (Some p) = cond (test p) None (Some p)

abbrev pub passes : (Pending → Bool) → Option Pending → Bool
passes test None = false
passes test (Some p) = test p

abbrev pub gives : (Pending → Bool) → Option Pending → Bool
gives test None = false
gives test (Some p) = test p && is_created p

none_found : (t : ℕ) (test : Pending → Bool) (ps : List Pending) → list_any (λ u. t == u) (map (λ (p : Pending). p.token) ps) ≡ false → find (has_token t) (filter test ps) ≡ None
none_found t test [] h = refl
none_found t test (q ∷ ps) h = let ih = none_found t test ps in grind arith

pub find_unless : (t : ℕ) (test : Pending → Bool) (ps : List Pending) → all_differ ◌==◌ (map (λ (p : Pending). p.token) ps) ≡ true → find (has_token t) (filter (λ p. not (test p)) ps) ≡ unless test (find (has_token t) ps)
find_unless t test [] once = refl
find_unless t test (q ∷ ps) once =
    let ih = find_unless t test ps in let d = differ_rest ◌==◌ q.token (map (λ (p : Pending). p.token) ps) once in let n = none_found t (λ p. not (test p)) ps in
    elim (number_or t q.token) [
      | inl k ↦ (let e = ap (λ u. list_any (λ v. u == v) (map (λ (p : Pending). p.token) ps)) k in let same = eq-eqb t q.token k in grind arith)
      | inr k ↦ (let other = ne_eqb t q.token k in grind arith)
    ]

pub token_of : (t : ℕ) (ps : List Pending) (p : Pending) → find (has_token t) ps ≡ Some p → t ≡ p.token
token_of t ps p e = eqb-true t p.token (found_one (has_token t) ps p e).1

module _ (es : List Entry) (x y : World) (e : Entry) (name : List ℕ) (s s' : StackState) (at : IsOnOne x y name s s') (no_call : written_in e ≡ None)
    (tells : (t : ℕ) → told_in (es ++ e ∷ []) t ≡ told_in es t) where
  -- but for which stacks rest
  pub quiet_moves : Quiet s s' → account_of (es ++ e ∷ []) y ≡ rested (resting_in y.stacks) (account_of es x)
  quiet_moves q =
      same_account _ _ (λ i. role_same at.one i (cc (q.leftovers, found_same name (held_in i s') (held_in i s) (has_leftover i s.leftovers) (q.things name i))))
      (λ u. open_same at.one u (cc q.tokens)) (λ u. lost_same at.one u (cc q.abandoned))
      (λ u. call_same es e u no_call) tells (λ n. refl) (λ n. cc at.lanes) at.token at.epoch

  pub quiet_rests : Quiet s s' → is_at_rest s' ≡ is_at_rest s → account_of (es ++ e ∷ []) y ≡ account_of es x
  quiet_rests q rest = quiet_moves q ∙ ap (λ r. rested r (account_of es x)) (λ k n. resting_same at.one n rest k)

  -- some of its calls are given up
  module _
      (test : Pending → Bool) (once : all_differ ◌==◌ (map (λ (p : Pending). p.token) s.tokens) ≡ true) (tokens : s'.tokens ≡ filter (λ p. not (test p)) s.tokens)
      (lost_too : (t : ℕ) → lost_on s' t ≡ (lost_on s t || gives test (find (has_token t) s.tokens))) where
    abbrev pub drops : ℕ → Bool
    drops t = passes test (find (has_token t) s.tokens)

    abbrev f : OneStack x.stacks y.stacks name s s'
    f = at.one

    open_after : (t : ℕ) → open_on name s' t ≡ option_map (open_as name) (unless test (find (has_token t) s.tokens))
    open_after t = cc (tokens, find_unless t test s.tokens once)

    opens : (t : ℕ) → open_in y.stacks t ≡ cond (drops t) None (open_in x.stacks t)
    opens t =
        let still : (test_none : unless test (find (has_token t) s.tokens) ≡ find (has_token t) s.tokens) → open_in y.stacks t ≡ open_in x.stacks t =
        λ e. open_same f t (open_after t ∙ ap (option_map (open_as name)) e) in
        on_option (find (has_token t) s.tokens) (λ k. cc (still (cc)))
        (λ p k. on_bool (test p) (λ e. let none = (at.unshared).tokens t p k in cc (open_now f t, open_after t, none.0, none.1)) (λ e. cc (still (cc))))

    given : (t : ℕ) → gives test (find (has_token t) s.tokens) ≡ (drops t && account.is_open_create (open_in x.stacks t))
    given t = on_option (find (has_token t) s.tokens) (λ k. cc) (λ p k. grind (arith, open_of at t p k))

    pub dropped_moves : account_of (es ++ e ∷ []) y ≡ rested (resting_in y.stacks) (dropped drops (role_in y.stacks) (account_of es x))
    dropped_moves =
        same_account _ _ (λ i. refl) opens (λ t. (grind (arith, list_any-append, lost_too t)) ∙ ap (λ b. lost_in x.stacks t || b) (given t))
        (λ t. call_same es e t no_call) tells (λ n. refl) (λ n. cc at.lanes) at.token at.epoch

pub doubt_moves : DoubtMoves
doubt_moves es x name s number token before after own at_work =
    let nothing : (b : Bool) → option_or (cond b None None) (for_good Reply.Doubt) ≡ None = λ b. grind arith in
    let e : Entry = Entry.Outcome number token Reply.Doubt before after in
    let s' : StackState = (effect_at (x.place + 1) (Entry.Outcome number token Reply.Doubt before after) s).stack in
    let d : IsAlike s s' = in_doubt (x.place + 1) number token before after s in
    quiet_rests es x (changed_by (x.place + 1) (Entry.Outcome number token Reply.Doubt before after) x) e name s s' (on_one (Entry.Outcome number token Reply.Doubt before after) x name s own refl at_work) refl
    (λ t. cc (told_more es e t, nothing (t == token), option_end (told_in es t))) (alike_quiet s s' d.held d.made d.leftovers d.tokens d.abandoned)
    (not_resting s s' (is_working number x name s at_work) d.status)

pub phase_moves : PhaseMoves
phase_moves es x name s number p cause own found =
    let s' : StackState = (effect_at (x.place + 1) (Entry.Phase number p cause) s).stack in
    quiet_rests es x (changed_by (x.place + 1) (Entry.Phase number p cause) x) (Entry.Phase number p cause) name s s' (on_one (Entry.Phase number p cause) x name s own refl found) refl
    (λ t. told_same es (Entry.Phase number p cause) t refl) (phase_quiet (x.place + 1) number p cause s)
    (cc (turned_status (x.place + 1) number p s cause, turned_goes s.status p, is_working number x name s found))

-- nothing stands behind an end
nothing_behind : (es : List Entry) (e : Entry) → is_done_entry e ≡ true → after_last is_done_entry (es ++ e ∷ []) ≡ []
nothing_behind [] e k = cc
nothing_behind (d ∷ es) e k = grind (arith, list_any-append is_done_entry es (e ∷ []), nothing_behind es e k)

ended_entries : (state : Status) (s : StackState) → (ended_effect state s).stack.entries ≡ s.entries
ended_entries state s = grind arith

pub done_moves : DoneMoves
done_moves es x name s number state failed own found =
    let and_false : (b c : Bool) → c ≡ false → (b && c) ≡ false = λ b c k. grind arith in
    let e : Entry = Entry.Done number state failed in
    let s' : StackState = (effect_at (x.place + 1) (Entry.Done number state failed) s).stack in
    let closed : is_opened_since s' ≡ false =
    ap (λ ds. list_any is_opening (after_last is_done_entry (ds ++ e ∷ []))) (ended_entries state s) ∙ ap (list_any is_opening) (nothing_behind s.entries e refl) in
    quiet_rests es x (changed_by (x.place + 1) (Entry.Done number state failed) x) e name s s' (on_one (Entry.Done number state failed) x name s own refl found) refl
    (λ t. told_same es e t refl) (done_quiet (x.place + 1) number state failed s)
    (and_false (not (is_in_progress s'.status)) (is_opened_since s') closed ∙ cc (is_working number x name s found))

-- A resource that is kept moves the account.

-- the calls on an id
names_is : (i : List ℕ) (o : Option (List ℕ)) → option_map_or (bytes_eq i) o false ≡ true → o ≡ Some i
names_is i None e = absurd (true≢false (sym e))
names_is i (Some j) e = ap Some (sym (bytes_same i j e))

names_id_is : (i : List ℕ) (r : Request) → named_by r ≡ Some i → option_map_or (bytes_eq i) (named_by r) false ≡ true
names_id_is i r e = ap (λ o. option_map_or (bytes_eq i) o false) e ∙ same_bytes i i refl

pub kept_may : KeptMay
kept_may a w i r b e = record {
  roles = λ j. elim (bytes_or j i) [
    | inl k ↦ gives_up r (ap a.role k ∙ e) (if_same j i Leftover (a.role j) k)
    | inr k ↦ stays (if_other j i Leftover (a.role j) k)
  ];
  calls = λ t o k d. of_leftover i (names_is i (named_by o.request) (ap (names_id i) (sym k) ∙ d)) (if_same i i Leftover (a.role i) refl);
  left = grind (arith, if_other, names_id_is, b.named, a.role);
}

-- an id with a colon isn't the unknown one, nor no id
has_colon : (n i : List ℕ) → IsOfLane n i → list_any (λ c. c == 58) i ≡ true
has_colon n i (rest, e) = ap (list_any (λ c. c == 58)) e ∙ by n where
  by : (n : List ℕ) → list_any (λ c. c == 58) (n ++ 58 ∷ rest) ≡ true
  by [] = refl
  by (b ∷ n) = or_right (b == 58) (list_any (λ c. c == 58) (n ++ 58 ∷ rest)) (by n)

no_unknown : (n i : List ℕ) → IsOfLane n i → i ≢ unknown_id
no_unknown n i o e = let unknown : list_any (λ c. c == 58) unknown_id ≡ false = refl in true≢false (sym (has_colon n i o) ∙ ap (list_any (λ c. c == 58)) e ∙ unknown)

no_blank : (n i : List ℕ) → IsOfLane n i → i ≢ []
no_blank n i o e = true≢false (sym (has_colon n i o) ∙ ap (list_any (λ c. c == 58)) e)

-- the stack whose resource is kept
abbrev pub kept_stack : ℕ → ℕ → List ℕ → List ℕ → Why → StackState → StackState
kept_stack place number path physical w s = (heard place (Entry.Kept number path physical w) s (stays_listed (keeping_known path physical w s))).stack

pub keeps_known : (place number : ℕ) (path physical : List ℕ) (w : Why) (s : StackState) (h : Held) → held_in physical s ≡ Some h → (n : List ℕ) → IsOfLane n physical
    → (effect_at place (Entry.Kept number path physical w) s).stack ≡ kept_stack place number path physical w s
keeps_known place number path physical w s h held n of = ap (λ t. (heard place (Entry.Kept number path physical w) s (stays_listed t)).stack) known where
  known : keeping path physical w s ≡ keeping_known path physical w s
  known =
      if_other physical [] (cond (list_any (is_create_at path) s.tokens) (keeping_unknown path w s) s)
      (cond (list_any (has_physical physical) (resources_of s)) (keeping_known path physical w s) s) (no_blank n physical of)
      ∙ ap (λ c. cond c (keeping_known path physical w s) s) (let (i, k) = held_stands physical s h held in any_of (has_physical physical) (resources_of s) h i (same_bytes physical h.physical k))

-- what is left over by one more
pub left_more : (i : List ℕ) (ls : List Left) (l : Left) → has_leftover i (ls ++ l ∷ []) ≡ (not (bytes_eq i unknown_id) && (list_any (λ (l : Left). bytes_eq i l.physical) ls || bytes_eq i l.physical))
left_more i ls l = grind (arith, list_any-append)

pub kept_moves : KeptMoves
kept_moves es x name s h number path physical w own at_work held b =
    let e : Entry = Entry.Kept number path physical w in
    let y : World = changed_by (x.place + 1) (Entry.Kept number path physical w) x in
    let s' : StackState = kept_stack (x.place + 1) number path physical w s in
    let at0 = on_one (Entry.Kept number path physical w) x name s own refl at_work in
    let is_here = role_of at0 physical h held in
    let of_lane : IsOfLane (lane_of physical) physical = (b.homes physical (thing_of name h) is_here).0 in
    let at : IsOnOne x y name s s' =
    subst (λ q. IsOnOne x y name s q) (keeps_known (x.place + 1) number path physical w s h held (lane_of physical) of_lane) at0 in
    let f : OneStack x.stacks y.stacks name s s' = at.one in
    let once : all_differ ◌==◌ (map (λ (p : Pending). p.token) s.tokens) ≡ true = (once_here f own).tokens in
    let more : (i : List ℕ) → has_leftover i s'.leftovers ≡ (not (bytes_eq i unknown_id) && (list_any (λ (l : Left). bytes_eq i l.physical) s.leftovers || bytes_eq i physical)) =
    λ i. left_more i s.leftovers (record { path = path; physical = physical; why = w }) in
    let or_false : (c : Bool) → (c || false) ≡ c = λ c. grind arith in
    let left_over : role_on name s' physical ≡ Leftover =
    grind (
      arith,
      more physical,
      gone_without physical physical s.held refl,
      gone_without physical physical s.made refl,
      other_bytes physical unknown_id (no_unknown (lane_of physical) physical of_lane),
      same_bytes physical physical refl,
    ) in
    let roles : (i : List ℕ) → role_in y.stacks i ≡ cond (bytes_eq i physical) Leftover (role_in x.stacks i) = λ i. elim (bytes_or i physical) [
      | inr n ↦ role_same f i
          (cc (more i, other_bytes i physical n, or_false (list_any (λ (l : Left). bytes_eq i l.physical) s.leftovers), other_without i physical s.held n, other_without i physical s.made n))
          ∙ sym (if_other i physical Leftover (role_in x.stacks i) n)
      | inl n ↦ (let (a, b) = at.unshared.roles physical h held in
          ap (role_in y.stacks) n ∙ role_alone f physical a b ∙ left_over ∙ sym (if_same i physical Leftover (role_in x.stacks i) n))
    ] in
    -- the calls on it are those of this stack
    let elsewhere : (t : ℕ) (o : Open) → open_in x.stacks t ≡ Some o → names_id physical (Some o) ≡ true → o.stack ≡ name = λ t o k n.
    let (r, y, z, q) = b.named t o physical k (names_is physical (named_by o.request) n) in
    let both : Resource r ≡ Resource (thing_of name h) = sym y ∙ is_here in
    let one : r ≡ thing_of name h = cc in
    sym z ∙ ap (λ (v : Thing). v.stack) one in
    let drops_same : (t : ℕ) → passes (is_on physical) (find (has_token t) s.tokens) ≡ names_id physical (open_in x.stacks t) = λ t. on_option (find (has_token t) s.tokens) (λ k. on_option (open_in x.stacks t) (λ g. cc)
    (λ o g. cc (none_false (names_id physical (Some o)) (λ n. open_not_own f t o g (cc) (elsewhere t o g n)))))
    (λ p k. let was = open_of at t p k in cc) in
    let lost : (t : ℕ) → lost_on s' t ≡ (lost_on s t || gives (is_on physical) (find (has_token t) s.tokens)) = λ t. grind arith in
    dropped_moves es x y e name s s' at refl (λ t. told_same es e t refl) (is_on physical) once refl lost
    ∙ same_account _ _ (λ i. roles i) (λ t. cc (drops_same t)) (λ t. cc (drops_same t)) (λ t. refl) (λ t. refl)
    (λ n. resting_same f n (not_resting s s' (is_working number x name s at_work) refl)) (λ n. refl) refl refl

-- The entries of an operation take nothing of another stack.

abbrev pub tokens_of : List Pending → List ℕ
tokens_of ps = map (λ (p : Pending). p.token) ps

-- what is told of all is told of each
each_stranger : (xs : StacksByName) (i : List ℕ) → role_in xs i ≡ Stranger → (q : List ℕ × StackState) → In q xs → role_on q.0 q.1 i ≡ Stranger
each_stranger [] i h q j = elim j [ ]
each_stranger (x ∷ xs) i h q here = (or_stranger (role_on x.0 x.1 i) (role_in xs i) h).0
each_stranger (x ∷ xs) i h q (there_ j) = each_stranger xs i (or_stranger (role_on x.0 x.1 i) (role_in xs i) h).1 q j

each_closed : (xs : StacksByName) (t : ℕ) → open_in xs t ≡ None → (q : List ℕ × StackState) → In q xs → find (has_token t) (q.1).tokens ≡ None
each_closed [] t h q j = elim j [ ]
each_closed (x ∷ xs) t h q here = map_none (open_as x.0) (find (has_token t) (x.1).tokens) (or_none (open_on x.0 x.1 t) (open_in xs t) h).0
each_closed (x ∷ xs) t h q (there_ j) = each_closed xs t (or_none (open_on x.0 x.1 t) (open_in xs t) h).1 q j

-- the open call of this token was open on the stack, or was so nowhere
abbrev IsCallOf : StacksByName → StackState → ℕ → Type 0
IsCallOf ss s t = ((u : Pending) × (find (has_token t) s.tokens ≡ Some u)) ⊎ ((q : List ℕ × StackState) → In q ss → find (has_token t) (q.1).tokens ≡ None)

-- the lists of resources stay
alike_local : (ss : StacksByName) (name : List ℕ) (s s' : StackState) → IsOnce s → s'.held ≡ s.held → s'.made ≡ s.made → s'.leftovers ≡ s.leftovers → all_differ ◌==◌ (tokens_of s'.tokens) ≡ true
    → ((t : ℕ) (v : Pending) → find (has_token t) s'.tokens ≡ Some v → IsCallOf ss s t) → IsLocal ss name s s'
alike_local ss name s s' once hd md lf differ calls = grind (arith, role_alike)

pub doubt_local : (ss : StacksByName) (name : List ℕ) (s s' : StackState) → IsOnce s → IsAlike s s' → IsLocal ss name s s'
doubt_local ss name s s' once d = alike_local ss name s s' once d.held d.made d.leftovers (ap (λ ps. all_differ ◌==◌ (tokens_of ps)) d.tokens ∙ once.tokens) (λ t v k. inl (v, sym (ap (find (has_token t)) d.tokens) ∙ k))

pub intent_local : (ss : StacksByName) (name : List ℕ) (s s' : StackState) (p : Pending) → IsOnce s → open_in ss p.token ≡ None → find (has_token p.token) s.tokens ≡ None → Sends p s s' → IsLocal ss name s s'
intent_local ss name s s' p once none here_ sent = grind (arith, alike_local, differ_end, number_or, find-append, none_passes, nat_tests, each_closed, option_end, at_other)

-- an answer for good
module _
    (es : List Entry) (x z : World) (w : Lanes) (name : List ℕ) (s : StackState) (p : Pending) (y : Settled) (place number token : ℕ) (answer : Reply) (before after : ℕ)
    (own : AreOwn x.stacks) (good : for_good answer ≡ Some y.settlement) (tied : AreTied (account_of es x) w) (is : IsSettledCall (account_of es x) w token (open_as name p) y)
    (at : IsOnOne x z name s (answered_stack place number token answer before after p s)) where
  abbrev s1 : StackState
  s1 = answer_on (is_restore token s) p.path p.request answer s

  abbrev sf : StackState
  sf = answered_stack place number token answer before after p s

  abbrev asked : Open
  asked = open_as name p

  -- what is new is held by none
  made_new : (i k : List ℕ) (q v : Dict) → p.request ≡ Request.Create k q → y.settlement ≡ Settlement.Success i v → role_in x.stacks i ≡ Stranger
  made_new i k q v re ye =
      let request = (((tied.ties).settled_calls p.lane token y is.1).written (called_of asked) ((tied.books).calls token asked is.0)).1 in
      ((tied.ties).born token asked y i k q v is (cc (sym request ∙ re))).1

  new_here : (i : List ℕ) → role_in x.stacks i ≡ Stranger → (held_in i s ≡ None) × (has_leftover i s.leftovers ≡ false)
  new_here i st = found_none name (held_in i s) (has_leftover i s.leftovers) (role_stranger at.one i st).1

  lv : Leaves s s1
  lv = leaves (is_restore token s) p.path p.request answer s

  tokens_are : sf.tokens ≡ without_token token s.tokens
  tokens_are = (grind arith) ∙ ap (without_token token) lv.tokens

  -- an id is made by the answer, or is named by the call and held, and no other stack knows it; or its role stays
  data Became (i : List ℕ) : Type 0 where
    is_alone : role_in at.one.front i ≡ Stranger → role_in at.one.back i ≡ Stranger → role_on name sf i ≡ role_after asked p.request y.settlement (role_in x.stacks) i
        → (role_in x.stacks i ≡ Stranger) ⊎ ((h : Held) × (held_in i s ≡ Some h)) → Became i
    is_same : role_on name sf i ≡ role_on name s i → role_after asked p.request y.settlement (role_in x.stacks) i ≡ role_in x.stacks i → Became i

  became : (i : List ℕ) → Became i
  became i = elim (on_stack name (is_restore token s) p s p.request answer y.settlement good i) [
    | made k q v re ye on ↦ (
        let st = made_new i k q v re ye in
        let (a, b, c) = role_stranger at.one i st in is_alone a c (on (new_here i st).0 (role_in x.stacks)) (inl st)
        )
    | named nm on ↦ (
        let (r, k, n, m) = (tied.books).named token asked i is.0 nm in
        let (h, hk, hr) = found_some name (held_in i s) (has_leftover i s.leftovers) r (role_own at.one i r k n).1 in
        let (a, b) = at.unshared.roles i h hk in is_alone a b (on h hk (at.unshared.left i h hk) (role_in x.stacks) (role_of at i h hk)) (inr (h, hk))
        )
    | kept k turns ↦ is_same k (turns (role_in x.stacks))
  ]

  roles : (i : List ℕ) → role_in z.stacks i ≡ role_after asked p.request y.settlement (role_in x.stacks) i
  roles i = elim (became i) [ is_alone a b e c ↦ role_alone at.one i a b ∙ e | is_same k turns ↦ role_same at.one i k ∙ sym turns ]

  now_open : (found : find (has_token token) s.tokens ≡ Some p) (t : ℕ) → open_in z.stacks t ≡ cond (t == token) None (open_in x.stacks t)
  now_open found t = elim (number_or t token) [
    | inl k ↦ (let (a, b) = at.unshared.tokens token p found in
        open_closed at.one t (cc) (cc (tokens_are, token_gone t token s.tokens k)) (cc) ∙ sym (at_same t token None (open_in x.stacks t) k))
    | inr k ↦ open_same at.one t (cc (tokens_are, token_left t token s.tokens k)) ∙ sym (at_other t token None (open_in x.stacks t) k)
  ]

  held_or : (i : List ℕ) (h : Held) → held_in i sf ≡ Some h → ((g : Held) × (held_in i s ≡ Some g)) ⊎ (role_in x.stacks i ≡ Stranger)
  held_or i h k = elim (became i) [
    | is_alone a b e (inl st) ↦ inr st
    | is_alone a b e (inr g) ↦ inl g
    | is_same e turns ↦ inl (let (g, m, n) = found_some name (held_in i s) (has_leftover i s.leftovers) (thing_of name h) (cc) in (g, m))
  ]

  role_or_made : (i : List ℕ) → role_on name s i ≡ Stranger → (role_on name sf i ≡ Stranger) ⊎ ((q : List ℕ × StackState) → In q x.stacks → role_on q.0 q.1 i ≡ Stranger)
  role_or_made i k = elim (became i) [
    | is_alone a b e (inl st) ↦ inr (each_stranger x.stacks i st)
    | is_alone a b e (inr (h, g)) ↦ absurd (held_role name s i h g k)
    | is_same e turns ↦ inl (e ∙ k)
  ]

  left_after : (i : List ℕ) (h : Held) → held_in i sf ≡ Some h → has_leftover i sf.leftovers ≡ false
  left_after i h k = ap (has_leftover i) lv.leftovers ∙ elim (held_or i h k) [ inl g ↦ at.unshared.left i g.0 g.1 | inr g ↦ (new_here i g).1 ]

  token_by : (t : ℕ) (v : Pending) → find (has_token t) sf.tokens ≡ Some v → (u : Pending) × (find (has_token t) s.tokens ≡ Some u)
  token_by t v k = grind (arith, number_or, tokens_are, token_gone, token_left)

  pub outcome_local :
      (all_differ bytes_eq (map (λ (h : Held). h.physical) (resources_of s)) ≡ true
      → ((k : List ℕ) (q : Dict) (i : List ℕ) (v : Dict) → p.request ≡ Request.Create k q → answer ≡ Reply.Success i v → held_in i s ≡ None)
      → all_differ bytes_eq (map (λ (h : Held). h.physical) (resources_of s1)) ≡ true) → IsLocal x.stacks name s sf
  outcome_local differ =
      let once = once_here at.one own in
      record {
        once = record {
          ids = differ once.ids (λ k q i v re ae. (new_here i (made_new i k q v re (ap (λ o. unwrap_or o y.settlement) (sym good ∙ ap for_good ae)))).0);
          left = left_after;
          tokens = ap (λ ps. all_differ ◌==◌ (tokens_of ps)) tokens_are ∙ differ_less ◌==◌ (λ (q : Pending). q.token) (λ (q : Pending). not (has_token token q)) s.tokens once.tokens;
        };
        held = λ i h k. elim (held_or i h k) [ inl g ↦ inl g | inr g ↦ inr (each_stranger x.stacks i g) ];
        role = role_or_made;
        tokens = λ t v k. inl (token_by t v k);
      }

pub outcome_moves : OutcomeMoves
outcome_moves es x w name s p y number token answer before after own at_work found good tied is =
    let e : Entry = Entry.Outcome number token answer before after in
    let z : World = changed_by (x.place + 1) e x in
    let at : IsOnOne x z name s (answered_stack (x.place + 1) number token answer before after p s) =
    subst (λ q. IsOnOne x z name s (heard (x.place + 1) e s (stays_listed (replied token answer q s))).stack) found (on_one e x name s own refl at_work) in
    let left = lv es x z w name s p y (x.place + 1) number token answer before after own good tied is at in
    let tells : (t : ℕ) → told_in (es ++ e ∷ []) t ≡ cond (t == token) (Some y.settlement) (told_in es t) =
    λ t. grind (arith, told_more, number_or, option_end, at_other) in
    same_account _ _ (roles es x z w name s p y (x.place + 1) number token answer before after own good tied is at)
    (now_open es x z w name s p y (x.place + 1) number token answer before after own good tied is at found)
    (λ t. lost_same at.one t (ap (λ gs. list_any (λ (g : GivenUp). t == g.token) gs) left.abandoned))
    (λ t. call_same es e t refl) tells (λ n. resting_same at.one n (not_resting s (answered_stack (x.place + 1) number token answer before after p s) (is_working number x name s at_work) left.status))
    (λ n. ap (λ ls. lane_types ls n) at.lanes) at.token at.epoch

-- an opening
module _ (place epoch : ℕ) (lanes : List (List ℕ × List ℕ)) where
  abbrev hears : List ℕ × StackState → List ℕ × StackState
  hears s = opening_heard place (Entry.Opened epoch lanes) s

  pub own_opened : (ss : StacksByName) → ascends (map hears ss) ≡ true → AreOwn ss → AreOwn (map hears ss)
  own_opened ss sorted own = record {
    names = sorted;
    once = each_map (λ p. IsOnce p.1) hears ss (λ p i. let o = own.once p i in record { ids = o.ids; left = o.left; tokens = o.tokens });
    held = λ p q i h j m. each_map (λ p. p.0 ≢ q.0 → held_in i p.1 ≡ Some h → role_on q.0 q.1 i ≡ Stranger) hears ss
        (λ p j. each_map (λ q. p.0 ≢ q.0 → held_in i p.1 ≡ Some h → role_on q.0 q.1 i ≡ Stranger) hears ss (λ q m. own.held p q i h j m) q m) p j;
    tokens = λ p q t v j m. each_map (λ p. p.0 ≢ q.0 → find (has_token t) (p.1).tokens ≡ Some v → find (has_token t) (q.1).tokens ≡ None) hears ss
        (λ p j. each_map (λ q. p.0 ≢ q.0 → find (has_token t) (p.1).tokens ≡ Some v → find (has_token t) (q.1).tokens ≡ None) hears ss (λ q m. own.tokens p q t v j m) q m) p j;
  }
