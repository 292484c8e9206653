-- What completed is what was begun, what was given up is listed, and nothing is left over twice.
use Rattle.std.proofs.Common.{arith, ◌≡◌, ◌⊎◌, inl, inr, ℕ, ◌+◌, List, [], ◌∷◌, ◌++◌, Option, Bool, true, false, not, ◌&&◌, Some, refl, sym, ap, subst, ◌∙◌, true≢false, map, filter, cond}
use Rattle.cf_core.proofs.Words.{Begun, CompletesBegun, CompletesBegunStays, Entry, GivenUp, Held, In, IsOnce, IsTo, LeavesOnce, LeavesOnceStays, Leftover, ListsGivenUp, ListsGivenUpStays, MayFollowIn, Pending, Phase, Reply, Schema, StackState, Stage, Why, World, all_differ, begins, bytes_eq, effect_of, given_up, has_completed, has_known_id, has_physical, held_in, here, intending, is_create_at, is_created, keeping, keeping_known, keeping_unknown, list_any, lost_create, opened, pending_of, replied, resources_of, second_so, skipped_creates, step, there, unknown_id}
use Rattle.cf_core.proofs.Lemmas.{answered_left, any_of, append-nil, differ_end, filter-append, in_any, in_back, in_changed, in_either, in_filter, in_front, in_one, into_mapped, none_false}
use Rattle.cf_agree.proofs.Words.{bytes_same, same_bytes}
use Rattle.cf_core.proofs.{BeginEvents.held_of, Moving.written_is_to}
use Rattle.cf_core.specs.Written.{other, reviewed}

-- What an entry leaves of the lists of what is left over and given up: nothing changes, a resource of the stack is left over, or creates
-- are given up, each of which is left over under no known id.
pub data LeftMove (s : StackState) (ls : List Leftover) (gs : List GivenUp) : Type 0 where
  same : ls ≡ s.leftovers → gs ≡ s.abandoned → LeftMove s ls gs
  known : (l : Leftover) → list_any (has_physical l.physical) (resources_of s) ≡ true → ls ≡ s.leftovers ++ l ∷ [] → gs ≡ s.abandoned → LeftMove s ls gs
  lost :
      (ms : List Leftover) (ps : List Pending) → ls ≡ s.leftovers ++ ms → gs ≡ s.abandoned ++ map given_up ps
      → ((p : Pending) → In p ps → (l : Leftover) × In l ms × (l.path ≡ p.path) × (l.physical ≡ unknown_id))
      → ((l : Leftover) → In l ms → l.physical ≡ unknown_id) → LeftMove s ls gs

-- what an entry of the operation leaves as it was
record IsRest (s t : StackState) : Type 0 where
  pub status : t.status ≡ s.status
  pub source : t.source ≡ s.source
  pub going : t.going ≡ s.going

module _ (s : StackState) where
  abbrev LeftBy : StackState → Type 0
  LeftBy t = LeftMove s t.leftovers t.abandoned

  intended : (number : ℕ) (p : Pending) → IsRest s (intending number p s) × LeftBy (intending number p s)
  intended number p = grind arith

  replied_rest : (token : ℕ) (a : Reply) (o : Option Pending) → IsRest s (replied token a o s) × LeftBy (replied token a o s)
  replied_rest token a o = grind (arith, answered_left)

  kept : (path physical : List ℕ) (w : Why) → IsRest s (keeping path physical w s) × LeftBy (keeping path physical w s)
  kept path physical w = by (bytes_eq physical []) (list_any (is_create_at path) s.tokens) (list_any (has_physical physical) (resources_of s)) refl where
    given : (p : Pending) → In p (filter (is_create_at path) s.tokens) → path ≡ p.path
    given p i = bytes_same path p.path (second_so (is_created p) (bytes_eq path p.path) (in_filter (is_create_at path) s.tokens p i).1)

    by : (b c d : Bool) → list_any (has_physical physical) (resources_of s) ≡ d
        → (let t = cond b (cond c (keeping_unknown path w s) s) (cond d (keeping_known path physical w s) s) in IsRest s t × LeftBy t)
    by true true d e =
        let l : Leftover = record { path = path; physical = unknown_id; why = w } in (
          record { status = refl; source = refl; going = refl },
          lost (l ∷ []) (filter (is_create_at path) s.tokens) refl refl (λ p i. (l, here, given p i, refl)) (λ m i. ap (λ (z : Leftover). z.physical) (in_one m l i)),
        )
    by true false d e = (record { status = refl; source = refl; going = refl }, same refl refl)
    by false c true e = (record { status = refl; source = refl; going = refl }, known (record { path = path; physical = physical; why = w }) e refl refl)
    by false c false e = (record { status = refl; source = refl; going = refl }, same refl refl)

  begun_left : (number : ℕ) (name : List ℕ) (k : Begun) → LeftBy (effect_of (Entry.Begin number name k) s).stack
  begun_left number name (Begun.Continue paths) =
      let ps = skipped_creates paths s.tokens in
      lost (map lost_create ps) ps refl refl (λ p i. (lost_create p, into_mapped lost_create ps p i, refl, refl))
      (λ l i. ap (λ (z : Leftover). z.physical) (sym (in_changed lost_create ps l i).same))
  begun_left number name _ = same refl refl

  entry_left : (e : Entry) → LeftBy (effect_of e s).stack
  entry_left (Entry.Begin number n k) = begun_left number n k
  entry_left (Entry.Kept number path physical w) = (kept path physical w).1
  entry_left (Entry.Intent number token lane path r) = (intended number (record { token = token; path = path; lane = lane; request = r })).1
  entry_left (Entry.Outcome number token a before after) = (replied_rest token a (pending_of token s)).1
  entry_left (Entry.Phase number p c) = grind arith
  entry_left (Entry.Done number state failed) = grind arith
  entry_left _ = same refl refl

  module _ {schemas : List Schema} {x : World} {out name : List ℕ} where
    pub left_move : {e : Entry} {t : StackState} → IsTo schemas x out name s e t → LeftBy t
    left_move {e} (step stage at is_own may) = entry_left e
    left_move (begins k from by) = begun_left (x.operation + 1) name k
    left_move _ = same refl refl

  -- what was given up stays listed
  lists : (ls : List Leftover) (gs : List GivenUp) → LeftMove s ls gs → ListsGivenUp s → (g : GivenUp) → In g gs → (l : Leftover) × In l ls × (l.path ≡ g.path) × (l.physical ≡ unknown_id)
  lists ls gs (same a b) h g i = subst (λ ms. (l : Leftover) × In l ms × (l.path ≡ g.path) × (l.physical ≡ unknown_id)) (sym a) (h g (subst (In g) b i))
  lists ls gs (known m is a b) h g i = grind (arith, in_front)
  lists ls gs (lost ms ps a b each none) h g i = by (in_either g s.abandoned (map given_up ps) (subst (In g) b i)) where
    by : In g s.abandoned ⊎ In g (map given_up ps) → (l : Leftover) × In l ls × (l.path ≡ g.path) × (l.physical ≡ unknown_id)
    by (inl j) = let q = h g j in (q.0, subst (In q.0) (sym a) (in_front q.0 s.leftovers ms q.1), q.2, q.3)
    by (inr j) =
        let f = in_changed given_up ps g j in
        let q = each f.one f.of_list in
        (q.0, subst (In q.0) (sym a) (in_back q.0 s.leftovers ms q.1), q.2 ∙ ap (λ (z : GivenUp). z.path) f.same, q.3)

pub lists_given_up_stays : ListsGivenUpStays
lists_given_up_stays schemas x out e name s t w h = lists s t.leftovers t.abandoned (left_move s (written_is_to schemas x out e name s t w)) h

-- what is left over was so before, was held, or has no known id
pub data FromLeft (s : StackState) (l : Leftover) : Type 0 where
  was : In l s.leftovers → FromLeft s l
  of_held : (g : Held) → held_in l.physical s ≡ Some g → FromLeft s l
  unknown : l.physical ≡ unknown_id → FromLeft s l

held_by : (s : StackState) (i : List ℕ) → list_any (has_physical i) (resources_of s) ≡ true → (g : Held) × (held_in i s ≡ Some g)
held_by s i held = let r = in_any (has_physical i) (resources_of s) held in held_of i s r.0 r.1 (sym (bytes_same i (r.0).physical r.2))

pub from_left : (s : StackState) (ls : List Leftover) (gs : List GivenUp) → LeftMove s ls gs → (l : Leftover) → In l ls → FromLeft s l
from_left s ls gs (same a b) l i = was (subst (In l) a i)
from_left s ls gs (known m held a b) l i = elim (in_either l s.leftovers (m ∷ []) (subst (In l) a i)) [
  | inl j ↦ was j
  | inr j ↦ (let g = held_by s m.physical held in of_held g.0 (ap (λ (z : Leftover). held_in z.physical s) (in_one l m j) ∙ g.1))
]
from_left s ls gs (lost ms ps a b each none) l i = elim (in_either l s.leftovers ms (subst (In l) a i)) [ inl j ↦ was j | inr j ↦ unknown (none l j) ]

-- no two known ids of what is left over
abbrev known_ids : List Leftover → List (List ℕ)
known_ids ls = map (λ (l : Leftover). l.physical) (filter has_known_id ls)

none_known : (ls : List Leftover) → ((l : Leftover) → In l ls → l.physical ≡ unknown_id) → filter has_known_id ls ≡ []
none_known [] h = refl
none_known (l ∷ ls) h = ap (λ b. cond (not b) (l ∷ filter has_known_id ls) (filter has_known_id ls)) (same_bytes l.physical unknown_id (h l here)) ∙ none_known ls (λ m i. h m (there i))

module _ (s : StackState) (once : IsOnce s) (h : LeavesOnce s) where
  -- a resource of the stack is not left over yet
  not_left : (l m : Leftover) → list_any (has_physical l.physical) (resources_of s) ≡ true → has_known_id l ≡ true → In m (filter has_known_id s.leftovers) → bytes_eq m.physical l.physical ≡ false
  not_left l m held is i = none_false (bytes_eq m.physical l.physical) (λ e.
      let g = held_by s l.physical held in
      let same : l.physical ≡ m.physical = sym (bytes_same m.physical l.physical e) in
      let j = any_of (λ (z : Leftover). bytes_eq l.physical z.physical) s.leftovers m (in_filter has_known_id s.leftovers m i).0 (same_bytes l.physical m.physical same) in
      true≢false (sym (ap (λ b. b && list_any (λ (z : Leftover). bytes_eq l.physical z.physical) s.leftovers) is ∙ j) ∙ once.left l.physical g.0 g.1))

  one_more : (l : Leftover) (b : Bool) → list_any (has_physical l.physical) (resources_of s) ≡ true → has_known_id l ≡ b
      → all_differ bytes_eq (map (λ (z : Leftover). z.physical) (filter has_known_id s.leftovers ++ cond b (l ∷ []) [])) ≡ true
  one_more l v1 held is = grind (arith, differ_end, not_left, append-nil)

  abbrev differ : List Leftover → Bool
  differ ls = all_differ bytes_eq (map (λ (z : Leftover). z.physical) ls)

  leaves : (ls : List Leftover) (gs : List GivenUp) → LeftMove s ls gs → all_differ bytes_eq (known_ids ls) ≡ true
  leaves ls gs (same a b) = ap (λ ms. differ (filter has_known_id ms)) a ∙ h
  leaves ls gs (known l held a b) =
      ap (λ ms. differ (filter has_known_id ms)) a ∙ ap differ (filter-append has_known_id s.leftovers (l ∷ [])) ∙ one_more l (has_known_id l) held refl
  leaves ls gs (lost ms ps a b each none) = grind (arith, filter-append, none_known, append-nil)

pub leaves_once_stays : LeavesOnceStays
leaves_once_stays schemas x out e name s t w once h = leaves s once h t.leftovers t.abandoned (left_move s (written_is_to schemas x out e name s t w))

-- What completes: the forward phase of an update, which cleans up, and the end of a creation; the others leave the source as it was.
module _ (schemas : List Schema) (x : World) (out name : List ℕ) (s : StackState) (h : CompletesBegun s) where
  rest : (t : StackState) → IsRest s t → CompletesBegun t
  rest t r e = r.source ∙ h (ap has_completed (sym r.status) ∙ e) ∙ sym r.going

  step_completes : (e : Entry) (stage : Stage) → MayFollowIn schemas name x out s stage e → CompletesBegun (effect_of e s).stack
  step_completes v0 stage may = grind (arith, rest, kept, intended, replied_rest)

  completes : {e : Entry} {t : StackState} → IsTo schemas x out name s e t → CompletesBegun t
  completes {e} (step stage at is_own may) = step_completes e stage may
  completes (begins k from by) = λ e. grind (arith, true≢false)
  completes (reviewed number source rows outputs from) = λ e. h (grind arith)
  completes (opened epoch lanes) = h
  completes other = h

pub completes_begun_stays : CompletesBegunStays
completes_begun_stays schemas x out e name s t w h = completes schemas x out name s h (written_is_to schemas x out e name s t w)
