-- What code makes of the resources that a stage may delete is just what may begin there, and what may be kept.
use Rattle.std.proofs.Common.{◌≡◌, ◌↔◌, ◌⊎◌, inl, inr, ℕ, ◌≤◌, ◌==◌, nat_lt, arith, Bool, true, false, ◌&&◌, ◌||◌, not, List, [], ◌∷◌, ◌++◌, Option, Some, None, Result, Ok, Err, cond, flat_map, length, option_map, refl, ap, sym, ◌∙◌, subst, true≢false}
use Rattle.std.specs.Prelude.{IfOk}
use Rattle.std.specs.Cmp.{first_so, second_so}
use Rattle.std.specs.List.{list_any}
use Rattle.std.specs.Str.{bytes_eq}
use Rattle.std.proofs.lemmas.Bool.{and_from, le-ltb, lt-ltb, ltb-false, ne_eqb}
use Rattle.cf_tree.specs.declared.request.Request.{Request}
use Rattle.cf_tree.specs.declared.request.Request.TheVariants as request
use Rattle.cf_tree.specs.declared.template.Replace.{Replace}
use Rattle.cf_tree.specs.Lists.{is_among}
use Rattle.cf_schema.specs.declared.described.Schema.{Schema}
use Rattle.cf_entry.specs.declared.status.Status.TheVariants as status
use Rattle.cf_entry.specs.declared.turn.Cause.{Cause}
use Rattle.cf_entry.specs.declared.turn.Phase.{Phase}
use Rattle.cf_entry.specs.declared.turn.Phase.TheVariants as phase
use Rattle.cf_entry.specs.declared.turn.Why.{Why}
use Rattle.cf_entry.specs.declared.turn.Why.TheVariants as why
use Rattle.cf_effect.specs.declared.held.Held.{Held}
use Rattle.cf_effect.specs.declared.held.Pending.{Pending}
use Rattle.cf_effect.specs.Calls.{deletions_of, doubts_of, refusals_of}
use Rattle.cf_effect.specs.Operation.{named_paths}
use Rattle.cf_effect.specs.Status.{Stage, Back, Forward, Gone, stage_of}
use Rattle.cf_effect.specs.Words.{current_at, is_create, is_create_at}
use Rattle.cf_effect.specs.World.{StackState, World, empty_world}
use Rattle.cf_plan.specs.Between.{is_needed_by_create, is_needed_by_held, is_needed_by_made}
use Rattle.cf_plan.specs.Follow.{IntendsDeletion, IntendsIn, MayDelete, MayKeep, MayTurn, cleaned_in, is_deletion_of, is_free, is_repeat_in_flight, is_retained_or_excepted, is_to_retain, keeps, keeps_superseded, may_repeat, waits_for_repeats}
use Rattle.cf_tree.specs.Lists.{there}
use Rattle.cf_tree.specs.Lists.{here}
use Rattle.cf_tree.specs.Lists.{In}
use Rattle.cf_plan.proofs.Members.{is_so, not_so, any_in, false_from, in_any, not_both}
use Rattle.cf_plan.proofs.Listed.{bytes_same, in_cons, in_none, same_bytes}
use Rattle.cf_next.specs.declared.deletions.Removals.{Removals}
use Rattle.cf_next.specs.declared.facts.Facts.{Facts}
use Rattle.cf_next.specs.declared.offer.Keeping.{Keeping}
use Rattle.cf_plan.specs.Start.{Start}
use Rattle.cf_next.specs.declared.tallies.Tally.{Tally}
use Rattle.cf_next.specs.declared.unmaking.Unmaking.{Unmaking}
use Rattle.cf_next.specs.declared.unmaking.Unmaking.TheVariants as unmaking
use Rattle.cf_next.specs.Facts.{AreFacts, deletion_start, doubted_by, creates_given_up, has_try_left, is_kept, keeping_for, keepings_by, may_delete, refused_by, retained_by, retention_of, starts_for, undeleted_by}
use Rattle.cf_next.specs.Lookups.{has_key}
use Rattle.cf_next.specs.declared.offer.Offer.{Offer}
use Rattle.cf_next.specs.declared.offer.Turn.{Turn}
use Rattle.cf_next.specs.Offer.{AreKeepings, AreRepeats, AreStarts, MayBeginAt}
use Rattle.cf_next.specs.Repeats.{AreRepeatsBut, HasNotFailed, retained_in}
use Rattle.cf_next.specs.Tallies.{tally_of, tally_under, up_to_three}
use Rattle.cf_next.specs.Removals.{AreAllStarts, AreResourcesKept, IsOfferIn, IsOfferWith, IsWalked, AreRemovals, KeepsResource, looked_at}
use Rattle.cf_next.specs.Unmaking.{has_tries, is_cleanup, is_deletable, is_doubted, is_doubted_by, is_in_view, is_kept_by, is_needed, stage_in, status_in}
use Rattle.cf_next.proofs.Repeating.{in_left}

-- Members of lists that are joined, and of those that a test lets in.
pub in_joined : {A : Type 0} (xs ys : List A) (a : A) → In a (xs ++ ys) ↔ (In a xs ⊎ In a ys)
in_joined [] ys a = (λ i. inr i, λ w. elim w [ inl i ↦ absurd (in_none i) | inr i ↦ i ])
in_joined {A} (x ∷ xs) ys a = (to (in_joined xs ys a), from (in_joined xs ys a))
  where
    to : (In a (xs ++ ys) ↔ (In a xs ⊎ In a ys)) → In a (x ∷ (xs ++ ys)) → In a (x ∷ xs) ⊎ In a ys
    to rest i = elim (in_cons i) [ inl s ↦ inl (subst (λ (y : A). In y (x ∷ xs)) s here) | inr j ↦ elim (rest.0 j) [ inl k ↦ inl (there k) | inr k ↦ inr k ] ]

    from : (In a (xs ++ ys) ↔ (In a xs ⊎ In a ys)) → In a (x ∷ xs) ⊎ In a ys → In a (x ∷ (xs ++ ys))
    from rest (inl i) = elim (in_cons i) [ inl s ↦ subst (λ (y : A). In y (x ∷ (xs ++ ys))) s here | inr j ↦ there (rest.1 (inl j)) ]
    from rest (inr k) = there (rest.1 (inr k))

pub in_flat : {A B : Type 0} (f : A → List B) (xs : List A) (b : B) → In b (flat_map f xs) ↔ ((a : A) × In a xs × In b (f a))
in_flat f [] b = (λ i. absurd (in_none i), λ w. absurd (in_none w.1))
in_flat {A} {B} f (x ∷ xs) b = (to (in_flat f xs b), from (in_flat f xs b))
  where
    to : (In b (flat_map f xs) ↔ ((a : A) × In a xs × In b (f a))) → In b (f x ++ flat_map f xs) → (a : A) × In a (x ∷ xs) × In b (f a)
    to rest i = elim ((in_joined (f x) (flat_map f xs) b).0 i) [ inl j ↦ (x, here, j) | inr j ↦ let w = rest.0 j in (w.0, there w.1, w.2) ]

    from : (In b (flat_map f xs) ↔ ((a : A) × In a xs × In b (f a))) → ((a : A) × In a (x ∷ xs) × In b (f a)) → In b (f x ++ flat_map f xs)
    from rest (a, i, j) =
        (in_joined (f x) (flat_map f xs) b).1
        (elim (in_cons i) [ inl s ↦ inl (subst (λ (y : A). In b (f y)) (sym s) j) | inr k ↦ inr (rest.1 (a, k, j)) ])

pub in_then : {A : Type 0} (t : Bool) (xs : List A) (a : A) → In a (cond t xs []) ↔ ((t ≡ true) × In a xs)
in_then true xs a = (λ i. (refl, i), λ w. w.1)
in_then false xs a = (λ i. absurd (in_none i), λ w. absurd (true≢false (sym w.0)))

pub in_else : {A : Type 0} (t : Bool) (xs : List A) (a : A) → In a (cond t [] xs) ↔ ((t ≡ false) × In a xs)
in_else true xs a = (λ i. absurd (in_none i), λ w. absurd (true≢false w.0))
in_else false xs a = (λ i. (refl, i), λ w. w.1)

pub only_one : {A : Type 0} (x a : A) → In a (x ∷ []) → x ≡ a
only_one x a i = elim (in_cons i) [ inl s ↦ s | inr j ↦ absurd (in_none j) ]

-- Counts up to three.
less_same : (n : ℕ) → nat_lt (up_to_three n) 3 ≡ nat_lt n 3
less_same n = by (nat_lt n 3) refl
  where
    by : (b : Bool) → nat_lt n 3 ≡ b → nat_lt (cond b n 3) 3 ≡ b
    by true e = e
    by false e = refl

none_same : (n : ℕ) → (up_to_three n == 0) ≡ (n == 0)
none_same n = by (nat_lt n 3) refl
  where
    by : (b : Bool) → nat_lt n 3 ≡ b → (cond b n 3 == 0) ≡ (n == 0)
    by true e = refl
    by false e = sym (ne_eqb n 0 (λ z. not_both (nat_lt n 3) (lt-ltb n 3 (omega (arith, z))) e))

three_are : (n : ℕ) → nat_lt n 3 ≡ false → 3 ≤ n
three_are n e = ltb-false n 3 e

are_three : (n : ℕ) → 3 ≤ n → nat_lt n 3 ≡ false
are_three n m = le-ltb n 3 m

-- a truth and its opposite
not_true_false : (b : Bool) → not b ≡ false → b ≡ true
not_true_false true e = refl
not_true_false false e = absurd (true≢false e)

neither : (a b : Bool) → not a ≡ true → b ≡ false → not (a || b) ≡ true
neither true b e f = absurd (true≢false (sym e))
neither false b e f = not_so b f

no_first : (a b : Bool) → not (a || b) ≡ true → not a ≡ true
no_first true b e = absurd (true≢false (sym e))
no_first false b e = refl

no_second : (a b : Bool) → not (a || b) ≡ true → b ≡ false
no_second true b e = absurd (true≢false (sym e))
no_second false b e = is_so b e

-- What facts tell of a resource.
policy_kept : (o : Option Held) (r : Held) → is_kept_by (option_map (λ h. h.replace) o) r ≡ keeps_superseded o r
policy_kept None r = refl
policy_kept (Some h) r = refl

tries_told : (u : Unmaking) (s : StackState) (r : Held) → has_try_left u (tally_of r.physical s) ≡ has_tries u s r
tries_told unmaking.Clean s r = less_same (length (deletions_of r.physical s))
tries_told unmaking.Back s r = none_same (length (deletions_of r.physical s))
tries_told unmaking.BackClean s r = less_same (length (deletions_of r.physical s))
tries_told unmaking.Gone s r = none_same (length (deletions_of r.physical s))

may_told : (u : Unmaking) (s : StackState) (f : Facts) → AreFacts u s f → (r : Held) → may_delete u f r ≡ is_deletable u s r
may_told u s f are r =
    ap (λ (b : Bool). is_in_view u r && (not b && has_try_left u (tally_under r.physical f.tallies))) (are.needed r)
    ∙ ap (λ (b : Bool). is_in_view u r && (not (is_needed u s r) && b)) (ap (has_try_left u) (are.tallies r.physical) ∙ tries_told u s r)

kept_told : (u : Unmaking) (s : StackState) (f : Facts) → AreFacts u s f → (r : Held) → is_kept u f r ≡ keeps (stage_in u) s r
kept_told unmaking.Clean s f are r = ap (λ (o : Option Replace). is_kept_by o r) (are.policies r.path) ∙ policy_kept (current_at r.path s.held) r
kept_told unmaking.Back s f are r = refl
kept_told unmaking.BackClean s f are r = refl
kept_told unmaking.Gone s f are r = ap (λ (b : Bool). is_retained_or_excepted r.deletion || b) (are.retained r.path)

retain_told : (u : Unmaking) (s : StackState) (path : List ℕ)
    → is_among path (retained_in (stage_in u) s) ≡ is_to_retain (stage_in u) s path
retain_told unmaking.Clean s path = refl
retain_told unmaking.Back s path = refl
retain_told unmaking.BackClean s path = refl
retain_told unmaking.Gone s path = refl

-- What a stage may delete is what it looks at and may delete, by Bool words.
may_be : (u : Unmaking) (s : StackState) → status_in u ≡ s.status → (r : Held)
    → MayDelete (stage_in u) s r ↔ (In r (looked_at u s) × (is_deletable u s r ≡ true))
may_be unmaking.Clean s e r = (
  λ w. ((in_joined s.held [] r).1 (inl w.0), and_from r.superseded _ w.1 w.2),
  λ w. (elim ((in_joined s.held [] r).0 w.0) [ inl i ↦ i | inr i ↦ absurd (in_none i) ], first_so r.superseded _ w.1, second_so r.superseded _ w.1),
)
may_be unmaking.Back s e r = (λ w. (w.1, and_from _ _ w.2 w.3), λ w. (sym e, w.0, first_so _ _ w.1, second_so _ _ w.1))
may_be unmaking.BackClean s e r = (λ w. w, λ w. w)
may_be unmaking.Gone s e r =
    let a = is_needed_by_made s r || is_needed_by_create s r in
    let b = is_needed_by_held s r in (
      λ w. (w.0, and_from _ _ (neither a b w.1 w.2) w.3),
      λ w. (w.0, no_first a b (first_so _ _ w.1), no_second a b (first_so _ _ w.1), second_so _ _ w.1),
    )

-- what a stage cleans up is what it looks at, in a cleanup
cleaned : (u : Unmaking) (s : StackState) (r : Held)
    → In r (cleaned_in (stage_in u) s) ↔ (In r (looked_at u s) × ((is_cleanup u && is_in_view u r) ≡ true))
cleaned unmaking.Clean s r =
    let left = in_left (λ (h : Held). h.superseded) s.held r in (
      λ i. ((in_joined s.held [] r).1 (inl (left.0 i).0), (left.0 i).1),
      λ w. left.1 (elim ((in_joined s.held [] r).0 w.0) [ inl i ↦ i | inr i ↦ absurd (in_none i) ], w.1),
    )
cleaned unmaking.Back s r = (λ i. absurd (in_none i), λ w. absurd (true≢false (sym w.1)))
cleaned unmaking.BackClean s r = (λ i. (i, refl), λ w. w.0)
cleaned unmaking.Gone s r = (λ i. absurd (in_none i), λ w. absurd (true≢false (sym w.1)))

module _ (schemas : List Schema) (name : List ℕ) (x : World) (s : StackState) where
  pub intends : (u : Unmaking) → status_in u ≡ s.status → (path : List ℕ) (r : Request) → IntendsIn (stage_in u) schemas name x s path r
      → IntendsDeletion (stage_in u) s path r
  intends unmaking.Clean e path r i = i
  intends unmaking.BackClean e path r i = i
  intends unmaking.Gone e path r i = i
  intends unmaking.Back e path r (inl i) = i
  intends unmaking.Back e path (request.Create k props) (inr w) = absurd w
  intends unmaking.Back e path (request.Delete id) (inr w) = absurd w
  intends unmaking.Back e path (request.Update id props) (inr w) = absurd (unlike (e ∙ w.0))
    where
      unlike : status.RollbackInProgress ≡ status.UpdateRollbackInProgress → ⊥
      unlike e = cc

  intended : (u : Unmaking) (path : List ℕ) (r : Request) → IntendsDeletion (stage_in u) s path r
      → IntendsIn (stage_in u) schemas name x s path r
  intended unmaking.Clean path r i = i
  intended unmaking.BackClean path r i = i
  intended unmaking.Gone path r i = i
  intended unmaking.Back path r i = inl i

module _ (u : Unmaking) (out : List ℕ) (s : StackState) (status_is : status_in u ≡ s.status) where
  abbrev Begins : List ℕ → Request → Type 0
  Begins path r = (schemas : List Schema) (name : List ℕ) (x : World) → MayBeginAt schemas name x out s (stage_in u) path r

  module _ (f : Facts) (are : AreFacts u s f) (idle : waits_for_repeats (stage_in u) out s ≡ false) where
    abbrev start : Held → Start
    start r = record { path = r.path; request = request.Delete r.physical }

    abbrev all_starts : List Start
    all_starts = flat_map (starts_for u f) (looked_at u s)

    abbrev all_kept : List Keeping
    all_kept = flat_map (keepings_by u f) (looked_at u s)

    closed : (path : List ℕ) → is_free path s ≡ true → has_key path f.busy ≡ false
    closed path e = are.busy path ∙ ap not e

    free : (path : List ℕ) → has_key path f.busy ≡ false → is_free path s ≡ true
    free path e = not_true_false (is_free path s) (sym (are.busy path) ∙ e)

    -- Deletions.
    starting : (r : Held) → In r (looked_at u s) → is_deletable u s r ≡ true → keeps (stage_in u) s r ≡ false → is_free r.path s ≡ true
        → In (start r) all_starts
    starting r i d k o =
        (in_flat (starts_for u f) (looked_at u s) (start r)).1 (
          r,
          i,
          (in_then (may_delete u f r && not (is_kept u f r)) (deletion_start f r) (start r)).1 (
            and_from (may_delete u f r) (not (is_kept u f r)) (may_told u s f are r ∙ d) (not_so (is_kept u f r) (kept_told u s f are r ∙ k)),
            (in_else (has_key r.path f.busy) (start r ∷ []) (start r)).1 (closed r.path o, here),
          ),
        )

    starts_in : (path : List ℕ) (r : Request) → IntendsDeletion (stage_in u) s path r → is_free path s ≡ true
        → In (record { path = path; request = r }) all_starts
    starts_in path (request.Create k props) w o = absurd w
    starts_in path (request.Update id props) w o = absurd w
    starts_in path (request.Delete id) (r, may, kept, at_path, of_id) o =
        let d = (may_be u s status_is r).0 may in
        subst (λ (p : List ℕ). In (record { path = p; request = request.Delete id }) all_starts) (sym at_path)
        (subst (λ (i : List ℕ). In (record { path = r.path; request = request.Delete i }) all_starts) (sym of_id)
        (starting r d.0 d.1 kept (subst (λ (p : List ℕ). is_free p s ≡ true) at_path o)))

    begins : (t : Start) → In t all_starts → Begins t.path t.request
    begins t i schemas name x =
        let w = (in_flat (starts_for u f) (looked_at u s) t).0 i in
        let r = w.0 in
        let let_in = (in_then (may_delete u f r && not (is_kept u f r)) (deletion_start f r) t).0 w.2 in
        let one = (in_else (has_key r.path f.busy) (start r ∷ []) t).0 let_in.1 in
        let may = sym (may_told u s f are r) ∙ first_so (may_delete u f r) (not (is_kept u f r)) let_in.0 in
        let kept = sym (kept_told u s f are r) ∙ is_so (is_kept u f r) (second_so (may_delete u f r) (not (is_kept u f r)) let_in.0) in
        subst (λ (t : Start). MayBeginAt schemas name x out s (stage_in u) t.path t.request) (only_one (start r) t one.1)
        (free r.path one.0, idle, intended schemas name x s u r.path (request.Delete r.physical) (r, (may_be u s status_is r).1 (w.1, may), kept, refl, refl))

    pub idle_starts : AreAllStarts u out s all_starts
    idle_starts schemas name x path r = (λ w. starts_in path r (intends schemas name x s u status_is path r w.2) w.0, λ i. begins (record { path = path; request = r }) i schemas name x)

    -- What is kept.
    retained_at : (r : Held) → is_deletable u s r ≡ true → keeps (stage_in u) s r ≡ true
        → (is_free r.path s ≡ true) ⊎ (is_to_retain (stage_in u) s r.path ≡ true) → In (keeping_for r why.Retained) (retained_by u f r)
    retained_at r d k o =
        (in_then (may_delete u f r && is_kept u f r) (retention_of f r) (keeping_for r why.Retained)).1 (
          and_from (may_delete u f r) (is_kept u f r) (may_told u s f are r ∙ d) (kept_told u s f are r ∙ k),
          (in_else (has_key r.path f.busy && not (has_key r.path f.retained)) (keeping_for r why.Retained ∷ []) (keeping_for r why.Retained)).1 (by o, here),
        )
      where
        by : (is_free r.path s ≡ true) ⊎ (is_to_retain (stage_in u) s r.path ≡ true)
            → (has_key r.path f.busy && not (has_key r.path f.retained)) ≡ false
        by (inl o) = rw (closed r.path o) refl
        by (inr t) = rw (are.retained r.path ∙ (retain_told u s r.path ∙ t)) (never (has_key r.path f.busy))
          where
            never : (b : Bool) → (b && false) ≡ false
            never true = refl
            never false = refl

    in_kept : (r : Held) → In r (looked_at u s) → (k : Keeping) → In k (retained_by u f r) ⊎ In k (undeleted_by u f r) → In k all_kept
    in_kept r i k w = (in_flat (keepings_by u f) (looked_at u s) k).1 (r, i, (in_joined (retained_by u f r) (undeleted_by u f r) k).1 w)

    undeleted_at : (r : Held) (k : Keeping) → (is_cleanup u && is_in_view u r) ≡ true → In k (refused_by f r) ⊎ In k (doubted_by f r)
        → In k (undeleted_by u f r)
    undeleted_at r k c w = (in_then (is_cleanup u && is_in_view u r) (refused_by f r ++ doubted_by f r) k).1 (c, (in_joined (refused_by f r) (doubted_by f r) k).1 w)

    refused_told : (r : Held) → nat_lt (tally_under r.physical f.tallies).refused 3 ≡ nat_lt (refusals_of r.physical s) 3
    refused_told r = ap (λ (t : Tally). nat_lt t.refused 3) (are.tallies r.physical) ∙ less_same (refusals_of r.physical s)

    -- at the path and under the id that a keeping tells
    told_at : (r : Held) (path physical : List ℕ) (w : Why) → path ≡ r.path → physical ≡ r.physical → In (keeping_for r w) all_kept
        → In (record { path = path; physical = physical; why = w }) all_kept
    told_at r path physical w at_path of_id i =
        subst (λ (p : List ℕ). In (record { path = p; physical = physical; why = w }) all_kept) (sym at_path)
        (subst (λ (q : List ℕ). In (record { path = r.path; physical = q; why = w }) all_kept) (sym of_id) i)

    kept_in : (path physical : List ℕ) (w : Why) → KeepsResource (stage_in u) out s path physical w
        → In (record { path = path; physical = physical; why = w }) all_kept
    kept_in path physical why.Retained (r, may, waits, kept, at_path, of_id, o) =
        let d = (may_be u s status_is r).0 may in
        let at_r = subst (λ (p : List ℕ). (is_free p s ≡ true) ⊎ (is_to_retain (stage_in u) s p ≡ true)) at_path o in
        told_at r path physical why.Retained at_path of_id (in_kept r d.0 (keeping_for r why.Retained) (inl (retained_at r d.1 kept at_r)))
    kept_in path physical why.Failed ((r, i, at_path, of_id), m) =
        let c = (cleaned u s r).0 i in
        let three : 3 ≤ refusals_of r.physical s = subst (λ (q : List ℕ). 3 ≤ refusals_of q s) of_id m in
        told_at r path physical why.Failed at_path of_id
        (in_kept r c.0 (keeping_for r why.Failed) (inr (undeleted_at r (keeping_for r why.Failed) c.1
        (inl ((in_else (nat_lt (tally_under r.physical f.tallies).refused 3) (keeping_for r why.Failed ∷ []) (keeping_for r why.Failed)).1
        (refused_told r ∙ are_three (refusals_of r.physical s) three, here))))))
    kept_in path physical why.Doubt ((r, i, at_path, of_id), p, j, deletes, m) =
        let c = (cleaned u s r).0 i in
        let deletes_r : is_deletion_of r.physical p ≡ true = subst (λ (q : List ℕ). is_deletion_of q p ≡ true) of_id deletes in
        let one : is_doubted_by r.physical s p ≡ true = and_from (is_deletion_of r.physical p) (not (nat_lt (doubts_of p.token s) 3)) deletes_r (not_so (nat_lt (doubts_of p.token s) 3) (are_three (doubts_of p.token s) m)) in
        let doubted = are.doubted r.physical ∙ and_from (is_cleanup u) (is_doubted r.physical s) (first_so (is_cleanup u) (is_in_view u r) c.1) (any_in (is_doubted_by r.physical s) p s.tokens j one) in
        told_at r path physical why.Doubt at_path of_id
        (in_kept r c.0 (keeping_for r why.Doubt) (inr (undeleted_at r (keeping_for r why.Doubt) c.1
        (inr ((in_then (has_key r.physical f.doubted) (keeping_for r why.Doubt ∷ []) (keeping_for r why.Doubt)).1 (doubted, here))))))

    abbrev IsKept : Keeping → Type 0
    IsKept k = KeepsResource (stage_in u) out s k.path k.physical k.why

    when_retained : (r : Held) → (has_key r.path f.busy && not (has_key r.path f.retained)) ≡ false
        → (is_free r.path s ≡ true) ⊎ (is_to_retain (stage_in u) s r.path ≡ true)
    when_retained r e = by (has_key r.path f.busy) refl e
      where
        by : (b : Bool) → has_key r.path f.busy ≡ b → (b && not (has_key r.path f.retained)) ≡ false
            → (is_free r.path s ≡ true) ⊎ (is_to_retain (stage_in u) s r.path ≡ true)
        by true o e = inr (sym (retain_told u s r.path) ∙ (sym (are.retained r.path) ∙ not_true_false (has_key r.path f.retained) e))
        by false o e = inl (free r.path o)

    kept_of : (r : Held) → In r (looked_at u s) → (k : Keeping) → In k (retained_by u f r) → IsKept k
    kept_of r i k j =
        let let_in = (in_then (may_delete u f r && is_kept u f r) (retention_of f r) k).0 j in
        let one = (in_else (has_key r.path f.busy && not (has_key r.path f.retained)) (keeping_for r why.Retained ∷ []) k).0 let_in.1 in
        let may = sym (may_told u s f are r) ∙ first_so (may_delete u f r) (is_kept u f r) let_in.0 in
        let kept = sym (kept_told u s f are r) ∙ second_so (may_delete u f r) (is_kept u f r) let_in.0 in
        subst IsKept (only_one (keeping_for r why.Retained) k one.1)
        (r, (may_be u s status_is r).1 (i, may), idle, kept, refl, refl, when_retained r one.0)

    refused_of : (r : Held) → In r (cleaned_in (stage_in u) s) → (k : Keeping) → In k (refused_by f r) → IsKept k
    refused_of r c k j =
        let one = (in_else (nat_lt (tally_under r.physical f.tallies).refused 3) (keeping_for r why.Failed ∷ []) k).0 j in
        subst IsKept (only_one (keeping_for r why.Failed) k one.1)
        ((r, c, refl, refl), three_are (refusals_of r.physical s) (sym (refused_told r) ∙ one.0))

    doubted_of : (r : Held) → In r (cleaned_in (stage_in u) s) → (k : Keeping) → In k (doubted_by f r) → IsKept k
    doubted_of r c k j =
        let one = (in_then (has_key r.physical f.doubted) (keeping_for r why.Doubt ∷ []) k).0 j in
        let doubted = second_so (is_cleanup u) (is_doubted r.physical s) (sym (are.doubted r.physical) ∙ one.0) in
        let w = in_any (is_doubted_by r.physical s) s.tokens doubted in
        let p = w.0 in
        subst IsKept (only_one (keeping_for r why.Doubt) k one.1) (
          (r, c, refl, refl),
          p,
          w.1,
          first_so (is_deletion_of r.physical p) (not (nat_lt (doubts_of p.token s) 3)) w.2,
          three_are (doubts_of p.token s) (is_so (nat_lt (doubts_of p.token s) 3) (second_so (is_deletion_of r.physical p) (not (nat_lt (doubts_of p.token s) 3)) w.2)),
        )

    is_kept_told : (k : Keeping) → In k all_kept → IsKept k
    is_kept_told k i =
        let w = (in_flat (keepings_by u f) (looked_at u s) k).0 i in
        by w.0 w.1 ((in_joined (retained_by u f w.0) (undeleted_by u f w.0) k).0 w.2)
      where
        undeleted : (r : Held) → In r (looked_at u s) → ((is_cleanup u && is_in_view u r) ≡ true) × In k (refused_by f r ++ doubted_by f r)
            → IsKept k
        undeleted r i (c, j) =
            let there_is = (cleaned u s r).1 (i, c) in
            elim ((in_joined (refused_by f r) (doubted_by f r) k).0 j) [ inl m ↦ refused_of r there_is k m | inr m ↦ doubted_of r there_is k m ]

        by : (r : Held) → In r (looked_at u s) → In k (retained_by u f r) ⊎ In k (undeleted_by u f r) → IsKept k
        by r i (inl j) = kept_of r i k j
        by r i (inr j) = undeleted r i ((in_then (is_cleanup u && is_in_view u r) (refused_by f r ++ doubted_by f r) k).0 j)

    pub idle_kept : AreResourcesKept u out s all_kept
    idle_kept path physical w = (λ m. kept_in path physical w m, λ i. is_kept_told (record { path = path; physical = physical; why = w }) i)

-- Waiting for repeats.
module _ (out : List ℕ) (s : StackState) (repeats : List Pending) where
  module _ (stage : Stage) (may : Pending → Bool) (are : (p : Pending) → (In p s.tokens × (may p ≡ true)) ↔ In p repeats) where
    some_left : (ps : List Pending) → ps ≡ repeats → (b : Bool) → (b ≡ true) ↔ (repeats ≡ []) → list_any may s.tokens ≡ not b
    some_left [] e b is =
        rw (is.1 (sym e))
        (false_from (list_any may s.tokens) (λ t. let w = in_any may s.tokens t in absurd (in_none (subst (λ (ps : List Pending). In w.0 ps) (sym e) ((are w.0).0 (w.1, w.2))))))
    some_left (p ∷ ps) e b is =
        let i : In p repeats = subst (λ (qs : List Pending). In p qs) e here in
        let none : b ≡ false = false_from b (λ t. absurd (in_none (subst (λ (qs : List Pending). In p qs) (is.0 t) i))) in
        rw none (any_in may p s.tokens ((are p).1 i).0 ((are p).1 i).1)

  pub waits_told : (u : Unmaking) → AreRepeatsBut (retained_in (stage_in u) s) out s repeats → (b : Bool) → (b ≡ true) ↔ (repeats ≡ [])
      → (not (is_cleanup u) && (is_repeat_in_flight out s || not b)) ≡ waits_for_repeats (stage_in u) out s
  waits_told unmaking.Clean are b is = refl
  waits_told unmaking.BackClean are b is = refl
  waits_told unmaking.Back are b is =
      ap (λ (c : Bool). is_repeat_in_flight out s || c) (sym (some_left Back (may_repeat Back out s) (are [] [] empty_world Back refl tt) repeats refl b is))
  waits_told unmaking.Gone are b is =
      ap (λ (c : Bool). is_repeat_in_flight out s || c) (sym (some_left Gone (may_repeat Gone out s) (are [] [] empty_world Gone refl tt) repeats refl b is))

  -- where no repeat is out and the stage is no cleanup, it waits while one may come
  pub waits_then : (u : Unmaking) → AreRepeatsBut (retained_in (stage_in u) s) out s repeats → (b : Bool) → (b ≡ true) ↔ (repeats ≡ [])
      → not (is_cleanup u) ≡ true → is_repeat_in_flight out s ≡ false → not b ≡ waits_for_repeats (stage_in u) out s
  waits_then u are b is c f =
      sym (ap (λ (d : Bool). d && (is_repeat_in_flight out s || not b)) c ∙ ap (λ (d : Bool). d || not b) f) ∙ waits_told u are b is

-- Where a stage waits, nothing begins and no resource is kept.
module _ (u : Unmaking) (out : List ℕ) (s : StackState) (waits : waits_for_repeats (stage_in u) out s ≡ true) where
  no_cleanup : is_cleanup u ≡ false
  no_cleanup = by u waits
    where
      by : (v : Unmaking) → waits_for_repeats (stage_in v) out s ≡ true → is_cleanup v ≡ false
      by unmaking.Clean e = absurd (true≢false (sym e))
      by unmaking.Back e = refl
      by unmaking.BackClean e = absurd (true≢false (sym e))
      by unmaking.Gone e = refl

  not_cleaned : (r : Held) → In r (cleaned_in (stage_in u) s) → ⊥
  not_cleaned r i = not_both (is_cleanup u) (first_so (is_cleanup u) (is_in_view u r) ((cleaned u s r).0 i).1) no_cleanup

  pub waiting_starts : AreAllStarts u out s []
  waiting_starts schemas name x path r = (λ w. absurd (not_both (waits_for_repeats (stage_in u) out s) waits w.1), λ i. absurd (in_none i))

  nothing_kept : (path physical : List ℕ) (w : Why) → KeepsResource (stage_in u) out s path physical w → ⊥
  nothing_kept path physical why.Retained m = not_both (waits_for_repeats (stage_in u) out s) waits m.2
  nothing_kept path physical why.Failed m = not_cleaned m.0.0 m.0.1
  nothing_kept path physical why.Doubt m = not_cleaned m.0.0 m.0.1

  pub waiting_kept : AreResourcesKept u out s []
  waiting_kept path physical w = (λ m. absurd (nothing_kept path physical w m), λ i. absurd (in_none i))

-- No phase begins in a stage that deletes.
not_forward : (u : Unmaking) → stage_of (status_in u) ≡ Some Forward → ⊥
not_forward unmaking.Clean e = cc
not_forward unmaking.Back e = cc
not_forward unmaking.BackClean e = cc
not_forward unmaking.Gone e = cc

not_updating : (u : Unmaking) → status_in u ≡ status.UpdateInProgress → ⊥
not_updating unmaking.Clean e = cc
not_updating unmaking.Back e = cc
not_updating unmaking.BackClean e = cc
not_updating unmaking.Gone e = cc

not_restoring : (u : Unmaking) → status_in u ≡ status.UpdateRollbackInProgress → ⊥
not_restoring unmaking.Clean e = cc
not_restoring unmaking.Back e = cc
not_restoring unmaking.BackClean e = cc
not_restoring unmaking.Gone e = cc

module _ (u : Unmaking) (out : List ℕ) (s : StackState) (status_is : status_in u ≡ s.status) where
  pub no_turn : (schemas : List Schema) (name : List ℕ) (x : World) (p : Phase) (c : Option Cause) → MayTurn schemas name x s p c → ⊥
  no_turn schemas name x phase.Clean None w = not_updating u (status_is ∙ w.0)
  no_turn schemas name x phase.Clean (Some c) w = w
  no_turn schemas name x phase.Back None w = w
  no_turn schemas name x phase.Back (Some c) w = not_forward u (ap stage_of status_is ∙ w.0)
  no_turn schemas name x phase.BackClean None w = not_restoring u (status_is ∙ w.0)
  no_turn schemas name x phase.BackClean (Some c) w = w

  -- The open creates of the paths that are to be retained.
  abbrev retained : List (List ℕ)
  retained = retained_in (stage_in u) s

  abbrev all_given_up : List Keeping
  all_given_up = flat_map (creates_given_up retained) s.tokens

  abbrev GivesUp : List ℕ → List ℕ → Type 0
  GivesUp path physical =
      (stage_in u ≡ Gone) × (physical ≡ []) × (is_among path (named_paths s) ≡ true) × (list_any (is_create_at path) s.tokens ≡ true)

  retains : (path : List ℕ) → stage_in u ≡ Gone → is_among path (named_paths s) ≡ true → is_among path retained ≡ true
  retains path e t = ap (λ (stage : Stage). is_among path (retained_in stage s)) e ∙ t

  abbrev given : Pending → Keeping
  given p = record { path = p.path; physical = []; why = why.Retained }

  in_given : (path physical : List ℕ) → GivesUp path physical
      → In (record { path = path; physical = physical; why = why.Retained }) all_given_up
  in_given path physical (e, none, among, creates) =
      let w = in_any (is_create_at path) s.tokens creates in
      let p = w.0 in
      let at : path ≡ p.path = bytes_same path p.path (second_so (is_create p.request) (bytes_eq path p.path) w.2) in
      let test : (is_create p.request && is_among p.path retained) ≡ true =
      and_from (is_create p.request) (is_among p.path retained) (first_so (is_create p.request) (bytes_eq path p.path) w.2)
      (subst (λ (q : List ℕ). is_among q retained ≡ true) at (retains path e among)) in
      subst (λ (q : List ℕ). In (record { path = q; physical = physical; why = why.Retained }) all_given_up) (sym at)
      (subst (λ (i : List ℕ). In (record { path = p.path; physical = i; why = why.Retained }) all_given_up) (sym none)
      ((in_flat (creates_given_up retained) s.tokens (given p)).1 (p, w.1, (in_then (is_create p.request && is_among p.path retained) (given p ∷ []) (given p)).1 (test, here))))

  only_gone : (v : Unmaking) (path : List ℕ) → is_among path (retained_in (stage_in v) s) ≡ true
      → (stage_in v ≡ Gone) × (is_among path (named_paths s) ≡ true)
  only_gone unmaking.Clean path t = absurd (true≢false (sym t))
  only_gone unmaking.Back path t = absurd (true≢false (sym t))
  only_gone unmaking.BackClean path t = absurd (true≢false (sym t))
  only_gone unmaking.Gone path t = (refl, t)

  gives_up : (k : Keeping) → In k all_given_up → MayKeep (stage_in u) out s k.path k.physical k.why
  gives_up k i =
      let w = (in_flat (creates_given_up retained) s.tokens k).0 i in
      let p = w.0 in
      let one = (in_then (is_create p.request && is_among p.path retained) (given p ∷ []) k).0 w.2 in
      let creates = first_so (is_create p.request) (is_among p.path retained) one.0 in
      let gone = only_gone u p.path (second_so (is_create p.request) (is_among p.path retained) one.0) in
      let same : bytes_eq p.path p.path ≡ true = same_bytes p.path in
      subst (λ (k : Keeping). MayKeep (stage_in u) out s k.path k.physical k.why) (only_one (given p) k one.1)
      (inr (gone.0, refl, gone.1, any_in (is_create_at p.path) p s.tokens w.1 (and_from (is_create p.request) (bytes_eq p.path p.path) creates same)))

  keeps_by : (path physical : List ℕ) (w : Why) → KeepsResource (stage_in u) out s path physical w
      → MayKeep (stage_in u) out s path physical w
  keeps_by path physical why.Retained m = inl m
  keeps_by path physical why.Failed m = m
  keeps_by path physical why.Doubt m = m

  module _ (kept : List Keeping) (are : AreResourcesKept u out s kept) where
    keeps_in : (path physical : List ℕ) (w : Why) → MayKeep (stage_in u) out s path physical w
        → In (record { path = path; physical = physical; why = w }) kept ⊎ In (record { path = path; physical = physical; why = w }) all_given_up
    keeps_in path physical why.Retained (inl m) = inl ((are path physical why.Retained).0 m)
    keeps_in path physical why.Retained (inr m) = inr (in_given path physical m)
    keeps_in path physical why.Failed m = inl ((are path physical why.Failed).0 m)
    keeps_in path physical why.Doubt m = inl ((are path physical why.Doubt).0 m)

    keeping_told : (k : Keeping) → In k kept ⊎ In k all_given_up → MayKeep (stage_in u) out s k.path k.physical k.why
    keeping_told k (inl i) = keeps_by k.path k.physical k.why ((are k.path k.physical k.why).1 i)
    keeping_told k (inr i) = gives_up k i

    all_keepings : AreKeepings (stage_in u) out s (kept ++ all_given_up)
    all_keepings path physical w =
        let k : Keeping = record { path = path; physical = physical; why = w } in
        (λ m. (in_joined kept all_given_up k).1 (keeps_in path physical w m), λ i. keeping_told k ((in_joined kept all_given_up k).0 i))

    -- All that the stage offers.
    never_fails : (v : Unmaking) (schemas : List Schema) (name : List ℕ) (x : World) → HasNotFailed schemas name x s (stage_in v)
    never_fails unmaking.Clean schemas name x = tt
    never_fails unmaking.Back schemas name x = tt
    never_fails unmaking.BackClean schemas name x = tt
    never_fails unmaking.Gone schemas name x = tt

    not_ahead : (v : Unmaking) → stage_in v ≡ Forward → ⊥
    not_ahead unmaking.Clean e = cc
    not_ahead unmaking.Back e = cc
    not_ahead unmaking.BackClean e = cc
    not_ahead unmaking.Gone e = cc

    pub offered : (starts : List Start) → AreAllStarts u out s starts → (repeats : List Pending) → AreRepeatsBut retained out s repeats
        → (o : Offer)
        → o.repeats ≡ repeats → o.starts ≡ starts → o.keepings ≡ kept ++ all_given_up → o.turn ≡ None → IsOfferIn (stage_in u) out s o
    offered starts begins repeats again o r t k none schemas name x = record {
      repeats = subst (AreRepeats schemas name x out s (stage_in u)) (sym r) (again schemas name x (stage_in u) refl (never_fails u schemas name x));
      starts = subst (AreStarts schemas name x out s (stage_in u)) (sym t) (begins schemas name x);
      keepings = subst (AreKeepings (stage_in u) out s) (sym k) all_keepings;
      turn = λ p c. (λ w. absurd (no_turn schemas name x p c w), λ e. absurd (no_one (sym none ∙ e)));
      made = λ e. absurd (not_ahead u e);
    }
      where
        no_one : {t : Turn} → None ≡ Some t → ⊥
        no_one e = cc

-- The same of what was made, or not.
pub told_removals : {E : Type 0} (u : Unmaking) (out : List ℕ) (s : StackState) (f : Facts) (made : Result Removals E)
    → status_in u ≡ s.status → AreFacts u s f
    → waits_for_repeats (stage_in u) out s ≡ false
    → IfOk made (λ r. IsWalked u s f r)
    → IfOk made (λ r. AreRemovals u out s r)
told_removals u out s f (Ok r) status_is are idle e =
    (subst (AreAllStarts u out s) (sym e.0) (idle_starts u out s status_is f are idle), subst (AreResourcesKept u out s) (sym e.1) (idle_kept u out s status_is f are idle))
told_removals u out s f (Err fault) status_is are idle e = e

pub told_offer :
    {E : Type 0} (u : Unmaking) (out : List ℕ) (s : StackState) (paths : List (List ℕ)) (r : Removals) (repeats : List Pending) (made : Result Offer E)
    → status_in u ≡ s.status → paths ≡ retained_in (stage_in u) s → AreRemovals u out s r → AreRepeatsBut paths out s repeats
    → IfOk made (λ o. IsOfferWith paths s repeats r o) → IfOk made (λ o. IsOfferIn (stage_in u) out s o)
told_offer u out s paths r repeats (Ok o) status_is same are again e =
    offered u out s status_is r.keepings are.1 r.starts are.0 repeats (subst (λ (ps : List (List ℕ)). AreRepeatsBut ps out s repeats) same again) o e.0 e.1
    (e.2 ∙ ap (λ (ps : List (List ℕ)). r.keepings ++ flat_map (creates_given_up ps) s.tokens) same) e.3
told_offer u out s paths r repeats (Err fault) status_is same are again e = e
