-- The deletion that is found by what is kept of a rollback is the one that comes next.
use Rattle.std.proofs.Common.{◌≡◌, ◌↔◌, ◌⊎◌, inl, inr, ℕ, zero, suc, ◌+◌, ◌<◌, ◌≤◌, ◌==◌, arith, Bool, true, false, ◌&&◌, ◌||◌, not, List, [], ◌∷◌, ◌++◌, Option, Some, None, Result, Ok, Err, IfOk, cond, filter, find, flat_map, get_or, length, map, option_map, refl, ap, sym, ◌∙◌, subst, true≢false}
use Rattle.std.specs.Cmp.{first_so, second_so}
use Rattle.std.specs.Prelude.{is_some}
use Rattle.std.specs.List.{AllByRecursion, list_any, slice_get}
use Rattle.std.specs.Option.{option_and_then, option_map_or, option_or}
use Rattle.std.specs.Str.{bytes_eq}
use Rattle.std.proofs.lemmas.Bool.{and_from, cases_lt, eq-eqb, eqb-true}
use Rattle.std.proofs.lemmas.Option.{none-some, same_Some, slice_get-get_or, slice_get-map, slice_get_within}
use Rattle.cf_tree.specs.Keys.{ascends, bytes_lt, value_at}
use Rattle.cf_tree.specs.declared.request.Request.{Request}
use Rattle.cf_tree.specs.declared.request.Request.TheVariants as request
use Rattle.cf_tree.specs.declared.source.Source.{Source}
use Rattle.cf_tree.specs.declared.template.Deletion.{Deletion}
use Rattle.cf_tree.specs.declared.template.Deletion.TheVariants as deletion
use Rattle.cf_tree.specs.Lists.{In, here, is_among, there}
use Rattle.cf_ready.specs.Ready.{are_made_in, is_made_in}
use Rattle.cf_ready.proofs.Ranked.{same_or_not}
use Rattle.cf_schema.specs.declared.described.Schema.{Schema}
use Rattle.cf_desired.specs.declared.shape.Terms.{Terms}
use Rattle.cf_desired.specs.declared.wanted.Wanted.{Wanted}
use Rattle.cf_desired.specs.Plan.{plan_by}
use Rattle.cf_desired.specs.Seeing.{Seen}
use Rattle.cf_desired.specs.Shape.{shape_of}
use Rattle.cf_desired.specs.Turns.{member_terms}
use Rattle.cf_desired.specs.Valued.{resources_in}
use Rattle.cf_desired.specs.Whole.{wanted_at}
use Rattle.cf_desired.specs.Work.{Member}
use Rattle.cf_desired.proofs.Termed.{terms_by, wanted_terms}
use Rattle.cf_entry.proofs.Codec.{some_is}
use Rattle.cf_entry.specs.declared.status.Status.TheVariants as status
use Rattle.cf_entry.specs.declared.turn.Cause.{Cause}
use Rattle.cf_entry.specs.declared.turn.Phase.{Phase}
use Rattle.cf_entry.specs.declared.turn.Why.{Why}
use Rattle.cf_entry.specs.declared.turn.Why.TheVariants as why
use Rattle.cf_effect.specs.declared.call.Call.{Call}
use Rattle.cf_effect.specs.declared.held.Held.{Held}
use Rattle.cf_effect.specs.declared.held.Pending.{Pending}
use Rattle.cf_effect.specs.declared.layout.Layout.{Layout}
use Rattle.cf_effect.specs.declared.layout.Placed.{Placed}
use Rattle.cf_effect.specs.declared.undoing.Undoing.{Undoing}
use Rattle.cf_effect.specs.Begin.{seen_in}
use Rattle.cf_effect.specs.Calls.{deletions_of, own_calls}
use Rattle.cf_effect.specs.End.{is_physical_of}
use Rattle.cf_effect.specs.Layout.{AreRows, is_place, is_row_of, source_members, path_at, users_at}
use Rattle.cf_effect.specs.Reply.{terms_of, wanted_in}
use Rattle.cf_effect.specs.Status.{Back, Forward, Gone, Stage, stage_of}
use Rattle.cf_effect.specs.Undoing.{IsUndoing, gone_if, id_at}
use Rattle.cf_effect.specs.Words.{current_at, deletes, is_create, is_current_at, resource_at}
use Rattle.cf_effect.specs.World.{StackState, World}
use Rattle.cf_effect.proofs.Closed.{any_found}
use Rattle.cf_effect.proofs.Places.{passes_at}
use Rattle.cf_effect.proofs.Sorted.{its_place, name_there, value_there}
use Rattle.cf_effect.proofs.Sought.{apart_in, first_named, row_at}
use Rattle.cf_plan.specs.Between.{is_at_one, is_needed_by_create, is_needed_by_made, needs_at}
use Rattle.cf_plan.specs.Follow.{IntendsDeletion, MayDelete, MayKeep, MayRepeat, is_free, is_not_needed, is_retained, is_untried, may_repeat, is_repeat_in_flight, waits_for_repeats}
use Rattle.cf_plan.specs.Start.{Start}
use Rattle.cf_plan.proofs.CreatedStays.{found_one}
use Rattle.cf_plan.proofs.Listed.{bytes_same, in_cons, in_none, same_bytes}
use Rattle.cf_plan.proofs.Members.{any_in, false_from, in_any, is_so, not_both, not_so}
use Rattle.cf_plan.proofs.Orders.{lower, not_below_itself}
use Rattle.cf_next.specs.declared.offer.Keeping.{Keeping}
use Rattle.cf_next.specs.declared.offer.Offer.{Offer}
use Rattle.cf_next.specs.declared.step.Next.{Next}
use Rattle.cf_next.specs.declared.unmaking.Unmaking.TheVariants as unmaking
use Rattle.cf_next.specs.Chosen.{IsChosen, physical_id_of, precedes}
use Rattle.cf_next.specs.First.{call_in, fits_one, homes_now, is_start_before}
use Rattle.cf_next.specs.Offer.{AreKeepings, AreStarts, IsOffer, MayBeginAt}
use Rattle.cf_next.specs.Rollback.{IsFirstFound, IsTaken, NoneBefore, deletion_at, deletion_of, deletion_ranked, fitting_of, has_create, may_delete}
use Rattle.cf_next.proofs.FirstBegun.{new_chosen}
use Rattle.cf_next.proofs.FirstNamed.{above, others}
use Rattle.cf_next.proofs.Firsts.{IsFirst, starts_in_order}
use Rattle.cf_next.proofs.Followed.{none_is}
use Rattle.cf_next.proofs.Removing.{in_flat, in_then, intends, no_turn, only_one}

-- What the source says a path needs is what its shape says.
needs_told : Option Terms → List (List ℕ)
needs_told None = []
needs_told (Some t) = t.needs

wanted_needs : (o : Option Wanted) → (terms_of o).needs ≡ needs_told (option_map terms_by o)
unfolding needs_told
wanted_needs None = refl
wanted_needs (Some w) = refl

needs_any : (g : Option Source) (before : Seen) (path : List ℕ) → (terms_of (wanted_in g before path)).needs
    ≡ needs_told (option_map member_terms (find (λ m. bytes_eq path m.path) (option_map_or (λ source. resources_in (shape_of source before)) g [])))
unfolding needs_told
needs_any None before path = refl
needs_any (Some source) before path =
    wanted_needs (wanted_at path (plan_by source (shape_of source before) before)) ∙ ap needs_told (wanted_terms source before (shape_of source before) path)

needs_of : (s : StackState) (path : List ℕ) (o : Option Member) → find (λ m. bytes_eq path m.path) (source_members s) ≡ o → needs_at path s ≡ needs_told (option_map member_terms o)
needs_of s path o e = needs_any s.going (seen_in s.before) path ∙ ap (λ p. needs_told (option_map member_terms p)) e

needs_in : (s : StackState) (at : ℕ) (m : Member) → slice_get (source_members s) at ≡ Some m → needs_at m.path s ≡ m.needs
unfolding needs_told
needs_in s at m e = needs_of s m.path (Some m) (first_named (source_members s) at m (apart_in s) e)

-- What is kept of the rollback says what of a stack is needed.
module _ (s : StackState) (u : Undoing) (k : IsUndoing s u) where
  abbrev l : Layout
  l = u.layout

  -- the row and the member of the path of a place
  record Placing (p : List ℕ) (at : ℕ) : Type 0 where
    pub row : Placed
    pub stands : slice_get l.rows.items at ≡ Some row
    pub path : row.path ≡ p
    pub member : Member
    pub there : slice_get (source_members s) at ≡ Some member
    pub named : member.path ≡ p
    pub needs : map (path_at l.rows.items) row.needs.items ≡ member.needs
    pub earlier : AllByRecursion (λ j. j < at) row.needs.items

  placed : (path : List ℕ) (at : ℕ) → value_at path l.places ≡ Some at → Placing path at
  placed path at h =
      let it = passes_at (is_row_of path) l.rows.items at (sym (k.rows.places path) ∙ h) in
      let same : it.0.path ≡ path = sym (bytes_same path it.0.path it.2) in
      let m = row_at (source_members s) l k.rows at it.0 it.1 in record {
        row = it.0;
        stands = it.1;
        path = same;
        member = m.0;
        there = m.1;
        named = sym m.2 ∙ same;
        needs = m.3;
        earlier = m.4;
      }

  needs_placed : (path : List ℕ) (at : ℕ) (w : Placing path at) → needs_at path s ≡ map (path_at l.rows.items) w.row.needs.items
  needs_placed path at w = ap (λ p. needs_at p s) (sym w.named) ∙ needs_in s at w.member w.there ∙ sym w.needs

  path_placed : (path : List ℕ) (at : ℕ) → value_at path l.places ≡ Some at → path_at l.rows.items at ≡ path
  path_placed path at h = let w = placed path at h in ap (λ o. option_map_or (λ (r : Placed). r.path) o []) w.stands ∙ w.path

  same_place : (p q : List ℕ) (at : ℕ) → value_at p l.places ≡ Some at → value_at q l.places ≡ Some at → p ≡ q
  same_place p q at h g = sym (path_placed p at h) ∙ path_placed q at g

  -- of one path, and of one id, there is one
  one_id : (r x : Held) → In r s.made → In x s.made → r.path ≡ x.path → r.physical ≡ x.physical
  one_id r x i j e =
      let a = k.ids.there r i in
      let b = k.ids.there x j in
      let same : a.0 ≡ b.0 = same_Some a.0 b.0 (sym a.1 ∙ ap (λ p. value_at p l.places) e ∙ b.1) in
      same_Some r.physical x.physical (sym a.2 ∙ ap (id_at u.ids.items) same ∙ b.2)

  one_path : (r x : Held) → In r s.made → In x s.made → r.physical ≡ x.physical → r.path ≡ x.path
  one_path r x i j e =
      let a = k.ids.there r i in
      let b = k.ids.there x j in
      let same : a.0 ≡ b.0 = k.apart a.0 b.0 r.physical a.2 (b.2 ∙ ap (λ id. Some id) (sym e)) in
      same_place r.path x.path b.0 (a.1 ∙ ap (λ n. Some n) same) b.1

  none_held : (q : List ℕ) → current_at q s.held ≡ None
  none_held q = ap (current_at q) k.rolls.held

  found_resource : (q : List ℕ) → resource_at q s ≡ current_at q s.made
  found_resource q = ap (λ o. option_or (current_at q s.made) o) (none_held q) ∙ or_none (current_at q s.made) where
    or_none : (o : Option Held) → option_or o None ≡ o
    or_none None = refl
    or_none (Some h) = refl

  -- the resource of an id is found at its path alone
  its_path : (r : Held) → In r s.made → (q : List ℕ) → is_physical_of r.physical (resource_at q s) ≡ true → q ≡ r.path
  its_path r i q h = by (current_at q s.made) refl (sym (ap (is_physical_of r.physical) (found_resource q)) ∙ h) where
    by : (o : Option Held) → current_at q s.made ≡ o → is_physical_of r.physical o ≡ true → q ≡ r.path
    by None e t = absurd (true≢false (sym t))
    by (Some x) e t =
        let it = found_one (is_current_at q) s.made x e in
        bytes_same q x.path (first_so (bytes_eq q x.path) (not x.superseded) it.1) ∙ sym (one_path r x i it.0 (bytes_same r.physical x.physical t))

  found_at_path : (r : Held) → In r s.made → is_physical_of r.physical (resource_at r.path s) ≡ true
  found_at_path r i = ap (is_physical_of r.physical) (found_resource r.path) ∙ by (current_at r.path s.made) refl where
    current : is_current_at r.path r ≡ true
    current = and_from (bytes_eq r.path r.path) (not r.superseded) (same_bytes r.path) (not_so r.superseded (k.ids.plain r i).current)

    by : (o : Option Held) → current_at r.path s.made ≡ o → is_physical_of r.physical o ≡ true
    by None e =
        absurd (not_both (is_some (current_at r.path s.made)) (sym (any_found (is_current_at r.path) s.made) ∙ any_in (is_current_at r.path) r s.made i current) (ap is_some e))
    by (Some x) e =
        let it = found_one (is_current_at r.path) s.made x e in
        ap (bytes_eq r.physical) (sym (one_id r x i it.0 (bytes_same r.path x.path (first_so (bytes_eq r.path x.path) (not x.superseded) it.1)))) ∙ same_bytes r.physical

  in_mapped : (q : ℕ) (qs : List ℕ) → is_place q qs ≡ true → In (path_at l.rows.items q) (map (path_at l.rows.items) qs)
  in_mapped q [] h = absurd (true≢false (sym h))
  in_mapped q (p ∷ qs) h = by (q == p) refl h (in_mapped q qs) where
    by : (b : Bool) → (q == p) ≡ b → (b || is_place q qs) ≡ true → (is_place q qs ≡ true → In (path_at l.rows.items q) (map (path_at l.rows.items) qs))
        → In (path_at l.rows.items q) (map (path_at l.rows.items) (p ∷ qs))
    by true e g more = subst (λ j. In (path_at l.rows.items q) (path_at l.rows.items j ∷ map (path_at l.rows.items) qs)) (eqb-true q p e) here
    by false e g more = there (more g)

  mapped_need : (path : List ℕ) (at : ℕ) (js : List ℕ) → AllByRecursion (λ j. j < at) js → In path (map (path_at l.rows.items) js)
      → (j : ℕ) × (is_place j js ≡ true) × (j < at) × (path ≡ path_at l.rows.items j)
  mapped_need path at [] a h = absurd (in_none h)
  mapped_need path at (j ∷ js) a h = elim (in_cons h) [
    | inl e ↦ (j, ap (λ b. b || is_place j js) (eq-eqb j j refl), a.0, sym e)
    | inr i ↦ let w = mapped_need path at js a.1 i in (w.0, either_so (w.0 == j) (is_place w.0 js) w.1, w.2, w.3)
  ] where
    either_so : (b c : Bool) → c ≡ true → (b || c) ≡ true
    either_so true c e = refl
    either_so false c e = e

  at_need : (j at : ℕ) (r : Placed) → j < at → slice_get l.rows.items at ≡ Some r → (q : Placed) × (slice_get l.rows.items j ≡ Some q)
  at_need j at r less h =
      let within = slice_get_within l.rows.items at r h in
      (get_or l.rows.items j r, slice_get-get_or l.rows.items j r (omega (arith, less, within)))

  -- who needs a path is among its users, and the other way round
  user_needs : (w r : Held) → In w s.made → In r s.made → (user at : ℕ) → value_at w.path l.places ≡ Some user → value_at r.path l.places ≡ Some at
      → is_place user (users_at l at) ≡ true → is_needed_by_made s r ≡ true
  user_needs w r i j user at h g among =
      let own = placed w.path user h in
      let mine : is_place at own.row.needs.items ≡ true =
      ap (λ o. is_place at (option_map_or (λ (x : Placed). x.needs.items) o [])) (sym own.stands) ∙ sym (k.rows.users at user) ∙ among in
      let path : In r.path (needs_at w.path s) =
      subst (λ ns. In r.path ns) (sym (needs_placed w.path user own))
      (subst (λ q. In q (map (path_at l.rows.items) own.row.needs.items)) (path_placed r.path at g) (in_mapped at own.row.needs.items mine)) in
      any_in (λ m. is_at_one (needs_at m.path s) s r) w s.made i
      (any_in (λ p. is_physical_of r.physical (resource_at p s)) r.path (needs_at w.path s) path (found_at_path r j))

  needs_user : (w r : Held) → In w s.made → In r s.made → (user at : ℕ) → value_at w.path l.places ≡ Some user → value_at r.path l.places ≡ Some at
      → is_at_one (needs_at w.path s) s r ≡ true → is_place user (users_at l at) ≡ true
  needs_user w r i j user at h g t =
      let own = placed w.path user h in
      let at_one = in_any (λ p. is_physical_of r.physical (resource_at p s)) (needs_at w.path s) t in
      let path : In r.path (map (path_at l.rows.items) own.row.needs.items) =
      subst (λ ns. In r.path ns) (needs_placed w.path user own) (subst (λ q. In q (needs_at w.path s)) (its_path r j at_one.0 at_one.2) at_one.1) in
      let need = mapped_need r.path user own.row.needs.items own.earlier path in
      let its = at_need need.0 user own.row need.2 own.stands in
      let named : r.path ≡ its.0.path = need.3 ∙ ap (λ o. option_map_or (λ (x : Placed). x.path) o []) its.1 in
      let same : at ≡ need.0 = same_Some at need.0 (sym g ∙ ap (λ p. value_at p l.places) named ∙ its_place s l k.rows need.0 its.0 its.1) in
      k.rows.users at user ∙ ap (λ o. is_place at (option_map_or (λ (x : Placed). x.needs.items) o [])) own.stands
      ∙ ap (λ n. is_place n own.row.needs.items) same ∙ need.1

  -- what is gone
  gone_there : (at : ℕ) (id : List ℕ) → id_at u.ids.items at ≡ Some id → is_made_in u.gone.items at ≡ false
  gone_there at id e = ap (λ os. is_made_in os at) k.gone ∙ by (slice_get u.ids.items at) e (slice_get-map gone_if u.ids.items at) where
    by : (o : Option (Option (List ℕ))) → option_and_then (λ (x : Option (List ℕ)). x) o ≡ Some id → slice_get (map gone_if u.ids.items) at ≡ option_map gone_if o
        → is_made_in (map gone_if u.ids.items) at ≡ false
    by None h g = absurd (none-some id h)
    by (Some None) h g = absurd (none-some id h)
    by (Some (Some x)) h g = ap (λ o. is_some (option_and_then (λ (place : Option ℕ). place) o)) g

  one_gone : (us : List ℕ) (user : ℕ) → are_made_in u.gone.items us ≡ true → is_place user us ≡ true → is_made_in u.gone.items user ≡ true
  one_gone [] user a h = absurd (true≢false (sym h))
  one_gone (j ∷ us) user a h = by (user == j) refl h (one_gone us user (second_so (is_made_in u.gone.items j) (are_made_in u.gone.items us) a)) where
    by : (b : Bool) → (user == j) ≡ b → (b || is_place user us) ≡ true → (is_place user us ≡ true → is_made_in u.gone.items user ≡ true) → is_made_in u.gone.items user ≡ true
    by true e g more = ap (is_made_in u.gone.items) (eqb-true user j e) ∙ first_so (is_made_in u.gone.items j) (are_made_in u.gone.items us) a
    by false e g more = more g

  all_gone : (us : List ℕ) → ((user : ℕ) → is_place user us ≡ true → (id : List ℕ) → id_at u.ids.items user ≡ Some id → ⊥) → ((user : ℕ) → is_place user us ≡ true → user < length u.ids.items)
      → are_made_in u.gone.items us ≡ true
  all_gone [] none within = refl
  all_gone (j ∷ us) none within =
      and_from (is_made_in u.gone.items j) (are_made_in u.gone.items us)
      (gone_here (id_at u.ids.items j) refl)
      (all_gone us (λ user h. none user (later user h)) (λ user h. within user (later user h)))
    where
      now_so : is_place j (j ∷ us) ≡ true
      now_so = ap (λ b. b || is_place j us) (eq-eqb j j refl)

      later : (user : ℕ) → is_place user us ≡ true → is_place user (j ∷ us) ≡ true
      later user h = or_so (user == j) (is_place user us) h where
        or_so : (b c : Bool) → c ≡ true → (b || c) ≡ true
        or_so true c e = refl
        or_so false c e = e

      gone_here : (o : Option (List ℕ)) → id_at u.ids.items j ≡ o → is_made_in u.gone.items j ≡ true
      gone_here (Some id) e = absurd (none j now_so id e)
      gone_here None e = ap (λ os. is_made_in os j) k.gone ∙ by (slice_get u.ids.items j) refl e (slice_get-map gone_if u.ids.items j) where
        by : (o : Option (Option (List ℕ))) → slice_get u.ids.items j ≡ o → option_and_then (λ (x : Option (List ℕ)). x) o ≡ None
            → slice_get (map gone_if u.ids.items) j ≡ option_map gone_if o → is_made_in (map gone_if u.ids.items) j ≡ true
        by None s h g = absurd (none-some (get_or u.ids.items j None) (sym s ∙ slice_get-get_or u.ids.items j None (within j now_so)))
        by (Some None) s h g = ap (λ o. is_some (option_and_then (λ (place : Option ℕ). place) o)) g
        by (Some (Some x)) s h g = absurd (none-some x (sym h))

  -- the resource at a place
  module _ (r : Held) (i : In r s.made) (at : ℕ) (place : value_at r.path l.places ≡ Some at) where
    abbrev users : List ℕ
    users = users_at l at

    -- one whose users are gone is not needed by what is made
    not_by_made : are_made_in u.gone.items users ≡ true → is_needed_by_made s r ≡ false
    not_by_made gone = false_from (is_needed_by_made s r) (λ t.
        let w = in_any (λ m. is_at_one (needs_at m.path s) s r) s.made t in
        let own = k.ids.there w.0 w.1 in
        not_both (is_made_in u.gone.items own.0) (one_gone users own.0 gone (needs_user w.0 r w.1 i own.0 at own.1 place w.2)) (gone_there own.0 w.0.physical own.2))

    -- and of one that isn't needed all users are gone
    users_gone : is_needed_by_made s r ≡ false → are_made_in u.gone.items users ≡ true
    users_gone free =
        all_gone users
        (λ user among id e.
        let w = k.ids.stands user id e in
        not_both (is_needed_by_made s r) (user_needs w.0 r w.1 i user at w.3 place among) free)
        (λ user among. within user (user_row user among))
      where
        user_row : (user : ℕ) → is_place user users ≡ true → (row : Placed) × (slice_get l.rows.items user ≡ Some row)
        user_row user among = by (slice_get l.rows.items user) refl (sym (k.rows.users at user) ∙ among) where
          by : (o : Option Placed) → slice_get l.rows.items user ≡ o → is_place at (option_map_or (λ (x : Placed). x.needs.items) o []) ≡ true
              → (row : Placed) × (slice_get l.rows.items user ≡ Some row)
          by None e h = absurd (true≢false (sym h))
          by (Some row) e h = (row, e)

        within : (user : ℕ) → (row : Placed) × (slice_get l.rows.items user ≡ Some row) → user < length u.ids.items
        within user row =
            let w = slice_get_within l.rows.items user row.0 row.1 in
            let c = k.ids.count in omega (arith, w, c)

    -- the path is ready to be deleted just where nothing that is made needs it
    its : Placing r.path at
    its = placed r.path at place

    here_id : id_at u.ids.items at ≡ Some r.physical
    here_id = let w = k.ids.there r i in ap (id_at u.ids.items) (same_Some at w.0 (sym place ∙ w.1)) ∙ w.2

    flag_is : (rank : ℕ) → slice_get u.readiness.ranks.items at ≡ Some rank → get_or u.readiness.ready rank false ≡ (are_made_in u.gone.items users && not (is_made_in u.gone.items at))
    flag_is rank g = (k.ready.flags at its.row its.stands).ready rank g

    ready_so : (rank : ℕ) → slice_get u.readiness.ranks.items at ≡ Some rank → is_needed_by_made s r ≡ false → get_or u.readiness.ready rank false ≡ true
    ready_so rank g free =
        flag_is rank g ∙ ap (λ b. b && not (is_made_in u.gone.items at)) (users_gone free) ∙ ap (λ b. not b) (gone_there at r.physical here_id)

    needless : (rank : ℕ) → slice_get u.readiness.ranks.items at ≡ Some rank → get_or u.readiness.ready rank false ≡ true → is_needed_by_made s r ≡ false
    needless rank g set = not_by_made (first_so (are_made_in u.gone.items users) (not (is_made_in u.gone.items at)) (sym (flag_is rank g) ∙ set))

-- What is surely not needed.
none_left : {A : Type 0} (p q : A → Bool) (xs : List A) → list_any (λ a. p a && q a) xs ≡ false → length (filter q (filter p xs)) ≡ 0
none_left p q [] e = refl
none_left {A} p q (x ∷ xs) e = by (p x) (q x) refl e (none_left p q xs)
  where
    by : (b c : Bool) → q x ≡ c → ((b && q x) || list_any (λ a. p a && q a) xs) ≡ false → (list_any (λ a. p a && q a) xs ≡ false → length (filter q (filter p xs)) ≡ 0)
        → length (filter q (cond b (x ∷ filter p xs) (filter p xs))) ≡ 0
    by false c f g more = more g
    by true true f g more = absurd (true≢false (sym (ap (λ d. d || list_any (λ a. p a && q a) xs) f) ∙ g))
    by true false f g more =
        ap (λ d. length (cond d (x ∷ filter q (filter p xs)) (filter q (filter p xs)))) f
        ∙ more (sym (ap (λ d. d || list_any (λ a. p a && q a) xs) f) ∙ g)

left_none : {A : Type 0} (p q : A → Bool) (xs : List A) → length (filter q (filter p xs)) ≡ 0 → list_any (λ a. p a && q a) xs ≡ false
left_none p q [] e = refl
left_none {A} p q (x ∷ xs) e = by (p x) (q x) refl e (left_none p q xs) where
  by : (b c : Bool) → q x ≡ c → length (filter q (cond b (x ∷ filter p xs) (filter p xs))) ≡ 0
      → (length (filter q (filter p xs)) ≡ 0 → list_any (λ a. p a && q a) xs ≡ false) → ((b && q x) || list_any (λ a. p a && q a) xs) ≡ false
  by false c f g more = more g
  by true true f g more =
      let some : suc (length (filter q (filter p xs))) ≡ 0 = ap (λ d. length (cond d (x ∷ filter q (filter p xs)) (filter q (filter p xs)))) (sym f) ∙ g in
      absurd (omega (arith, some))
  by true false f g more =
      ap (λ d. d || list_any (λ a. p a && q a) xs) f
      ∙ more (ap (λ d. length (cond d (x ∷ filter q (filter p xs)) (filter q (filter p xs)))) (sym f) ∙ g)

both_false : (a b : Bool) → (a || b) ≡ false → (a ≡ false) × (b ≡ false)
both_false true b e = absurd (true≢false e)
both_false false b e = (refl, e)

-- names that ascend
in_slice : {A : Type 0} (xs : List A) (i : ℕ) (x : A) → slice_get xs i ≡ Some x → In x xs
in_slice [] i x e = absurd (none-some x e)
in_slice (y ∷ ys) zero x e = subst (λ z. In x (z ∷ ys)) (sym (same_Some y x e)) here
in_slice (y ∷ ys) (suc i) x e = there (in_slice ys i x e)

pub rising : {X : Type 0} (ps : List (List ℕ × X)) → ascends ps ≡ true → (i j : ℕ) (p q : List ℕ × X) → i < j → slice_get ps i ≡ Some p → slice_get ps j ≡ Some q → bytes_lt p.0 q.0 ≡ true
rising [] h i j p q less e g = absurd (none-some p e)
rising (x ∷ ps) h zero zero p q less e g = absurd (omega (arith, less))
rising (x ∷ ps) h zero (suc j) p q less e g = subst (λ y. bytes_lt y.0 q.0 ≡ true) (same_Some x p e) (above x.0 ps h q (in_slice ps j q g))
rising (x ∷ ps) h (suc i) zero p q less e g = absurd (omega (arith, less))
rising (x ∷ ps) h (suc i) (suc j) p q less e g = rising ps (others x.0 ps h) i j p q (omega (arith, less)) e g

pub lower_or_same : (a b c : Bool) → (a || (b && c)) ≡ true → (a ≡ true → ⊥) → (b ≡ true → ⊥) → ⊥
lower_or_same true b c h n m = n refl
lower_or_same false true c h n m = m refl
lower_or_same false false c h n m = true≢false (sym h)

pub not_before_itself : (p i : List ℕ) → precedes (p, i) (p, i) ≡ false
not_before_itself p i = rw (not_below_itself p, not_below_itself i) (both_none (bytes_eq p p)) where
  both_none : (b : Bool) → (false || (b && false)) ≡ false
  both_none true = refl
  both_none false = refl

-- where a rollback waits for no repeat, none may be made
pub none_to_repeat : (out : List ℕ) (s : StackState) → waits_for_repeats Back out s ≡ false → (p : Pending) → In p s.tokens → may_repeat Back out s p ≡ true → ⊥
none_to_repeat out s idle p i t =
    not_both (list_any (may_repeat Back out s) s.tokens) (any_in (may_repeat Back out s) p s.tokens i t)
    (both_false (is_repeat_in_flight out s) (list_any (may_repeat Back out s) s.tokens) idle).1

-- The offer of the rollback, of which only the first deletion is found.
module _ (out : List ℕ) (x : World) (s : StackState) (u : Undoing) (k : IsUndoing s u) (idle : waits_for_repeats Back out s ≡ false) where
  may : Held → Bool
  may r = is_free r.path s && (is_not_needed s r && is_untried s r)

  start_of : Held → Start
  start_of r = deletion_of r.path r.physical

  begin_of : Held → List Start
  unfolding may
  begin_of r = cond (may r) (deletion_of r.path r.physical ∷ []) []

  exact : List Start
  exact = flat_map begin_of s.made

  exact_in : (b : Start) (r : Held) → In r s.made → may r ≡ true → deletion_of r.path r.physical ≡ b → In b exact
  unfolding exact begin_of
  exact_in b r i m e = (in_flat begin_of s.made b).1 (r, i, (in_then (may r) (deletion_of r.path r.physical ∷ []) b).1 (m, subst (λ c. In c (deletion_of r.path r.physical ∷ [])) e here))

  exact_of : (b : Start) → In b exact → (r : Held) × In r s.made × (may r ≡ true) × (deletion_of r.path r.physical ≡ b)
  unfolding exact begin_of
  exact_of b i =
      let w = (in_flat begin_of s.made b).0 i in
      let t = (in_then (may w.0) (deletion_of w.0.path w.0.physical ∷ []) b).0 w.2 in
      (w.0, w.1, t.0, only_one (deletion_of w.0.path w.0.physical) b t.1)

  may_from : (r : Held) → is_free r.path s ≡ true → is_not_needed s r ≡ true → is_untried s r ≡ true → may r ≡ true
  unfolding may
  may_from r o n t = and_from (is_free r.path s) (is_not_needed s r && is_untried s r) o (and_from (is_not_needed s r) (is_untried s r) n t)

  may_to : (r : Held) → may r ≡ true → (is_free r.path s ≡ true) × (is_not_needed s r ≡ true) × (is_untried s r ≡ true)
  unfolding may
  may_to r m =
      let b = second_so (is_free r.path s) (is_not_needed s r && is_untried s r) m in
      (first_so (is_free r.path s) (is_not_needed s r && is_untried s r) m, first_so (is_not_needed s r) (is_untried s r) b, second_so (is_not_needed s r) (is_untried s r) b)

  not_kept : (r : Held) → In r s.made → is_retained r.deletion ≡ false
  not_kept r i = by r.deletion refl where
    by : (d : Deletion) → r.deletion ≡ d → is_retained d ≡ false
    by deletion.Retain e = absurd ((k.ids.plain r i).deleted e)
    by _ e = refl

  offer : Offer
  offer = record { repeats = []; starts = exact; keepings = []; turn = None; is_made = false }

  no_repeat : (p : Pending) → In p s.tokens → may_repeat Back out s p ≡ true → ⊥
  no_repeat = none_to_repeat out s idle

  module _ (schemas : List Schema) (name : List ℕ) where
    starts_to : (path : List ℕ) (r : Request) → is_free path s ≡ true → IntendsDeletion Back s path r → In (record { path = path; request = r }) exact
    starts_to path (request.Create k props) o w = absurd w
    starts_to path (request.Update id props) o w = absurd w
    starts_to path (request.Delete id) o (h, w, kept, at_path, of_id) =
        exact_in (record { path = path; request = request.Delete id }) h w.1
        (may_from h (subst (λ p. is_free p s ≡ true) at_path o) w.2 w.3)
        (rw (at_path, of_id) refl)

    starts_from : (b : Start) → In b exact → MayBeginAt schemas name x out s Back b.path b.request
    starts_from b i =
        let w = exact_of b i in
        let m = may_to w.0 w.2 in
        subst (λ (t : Start). MayBeginAt schemas name x out s Back t.path t.request) w.3
        (m.0, idle, inl (w.0, (k.rolls.back, w.1, m.1, m.2), not_kept w.0 w.1, refl, refl))

    none_to_keep : (path physical : List ℕ) (w : Why) → MayKeep Back out s path physical w → ⊥
    none_to_keep path physical why.Retained (inl (r, m, idles, kept, at_path, of_id, free)) = not_both (is_retained r.deletion) kept (not_kept r m.1)
    none_to_keep path physical why.Retained (inr (e, none, among, create)) = unlike e
      where
        unlike : Back ≡ Gone → ⊥
        unlike e = cc
    none_to_keep path physical why.Failed ((r, i, at_path, of_id), more) = in_none i
    none_to_keep path physical why.Doubt ((r, i, at_path, of_id), p, j, deleting, more) = in_none i

    is_offer : IsOffer schemas name x out s Back offer
    unfolding offer
    is_offer = record {
      repeats = λ p. (λ w. absurd (no_repeat p w.0 w.1), λ i. absurd (in_none i));
      starts = λ path r. (
        λ w. starts_to path r w.0 (intends schemas name x s unmaking.Back (sym k.rolls.back) path r w.2),
        λ i. starts_from (record { path = path; request = r }) i,
      );
      keepings = λ path physical w. (λ k. absurd (none_to_keep path physical w k), λ i. absurd (in_none i));
      turn = λ p c. (λ t. absurd (no_turn unmaking.Back out s (sym k.rolls.back) schemas name x p c t), λ e. none_is _ e);
      made = λ e. absurd (not_forward e);
    }
      where
        not_forward : Back ≡ Forward → ⊥
        not_forward e = cc

  abbrev homes : List (List ℕ × List ℕ)
  homes = homes_now out x

  -- what is found at a rank
  record Found (rank : ℕ) (a : Start) : Type 0 where
    pub name : List ℕ × ℕ
    pub named : slice_get u.layout.places rank ≡ Some name
    pub held : Held
    pub made : In held s.made
    pub place : value_at held.path u.layout.places ≡ Some name.1
    pub its_name : name.0 ≡ held.path
    pub ranked : slice_get u.readiness.ranks.items name.1 ≡ Some rank
    pub may_go : may_delete s u name.1 held.path ≡ true
    pub fits : fits_one homes a ≡ true
    pub is : deletion_of held.path held.physical ≡ a

  module _ (order : ascends u.layout.places ≡ true) where
    name_is : (rank : ℕ) (name : List ℕ × ℕ) → slice_get u.layout.places rank ≡ Some name → value_at name.0 u.layout.places ≡ Some name.1
    name_is rank name e = value_there u.layout.places order rank name e

    rank_is : (rank : ℕ) (name : List ℕ × ℕ) → slice_get u.layout.places rank ≡ Some name → slice_get u.readiness.ranks.items name.1 ≡ Some rank
    rank_is rank name e =
        k.ready.shaped.ranks.by_place name.1 rank
        (slice_get-map (λ (p : List ℕ × ℕ). p.1) u.layout.places rank ∙ ap (option_map (λ (p : List ℕ × ℕ). p.1)) e)

    fits_of : (at : ℕ) (path id : List ℕ) (a : Start) → fitting_of homes s u at path id ≡ Some a
        → (may_delete s u at path ≡ true) × (fits_one homes (deletion_of path id) ≡ true) × (deletion_of path id ≡ a)
    fits_of at path id a e = by (may_delete s u at path) (fits_one homes (deletion_of path id)) refl refl e where
      by : (b c : Bool) → may_delete s u at path ≡ b → fits_one homes (deletion_of path id) ≡ c → cond (b && c) (Some (deletion_of path id)) None ≡ Some a
          → (may_delete s u at path ≡ true) × (fits_one homes (deletion_of path id) ≡ true) × (deletion_of path id ≡ a)
      by true true f g h = (f, g, some_is (deletion_of path id) a h)
      by true false f g h = absurd (none-some a h)
      by false c f g h = absurd (none-some a h)

    found : (rank : ℕ) (a : Start) → deletion_ranked homes s u rank ≡ Some a → Found rank a
    found rank a e = by_name (slice_get u.layout.places rank) refl e where
      by_id : (name : List ℕ × ℕ) (h : slice_get u.layout.places rank ≡ Some name) (row : Placed) → slice_get u.layout.rows.items name.1 ≡ Some row
          → (o : Option (List ℕ)) → id_at u.ids.items name.1 ≡ o → option_and_then (λ id. fitting_of homes s u name.1 row.path id) o ≡ Some a → Found rank a
      by_id name h row g None i t = absurd (none-some a t)
      by_id name h row g (Some id) i t =
          let w = k.ids.stands name.1 id i in
          let row_path : row.path ≡ w.0.path =
          (let q = placed s u k w.0.path name.1 w.3 in ap (λ (r : Placed). r.path) (same_Some row q.row (sym g ∙ q.stands)) ∙ q.path) in
          let f = fits_of name.1 row.path id a t in
          let same : deletion_of row.path id ≡ deletion_of w.0.path w.0.physical = rw (row_path, w.2) refl in
          record {
            name = name;
            named = h;
            held = w.0;
            made = w.1;
            place = w.3;
            its_name = same_place s u k name.0 w.0.path name.1 (name_is rank name h) w.3;
            ranked = rank_is rank name h;
            may_go = ap (may_delete s u name.1) (sym row_path) ∙ f.0;
            fits = ap (fits_one homes) (sym f.2) ∙ f.1;
            is = sym same ∙ f.2;
          }

      by_row : (name : List ℕ × ℕ) → slice_get u.layout.places rank ≡ Some name → (o : Option Placed) → slice_get u.layout.rows.items name.1 ≡ o
          → option_and_then (λ row. option_and_then (λ id. fitting_of homes s u name.1 row.path id) (id_at u.ids.items name.1)) o ≡ Some a → Found rank a
      by_row name h None g t = absurd (none-some a t)
      by_row name h (Some row) g t = by_id name h row g (id_at u.ids.items name.1) refl t

      by_name : (o : Option (List ℕ × ℕ)) → slice_get u.layout.places rank ≡ o → option_and_then (λ p. deletion_at homes s u p.1) o ≡ Some a → Found rank a
      by_name None h t = absurd (none-some a t)
      by_name (Some name) h t = by_row name h (slice_get u.layout.rows.items name.1) refl t

    -- what may begin and fits is found at the rank of its path
    ranked_of : (r : Held) → In r s.made → (rank : ℕ) × (name : List ℕ × ℕ) × (slice_get u.layout.places rank ≡ Some name) × (name.0 ≡ r.path) × (value_at r.path u.layout.places ≡ Some name.1)
    ranked_of r i =
        let w = k.ids.there r i in
        let n = name_there r.path w.0 u.layout.places w.1 in
        (n.0, (r.path, w.0), n.1, refl, w.1)

    its_id : (r : Held) (i : In r s.made) (at : ℕ) → value_at r.path u.layout.places ≡ Some at → id_at u.ids.items at ≡ Some r.physical
    its_id r i at place = let w = k.ids.there r i in ap (id_at u.ids.items) (same_Some at w.0 (sym place ∙ w.1)) ∙ w.2

    begins_found : (r : Held) (i : In r s.made) (rank at : ℕ) → slice_get u.layout.places rank ≡ Some (r.path, at) → value_at r.path u.layout.places ≡ Some at
        → may_delete s u at r.path ≡ true → fits_one homes (deletion_of r.path r.physical) ≡ true → deletion_ranked homes s u rank ≡ Some (deletion_of r.path r.physical)
    begins_found r i rank at named place may_go fits =
        let q = placed s u k r.path at place in
        ap (option_and_then (λ p. deletion_at homes s u p.1)) named
        ∙ ap (option_and_then (λ row. option_and_then (λ id. fitting_of homes s u at row.path id) (id_at u.ids.items at))) q.stands
        ∙ ap (option_and_then (λ id. fitting_of homes s u at q.row.path id)) (its_id r i at place)
        ∙ ap (λ p. fitting_of homes s u at p r.physical) q.path
        ∙ ap (λ b. cond (b && fits_one homes (deletion_of r.path r.physical)) (Some (deletion_of r.path r.physical)) None) may_go
        ∙ ap (λ b. cond b (Some (deletion_of r.path r.physical)) None) fits

    -- an open create that needs the path of a resource needs that
    needed_at_one : (r : Held) (i : In r s.made) (ps : List (List ℕ)) → is_among r.path ps ≡ true → is_at_one ps s r ≡ true
    needed_at_one r i ps t =
        let v = in_any (bytes_eq r.path) ps t in
        any_in (λ p. is_physical_of r.physical (resource_at p s)) v.0 ps v.1
        (subst (λ p. is_physical_of r.physical (resource_at p s) ≡ true) (bytes_same r.path v.0 v.2) (found_at_path s u k r i))

    by_create_too : (r : Held) (i : In r s.made) → is_needed_by_create s r ≡ false → has_create r.path s ≡ false
    by_create_too r i free = false_from (has_create r.path s) (λ t.
        let v = in_any (λ p. is_create p.request && is_among r.path (needs_at p.path s)) s.tokens t in
        not_both (is_needed_by_create s r)
        (any_in (λ p. is_create p.request && is_at_one (needs_at p.path s) s r) v.0 s.tokens v.1
        (and_from (is_create v.0.request) (is_at_one (needs_at v.0.path s) s r) (first_so (is_create v.0.request) _ v.2)
        (needed_at_one r i (needs_at v.0.path s) (second_so (is_create v.0.request) _ v.2))))
        free)

    -- what may begin may be deleted
    goes : (r : Held) (i : In r s.made) (at : ℕ) → value_at r.path u.layout.places ≡ Some at → is_free r.path s ≡ true → is_needed_by_create s r ≡ false → is_untried s r ≡ true
        → may_delete s u at r.path ≡ true
    goes r i at place free apart untried =
        let none : list_any (λ (c : Call). (c.number == s.operation) && deletes r.physical c.request) s.ledger ≡ false =
        left_none (λ (c : Call). c.number == s.operation) (λ c. deletes r.physical c.request) s.ledger (eqb-true (length (deletions_of r.physical s)) 0 untried) in
        and_from (is_free r.path s) (not (get_or u.tried.items at false) && not (has_create r.path s)) free
        (and_from (not (get_or u.tried.items at false)) (not (has_create r.path s))
        (not_so (get_or u.tried.items at false) (k.tried at r.physical (its_id r i at place) ∙ none)) (not_so (has_create r.path s) (by_create_too r i apart)))

    module _ (a : Start) (first : IsFirstFound homes s u a) where
      w : Found first.rank a
      w = found first.rank a first.found

      abbrev r : Held
      r = w.held

      free : is_free r.path s ≡ true
      free = first_so (is_free r.path s) _ w.may_go

      unmarked : get_or u.tried.items w.name.1 false ≡ false
      unmarked =
          is_so (get_or u.tried.items w.name.1 false)
          (first_so (not (get_or u.tried.items w.name.1 false)) (not (has_create r.path s))
          (second_so (is_free r.path s) (not (get_or u.tried.items w.name.1 false) && not (has_create r.path s)) w.may_go))

      by_made : is_needed_by_made s r ≡ false
      by_made = needless s u k r w.made w.name.1 w.place first.rank w.ranked first.ready

      no_create : has_create r.path s ≡ false
      no_create =
          is_so (has_create r.path s)
          (second_so (not (get_or u.tried.items w.name.1 false)) (not (has_create r.path s))
          (second_so (is_free r.path s) (not (get_or u.tried.items w.name.1 false) && not (has_create r.path s)) w.may_go))

      not_at_one : (ps : List (List ℕ)) → is_among r.path ps ≡ false → is_at_one ps s r ≡ false
      not_at_one ps n = false_from (is_at_one ps s r) (λ t.
          let v = in_any (λ p. is_physical_of r.physical (resource_at p s)) ps t in
          not_both (is_among r.path ps)
          (any_in (bytes_eq r.path) v.0 ps v.1 (ap (bytes_eq r.path) (its_path s u k r w.made v.0 v.2) ∙ same_bytes r.path)) n)

      by_create : is_needed_by_create s r ≡ false
      by_create = false_from (is_needed_by_create s r) (λ t.
          let v = in_any (λ p. is_create p.request && is_at_one (needs_at p.path s) s r) s.tokens t in
          let not_among : is_among r.path (needs_at v.0.path s) ≡ false =
          false_from (is_among r.path (needs_at v.0.path s)) (λ g. not_both (has_create r.path s)
          (any_in (λ p. is_create p.request && is_among r.path (needs_at p.path s)) v.0 s.tokens v.1
          (and_from (is_create v.0.request) (is_among r.path (needs_at v.0.path s)) (first_so (is_create v.0.request) _ v.2) g)) no_create) in
          not_both (is_at_one (needs_at v.0.path s) s r) (second_so (is_create v.0.request) _ v.2) (not_at_one (needs_at v.0.path s) not_among))

      not_needed : is_not_needed s r ≡ true
      not_needed = rw (by_made, by_create) refl

      not_tried : is_untried s r ≡ true
      not_tried =
          ap (λ n. n == 0)
          (none_left (λ (c : Call). c.number == s.operation) (λ c. deletes r.physical c.request) s.ledger
          (sym (k.tried w.name.1 r.physical (its_id r w.made w.name.1 w.place)) ∙ unmarked))

      begins : In a exact
      begins = exact_in a r w.made (may_from r free not_needed not_tried) w.is

      -- nothing that may begin comes before
      least : (b : Start) → In b exact → fits_one homes b ≡ true → is_start_before b a ≡ false
      least b i fits = false_from (is_start_before b a) (λ t. before t (cases_lt q.0 first.rank)) where
        e : (h : Held) × In h s.made × (may h ≡ true) × (deletion_of h.path h.physical ≡ b)
        e = exact_of b i

        m : (is_free e.0.path s ≡ true) × (is_not_needed s e.0 ≡ true) × (is_untried s e.0 ≡ true)
        m = may_to e.0 e.2

        q : (rank : ℕ) × (name : List ℕ × ℕ) × (slice_get u.layout.places rank ≡ Some name) × (name.0 ≡ e.0.path) × (value_at e.0.path u.layout.places ≡ Some name.1)
        q = ranked_of e.0 e.1

        same_named : slice_get u.layout.places q.0 ≡ Some (e.0.path, q.1.1)
        same_named = q.2 ∙ ap (λ (p : List ℕ). Some (p, q.1.1)) q.3

        unneeded : (is_needed_by_made s e.0 ≡ false) × (is_needed_by_create s e.0 ≡ false)
        unneeded = both_false (is_needed_by_made s e.0) (is_needed_by_create s e.0) (is_so _ m.1)

        set : get_or u.readiness.ready q.0 false ≡ true
        set = ready_so s u k e.0 e.1 q.1.1 q.4 q.0 (rank_is q.0 q.1 q.2) unneeded.0

        there_is : deletion_ranked homes s u q.0 ≡ Some (deletion_of e.0.path e.0.physical)
        there_is =
            begins_found e.0 e.1 q.0 q.1.1 same_named q.4 (goes e.0 e.1 q.1.1 q.4 m.0 unneeded.1 m.2) (ap (fits_one homes) e.3 ∙ fits)

        paths : is_start_before b a ≡ true → precedes (e.0.path, e.0.physical) (r.path, r.physical) ≡ true
        paths t =
            subst (λ (c : Start). precedes (e.0.path, e.0.physical) (c.path, physical_id_of c.request) ≡ true) (sym w.is)
            (subst (λ (c : Start). precedes (c.path, physical_id_of c.request) (a.path, physical_id_of a.request) ≡ true) (sym e.3) t)

        before : is_start_before b a ≡ true → (q.0 < first.rank) ⊎ (first.rank ≤ q.0) → ⊥
        before t (inl less) = none-some (deletion_of e.0.path e.0.physical) (sym (first.first q.0 less set) ∙ there_is)
        before t (inr over) = elim (same_or_not q.0 first.rank) [
          | inl same ↦ itself same
          | inr other ↦ later (omega (arith, over, other))
        ] where
          name_path : w.name.0 ≡ r.path
          name_path = w.its_name

          itself : q.0 ≡ first.rank → ⊥
          itself same =
              let one : (e.0.path, q.1.1) ≡ w.name = same_Some (e.0.path, q.1.1) w.name (sym same_named ∙ ap (slice_get u.layout.places) same ∙ w.named) in
              let p : e.0.path ≡ r.path = ap (λ (n : List ℕ × ℕ). n.0) one ∙ name_path in
              let id : e.0.physical ≡ r.physical = one_id s u k e.0 r e.1 w.made p in
              not_both (precedes (r.path, r.physical) (r.path, r.physical)) (subst (λ i. precedes (r.path, i) (r.path, r.physical) ≡ true) id
              (subst (λ n. precedes (n, e.0.physical) (r.path, r.physical) ≡ true) p (paths t))) (not_before_itself r.path r.physical)

          later : first.rank < q.0 → ⊥
          later more =
              let low : bytes_lt r.path e.0.path ≡ true =
              subst (λ n. bytes_lt n e.0.path ≡ true) name_path (rising u.layout.places order first.rank q.0 w.name (e.0.path, q.1.1) more w.named same_named) in
              lower_or_same (bytes_lt e.0.path r.path) (bytes_eq e.0.path r.path) (bytes_lt e.0.physical r.physical) (paths t)
              (λ g. not_both (bytes_lt r.path r.path) (lower r.path e.0.path r.path low g) (not_below_itself r.path))
              (λ g. not_both (bytes_lt r.path r.path) (subst (λ n. bytes_lt r.path n ≡ true) (bytes_same e.0.path r.path g) low) (not_below_itself r.path))

      chosen : (schemas : List Schema) (name : List ℕ) (n : Next) → call_in homes (x.token + 1) a ≡ Some n → IsChosen schemas name x out s Back n
      unfolding offer
      chosen schemas name n c =
          new_chosen schemas name x out s Back offer (is_offer schemas name) (λ q i. absurd (in_none i)) (Some a) None
          (begins, w.fits, λ b i f. least b i f) (λ j i. absurd (in_none i)) n c

pub deletion_taken : {E : Type 0} (out : List ℕ) (x : World) (s : StackState) (u : Undoing) (lanes : List (List ℕ × List ℕ)) (a : Start) (res : Result (Option Next) E)
    → IsUndoing s u → waits_for_repeats Back out s ≡ false → ascends u.layout.places ≡ true → lanes ≡ homes_now out x → IsFirstFound lanes s u a
    → IfOk res (λ n. n ≡ call_in lanes (x.token + 1) a) → IfOk res (IsTaken out x s)
deletion_taken out x s u lanes a (Err e) k idle order h first c = tt
deletion_taken out x s u lanes a (Ok None) k idle order h first c = tt
deletion_taken out x s u lanes a (Ok (Some n)) k idle order h first c = λ schemas name stage at.
    let back : Back ≡ stage = some_is Back stage (sym (ap stage_of k.rolls.back) ∙ at) in
    subst (λ g. IsChosen schemas name x out s g n) back
    (chosen out x s u k idle order a (subst (λ hs. IsFirstFound hs s u a) h first) schemas name n (ap (λ hs. call_in hs (x.token + 1) a) (sym h) ∙ sym c))
