-- Where all is done and nothing is at fault, what is left of the resources of a stack is what its template wants.
use Rattle.std.proofs.Common.{◌≡◌, ◌⊎◌, inl, inr, ◌↔◌, ℕ, List, ◌∷◌, Bool, true, false, not, Some, refl, sym, ap, subst, ◌∙◌, true≢false, map, filter, find, ◌++◌, ◌&&◌, Option, None, option_map, ◌+◌, []}
use Rattle.cf_plan.specs.Forward.{Known, evaluated_at, plan_in, plan_now, wanted_paths}
use Rattle.cf_tree.specs.Lists.{there}
use Rattle.cf_tree.specs.Lists.{In}
use Rattle.cf_export.specs.declared.Export.{Export}
use Rattle.cf_effect.specs.declared.held.Held.{Held}
use Rattle.cf_desired.specs.Stays.{IsWholeOf}
use Rattle.cf_effect.specs.declared.held.Pending.{Pending}
use Rattle.cf_desired.specs.declared.wanted.Plan.{Plan}
use Rattle.cf_desired.specs.Whole.{Right, is_wanted_at, right_of, wanted_at, whole_of, Whole}
use Rattle.cf_desired.specs.Seeing.{Seen}
use Rattle.cf_desired.specs.Work.{Shape}
use Rattle.cf_tree.specs.declared.source.Source.{Source}
use Rattle.cf_effect.specs.World.{StackState}
use Rattle.cf_desired.specs.declared.wanted.Wanted.{Wanted}
use Rattle.cf_tree.specs.Named.{all_differ}
use Rattle.cf_effect.specs.End.{as_wanted, empty_whole, is_physical_of, marked, seen_now, settled_in, whole_now, whole_over}
use Rattle.std.specs.Str.{bytes_eq}
use Rattle.cf_effect.specs.Words.{current_at, is_current_at, resource_at, resources_of}
use Rattle.std.specs.Cmp.{first_so, second_so}
use Rattle.std.specs.Option.{option_and_then}
use Rattle.cf_desired.specs.Plan.{plan_by, plan_of}
use Rattle.cf_plan.specs.Ends.{right_at}
use Rattle.cf_effect.specs.Begin.{seen_as_held, seen_in}
use Rattle.cf_desired.specs.Shape.{shape_of}
use Rattle.cf_tree.specs.Keys.{value_at}
use Rattle.cf_plan.proofs.Listed.{bytes_same, same_bytes, in_map}
use Rattle.std.proofs.lemmas.List.Folds.{find-append}
use Rattle.cf_plan.proofs.CreatedStays.{found_in, found_one, is_found}
use Rattle.cf_plan.proofs.RunLists.{in_back, in_either, in_front, in_kept, is_found_in}
use Rattle.cf_plan.proofs.CreatedEnd.{in_changed}
use Rattle.cf_plan.proofs.CreatedRight.{in_filter, not_so}
use Rattle.cf_desired.proofs.Planned.{plan_known}
use Rattle.cf_plan.proofs.OneShape.{plan_paths}
use Rattle.cf_effect.proofs.Shown.{shown_at}
use Rattle.cf_entry.proofs.Codec.{some_is}
use Rattle.std.specs.Prelude.{cond, unwrap_or, ◌≢◌}
use Rattle.cf_effect.specs.Listed.{export_by, is_export_before, not_export_of, reexported}
use Rattle.cf_plan.specs.Created.{IsHeldAs}
use Rattle.cf_desired.proofs.AllKnown.{known_whole}
use Rattle.cf_plan.proofs.CreatedWhole.{all_seen, found_before, right_with, rights_at}
use Rattle.cf_plan.proofs.ChangedLists.{all_inserted}
use Rattle.cf_plan.proofs.Differ.{one_id}

-- What alone passes a test, and the exports that a stack has anew.

-- what alone passes is found
pub found_only : {A : Type 0} (test : A → Bool) (xs : List A) (y : A) → In y xs → test y ≡ true → ((x : A) → In x xs → test x ≡ true → x ≡ y) → find test xs ≡ Some y
found_only test xs y i t only =
    let f = is_found_in test xs y i t in
    let one = found_one test xs f.0 f.1 in
    f.1 ∙ ap (λ z. Some z) (only f.0 one.0 one.1)

abbrev of : List ℕ → Export → Bool
of name e = bytes_eq name e.stack

-- the exports that a stack has anew are all of its own, and leave those of others
module _ (name : List ℕ) (exports : List (List ℕ × List ℕ)) (all : List Export) (e : Export) where
  abbrev rest : List Export
  rest = filter (not_export_of name) all

  there_all : In e (reexported name exports all) ↔ (In e rest ⊎ In e (map (export_by name) exports))
  there_all = all_inserted is_export_before e (map (export_by name) exports) rest

  of_own : In e (map (export_by name) exports) → name ≡ e.stack
  of_own i = ap (λ (z : Export). z.stack) (in_changed (export_by name) exports e i).same

  pub own_exports : In e (filter (of name) (reexported name exports all)) ↔ In e (map (export_by name) exports)
  own_exports = (
    λ i. let f = in_filter (of name) (reexported name exports all) e i in elim (there_all.0 f.0) [
      | inl j ↦ absurd (true≢false (sym f.1 ∙ not_so (of name e) (in_filter (not_export_of name) all e j).1))
      | inr j ↦ j
    ],
    λ i. in_kept (of name) (reexported name exports all) e (there_all.1 (inr i)) (ap (bytes_eq name) (sym (of_own i)) ∙ same_bytes name),
  )

  pub other_exports : (other : List ℕ) → (name ≡ other → ⊥) → In e (filter (of other) (reexported name exports all)) ↔ In e (filter (of other) all)
  other_exports other differs = (
    λ i. let f = in_filter (of other) (reexported name exports all) e i in elim (there_all.0 f.0) [
      | inl j ↦ in_kept (of other) all e (in_filter (not_export_of name) all e j).0 f.1
      | inr j ↦ absurd (differs (of_own j ∙ sym (bytes_same other e.stack f.1)))
    ],
    λ i. let f = in_filter (of other) all e i in
        in_kept (of other) (reexported name exports all) e (there_all.1 (inl (in_kept (not_export_of name) all e f.0 (ap not (not_own (of name e) refl f.1))))) f.1,
  ) where
    not_own : (b : Bool) → of name e ≡ b → of other e ≡ true → of name e ≡ false
    not_own true q o = absurd (differs (bytes_same name e.stack q ∙ sym (bytes_same other e.stack o)))
    not_own false q o = q

-- Where all is done and nothing is at fault, the template is whole over what is seen, and the completed stack holds just that.

-- the resource of a path is of the list, at that path, and not superseded
pub current_is : (path : List ℕ) (hs : List Held) (r : Held) → current_at path hs ≡ Some r → In r hs × (path ≡ r.path) × (r.superseded ≡ false)
current_is path hs r e =
    let one = found_one (is_current_at path) hs r e in
    (one.0, bytes_same path r.path (first_so (bytes_eq path r.path) _ one.1), not_so r.superseded (second_so (bytes_eq path r.path) _ one.1))

-- each path of the template has its resource, as the template says, and nothing is at fault
pub record IsFinished (s : StackState) (source : Source) : Type 0 where
  pub going : s.going ≡ Some source
  pub shape : shape_of source (seen_now s) ≡ shape_of source (seen_in s.before)
  pub no_flaw : (plan_now s).flaws ≡ []
  pub each : (p : List ℕ) → In p (wanted_paths s) → (r : Held) × (resource_at p s ≡ Some r) × (r.unsure ≡ false) × (evaluated_at p s ≡ Known r.kind r.props)
  pub ids : all_differ bytes_eq (map (λ r. r.physical) (resources_of s)) ≡ true

-- when one that is settled is not superseded
settled_cases : (b : Bool) (o : Option Right) (h : Held) → (cond b (as_wanted o h) (record h { superseded = true })).superseded ≡ false → (b ≡ true) × (w : Right) × (o ≡ Some w)
settled_cases true None h e = absurd (true≢false e)
settled_cases true (Some w) h e = (refl, w, refl)
settled_cases false o h e = absurd (true≢false e)

physical_cases : (o : Option Held) (id : List ℕ) → is_physical_of id o ≡ true → (r : Held) × (o ≡ Some r) × (id ≡ r.physical)
physical_cases None id e = absurd (true≢false (sym e))
physical_cases (Some r) id e = (r, refl, bytes_same id r.physical e)

-- these hold what the whole map wants
pub record IsWholeIn (seen : Seen) (whole : Whole) (hs : List Held) : Type 0 where
  pub sees : (path : List ℕ) (r : Held) → current_at path hs ≡ Some r → value_at path seen ≡ Some (seen_as_held r)
  pub wanted : (path : List ℕ) (w : Right) → right_at path whole ≡ Some w → (r : Held) × (current_at path hs ≡ Some r) × IsHeldAs w r
  pub held : (r : Held) → In r hs → r.superseded ≡ false → (w : Right) × (right_at r.path whole ≡ Some w) × IsHeldAs w r
  pub single : (r : Held) → In r hs → r.superseded ≡ false → current_at r.path hs ≡ Some r
  pub sure : (r : Held) → In r hs → r.superseded ≡ false → r.unsure ≡ false

module _ (s : StackState) (source : Source) (f : IsFinished s source) where
  abbrev seen : Seen
  seen = seen_now s

  abbrev plan : Plan
  plan = plan_of source seen

  now_is : plan_now s ≡ plan
  now_is = ap (λ g. plan_in g (seen_in s.before) seen) f.going ∙ ap (λ (h : Shape). plan_by source h seen) (sym f.shape)

  paths_are : map (λ w. w.path) plan.wanted ≡ wanted_paths s
  paths_are =
      ap (λ (h : Shape). map (λ w. w.path) (plan_by source h seen).wanted) f.shape
      ∙ plan_paths source (shape_of source (seen_in s.before)) seen ∙ sym (plan_paths source (shape_of source (seen_in s.before)) (seen_in s.before))
      ∙ ap (λ g. map (λ w. w.path) (plan_in g (seen_in s.before) (seen_in s.before)).wanted) (sym f.going)

  seen_at : (p : List ℕ) (r : Held) → resource_at p s ≡ Some r → value_at p seen ≡ Some (seen_as_held r)
  seen_at p r e = shown_at p (s.made ++ s.held) ∙ ap (option_map seen_as_held) (find-append (is_current_at p) s.made s.held ∙ e)

  wholly : (w : Whole) × (whole_of source seen ≡ Some w) × IsWholeOf plan w
  wholly =
      known_whole plan
      (plan_known source seen (all_seen seen plan.wanted (λ p i. let m = f.each p (subst (In p) paths_are i) in (m.0, seen_at p m.0 m.1)))
      (subst (λ (p : Plan). p.flaws ≡ []) now_is f.no_flaw))

  abbrev pub whole : Whole
  whole = whole_now s

  whole_is : whole ≡ wholly.0
  whole_is = ap (λ g. whole_over g seen) f.going ∙ ap (λ o. unwrap_or o empty_whole) wholly.1

  pub evaluated : whole_of source seen ≡ Some whole
  evaluated = wholly.1 ∙ ap (λ w. Some w) (sym whole_is)

  right_is : (p : List ℕ) → right_at p whole ≡ option_and_then right_of (wanted_at p plan)
  right_is p = rights_at p whole.wanted plan.wanted (subst (IsWholeOf plan) (sym whole_is) wholly.2).wanted

  -- the resource of a path has what is wanted there
  record IsHad (p : List ℕ) (w : Right) : Type 0 where
    pub one : Held
    pub at : resource_at p s ≡ Some one
    pub sure : one.unsure ≡ false
    pub kind : one.kind ≡ w.kind
    pub props : one.props ≡ w.props

  had_at : (p : List ℕ) → In p (wanted_paths s) → (w : Right) × (right_at p whole ≡ Some w) × IsHad p w
  had_at p i =
      let m = f.each p i in
      let g = is_found m.0.kind m.0.props (wanted_at p plan) (ap (λ (q : Plan). found_in (wanted_at p q)) (sym now_is) ∙ m.3) in (
        right_with g.wanted m.0.props,
        right_is p ∙ ap (option_and_then right_of) g.there ∙ ap (option_map (right_with g.wanted)) g.props,
        record { one = m.0; at = m.1; sure = m.2; kind = sym g.kind; props = refl },
      )

  wanted_in : (p : List ℕ) (w : Right) → right_at p whole ≡ Some w → In p (wanted_paths s)
  wanted_in p w e =
      let b = found_before right_of (wanted_at p plan) w (sym (right_is p) ∙ e) in
      let one = found_one (is_wanted_at p) plan.wanted b.0 b.1 in
      subst (In p) paths_are (subst (λ q. In q (map (λ v. v.path) plan.wanted)) (sym (bytes_same p b.0.path one.1)) (in_map (λ (v : Wanted). v.path) b.0 plan.wanted one.0))

  had : (p : List ℕ) (w : Right) → right_at p whole ≡ Some w → IsHad p w
  had p w e = let h = had_at p (wanted_in p w e) in subst (IsHad p) (some_is h.0 w (sym h.1 ∙ e)) h.2

  -- how a resource is settled
  abbrev settle : Held → Held
  settle h = settled_in whole s h

  abbrev held_by : Right → Held → Held
  held_by w h = record h { needs = w.needs; deletion = w.deletion; replace = w.replace; superseded = false }

  abbrev left : List Held
  left = map settle (resources_of s)

  settles : (h : Held) (w : Right) → resource_at h.path s ≡ Some h → h.superseded ≡ false → right_at h.path whole ≡ Some w → settle h ≡ held_by w h
  settles h w at stands right =
      ap (λ o. cond (is_physical_of h.physical o && not h.superseded) (as_wanted (right_at h.path whole) h) (record h { superseded = true })) at
      ∙ ap (λ b. cond (b && not h.superseded) (as_wanted (right_at h.path whole) h) (record h { superseded = true })) (same_bytes h.physical)
      ∙ ap (λ b. cond (not b) (as_wanted (right_at h.path whole) h) (record h { superseded = true })) stands
      ∙ ap (λ o. as_wanted o h) right

  resource_is : (p : List ℕ) (r : Held) → resource_at p s ≡ Some r → In r (resources_of s) × (p ≡ r.path) × (r.superseded ≡ false)
  resource_is p r e =
      let c = current_is p (s.made ++ s.held) r (find-append (is_current_at p) s.made s.held ∙ e) in
      (elim (in_either r s.made s.held c.0) [ inl i ↦ in_back r s.held s.made i | inr i ↦ in_front r s.held s.made i ], c.1, c.2)

  record IsCurrent (h : Held) : Type 0 where
    pub at : resource_at h.path s ≡ Some h
    pub right : Right
    pub wanted : right_at h.path whole ≡ Some right
    pub same : settle h ≡ held_by right h

  lives : (h : Held) → In h (resources_of s) → (settle h).superseded ≡ false → IsCurrent h
  lives h i e =
      let c = settled_cases (is_physical_of h.physical (resource_at h.path s) && not h.superseded) (right_at h.path whole) h e in
      let p = physical_cases (resource_at h.path s) h.physical (first_so (is_physical_of h.physical (resource_at h.path s)) (not h.superseded) c.0) in
      let same : p.0 ≡ h = one_id (λ (r : Held). r.physical) (resources_of s) f.ids p.0 h (resource_is h.path p.0 p.1).0 i (sym p.2) in
      let at : resource_at h.path s ≡ Some h = p.1 ∙ ap (λ r. Some r) same in
      record {
        at = at;
        right = c.1;
        wanted = c.2;
        same = settles h c.1 at (not_so h.superseded (second_so (is_physical_of h.physical (resource_at h.path s)) (not h.superseded) c.0)) c.2;
      }

  currents : (h : Held) → In h (resources_of s) → IsCurrent h → current_at h.path left ≡ Some (settle h)
  currents h i c = found_only (is_current_at h.path) left (settle h) (in_map settle h (resources_of s) i) (ap (is_current_at h.path) c.same ∙ ap (λ b. b && true) (same_bytes h.path)) only where
    only : (y : Held) → In y left → is_current_at h.path y ≡ true → y ≡ settle h
    only y j t =
        let m = in_changed settle (resources_of s) y j in
        let d = lives m.one m.of_list (ap (λ (z : Held). z.superseded) m.same ∙ not_so y.superseded (second_so (bytes_eq h.path y.path) _ t)) in
        let path : m.one.path ≡ h.path = ap (λ (z : Held). z.path) (sym d.same ∙ m.same) ∙ sym (bytes_same h.path y.path (first_so (bytes_eq h.path y.path) _ t)) in
        sym m.same ∙ ap settle (some_is m.one h (sym d.at ∙ ap (λ q. resource_at q s) path ∙ c.at))

  is_as : (h : Held) (c : IsCurrent h) → (h.unsure ≡ false) × IsHeldAs c.right (settle h)
  is_as h c =
      let g = had h.path c.right c.wanted in
      let one : g.one ≡ h = some_is g.one h (sym g.at ∙ c.at) in (
        subst (λ (r : Held). r.unsure ≡ false) one g.sure,
        subst (IsHeldAs c.right) (sym c.same)
            (record { kind = ap (λ (r : Held). r.kind) (sym one) ∙ g.kind; props = ap (λ (r : Held). r.props) (sym one) ∙ g.props; needs = refl; deletion = refl; replace = refl }),
      )

  record IsLeft (r : Held) : Type 0 where
    pub one : Held
    pub of_list : In one (resources_of s)
    pub same : settle one ≡ r
    pub current : IsCurrent one
    pub path : one.path ≡ r.path

  is_left : (r : Held) → In r left → r.superseded ≡ false → IsLeft r
  is_left r i e =
      let m = in_changed settle (resources_of s) r i in
      let c = lives m.one m.of_list (ap (λ (z : Held). z.superseded) m.same ∙ e) in
      record { one = m.one; of_list = m.of_list; same = m.same; current = c; path = ap (λ (z : Held). z.path) (sym c.same ∙ m.same) }

  pub whole_left : IsWholeIn seen whole left
  whole_left = record {
    sees = λ path r e.
        let c = current_is path left r e in
        let l = is_left r c.0 c.2 in
        seen_at path l.one (ap (λ q. resource_at q s) (c.1 ∙ sym l.path) ∙ l.current.at) ∙ ap (λ (z : Held). Some (seen_as_held z)) (sym l.current.same ∙ l.same);
    wanted = λ path w e.
        let h = had path w e in
        let i = resource_is path h.one h.at in
        let at : resource_at h.one.path s ≡ Some h.one = ap (λ q. resource_at q s) (sym i.1) ∙ h.at in
        let right : right_at h.one.path whole ≡ Some w = ap (λ q. right_at q whole) (sym i.1) ∙ e in
        let c : IsCurrent h.one = record { at = at; right = w; wanted = right; same = settles h.one w at i.2 right } in
        (settle h.one, ap (λ q. current_at q left) i.1 ∙ currents h.one i.0 c, (is_as h.one c).1);
    held = λ r i e.
        let l = is_left r i e in
        (l.current.right, ap (λ q. right_at q whole) (sym l.path) ∙ l.current.wanted, subst (IsHeldAs l.current.right) l.same (is_as l.one l.current).1);
    single = λ r i e. let l = is_left r i e in ap (λ q. current_at q left) (sym l.path) ∙ currents l.one l.of_list l.current ∙ ap (λ z. Some z) l.same;
    sure = λ r i e. let l = is_left r i e in ap (λ (z : Held). z.unsure) (sym l.same ∙ l.current.same) ∙ (is_as l.one l.current).0;
  }

  -- what is the resource of a path of the template is not superseded
  pub stays_current : (h : Held) → resource_at h.path s ≡ Some h → In h.path (wanted_paths s) → (settle h).superseded ≡ false
  stays_current h at i =
      let w = had_at h.path i in ap (λ (z : Held). z.superseded) (settles h w.0 at (resource_is h.path h at).2 w.1)

-- without an open call nothing is marked
unmarked : (hs : List Held) → map (marked []) hs ≡ hs
unmarked [] = refl
unmarked (h ∷ hs) = ap (λ t. h ∷ t) (unmarked hs)

pub none_marked : (ps : List Pending) (hs : List Held) → ps ≡ [] → hs ≡ map (marked ps) hs
none_marked ps hs e = sym (ap (λ qs. map (marked qs) hs) e ∙ unmarked hs)
