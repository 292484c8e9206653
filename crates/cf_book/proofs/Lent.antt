-- Lanes of which one that was at home is lent for a call.
use Rattle.std.proofs.Common.{◌≡◌, ◌⊎◌, inl, inr, ℕ, zero, suc, ◌+◌, ◌<◌, ◌≤◌, ◌==◌, Bool, true, false, ◌&&◌, not, List, [], ◌∷◌, ◌++◌, Option, Some, None, Result, Ok, Err, is_some, map, option_map, position, length, set, get_or, slice_get, take, drop, refl, sym, ◌∙◌, ap, subst, arith, cond, true≢false}
use Rattle.std.specs.List.{list_any}
use Rattle.std.specs.Global.{Vec}
use Rattle.std.specs.Option.{option_map_or}
use Rattle.std.specs.Str.{bytes_eq}
use Rattle.std.specs.Cmp.{first_so, second_so}
use Rattle.std.proofs.Math.Seq.{take-append_seam}
use Rattle.std.proofs.lemmas.Bool.{eq-eqb}
use Rattle.std.proofs.lemmas.List.{get_or-map, length-map, length-set, map-set}
use Rattle.std.proofs.lemmas.List.Quantifiers.{position-Some}
use Rattle.std.proofs.lemmas.Option.{slice_get-get_or, slice_get-map, slice_get_within, slice_get_cases}
use Rattle.cf_tree.specs.Lists.{In}
use Rattle.cf_tree.specs.Named.{all_differ}
use Rattle.cf_handler.specs.declared.handler.Handler.{Ghosts}
use Rattle.cf_core.proofs.BackSteps.{map_same}
use Rattle.cf_effect.proofs.Rowed.{mapped}
use Rattle.cf_effect.specs.World.{World}
use Rattle.cf_plan.proofs.Causing.{map_in}
use Rattle.cf_plan.proofs.CreatedRight.{none_of}
use Rattle.cf_plan.proofs.Differ.{one_id}
use Rattle.cf_plan.proofs.Listed.{bytes_same, in_map, same_bytes}
use Rattle.cf_plan.proofs.Members.{is_so}
use Rattle.cf_plan.proofs.StatesDone.{at_in}
use Rattle.cf_lane.specs.Calling.{Granted}
use Rattle.cf_lane.specs.Lanes.{IsSameLane, LaneNow, calls_of, handler_of, lane_now, lane_with}
use Rattle.cf_lane.specs.declared.lane.Lane.{Lane}
use Rattle.cf_lane.specs.declared.lease.Lease.{Lease}
use Rattle.cf_next.specs.declared.home.Home.{Home}
use Rattle.cf_book.specs.Inside.{HasWayBack, MayComeHome, name_of, place_now, places_now}
use Rattle.cf_book.specs.Lending.{IsLentTo, LendsAt, LendsPlace, free_place, is_expected, place_for, is_free_home, is_out_for}
use Rattle.cf_book.specs.State.{BookLane, at_home, come_home, home_of, lent_for, lent_out, with_lane}
use Rattle.cf_book.specs.declared.lending.Asked.{Asked}
use Rattle.cf_book.specs.declared.place.Place.{Place}
use Rattle.cf_book.proofs.Lanes.{set_named}

-- names stay
pub names_lent : (call : Granted) (lane : LaneNow) (lanes : List BookLane) → map name_of (lent_out call lane lanes) ≡ map name_of lanes
names_lent call lane [] = refl
names_lent call lane (b ∷ bs) = by (bytes_eq lane.name b.lane.name) refl (names_lent call lane bs) where
  by : (t : Bool) → bytes_eq lane.name b.lane.name ≡ t → map name_of (lent_out call lane bs) ≡ map name_of bs
      → name_of (with_lane lane.name (lent_for call lane) b) ∷ map name_of (lent_out call lane bs) ≡ name_of b ∷ map name_of bs
  by true t h =
      ap (λ s. name_of (cond s (lent_for call lane) b) ∷ map name_of (lent_out call lane bs)) t
      ∙ ap (λ n. n ∷ map name_of (lent_out call lane bs)) (bytes_same lane.name b.lane.name t) ∙ ap (λ ns. name_of b ∷ ns) h
  by false t h = ap (λ s. name_of (cond s (lent_for call lane) b) ∷ map name_of (lent_out call lane bs)) t ∙ ap (λ ns. name_of b ∷ ns) h

-- a lane of those of which one is lent: that one, or another one that was there
pub data OfLent (call : Granted) (lane : LaneNow) (lanes : List BookLane) (c : BookLane) : Type 0 where
  it : c ≡ lent_for call lane → OfLent call lane lanes c
  other : In c lanes → bytes_eq lane.name c.lane.name ≡ false → OfLent call lane lanes c

pub of_lent : (call : Granted) (lane : LaneNow) (lanes : List BookLane) (c : BookLane) → In c (lent_out call lane lanes) → OfLent call lane lanes c
of_lent call lane lanes c i =
    let (a, j, e) = map_in (with_lane lane.name (lent_for call lane)) c lanes i in
    by a j e (bytes_eq lane.name a.lane.name) refl
  where
    by : (a : BookLane) → In a lanes → with_lane lane.name (lent_for call lane) a ≡ c → (t : Bool) → bytes_eq lane.name a.lane.name ≡ t
        → OfLent call lane lanes c
    by a j e true t = it (sym e ∙ ap (λ s. cond s (lent_for call lane) a) t)
    by a j e false t =
        let same : a ≡ c = sym (ap (λ s. cond s (lent_for call lane) a) t) ∙ e in
        other (subst (λ (z : BookLane). In z lanes) same j) (subst (λ (z : BookLane). bytes_eq lane.name z.lane.name ≡ false) same t)

-- where the lane comes home as it was, all is as it was
pub come_back : (lanes : List BookLane) (b : BookLane) (call : Granted) → In b lanes → b.out ≡ None → all_differ bytes_eq (map name_of lanes) ≡ true
    → come_home b.lane (lent_out call b.lane lanes) ≡ lanes
come_back lanes b call home free differ = mapped (with_lane b.lane.name (at_home b.lane)) (with_lane b.lane.name (lent_for call b.lane)) lanes
    ∙ map_same (λ a. with_lane b.lane.name (at_home b.lane) (with_lane b.lane.name (lent_for call b.lane) a)) lanes (λ a i. same a i (bytes_eq b.lane.name a.lane.name) refl)
  where
    same : (a : BookLane) → In a lanes → (t : Bool) → bytes_eq b.lane.name a.lane.name ≡ t
        → with_lane b.lane.name (at_home b.lane) (with_lane b.lane.name (lent_for call b.lane) a) ≡ a
    same a i true t =
        let its : a ≡ b = one_id name_of lanes differ a b i home (sym (bytes_same b.lane.name a.lane.name t)) in
        ap (λ s. with_lane b.lane.name (at_home b.lane) (cond s (lent_for call b.lane) a)) t
        ∙ ap (λ s. cond s (at_home b.lane) (lent_for call b.lane)) (same_bytes b.lane.name)
        ∙ ap (λ (o : Option Granted). record { lane = b.lane; out = o }) (sym free) ∙ sym its
    same a i false t =
        ap (λ s. with_lane b.lane.name (at_home b.lane) (cond s (lent_for call b.lane) a)) t
        ∙ ap (λ s. cond s (at_home b.lane) a) t

-- The lane that is found at a place, at home.
pub record IsFree (lanes : List BookLane) (name : List ℕ) (token : ℕ) (homes : List Home) (at : ℕ) (b : BookLane) : Type 0 where
  pub stands : slice_get lanes at ≡ Some b
  pub named : b.lane.name ≡ name
  pub free : b.out ≡ None
  pub unused : list_any (is_out_for token) homes ≡ false

within_lanes : (p : Home → Bool) (lanes : List BookLane) (at : ℕ) → position p (map home_of lanes) ≡ Some at → at < length lanes
within_lanes p [] at e = let no : None ≡ Some at = e in absurd (cc)
within_lanes p (b ∷ bs) at e =
    let f = position-Some p (map home_of (b ∷ bs)) at (home_of b) e in
    omega (arith, f.0, length-map (b ∷ bs) home_of)

module _ (lanes : List BookLane) (name : List ℕ) (token : ℕ) (homes : List Home) (at : ℕ) (are : homes ≡ map home_of lanes) where
  not_out : (o : Option Granted) → not (is_some (option_map (λ (c : Granted). c.token) o)) ≡ true → o ≡ None
  not_out None e = refl
  not_out (Some c) e = absurd (true≢false (sym e))

  found_free : position (is_free_home name) (map home_of lanes) ≡ Some at → list_any (is_out_for token) homes ≡ false
      → (b : BookLane) × IsFree lanes name token homes at b
  found_free p none = elim (slice_get_cases lanes at).1 [
    | inl (b, within, stands, is) ↦ (
      b,
      (let f = position-Some (is_free_home name) (map home_of lanes) at (home_of b) p in
          let so : is_free_home name (home_of b) ≡ true =
          subst (λ (h : Home). is_free_home name h ≡ true) (get_or-map home_of lanes at b (home_of b) within ∙ ap home_of is) f.1 in
          record {
            stands = stands;
            named = sym (bytes_same name b.lane.name (first_so (bytes_eq name b.lane.name) (not (is_some (home_of b).out)) so));
            free = not_out b.out (second_so (bytes_eq name b.lane.name) (not (is_some (home_of b).out)) so);
            unused = none;
          }),
    )
    | inr (past, gone) ↦ (let within = within_lanes (is_free_home name) lanes at p in absurd (omega (arith, past, within)))
  ]

  pub free_there : free_place name token homes ≡ Some at → (b : BookLane) × IsFree lanes name token homes at b
  free_there found = by (list_any (is_out_for token) homes) refl where
    by : (t : Bool) → list_any (is_out_for token) homes ≡ t → (b : BookLane) × IsFree lanes name token homes at b
    by true e = let no : None ≡ Some at = ap (λ t. cond t None (position (is_free_home name) homes)) (sym e) ∙ found in absurd (cc)
    by false e =
        found_free
        (subst (λ hs. position (is_free_home name) hs ≡ Some at) are (ap (λ t. cond t None (position (is_free_home name) homes)) (sym e) ∙ found))
        e

-- the lane at the place is the one of its name
pub lent_at : (lanes : List BookLane) (at : ℕ) (b : BookLane) (call : Granted) → slice_get lanes at ≡ Some b → all_differ bytes_eq (map name_of lanes) ≡ true
    → set lanes at (lent_for call b.lane) ≡ lent_out call b.lane lanes
lent_at lanes at b call stands differ =
    let within = slice_get_within lanes at b stands in
    let is : Some (get_or lanes at b) ≡ Some b = sym (slice_get-get_or lanes at b within) ∙ stands in
    let same : get_or lanes at b ≡ b = cc is in
    set_named name_of b.lane.name (lent_for call b.lane) lanes at b within
    (subst (λ (z : BookLane). bytes_eq b.lane.name z.lane.name ≡ true) (sym same) (same_bytes b.lane.name)) differ

-- a home that is marked as out
pub marked_out : (lanes new : List BookLane) (b : BookLane) (call : Granted) (hs left : List Home) (at : ℕ) (h : Home) → hs ≡ map home_of lanes
    → slice_get hs at ≡ Some h → left ≡ set hs at (record h { out = Some call.token }) → slice_get lanes at ≡ Some b → new ≡ set lanes at (lent_for call b.lane)
    → take (length hs) (left ++ drop (length left) hs) ≡ map home_of new
marked_out lanes new b call hs left at h is got marked stood now =
    let long : length left ≡ length hs = ap length marked ∙ length-set hs at (record h { out = Some call.token }) in
    let home : Some h ≡ Some (home_of b) = sym got ∙ ap (λ xs. slice_get xs at) is ∙ slice_get-map home_of lanes at ∙ ap (option_map home_of) stood in
    let mine : h ≡ home_of b = cc home in
    ap (λ n. take n (left ++ drop (length left) hs)) (sym long) ∙ take-append_seam left (drop (length left) hs)
    ∙ marked ∙ ap (λ (z : Home). set hs at (record z { out = Some call.token })) mine
    ∙ ap (λ xs. set xs at (home_of (lent_for call b.lane))) is ∙ sym (map-set home_of lanes at (lent_for call b.lane)) ∙ ap (map home_of) (sym now)

-- a call that is out is of another token where none of the token is out
pub unused_by : (lanes : List BookLane) (token : ℕ) → list_any (is_out_for token) (map home_of lanes) ≡ false → (a : BookLane) (c : Granted) → In a lanes
    → a.out ≡ Some c → c.token ≡ token → ⊥
unused_by lanes token none a c i out same =
    let no = none_of (is_out_for token) (map home_of lanes) (home_of a) none (in_map home_of a lanes i) in
    let yes : is_out_for token (home_of a) ≡ true =
    ap (λ (o : Option Granted). option_map_or (λ t. token == t) (option_map (λ (g : Granted). g.token) o) false) out ∙ eq-eqb token c.token (sym same) in
    true≢false (sym yes ∙ no)

-- there is room in which the lanes are given back
pub way_lent : {H : Type 0} (call : Granted) (lane : LaneNow) (lanes : List BookLane) (emptied : Vec H) → HasWayBack lanes emptied
    → HasWayBack (lent_out call lane lanes) emptied
way_lent call lane lanes emptied h = record {
  empty = h.empty;
  room = omega (arith, h.room, length-map lanes (with_lane lane.name (lent_for call lane)));
}

-- one that stands at a place, put there again
set_same : {A : Type 0} (xs : List A) (i : ℕ) (d y : A) → get_or xs i d ≡ y → i < length xs → set xs i y ≡ xs
set_same [] i d y e l = absurd (omega (arith, l))
set_same (x ∷ xs) zero d y e l = ap (λ z. z ∷ xs) (sym e)
set_same (x ∷ xs) (suc i) d y e l = ap (λ zs. x ∷ zs) (set_same xs i d y e (omega (arith, l)))

there_so : (lanes : List BookLane) (at : ℕ) (b : BookLane) → slice_get lanes at ≡ Some b → get_or lanes at b ≡ b
there_so lanes at b stands =
    let is : Some (get_or lanes at b) ≡ Some b = sym (slice_get-get_or lanes at b (slice_get_within lanes at b stands)) ∙ stands in
    cc is

-- a place of the list that is lent, or not
pub lends_at : {H E : Type 0} (g : Ghosts H) (lanes lanes' : List BookLane) (at : ℕ) (b c : BookLane) (call : Granted) (result : Result (Lease H) E)
    → slice_get lanes at ≡ Some b → b.out ≡ None → lanes' ≡ set lanes at c → LendsPlace g b c call result → LendsAt g lanes lanes' at call result
lends_at g lanes lanes' at b c call (Ok lease) stands free is h = (b, stands, free, is ∙ ap (set lanes at) h.0, h.1, h.2)
lends_at g lanes lanes' at b c call (Err e) stands free is h =
    is ∙ ap (set lanes at) h ∙ set_same lanes at b b (there_so lanes at b stands) (slice_get_within lanes at b stands)

-- the lane that was found is lent
pub lent_to : {H : Type 0} (E : Type 0) (g : Ghosts H) (lanes lanes' : List BookLane) (name : List ℕ) (token : ℕ) (homes : List Home) (at : ℕ) (call : Granted)
    (lease : Lease H) (f : BookLane) → IsFree lanes name token homes at f → all_differ bytes_eq (map name_of lanes) ≡ true
    → LendsAt {E = E} g lanes lanes' at call (Ok lease) → (b : BookLane) × IsLentTo g lanes lanes' name call lease b
lent_to E g lanes lanes' name token homes at call lease f is differ (b, stands, free, now, granted, owns) =
    let same : Some b ≡ Some f = sym stands ∙ is.stands in
    let its : f ≡ b = cc same in (
      b,
      record {
        home = at_in lanes at b stands;
        free = free;
        lent = now ∙ lent_at lanes at b call stands differ;
        named = ap name_of (sym its) ∙ is.named;
        granted = granted;
        owns = owns;
      },
    )

-- the lane that is lent may come home, and all is as it was then
pub may_return : {H : Type 0} (g : Ghosts H) (lanes lanes' : List BookLane) (b : BookLane) (call : Granted) (lane : Lane H) → In b lanes
    → lanes' ≡ lent_out call b.lane lanes → lane_now g lane ≡ b.lane → MayComeHome g lanes' lane
may_return g lanes lanes' b call lane home are owns = (
  b.lane,
  call,
  subst (λ ls. In (lent_for call b.lane) ls) (sym are)
      (subst (λ (z : BookLane). In z (lent_out call b.lane lanes)) (ap (λ s. cond s (lent_for call b.lane) b) (same_bytes b.lane.name))
      (in_map (with_lane b.lane.name (lent_for call b.lane)) b lanes home)),
  ap (λ (l : LaneNow). l.name) (sym owns),
  ap (λ (l : LaneNow). l.schema) (sym owns),
)

pub returned : (lanes lanes' after : List BookLane) (b : BookLane) (call : Granted) (lane : LaneNow) → In b lanes → b.out ≡ None
    → all_differ bytes_eq (map name_of lanes) ≡ true → lanes' ≡ lent_out call b.lane lanes → lane ≡ b.lane → after ≡ come_home lane lanes' → after ≡ lanes
returned lanes lanes' after b call lane home free differ are owns is =
    is ∙ ap (λ l. come_home l lanes') owns ∙ ap (come_home b.lane) are ∙ come_back lanes b call home free differ

-- the same handler with the same log is the same lane
pub same_lane_now : {H : Type 0} (g : Ghosts H) (a b : Lane H) → IsSameLane a b → lane_now g b ≡ lane_now g a
same_lane_now g a b h = ap (λ x. lane_with g x (calls_of b)) h.handler ∙ ap (lane_with g (handler_of a)) h.log

-- what stands at a place
pub place_there : {H : Type 0} (g : Ghosts H) (items : List (Place H)) (at : ℕ) (b : BookLane) (p : Place H) → slice_get (places_now g items) at ≡ Some b
    → p ≡ get_or items at p → place_now g p ≡ b
place_there g items at b p stands is =
    let below = slice_get_within (places_now g items) at b stands in
    let within : at < length items = omega (arith, below, length-map items (place_now g)) in
    let its : Some (place_now g (get_or items at p)) ≡ Some b =
    sym (slice_get-map (place_now g) items at ∙ ap (option_map (place_now g)) (slice_get-get_or items at p within)) ∙ stands in
    let same : place_now g (get_or items at p) ≡ b = cc its in
    ap (place_now g) is ∙ same

-- where a place is found for a call, the call is as it should be
pub placed : (number : ℕ) (x : World) (homes : List Home) (a : Asked) (at : ℕ) → place_for number x homes a ≡ Some at
    → (is_expected number a.token x a.repeated ≡ true) × (free_place a.lane a.token homes ≡ Some at)
placed number x homes a at e = by (is_expected number a.token x a.repeated) refl where
  by : (t : Bool) → is_expected number a.token x a.repeated ≡ t → (is_expected number a.token x a.repeated ≡ true) × (free_place a.lane a.token homes ≡ Some at)
  by true k = (k, sym (ap (λ t. cond t (free_place a.lane a.token homes) None) k) ∙ e)
  by false k = let no : None ≡ Some at = sym (ap (λ t. cond t (free_place a.lane a.token homes) None) k) ∙ e in absurd (cc)
