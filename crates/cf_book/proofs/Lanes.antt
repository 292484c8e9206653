-- Lists of lanes, no two of one name, in which one comes home.
use Rattle.std.proofs.Common.{◌≡◌, ◌≢◌, ℕ, zero, suc, ◌<◌, ◌+◌, ◌==◌, ◌≤◌, Bool, true, false, ◌||◌, List, [], ◌∷◌, Option, Some, None, map, filter_map, option_map, length, set, get_or, position, refl, sym, ◌∙◌, ap, subst, arith, cond, true≢false, slice_get, slice_index_or, take, drop, ◌++◌, ◌⊎◌, inl, inr, not, nat_lt}
use Rattle.std.specs.List.{list_any, position_or_len}
use Rattle.std.specs.Str.{bytes_eq}
use Rattle.std.proofs.lemmas.List.{get_or-map, length-map, length-set, map-set}
use Rattle.std.proofs.lemmas.List.Quantifiers.{position-Some}
use Rattle.std.proofs.lemmas.Option.{slice_get-get_or, slice_get-map}
use Rattle.std.proofs.Math.Seq.{take-append_seam}
use Rattle.cf_tree.specs.Lists.{In}
use Rattle.cf_tree.specs.Lists.In.{here, there}
use Rattle.cf_tree.specs.Named.{all_differ}
use Rattle.cf_plan.proofs.Differ.{differ_rest, one_id}
use Rattle.cf_plan.proofs.Listed.{bytes_same, in_map, same_bytes}
use Rattle.cf_plan.proofs.Members.{any_in, false_from}
use Rattle.cf_plan.proofs.Listed.{in_at}
use Rattle.cf_lane.specs.Calling.{Granted}
use Rattle.cf_lane.specs.Lanes.{LaneNow}
use Rattle.cf_next.specs.declared.home.Home.{Home}
use Rattle.cf_book.specs.Inside.{calls_out, name_of}
use Rattle.cf_book.specs.State.{BookLane, IsOut, at_home, come_home, home_of, lent_for, with_lane}

-- to change the one at a place is to change the one of its name
module _ {A : Type 0} (key : A → List ℕ) (n : List ℕ) (y : A) where
  abbrev put_in : A → A
  put_in x = cond (bytes_eq n (key x)) y x

  unnamed : (xs : List A) → list_any (bytes_eq n) (map key xs) ≡ false → map put_in xs ≡ xs
  unnamed [] h = refl
  unnamed (x ∷ xs) h = by (bytes_eq n (key x)) h (unnamed xs) where
    by : (b : Bool) → (b || list_any (bytes_eq n) (map key xs)) ≡ false → (list_any (bytes_eq n) (map key xs) ≡ false → map put_in xs ≡ xs)
        → cond b y x ∷ map put_in xs ≡ x ∷ xs
    by true h g = absurd (true≢false h)
    by false h g = ap (λ l. x ∷ l) (g h)

  pub set_named : (xs : List A) (i : ℕ) (d : A) → i < length xs → bytes_eq n (key (get_or xs i d)) ≡ true → all_differ bytes_eq (map key xs) ≡ true
      → set xs i y ≡ map put_in xs
  set_named [] i d l e h = absurd (omega (arith, l))
  set_named (x ∷ xs) zero d l e h =
      let rest = differ_rest bytes_eq (key x) (map key xs) h in
      rw e (ap (λ l. y ∷ l) (sym (unnamed xs (subst (λ m. list_any (bytes_eq m) (map key xs) ≡ false) (sym (bytes_same n (key x) e)) rest.0))))
  set_named (x ∷ xs) (suc i) d l e h =
      let rest = differ_rest bytes_eq (key x) (map key xs) h in
      let within : i < length xs = omega (arith, l) in
      let other : bytes_eq n (key x) ≡ false = false_from (bytes_eq n (key x)) (λ t.
      let same : key x ≡ key (get_or xs i d) = sym (bytes_same n (key x) t) ∙ bytes_same n (key (get_or xs i d)) e in
      true≢false (sym (any_in (bytes_eq (key x)) (key (get_or xs i d)) (map key xs) (in_map key (get_or xs i d) xs (in_at xs i d within))
      (subst (λ m. bytes_eq (key x) m ≡ true) same (same_bytes (key x)))) ∙ rest.0)) in
      rw other (ap (λ l. x ∷ l) (set_named xs i d within e rest.1))

-- where one of a list passes a test, some place is the first
position_below : {A : Type 0} (p : A → Bool) (a : A) (xs : List A) → In a xs → p a ≡ true → position_or_len p xs < length xs
position_below p a [] i t = elim i [ ]
position_below p a (x ∷ xs) here t = rw t (omega arith)
position_below p a (x ∷ xs) (there i) t = by (p x) (position_below p a xs i t) where
  by : (b : Bool) → position_or_len p xs < length xs → cond (not b) (1 + position_or_len p xs) 0 < length (x ∷ xs)
  by true h = omega arith
  by false h = omega (arith, h)

pub has_place : {A : Type 0} (p : A → Bool) (xs : List A) (a : A) → In a xs → p a ≡ true → (i : ℕ) × (position p xs ≡ Some i)
has_place p xs a i t = (position_or_len p xs, by (position_or_len p xs) (length xs) (position_below p a xs i t)) where
  by : (n m : ℕ) → n < m → cond (nat_lt n m) (Some n) None ≡ Some n
  by n m h = grind arith

-- The place of the lane that is lent, as it is found among the homes.
module _ (lanes : List BookLane) (was : LaneNow) (call : Granted) (out : IsOut lanes was call) (differ : all_differ bytes_eq (map name_of lanes) ≡ true)
  where
    pub lent_place : (n : List ℕ) → was.name ≡ n → (at : ℕ) × (position (λ (h : Home). bytes_eq n h.name) (map home_of lanes) ≡ Some at)
    lent_place n e = has_place (λ (h : Home). bytes_eq n h.name) (map home_of lanes) (home_of (lent_for call was)) (in_map home_of (lent_for call was) lanes out)
        (subst (λ m. bytes_eq m was.name ≡ true) e (same_bytes was.name))

    module _ (n : List ℕ) (named : was.name ≡ n) (at : ℕ) (found : position (λ (h : Home). bytes_eq n h.name) (map home_of lanes) ≡ Some at) where
      within : at < length lanes
      within =
          let f = position-Some (λ (h : Home). bytes_eq n h.name) (map home_of lanes) at (home_of (lent_for call was)) found in
          omega (arith, f.0, length-map lanes home_of)

      named_there : bytes_eq n (name_of (get_or lanes at (lent_for call was))) ≡ true
      named_there =
          let f = position-Some (λ (h : Home). bytes_eq n h.name) (map home_of lanes) at (home_of (lent_for call was)) found in
          subst (λ (h : Home). bytes_eq n h.name ≡ true) (get_or-map home_of lanes at (lent_for call was) (home_of (lent_for call was)) within) f.1

      is_lent : get_or lanes at (lent_for call was) ≡ lent_for call was
      is_lent = one_id name_of lanes differ (get_or lanes at (lent_for call was)) (lent_for call was) (in_at lanes at (lent_for call was) within) out
          (sym (bytes_same n (name_of (get_or lanes at (lent_for call was))) named_there) ∙ sym named)

      pub lent_there : slice_get lanes at ≡ Some (lent_for call was)
      lent_there = slice_get-get_or lanes at (lent_for call was) within ∙ ap Some is_lent

      pub home_there : at < length (map home_of lanes)
      home_there = omega (arith, within, length-map lanes home_of)

      pub comes_home : (lane : LaneNow) → lane.name ≡ n → set lanes at (at_home lane) ≡ come_home lane lanes
      comes_home lane e = set_named name_of n (at_home lane) lanes at (lent_for call was) within named_there differ
          ∙ ap (λ m. map (with_lane m (at_home lane)) lanes) (sym e)

-- what is found under a name among some homes, by another spelling of both
pub found_so : (m n : List ℕ) (hs ks : List Home) (at : ℕ) → m ≡ n → hs ≡ ks → position (λ (h : Home). bytes_eq m h.name) hs ≡ Some at
    → position (λ (h : Home). bytes_eq n h.name) ks ≡ Some at
found_so m n hs ks at e f h =
    subst (λ xs. position (λ (h : Home). bytes_eq n h.name) xs ≡ Some at) f (subst (λ k. position (λ (h : Home). bytes_eq k h.name) hs ≡ Some at) e h)

-- a home that is marked free
pub freed : (lanes new : List BookLane) (was lane : LaneNow) (call : Granted) (hs left : List Home) (at : ℕ) (h : Home)
    → hs ≡ map home_of lanes → slice_get hs at ≡ Some h → left ≡ set hs at (record h { out = None }) → slice_get lanes at ≡ Some (lent_for call was)
    → was.name ≡ lane.name → was.schema ≡ lane.schema → new ≡ set lanes at (at_home lane)
    → take (length hs) (left ++ drop (length left) hs) ≡ map home_of new
freed lanes new was lane call hs left at h is got freed_so stood named typed now =
    let long : length left ≡ length hs = ap length freed_so ∙ length-set hs at (record h { out = None }) in
    let home : Some h ≡ Some (home_of (lent_for call was)) =
    sym got ∙ ap (λ xs. slice_get xs at) is ∙ slice_get-map home_of lanes at ∙ ap (option_map home_of) stood in
    let mine : h ≡ home_of (lent_for call was) = cc home in
    let free : record h { out = None } ≡ home_of (at_home lane) =
    ap (λ (z : Home). record z { out = None }) mine
    ∙ ap (λ n. record { name = n; schema = was.schema; out = None }) named ∙ ap (λ k. record { name = lane.name; schema = k; out = None }) typed in
    ap (λ n. take n (left ++ drop (length left) hs)) (sym long) ∙ take-append_seam left (drop (length left) hs)
    ∙ freed_so ∙ ap (λ (z : Home). set hs at z) free ∙ ap (λ xs. set xs at (home_of (at_home lane))) is
    ∙ sym (map-set home_of lanes at (at_home lane)) ∙ ap (map home_of) (sym now)

-- the name of the lane at a place, as what comes next is asked for has it
name_at : (lanes : List BookLane) (at : ℕ) (d : Home) → at < length lanes
    → (b : BookLane) × (slice_get lanes at ≡ Some b) × ((slice_index_or (map home_of lanes) at d).name ≡ b.lane.name)
name_at [] at d h = absurd (omega (arith, h))
name_at (b ∷ bs) zero d h = (b, refl, refl)
name_at (b ∷ bs) (suc at) d h = name_at bs at d (omega (arith, h))

pub home_named : (lanes now : List BookLane) (homes : List Home) (at : ℕ) (d : Home) → lanes ≡ now → homes ≡ map home_of lanes → at < length now
    → (b : BookLane) × (slice_get now at ≡ Some b) × ((slice_index_or homes at d).name ≡ b.lane.name)
home_named lanes now homes at d same are within =
    subst (λ hs. (b : BookLane) × (slice_get now at ≡ Some b) × ((slice_index_or hs at d).name ≡ b.lane.name)) (sym (are ∙ ap (map home_of) same))
    (name_at now at d within)
