-- Disk and lanes agree after a command: the life to which its events lead, at rest.
use Rattle.std.proofs.Common.{◌≡◌, inl, inr, ℕ, Bool, true, false, ◌||◌, not, ◌&&◌, cond, List, [], ◌∷◌, Option, Some, None, map, option_map, refl, sym, ◌∙◌, ap, subst, true≢false}
use Rattle.std.specs.Str.{bytes_eq}
use Rattle.cf_tree.specs.Lists.{In, is_among}
use Rattle.cf_tree.specs.Lists.In.{here, there}
use Rattle.cf_tree.specs.Named.{all_differ}
use Rattle.cf_handler.specs.Fence.{FencedLane}
use Rattle.cf_entry.specs.declared.entry.Entry.{Entry}
use Rattle.cf_schema.specs.declared.described.Schema.{Schema}
use Rattle.cf_lane.specs.Lanes.{LaneNow}
use Rattle.cf_plan.specs.Lanes.{Lane, lane_at}
use Rattle.cf_plan.specs.Life.{Life}
use Rattle.cf_plan.proofs.ChangedLists.{find_mapped}
use Rattle.cf_plan.proofs.CreatedStays.{found_one}
use Rattle.cf_plan.proofs.Members.{false_from}
use Rattle.cf_plan.proofs.Listed.{bytes_same, in_cons, in_map, in_none, same_bytes}
use Rattle.cf_core.specs.Theorem.{HoldsAlways}
use Rattle.cf_core.proofs.Always.{holds_keeps_promises}
use Rattle.cf_book.specs.Lives.{AreLanesOf}
use Rattle.cf_book.specs.State.{at_home}
use Rattle.cf_workers.specs.Agreement.{AgreeOn, all_as_told, as_told, at_rest, state_told}
use Rattle.cf_workers.specs.Leading.{KeepOthers}
use Rattle.cf_workers.proofs.Rests.{rests}

-- Lists of lanes that have the same names, each once, and under each name the same lane, are the same.
abbrev pub names : List Lane → List (List ℕ)
names ls = map (λ (l : Lane). l.name) ls

abbrev pub AreSameAt : List Lane → List Lane → Type 0
AreSameAt xs ys = (n : List ℕ) → is_among n (names xs) ≡ true → lane_at n xs ≡ lane_at n ys

-- the first of a list is found under its name
pub first_at : (l : Lane) (ls : List Lane) → lane_at l.name (l ∷ ls) ≡ Some l
first_at l ls = ap (λ t. cond t (Some l) (lane_at l.name ls)) (same_bytes l.name)

pub among_tail : (n m : List ℕ) (ns : List (List ℕ)) → is_among n ns ≡ true → is_among n (m ∷ ns) ≡ true
among_tail n m ns mine = by (bytes_eq n m) where
  by : (t : Bool) → (t || (is_among n ns)) ≡ true
  by true = refl
  by false = mine

-- no name stands twice
twice : (m : List ℕ) (ns : List (List ℕ)) → all_differ bytes_eq (m ∷ ns) ≡ true → is_among m ns ≡ true → ⊥
twice m ns differ mine = true≢false (sym mine ∙ first_part (is_among m ns) (all_differ bytes_eq ns) differ) where
  first_part : (a b : Bool) → (not a && b) ≡ true → a ≡ false
  first_part false b q = refl
  first_part true b q = sym q

-- what a name of its own tells of the others
pub other_name : (n m : List ℕ) (ns : List (List ℕ)) → all_differ bytes_eq (m ∷ ns) ≡ true → is_among n ns ≡ true → bytes_eq n m ≡ false
other_name n m ns differ mine = by (bytes_eq n m) refl where
  by : (t : Bool) → bytes_eq n m ≡ t → t ≡ false
  by false q = refl
  by true q = let never : ⊥ = twice m ns differ (ap (λ k. is_among k ns) (sym (bytes_same n m q)) ∙ mine) in absurd never

pub behind : (n : List ℕ) (l : Lane) (ls : List Lane) → bytes_eq n l.name ≡ false → lane_at n (l ∷ ls) ≡ lane_at n ls
behind n l ls q = ap (λ t. cond t (Some l) (lane_at n ls)) q

pub rest_differs : (m : List ℕ) (ns : List (List ℕ)) → all_differ bytes_eq (m ∷ ns) ≡ true → all_differ bytes_eq ns ≡ true
rest_differs m ns q = second_part (is_among m ns) (all_differ bytes_eq ns) q where
  second_part : (a b : Bool) → (not a && b) ≡ true → b ≡ true
  second_part false b q = q
  second_part true b q = absurd (true≢false (sym q))

pub same_lists : (xs ys : List Lane) → names xs ≡ names ys → all_differ bytes_eq (names xs) ≡ true → AreSameAt xs ys → xs ≡ ys
same_lists [] [] q differ same = refl
same_lists [] (y ∷ ys) q differ same = let never : ⊥ = cc in absurd never
same_lists (x ∷ xs) [] q differ same = let never : ⊥ = cc in absurd never
same_lists (x ∷ xs) (y ∷ ys) q differ same =
    let head : x.name ≡ y.name = heads q in
    let tail : names xs ≡ names ys = tails q in
    let one : x ≡ y = some (sym (first_at x xs) ∙ same x.name (ap (λ t. (t || (is_among x.name (names xs)))) (same_bytes x.name)) ∙ ap (λ n. lane_at n (y ∷ ys)) head ∙ first_at y ys) in
    let others : AreSameAt xs ys = λ n mine.
    let apart : bytes_eq n x.name ≡ false = other_name n x.name (names xs) differ mine in
    sym (behind n x xs apart) ∙ same n (among_tail n x.name (names xs) mine) ∙ behind n y ys (ap (bytes_eq n) (sym head) ∙ apart) in
    ap (λ z. z ∷ xs) one ∙ ap (λ zs. y ∷ zs) (same_lists xs ys tail (rest_differs x.name (names xs) differ) others)
  where
    heads : x.name ∷ names xs ≡ y.name ∷ names ys → x.name ≡ y.name
    heads q = cc

    tails : x.name ∷ names xs ≡ y.name ∷ names ys → names xs ≡ names ys
    tails q = cc

    some : ◌≡◌ {A = Option Lane} (Some x) (Some y) → x ≡ y
    some q = cc

-- The lanes as they tell: those that were handed in by what they tell, the others as they were.
told_name : (now : List LaneNow) (l : Lane) → (as_told now l).name ≡ l.name
told_name [] l = refl
told_name (n ∷ now) l = by (bytes_eq n.name l.name) (told_name now l) where
  by : (t : Bool) → (as_told now l).name ≡ l.name → (cond t (record l { state = state_told l.state n.told }) (as_told now l)).name ≡ l.name
  by true q = refl
  by false q = q

pub told_names : (now : List LaneNow) (ls : List Lane) → names (all_as_told now ls) ≡ names ls
told_names now [] = refl
told_names now (l ∷ ls) = ap (λ n. n ∷ names (all_as_told now ls)) (told_name now l) ∙ ap (λ ns. l.name ∷ ns) (told_names now ls)

told_at : (now : List LaneNow) (n : List ℕ) (ls : List Lane) → lane_at n (all_as_told now ls) ≡ option_map (as_told now) (lane_at n ls)
told_at now n ls = find_mapped (λ (x : Lane). bytes_eq n x.name) (as_told now) ls (λ x. ap (bytes_eq n) (told_name now x))

-- a lane that was not handed in
untold : (now : List LaneNow) (l : Lane) → is_among l.name (map (λ (n : LaneNow). n.name) now) ≡ false → as_told now l ≡ l
untold [] l q = refl
untold (n ∷ now) l q = by (bytes_eq l.name n.name) refl (λ r. untold now l r) where
  others : (t : Bool) → bytes_eq l.name n.name ≡ t → (t || (is_among l.name (map (λ (k : LaneNow). k.name) now))) ≡ false → is_among l.name (map (λ (k : LaneNow). k.name) now) ≡ false
  others false e r = r
  others true e r = absurd (true≢false r)

  apart : bytes_eq l.name n.name ≡ false → bytes_eq n.name l.name ≡ false
  apart e = false_from (bytes_eq n.name l.name) (λ t. true≢false (sym (same_bytes l.name) ∙ ap (bytes_eq l.name) (sym (bytes_same n.name l.name t)) ∙ e))

  by : (t : Bool) → bytes_eq l.name n.name ≡ t → (is_among l.name (map (λ (k : LaneNow). k.name) now) ≡ false → as_told now l ≡ l) → as_told (n ∷ now) l ≡ l
  by true e more = absurd (true≢false (ap (λ s. (s || (is_among l.name (map (λ (k : LaneNow). k.name) now)))) (sym e) ∙ q))
  by false e more = ap (λ s. cond s (record l { state = state_told l.state n.told }) (as_told now l)) (apart e) ∙ more (others (bytes_eq l.name n.name) refl q)

-- one that was, where no two have its name
among_mapped : (n : LaneNow) (ns : List LaneNow) → In n ns → is_among n.name (map (λ (k : LaneNow). k.name) ns) ≡ true
among_mapped n [] i = absurd (in_none i)
among_mapped n (k ∷ ns) i = elim (in_cons i) [
  | inl e ↦ ap (λ (m : LaneNow). ((bytes_eq n.name m.name) || (is_among n.name (map (λ (k : LaneNow). k.name) ns)))) e ∙ ap (λ s. (s || (is_among n.name (map (λ (k : LaneNow). k.name) ns)))) (same_bytes n.name)
  | inr j ↦ among_tail n.name k.name (map (λ (k : LaneNow). k.name) ns) (among_mapped n ns j)
]

told_so : (now : List LaneNow) (n : LaneNow) (l : Lane) (state : FencedLane) → In n now → all_differ bytes_eq (map (λ (k : LaneNow). k.name) now) ≡ true → n.name ≡ l.name → n.told ≡ Some state
    → as_told now l ≡ record l { state = state }
told_so [] n l state i differ q t = absurd (in_none i)
told_so (k ∷ now) n l state i differ q t = elim (in_cons i) [
  | inl e ↦
      ap (λ (m : LaneNow). cond (bytes_eq m.name l.name) (record l { state = state_told l.state m.told }) (as_told now l)) e
      ∙ ap (λ s. cond s (record l { state = state_told l.state n.told }) (as_told now l)) (ap (λ m. bytes_eq m l.name) q ∙ same_bytes l.name) ∙ ap (λ o. record l { state = state_told l.state o }) t
  | inr j ↦
      let here_too : is_among n.name (map (λ (k : LaneNow). k.name) now) ≡ true = among_mapped n now j in
      let apart : bytes_eq n.name k.name ≡ false = other_name n.name k.name (map (λ (k : LaneNow). k.name) now) differ here_too in
      let turned : bytes_eq k.name l.name ≡ false = false_from (bytes_eq k.name l.name) (λ y. true≢false (sym (same_bytes n.name) ∙ ap (bytes_eq n.name) (q ∙ sym (bytes_same k.name l.name y)) ∙ apart)) in
      ap (λ s. cond s (record l { state = state_told l.state k.told }) (as_told now l)) turned
      ∙ told_so now n l state j (rest_differs k.name (map (λ (k : LaneNow). k.name) now) differ) q t
]

-- each handler that comes back was the lane of its name, of its type
abbrev pub WereLanes : List Lane → List LaneNow → Type 0
WereLanes all now = (n : LaneNow) → In n now → (l : Lane) × (lane_at n.name all ≡ Some l) × (l.kind ≡ n.schema.kind)

-- The lanes of a life after a command are all lanes, those that were handed in as they tell.
module _ (all : List Lane) (now : List LaneNow) (differ : all_differ bytes_eq (map (λ (n : LaneNow). n.name) now) ≡ true) where
  named_in : (m : List ℕ) (ns : List LaneNow) → is_among m (map (λ (n : LaneNow). n.name) ns) ≡ true → (n : LaneNow) × In n ns × (n.name ≡ m)
  named_in m [] q = absurd (true≢false (sym q))
  named_in m (n ∷ ns) q = by (bytes_eq m n.name) refl (λ r. named_in m ns r) where
    by : (t : Bool) → bytes_eq m n.name ≡ t → (is_among m (map (λ (k : LaneNow). k.name) ns) ≡ true → (k : LaneNow) × In k ns × (k.name ≡ m))
        → (k : LaneNow) × In k (n ∷ ns) × (k.name ≡ m)
    by true e more = (n, here, sym (bytes_same m n.name e))
    by false e more = let (k, i, r) = more (sym (ap (λ t. (t || (is_among m (map (λ (k : LaneNow). k.name) ns)))) e) ∙ q) in (k, there i, r)

  module _ (after : List Lane) (lanes : AreLanesOf (map at_home now) after) (were : WereLanes all now) (keep : KeepOthers (map (λ (n : LaneNow). n.name) now) all after) where
    lane_named : (m : List ℕ) (l : Lane) (ls : List Lane) → lane_at m ls ≡ Some l → m ≡ l.name
    lane_named m l ls q = bytes_same m l.name (found_one (λ (x : Lane). bytes_eq m x.name) ls l q).1

    -- a lane that was handed in
    handed : (m : List ℕ) (n : LaneNow) → In n now → n.name ≡ m → lane_at m after ≡ lane_at m (all_as_told now all)
    handed m n i q = by n.told refl where
      by : (o : Option FencedLane) → n.told ≡ o → lane_at m after ≡ lane_at m (all_as_told now all)
      by None t =
          let (l, tells, at) = lanes (at_home n) (in_map at_home n now i) in
          let never : ⊥ = nothing (ap (option_map (λ state. record { name = n.name; kind = n.schema.kind; state = state })) (sym t) ∙ tells) in absurd never where
            nothing : {l : Lane} → ◌≡◌ {A = Option Lane} None (Some l) → ⊥
            nothing q = cc
      by (Some state) t =
          let (l, tells, at) = lanes (at_home n) (in_map at_home n now i) in
          let mine : record { name = n.name; kind = n.schema.kind; state = state } ≡ l = some (ap (option_map (λ s. record { name = n.name; kind = n.schema.kind; state = s })) (sym t) ∙ tells) in
          let (l0, at0, kind) = were n i in
          let named : n.name ≡ l0.name = lane_named n.name l0 all at0 in
          let told : as_told now l0 ≡ record l0 { state = state } = told_so now n l0 state i differ named t in
          let same : record l0 { state = state } ≡ record { name = n.name; kind = n.schema.kind; state = state } =
          ap (λ k. record { name = k; kind = l0.kind; state = state }) (sym named) ∙ ap (λ k. record { name = n.name; kind = k; state = state }) kind in
          let found : lane_at l.name after ≡ lane_at m after = ap (λ k. lane_at k after) (sym (ap (λ (z : Lane). z.name) mine) ∙ q) in
          sym found ∙ at ∙ sym (ap Some (told ∙ same ∙ mine)) ∙ ap (option_map (as_told now)) (sym at0) ∙ sym (told_at now n.name all) ∙ ap (λ k. lane_at k (all_as_told now all)) q where
            some : {l k : Lane} → ◌≡◌ {A = Option Lane} (Some l) (Some k) → l ≡ k
            some q = cc

    -- one that was not
    left_out : (m : List ℕ) → is_among m (map (λ (n : LaneNow). n.name) now) ≡ false → lane_at m after ≡ lane_at m (all_as_told now all)
    left_out m out = keep.others m out ∙ by (lane_at m all) refl ∙ sym (told_at now m all) where
      by : (o : Option Lane) → lane_at m all ≡ o → o ≡ option_map (as_told now) o
      by None q = refl
      by (Some l) q = sym (ap Some (untold now l (ap (λ k. is_among k (map (λ (n : LaneNow). n.name) now)) (sym (lane_named m l all q)) ∙ out)))

    pub lanes_after : all_differ bytes_eq (names all) ≡ true → after ≡ all_as_told now all
    lanes_after named = same_lists after (all_as_told now all) (keep.same_names ∙ sym (told_names now all)) (ap (all_differ bytes_eq) keep.same_names ∙ named) at where
      at : AreSameAt after (all_as_told now all)
      at m mine = by (is_among m (map (λ (n : LaneNow). n.name) now)) refl where
        by : (t : Bool) → is_among m (map (λ (n : LaneNow). n.name) now) ≡ t → lane_at m after ≡ lane_at m (all_as_told now all)
        by true q = let (n, i, r) = named_in m now q in handed m n i r
        by false q = left_out m q

-- what always holds of a life whose calls are all home, with this record and these lanes
pub agree_at : (schemas : List Schema) (life : Life) (es : List Entry) (all : List Lane) → HoldsAlways schemas life → life.leases ≡ [] → life.entries ≡ es → life.lanes ≡ all → AgreeOn schemas es all
agree_at schemas life es all h none q r =
    let rested : HoldsAlways schemas (at_rest es all) =
    subst (λ ls. HoldsAlways schemas (at_rest es ls)) r (subst (λ xs. HoldsAlways schemas (at_rest xs life.lanes)) q (rests schemas life none h)) in
    record { holds = rested; kept = holds_keeps_promises schemas (at_rest es all) rested }
