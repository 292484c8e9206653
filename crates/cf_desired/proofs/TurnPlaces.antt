-- What is looked up by place among the turns of a shape is what a walk over all of them finds.
use Rattle.std.proofs.Common.{◌≡◌, ◌∙◌, ℕ, zero, suc, ◌+◌, ◌≤◌, ◌<◌, List, [], ◌∷◌, ◌++◌, length, map, take, drop, get_or, Bool, true, false, cond, Option, Some, None, Result, Ok, Err, IfOk, option_map, refl, sym, ap, arith, subst, true≢false}
use Rattle.std.specs.Prelude.{flat_map}
use Rattle.std.specs.List.{slice_get}
use Rattle.std.specs.Str.{bytes_eq}
use Rattle.std.proofs.Math.Dec.{ltb}
use Rattle.std.proofs.lemmas.Bool.{le-ltb, lt-ltb}
use Rattle.std.proofs.lemmas.List.{drop_more, length-append, length-map}
use Rattle.std.proofs.lemmas.Slice.Eq.{bytes_eq-Decides}
use Rattle.cf_tree.specs.Keys.{put, value_at}
use Rattle.cf_tree.specs.declared.source.Source.{Source}
use Rattle.cf_tree.proofs.Lookups.{put_here, put_else}
use Rattle.cf_desired.specs.declared.shape.Shape as kept_shape
use Rattle.cf_desired.specs.declared.shape.Turn.{Turn}
use Rattle.cf_desired.specs.declared.shape.Turn.TheVariants as kept
use Rattle.cf_desired.specs.declared.wanted.Evaluated.{Evaluated}
use Rattle.cf_desired.specs.Kept.{IsShape, frames_past, member_in, turn_in, valued_there}
use Rattle.cf_desired.specs.Plan.{at_path, props_at}
use Rattle.cf_desired.specs.Seeing.{Seen}
use Rattle.cf_desired.specs.Shape.{given_root}
use Rattle.cf_desired.specs.TurnPlaces.{is_resource, is_resource_at, others_from, place_of, places_from, with_place}
use Rattle.cf_desired.specs.Turns.{Frame, Turn as laid_turn, the_root, a_resource, a_shut, a_barred, a_halted, an_opened, a_closed, frames_behind, frames_run, member_on, scope_on, turns_in, valued_at, valued_run}
use Rattle.cf_desired.specs.Valued.{member_props, resources_in, valued_in}
use Rattle.cf_desired.specs.Work.{Body, Member}
use Rattle.cf_desired.proofs.Finding.{found_later}
use Rattle.cf_desired.proofs.Offering.{drop_all}
use Rattle.cf_desired.proofs.Termed.{member_of, members_in}
use Rattle.cf_desired.proofs.Turning.{members_of, props_so, valued_root}

-- what stands under a path once the place of a turn was put in
with_place_at : (path : List ℕ) (turn : Turn) (i : ℕ) (ps : List (List ℕ × ℕ)) → value_at path (with_place turn i ps) ≡ cond (is_resource_at path turn) (Some i) (value_at path ps)
with_place_at path (kept.Resource m) i ps = either (bytes_eq path m.path) refl where
  either : (b : Bool) → bytes_eq path m.path ≡ b → value_at path (put m.path i ps) ≡ cond (bytes_eq path m.path) (Some i) (value_at path ps)
  either true e =
      let same : path ≡ m.path = (bytes_eq-Decides path m.path).0 e in
      ap (λ (k : List ℕ). value_at k (put m.path i ps)) same ∙ put_here m.path i ps ∙ sym (ap (λ (b : Bool). cond b (Some i) (value_at path ps)) e)
  either false e = put_else path m.path i ps e ∙ sym (ap (λ (b : Bool). cond b (Some i) (value_at path ps)) e)
with_place_at path (kept.Shut n f) i ps = refl
with_place_at path (kept.Barred e f) i ps = refl
with_place_at path (kept.Halted e t f) i ps = refl
with_place_at path (kept.Opened e t conds made) i ps = refl
with_place_at path kept.Closed i ps = refl

further : (i : ℕ) (o : Option ℕ) → option_map (λ (k : ℕ). (i + 1) + k) o ≡ option_map (λ (k : ℕ). i + k) (option_map (λ (k : ℕ). suc k) o)
further i None = refl
further i (Some k) = let same : (i + 1) + k ≡ i + suc k = omega arith in ap (λ (n : ℕ). Some n) same

place_from : (path : List ℕ) (ts : List Turn) (i : ℕ) → value_at path (places_from i ts) ≡ option_map (λ (k : ℕ). i + k) (place_of path ts)
place_from path [] i = refl
place_from path (turn ∷ ts) i = with_place_at path turn i (places_from (i + 1) ts) ∙ either (is_resource_at path turn) (place_from path ts (i + 1)) where
  either : (b : Bool) → value_at path (places_from (i + 1) ts) ≡ option_map (λ (k : ℕ). (i + 1) + k) (place_of path ts)
      → cond b (Some i) (value_at path (places_from (i + 1) ts)) ≡ option_map (λ (k : ℕ). i + k) (cond b (Some 0) (option_map (λ (k : ℕ). suc k) (place_of path ts)))
  either true h = let same : i ≡ i + 0 = omega arith in ap (λ (n : ℕ). Some n) same
  either false h = h ∙ further i (place_of path ts)

from_start : (o : Option ℕ) → option_map (λ (k : ℕ). 0 + k) o ≡ o
from_start None = refl
from_start (Some k) = let same : 0 + k ≡ k = omega arith in ap (λ (n : ℕ). Some n) same

pub first_place : (path : List ℕ) (ts : List Turn) → value_at path (places_from 0 ts) ≡ place_of path ts
first_place path ts = place_from path ts 0 ∙ from_start (place_of path ts)

-- what follows from where the first is, one turn further on
one_less : (o : Option ℕ) (k : ℕ) → option_map (λ (n : ℕ). suc n) o ≡ Some (suc k) → o ≡ Some k
one_less None k h = let no : ⊥ = cc in absurd no
one_less (Some n) k h =
    let next : suc n ≡ suc k = cc in
    let same : n ≡ k = omega (arith, next) in
    ap (λ (j : ℕ). Some j) same

never_here : (o : Option ℕ) → option_map (λ (n : ℕ). suc n) o ≡ Some 0 → ⊥
never_here None h = let no : ⊥ = cc in no
never_here (Some n) h =
    let next : suc n ≡ 0 = cc in
    omega (arith, next)

none_less : (o : Option ℕ) → option_map (λ (n : ℕ). suc n) o ≡ None → o ≡ None
none_less None h = refl
none_less (Some n) h = let no : ⊥ = cc in absurd no

module _ (source : Source) (seen : Seen) where
  resource_stays : (turn : Turn) (fs : List Frame) → is_resource turn ≡ true → frames_behind source seen fs (turn_in turn) ≡ fs
  resource_stays (kept.Resource m) fs e = refl
  resource_stays (kept.Shut n f) fs e = absurd (true≢false (sym e))
  resource_stays (kept.Barred en f) fs e = absurd (true≢false (sym e))
  resource_stays (kept.Halted en t f) fs e = absurd (true≢false (sym e))
  resource_stays (kept.Opened en t conds made) fs e = absurd (true≢false (sym e))
  resource_stays kept.Closed fs e = absurd (true≢false (sym e))

  -- the turns at these places are taken, as far as a place
  abbrev pub run_till : List Frame → List Turn → List ℕ → ℕ → List Frame
  run_till fs all [] place = fs
  run_till fs all (o ∷ os) place = cond (ltb o place) (run_till (frames_past source seen fs (slice_get all o)) all os place) fs

  stops : (ts : List Turn) (i : ℕ) (fs : List Frame) (all : List Turn) (place : ℕ) → place ≤ i → run_till fs all (others_from i ts) place ≡ fs
  stops [] i fs all place h = refl
  stops (turn ∷ ts) i fs all place h =
      let far : place ≤ i + 1 = omega (arith, h) in
      either (is_resource turn) (stops ts (i + 1) fs all place far) where
        either : (b : Bool) → run_till fs all (others_from (i + 1) ts) place ≡ fs → run_till fs all (cond b (others_from (i + 1) ts) (i ∷ others_from (i + 1) ts)) place ≡ fs
        either true ih = ih
        either false ih = ap (λ (b : Bool). cond b (run_till (frames_past source seen fs (slice_get all i)) all (others_from (i + 1) ts) place) fs) (le-ltb i place h)

  skips : (ts : List Turn) (n : ℕ) (i : ℕ) (fs : List Frame) (all : List Turn) → ((k : ℕ) → slice_get all (i + k) ≡ slice_get ts k)
      → run_till fs all (others_from i ts) (i + n) ≡ frames_run source seen fs (map turn_in (take n ts))
  skips [] zero i fs all h = refl
  skips [] (suc n) i fs all h = refl
  skips (turn ∷ ts) zero i fs all h = let at : i + 0 ≤ i = omega arith in stops (turn ∷ ts) i fs all (i + 0) at
  skips (turn ∷ ts) (suc n) i fs all h =
      either (is_resource turn) refl (λ gs. let same : i + suc n ≡ (i + 1) + n = omega arith in
      ap (λ (p : ℕ). run_till gs all (others_from (i + 1) ts) p) same
      ∙ skips ts n (i + 1) gs all (λ k. let next : (i + 1) + k ≡ i + suc k = omega arith in ap (λ (j : ℕ). slice_get all j) next ∙ h (suc k))) where
        either : (b : Bool) → is_resource turn ≡ b
            → ((gs : List Frame) → run_till gs all (others_from (i + 1) ts) (i + suc n) ≡ frames_run source seen gs (map turn_in (take n ts)))
            → run_till fs all (cond b (others_from (i + 1) ts) (i ∷ others_from (i + 1) ts)) (i + suc n) ≡ frames_run source seen (frames_behind source seen fs (turn_in turn)) (map turn_in (take n ts))
        either true e ih = ih fs ∙ sym (ap (λ (gs : List Frame). frames_run source seen gs (map turn_in (take n ts))) (resource_stays turn fs e))
        either false e ih =
            let before : i < i + suc n = omega arith in
            let here : i ≡ i + 0 = omega arith in
            ap (λ (b : Bool). cond b (run_till (frames_past source seen fs (slice_get all i)) all (others_from (i + 1) ts) (i + suc n)) fs) (lt-ltb i (i + suc n) before)
            ∙ ap (λ (o : Option Turn). run_till (frames_past source seen fs o) all (others_from (i + 1) ts) (i + suc n)) (ap (λ (j : ℕ). slice_get all j) here ∙ h 0)
            ∙ ih (frames_behind source seen fs (turn_in turn))

  pub opened_till : (fs : List Frame) (all : List Turn) (place : ℕ) → run_till fs all (others_from 0 all) place ≡ frames_run source seen fs (map turn_in (take place all))
  opened_till fs all place =
      let same : place ≡ 0 + place = omega arith in
      ap (λ (p : ℕ). run_till fs all (others_from 0 all) p) same
      ∙ skips all place 0 fs all (λ k. let itself : 0 + k ≡ k = omega arith in ap (λ (j : ℕ). slice_get all j) itself)

  pub stops_here : (fs : List Frame) (all : List Turn) (os : List ℕ) (i place d : ℕ) → i < length os → place ≤ get_or os i d → run_till fs all (drop i os) place ≡ fs
  stops_here fs all os i place d within far =
      ap (λ (us : List ℕ). run_till fs all us place) (drop_more os i d within)
      ∙ ap (λ (b : Bool). cond b (run_till (frames_past source seen fs (slice_get all (get_or os i d))) all (drop (i + 1) os) place) fs) (le-ltb (get_or os i d) place far)

  pub stops_behind : (fs : List Frame) (all : List Turn) (os : List ℕ) (i place : ℕ) → i ≡ length os → run_till fs all (drop i os) place ≡ fs
  stops_behind fs all os i place behind = ap (λ (us : List ℕ). run_till fs all us place) (ap (λ (k : ℕ). drop k os) behind ∙ drop_all os)

  -- each resource is valued: where it comes, a template is open
  few_at : (fs : List Frame) (t : laid_turn) → length (valued_at source fs t) ≤ length (member_on t)
  few_at [] t = omega arith
  few_at (f ∷ fs) (a_resource m) = omega arith
  few_at (f ∷ fs) (a_shut n x) = omega arith
  few_at (f ∷ fs) (a_barred e x) = omega arith
  few_at (f ∷ fs) (a_halted e t x) = omega arith
  few_at (f ∷ fs) (an_opened e t conds made) = omega arith
  few_at (f ∷ fs) a_closed = omega arith

  few : (ts : List laid_turn) (fs : List Frame) → length (valued_run source seen fs ts) ≤ length (flat_map member_on ts)
  few [] fs = omega arith
  few (t ∷ ts) fs =
      let gs = frames_behind source seen fs t in
      let below = few ts gs in
      let here = few_at fs t in
      let left = length-append (valued_at source fs t) (valued_run source seen gs ts) in
      let right = length-append (member_on t) (flat_map member_on ts) in
      omega (arith, below, here, left, right)

  abbrev IsFull : List Frame → List laid_turn → Type 0
  IsFull fs ts = length (valued_run source seen fs ts) ≡ length (flat_map member_on ts)

  full_behind : (t : laid_turn) (ts : List laid_turn) (fs : List Frame) → IsFull fs (t ∷ ts) → IsFull (frames_behind source seen fs t) ts
  full_behind t ts fs full =
      let gs = frames_behind source seen fs t in
      let below = few ts gs in
      let here = few_at fs t in
      let left = length-append (valued_at source fs t) (valued_run source seen gs ts) in
      let right = length-append (member_on t) (flat_map member_on ts) in
      omega (arith, below, here, left, right, full)

  full_root : (b : Body) → IsFull [] (turns_in the_root b)
  full_root b =
      ap (λ (rs : List (Member × Evaluated)). length rs) (valued_root source seen b)
      ∙ sym (length-map (valued_in source seen (given_root source) b) member_of)
      ∙ ap (λ (ms : List Member). length ms) (members_in source seen (given_root source) b ∙ sym (members_of the_root b))

  abbrev values : Option (Member × Evaluated) → Option Evaluated
  values o = option_map (λ r. r.1) o

  beside : (path : List ℕ) (turn : Turn) (fs : List Frame) → is_resource_at path turn ≡ false → values (at_path path (valued_at source fs (turn_in turn))) ≡ None
  beside path turn [] e = refl
  beside path (kept.Resource m) (f ∷ fs) e =
      ap (λ (b : Bool). values (cond b (Some (member_in m, member_props f.stack.path (scope_on source f) (member_in m))) None)) e
  beside path (kept.Shut n x) (f ∷ fs) e = refl
  beside path (kept.Barred en x) (f ∷ fs) e = refl
  beside path (kept.Halted en t x) (f ∷ fs) e = refl
  beside path (kept.Opened en t conds made) (f ∷ fs) e = refl
  beside path kept.Closed (f ∷ fs) e = refl

  here : (path : List ℕ) (turn : Turn) (ts : List Turn) (fs : List Frame) → is_resource_at path turn ≡ true → IsFull fs (map turn_in (turn ∷ ts))
      → at_path path (valued_run source seen fs (map turn_in (turn ∷ ts))) ≡ at_path path (valued_at source fs (turn_in turn))
  here path (kept.Resource m) ts [] e full =
      let below = few (map turn_in ts) [] in
      let no : ⊥ = omega (arith, below, full) in absurd no
  here path (kept.Resource m) ts (f ∷ fs) e full =
      let x : Member × Evaluated = (member_in m, member_props f.stack.path (scope_on source f) (member_in m)) in
      ap (λ (b : Bool). cond b (Some x) (at_path path (valued_run source seen (f ∷ fs) (map turn_in ts)))) e ∙ sym (ap (λ (b : Bool). cond b (Some x) None) e)
  here path (kept.Shut n x) ts fs e full = absurd (true≢false (sym e))
  here path (kept.Barred en x) ts fs e full = absurd (true≢false (sym e))
  here path (kept.Halted en t x) ts fs e full = absurd (true≢false (sym e))
  here path (kept.Opened en t conds made) ts fs e full = absurd (true≢false (sym e))
  here path kept.Closed ts fs e full = absurd (true≢false (sym e))

  at_first : (path : List ℕ) (ts : List Turn) (fs : List Frame) (k : ℕ) → place_of path ts ≡ Some k → IsFull fs (map turn_in ts)
      → at_path path (valued_run source seen fs (map turn_in ts)) ≡ at_path path (valued_there source (frames_run source seen fs (map turn_in (take k ts))) (slice_get ts k))
  at_first path [] fs k p full = let no : ⊥ = cc in absurd no
  at_first path (turn ∷ ts) fs k p full =
      either (is_resource_at path turn) k refl p (λ j q. at_first path ts (frames_behind source seen fs (turn_in turn)) j q (full_behind (turn_in turn) (map turn_in ts) fs full)) where
        either : (b : Bool) (k : ℕ) → is_resource_at path turn ≡ b → cond b (Some 0) (option_map (λ (n : ℕ). suc n) (place_of path ts)) ≡ Some k
            → ((j : ℕ) → place_of path ts ≡ Some j → at_path path (valued_run source seen (frames_behind source seen fs (turn_in turn)) (map turn_in ts))
            ≡ at_path path (valued_there source (frames_run source seen (frames_behind source seen fs (turn_in turn)) (map turn_in (take j ts))) (slice_get ts j)))
            → at_path path (valued_run source seen fs (map turn_in (turn ∷ ts))) ≡ at_path path (valued_there source (frames_run source seen fs (map turn_in (take k (turn ∷ ts)))) (slice_get (turn ∷ ts) k))
        either true zero e q ih = here path turn ts fs e full
        either true (suc j) e q ih = let no : ⊥ = cc in absurd no
        either false zero e q ih = absurd (never_here (place_of path ts) q)
        either false (suc j) e q ih =
            found_later path (valued_at source fs (turn_in turn)) (valued_run source seen (frames_behind source seen fs (turn_in turn)) (map turn_in ts)) (beside path turn fs e)
            ∙ ih j (one_less (place_of path ts) j q)

  at_none : (path : List ℕ) (ts : List Turn) (fs : List Frame) → place_of path ts ≡ None → at_path path (valued_run source seen fs (map turn_in ts)) ≡ None
  at_none path [] fs p = refl
  at_none path (turn ∷ ts) fs p = either (is_resource_at path turn) refl p (at_none path ts (frames_behind source seen fs (turn_in turn))) where
    either : (b : Bool) → is_resource_at path turn ≡ b → cond b (Some 0) (option_map (λ (n : ℕ). suc n) (place_of path ts)) ≡ None
        → (place_of path ts ≡ None → at_path path (valued_run source seen (frames_behind source seen fs (turn_in turn)) (map turn_in ts)) ≡ None)
        → at_path path (valued_run source seen fs (map turn_in (turn ∷ ts))) ≡ None
    either true e q ih = let no : ⊥ = cc in absurd no
    either false e q ih =
        found_later path (valued_at source fs (turn_in turn)) (valued_run source seen (frames_behind source seen fs (turn_in turn)) (map turn_in ts)) (beside path turn fs e)
        ∙ ih (none_less (place_of path ts) q)

-- the properties that the code finds
pub props_missing : (source : Source) (seen : Seen) (shape : kept_shape.Shape) (path : List ℕ) → place_of path shape.turns ≡ None
    → (b : Body) → IsShape shape b → None ≡ props_at source b seen path
props_missing source seen shape path p = props_so source seen shape path None (ap (λ o. option_map (λ r. r.1) o) (at_none source seen path shape.turns [] p))

pub props_there : (source : Source) (seen : Seen) (shape : kept_shape.Shape) (path : List ℕ) (place : ℕ) (fs : List Frame) (v : Option Evaluated) → place_of path shape.turns ≡ Some place
    → fs ≡ frames_run source seen [] (map turn_in (take place shape.turns)) → v ≡ option_map (λ r. r.1) (at_path path (valued_there source fs (slice_get shape.turns place)))
    → (b : Body) → IsShape shape b → v ≡ props_at source b seen path
props_there source seen shape path place fs v p opened found b s =
    props_so source seen shape path v
    (ap (λ o. option_map (λ r. r.1) o) (at_first source seen path shape.turns [] place p (subst (λ (ts : List laid_turn). IsFull source seen [] ts) (sym s.turns) (full_root source seen b)))
    ∙ ap (λ (gs : List Frame). option_map (λ r. r.1) (at_path path (valued_there source gs (slice_get shape.turns place)))) (sym opened) ∙ sym found) b s
