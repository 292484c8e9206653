-- Lanes whose fences are raised one after another.
use Rattle.std.proofs.Common.{◌≡◌, ◌∙◌, ℕ, ◌<◌, ◌-◌, arith, zero, suc, List, [], ◌∷◌, Some, length, map, option_map, set, get_or, slice_get, take, drop, refl, sym, ap, subst}
use Rattle.std.proofs.lemmas.List.{length-drop, length-map, map-set}
use Rattle.std.proofs.lemmas.Option.{none-some, same_Some, slice_get-get_or, slice_get-map}
use Rattle.cf_handler.specs.Tells.{FenceTells, HasFenceCause}
use Rattle.cf_handler.specs.declared.fence.FenceAnswer.{FenceAnswer}
use Rattle.cf_handler.specs.declared.fence.FenceAnswer.TheVariants as fence
use Rattle.cf_handler.specs.declared.handler.Handler.{Ghosts}
use Rattle.cf_lane.specs.Lanes.{IsFenced, LaneNow, lane_with}
use Rattle.cf_book.specs.Fences.{EachRaised, RaisesAt, StopsRaising, handed_in}

-- the lane at a place, as its handler tells of it
pub raised_at : {H : Type 0} (g : Ghosts H) (hs : List H) (at : ℕ) (x y : H) (epoch : ℕ) (answer : FenceAnswer) → at < length hs → x ≡ get_or hs at x
    → g.label y ≡ g.label x → g.schema_of y ≡ g.schema_of x → HasFenceCause (g.count x) (g.count y) answer
    → FenceTells (g.label x) (g.told x) (g.told y) epoch answer (g.count x) (g.count y)
    → RaisesAt (handed_in g hs) (handed_in g (set hs at y)) at epoch answer
raised_at g hs at x y epoch answer within is name schema cause tells = record {
  lane = lane_with g x [];
  lane' = lane_with g y [];
  was =
      slice_get-map (λ h. lane_with g h []) hs at
      ∙ ap (option_map (λ h. lane_with g h [])) (slice_get-get_or hs at x within ∙ ap Some (sym is));
  now = map-set (λ h. lane_with g h []) hs at y;
  fenced = record { name = name; schema = schema; log = refl; cause = cause; tells = tells };
}

-- a place that was there is there where the rest is as it was
pub still_there : {A B : Type 0} (f : A → B) (at : ℕ) (hs ks : List A) → drop at (map f hs) ≡ drop at (map f ks) → at < length ks → at < length hs
still_there f at hs ks e within =
    let left : length (map f hs) - at ≡ length (map f ks) - at =
    sym (length-drop at (map f hs)) ∙ ap length e ∙ length-drop at (map f ks) in
    omega (arith, left, length-map hs f, length-map ks f, within)

module _ (epoch : ℕ) where
  -- one more is raised
  pub raised_more : (at : ℕ) (b a a' : List LaneNow) (x x' : LaneNow) → EachRaised (take at b) (take at a) epoch → drop at a ≡ drop at b
      → slice_get a at ≡ Some x → a' ≡ set a at x' → IsFenced x x' epoch fence.Raised
      → EachRaised (take (suc at) b) (take (suc at) a') epoch × (drop (suc at) a' ≡ drop (suc at) b)
  raised_more zero b [] a' x x' r d g s f = absurd (none-some x g)
  raised_more zero b (y ∷ ys) a' x x' r d g s f =
      subst (λ z. EachRaised (take 1 z) (take 1 a') epoch × (drop 1 a' ≡ drop 1 z)) d
      (subst (λ z. EachRaised (take 1 (y ∷ ys)) (take 1 z) epoch × (drop 1 z ≡ ys)) (sym s)
      ((subst (λ z. IsFenced z x' epoch fence.Raised) (sym (same_Some y x g)) f, tt), refl))
  raised_more (suc n) b [] a' x x' r d g s f = absurd (none-some x g)
  raised_more (suc n) [] (y ∷ ys) a' x x' r d g s f = absurd r
  raised_more (suc n) (c ∷ cs) (y ∷ ys) a' x x' r d g s f =
      let more = raised_more n cs ys (set ys n x') x x' r.1 d g refl f in
      subst (λ z. EachRaised (take (suc (suc n)) (c ∷ cs)) (take (suc (suc n)) z) epoch × (drop (suc (suc n)) z ≡ drop (suc n) cs)) (sym s)
      ((r.0, more.0), more.1)

  -- and the next one answers otherwise
  pub stops_there : (at : ℕ) (b a a' : List LaneNow) (x x' : LaneNow) (answer : FenceAnswer) → EachRaised (take at b) (take at a) epoch
      → drop at a ≡ drop at b → slice_get a at ≡ Some x → a' ≡ set a at x' → IsFenced x x' epoch answer
      → StopsRaising b a' at epoch answer
  stops_there zero b [] a' x x' answer r d g s f = absurd (none-some x g)
  stops_there zero b (y ∷ ys) a' x x' answer r d g s f =
      subst (λ z. StopsRaising z a' zero epoch answer) d
      (subst (λ z. StopsRaising (y ∷ ys) z zero epoch answer) (sym s) (subst (λ z. IsFenced z x' epoch answer) (sym (same_Some y x g)) f, refl))
  stops_there (suc n) b [] a' x x' answer r d g s f = absurd (none-some x g)
  stops_there (suc n) [] (y ∷ ys) a' x x' answer r d g s f = absurd r
  stops_there (suc n) (c ∷ cs) (y ∷ ys) a' x x' answer r d g s f =
      subst (λ z. StopsRaising (c ∷ cs) z (suc n) epoch answer) (sym s)
      (r.0, stops_there n cs ys (set ys n x') x x' answer r.1 d g refl f)

  -- all are raised where none is left
  pub raised_all : (at : ℕ) (b a : List LaneNow) → EachRaised (take at b) (take at a) epoch → drop at a ≡ drop at b → drop at b ≡ []
      → EachRaised b a epoch
  raised_all zero b a r d e = subst (λ z. EachRaised z a epoch) (sym e) (subst (λ z. EachRaised [] z epoch) (sym (d ∙ e)) tt)
  raised_all (suc n) [] [] r d e = tt
  raised_all (suc n) [] (y ∷ ys) r d e = absurd r
  raised_all (suc n) (c ∷ cs) [] r d e = absurd r
  raised_all (suc n) (c ∷ cs) (y ∷ ys) r d e = (r.0, raised_all n cs ys r.1 d e)
