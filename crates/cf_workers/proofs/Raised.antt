-- The raising of fences changes no lane that was not handed in.
use Rattle.std.proofs.Common.{◌≡◌, ℕ, suc, zero, Bool, true, false, List, [], ◌∷◌, ◌++◌, map, refl, sym, ◌∙◌, ap, subst}
use Rattle.cf_tree.specs.Lists.{In, is_among}
use Rattle.cf_tree.specs.Lists.In.{here, there}
use Rattle.cf_handler.specs.Fence.{raised_to}
use Rattle.cf_handler.specs.declared.fence.FenceAnswer.{FenceAnswer}
use Rattle.cf_handler.specs.declared.fence.FenceAnswer.TheVariants as fence
use Rattle.cf_lane.specs.Lanes.{LaneNow}
use Rattle.cf_plan.specs.Life.{Event, Life, Raise, life_after, world_of}
use Rattle.cf_book.specs.Entering.{AreRaisings, AreRaisingsTo, IsRaising}
use Rattle.cf_book.specs.Events.{late_on}
use Rattle.cf_workers.specs.Leading.{KeepOthers}
use Rattle.cf_workers.proofs.Lives.{after_all, after_both, keep_both, keep_changed, keep_lates, kept_as}

module _ (names : List (List ℕ)) where
  raise_keeps : (life : Life) (name : List ℕ) (a : FenceAnswer) (moved : Bool) (x y : ℕ) → is_among name names ≡ true → KeepOthers names life.lanes (life_after life (Raise name a moved x y)).lanes
  raise_keeps life name a true x y mine = keep_changed names name (λ l. raised_to l (world_of life).epoch) life.lanes mine
  raise_keeps life name a false x y mine = kept_as names life.lanes life.lanes refl

  raising_keeps : (life : Life) (before after : LaneNow) (a : FenceAnswer) (events : List Event) → is_among before.name names ≡ true → IsRaising before after a events
      → KeepOthers names life.lanes (after_all life events).lanes
  raising_keeps life before after a events mine r =
      let late : List Event = map (late_on before.name) r.effects in
      let mid : Life = after_all life late in
      let raise : Event = Raise before.name a r.moved before.count after.count in
      subst (λ (z : Life). KeepOthers names life.lanes z.lanes) (sym (ap (after_all life) r.are ∙ after_both life late (raise ∷ [])))
      (keep_both names life.lanes mid.lanes (life_after mid raise).lanes (keep_lates names before.name mine life r.effects) (raise_keeps mid before.name a r.moved before.count after.count mine))

  abbrev pub AreNamed : List LaneNow → Type 0
  AreNamed lanes = (l : LaneNow) → In l lanes → is_among l.name names ≡ true

  raised_then : (life : Life) (one rest events : List Event) → events ≡ one ++ rest → KeepOthers names life.lanes (after_all life one).lanes
      → KeepOthers names (after_all life one).lanes (after_all (after_all life one) rest).lanes → KeepOthers names life.lanes (after_all life events).lanes
  raised_then life one rest events q h k =
      subst (λ (z : Life). KeepOthers names life.lanes z.lanes) (sym (ap (after_all life) q ∙ after_both life one rest))
      (keep_both names life.lanes (after_all life one).lanes (after_all (after_all life one) rest).lanes h k)

  pub raisings_keep : (life : Life) (bs ks : List LaneNow) (events : List Event) → AreNamed bs → AreRaisings bs ks events → KeepOthers names life.lanes (after_all life events).lanes
  raisings_keep life [] [] events named q = subst (λ es. KeepOthers names life.lanes (after_all life es).lanes) (sym q) (kept_as names life.lanes life.lanes refl)
  raisings_keep life [] (k ∷ ks) events named q = absurd q
  raisings_keep life (b ∷ bs) [] events named q = absurd q
  raisings_keep life (b ∷ bs) (k ∷ ks) events named (one, rest, r, rs, q) =
      raised_then life one rest events q (raising_keeps life b k fence.Raised one (named b here) r) (raisings_keep (after_all life one) bs ks rest (λ l i. named l (there i)) rs)

  pub raisings_to_keep : (life : Life) (bs ks : List LaneNow) (n : ℕ) (x : FenceAnswer) (events : List Event) → AreNamed bs → AreRaisingsTo bs ks n x events
      → KeepOthers names life.lanes (after_all life events).lanes
  raisings_to_keep life [] ks n x events named q = absurd q
  raisings_to_keep life (b ∷ bs) [] n x events named q = absurd q
  raisings_to_keep life (b ∷ bs) (k ∷ ks) zero x events named r = raising_keeps life b k x events (named b here) r
  raisings_to_keep life (b ∷ bs) (k ∷ ks) (suc n) x events named (one, rest, r, rs, q) =
      raised_then life one rest events q (raising_keeps life b k fence.Raised one (named b here) r)
      (raisings_to_keep (after_all life one) bs ks n x rest (λ l i. named l (there i)) rs)
