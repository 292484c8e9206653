-- The flags of one path are set anew, and those of the others stay.
use Rattle.std.proofs.Common.{◌≡◌, ℕ, zero, suc, ◌<◌, ◌≤◌, Bool, true, false, List, [], ◌∷◌, Option, Some, None, length, get_or, replicate, take, refl, sym, ◌∙◌, ap, arith, subst}
use Rattle.std.proofs.Math.ListN.{set}
use Rattle.std.specs.List.{slice_get}
use Rattle.std.proofs.lemmas.List.{get_or-set_other, get_or-set_same, length-set}
use Rattle.std.proofs.lemmas.Option.{none-some, same_Some, slice_get_within}
use Rattle.cf_ready.specs.Halved.{first_set, next_set}
use Rattle.cf_ready.proofs.Halves.{next_first, shifted_none, shifted_some}
use Rattle.cf_ready.specs.declared.ready.Readiness.{Readiness}
use Rattle.cf_ready.specs.Ready.{HasFlags, IsShaped, Touches, are_made_in, awaits_make, is_unsound, with_rank}

module _ (order : List ℕ) (count : ℕ) (made : List (Option ℕ)) (at : ℕ) (needs : List ℕ) (sound : Bool) (old new : Readiness)
    (shaped : IsShaped order count old) (t : Touches made needs sound at old new) where
  ranks_stay : new.ranks.items ≡ old.ranks.items
  ranks_stay = ap (λ v. v.items) t.ranks

  with_length : (o : Option ℕ) (b : Bool) (fs : List Bool) → length (with_rank o b fs) ≡ length fs
  with_length None b fs = refl
  with_length (Some k) b fs = length-set fs k b

  pub shaped_stays : IsShaped order count new
  shaped_stays = record {
    ranks = record {
      by_place = λ k rank h. ap (λ rs. slice_get rs k) ranks_stay ∙ shaped.ranks.by_place k rank h;
      by_rank = λ k rank h. shaped.ranks.by_rank k rank (sym (ap (λ rs. slice_get rs k) ranks_stay) ∙ h);
    };
    count = ap length ranks_stay ∙ shaped.count;
    met = ap length t.mets ∙ length-set old.met.items at t.met ∙ shaped.met;
    ready = ap length t.ready ∙ with_length (slice_get old.ranks.items at) (awaits_make made needs at) old.ready ∙ shaped.ready;
    unsound = ap length t.unsound ∙ length-set old.unsound at (is_unsound made needs sound) ∙ shaped.unsound;
  }

  pub flags_here : at < count → HasFlags made needs sound at new
  flags_here l = record {
    first = subst (λ n. are_made_in made (take n needs) ≡ true) (sym met_here) t.first;
    ready = λ rank h. ready_here rank (sym (ap (λ rs. slice_get rs at) ranks_stay) ∙ h);
    unsound = ap (λ fs. get_or fs at false) t.unsound ∙ get_or-set_same old.unsound at (is_unsound made needs sound) false (omega (arith, l, shaped.unsound));
  } where
    met_here : get_or new.met.items at 0 ≡ t.met
    met_here = ap (λ ns. get_or ns at 0) t.mets ∙ get_or-set_same old.met.items at t.met 0 (omega (arith, l, shaped.met))

    ready_here : (rank : ℕ) → slice_get old.ranks.items at ≡ Some rank → get_or new.ready rank false ≡ awaits_make made needs at
    ready_here rank h =
        let within = slice_get_within order rank at (shaped.ranks.by_rank at rank h) in
        ap (λ fs. get_or fs rank false) (t.ready ∙ ap (λ o. with_rank o (awaits_make made needs at) old.ready) h)
        ∙ get_or-set_same old.ready rank (awaits_make made needs at) false (omega (arith, within, shaped.ready))

  pub flags_else : (k : ℕ) (others : List ℕ) (so : Bool) → (k ≡ at → ⊥) → HasFlags made others so k old → HasFlags made others so k new
  flags_else k others so n f = record {
    first = subst (λ m. are_made_in made (take m others) ≡ true) (sym (ap (λ ns. get_or ns k 0) t.mets ∙ get_or-set_other old.met.items at k t.met 0 n)) f.first;
    ready = λ rank h.
        let was = sym (ap (λ rs. slice_get rs k) ranks_stay) ∙ h in
        ap (λ fs. get_or fs rank false) t.ready ∙ ready_else rank was (slice_get old.ranks.items at) refl ∙ f.ready rank was;
    unsound = ap (λ fs. get_or fs k false) t.unsound ∙ get_or-set_other old.unsound at k (is_unsound made needs sound) false n ∙ f.unsound;
  } where
    ready_else : (rank : ℕ) → slice_get old.ranks.items k ≡ Some rank → (o : Option ℕ) → slice_get old.ranks.items at ≡ o
        → get_or (with_rank o (awaits_make made needs at) old.ready) rank false ≡ get_or old.ready rank false
    ready_else rank h None e = refl
    ready_else rank h (Some other) e =
        get_or-set_other old.ready other rank (awaits_make made needs at) false
        (λ same. n (same_Some k at (sym (shaped.ranks.by_rank k rank h) ∙ ap (slice_get order) same ∙ shaped.ranks.by_rank at other e)))

-- nothing is met yet
pub none_met : (made : List (Option ℕ)) (needs ns : List ℕ) (count at : ℕ) → ns ≡ replicate count 0 → are_made_in made (take (get_or ns at 0) needs) ≡ true
none_met made needs ns count at e = subst (λ n. are_made_in made (take n needs) ≡ true) (sym (ap (λ xs. get_or xs at 0) e ∙ zeros count at)) refl where
  zeros : (n k : ℕ) → ◌≡◌ {A = ℕ} (get_or (replicate n 0) k 0) 0
  zeros zero k = refl
  zeros (suc n) zero = refl
  zeros (suc n) (suc k) = zeros n k

-- from a place on none is set where none is the next
pub none_set : (fs : List Bool) (from : ℕ) → next_set fs from ≡ None → (k : ℕ) → from ≤ k → get_or fs k false ≡ false
none_set [] from e k l = refl
none_set (true ∷ fs) zero e k l = absurd (none-some 0 (sym e))
none_set (false ∷ fs) zero e zero l = refl
none_set (false ∷ fs) zero e (suc k) l = none_set fs 0 (next_first fs ∙ shifted_none (first_set fs) e) k (omega arith)
none_set (f ∷ fs) (suc from) e zero l = absurd (omega (arith, l))
none_set (f ∷ fs) (suc from) e (suc k) l = none_set fs from (shifted_none (next_set fs from) e) k (omega (arith, l))

-- and up to the next that is set none is
pub none_between : (fs : List Bool) (from next : ℕ) → next_set fs from ≡ Some next → (k : ℕ) → from ≤ k → k < next → get_or fs k false ≡ false
none_between [] from next e k l u = refl
none_between (true ∷ fs) zero next e k l u = let same : 0 ≡ next = same_Some 0 next e in absurd (omega (arith, same, u))
none_between (false ∷ fs) zero next e zero l u = refl
none_between (false ∷ fs) zero next e (suc k) l u =
    let m = shifted_some (first_set fs) next e in
    none_between fs 0 m.0 (next_first fs ∙ m.1) k (omega arith) (omega (arith, u, m.2))
none_between (f ∷ fs) (suc from) next e zero l u = absurd (omega (arith, l))
none_between (f ∷ fs) (suc from) next e (suc k) l u =
    let m = shifted_some (next_set fs from) next e in
    none_between fs from m.0 m.1 k (omega (arith, l)) (omega (arith, u, m.2))

-- the next is within
pub next_within : (fs : List Bool) (from next : ℕ) → next_set fs from ≡ Some next → (from ≤ next) × (next < length fs)
next_within [] from next e = absurd (none-some next e)
next_within (true ∷ fs) zero next e = let same : 0 ≡ next = same_Some 0 next e in (omega arith, omega (arith, same))
next_within (false ∷ fs) zero next e =
    let m = shifted_some (first_set fs) next e in
    let w = next_within fs 0 m.0 (next_first fs ∙ m.1) in
    (omega arith, omega (arith, m.2, w.1))
next_within (f ∷ fs) (suc from) next e =
    let m = shifted_some (next_set fs from) next e in
    let w = next_within fs from m.0 m.1 in
    (omega (arith, m.2, w.0), omega (arith, m.2, w.1))
