-- The first deletion that is found, of those paths that nothing that is left needs.
use Rattle.std.proofs.Common.{◌≡◌, ℕ, zero, suc, ◌+◌, ◌<◌, inl, inr, Bool, true, false, List, [], ◌∷◌, Option, Some, None, get_or, sym, ◌∙◌, ap, arith, true≢false}
use Rattle.std.proofs.lemmas.Bool.{cases_lt}
use Rattle.std.proofs.lemmas.Option.{none-some, same_Some}
use Rattle.cf_ready.specs.Halved.{first_set, next_set}
use Rattle.cf_ready.proofs.Flagged.{none_between}
use Rattle.cf_ready.proofs.Halves.{next_first, shifted_some}
use Rattle.cf_ready.proofs.Ranked.{same_or_not}
use Rattle.cf_effect.specs.declared.undoing.Undoing.{Undoing}
use Rattle.cf_effect.specs.World.{StackState}
use Rattle.cf_plan.specs.Start.{Start}
use Rattle.cf_next.specs.Rollback.{IsFirstFound, NoneBefore, deletion_ranked}

-- the next that is set is set
pub next_is_set : (fs : List Bool) (from next : ℕ) → next_set fs from ≡ Some next → get_or fs next false ≡ true
next_is_set [] from next e = absurd (none-some next e)
next_is_set (true ∷ fs) zero next e = ap (λ n. get_or (true ∷ fs) n false) (sym (same_Some 0 next e))
next_is_set (false ∷ fs) zero next e =
    let m = shifted_some (first_set fs) next e in
    ap (λ n. get_or (false ∷ fs) n false) m.2 ∙ next_is_set fs 0 m.0 (next_first fs ∙ m.1)
next_is_set (f ∷ fs) (suc from) next e =
    let m = shifted_some (next_set fs from) next e in
    ap (λ n. get_or (f ∷ fs) n false) m.2 ∙ next_is_set fs from m.0 m.1

-- what is found at the ranks that have a flag
module _ (flags : List Bool) (found : ℕ → Option Start) where
  abbrev NoneUnder : ℕ → Type 0
  NoneUnder rank = (j : ℕ) → j < rank → get_or flags j false ≡ true → found j ≡ None

  pub none_at_first : NoneUnder 0
  none_at_first j less = absurd (omega (arith, less))

  module _ (from rank : ℕ) (before : NoneUnder from) (next : next_set flags from ≡ Some rank) where
    pub none_up_to : NoneUnder rank
    none_up_to j less set = elim (cases_lt j from) [
      | inl early ↦ before j early set
      | inr over ↦ absurd (true≢false (sym set ∙ none_between flags from rank next j over less))
    ]

    pub none_here : found rank ≡ None → NoneUnder (rank + 1)
    none_here none j less set = elim (same_or_not j rank) [
      | inl same ↦ ap found same ∙ none
      | inr apart ↦ none_up_to j (elim (cases_lt j rank) [ inl under ↦ under | inr over ↦ absurd (apart (omega (arith, less, over))) ]) set
    ]

module _ (homes : List (List ℕ × List ℕ)) (s : StackState) (u : Undoing) where
  pub none_yet : NoneBefore homes s u 0
  none_yet = none_at_first u.readiness.ready (deletion_ranked homes s u)

  module _ (from rank : ℕ) (before : NoneBefore homes s u from) (next : next_set u.readiness.ready from ≡ Some rank) where
    pub none_more : deletion_ranked homes s u rank ≡ None → NoneBefore homes s u (rank + 1)
    none_more = none_here u.readiness.ready (deletion_ranked homes s u) from rank before next

    pub found_first : (a : Start) → deletion_ranked homes s u rank ≡ Some a → IsFirstFound homes s u a
    found_first a found = record {
      rank = rank;
      ready = next_is_set u.readiness.ready from rank next;
      found = found;
      first = none_up_to u.readiness.ready (deletion_ranked homes s u) from rank before next;
    }
