-- The first call that is found while a forward phase goes on, in the order of names.
use Rattle.std.proofs.Common.{◌≡◌, ℕ, ◌+◌, ◌<◌, inl, inr, arith, Bool, List, Some, None, get_or, length, ap, sym, ◌∙◌}
use Rattle.std.specs.Prelude.{option_and_then}
use Rattle.std.proofs.lemmas.Bool.{cases_lt}
use Rattle.std.proofs.lemmas.Option.{slice_get-get_or}
use Rattle.cf_ready.proofs.Ranked.{same_or_not}
use Rattle.cf_schema.specs.declared.described.Schema.{Schema}
use Rattle.cf_effect.specs.World.{StackState}
use Rattle.cf_plan.specs.Start.{Start}
use Rattle.cf_plan.specs.declared.path_state.PathState.{PathState}
use Rattle.cf_next.specs.Opens.{IsFirstOpen, NoneOpen, fitting_placed, open_ranked}

module _ (homes : List (List ℕ × List ℕ)) (schemas : List Schema) (s : StackState) (states : List PathState) (done : List Bool) (names : List (List ℕ × ℕ)) where
  pub none_yet : NoneOpen homes schemas s states done names 0
  none_yet j less = absurd (omega (arith, less))

  module _ (rank : ℕ) (named : List ℕ × ℕ) (within : rank < length names) (is : named ≡ get_or names rank named)
      (before : NoneOpen homes schemas s states done names rank) where
    found_here : open_ranked homes schemas s states done names rank ≡ fitting_placed homes schemas s states done named.1
    found_here =
        ap (option_and_then (λ (n : List ℕ × ℕ). fitting_placed homes schemas s states done n.1)) (slice_get-get_or names rank named within)
        ∙ ap (λ (n : List ℕ × ℕ). fitting_placed homes schemas s states done n.1) (sym is)

    pub none_more : fitting_placed homes schemas s states done named.1 ≡ None → NoneOpen homes schemas s states done names (rank + 1)
    none_more none j less = elim (same_or_not j rank) [
      | inl same ↦ ap (open_ranked homes schemas s states done names) same ∙ found_here ∙ none
      | inr apart ↦ before j (elim (cases_lt j rank) [ inl under ↦ under | inr over ↦ absurd (apart (omega (arith, less, over))) ])
    ]

    pub found_first : (a : Start) → fitting_placed homes schemas s states done named.1 ≡ Some a → IsFirstOpen homes schemas s states done names a
    found_first a found = record { rank = rank; found = found_here ∙ found; first = before }
