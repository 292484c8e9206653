-- The first of the paths that are ready is the first create.
use Rattle.std.proofs.Common.{◌≡◌, ℕ, zero, suc, ◌+◌, ◌<◌, ◌≤◌, ◌&&◌, not, inl, inr, Bool, true, false, List, [], ◌∷◌, Option, Some, None, cond, find, fold, get_or, length, map, refl, sym, ◌∙◌, ap, arith, subst, true≢false}
use Rattle.std.specs.Prelude.{option_and_then}
use Rattle.std.specs.List.{slice_get}
use Rattle.std.specs.Option.{option_map}
use Rattle.std.proofs.lemmas.Bool.{cases_lt}
use Rattle.std.proofs.lemmas.Option.{none-some, slice_get-map}
use Rattle.cf_ready.specs.Halved.{next_set}
use Rattle.cf_ready.proofs.Flagged.{next_within, none_between, none_set}
use Rattle.cf_ready.proofs.Halves.{next_past}
use Rattle.cf_ready.proofs.Ranked.{same_or_not}
use Rattle.cf_effect.specs.declared.ahead.Ahead.{Ahead}
use Rattle.cf_effect.specs.declared.findings.Findings.{Findings}
use Rattle.cf_effect.specs.declared.layout.Placed.{Placed}
use Rattle.cf_effect.specs.Ahead.{IsAhead}
use Rattle.cf_effect.specs.World.{StackState}
use Rattle.cf_plan.specs.Follow.{is_free}
use Rattle.cf_plan.specs.Start.{Start}
use Rattle.cf_next.specs.Creation.{are_made, create_at, creates_of, first_named, fitting_at, fitting_ranked, is_made_at, known_at, or_fitting}
use Rattle.cf_next.specs.First.{fits_one}

module _ (homes : List (List ℕ × List ℕ)) (s : StackState) (f : Findings) (k : Ahead) (ahead : IsAhead s f.made.items f.found.items k) where
  abbrev fitting : ℕ → Option Start
  fitting rank = fitting_ranked homes s k.layout f rank

  -- a path that isn't ready has no create
  not_ready : (rank : ℕ) → get_or k.readiness.ready rank false ≡ false → fitting rank ≡ None
  not_ready rank off = by (slice_get k.layout.places rank) refl where
    idle : (made met free : Bool) → (met && not made) ≡ false → (not made && (met && free)) ≡ false
    idle true met free e = refl
    idle false true free e = absurd (true≢false e)
    idle false false free e = refl

    at_row : (p : List ℕ × ℕ) → slice_get k.layout.places rank ≡ Some p → (o : Option Placed) → slice_get k.layout.rows.items p.1 ≡ o
        → option_and_then (λ row. find (fits_one homes) (creates_of s f p.1 row)) o ≡ None
    at_row p e None g = refl
    at_row p e (Some row) g =
        let named : slice_get (map (λ (q : List ℕ × ℕ). q.1) k.layout.places) rank ≡ Some p.1 =
        slice_get-map (λ (q : List ℕ × ℕ). q.1) k.layout.places rank ∙ ap (option_map (λ (q : List ℕ × ℕ). q.1)) e in
        let ranked = ahead.ready.shaped.ranks.by_place p.1 rank named in
        let waits : (are_made f row.needs.items && not (is_made_at f p.1)) ≡ false = sym ((ahead.ready.flags p.1 row g).ready rank ranked) ∙ off in
        ap (λ b. find (fits_one homes) (cond b (create_at row.path row.kind (known_at f p.1)) []))
        (idle (is_made_at f p.1) (are_made f row.needs.items) (is_free row.path s) waits)

    by : (o : Option (List ℕ × ℕ)) → slice_get k.layout.places rank ≡ o → option_and_then (λ p. fitting_at homes s k.layout f p.1) o ≡ None
    by None e = refl
    by (Some p) e = at_row p e (slice_get k.layout.rows.items p.1) refl

  abbrev walk : Option Start → List (List ℕ × ℕ) → Option Start
  walk first names = fold (λ first named. or_fitting homes s k.layout f first named.1) first names

  stays : (names : List (List ℕ × ℕ)) (a : Start) → walk (Some a) names ≡ Some a
  stays [] a = refl
  stays (p ∷ ps) a = stays ps a

  abbrev fits_in : List (List ℕ × ℕ) → ℕ → Option Start
  fits_in names rank = option_and_then (λ p. fitting_at homes s k.layout f p.1) (slice_get names rank)

  none_walked : (names : List (List ℕ × ℕ)) → ((rank : ℕ) → fits_in names rank ≡ None) → walk None names ≡ None
  none_walked [] h = refl
  none_walked (p ∷ ps) h = ap (λ o. walk o ps) (h 0) ∙ none_walked ps (λ rank. h (suc rank))

  one_walked : (names : List (List ℕ × ℕ)) (rank : ℕ) (a : Start) → fits_in names rank ≡ Some a → ((j : ℕ) → j < rank → fits_in names j ≡ None) → walk None names ≡ Some a
  one_walked [] rank a e h = absurd (none-some a e)
  one_walked (p ∷ ps) zero a e h = ap (λ o. walk o ps) e ∙ stays ps a
  one_walked (p ∷ ps) (suc rank) a e h =
      ap (λ o. walk o ps) (h 0 (omega arith)) ∙ one_walked ps rank a e (λ j less. h (suc j) (omega (arith, less)))

  -- by what is found so far
  module _ (from : ℕ) (before : (rank : ℕ) → rank < from → fitting rank ≡ None) where
    pub named_none : next_set k.readiness.ready from ≡ None → first_named homes s k.layout f k.layout.places ≡ None
    named_none e = none_walked k.layout.places (λ rank. elim (cases_lt rank from) [
      | inl less ↦ before rank less
      | inr over ↦ not_ready rank (none_set k.readiness.ready from e rank over)
    ])

    pub named_past : length k.readiness.ready ≤ from → first_named homes s k.layout f k.layout.places ≡ None
    named_past l = named_none (next_past k.readiness.ready from l)

    skipped : (next : ℕ) → next_set k.readiness.ready from ≡ Some next → (rank : ℕ) → rank < next → fitting rank ≡ None
    skipped next e rank less = elim (cases_lt rank from) [
      | inl early ↦ before rank early
      | inr over ↦ not_ready rank (none_between k.readiness.ready from next e rank over less)
    ]

    pub named_first : (next : ℕ) (a : Start) → next_set k.readiness.ready from ≡ Some next → fitting next ≡ Some a → first_named homes s k.layout f k.layout.places ≡ Some a
    named_first next a e g = one_walked k.layout.places next a g (skipped next e)

    pub named_later : (next : ℕ) → next_set k.readiness.ready from ≡ Some next → fitting next ≡ None → (rank : ℕ) → rank < next + 1 → fitting rank ≡ None
    named_later next e g rank less = elim (same_or_not rank next) [
      | inl same ↦ ap fitting same ∙ g
      | inr apart ↦ skipped next e rank (elim (cases_lt rank next) [ inl under ↦ under | inr over ↦ absurd (apart (omega (arith, less, over))) ])
    ]
