-- The handlers of lanes that are given back.
use Rattle.std.proofs.Common.{◌≡◌, List, [], ◌∷◌, ◌++◌, None, map, refl, sym, ◌∙◌, ap, subst, append_assoc}
use Rattle.std.proofs.lemmas.List.{map-append, append-nil}
use Rattle.cf_tree.specs.Lists.In.{here, there}
use Rattle.cf_handler.specs.declared.handler.Handler.{Ghosts}
use Rattle.cf_lane.specs.Lanes.{LaneNow, lane_with}
use Rattle.cf_book.specs.Inside.{place_now, places_now}
use Rattle.cf_book.specs.State.{BookLane, NoneOut}
use Rattle.cf_book.specs.declared.place.Place.{Place}

module _ {H : Type 0} (g : Ghosts H) where
  abbrev pub bare : BookLane → LaneNow
  bare b = record b.lane { log = [] }

  abbrev pub given : List H → List LaneNow
  given hs = map (λ h. lane_with g h []) hs

  -- one more is given back
  pub one_given : (hs : List H) (h : H) (p : Place H) (ps : List (Place H)) (all : List LaneNow) → given hs ++ map bare (places_now g (p ∷ ps)) ≡ all
      → lane_with g h [] ≡ bare (place_now g p) → given (hs ++ h ∷ []) ++ map bare (places_now g ps) ≡ all
  one_given hs h p ps all so is =
      ap (λ xs. xs ++ map bare (places_now g ps)) (map-append (λ (z : H). lane_with g z []) hs (h ∷ []))
      ∙ append_assoc (given hs) (lane_with g h [] ∷ []) (map bare (places_now g ps))
      ∙ ap (λ (x : LaneNow). given hs ++ x ∷ map bare (places_now g ps)) is ∙ so

  -- all are given back
  pub all_given : (hs : List H) (ps : List (Place H)) (all : List LaneNow) → given hs ++ map bare (places_now g ps) ≡ all → ps ≡ [] → given hs ≡ all
  all_given hs ps all so none =
      sym (append-nil (given hs)) ∙ ap (λ (qs : List (Place H)). given hs ++ map bare (places_now g qs)) (sym none) ∙ so

  -- the first of them is at home, and so are the others
  pub first_home : (p : Place H) (ps : List (Place H)) → NoneOut (places_now g (p ∷ ps)) → (place_now g p).out ≡ None
  first_home p ps h = h (place_now g p) here

  pub rest_home : (p : Place H) (ps : List (Place H)) → NoneOut (places_now g (p ∷ ps)) → NoneOut (places_now g ps)
  rest_home p ps h b i = h b (there i)
