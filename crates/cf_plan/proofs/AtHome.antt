-- The lane that takes a request, as code tells it: with its type.
use Rattle.std.proofs.Common.{◌≡◌, ℕ, ◌&&◌, Bool, false, List, [], ◌∷◌, Option, Some, None, filter, option_map, refl, ap, sym, ◌∙◌}
use Rattle.std.specs.List.{list_any}
use Rattle.std.specs.Option.{option_copied}
use Rattle.std.specs.Str.{bytes_eq}
use Rattle.cf_effect.specs.declared.call.Call.{Call}
use Rattle.cf_effect.specs.World.{StackState, World}
use Rattle.cf_plan.specs.Follow.{calls_in_flight, is_in_flight, is_lane_leased, is_repeated}
use denote.Ref.{Bor}

-- where a lane is found, it is told by its name
pub lane_named : (o : Option (Bor (List ℕ × List ℕ))) (q : Option (List ℕ × List ℕ)) → option_copied o ≡ q
    → option_map (λ (l : Bor (List ℕ × List ℕ)). l.now.0) o ≡ option_map (λ (m : List ℕ × List ℕ). m.0) q
lane_named None q e = ap (option_map (λ (m : List ℕ × List ℕ). m.0)) e
lane_named (Some l) q e = ap (option_map (λ (m : List ℕ × List ℕ). m.0)) e

-- while nobody's lease is out, no lane is
none_called : (cs : List Call) → filter (λ c. is_in_flight [] c.token) cs ≡ []
none_called [] = refl
none_called (c ∷ cs) = none_called cs

pub no_lane_out : (x : World) (lane : List ℕ) → is_lane_leased [] x lane ≡ false
no_lane_out x lane = by x.stacks
  where
    by : (ss : List (List ℕ × StackState)) → list_any (λ s. list_any (λ c. bytes_eq lane c.lane) (calls_in_flight [] s.1)) ss ≡ false
    by [] = refl
    by (s ∷ ss) = rw (none_called s.1.ledger) (by ss)

pub none_leased : (x : World) (lane : List ℕ) (out : List ℕ) → out ≡ [] → false ≡ is_lane_leased out x lane
none_leased x lane out e = sym (ap (λ ts. is_lane_leased ts x lane) e ∙ no_lane_out x lane)

-- nor is a call, be it a repeat
none_going : (test : Call → Bool) (cs : List Call) → list_any (λ c. is_in_flight [] c.token && test c) cs ≡ false
none_going test [] = refl
none_going test (c ∷ cs) = none_going test cs

none_gone : (cs : List Call) → list_any (λ c. is_in_flight [] c.token) cs ≡ false
none_gone [] = refl
none_gone (c ∷ cs) = none_gone cs

pub no_call_out : (out : List ℕ) (cs : List Call) → out ≡ [] → false ≡ list_any (λ c. is_in_flight out c.token) cs
no_call_out out cs e = sym (ap (λ ts. list_any (λ c. is_in_flight ts c.token) cs) e ∙ none_gone cs)

pub no_repeat_out : (out : List ℕ) (cs : List Call) → out ≡ [] → false ≡ list_any (λ c. is_in_flight out c.token && is_repeated c) cs
no_repeat_out out cs e = sym (ap (λ ts. list_any (λ c. is_in_flight ts c.token && is_repeated c) cs) e ∙ none_going is_repeated cs)
