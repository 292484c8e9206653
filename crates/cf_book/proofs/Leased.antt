-- The calls that are out, as the lanes tell them and as a life lists them, are the same.
use Rattle.std.proofs.Common.{◌≡◌, ℕ, ◌==◌, Bool, true, false, List, [], ◌∷◌, inl, inr, Option, Some, None, map, filter_map, option_map, refl, sym, ◌∙◌, ap, subst, true≢false}
use Rattle.std.specs.List.{cons_option, list_any}
use Rattle.std.proofs.lemmas.Bool.{eq-eqb, eqb-true}
use Rattle.cf_tree.specs.Lists.{In}
use Rattle.cf_tree.specs.Lists.In.{here, there}
use Rattle.cf_next.specs.Chosen.{leases_of}
use Rattle.cf_next.specs.declared.home.Home.{Home}
use Rattle.cf_plan.proofs.Causing.{map_in}
use Rattle.cf_plan.proofs.InFlight.{SameOut}
use Rattle.cf_plan.proofs.Listed.{in_cons, in_map}
use Rattle.cf_plan.proofs.Members.{in_any}
use Rattle.cf_plan.proofs.RunLists.{any_of}
use Rattle.cf_plan.specs.Follow.{is_in_flight}
use Rattle.cf_plan.specs.Life.{Lease}
use Rattle.cf_lane.specs.Calling.{Granted}
use Rattle.cf_book.specs.Lives.{AreLeasesOf, lease_for, lease_of}
use Rattle.cf_book.specs.State.{BookLane, home_of}

abbrev out_of : List BookLane → List ℕ
out_of lanes = leases_of (map home_of lanes)

-- a token that the lanes tell is that of a lane that is out, and the other way round
record IsOutAs (lanes : List BookLane) (t : ℕ) : Type 0 where
  pub lane : BookLane
  pub call : Granted
  pub of_book : In lane lanes
  pub out : lane.out ≡ Some call
  pub token : call.token ≡ t

told_out : (lanes : List BookLane) (t : ℕ) → In t (out_of lanes) → IsOutAs lanes t
told_out [] t i = elim i [ ]
told_out (b ∷ bs) t i = by b.out refl (told_out bs t) i where
  further : IsOutAs bs t → IsOutAs (b ∷ bs) t
  further k = record { lane = k.lane; call = k.call; of_book = there k.of_book; out = k.out; token = k.token }

  by : (o : Option Granted) → b.out ≡ o → (In t (out_of bs) → IsOutAs bs t) → In t (cons_option (option_map (λ (c : Granted). c.token) o) (out_of bs))
      → IsOutAs (b ∷ bs) t
  by None e ih i = further (ih i)
  by (Some c) e ih i = elim (in_cons i) [
    | inl same ↦ record { lane = b; call = c; of_book = here; out = e; token = same }
    | inr j ↦ further (ih j)
  ]

out_told : (lanes : List BookLane) (b : BookLane) (c : Granted) → In b lanes → b.out ≡ Some c → In c.token (out_of lanes)
out_told [] a c i e = elim i [ ]
out_told (b ∷ bs) a c here e = subst (λ (o : Option Granted). In c.token (cons_option (option_map (λ (g : Granted). g.token) o) (out_of bs))) (sym e) here
out_told (a ∷ bs) b c (there i) e = by a.out (out_told bs b c i e) where
  by : (o : Option Granted) → In c.token (out_of bs) → In c.token (cons_option (option_map (λ (g : Granted). g.token) o) (out_of bs))
  by None i = i
  by (Some g) i = there i

-- the call of a lane that is out is in flight
pub flies_out : (lanes : List BookLane) (b : BookLane) (c : Granted) → In b lanes → b.out ≡ Some c → is_in_flight (leases_of (map home_of lanes)) c.token ≡ true
flies_out lanes b c i e = any_of (λ u. c.token == u) (out_of lanes) c.token (out_told lanes b c i e) (eq-eqb c.token c.token refl)

same_truth : (a b : Bool) → (a ≡ true → b ≡ true) → (b ≡ true → a ≡ true) → a ≡ b
same_truth true b f g = sym (f refl)
same_truth false true f g = g refl
same_truth false false f g = refl

pub same_out : (lanes : List BookLane) (leases : List Lease) → AreLeasesOf lanes leases → SameOut (out_of lanes) (map (λ (l : Lease). l.token) leases)
same_out lanes leases h t =
    let tokens : List ℕ = map (λ (l : Lease). l.token) leases in
    same_truth (is_in_flight (out_of lanes) t) (is_in_flight tokens t)
    (λ e.
    let (u, i, k) = in_any (λ u. t == u) (out_of lanes) e in
    let o = told_out lanes u i in
    let mine : lease_of o.lane ≡ Some (lease_for o.lane o.call) = ap (option_map (lease_for o.lane)) o.out in
    any_of (λ u. t == u) tokens o.call.token (in_map (λ (l : Lease). l.token) (lease_for o.lane o.call) leases (h.all o.lane (lease_for o.lane o.call) o.of_book mine))
    (eq-eqb t o.call.token (eqb-true t u k ∙ sym o.token)))
    (λ e.
    let (u, i, k) = in_any (λ u. t == u) tokens e in
    let (l, j, same) = map_in (λ (l : Lease). l.token) u leases i in
    let (b, m, is) = h.each l j in
    by u k l same b m b.out refl is)
  where
    by : (u : ℕ) → (t == u) ≡ true → (l : Lease) → l.token ≡ u → (b : BookLane) → In b lanes → (o : Option Granted) → b.out ≡ o → lease_of b ≡ Some l
        → is_in_flight (out_of lanes) t ≡ true
    by u k l same b m None e is = let no : None ≡ Some l = ap (option_map (lease_for b)) (sym e) ∙ is in absurd (cc)
    by u k l same b m (Some c) e is =
        let its : Some (lease_for b c) ≡ Some l = ap (option_map (lease_for b)) (sym e) ∙ is in
        let token : c.token ≡ l.token = cc its in
        any_of (λ u. t == u) (out_of lanes) c.token (out_told lanes b c m e) (eq-eqb t c.token (eqb-true t u k ∙ sym same ∙ sym token))
