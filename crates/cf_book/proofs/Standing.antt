-- What a book stands for where one of its lanes comes home.
use Rattle.std.proofs.Common.{◌≡◌, ◌≢◌, ℕ, ◌==◌, Bool, true, false, not, ◌⊎◌, inl, inr, List, [], ◌∷◌, Option, Some, None, map, filter, find, option_map, refl, sym, ◌∙◌, ap, subst, cond, true≢false, arith}
use Rattle.std.specs.Str.{bytes_eq}
use Rattle.std.proofs.lemmas.Bool.{eq-eqb, eqb-true}
use Rattle.cf_tree.specs.Lists.{In}
use Rattle.cf_tree.specs.Named.{all_differ}
use Rattle.cf_handler.specs.Fence.{FencedLane}
use Rattle.cf_lane.specs.Calling.{Granted}
use Rattle.cf_lane.specs.Lanes.{LaneNow}
use Rattle.cf_plan.specs.Lanes.{Lane, lane_at}
use Rattle.cf_plan.specs.Life.{Close, Happens, Lease, Life}
use Rattle.cf_schema.specs.declared.described.Schema.{Schema}
use Rattle.cf_tree.specs.Lists.In.{here}
use Rattle.cf_plan.proofs.Causing.{map_in}
use Rattle.cf_plan.proofs.CreatedRight.{in_filter}
use Rattle.cf_plan.proofs.CreatedStays.{found_one}
use Rattle.cf_plan.proofs.Differ.{one_id, one_number}
use Rattle.cf_plan.proofs.Listed.{bytes_same, in_map, same_bytes}
use Rattle.cf_plan.proofs.Members.{false_from}
use Rattle.cf_plan.proofs.RunLists.{in_kept, is_found_in}
use Rattle.cf_book.specs.Inside.{name_of}
use Rattle.cf_book.specs.Lives.{AreLanesOf, AreLeasesOf, StandsFor, lease_for, lease_of, told_lane}
use Rattle.cf_book.specs.State.{BookLane, BookNow, IsOut, NoneOut, at_home, come_home, lent_for, with_lane}
use Rattle.cf_book.proofs.Moves.{IsMovedTo}

-- a lane of those in which one came home: that one, or another one that was there
pub data OfHome (lane : LaneNow) (lanes : List BookLane) (b : BookLane) : Type 0 where
  it : b ≡ at_home lane → OfHome lane lanes b
  other : In b lanes → bytes_eq lane.name b.lane.name ≡ false → OfHome lane lanes b

pub of_home : (lane : LaneNow) (lanes : List BookLane) (b : BookLane) → In b (come_home lane lanes) → OfHome lane lanes b
of_home lane lanes b i =
    let (a, j, e) = map_in (with_lane lane.name (at_home lane)) b lanes i in
    by a j e (bytes_eq lane.name a.lane.name) refl
  where
    by : (a : BookLane) → In a lanes → with_lane lane.name (at_home lane) a ≡ b → (t : Bool) → bytes_eq lane.name a.lane.name ≡ t → OfHome lane lanes b
    by a j e true t = it (sym e ∙ ap (λ s. cond s (at_home lane) a) t)
    by a j e false t =
        let same : a ≡ b = sym (ap (λ s. cond s (at_home lane) a) t) ∙ e in
        other (subst (λ (z : BookLane). In z lanes) same j) (subst (λ (z : BookLane). bytes_eq lane.name z.lane.name ≡ false) same t)

-- another lane stays
pub stays_home : (lane : LaneNow) (lanes : List BookLane) (b : BookLane) → In b lanes → bytes_eq lane.name b.lane.name ≡ false → In b (come_home lane lanes)
stays_home lane lanes b i n =
    subst (λ (z : BookLane). In z (come_home lane lanes)) (ap (λ s. cond s (at_home lane) b) n) (in_map (with_lane lane.name (at_home lane)) b lanes i)

-- The lane that was lent for a call comes home.
module _ (lanes : List BookLane) (was lane : LaneNow) (call : Granted) (out : IsOut lanes was call) (differ : all_differ bytes_eq (map name_of lanes) ≡ true)
    (named : lane.name ≡ was.name) (typed : lane.schema ≡ was.schema) where
  -- the lane of its name is the one that was lent
  is_lent : (b : BookLane) → In b lanes → bytes_eq lane.name b.lane.name ≡ true → b ≡ lent_for call was
  is_lent b i t = one_id name_of lanes differ b (lent_for call was) i out (sym (bytes_same lane.name b.lane.name t) ∙ named)

  -- the lanes of the life are as the book's tell
  pub lanes_home : (before after : List Lane) (l : Lane) (state : FencedLane) → AreLanesOf lanes before → told_lane (lent_for call was) ≡ Some l
      → lane.told ≡ Some state → IsMovedTo before after was.name l state → AreLanesOf (come_home lane lanes) after
  lanes_home before after l state h mine told moved b i = by (of_home lane lanes b i) where
    now : Lane
    now = record { name = lane.name; kind = lane.schema.kind; state = state }

    tells_so : told_lane (at_home lane) ≡ Some now
    tells_so = ap (option_map (λ (s : FencedLane). record { name = lane.name; kind = lane.schema.kind; state = s })) told

    -- the lane as it told when it was lent has its name and type
    as_lent : (o : Option FencedLane) → option_map (λ (s : FencedLane). record { name = was.name; kind = was.schema.kind; state = s }) o ≡ Some l
        → record l { state = state } ≡ now
    as_lent None e = absurd (cc)
    as_lent (Some s) e = grind (arith, e, named, typed)

    by : OfHome lane lanes b → (l' : Lane) × (told_lane b ≡ Some l') × (lane_at l'.name after ≡ Some l')
    by (it e) = (
      now,
      ap told_lane e ∙ tells_so,
      ap (λ n. lane_at n after) named ∙ moved.itself ∙ ap Some (as_lent was.told mine),
    )
    by (other j n) =
        let (l', t, at) = h b j in
        let its : l'.name ≡ b.lane.name = name_told b l' t in
        (l', t, moved.others l'.name (apart l'.name its n) ∙ at)
      where
        name_told : (b : BookLane) (l' : Lane) → told_lane b ≡ Some l' → l'.name ≡ b.lane.name
        name_told b l' t = by_told b.lane.told t where
          by_told : (o : Option FencedLane) → option_map (λ (s : FencedLane). record { name = b.lane.name; kind = b.lane.schema.kind; state = s }) o ≡ Some l'
              → l'.name ≡ b.lane.name
          by_told None e = absurd (cc)
          by_told (Some s) e = cc

        apart : (m : List ℕ) → m ≡ b.lane.name → bytes_eq lane.name b.lane.name ≡ false → bytes_eq m was.name ≡ false
        apart m e f = false_from (bytes_eq m was.name) (λ t.
            true≢false (sym (subst (λ k. bytes_eq lane.name k ≡ true) (named ∙ sym (bytes_same m was.name t) ∙ e) (same_bytes lane.name)) ∙ f))

  -- the calls that are out are the others
  pub leases_home : (leases : List Lease) → AreLeasesOf lanes leases → all_differ ◌==◌ (map (λ (l : Lease). l.token) leases) ≡ true
      → AreLeasesOf (come_home lane lanes) (filter (λ (l : Lease). not (call.token == l.token)) leases)
  leases_home leases h once = record {
    each = λ l i.
        let (j, t) = in_filter (λ (m : Lease). not (call.token == m.token)) leases l i in
        let (b, k, e) = h.each l j in (
          b,
          stays_home lane lanes b k (false_from (bytes_eq lane.name b.lane.name) (λ s.
              let mine : Some (lease_for (lent_for call was) call) ≡ Some l = ap lease_of (sym (is_lent b k s)) ∙ e in
              let same : call.token ≡ l.token = cc mine in
              taken l same t)),
          e,
        );
    all = λ b l i e. by b l e (of_home lane lanes b i);
  }
    where
      taken : (l : Lease) → call.token ≡ l.token → not (call.token == l.token) ≡ true → ⊥
      taken l same t = true≢false (sym t ∙ ap not (eq-eqb call.token l.token same))

      mine : Lease
      mine = lease_for (lent_for call was) call

      by : (b : BookLane) (l : Lease) → lease_of b ≡ Some l → OfHome lane lanes b → In l (filter (λ (m : Lease). not (call.token == m.token)) leases)
      by b l e (it s) = let no : None ≡ Some l = ap lease_of (sym s) ∙ e in absurd (cc)
      by b l e (other j n) =
          let i = h.all b l j e in
          in_kept (λ (m : Lease). not (call.token == m.token)) leases l i (apart_token b l e j n i)
        where
          lane_leased : (b : BookLane) (l : Lease) → lease_of b ≡ Some l → l.lane ≡ b.lane.name
          lane_leased b l e = by_out b.out e where
            by_out : (o : Option Granted) → option_map (lease_for b) o ≡ Some l → l.lane ≡ b.lane.name
            by_out None e = absurd (cc)
            by_out (Some c) e = cc

          apart_token : (b : BookLane) (l : Lease) → lease_of b ≡ Some l → In b lanes → bytes_eq lane.name b.lane.name ≡ false → In l leases
              → not (call.token == l.token) ≡ true
          apart_token b l e j n i = ap not (false_from (call.token == l.token) (λ t.
              let same : mine ≡ l = one_number (λ (m : Lease). m.token) leases once mine l (h.all (lent_for call was) mine out refl) i (eqb-true call.token l.token t) in
              let its : l.lane ≡ b.lane.name = lane_leased b l e in
              let at_it : lane.name ≡ b.lane.name = named ∙ ap (λ (m : Lease). m.lane) same ∙ its in
              true≢false (sym (subst (λ k. bytes_eq lane.name k ≡ true) at_it (same_bytes lane.name)) ∙ n)))

  -- the lease of the call stands among those of the life
  pub lease_stands : (leases : List Lease) → AreLeasesOf lanes leases → all_differ ◌==◌ (map (λ (l : Lease). l.token) leases) ≡ true
      → find (λ (l : Lease). call.token == l.token) leases ≡ Some (lease_for (lent_for call was) call)
  lease_stands leases h once =
      let mine : Lease = lease_for (lent_for call was) call in
      let i = h.all (lent_for call was) mine out refl in
      let (l, e) = is_found_in (λ (m : Lease). call.token == m.token) leases mine i (eq-eqb call.token call.token refl) in
      let (j, t) = found_one (λ (m : Lease). call.token == m.token) leases l e in
      e ∙ ap Some (one_number (λ (m : Lease). m.token) leases once l mine j i (sym (eqb-true call.token l.token t)))

-- where no lane is out, no lease is
pub none_leased : (lanes : List BookLane) (leases : List Lease) → NoneOut lanes → AreLeasesOf lanes leases → leases ≡ []
none_leased lanes [] none h = refl
none_leased lanes (l ∷ ls) none h =
    let (b, i, e) = h.each l here in
    let no : None ≡ Some l = ap (option_map (lease_for b)) (sym (none b i)) ∙ e in
    absurd (cc)

-- so the book may be closed
pub may_close : {D : Type 0} (b : BookNow D) (schemas : List Schema) (life : Life) → NoneOut b.lanes → StandsFor b life → Happens schemas life Close
may_close b schemas life none stands = (stands.opened, none_leased b.lanes life.leases none stands.leases)
