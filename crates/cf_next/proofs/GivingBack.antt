-- The call that is found by what is kept of the rollback of an update is the one that comes next.
use Rattle.std.proofs.Common.{◌≡◌, ◌⊎◌, inl, inr, ℕ, ◌+◌, ◌<◌, ◌≤◌, ◌==◌, arith, Bool, true, false, ◌&&◌, ◌||◌, not, List, [], ◌∷◌, Option, Some, None, Result, Ok, Err, IfOk, cond, filter, get_or, map, refl, ap, sym, ◌∙◌, subst}
use Rattle.std.specs.Cmp.{first_so, second_so}
use Rattle.std.specs.List.{list_any, slice_get}
use Rattle.std.specs.Option.{option_and_then}
use Rattle.std.specs.Str.{bytes_eq}
use Rattle.std.proofs.lemmas.Bool.{and_from, cases_lt}
use Rattle.std.proofs.lemmas.Option.{none-some, same_Some}
use Rattle.cf_tree.specs.Keys.{bytes_lt}
use Rattle.cf_tree.specs.Lists.{In, is_among}
use Rattle.cf_tree.specs.declared.request.Request.{Request}
use Rattle.cf_tree.specs.declared.request.Request.TheVariants as request
use Rattle.cf_ready.proofs.Ranked.{same_or_not}
use Rattle.cf_schema.specs.declared.described.Schema.{Schema}
use Rattle.cf_entry.proofs.Codec.{some_is}
use Rattle.cf_effect.specs.declared.call.Call.{Call}
use Rattle.cf_effect.specs.declared.held.Held.{Held}
use Rattle.cf_effect.specs.declared.restoring.Restoring.{Restoring}
use Rattle.cf_effect.specs.Calls.{own_calls, succeeded, was_restored, was_updated}
use Rattle.cf_effect.specs.Operation.{was_skipped}
use Rattle.cf_effect.specs.Restoring.{IsRestoring, awaits_restore, held_ranked, is_change, is_return, is_updated_by, path_of}
use Rattle.cf_effect.specs.Status.{Back, goes_back, goes_forward, stage_of}
use Rattle.cf_effect.specs.Words.{is_update, updates}
use Rattle.cf_effect.specs.World.{StackState, World}
use Rattle.cf_effect.proofs.GivenBack.{mapped_at, named, place_at, ranked}
use Rattle.cf_effect.proofs.Sorted.{name_there}
use Rattle.cf_plan.specs.Follow.{has_restore, is_free, waits_for_repeats}
use Rattle.cf_plan.specs.Start.{Start}
use Rattle.cf_plan.proofs.Causing.{map_in}
use Rattle.cf_plan.proofs.CreatedRight.{in_filter}
use Rattle.cf_plan.proofs.Listed.{bytes_same, in_map, in_none}
use Rattle.cf_plan.proofs.Members.{false_from, not_both}
use Rattle.cf_plan.proofs.Orders.{lower, not_below_itself}
use Rattle.cf_plan.proofs.RunLists.{in_kept}
use Rattle.cf_plan.proofs.StatesDone.{at_in, in_place}
use Rattle.cf_plan.proofs.Told.{any_filtered}
use Rattle.cf_next.specs.declared.offer.Offer.{Offer}
use Rattle.cf_next.specs.declared.step.Next.{Next}
use Rattle.cf_next.specs.Chosen.{IsChosen, precedes}
use Rattle.cf_next.specs.First.{call_in, fits_one, homes_now, is_start_before}
use Rattle.cf_next.specs.Offer.{IsOffer}
use Rattle.cf_next.specs.Restores.{IsFirstRestore, restore_fitting, restore_ranked}
use Rattle.cf_next.specs.Restoring.{is_restored, may_restore, restore_of, restores, restores_out, turn_restored}
use Rattle.cf_next.specs.Rollback.{IsTaken}
use Rattle.cf_next.proofs.FirstBegun.{new_chosen}
use Rattle.cf_next.proofs.Restored.{restoring}
use Rattle.cf_next.proofs.RollingBack.{lower_or_same, none_to_repeat, not_before_itself, rising}

-- what is kept says what may be given back
updated_so : (id : List ℕ) (cs : List Call) → list_any (λ c. goes_forward c.status && (updates id c.request && succeeded c)) cs ≡ is_updated_by is_change cs id
updated_so id [] = refl
updated_so id (c ∷ cs) = λ i. by (goes_forward c.status) (updates id c.request) (succeeded c) i || updated_so id cs i where
  by : (a u b : Bool) → (a && (u && b)) ≡ ((a && b) && u)
  by true true true = refl
  by true true false = refl
  by true false true = refl
  by true false false = refl
  by false u b = refl

is_one : (id : List ℕ) (r : Request) → updates id r ≡ (is_update r && updates id r)
is_one id (request.Create kind props) = refl
is_one id (request.Update other props) = refl
is_one id (request.Delete other) = refl

abbrev returns_by : ℕ → List ℕ → Call → Bool
returns_by n id c = c.number == n && ((goes_back c.status && is_update c.request) && updates id c.request)

returned_so : (n : ℕ) (id : List ℕ) (cs : List Call)
    → is_updated_by (is_return n) cs id ≡ (list_any (λ c. goes_back c.status && (updates id c.request && succeeded c)) cs || list_any (returns_by n id) cs)
returned_so n id [] = refl
returned_so n id (c ∷ cs) =
    (λ i. (one (goes_back c.status) (succeeded c) (c.number == n) (updates id c.request)
    ∙ ap (λ z. (goes_back c.status && (updates id c.request && succeeded c)) || ((c.number == n) && z))
    (both (goes_back c.status) (is_update c.request) (updates id c.request) (is_one id c.request))) i || returned_so n id cs i)
    ∙ apart (goes_back c.status && (updates id c.request && succeeded c)) (returns_by n id c)
    (list_any (λ c. goes_back c.status && (updates id c.request && succeeded c)) cs) (list_any (returns_by n id) cs)
  where
    one : (a b o u : Bool) → ((a && (b || o)) && u) ≡ ((a && (u && b)) || (o && (a && u)))
    one false b true u = refl
    one false b false u = refl
    one true true o true = refl
    one true true true false = refl
    one true true false false = refl
    one true false true true = refl
    one true false true false = refl
    one true false false true = refl
    one true false false false = refl

    both : (a d u : Bool) → u ≡ (d && u) → (a && u) ≡ ((a && d) && u)
    both true d u e = e
    both false d u e = refl

    apart : (p q x y : Bool) → ((p || q) || (x || y)) ≡ ((p || x) || (q || y))
    apart true q x y = refl
    apart false true true y = refl
    apart false true false y = refl
    apart false false x y = refl

has_restore_so : (s : StackState) (id : List ℕ) → list_any (returns_by s.operation id) s.ledger ≡ has_restore id s
has_restore_so s id =
    sym (any_filtered (λ (c : Call). goes_back c.status && is_update c.request) (λ c. updates id c.request) (own_calls s)
    ∙ any_filtered (λ (c : Call). c.number == s.operation) (λ c. (goes_back c.status && is_update c.request) && updates id c.request) s.ledger)

module _ (s : StackState) (r : Restoring) (k : IsRestoring s r) where
  unskipped : (path : List ℕ) → was_skipped path s ≡ false
  unskipped path = ap (is_among path) k.gives.skips

  may_so : (h : Held) → may_restore s h ≡ (awaits_restore s h.physical && is_free h.path s)
  may_so h =
      ap (λ b. (was_updated h.physical s && (not (was_restored h.physical s) && not b)) && (not (has_restore h.physical s) && is_free h.path s)) (unskipped h.path)
      ∙ by (was_updated h.physical s) (was_restored h.physical s) (has_restore h.physical s) (is_free h.path s)
      ∙ sym (ap (λ b. (is_updated_by is_change s.ledger h.physical && not b) && is_free h.path s)
      (returned_so s.operation h.physical s.ledger ∙ ap (λ b. was_restored h.physical s || b) (has_restore_so s h.physical))
      ∙ ap (λ b. (b && not (was_restored h.physical s || has_restore h.physical s)) && is_free h.path s) (sym (updated_so h.physical s.ledger)))
    where
      by : (u w n f : Bool) → ((u && (not w && true)) && (not n && f)) ≡ ((u && not (w || n)) && f)
      by false w n f = refl
      by true true n f = refl
      by true false true f = refl
      by true false false f = refl

  -- each has its rank
  record Ranking (h : Held) : Type 0 where
    pub rank : ℕ
    pub at : ℕ
    pub name : slice_get r.paths rank ≡ Some (h.path, at)
    pub stands : slice_get s.before at ≡ Some h

  ranking : (h : Held) → In h s.before → Ranking h
  ranking h i =
      let w = in_place s.before h i in
      let n = name_there h.path w.0 r.paths (place_at (map path_of s.before) r.paths k.paths h.path w.0 (mapped_at path_of s.before w.0 h w.1)) in
      record { rank = n.0; at = w.0; name = n.1; stands = w.1 }

  held_of : (h : Held) (w : Ranking h) → held_ranked s.before r.paths w.rank ≡ Some h
  held_of h w = ap (option_and_then (λ (p : List ℕ × ℕ). slice_get s.before p.1)) w.name ∙ w.stands

  path_ranked : (rank : ℕ) (p : List ℕ × ℕ) (h : Held) → slice_get r.paths rank ≡ Some p → slice_get s.before p.1 ≡ Some h → p.0 ≡ h.path
  path_ranked rank p h e f =
      same_Some p.0 h.path (same_Some (Some p.0) (Some h.path) (sym (named s r k rank p e) ∙ mapped_at path_of s.before p.1 h f))

  module _ (homes : List (List ℕ × List ℕ)) where
    fits_of : (h : Held) (a : Start) → restore_fitting homes s h ≡ Some a → (is_free h.path s ≡ true) × (fits_one homes (restore_of h) ≡ true) × (restore_of h ≡ a)
    fits_of h a = by (is_free h.path s) (fits_one homes (restore_of h)) refl refl where
      by : (b c : Bool) → is_free h.path s ≡ b → fits_one homes (restore_of h) ≡ c → cond (b && c) (Some (restore_of h)) None ≡ Some a
          → (is_free h.path s ≡ true) × (fits_one homes (restore_of h) ≡ true) × (restore_of h ≡ a)
      by true true f g e = (f, g, some_is (restore_of h) a e)
      by true false f g e = absurd (none-some a e)
      by false c f g e = absurd (none-some a e)

    fitting : (h : Held) → is_free h.path s ≡ true → fits_one homes (restore_of h) ≡ true → restore_fitting homes s h ≡ Some (restore_of h)
    fitting h f g =
        ap (λ b. cond (b && fits_one homes (restore_of h)) (Some (restore_of h)) None) f ∙ ap (λ b. cond b (Some (restore_of h)) None) g

    record Found (rank : ℕ) (a : Start) : Type 0 where
      pub held : Held
      pub at_rank : held_ranked s.before r.paths rank ≡ Some held
      pub free : is_free held.path s ≡ true
      pub fits : fits_one homes (restore_of held) ≡ true
      pub is : restore_of held ≡ a

    found : (rank : ℕ) (a : Start) → restore_ranked homes s r rank ≡ Some a → Found rank a
    found rank a = by (held_ranked s.before r.paths rank) refl where
      by : (o : Option Held) → held_ranked s.before r.paths rank ≡ o → option_and_then (restore_fitting homes s) o ≡ Some a → Found rank a
      by None e t = absurd (none-some a t)
      by (Some h) e t = let f = fits_of h a t in record { held = h; at_rank = e; free = f.0; fits = f.1; is = f.2 }

    module _ (a : Start) (first : IsFirstRestore homes s r a) where
      w : Found first.rank a
      w = found first.rank a first.found

      abbrev h : Held
      h = w.held

      its : (p : List ℕ × ℕ) × (slice_get r.paths first.rank ≡ Some p) × (slice_get s.before p.1 ≡ Some h)
      its = ranked s r k first.rank h w.at_rank

      may : may_restore s h ≡ true
      may = may_so h ∙ and_from (awaits_restore s h.physical) (is_free h.path s) (sym (k.flags first.rank h w.at_rank) ∙ first.awaited) w.free

      begins : In a (restores s s.before)
      begins = subst (λ b. In b (restores s s.before)) w.is
          (in_map restore_of h (filter (may_restore s) s.before) (in_kept (may_restore s) s.before h (at_in s.before its.0.1 h its.2) may))

      -- nothing that may begin comes before
      module _ (g : Held) (i : In g s.before) (may_begin : may_restore s g ≡ true) (fits : fits_one homes (restore_of g) ≡ true) where
        q : Ranking g
        q = ranking g i

        so : (awaits_restore s g.physical && is_free g.path s) ≡ true
        so = sym (may_so g) ∙ may_begin

        set : get_or r.awaited q.rank false ≡ true
        set = k.flags q.rank g (held_of g q) ∙ first_so (awaits_restore s g.physical) (is_free g.path s) so

        there_is : restore_ranked homes s r q.rank ≡ Some (restore_of g)
        there_is = ap (option_and_then (restore_fitting homes s)) (held_of g q) ∙ fitting g (second_so (awaits_restore s g.physical) (is_free g.path s) so) fits

        before : precedes (g.path, g.physical) (h.path, h.physical) ≡ true → (q.rank < first.rank) ⊎ (first.rank ≤ q.rank) → ⊥
        before t (inl less) = none-some (restore_of g) (sym (first.first q.rank less set) ∙ there_is)
        before t (inr over) = elim (same_or_not q.rank first.rank) [
          | inl same ↦ itself (same_Some g h (sym (held_of g q) ∙ ap (held_ranked s.before r.paths) same ∙ w.at_rank))
          | inr other ↦ later (omega (arith, over, other))
        ] where
          itself : g ≡ h → ⊥
          itself same =
              not_both (precedes (h.path, h.physical) (h.path, h.physical)) (subst (λ (x : Held). precedes (x.path, x.physical) (h.path, h.physical) ≡ true) same t)
              (not_before_itself h.path h.physical)

          later : first.rank < q.rank → ⊥
          later more =
              let low : bytes_lt h.path g.path ≡ true =
              subst (λ n. bytes_lt n g.path ≡ true) (path_ranked first.rank its.0 h its.1 its.2)
              (rising r.paths k.order first.rank q.rank its.0 (g.path, q.at) more its.1 q.name) in
              lower_or_same (bytes_lt g.path h.path) (bytes_eq g.path h.path) (bytes_lt g.physical h.physical) t
              (λ e. not_both (bytes_lt h.path h.path) (lower h.path g.path h.path low e) (not_below_itself h.path))
              (λ e. not_both (bytes_lt h.path h.path) (subst (λ n. bytes_lt h.path n ≡ true) (bytes_same g.path h.path e) low) (not_below_itself h.path))

        not_before : precedes (g.path, g.physical) (h.path, h.physical) ≡ false
        not_before = false_from (precedes (g.path, g.physical) (h.path, h.physical)) (λ t. before t (cases_lt q.rank first.rank))

      least : (b : Start) → In b (restores s s.before) → fits_one homes b ≡ true → is_start_before b a ≡ false
      least b i fits =
          let (g, at, same) = map_in restore_of b (filter (may_restore s) s.before) i in
          let (held, t) = in_filter (may_restore s) s.before g at in
          subst (λ (c : Start). is_start_before b c ≡ false) w.is
          (subst (λ (c : Start). is_start_before c (restore_of h) ≡ false) same
          (not_before g held t (ap (fits_one homes) same ∙ fits)))

-- so it is chosen
module _ (out : List ℕ) (x : World) (s : StackState) (r : Restoring) (k : IsRestoring s r) (idle : waits_for_repeats Back out s ≡ false) where
  offer : Offer
  offer = record { repeats = []; starts = restores_out out s; keepings = []; turn = turn_restored (is_restored s); is_made = false }

  is_offer : (schemas : List Schema) (name : List ℕ) → IsOffer schemas name x out s Back offer
  unfolding offer
  is_offer schemas name =
      restoring schemas name x out s k.gives.back [] (λ p. (λ m. absurd (none_to_repeat out s idle p m.0 m.1), λ i. absurd (in_none i)))

  starts_so : restores_out out s ≡ restores s s.before
  starts_so = ap (λ b. cond b [] (restores s s.before)) idle

  chosen : (a : Start) → IsFirstRestore (homes_now out x) s r a → (schemas : List Schema) (name : List ℕ) (n : Next)
      → call_in (homes_now out x) (x.token + 1) a ≡ Some n → IsChosen schemas name x out s Back n
  unfolding offer
  chosen a first schemas name n c =
      let f = w s r k (homes_now out x) a first in
      new_chosen schemas name x out s Back offer (is_offer schemas name) (λ q i. absurd (in_none i)) (Some a) None (
        subst (λ (bs : List Start). In a bs) (sym starts_so) (begins s r k (homes_now out x) a first),
        subst (λ (b : Start). fits_one (homes_now out x) b ≡ true) f.is f.fits,
        λ b i t. least s r k (homes_now out x) a first b (subst (λ (bs : List Start). In b bs) starts_so i) t,
      )
      (λ j i. absurd (in_none i)) n c

pub restore_taken : {E : Type 0} (out : List ℕ) (x : World) (s : StackState) (r : Restoring) (lanes : List (List ℕ × List ℕ)) (a : Start) (res : Result (Option Next) E)
    → IsRestoring s r → waits_for_repeats Back out s ≡ false → lanes ≡ homes_now out x → IsFirstRestore lanes s r a
    → IfOk res (λ n. n ≡ call_in lanes (x.token + 1) a) → IfOk res (IsTaken out x s)
restore_taken out x s r lanes a (Err e) k idle h first c = tt
restore_taken out x s r lanes a (Ok None) k idle h first c = tt
restore_taken out x s r lanes a (Ok (Some n)) k idle h first c = λ schemas name stage at.
    let back : Back ≡ stage = some_is Back stage (sym (ap stage_of k.gives.back) ∙ at) in
    subst (λ g. IsChosen schemas name x out s g n) back
    (chosen out x s r k idle a (subst (λ hs. IsFirstRestore hs s r a) h first) schemas name n (ap (λ hs. call_in hs (x.token + 1) a) (sym h) ∙ sym c))
