-- The steps that code finds in an offer are just those that may begin, each on its lanes at home.
use Rattle.std.proofs.Common.{◌≡◌, ◌⊎◌, inl, inr, ℕ, ◌+◌, true, false, not, List, [], ap, refl, sym, ◌∙◌, subst}
use Rattle.std.specs.Prelude.{fold}
use Rattle.std.specs.List.{list_any}
use Rattle.std.specs.Cmp.{first_so, second_so}
use Rattle.std.specs.Str.{bytes_eq}
use Rattle.std.proofs.lemmas.Bool.{and_from}
use Rattle.cf_tree.specs.declared.request.Request.{Request}
use Rattle.cf_tree.specs.declared.request.Request.TheVariants as request
use Rattle.cf_schema.specs.declared.described.Schema.{Schema}
use Rattle.cf_entry.specs.declared.turn.Why.{Why}
use Rattle.cf_effect.specs.declared.held.Pending.{Pending}
use Rattle.cf_effect.specs.World.{StackState, World}
use Rattle.cf_effect.specs.Status.{Stage}
use Rattle.cf_tree.specs.Lists.{In}
use Rattle.cf_plan.specs.Follow.{FitsLane, MayIntend, is_lane_of, is_lane_leased}
use Rattle.cf_plan.specs.Homes.{is_of_lane}
use Rattle.cf_plan.proofs.Listed.{bytes_same, same_bytes}
use Rattle.cf_plan.proofs.Members.{any_in, in_any, is_so, not_so}
use Rattle.cf_plan.proofs.OfLane.{of_lane_is}
use Rattle.cf_next.specs.declared.offer.Keeping.{Keeping}
use Rattle.cf_next.specs.declared.offer.Offer.{Offer}
use Rattle.cf_plan.specs.Start.{Start}
use Rattle.cf_next.specs.declared.step.Next.{Next}
use Rattle.cf_next.specs.declared.step.Next.TheVariants as next
use Rattle.cf_next.specs.Offer.{IsOffer, MayBeginAt}
use Rattle.cf_next.specs.Due.{IsCallDueIn, IsDueIn}
use Rattle.cf_next.specs.Joining.{begun_by, fits, is_home_for, with_new_call, with_call_on, with_calls_on, with_keeping, with_repeat, with_offered}
use Rattle.cf_next.proofs.InOrder.{Adds, adds_all, adds_both, adds_due, adds_if}
use Rattle.cf_next.proofs.Same.{itself_call, itself_keep}

-- a step on an open token, and a resource to keep
abbrev pub again : Pending → Next
again p = next.Step p.path p.lane p.token p.request true

abbrev pub keep : Keeping → Next
keep k = next.Keep k.path k.physical k.why

adds_repeats : (ps : List Pending) (ns : List Next) → Adds ns (fold with_repeat ns ps) (λ n. (p : Pending) × In p ps × (n ≡ again p))
adds_repeats = adds_all with_repeat (λ p n. n ≡ again p) (λ ms p. adds_due ms (again p) (itself_call p.path p.lane p.token p.request))

adds_keepings : (ks : List Keeping) (ns : List Next) → Adds ns (fold with_keeping ns ks) (λ n. (k : Keeping) × In k ks × (n ≡ keep k))
adds_keepings = adds_all with_keeping (λ k n. n ≡ keep k) (λ ms k. adds_due ms (keep k) (itself_keep k.path k.physical k.why))

module _ (x : World) (out : List ℕ) where
  -- a lane of the opening that fits and is at home
  abbrev IsHome : List ℕ → Request → Type 0
  IsHome lane r = FitsLane x lane r × (is_lane_leased out x lane ≡ false)

  -- a lane fits where the test of lanes passes
  pub fits_by : (r : Request) (l : List ℕ × List ℕ) → In l x.lanes → fits r l ≡ true → FitsLane x l.0 r
  fits_by (request.Create k props) l i e = any_in (is_lane_of l.0 k) l x.lanes i (and_from (bytes_eq l.0 l.0) (bytes_eq k l.1) (same_bytes l.0) e)
  fits_by (request.Update id props) l i e =
      ((of_lane_is l.0 id).0 e, any_in (λ (m : List ℕ × List ℕ). bytes_eq l.0 m.0) l x.lanes i (same_bytes l.0))
  fits_by (request.Delete id) l i e =
      ((of_lane_is l.0 id).0 e, any_in (λ (m : List ℕ × List ℕ). bytes_eq l.0 m.0) l x.lanes i (same_bytes l.0))

  -- and the test passes at one of its name
  abbrev Passes : List ℕ → Request → Type 0
  Passes lane r = (l : List ℕ × List ℕ) × In l x.lanes × (fits r l ≡ true) × (lane ≡ l.0)

  of_id : (lane id : List ℕ) → is_of_lane lane id ≡ true → list_any (λ m. bytes_eq lane m.0) x.lanes ≡ true
      → (l : List ℕ × List ℕ) × In l x.lanes × (is_of_lane l.0 id ≡ true) × (lane ≡ l.0)
  of_id lane id of among =
      let l = in_any (λ (m : List ℕ × List ℕ). bytes_eq lane m.0) x.lanes among in
      let same : lane ≡ l.0.0 = bytes_same lane l.0.0 l.2 in
      (l.0, l.1, subst (λ (n : List ℕ). is_of_lane n id ≡ true) same of, same)

  pub by_fits : (lane : List ℕ) (r : Request) → FitsLane x lane r → Passes lane r
  by_fits lane (request.Create k props) w =
      let l = in_any (is_lane_of lane k) x.lanes w in
      (l.0, l.1, second_so (bytes_eq lane l.0.0) (bytes_eq k l.0.1) l.2, bytes_same lane l.0.0 (first_so (bytes_eq lane l.0.0) (bytes_eq k l.0.1) l.2))
  by_fits lane (request.Update id props) w = of_id lane id ((of_lane_is lane id).1 w.0) w.1
  by_fits lane (request.Delete id) w = of_id lane id ((of_lane_is lane id).1 w.0) w.1

  -- so with one at home
  pub home_by : (r : Request) (l : List ℕ × List ℕ) → In l x.lanes → is_home_for out x r l ≡ true → IsHome l.0 r
  home_by r l i e =
      (fits_by r l i (first_so (fits r l) (not (is_lane_leased out x l.0)) e), is_so (is_lane_leased out x l.0) (second_so (fits r l) (not (is_lane_leased out x l.0)) e))

  pub by_home : (lane : List ℕ) (r : Request) → IsHome lane r → (l : List ℕ × List ℕ) × In l x.lanes × (is_home_for out x r l ≡ true) × (lane ≡ l.0)
  by_home lane r w =
      let (l, i, passes, same) = by_fits lane r w.0 in (
        l,
        i,
        and_from (fits r l) (not (is_lane_leased out x l.0)) passes
            (not_so (is_lane_leased out x l.0) (subst (λ (n : List ℕ). is_lane_leased out x n ≡ false) same w.1)),
        same,
      )

  -- the new calls at a path that a lane at home can take
  abbrev pub new_call : List ℕ → List ℕ → Request → Next
  new_call path lane r = next.Step path lane (x.token + 1) r false

  abbrev CallOn : List ℕ → Request → List ℕ × List ℕ → Next → Type 0
  CallOn path r l n = (is_home_for out x r l ≡ true) × (n ≡ new_call path l.0 r)

  abbrev CallsOn : List ℕ → Request → Next → Type 0
  CallsOn path r n = (l : List ℕ × List ℕ) × In l x.lanes × CallOn path r l n

  abbrev pub IsCall : List ℕ → Request → Next → Type 0
  IsCall path (request.Create k props) n =
      (list_any (is_home_for out x (request.Create k props)) x.lanes ≡ true) × (n ≡ new_call path [] (request.Create k props))
  IsCall path (request.Update id props) n = CallsOn path (request.Update id props) n
  IsCall path (request.Delete id) n = CallsOn path (request.Delete id) n

  adds_calls_on : (path : List ℕ) (r : Request) (ns : List Next) → Adds ns (with_calls_on out x path r ns) (CallsOn path r)
  adds_calls_on path r = adds_all (with_call_on out x path r) (CallOn path r) one x.lanes
    where
      one : (ms : List Next) (l : List ℕ × List ℕ) → Adds ms (with_call_on out x path r ms l) (CallOn path r l)
      one ms l = adds_if (λ n. n ≡ new_call path l.0 r) (is_home_for out x r l) (adds_due ms (new_call path l.0 r) (itself_call path l.0 (x.token + 1) r))

  adds_call : (path : List ℕ) (r : Request) (ns : List Next) → Adds ns (with_new_call out x path ns r) (IsCall path r)
  adds_call path (request.Create k props) ns =
      adds_if (λ n. n ≡ new_call path [] (request.Create k props)) (list_any (is_home_for out x (request.Create k props)) x.lanes)
      (adds_due ns (new_call path [] (request.Create k props)) (itself_call path [] (x.token + 1) (request.Create k props)))
  adds_call path (request.Update id props) ns = adds_calls_on path (request.Update id props) ns
  adds_call path (request.Delete id) ns = adds_calls_on path (request.Delete id) ns

  abbrev pub IsStart : List Start → Next → Type 0
  IsStart starts n = (a : Start) × In a starts × IsCall a.path a.request n

  adds_starts : (starts : List Start) (ns : List Next) → Adds ns (fold (with_offered out x) ns starts) (IsStart starts)
  adds_starts = adds_all (with_offered out x) (λ a n. IsCall a.path a.request n) (λ ms a. adds_call a.path a.request ms)

  -- all that an offer has but for a phase
  abbrev IsRepeat : Offer → Next → Type 0
  IsRepeat o n = (p : Pending) × In p o.repeats × (n ≡ again p)

  abbrev IsKeeping : Offer → Next → Type 0
  IsKeeping o n = (k : Keeping) × In k o.keepings × (n ≡ keep k)

  abbrev pub IsBegun : Offer → Next → Type 0
  IsBegun o n = (IsRepeat o n ⊎ IsStart o.starts n) ⊎ IsKeeping o n

  pub adds_begun : (o : Offer) → Adds [] (begun_by out x o) (IsBegun o)
  adds_begun o =
      adds_both (λ n. IsRepeat o n ⊎ IsStart o.starts n) (IsKeeping o)
      (adds_both (IsRepeat o) (IsStart o.starts) (adds_repeats o.repeats []) (adds_starts o.starts (fold with_repeat [] o.repeats)))
      (adds_keepings o.keepings (fold (with_offered out x) (fold with_repeat [] o.repeats) o.starts))

  module _ (schemas : List Schema) (name : List ℕ) (s : StackState) (stage : Stage) where
    abbrev pub Due : Next → Type 0
    Due n = IsDueIn schemas name x out s stage n

    abbrev Begins : List ℕ → Request → Type 0
    Begins path r = MayBeginAt schemas name x out s stage path r

    pub intent : (path lane : List ℕ) (r : Request) → Begins path r → IsHome lane r → MayIntend schemas name x out s stage (x.token + 1) lane path r
    intent path lane r w home = record { next = refl; free = w.0; home = home.1; fits = home.0; no_repeat = w.1; chosen = w.2 }

    -- a call that is found is due where it may begin
    on_due : (path : List ℕ) (r : Request) (n : Next) → CallsOn path r n
        → ((lane : List ℕ) → IsHome lane r → Due (new_call path lane r)) → Due n
    on_due path r n (l, i, (home, same)) due = subst Due (sym same) (due l.0 (home_by r l i home))

    call_due : (path : List ℕ) (r : Request) → Begins path r → (n : Next) → IsCall path r n → Due n
    call_due path (request.Create k props) w n (at_home, same) =
        let l = in_any (is_home_for out x (request.Create k props)) x.lanes at_home in
        subst Due (sym same) (refl, l.0.0, intent path l.0.0 (request.Create k props) w (home_by (request.Create k props) l.0 l.1 l.2))
    call_due path (request.Update id props) w n c = on_due path (request.Update id props) n c (λ lane home. intent path lane (request.Update id props) w home)
    call_due path (request.Delete id) w n c = on_due path (request.Delete id) n c (λ lane home. intent path lane (request.Delete id) w home)

    -- a call that is due may begin, and is found
    pub begins : (path lane : List ℕ) (token : ℕ) (r : Request) → MayIntend schemas name x out s stage token lane path r → Begins path r
    begins path lane token r w = (w.free, w.no_repeat, w.chosen)

    on_found : (path lane : List ℕ) (token : ℕ) (r : Request) → MayIntend schemas name x out s stage token lane path r
        → CallsOn path r (next.Step path lane token r false)
    on_found path lane token r w =
        let (l, i, home, same) = by_home lane r (w.fits, w.home) in
        (l, i, (home, ap (λ (m : List ℕ). next.Step path m token r false) same ∙ ap (λ (t : ℕ). next.Step path l.0 t r false) w.next))

    call_found : (path lane : List ℕ) (token : ℕ) (r : Request) → IsCallDueIn schemas name x out s stage path lane token r
        → Begins path r × IsCall path r (next.Step path lane token r false)
    call_found path lane token (request.Create k props) (none, home, w) =
        let (l, i, at_home, same) = by_home home (request.Create k props) (w.fits, w.home) in (
          begins path home token (request.Create k props) w,
          (
            any_in (is_home_for out x (request.Create k props)) l x.lanes i at_home,
            ap (λ (m : List ℕ). next.Step path m token (request.Create k props) false) none
                ∙ ap (λ (t : ℕ). next.Step path [] t (request.Create k props) false) w.next,
          ),
        )
    call_found path lane token (request.Update id props) w =
        (begins path lane token (request.Update id props) w, on_found path lane token (request.Update id props) w)
    call_found path lane token (request.Delete id) w = (begins path lane token (request.Delete id) w, on_found path lane token (request.Delete id) w)

    -- All that is begun is due, and what is due but for a phase and the end is begun.
    module _ (o : Offer) (offer : IsOffer schemas name x out s stage o) where
      pub begun_due : (n : Next) → IsBegun o n → Due n
      begun_due n (inl (inl (p, i, same))) = subst Due (sym same) ((offer.repeats p).1 i)
      begun_due n (inl (inr (a, i, call))) = call_due a.path a.request ((offer.starts a.path a.request).1 i) n call
      begun_due n (inr (k, i, same)) = subst Due (sym same) ((offer.keepings k.path k.physical k.why).1 i)

      pub repeat_begun : (path lane : List ℕ) (token : ℕ) (r : Request) → Due (next.Step path lane token r true) → IsBegun o (next.Step path lane token r true)
      repeat_begun path lane token r w =
          let p : Pending = record { token = token; path = path; lane = lane; request = r } in inl (inl (p, (offer.repeats p).0 w, refl))

      pub call_begun : (path lane : List ℕ) (token : ℕ) (r : Request) → Due (next.Step path lane token r false) → IsBegun o (next.Step path lane token r false)
      call_begun path lane token r w =
          let c = call_found path lane token r w in inl (inr (record { path = path; request = r }, (offer.starts path r).0 c.0, c.1))

      pub keep_begun : (path id : List ℕ) (w : Why) → Due (next.Keep path id w) → IsBegun o (next.Keep path id w)
      keep_begun path id why w = inr (record { path = path; physical = id; why = why }, (offer.keepings path id why).0 w, refl)
