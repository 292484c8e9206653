-- What may follow asks which calls are out, and not in which order they are listed.
use Rattle.std.proofs.Common.{◌≡◌, ℕ, Bool, true, false, not, ◌&&◌, ◌||◌, List, [], ◌∷◌, filter, nat_lt, inl, inr, refl, sym, ◌∙◌, ap, true≢false}
use Rattle.std.specs.List.{list_any}
use Rattle.std.specs.Str.{bytes_eq}
use Rattle.std.proofs.lemmas.Bool.{eq-eqb}
use Rattle.cf_tree.specs.Lists.{is_among}
use Rattle.cf_tree.specs.declared.request.Request.{Request}
use Rattle.cf_schema.specs.declared.described.Schema.{Schema}
use Rattle.cf_entry.specs.declared.entry.Entry.{Entry}
use Rattle.cf_entry.specs.declared.entry.Entry.TheVariants as entry
use Rattle.cf_entry.specs.declared.turn.Why.{Why}
use Rattle.cf_entry.specs.declared.turn.Why.TheVariants as why
use Rattle.cf_change.specs.Changes.{is_empty}
use Rattle.cf_effect.specs.Calls.{doubts_of}
use Rattle.cf_effect.specs.Operation.{named_paths}
use Rattle.cf_effect.specs.declared.call.Call.{Call}
use Rattle.cf_effect.specs.declared.held.Pending.{Pending}
use Rattle.cf_effect.specs.Status.{Back, BackClean, Clean, Forward, Gone, Stage}
use Rattle.cf_effect.specs.World.{StackState, World}
use Rattle.cf_plan.specs.Follow.{MayFollow, MayFollowIn, MayFollowOn, MayIntend, MayKeep, MayRepeat, calls_in_flight, is_in_flight, is_lane_leased, is_repeat_in_flight, is_repeated, may_repeat, none_in_flight, waits_for_repeats}

-- the same calls are out
abbrev pub SameOut : List ℕ → List ℕ → Type 0
SameOut out other = (t : ℕ) → is_in_flight out t ≡ is_in_flight other t

module _ (out other : List ℕ) (same : SameOut out other) where
  same_calls : (s : StackState) → calls_in_flight out s ≡ calls_in_flight other s
  same_calls s =
      let each : is_in_flight out ≡ is_in_flight other = λ i t. same t i in
      ap (λ (f : ℕ → Bool). filter (λ (c : Call). f c.token) s.ledger) each

  same_repeats : (s : StackState) → is_repeat_in_flight out s ≡ is_repeat_in_flight other s
  same_repeats s = ap (list_any is_repeated) (same_calls s)

  same_none : (s : StackState) → none_in_flight out s ≡ none_in_flight other s
  same_none s = ap is_empty (same_calls s)

  pub same_leased : (x : World) (lane : List ℕ) → is_lane_leased out x lane ≡ is_lane_leased other x lane
  same_leased x lane =
      let named : List ℕ × StackState → List Call = λ s. calls_in_flight out s.1 in
      let again : List ℕ × StackState → List Call = λ s. calls_in_flight other s.1 in
      let each : named ≡ again = λ i s. same_calls s.1 i in
      ap (λ (f : List ℕ × StackState → List Call). list_any (λ (s : List ℕ × StackState). list_any (λ (c : Call). bytes_eq lane c.lane) (f s)) x.stacks) each

  pub same_may_repeat : (stage : Stage) (s : StackState) (p : Pending) → may_repeat stage out s p ≡ may_repeat stage other s p
  same_may_repeat Forward s p = ap (λ b. not b && nat_lt (doubts_of p.token s) 3) (same p.token)
  same_may_repeat Clean s p = ap (λ b. not b && nat_lt (doubts_of p.token s) 3) (same p.token)
  same_may_repeat Back s p = ap (λ b. not b && nat_lt (doubts_of p.token s) 3) (same p.token)
  same_may_repeat BackClean s p = ap (λ b. not b && nat_lt (doubts_of p.token s) 3) (same p.token)
  same_may_repeat Gone s p = ap (λ b. not b && (nat_lt (doubts_of p.token s) 3 && not (is_among p.path (named_paths s)))) (same p.token)

  same_waits : (stage : Stage) (s : StackState) → waits_for_repeats stage out s ≡ waits_for_repeats stage other s
  same_waits Forward s = refl
  same_waits Clean s = refl
  same_waits Back s =
      let each : may_repeat Back out s ≡ may_repeat Back other s = λ i p. same_may_repeat Back s p i in
      ap (λ b. b || list_any (may_repeat Back out s) s.tokens) (same_repeats s)
      ∙ ap (λ (f : Pending → Bool). is_repeat_in_flight other s || list_any f s.tokens) each
  same_waits BackClean s = refl
  same_waits Gone s =
      let each : may_repeat Gone out s ≡ may_repeat Gone other s = λ i p. same_may_repeat Gone s p i in
      ap (λ b. b || list_any (may_repeat Gone out s) s.tokens) (same_repeats s)
      ∙ ap (λ (f : Pending → Bool). is_repeat_in_flight other s || list_any f s.tokens) each

  may_intend : (schemas : List Schema) (name : List ℕ) (x : World) (s : StackState) (stage : Stage) (token : ℕ) (lane path : List ℕ) (r : Request)
      → MayIntend schemas name x out s stage token lane path r → MayIntend schemas name x other s stage token lane path r
  may_intend schemas name x s stage token lane path r h = record {
    next = h.next;
    free = h.free;
    home = sym (same_leased x lane) ∙ h.home;
    fits = h.fits;
    no_repeat = sym (same_waits stage s) ∙ h.no_repeat;
    chosen = h.chosen;
  }

  may_keep : (stage : Stage) (s : StackState) (path physical : List ℕ) (w : Why) → MayKeep stage out s path physical w → MayKeep stage other s path physical w
  may_keep stage s path physical why.Retained h = elim h [
    | inl k ↦ inl (k.0, k.1, sym (same_waits stage s) ∙ k.2, k.3, k.4, k.5, k.6)
    | inr k ↦ inr k
  ]
  may_keep stage s path physical why.Failed h = h
  may_keep stage s path physical why.Doubt h = h

  may_in : (schemas : List Schema) (name : List ℕ) (x : World) (s : StackState) (stage : Stage) (e : Entry)
      → MayFollowIn schemas name x out s stage e → MayFollowIn schemas name x other s stage e
  may_in schemas name x s stage (entry.Outcome number token a before after) h = (sym (same token) ∙ h.0, h.1, h.2)
  may_in schemas name x s stage (entry.Phase number p c) h = (sym (same_none s) ∙ h.0, h.1)
  may_in schemas name x s stage (entry.Done number state failed) h = (sym (same_none s) ∙ h.0, h.1, h.2, h.3)
  may_in schemas name x s stage (entry.Intent number token lane path r) h = may_intend schemas name x s stage token lane path r h
  may_in schemas name x s stage (entry.Kept number path physical w) h = may_keep stage s path physical w h
  may_in schemas name x s stage (entry.Opened epoch lanes) h = h
  may_in schemas name x s stage (entry.Begin number to k) h = h
  may_in schemas name x s stage (entry.ChangeSet number to source rows outputs) h = h

  may_on : (schemas : List Schema) (number : ℕ) (x : World) (e : Entry) → MayFollowOn schemas number x out e → MayFollowOn schemas number x other e
  may_on schemas number x e (name, s, stage, at, is, may) = (name, s, stage, at, is, may_in schemas name x s stage e may)

  none_out : (o : List ℕ) → ((t : ℕ) → is_in_flight o t ≡ false) → o ≡ []
  none_out [] h = refl
  none_out (t ∷ ts) h = absurd (true≢false (sym (ap (λ b. b || is_in_flight ts t) (eq-eqb t t refl)) ∙ h t))

  pub same_follows : (schemas : List Schema) (x : World) (e : Entry) → MayFollow schemas x out e → MayFollow schemas x other e
  same_follows schemas x (entry.Opened epoch lanes) h =
      (none_out other (λ t. sym (same t) ∙ ap (λ o. is_in_flight o t) h.0), h.1, h.2)
  same_follows schemas x (entry.Begin number name k) h = h
  same_follows schemas x (entry.ChangeSet number name source rows outputs) h = h
  same_follows schemas x (entry.Kept number path physical w) h = may_on schemas number x (entry.Kept number path physical w) h
  same_follows schemas x (entry.Intent number token lane path r) h = may_on schemas number x (entry.Intent number token lane path r) h
  same_follows schemas x (entry.Outcome number token a before after) h = may_on schemas number x (entry.Outcome number token a before after) h
  same_follows schemas x (entry.Phase number p c) h = may_on schemas number x (entry.Phase number p c) h
  same_follows schemas x (entry.Done number state failed) h = may_on schemas number x (entry.Done number state failed) h

  -- the same of a call that is made again
  pub same_repeats_on : (schemas : List Schema) (name : List ℕ) (x : World) (s : StackState) (stage : Stage) (p : Pending) → MayRepeat schemas name x out s stage p
      → MayRepeat schemas name x other s stage p
  same_repeats_on schemas name x s Forward p h = (h.0, h.1, sym (same_may_repeat Forward s p) ∙ h.2)
  same_repeats_on schemas name x s Clean p h = (h.0, sym (same_may_repeat Clean s p) ∙ h.1)
  same_repeats_on schemas name x s Back p h = (h.0, sym (same_may_repeat Back s p) ∙ h.1)
  same_repeats_on schemas name x s BackClean p h = (h.0, sym (same_may_repeat BackClean s p) ∙ h.1)
  same_repeats_on schemas name x s Gone p h = (h.0, sym (same_may_repeat Gone s p) ∙ h.1)
