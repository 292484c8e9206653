-- Which lane a call went out to: that of its Intent, and in a journal in which each entry could follow those before it, that of its row.
use Rattle.std.proofs.Common.{◌≡◌, ◌⊎◌, inl, inr, ℕ, ◌+◌, ◌≤◌, List, [], ◌∷◌, ◌++◌, Option, Some, None, true, refl, sym, ap, subst, ◌∙◌, find, filter_map, arith}
use Rattle.std.specs.List.{cons_option}
use Rattle.std.specs.Option.{option_map, option_or}
use Rattle.std.specs.Prelude.{cond}
use Rattle.cf_core.proofs.Words.{Begun, Call, Called, Entry, In, IsLegal, Life, MayFollow, Pending, Phase, Reply, Request, Schema, StackState, Status, World, answered, call_in, call_under, called_as, called_by, effect_at, empty_world, ended_effect, fold_of, has_token, is_call, is_restore, intending, pending_of, replied, stack_at, turned_effect, world_of}
use Rattle.cf_core.proofs.Lemmas.{answered_left, append-nil, append_assoc, eq-eqb, eqb-true, filter_map-append, found_one, in_filter, some_is, to_mapped}
use Rattle.cf_core.proofs.{Each.all_left, FitKept.after_token, KeepSound.stands_in, Stacks.call_more, Stacks.on_option, Statuses.intended_way, Statuses.kept_way}
use Rattle.cf_core.specs.Theorem.{HoldsAlways}
use Rattle.cf_plan.proofs.BlameAnswer.{in_still}
use Rattle.cf_plan.proofs.Frame.{token_after}
use Rattle.cf_plan.proofs.Listed.{in_last}
use Rattle.cf_plan.specs.Lanes.{call_at, written_in}
use Rattle.cf_stacks.proofs.Folded.{folded_more}

-- Each call that is open was so before the entry, or the entry is its Intent.
abbrev pub IsIntentOf : Entry → Pending → Type 0
IsIntentOf e p = (n : ℕ) × (e ≡ Entry.Intent n p.token p.lane p.path p.request)

module _ (place : ℕ) (s : StackState) where
  open_replied : (token : ℕ) (a : Reply) (o : Option Pending) (p : Pending) → In p (replied token a o s).tokens → In p s.tokens
  open_replied token a None p i = i
  open_replied token a (Some q) p i =
      let left = (answered_left (is_restore token s) q.path q.request a s).as_was in
      subst (In p) (ap (λ (z : StackState). z.tokens) left) (in_still token (answered (is_restore token s) q.path q.request a s).tokens a p i)

  open_intended : (n : ℕ) (q p : Pending) → In p (intending n q s).tokens → In p s.tokens ⊎ (p ≡ q)
  open_intended n q = intended_way (λ (t : StackState). (p : Pending) → In p t.tokens → In p s.tokens ⊎ (p ≡ q)) s (λ p i. inl i) n q (λ p i. in_last s.tokens q p i)

  open_turned : (f : Phase) (p : Pending) → In p (turned_effect f s).stack.tokens → In p s.tokens
  open_turned Phase.Clean p i = i
  open_turned Phase.Back p i = i
  open_turned Phase.BackClean p i = i

  open_ended : (state : Status) (p : Pending) → In p (ended_effect state s).stack.tokens → In p s.tokens
  open_ended Status.CreateComplete p i = i
  open_ended Status.RollbackFailed p i = i
  open_ended Status.UpdateRollbackComplete p i = i
  open_ended Status.RollbackComplete p i = i
  open_ended Status.DeleteComplete p i = i
  open_ended state p i = i

  pub open_from : (e : Entry) (p : Pending) → In p (effect_at place e s).stack.tokens → In p s.tokens ⊎ IsIntentOf e p
  open_from (Entry.Opened epoch lanes) p i = inl i
  open_from (Entry.Begin number name (Begun.Create source)) p i = inl i
  open_from (Entry.Begin number name (Begun.Update source)) p i = inl i
  open_from (Entry.Begin number name (Begun.Delete paths)) p i = inl i
  open_from (Entry.Begin number name (Begun.Continue paths)) p i = inl (in_filter _ s.tokens p i).0
  open_from (Entry.Kept n path physical w) p i =
      inl (kept_way (λ (t : StackState). (q : Pending) → In q t.tokens → In q s.tokens) s (λ q j. j) path physical w (λ q j. (in_filter _ s.tokens q j).0) (λ q j. (in_filter _ s.tokens q j).0) p i)
  open_from (Entry.Intent n token lane path r) p i =
      let q : Pending = record { token = token; path = path; lane = lane; request = r } in
      elim (open_intended n q p i) [ inl j ↦ inl j | inr same ↦ inr (n, ap (λ (z : Pending). Entry.Intent n z.token z.lane z.path z.request) (sym same)) ]
  open_from (Entry.Outcome n token a before after) p i = inl (open_replied token a (pending_of token s) p i)
  open_from (Entry.Phase n f c) p i = inl (open_turned f p i)
  open_from (Entry.Done n state failed) p i = inl (open_ended state p i)
  open_from (Entry.ChangeSet number name source rows outputs) p i = inl i

-- Whatever the entries are, each open call of a stack has its Intent among them, with its lane, path and request.
pub intents_told : (es : List Entry) (q : List ℕ × StackState) → In q (fold_of empty_world es).stacks → (p : Pending) → In p (q.1).tokens
    → (n : ℕ) × In (Entry.Intent n p.token p.lane p.path p.request) es
intents_told es =
    all_left (λ (z : StackState). (p : Pending) → In p z.tokens → (n : ℕ) × In (Entry.Intent n p.token p.lane p.path p.request) es) (λ e. In e es) (λ p i. elim i [ ])
    (λ z h place e is p i. elim (open_from place z e p i) [ inl j ↦ h p j | inr k ↦ (k.0, subst (λ d. In d es) k.1 is) ]) es (λ e i. i)

pub intent_told : (es : List Entry) (name : List ℕ) (s : StackState) → stack_at name (fold_of empty_world es) ≡ Some s → (p : Pending) → In p s.tokens
    → (n : ℕ) × In (Entry.Intent n p.token p.lane p.path p.request) es
intent_told es name s at = intents_told es (name, s) (stands_in name s (fold_of empty_world es).stacks at)

-- Where each entry could follow those before it, no two Intents have one token.
abbrev calls_in : List Entry → List Pending
calls_in es = filter_map written_in es

abbrev AreDifferent : List Entry → Type 0
AreDifferent es = (p : Pending) → In p (calls_in es) → (p.token ≤ (fold_of empty_world es).token) × (call_at p.token es ≡ Some p)

module _ (schemas : List Schema) where
  module _ (es : List Entry) (e : Entry) (out : List ℕ) (may : MayFollow schemas (fold_of empty_world es) out e) (h : AreDifferent es) where
    abbrev x : World
    x = fold_of empty_world es

    token_is : (fold_of empty_world (es ++ e ∷ [])).token ≡ token_after e x.token
    token_is = ap (λ (y : World). y.token) (sym (folded_more empty_world es e)) ∙ after_token x e

    kept : (p : Pending) → In p (calls_in es) → x.token ≤ token_after e x.token → (p.token ≤ (fold_of empty_world (es ++ e ∷ [])).token) × (call_at p.token (es ++ e ∷ []) ≡ Some p)
    kept p i later =
        let k = h p i in
        let below = k.0 in
        let same = token_is in
        (omega (arith, below, same, later), call_more es e p.token ∙ ap (λ o. option_or o (call_at p.token (e ∷ []))) k.1)

    none_other : written_in e ≡ None → token_after e x.token ≡ x.token → AreDifferent (es ++ e ∷ [])
    none_other none same p i =
        kept p (subst (In p) (filter_map-append written_in es (e ∷ []) ∙ ap (λ (o : Option Pending). calls_in es ++ cons_option o []) none ∙ append-nil (calls_in es)) i) (omega (arith, same))

    -- the call that is written down has the next token
    intended : (n token : ℕ) (lane path : List ℕ) (r : Request) → e ≡ Entry.Intent n token lane path r → token ≡ x.token + 1 → AreDifferent (es ++ e ∷ [])
    intended n token lane path r is next p i = elim (in_last (calls_in es) q p in_both) [
      | inl j ↦ kept p j (let last = after in omega (arith, last, next))
      | inr same ↦
          let last = after in
          let now = token_is in
          subst (λ z. (z.token ≤ (fold_of empty_world (es ++ e ∷ [])).token) × (call_at z.token (es ++ e ∷ []) ≡ Some z)) (sym same)
          (omega (arith, last, now), call_more es e token ∙ ap (λ o. option_or o (call_at token (e ∷ []))) none_before ∙ found_now)
    ]
      where
        q : Pending
        q = record { token = token; path = path; lane = lane; request = r }

        after : token_after e x.token ≡ token
        after = ap (λ d. token_after d x.token) is

        written : written_in e ≡ Some q
        written = ap written_in is

        in_both : In p (calls_in es ++ q ∷ [])
        in_both = subst (In p) (filter_map-append written_in es (e ∷ []) ∙ ap (λ (o : Option Pending). calls_in es ++ cons_option o []) written) i

        none_before : call_at token es ≡ None
        none_before = on_option (call_at token es) (λ none. none) (λ z k.
            let (j, of_it) = found_one (has_token token) (calls_in es) z k in
            let below = (h z j).0 in
            let same : token ≡ z.token = eqb-true token z.token of_it in
            absurd (omega (arith, below, same, next)))

        found_now : call_at token (e ∷ []) ≡ Some q
        found_now = ap (λ (o : Option Pending). find (has_token token) (cons_option o [])) written ∙ ap (λ b. cond b (Some q) None) (eq-eqb token token refl)

  one_more : (es : List Entry) (e : Entry) (out : List ℕ) → MayFollow schemas (fold_of empty_world es) out e → AreDifferent es → AreDifferent (es ++ e ∷ [])
  one_more es (Entry.Intent n token lane path r) out may h = intended es (Entry.Intent n token lane path r) out may h n token lane path r refl may.5.next
  one_more es (Entry.Opened epoch lanes) out may h = none_other es (Entry.Opened epoch lanes) out may h refl refl
  one_more es (Entry.Begin number name k) out may h = none_other es (Entry.Begin number name k) out may h refl refl
  one_more es (Entry.ChangeSet number name source rows outputs) out may h = none_other es (Entry.ChangeSet number name source rows outputs) out may h refl refl
  one_more es (Entry.Kept n path physical w) out may h = none_other es (Entry.Kept n path physical w) out may h refl refl
  one_more es (Entry.Outcome n token a before after) out may h = none_other es (Entry.Outcome n token a before after) out may h refl refl
  one_more es (Entry.Phase n f c) out may h = none_other es (Entry.Phase n f c) out may h refl refl
  one_more es (Entry.Done n state failed) out may h = none_other es (Entry.Done n state failed) out may h refl refl

  all_more : (fs es : List Entry) → AreDifferent es → IsLegal schemas (fold_of empty_world es) fs → AreDifferent (es ++ fs)
  all_more [] es h rest = subst AreDifferent (sym (append-nil es)) h
  all_more (e ∷ fs) es h ((out, may), rest) =
      subst AreDifferent (append_assoc es (e ∷ []) fs)
      (all_more fs (es ++ e ∷ []) (one_more es e out may h) (subst (λ y. IsLegal schemas y fs) (folded_more empty_world es e) rest))

  legal_different : (es : List Entry) → IsLegal schemas empty_world es → AreDifferent es
  legal_different es legal = all_more es [] (λ p i. elim i [ ]) legal

-- So the lane, the path and the request of an Intent are those of the row of its token.
pub record IsSentBy (c : Call) (lane path : List ℕ) (r : Request) : Type 0 where
  pub lane_is : c.lane ≡ lane
  pub path_is : c.path ≡ path
  pub request_is : c.request ≡ r

pub sent_by_its_row : (schemas : List Schema) (life : Life) (name : List ℕ) (s : StackState) (token : ℕ) (c : Call) → HoldsAlways schemas life
    → stack_at name (world_of life) ≡ Some s → call_under token s ≡ Some c → (n : ℕ) (lane path : List ℕ) (r : Request)
    → In (Entry.Intent n token lane path r) life.entries → IsSentBy c lane path r
sent_by_its_row schemas life name s token c h at found n lane path r i =
    record { lane_is = ap (λ (z : Called). z.lane) same; path_is = ap (λ (z : Called). z.path) same; request_is = ap (λ (z : Called). z.request) same }
  where
    p : Pending
    p = record { token = token; path = path; lane = lane; request = r }

    row : In c s.ledger × (is_call token c ≡ true)
    row = found_one (is_call token) s.ledger c found

    of_journal : call_in life.entries token ≡ Some (called_by c)
    of_journal = ap (call_in life.entries) (eqb-true token c.token row.1) ∙ h.sound.written name s c at row.0

    of_intent : call_in life.entries token ≡ Some (called_as p)
    of_intent = ap (option_map called_as) (legal_different schemas life.entries h.sound.legal p (to_mapped written_in life.entries (Entry.Intent n token lane path r) p i refl)).1

    same : called_by c ≡ called_as p
    same = some_is _ _ (sym of_journal ∙ of_intent)
