-- A call, a late effect and a raised fence keep agreement, whatever they come to.
use Rattle.cf_agree.proofs.Effects.{Does, does, unused, makes, sets, takes, keeps, with_props, gone_names, gone_request, set_names, set_request, made_success}
use Rattle.cf_agree.proofs.Words.{bytes_or, in_either, entry_now, entry_others, live_more, used_still, number_or, one_lane, used_born, unsettled, in_got, in_removed, some_or}
use Rattle.cf_agree.specs.{Account.Account, Account.Called, Account.Open, Account.Role, Account.Thing, Account.called_of, Moves.IsOut}
use Rattle.cf_agree.specs.Account.Role.{Stranger, Resource}
use Rattle.cf_agree.specs.Base.{settled_at, lane_of, Dict, Made, Set, named_by, gone_by, change_of}
use Rattle.cf_agree.specs.Lanes.{Lanes, live_in, used_in, settled_under, Replaced, IsThere}
use Rattle.cf_agree.specs.Ties.{FitsCall, IsAccounted, IsSettledCall, Ties, Books, IsMade, IsGone, IsChanged, IsBorn, IsLost}
use Rattle.cf_tree.specs.{Lists.In, Named.all_differ}
use Rattle.cf_tree.specs.declared.{request.Answer.Answer, request.Request.Request, request.Request.TheVariants.Create}
use Rattle.cf_handler.specs.{declared.fence.FenceAnswer.FenceAnswer, declared.fence.FenceAnswer.TheVariants.Raised, declared.fence.FenceAnswer.TheVariants.Ahead, declared.fence.FenceAnswer.TheVariants.Fault}
use Rattle.cf_handler.specs.Fence.{FencedLane, Flying, live_at, CallMove, LateMove, settled_late, FenceMove, with_flying, raised_to}
use Rattle.cf_handler.specs.Lane.{LaneState, live_of, is_used, live_changed, Live, has_id, settlement_of}
use Rattle.cf_handler.specs.declared.{settled.Settled.Settled, settled.Settlement.Settlement}
use Rattle.cf_handler.specs.declared.settled.Settlement.TheVariants.{Success, Failed}
use Rattle.cf_handler.specs.{Move.IsOfLane, Move.LaneMove, Move.MaySettle, Move.SettlesBy, Move.with_settled, Name.is_lane_name}
use Rattle.std.proofs.Common.{◌≡◌, ◌≢◌, ◌⊎◌, inl, inr, ℕ, List, true, Some, None, find, refl, sym, ap, subst, ◌∙◌, ◌<◌, ◌≤◌, [], ◌∷◌, ◌++◌, true≢false, map, arith, false, Option, ◌↔◌}
use Rattle.std.specs.Str.{bytes_eq}
use Rattle.cf_tree.specs.declared.request.Answer.TheVariants as answer

-- What a lane's moves leave, as facts.

-- w' is w with one more settled call on the lane n
pub record Settling (n : List ℕ) (s : Settled) (w w' : Lanes) : Type 0 where
  pub kinds : (m : List ℕ) → w'.kind m ≡ w.kind m
  pub at : settled_under w' n s.token ≡ Some s
  pub at_others : (m : List ℕ) (t : ℕ) → ((m ≢ n) ⊎ (t ≢ s.token)) → settled_under w' m t ≡ settled_under w m t
  pub members : (m : List ℕ) (r : Settled) → In r (w'.lane m).state.settled → In r (w.lane m).state.settled ⊎ ((m ≡ n) × (r ≡ s))
  pub bases : (m : List ℕ) → (w'.lane m).state.base ≡ (w.lane m).state.base
  pub flies : (m : List ℕ) (f : Flying) → In f (w'.lane m).flying → In f (w.lane m).flying
  pub fences : (m : List ℕ) → (w'.lane m).fence ≡ (w.lane m).fence
  pub does : (i : List ℕ) → Does s.request s.settlement i (live_in w n i) (live_in w' n i)
  pub lives_others : (m i : List ℕ) → m ≢ n → live_in w' m i ≡ live_in w m i
  pub knows : (m i : List ℕ) → used_in w m i ≡ true → used_in w' m i ≡ true

-- the lane with one more settled call, which may fly no more
pub record MoreSettled (s : Settled) (l l' : FencedLane) : Type 0 where
  pub state : l'.state ≡ with_settled l.state s
  pub flies : (f : Flying) → In f l'.flying → In f l.flying
  pub fence : l'.fence ≡ l.fence

-- what is so of a lane before and after where it is replaced, and of each other one twice, is so of all
pub each_lane :
    (n : List ℕ) (l : FencedLane) (w w' : Lanes) → Replaced n l w w' → (P : List ℕ → FencedLane → FencedLane → Type 0) → P n (w.lane n) l
    → ((m : List ℕ) (k : FencedLane) → P m k k) → (m : List ℕ) → P m (w.lane m) (w'.lane m)
each_lane n l w w' rep P replaced others m = elim (bytes_or m n) [
  | inl e ↦ subst (λ k. P k (w.lane k) (w'.lane k)) (sym e) (subst (P n (w.lane n)) (sym rep.at) replaced)
  | inr e ↦ subst (P m (w.lane m)) (sym (rep.others m e)) (others m (w.lane m))
]

pub settling :
    (n : List ℕ) (s : Settled) (l' : FencedLane) (w w' : Lanes) → Replaced n l' w w' → MoreSettled s (w.lane n) l' → settled_under w n s.token ≡ None
    → MaySettle n (w.lane n).state s.request s.settlement → Settling n s w w'
settling n s l' w w' rep more new fits = record {
  kinds = rep.kinds;
  at = ap (λ (l : LaneState). settled_at s.token l.settled) state ∙ entry_now s.token (w.lane n).state.settled s refl new;
  at_others = λ m t k. grind (arith, bytes_or m n, rep.at, rep.others m, entry_others t (w.lane n).state.settled s, state);
  members = λ m r i. grind (arith, bytes_or m n, rep.at, rep.others m, in_either r (w.lane n).state.settled s, state);
  bases = each_lane n l' w w' rep (λ m l k. k.state.base ≡ l.state.base) (ap (λ (l : LaneState). l.base) more.state) (λ m l. refl);
  flies = each_lane n l' w w' rep (λ m l k. (f : Flying) → In f k.flying → In f l.flying) more.flies (λ m l f i. i);
  fences = each_lane n l' w w' rep (λ m l k. k.fence ≡ l.fence) more.fence (λ m l. refl);
  does = λ i. subst (Does s.request s.settlement i (live_in w n i)) (sym (lives i)) (does n (w.lane n).state s.request s.settlement i fits (unused i (w.lane n).state));
  lives_others = λ m i e. ap (λ l. live_at i l) (rep.others m e);
  knows = each_lane n l' w w' rep (λ m l k. (i : List ℕ) → is_used i l.state ≡ true → is_used i k.state ≡ true)
      (λ i u. ap (is_used i) more.state ∙ used_still i (w.lane n).state s u) (λ m l i u. u);
}
  where
    state : (w'.lane n).state ≡ with_settled (w.lane n).state s
    state = ap (λ (l : FencedLane). l.state) rep.at ∙ more.state

    lives : (i : List ℕ) → live_in w' n i ≡ find (λ r. bytes_eq i r.id) (live_changed s.request s.settlement (live_of (w.lane n).state))
    lives i = ap (λ (l : LaneState). find (λ r. bytes_eq i r.id) (live_of l)) state ∙ ap (λ l. find (λ r. bytes_eq i r.id) l) (live_more (w.lane n).state.base (w.lane n).state.settled s)

-- A lane that is called and left as it was, a call that flies on, and a raised fence keep agreement.

-- lanes that agree on all but what flies and the fences
pub record Alike (w w' : Lanes) : Type 0 where
  pub kinds : (m : List ℕ) → w'.kind m ≡ w.kind m
  pub states : (m : List ℕ) → (w'.lane m).state ≡ (w.lane m).state

-- what flies there is accounted for, and no fence is ahead
pub record Flies (a : Account) (w w' : Lanes) : Type 0 where
  pub fences : (m : List ℕ) → (w'.lane m).fence ≤ a.epoch
  pub calls : (m : List ℕ) (f : Flying) → In f (w'.lane m).flying → FitsCall a m f.token f.request
  pub opens : (m : List ℕ) (f : Flying) → In f (w'.lane m).flying → settled_under w m f.token ≡ None → (w'.lane m).fence ≤ f.epoch → IsAccounted a f.token f.request
  pub epochs : (m : List ℕ) (f : Flying) → In f (w'.lane m).flying → f.epoch ≤ a.epoch
  pub at_rest : (m : List ℕ) (f : Flying) (o : Open) → In f (w'.lane m).flying → settled_under w m f.token ≡ None → a.open_ f.token ≡ Some o → a.resting o.stack ≡ true → f.epoch < a.epoch

-- An account that tells the same of ids, over lanes that agree on all but what flies and the fences.
module _ (a x : Account) (w w' : Lanes) (h : Ties a w) (al : Alike w w') where
  entries : (m : List ℕ) (t : ℕ) → settled_under w' m t ≡ settled_under w m t
  entries m t = ap (λ (l : LaneState). settled_at t l.settled) (al.states m)

  lives : (m i : List ℕ) → live_in w' m i ≡ live_in w m i
  lives m i = ap (λ (l : LaneState). find (λ r. bytes_eq i r.id) (live_of l)) (al.states m)

  there_was : (m : List ℕ) → IsThere w' m → IsThere w m
  there_was m (k, e) = (k, sym (al.kinds m) ∙ e)

  -- the other account, with the roles and the lost creates of this one
  abbrev pub telling : Account
  telling = record x { role = a.role; lost = a.lost }

  pub ties_alike :
      ((n : List ℕ) (t : ℕ) (r : Request) → FitsCall a n t r → FitsCall telling n t r)
      → ((t : ℕ) (o : Open) (s : Settled) → settled_under w o.lane t ≡ Some s → (x.open_ t ≡ Some o) ↔ (a.open_ t ≡ Some o))
      → ((n k : List ℕ) → x.named n ≡ Some k → w.kind n ≡ Some k)
      → ((t : ℕ) (y : Settlement) (c : Called) → x.told t ≡ Some y → x.call t ≡ Some c → (a.told t ≡ Some y) × (a.call t ≡ Some c))
      → Flies telling w w' → Ties telling w'
  ties_alike fits opens named told fl = record {
    handed = λ m k e. al.kinds m ∙ named m k e;
    lane_names = λ m e. h.lane_names m (there_was m e);
    settled_once = λ m r i. entries m r.token ∙ h.settled_once m r (subst (λ (l : LaneState). In r l.settled) (al.states m) i);
    base_once = λ m. subst (λ (l : LaneState). all_differ bytes_eq (map (λ (v : Live). v.id) l.base) ≡ true) (sym (al.states m)) (h.base_once m);
    base_named = λ m i e. h.base_named m i (subst (λ (l : LaneState). has_id i l.base ≡ true) (al.states m) e);
    created_named = λ m i t r e d. h.created_named m i t r (sym (entries m t) ∙ e) d;
    created_once = λ m i t u r q e e'. h.created_once m i t u r q (sym (entries m t) ∙ e) (sym (entries m u) ∙ e');
    settled_calls = λ m t r e. fits m t r.request (h.settled_calls m t r (sym (entries m t) ∙ e));
    flying_calls = fl.calls;
    answers = λ t y c e k z.
        let (e', k') = told t y c e k in
        let (r, v, q) = h.answers t y c e' k' (there_was c.lane z) in (r, entries c.lane t ∙ v, q);
    flying_open = λ m g i e. fl.opens m g i (sym (entries m g.token) ∙ e);
    flying_epochs = fl.epochs;
    flying_at_rest = λ m g o i e. fl.at_rest m g o i (sym (entries m g.token) ∙ e);
    fences = fl.fences;
    known = λ i e z. ap (λ (l : LaneState). is_used i l) (al.states (lane_of i)) ∙ h.known i e (there_was (lane_of i) z);
    gone = λ i r e (t, o, s, d, k). lives (lane_of i) i ∙ h.gone i r e (t, o, s, back t o s d, k);
    alive = λ i r e z g.
        let (v, y, q) = h.alive i r e (there_was (lane_of i) z) (λ (t, o, s, d, m). g (t, o, s, forth t o s d, m)) in (v, lives (lane_of i) i ∙ y, q);
    same = λ i r v e u g l. h.same i r v e u (λ (t, o, s, p, q, d, m). g (t, o, s, p, q, forth t o s d, m)) (sym (lives (lane_of i) i) ∙ l);
    changed = λ t o s i p q d k. let (v, y, z, r) = h.changed t o s i p q (back t o s d) k in (v, lives o.lane i ∙ y, z, r);
    born = λ t o s i k p q d e. let z = h.born t o s i k p q (back t o s d) e in (lives o.lane i ∙ z.0, z.1);
    live_named = λ m i v l. h.live_named m i v (sym (lives m i) ∙ l);
    listed = λ m i v l. grind (arith, h.listed m i v, lives m i, forth, entries);
  }
    where
      back : (t : ℕ) (o : Open) (s : Settled) → IsSettledCall telling w' t o s → IsSettledCall a w t o s
      back t o s (y, z) = let e = sym (entries o.lane t) ∙ z in ((opens t o s e).0 y, e)

      forth : (t : ℕ) (o : Open) (s : Settled) → IsSettledCall a w t o s → IsSettledCall telling w' t o s
      forth t o s (y, z) = ((opens t o s z).1 y, entries o.lane t ∙ z)

-- the same account
pub ties_flying : (a : Account) (w w' : Lanes) → Ties a w → Alike w w' → Flies a w w' → Ties a w'
ties_flying a w w' h al fl = ties_alike a a w w' h al (λ n t r f. f) (λ t o s e. (λ x. x, λ x. x)) h.handed (λ t x c e k. (e, k)) fl

-- one lane is replaced by one with the same state
module _ (a : Account) (n : List ℕ) (l : FencedLane) (w w' : Lanes) (h : Ties a w) (rep : Replaced n l w w') (state : l.state ≡ (w.lane n).state) where
  alike : Alike w w'
  alike = record { kinds = rep.kinds; states = each_lane n l w w' rep (λ m k x. x.state ≡ k.state) state (λ m k. refl) }

  -- nothing more flies, and the fence is no lower
  pub ties_raised : ((f : Flying) → In f l.flying → In f (w.lane n).flying) → (w.lane n).fence ≤ l.fence → l.fence ≤ a.epoch → Ties a w'
  ties_raised flies lower low = ties_flying a w w' h alike (record {
    fences = λ m. each_lane n l w w' rep (λ m k x. k.fence ≤ a.epoch → x.fence ≤ a.epoch) (λ z. low) (λ m k z. z) m (h.fences m);
    calls = λ m f i. h.flying_calls m f (was m f i);
    opens = λ m f i e k. h.flying_open m f (was m f i) e (grind arith);
    epochs = λ m f i. h.flying_epochs m f (was m f i);
    at_rest = λ m f o i. h.flying_at_rest m f o (was m f i);
  })
    where
      was : (m : List ℕ) (f : Flying) → In f (w'.lane m).flying → In f (w.lane m).flying
      was = each_lane n l w w' rep (λ m k x. (f : Flying) → In f x.flying → In f k.flying) flies (λ m k f i. i)

  -- one call more flies, of a token that is out
  pub ties_flown : (f : Flying) → l.flying ≡ (w.lane n).flying ++ f ∷ [] → l.fence ≡ (w.lane n).fence → IsOut a n f.token f.request → f.epoch ≤ a.epoch → Ties a w'
  ties_flown f flies same out low = ties_flying a w w' h alike (record {
    fences = λ m. subst (λ c. c ≤ a.epoch) (sym (fence m)) (h.fences m);
    calls = λ m g i. grind (arith, flown_or m g i, h.flying_calls m g);
    opens = λ m g i e k. grind (arith, flown_or m g i, fence m, h.flying_open m g);
    epochs = λ m g i. elim (flown_or m g i) [ inl j ↦ h.flying_epochs m g j | inr j ↦ subst (λ (x : Flying). x.epoch ≤ a.epoch) (sym j.1) low ];
    at_rest = λ m g o i e op re. grind (arith, flown_or m g i, h.flying_at_rest m g o);
  })
    where
      fence : (m : List ℕ) → (w'.lane m).fence ≡ (w.lane m).fence
      fence m = grind arith

      flown_or : (m : List ℕ) (g : Flying) → In g (w'.lane m).flying → In g (w.lane m).flying ⊎ ((m ≡ n) × (g ≡ f))
      flown_or = each_lane n l w w' rep (λ m k x. (g : Flying) → In g x.flying → In g k.flying ⊎ ((m ≡ n) × (g ≡ f)))
          (λ g i. elim (in_either g (w.lane n).flying f (subst (In g) flies i)) [ inl j ↦ inl j | inr j ↦ inr (refl, j) ]) (λ m k g i. inl i)

-- One more settled call of a token that is accounted for keeps agreement.

-- what may settle as made is new, and of its lane
pub may_make :
    (n : List ℕ) (l : LaneState) (r : Request) (x : Settlement) (i k : List ℕ) (p t : Dict) → MaySettle n l r x → change_of r x ≡ Made i k p t
    → IsOfLane n i × (is_used i l ≡ false)
may_make n l r x i k p t m e = grind (arith, made_success)

-- two open calls of one id are one
pub one_call :
    (a : Account) → Books a → (t u : ℕ) (o v : Open) (i : List ℕ) → a.open_ t ≡ Some o → a.open_ u ≡ Some v → named_by o.request ≡ Some i
    → named_by v.request ≡ Some i → t ≡ u
one_call a b t u o v i e k x y = grind arith

-- an open call that is settled was settled with its own request
pub request_of : (a : Account) (w : Lanes) → Books a → Ties a w → (t : ℕ) (o : Open) (s : Settled) → IsSettledCall a w t o s → o.request ≡ s.request
request_of a w b h t o s (y, z) = ((h.settled_calls o.lane t s z).written (called_of o) (b.calls t o y)).1

module _
    (a : Account) (n : List ℕ) (s : Settled) (w w' : Lanes) (b : Books a) (h : Ties a w) (f : Settling n s w w')
    (new : settled_under w n s.token ≡ None) (fits : MaySettle n (w.lane n).state s.request s.settlement) (there : IsThere w n)
    (own : FitsCall a n s.token s.request) (mine : IsAccounted a s.token s.request) where
  old_or_new : (m : List ℕ) (t : ℕ) (r : Settled) → settled_under w' m t ≡ Some r → (settled_under w m t ≡ Some r) ⊎ ((m ≡ n) × (t ≡ s.token) × (r ≡ s))
  old_or_new m t r e = grind (arith, bytes_or m n, number_or t s.token, f.at, f.at_others m t)

  kept : (m : List ℕ) (t : ℕ) (r : Settled) → settled_under w m t ≡ Some r → settled_under w' m t ≡ Some r
  kept m t r e = grind arith

  unsettled' : (m : List ℕ) (t : ℕ) → settled_under w' m t ≡ None → settled_under w m t ≡ None
  unsettled' m t e = elim (some_or (settled_under w m t)) [ inl k ↦ k | inr k ↦ (let g = kept m t k.0 k.1 in absurd (cc)) ]

  made_new : (i : List ℕ) → IsMade s i → (lane_of i ≡ n) × IsOfLane n i × (used_in w n i ≡ false)
  made_new i (k, p, t, e) = let m = may_make n (w.lane n).state s.request s.settlement i k p t fits e in
      (one_lane n i (h.lane_names n there) m.0, m.0, m.1)

  -- what was used isn't made
  not_made : (i : List ℕ) → used_in w (lane_of i) i ≡ true → IsMade s i → ⊥
  not_made i u m = let z = made_new i m in true≢false (sym (subst (λ k. used_in w k i ≡ true) z.0 u) ∙ z.2)

  resource_there : (i : List ℕ) (r : Thing) → a.role i ≡ Resource r → IsThere w (lane_of i)
  resource_there i r e = (r.kind, h.handed (lane_of i) r.kind (b.homes i r e).1)

  resource_used : (i : List ℕ) (r : Thing) → a.role i ≡ Resource r → used_in w (lane_of i) i ≡ true
  resource_used i r e = h.known i (λ k. absurd (cc)) (resource_there i r e)

  -- a settled request that names a resource is that of an open call
  named_open : (i : List ℕ) (r : Thing) → a.role i ≡ Resource r → named_by s.request ≡ Some i → (o : Open) × (a.open_ s.token ≡ Some o) × (lane_of i ≡ n)
  named_open i r e d = grind arith

  settled_now : (o : Open) → a.open_ s.token ≡ Some o → IsSettledCall a w' s.token o s
  settled_now o x = (x, subst (λ m. settled_under w' m s.token ≡ Some s) (sym (own.written (called_of o) (b.calls s.token o x)).0) f.at)

  is_changed : (i : List ℕ) (r : Thing) (p t : Dict) → a.role i ≡ Resource r → change_of s.request s.settlement ≡ Set i p t → IsChanged a w' i
  is_changed i r p t e d = let o = named_open i r e (set_names s.request s.settlement i p t d) in (s.token, o.0, s, p, t, settled_now o.0 o.1, d)

  gone : (i : List ℕ) (r : Thing) → a.role i ≡ Resource r → IsGone a w' i → live_in w' (lane_of i) i ≡ None
  gone i r e (t, o, q, (y, z), d) =
      let did = f.does i in let others = f.lives_others (lane_of i) i in let used = resource_used i r e in let was = h.gone i r e in
      grind (arith, bytes_or (lane_of i) n, old_or_new o.lane t q z, not_made i, gone_request, set_request, named_open, gone_names)

  alive : (i : List ℕ) (r : Thing) → a.role i ≡ Resource r → (IsGone a w' i → ⊥) → (v : Live) × (live_in w' (lane_of i) i ≡ Some v) × (v.kind ≡ r.kind)
  alive i r e g = go (h.alive i r e (resource_there i r e) (λ (t, o, q, (y, z), d). g (t, o, q, (y, kept o.lane t q z), d))) where
    go : (v : Live) × (live_in w (lane_of i) i ≡ Some v) × (v.kind ≡ r.kind)
        → (v : Live) × (live_in w' (lane_of i) i ≡ Some v) × (v.kind ≡ r.kind)
    go was = let did = f.does i in let others = f.lives_others (lane_of i) i in
        grind (arith, bytes_or (lane_of i) n, not_made, resource_used, with_props, named_open, gone_names, s, settled_now)

  same : (i : List ℕ) (r : Thing) (v : Live) → a.role i ≡ Resource r → r.sure ≡ true → (IsChanged a w' i → ⊥) → live_in w' (lane_of i) i ≡ Some v → (v.props ≡ r.props) × (v.attrs ≡ r.attrs)
  same i r v e su g l = h.same i r v e su (λ (t, o, q, p, u, (y, z), d). g (t, o, q, p, u, (y, kept o.lane t q z), d))
      (grind (arith, bytes_or (lane_of i) n, f.does i, f.lives_others (lane_of i) i, not_made i, resource_used i r e, is_changed i r))

  -- an id that was used, and that the call doesn't name, isn't touched
  untouched : (i : List ℕ) → used_in w (lane_of i) i ≡ true → named_by s.request ≢ Some i → live_in w' (lane_of i) i ≡ live_in w (lane_of i) i
  untouched i u ns = grind (arith, bytes_or (lane_of i) n, f.does i, f.lives_others (lane_of i) i, not_made i, set_names, gone_names)

  -- what was settled before isn't the new call's token
  apart : (t : ℕ) (o : Open) (r : Settled) → IsSettledCall a w t o r → t ≢ s.token
  apart t o r (y, z) e = grind arith

  changed : (t : ℕ) (o : Open) (q : Settled) (i : List ℕ) (p u : Dict) → IsSettledCall a w' t o q → change_of q.request q.settlement ≡ Set i p u → (v : Live) × (live_in w' o.lane i ≡ Some v) × (v.props ≡ p) × (v.attrs ≡ u)
  changed t o q i p u (y, z) d = go (old_or_new o.lane t q z) where
    on_new : change_of s.request s.settlement ≡ Set i p u → Does s.request s.settlement i (live_in w n i) (live_in w' n i) → (v : Live) × (live_in w' n i ≡ Some v) × (v.props ≡ p) × (v.attrs ≡ u)
    on_new e v1 = grind (arith, with_props, gone_request, set_request)

    on_old : settled_under w o.lane t ≡ Some q → (v : Live) × (live_in w' o.lane i ≡ Some v) × (v.props ≡ p) × (v.attrs ≡ u)
    on_old k =
        let asked = request_of a w b h t o q (y, k) in let was = h.changed t o q i p u (y, k) d in let other = apart t o q (y, k) in
        grind (arith, set_names, b.named t o i, named_open i, one_call a b t s.token o, b.home t o i, untouched i, resource_used i)

    go : (settled_under w o.lane t ≡ Some q) ⊎ ((o.lane ≡ n) × (t ≡ s.token) × (q ≡ s)) → (v : Live) × (live_in w' o.lane i ≡ Some v) × (v.props ≡ p) × (v.attrs ≡ u)
    go (inl k) = on_old k
    go (inr k) =
        let v = on_new (subst (λ (x : Settled). change_of x.request x.settlement ≡ Set i p u) k.2 d) (f.does i) in
        (v.0, ap (λ m. live_in w' m i) k.0 ∙ v.1, v.2, v.3)

  stranger_if_made : (i : List ℕ) → IsMade s i → a.role i ≡ Stranger
  stranger_if_made i m = grind (arith, not_made, made_new)

  entry_used : (m : List ℕ) (t : ℕ) (q : Settled) (i : List ℕ) → settled_under w m t ≡ Some q → IsMade q i → used_in w (lane_of i) i ≡ true
  entry_used m t q i e (k, p, u, d) =
      subst (λ j. used_in w j i ≡ true) (sym (h.created_named m i t q e (k, p, u, d)).0)
      (used_born t i u (w.lane m).state q e (made_success q.request q.settlement i k p u d).0)

  born :
      (t : ℕ) (o : Open) (q : Settled) (i k : List ℕ) (p u : Dict) → IsSettledCall a w' t o q → change_of q.request q.settlement ≡ Made i k p u
      → (live_in w' o.lane i ≡ Some (record { id = i; kind = k; props = p; attrs = u })) × (a.role i ≡ Stranger)
  born t o q i k p u (y, z) d = go (old_or_new o.lane t q z) where
    on_new : change_of s.request s.settlement ≡ Made i k p u → Does s.request s.settlement i (live_in w n i) (live_in w' n i) → live_in w' n i ≡ Some (record { id = i; kind = k; props = p; attrs = u })
    on_new e v1 = grind (arith, gone_request, made_success)

    go : (settled_under w o.lane t ≡ Some q) ⊎ ((o.lane ≡ n) × (t ≡ s.token) × (q ≡ s)) → (live_in w' o.lane i ≡ Some (record { id = i; kind = k; props = p; attrs = u })) × (a.role i ≡ Stranger)
    go (inl e) =
        let was = h.born t o q i k p u (y, e) d in
        let hm = (h.created_named o.lane i t q e (k, p, u, d)).0 in
        let role = was.1 in
        (subst (λ m. live_in w' m i ≡ live_in w m i) hm (untouched i (entry_used o.lane t q i e (k, p, u, d)) (λ x. grind arith)) ∙ was.0, was.1)
    go (inr e) = grind (arith, on_new, does, stranger_if_made)

  created_once : (m i : List ℕ) (t u : ℕ) (r q : Settled) → settled_under w' m t ≡ Some r → settled_under w' m u ≡ Some q → IsMade r i → IsMade q i → t ≡ u
  created_once m i t u r q e e' d d' = grind (arith, old_or_new m t r e, old_or_new m u q e', h.created_once m i t u r q, not_made i, entry_used)

  made_by : (i : List ℕ) → IsMade s i → IsBorn a w' i ⊎ IsLost a w' i
  made_by i d = grind arith

  listed : (m i : List ℕ) (v : Live) → live_in w' m i ≡ Some v → (a.role i ≢ Stranger) ⊎ IsBorn a w' i ⊎ IsLost a w' i
  listed m i v l = grind (arith, bytes_or m n, f.does i, f.lives_others m i, made_by i, was)
    where
      was : (u : Live) → live_in w m i ≡ Some u → (a.role i ≢ Stranger) ⊎ IsBorn a w' i ⊎ IsLost a w' i
      was u e = elim (h.listed m i u e) [
        | inl x ↦ inl x
        | inr (inl (t, o, q, (y, z), d)) ↦ inr (inl (t, o, q, (y, kept o.lane t q z), d))
        | inr (inr (t, k, q, y, z, d)) ↦ inr (inr (t, k, q, y, kept k t q z, d))
      ]

  live_named : (m i : List ℕ) (v : Live) → live_in w' m i ≡ Some v → lane_of i ≡ m
  live_named m i v l = grind (arith, bytes_or m n, f.does i, f.lives_others m i, made_new i, h.live_named m i)

  there_before : (m : List ℕ) → IsThere w' m → IsThere w m
  there_before m (k, e) = (k, sym (f.kinds m) ∙ e)

  pub ties_settled : Ties a w'
  ties_settled = record {
    handed = λ m k e. f.kinds m ∙ h.handed m k e;
    lane_names = λ m e. h.lane_names m (there_before m e);
    settled_once = λ m r i. grind (arith, kept, f.members m r i, h.settled_once m r, f.at);
    base_once = λ m. subst (λ vs. all_differ bytes_eq (map (λ (v : Live). v.id) vs) ≡ true) (sym (f.bases m)) (h.base_once m);
    base_named = λ m i e. h.base_named m i (subst (λ vs. has_id i vs ≡ true) (f.bases m) e);
    created_named = λ m i t r e d. grind (arith, old_or_new m t r e, made_new, h.created_named m i t r);
    created_once = created_once;
    settled_calls = λ m t r e. grind (arith, old_or_new m t r e, h.settled_calls m t r);
    flying_calls = λ m g i. h.flying_calls m g (f.flies m g i);
    answers = λ t x c e k z. let (r, y, q) = h.answers t x c e k (there_before c.lane z) in (r, kept c.lane t r y, q);
    flying_open = λ m g i e k. h.flying_open m g (f.flies m g i) (unsettled' m g.token e) (subst (λ c. c ≤ g.epoch) (f.fences m) k);
    flying_epochs = λ m g i. h.flying_epochs m g (f.flies m g i);
    flying_at_rest = λ m g o i e. h.flying_at_rest m g o (f.flies m g i) (unsettled' m g.token e);
    fences = λ m. subst (λ c. c ≤ a.epoch) (sym (f.fences m)) (h.fences m);
    known = λ i e z. f.knows (lane_of i) i (h.known i e (there_before (lane_of i) z));
    gone = gone;
    alive = λ i r e z. alive i r e;
    same = same;
    changed = changed;
    born = born;
    live_named = live_named;
    listed = listed;
  }

-- what a call leaves of its lane: the lane itself, one more settled call, or one more that flies
pub data Leaves (n : List ℕ) (l l' : FencedLane) (e t : ℕ) (r : Request) : Type 0 where
  alone : l' ≡ l → Leaves n l l' e t r
  settled : (x : Settlement) → settled_at t l.state.settled ≡ None → MaySettle n l.state r x → l' ≡ record l { state = with_settled l.state (record { token = t; request = r; settlement = x }) } → Leaves n l l' e t r
  flown : settled_at t l.state.settled ≡ None → l' ≡ with_flying l (record { epoch = e; token = t; request = r }) → Leaves n l l' e t r

module _ (n : List ℕ) (l l' : FencedLane) (e t : ℕ) (r : Request) where
  by_settling : (x : Settlement) (o : Option Settlement) (st : LaneState) → settlement_of t l.state.settled ≡ o → SettlesBy o n l.state st t r x → l' ≡ record l { state = st } → Leaves n l l' e t r
  by_settling x (Some earlier) st h m k = alone (k ∙ ap (λ s. record l { state = s }) m.1)
  by_settling x None st h m k = settled x (unsettled t l.state.settled h) m.0 (k ∙ ap (λ s. record l { state = s }) m.1)

  by_moving : (x : Answer) (st : LaneState) → LaneMove n l.state st t r x → l' ≡ record l { state = st } → Leaves n l l' e t r
  by_moving (answer.Success i p) st m k = by_settling (Success i p) _ st refl m k
  by_moving (answer.Failed c) st m k = by_settling (Failed c) _ st refl m k
  by_moving answer.Fault st (inl m) k = alone (k ∙ ap (λ s. record l { state = s }) m)
  by_moving answer.Fault st (inr m) k = by_settling m.0 _ st refl m.2 k
  by_moving (answer.Stale f) st m k = alone (k ∙ ap (λ s. record l { state = s }) m)
  by_moving answer.NoMemory st m k = alone (k ∙ ap (λ s. record l { state = s }) m)

  pub leaves : (x : Answer) → CallMove n l l' e t r x → Leaves n l l' e t r
  leaves answer.Fault m = elim m.1 [ inl z ↦ by_moving answer.Fault z.0 z.1 z.2 | inr z ↦ flown (unsettled t l.state.settled z.0) z.1 ]
  leaves (answer.Stale f) m = alone m.2
  leaves answer.NoMemory m = alone m
  leaves x m = let (st, z, k) = m.1 in by_moving x st z k

module _ (a : Account) (n : List ℕ) (w w' : Lanes) (b : Books a) (h : Ties a w) (there' : IsThere w n) (l' : FencedLane) (rep : Replaced n l' w w') where
  -- an untouched lane
  pub ties_alone : l' ≡ w.lane n → Ties a w'
  ties_alone e = ties_raised a n l' w w' h rep (ap (λ (x : FencedLane). x.state) e) (λ f i. subst (λ (x : FencedLane). In f x.flying) e i)
      (subst (λ (x : FencedLane). (w.lane n).fence ≤ x.fence) (sym e) (omega arith)) (subst (λ (x : FencedLane). x.fence ≤ a.epoch) (sym e) (h.fences n))

  module _ (t : ℕ) (r : Request) (out : IsOut a n t r) where
    by_leaving : Leaves n (w.lane n) l' a.epoch t r → Ties a w'
    by_leaving (alone e) = ties_alone e
    by_leaving (settled x new fits e) =
        ties_settled a n (record { token = t; request = r; settlement = x }) w w' b h
        (settling n (record { token = t; request = r; settlement = x }) l' w w' rep
        (record { state = ap (λ (y : FencedLane). y.state) e; flies = λ f i. subst (λ (y : FencedLane). In f y.flying) e i; fence = ap (λ (y : FencedLane). y.fence) e }) new fits)
        new fits there' out.own out.accounted
    by_leaving (flown new e) =
        ties_flown a n l' w w' h rep (ap (λ (y : FencedLane). y.state) e) (record { epoch = a.epoch; token = t; request = r })
        (ap (λ (y : FencedLane). y.flying) e) (ap (λ (y : FencedLane). y.fence) e) out (omega arith)

    -- a call, whatever it answers
    pub ties_called : (x : Answer) → CallMove n (w.lane n) l' a.epoch t r x → Ties a w'
    ties_called x m = by_leaving (leaves n (w.lane n) l' a.epoch t r x m)

  by_raising : (w.lane n).fence ≤ a.epoch → l' ≡ raised_to (w.lane n) a.epoch → Ties a w'
  by_raising k e = ties_raised a n l' w w' h rep (ap (λ (x : FencedLane). x.state) e) (λ f i. subst (λ (x : FencedLane). In f x.flying) e i)
      (subst (λ (x : FencedLane). (w.lane n).fence ≤ x.fence) (sym e) k) (subst (λ (x : FencedLane). x.fence ≤ a.epoch) (sym e) (omega arith))

  -- a fence is raised, is ahead, or broke off
  pub ties_fenced : (x : FenceAnswer) (count counted : ℕ) → FenceMove (w.lane n) l' a.epoch x count counted → Ties a w'
  ties_fenced v0 c c' m = grind (arith, by_raising, ties_alone)

module _ (a : Account) (n : List ℕ) (w w' : Lanes) (b : Books a) (h : Ties a w) (there' : IsThere w n) (place : ℕ) (x : Settlement) (l' : FencedLane) (rep : Replaced n l' w w') where
  -- a late effect
  pub ties_late : LateMove n (w.lane n) l' place x → Ties a w'
  ties_late m =
      ties_settled a n s w w' b h
      (settling n s l' w w' rep
      (record {
        state = ap (λ (y : FencedLane). y.state) left;
        flies = λ f i. in_removed f (w.lane n).flying place (subst (λ (y : FencedLane). In f y.flying) left i);
        fence = ap (λ (y : FencedLane). y.fence) left;
      }) new m.fits)
      new m.fits there' (h.flying_calls n m.flying flies) (h.flying_open n m.flying flies new m.passes)
    where
      s : Settled
      s = record { token = (m.flying).token; request = (m.flying).request; settlement = x }

      flies : In m.flying (w.lane n).flying
      flies = in_got m.flying (w.lane n).flying place m.stands

      new : settled_at (m.flying).token (w.lane n).state.settled ≡ None
      new = unsettled (m.flying).token (w.lane n).state.settled m.is_new

      left : l' ≡ settled_late place x (w.lane n) (Some m.flying)
      left = m.leaves ∙ ap (λ o. settled_late place x (w.lane n) o) m.stands
