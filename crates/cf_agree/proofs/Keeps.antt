-- The laws.
use Rattle.cf_agree.proofs.Calls.{each_lane, Leaves, leaves as call_leaves, ties_alike, ties_called, ties_fenced, Alike, one_call, request_of, ties_late}
use Rattle.cf_agree.proofs.Effects.{gone_names, set_names, made_success}
use Rattle.cf_agree.proofs.Leases.{Stays, leased_still, leased_replied, leased_by, leased_returned, leased_granted}
use Rattle.cf_agree.proofs.Words.{bytes_or, if_same, if_other, number_or, at_same, at_other, used_born, settled_as, entry_now, entry_still, unsettled}
use Rattle.cf_agree.specs.Account.{Thing, Role, Open, Account, made_thing, set_thing, role_after, creates, Called, called_of, intended, answered, dropped, is_open_create}
use Rattle.cf_agree.specs.Account.Role.{Stranger, Resource, Leftover}
use Rattle.cf_agree.specs.Base.{Dict, Made, Set, named_by, gone_by, change_of, lane_of, settled_at}
use Rattle.cf_agree.specs.Lanes.{Lanes, settled_under, IsThere, live_in, used_in, Replaced}
use Rattle.cf_agree.specs.Moves.{MayBeWritten, stays, leaves, doubted, MayDrop, IsOut, CallOut, returned}
use Rattle.cf_agree.specs.Ties.{Books, Ties, FitsCall, IsSettledCall, IsAccounted, IsMade, IsGone, IsChanged, IsBorn, IsLost, AreTied}
use Rattle.cf_tree.specs.{Lists.In, declared.request.Answer.Answer, declared.request.Request.Request}
use Rattle.cf_tree.specs.declared.request.Request.TheVariants.{Create, Update, Delete}
use Rattle.cf_agree.specs.Laws.{Agrees, CallKeeps, LateKeeps, FenceKeeps, OpeningKeeps, RestKeeps, IntentKeeps, AnswerKeeps, ReturnKeeps, DropKeeps}
use Rattle.cf_handler.specs.Answered.{settlement_in}
use Rattle.cf_handler.specs.{declared.fence.FenceAnswer.FenceAnswer, declared.fence.FenceAnswer.TheVariants.Raised, declared.fence.FenceAnswer.TheVariants.Ahead, declared.fence.FenceAnswer.TheVariants.Fault}
use Rattle.cf_handler.specs.Fence.{Flying, FencedLane, CallMove, FenceMove, settled_late}
use Rattle.cf_handler.specs.declared.{settled.Settled.Settled, settled.Settlement.Settlement}
use Rattle.cf_handler.specs.declared.settled.Settlement.TheVariants.{Success, Failed}
use Rattle.cf_handler.specs.{Lane.LaneState, Lane.Live, Lane.settlement_of, Move.IsOfLane, Move.SettlesBy, Move.with_settled}
use Rattle.std.proofs.Common.{◌≡◌, ◌≢◌, inl, inr, ℕ, List, true, Some, None, refl, sym, ap, ◌∙◌, ◌⊎◌, ◌+◌, ◌≤◌, Bool, Option, subst, arith, ◌||◌, ◌&&◌, false, true≢false}
use Rattle.std.specs.Prelude.{cond}
use Rattle.cf_tree.specs.declared.code.Code.TheVariants as code

-- What an answer does to the role of an id, and what the books say of calls on one id.

-- an answer made the id, set it, took it away, or left it
pub data Turns (o : Open) (r : Request) (x : Settlement) (role : List ℕ → Role) (i : List ℕ) : Type 0 where
  makes : (k : List ℕ) (p t : Dict) → change_of r x ≡ Made i k p t → role_after o r x role i ≡ Resource (made_thing o k p t) → Turns o r x role i
  sets : (p t : Dict) → change_of r x ≡ Set i p t → role_after o r x role i ≡ set_thing p t (role i) → Turns o r x role i
  takes : gone_by r x ≡ Some i → role_after o r x role i ≡ Stranger → Turns o r x role i
  keeps : ((k : List ℕ) (p t : Dict) → change_of r x ≢ Made i k p t) → ((p t : Dict) → change_of r x ≢ Set i p t) → gone_by r x ≢ Some i → role_after o r x role i ≡ role i → Turns o r x role i

pub turns : (o : Open) (r : Request) (x : Settlement) (role : List ℕ → Role) (i : List ℕ) → Turns o r x role i
turns o (Create k p) (Success j t) role i = elim (bytes_or i j) [
  | inl e ↦ makes k p t (ap (λ q. Made q k p t) (sym e)) (if_same i j (Resource (made_thing o k p t)) (role i) e)
  | inr e ↦ keeps (λ k' p' t' c. e (cc)) (λ p' t' c. absurd (cc)) (λ c. absurd (cc)) (if_other i j _ (role i) e)
]
turns o (Update j p) (Success j' t) role i = elim (bytes_or i j) [
  | inl e ↦ sets p t (ap (λ q. Set q p t) (sym e)) (if_same i j (set_thing p t (role i)) (role i) e)
  | inr e ↦ keeps (λ k' p' t' c. absurd (cc)) (λ p' t' c. e (cc)) (λ c. absurd (cc)) (if_other i j (set_thing p t (role i)) (role i) e)
]
turns o (Delete j) (Success j' t) role i = elim (bytes_or i j) [
  | inl e ↦ takes (ap Some (sym e)) (if_same i j Stranger (role i) e)
  | inr e ↦ keeps (λ k' p' t' c. absurd (cc)) (λ p' t' c. absurd (cc)) (λ c. e (cc)) (if_other i j Stranger (role i) e)
]
turns o (Delete j) (Failed code.NotFound) role i = elim (bytes_or i j) [
  | inl e ↦ takes (ap Some (sym e)) (if_same i j Stranger (role i) e)
  | inr e ↦ keeps (λ k' p' t' c. absurd (cc)) (λ p' t' c. absurd (cc)) (λ c. e (cc)) (if_other i j Stranger (role i) e)
]
turns o r x role i = keeps (λ k' p' t' c. absurd (cc)) (λ p' t' c. absurd (cc)) (λ c. absurd (cc)) refl

pub names_none : (r : Request) → named_by r ≡ None → creates r ≡ true
names_none r e = grind arith

-- An opening, a stack that begins or ends its work, and a call that is written down keep agreement.

-- a call fits where the last token and the calls that were written down are the same
pub fits_as : (a : Account) (x : Account) (n : List ℕ) (t : ℕ) (r : Request) → FitsCall a n t r → FitsCall (record x { last = a.last; call = a.call }) n t r
fits_as a x n t r f = record { number = f.number; written = f.written }

module _ (a : Account) (w : Lanes) (b : Books a) (h : Ties a w) (o : Open) where
  pub old : (t : ℕ) (v : Open) → t ≤ a.last → (intended o a).open_ t ≡ Some v → a.open_ t ≡ Some v
  old t v l e = sym (at_other t (a.last + 1) (Some o) (a.open_ t) (λ z. omega arith)) ∙ e

  pub more : (t : ℕ) (v : Open) → a.open_ t ≡ Some v → (intended o a).open_ t ≡ Some v
  more t v e = let l = b.numbers t (called_of v) (b.calls t v e) in at_other t (a.last + 1) (Some o) (a.open_ t) (λ z. omega arith) ∙ e

  call_more : (t : ℕ) (c : Called) → a.call t ≡ Some c → (intended o a).call t ≡ Some c
  call_more t c e = let l = b.numbers t c e in at_other t (a.last + 1) (Some (called_of o)) (a.call t) (λ z. omega arith) ∙ e

  pub ties_intended : Ties (intended o a) w
  ties_intended =
      ties_alike a (intended o a) w w h (record { kinds = λ m. refl; states = λ m. refl }) (λ n t r f. grind arith)
      (λ t v s e. (old t v (h.settled_calls v.lane t s e).number, more t v)) h.handed
      (λ t x c e k. let (d, y) = b.told_calls t x e in let u = call_more t d y in (e, y ∙ cc)) (record {
        fences = h.fences;
        calls = λ n f i. grind arith;
        opens = λ n f i e k. elim (h.flying_open n f i e k) [ inl x ↦ inl (x.0, more f.token x.0 x.1) | inr x ↦ inr x ];
        epochs = h.flying_epochs;
        at_rest = λ n f v i e k z. h.flying_at_rest n f v i e (old f.token v (h.flying_calls n f i).number k) z;
      })

  pub books_intended : MayBeWritten a o → Books (intended o a)
  books_intended may = grind arith

-- An open call that is answered for good keeps agreement.

module _ (a : Account) (w : Lanes) (b : Books a) (h : Ties a w) (t : ℕ) (o : Open) (s : Settled) (is : IsSettledCall a w t o s) where
  abbrev after : Account
  after = answered t o s.settlement a

  pub open_old : (u : ℕ) (v : Open) → after.open_ u ≡ Some v → (u ≢ t) × (a.open_ u ≡ Some v)
  open_old u v e = grind arith

  pub open_kept : (u : ℕ) (v : Open) → u ≢ t → a.open_ u ≡ Some v → after.open_ u ≡ Some v
  open_kept u v k e = at_other u t None (a.open_ u) k ∙ e

  request_is : o.request ≡ s.request
  request_is = request_of a w b h t o s is

  was : (u : ℕ) (v : Open) (r : Settled) → IsSettledCall after w u v r → IsSettledCall a w u v r
  was u v r (x, y) = ((open_old u v x).1, y)

  -- what was settled and open is it still, or is this call
  still : (u : ℕ) (v : Open) (r : Settled) → IsSettledCall a w u v r → IsSettledCall after w u v r ⊎ (r ≡ s)
  still u v r (x, y) = grind arith

  turn : (i : List ℕ) → Turns o s.request s.settlement a.role i
  turn i = turns o s.request s.settlement a.role i

  role_is : (i : List ℕ) → after.role i ≡ role_after o s.request s.settlement a.role i
  role_is i = ap (λ r. role_after o r s.settlement a.role i) request_is

  -- the id that the answer made was a stranger, and is live; one that it set is a resource of its stack
  made_was : (i k : List ℕ) (p u : Dict) → change_of s.request s.settlement ≡ Made i k p u → a.role i ≡ Stranger
  made_was i k p u d = (h.born t o s i k p u is d).1

  set_was : (i : List ℕ) (p u : Dict) → change_of s.request s.settlement ≡ Set i p u → (r : Thing) × (a.role i ≡ Resource r) × (r.stack ≡ o.stack) × (r.path ≡ o.path)
  set_was i p u d = b.named t o i is.0 (ap named_by request_is ∙ set_names s.request s.settlement i p u d)

  set_now : (i : List ℕ) (p u : Dict) (r : Thing) → a.role i ≡ Resource r → role_after o s.request s.settlement a.role i ≡ set_thing p u (a.role i)
      → after.role i ≡ Resource (record r { props = p; attrs = u; sure = true })
  set_now i p u r e k = role_is i ∙ k ∙ (ap (set_thing p u) e)

  named : (u : ℕ) (v : Open) (i : List ℕ) → after.open_ u ≡ Some v → named_by v.request ≡ Some i → (r : Thing) × (after.role i ≡ Resource r) × (r.stack ≡ v.stack) × (r.path ≡ v.path)
  named u v i e k = go (turn i) where
    before : (r : Thing) × (a.role i ≡ Resource r) × (r.stack ≡ v.stack) × (r.path ≡ v.path)
    before = b.named u v i (open_old u v e).1 k

    go : Turns o s.request s.settlement a.role i → (r : Thing) × (after.role i ≡ Resource r) × (r.stack ≡ v.stack) × (r.path ≡ v.path)
    go v0 = grind (arith, made_was, before, set_names, gone_names, role_is, open_old, one_call, b, is, request_is)

  homes : (i : List ℕ) (r : Thing) → after.role i ≡ Resource r → IsOfLane (lane_of i) i × (a.named (lane_of i) ≡ Some r.kind)
  homes i r e = go (turn i) where
    go : Turns o s.request s.settlement a.role i → IsOfLane (lane_of i) i × (a.named (lane_of i) ≡ Some r.kind)
    go v0 = grind (arith, role_is, request_is, made_success, named, set_was, set_now)

  pub books_answered : Books after
  books_answered = record {
    calls = λ u v e. b.calls u v (open_old u v e).1;
    numbers = b.numbers;
    untold = λ u v e. let x = open_old u v e in at_other u t (Some s.settlement) (a.told u) x.0 ∙ b.untold u v x.1;
    told_calls = λ u x e. elim (number_or u t) [
      | inl k ↦ (called_of o, subst (λ c. a.call c ≡ Some (called_of o)) (sym k) (b.calls t o is.0))
      | inr k ↦ b.told_calls u x (sym (at_other u t (Some s.settlement) (a.told u) k) ∙ e)
    ];
    lost_calls = λ u e. grind (arith, b.lost_calls u);
    named = named;
    home = λ u v i e. b.home u v i (open_old u v e).1;
    once = λ u c v x e k. b.once u c v x (open_old u v e).1 (open_old c x k).1;
    homes = homes;
    open_homes = λ u v e. b.open_homes u v (open_old u v e).1;
  }

  gone : (i : List ℕ) (r : Thing) → after.role i ≡ Resource r → IsGone after w i → live_in w (lane_of i) i ≡ None
  gone i r e (u, v, q, x, d) =
      let y = was u v q x in
      let z = b.named u v i y.0 (ap named_by (request_of a w b h u v q y) ∙ gone_names q.request q.settlement i d) in
      h.gone i z.0 z.1 (u, v, q, y, d)

  alive : (i : List ℕ) (r : Thing) → after.role i ≡ Resource r → IsThere w (lane_of i) → (IsGone after w i → ⊥) → (v : Live) × (live_in w (lane_of i) i ≡ Some v) × (v.kind ≡ r.kind)
  alive i r e th g = go (turn i) where
    go : Turns o s.request s.settlement a.role i → (v : Live) × (live_in w (lane_of i) i ≡ Some v) × (v.kind ≡ r.kind)
    go (makes k p c d q) =
        let x : Resource (made_thing o k p c) ≡ Resource r = sym q ∙ sym (role_is i) ∙ e in
        let y : made_thing o k p c ≡ r = cc in
        let z = (h.created_named o.lane i t s is.1 (k, p, c, d)).0 in
        (record { id = i; kind = k; props = p; attrs = c }, ap (λ n. live_in w n i) z ∙ (h.born t o s i k p c is d).0, ap (λ (v : Thing). v.kind) y)
    go (sets p c d q) = grind arith
    go (takes d q) = let x = role_is i in absurd (cc)
    go (keeps c c' c'' q) =
        h.alive i r (sym q ∙ sym (role_is i) ∙ e) th (λ (u, v, q', x', d'). elim (still u v q' x') [
          | inl n ↦ g (u, v, q', n, d')
          | inr n ↦ c'' (subst (λ (m : Settled). gone_by m.request m.settlement ≡ Some i) n d')
        ])

  same : (i : List ℕ) (r : Thing) (v : Live) → after.role i ≡ Resource r → r.sure ≡ true → (IsChanged after w i → ⊥) → live_in w (lane_of i) i ≡ Some v → (v.props ≡ r.props) × (v.attrs ≡ r.attrs)
  same i r v e su g l = go (turn i) where
    go : Turns o s.request s.settlement a.role i → (v.props ≡ r.props) × (v.attrs ≡ r.attrs)
    go (makes k p c d q) = grind (arith, role_is)
    go (sets p c d q) = grind (arith, set_was, set_now, b, is, request_is, set_names)
    go (takes d q) = let x = role_is i in absurd (cc)
    go (keeps c c' c'' q) =
        h.same i r v (sym q ∙ sym (role_is i) ∙ e) su (λ (u, v', q', p, c0, x', d'). elim (still u v' q' x') [
          | inl n ↦ g (u, v', q', p, c0, n, d')
          | inr n ↦ c' p c0 (subst (λ (m : Settled). change_of m.request m.settlement ≡ Set i p c0) n d')
        ]) l

  born :
      (u : ℕ) (v : Open) (q : Settled) (i k : List ℕ) (p c : Dict) → IsSettledCall after w u v q → change_of q.request q.settlement ≡ Made i k p c
      → (live_in w v.lane i ≡ Some (record { id = i; kind = k; props = p; attrs = c })) × (after.role i ≡ Stranger)
  born u v q i k p c x d = (before.0, go (turn i)) where
    before : (live_in w v.lane i ≡ Some (record { id = i; kind = k; props = p; attrs = c })) × (a.role i ≡ Stranger)
    before = h.born u v q i k p c (was u v q x) d

    go : Turns o s.request s.settlement a.role i → after.role i ≡ Stranger
    go (makes k' p' c' d' m) = grind (arith, open_old u v, h.created_named v.lane i u q x.1, h.created_named o.lane i t s is.1, h.created_once o.lane i t u s q)
    go (sets p' c' d' m) = let y = (set_was i p' c' d').1 in let z = before.1 in absurd (cc)
    go (takes d' m) = role_is i ∙ m
    go (keeps e e' e'' m) = role_is i ∙ m ∙ before.1

  listed : (n i : List ℕ) (v : Live) → live_in w n i ≡ Some v → (after.role i ≢ Stranger) ⊎ IsBorn after w i ⊎ IsLost after w i
  listed n i v l = go (turn i) where
    -- what is live is so at its own lane
    by_before : (a.role i ≢ Stranger → (after.role i ≢ Stranger) ⊎ IsBorn after w i ⊎ IsLost after w i) → (IsMade s i → (after.role i ≢ Stranger) ⊎ IsBorn after w i ⊎ IsLost after w i) → (after.role i ≢ Stranger) ⊎ IsBorn after w i ⊎ IsLost after w i
    by_before f g = elim (h.listed n i v l) [
      | inl x ↦ f x
      | inr x ↦ elim x [
        | inl (u, y, q, z, m) ↦ elim (still u y q z) [ inl e ↦ inr (inl (u, y, q, e, m)) | inr e ↦ g (subst (λ (r : Settled). IsMade r i) e m) ]
        | inr y ↦ inr (inr y)
      ]
    ]

    go : Turns o s.request s.settlement a.role i → (after.role i ≢ Stranger) ⊎ IsBorn after w i ⊎ IsLost after w i
    go (makes k p c d q) = inl (λ e. let x = role_is i in absurd (cc))
    go (sets p c d q) = let (r, x, y, z) = set_was i p c d in inl (λ e. let f = set_now i p c r x q in absurd (cc))
    go (takes d q) = grind (arith, gone, b, named, is, request_is, gone_names)
    go (keeps e e' e'' q) = by_before (λ x. inl (λ y. x (sym q ∙ sym (role_is i) ∙ y))) (λ (k, p, c, m). absurd (e k p c m))

  known : (i : List ℕ) → after.role i ≢ Stranger → IsThere w (lane_of i) → used_in w (lane_of i) i ≡ true
  known i e th = go (turn i) where
    go : Turns o s.request s.settlement a.role i → used_in w (lane_of i) i ≡ true
    go (makes k p c d q) =
        let z = (h.created_named o.lane i t s is.1 (k, p, c, d)).0 in
        subst (λ n. used_in w n i ≡ true) (sym z) (used_born t i c (w.lane o.lane).state s is.1 (made_success s.request s.settlement i k p c d).0)
    go (sets p c d q) = let (r, x, y, z) = set_was i p c d in h.known i (λ k. absurd (cc)) th
    go (takes d q) = absurd (e (role_is i ∙ q))
    go (keeps c c' c'' q) = h.known i (λ k. e (role_is i ∙ q ∙ k)) th

  pub leftover_stays : (i : List ℕ) → a.role i ≡ Leftover → after.role i ≡ Leftover
  leftover_stays i y = grind (arith, role_is, turn, made_was, set_was, b, named, is, request_is, gone_names)

  flying_open : (n : List ℕ) (f : Flying) → In f (w.lane n).flying → settled_under w n f.token ≡ None → (w.lane n).fence ≤ f.epoch → IsAccounted after f.token f.request
  flying_open n f m e k = grind (arith, h.flying_open n f m e k, open_kept f.token, leftover_stays)

  answers : (u : ℕ) (x : Settlement) (c : Called) → after.told u ≡ Some x → a.call u ≡ Some c → IsThere w c.lane → (r : Settled) × (settled_under w c.lane u ≡ Some r) × (r.settlement ≡ x)
  answers u x c e k th = grind arith

  pub ties_answered : Ties after w
  ties_answered =
      let fits : (n : List ℕ) (u : ℕ) (r : Request) → FitsCall a n u r → FitsCall after n u r = fits_as a after in
      let rests : (u : ℕ) (v : Open) → after.open_ u ≡ Some v → a.open_ u ≡ Some v = λ u v e. (open_old u v e).1 in
      let changed = λ (u : ℕ) (v : Open) (q : Settled) (i : List ℕ) (p c : Dict) (x : IsSettledCall after w u v q). h.changed u v q i p c (was u v q x) in
      search (answers, flying_open, known, gone, alive, same, born, listed, changed, h.settled_calls, h.flying_calls, h.flying_at_rest, rests, fits)

-- Open calls that are given up, with what becomes of their resources, keep agreement: a resource that is kept, an abandoned create, a skipped update.

module _ (a : Account) (w : Lanes) (b : Books a) (h : Ties a w) (drop : ℕ → Bool) (role : List ℕ → Role) (may : MayDrop a w drop role) where
  abbrev after_dropped : Account
  after_dropped = dropped drop role a

  pub open_old_dropped : (u : ℕ) (v : Open) → after_dropped.open_ u ≡ Some v → (a.open_ u ≡ Some v) × (drop u ≡ false)
  open_old_dropped u v e = grind arith

  pub open_kept_dropped : (u : ℕ) (v : Open) → drop u ≡ false → a.open_ u ≡ Some v → after_dropped.open_ u ≡ Some v
  open_kept_dropped u v k e = ap (λ c. cond c None (a.open_ u)) k ∙ e

  pub lost_more : (u : ℕ) → a.lost u ≡ true → after_dropped.lost u ≡ true
  lost_more u e = ap (λ c. c || (drop u && is_open_create (a.open_ u))) e

  pub lost_now : (u : ℕ) (v : Open) → a.open_ u ≡ Some v → drop u ≡ true → named_by v.request ≡ None → after_dropped.lost u ≡ true
  lost_now u v e k c = let n = names_none v.request c in grind arith

  was_dropped : (u : ℕ) (v : Open) (r : Settled) → IsSettledCall after_dropped w u v r → IsSettledCall a w u v r
  was_dropped u v r (x, y) = ((open_old_dropped u v x).0, y)

  stranger_back : (i : List ℕ) → role i ≡ Stranger → a.role i ≡ Stranger
  stranger_back i e = elim (may.roles i) [ stays k ↦ sym k ∙ e | leaves r k l ↦ absurd (cc) | doubted r s k l x y z m ↦ absurd (cc) ]

  stranger_on : (i : List ℕ) → a.role i ≡ Stranger → role i ≡ Stranger
  stranger_on i e = elim (may.roles i) [ stays k ↦ k ∙ e | leaves r k l ↦ absurd (cc) | doubted r s k l x y z m ↦ absurd (cc) ]

  pub leftover_on : (i : List ℕ) → a.role i ≡ Leftover → role i ≡ Leftover
  leftover_on i e = elim (may.roles i) [ stays k ↦ k ∙ e | leaves r k l ↦ absurd (cc) | doubted r s k l x y z m ↦ absurd (cc) ]

  -- a resource was_dropped one, of the same_dropped stack, path and type, and is what it was_dropped where it is sure
  resource_back : (i : List ℕ) (r : Thing) → role i ≡ Resource r → (q : Thing) × (a.role i ≡ Resource q) × (q.kind ≡ r.kind) × (r.sure ≡ true → q ≡ r)
  resource_back i r e = grind arith

  pub books_dropped : Books after_dropped
  books_dropped = grind arith

  -- a settled call of a resource that is still_dropped one is open still_dropped, or was_dropped an update of what isn't known any more
  still_dropped : (u : ℕ) (v : Open) (q : Settled) (i : List ℕ) (r : Thing) → IsSettledCall a w u v q → named_by v.request ≡ Some i → role i ≡ Resource r
      → IsSettledCall after_dropped w u v q ⊎ ((r.sure ≡ false) × (gone_by q.request q.settlement ≢ Some i))
  still_dropped u v q i r (x, y) n e = grind arith

  alive_dropped : (i : List ℕ) (r : Thing) → role i ≡ Resource r → IsThere w (lane_of i) → (IsGone after_dropped w i → ⊥) → (v : Live) × (live_in w (lane_of i) i ≡ Some v) × (v.kind ≡ r.kind)
  alive_dropped i r e th g = grind (arith, resource_back, alive, still_dropped, request_of, gone_names)

  same_dropped : (i : List ℕ) (r : Thing) (v : Live) → role i ≡ Resource r → r.sure ≡ true → (IsChanged after_dropped w i → ⊥) → live_in w (lane_of i) i ≡ Some v → (v.props ≡ r.props) × (v.attrs ≡ r.attrs)
  same_dropped i r v e su g l = grind (arith, resource_back, same, still_dropped, request_of, set_names)

  listed_dropped : (n i : List ℕ) (v : Live) → live_in w n i ≡ Some v → (role i ≢ Stranger) ⊎ IsBorn after_dropped w i ⊎ IsLost after_dropped w i
  listed_dropped n i v l = grind (arith, listed, stranger_back, lost_more, lost_now, request_of, made_success, open_kept_dropped)

  -- what a call can still change is known after it, where one in doubt can't act any more
  pub accounted_dropped :
      (n : List ℕ) (t : ℕ) (r : Request) → FitsCall a n t r → ((v : Open) → a.open_ t ≡ Some v → a.resting v.stack ≡ true → (w.lane n).fence ≡ a.epoch → ⊥)
      → IsAccounted a t r → IsAccounted after_dropped t r
  accounted_dropped n t r fits never v5 = grind (arith, leftover_on, lost_more, open_kept_dropped, lost_now)

  flying_open_dropped : (n : List ℕ) (f : Flying) → In f (w.lane n).flying → settled_under w n f.token ≡ None → (w.lane n).fence ≤ f.epoch → IsAccounted after_dropped f.token f.request
  flying_open_dropped n f m e k = grind (arith, accounted_dropped, flying_open)

  pub ties_dropped : Ties after_dropped w
  ties_dropped =
      let fits : (n : List ℕ) (u : ℕ) (r : Request) → FitsCall a n u r → FitsCall after_dropped n u r = fits_as a after_dropped in
      let rests : (u : ℕ) (v : Open) → after_dropped.open_ u ≡ Some v → a.open_ u ≡ Some v = λ u v e. (open_old_dropped u v e).0 in
      let changed = λ (u : ℕ) (v : Open) (q : Settled) (i : List ℕ) (p c : Dict) (x : IsSettledCall after_dropped w u v q). h.changed u v q i p c (was_dropped u v q x) in
      let known = λ (i : List ℕ) (e : role i ≢ Stranger). h.known i (λ k. e (stranger_on i k)) in
      let gone : (i : List ℕ) (r : Thing) → role i ≡ Resource r → IsGone after_dropped w i → live_in w (lane_of i) i ≡ None
      = λ i r e (u, v, q, x, d). let (q', y, z, m) = resource_back i r e in h.gone i q' y (u, v, q, was_dropped u v q x, d) in
      search (flying_open_dropped, alive_dropped, same_dropped, born_dropped, listed_dropped, known, gone, changed, h.settled_calls, h.flying_calls, h.flying_at_rest, rests, fits)
    where
      born_dropped :
          (u : ℕ) (v : Open) (q : Settled) (i k : List ℕ) (p c : Dict) → IsSettledCall after_dropped w u v q → change_of q.request q.settlement ≡ Made i k p c
          → (live_in w v.lane i ≡ Some (record { id = i; kind = k; props = p; attrs = c })) × (role i ≡ Stranger)
      born_dropped u v q i k p c x d = let z = h.born u v q i k p c (was_dropped u v q x) d in (z.0, stranger_on i z.1)

-- settled entries stay where a lane is replaced by one that keeps them
module _ (n : List ℕ) (l : FencedLane) (w w' : Lanes) (rep : Replaced n l w w') where
  stays_with : ((t : ℕ) (s : Settled) → settled_under w n t ≡ Some s → settled_at t l.state.settled ≡ Some s) → Stays w w'
  stays_with keep = record { entries = each_lane n l w w' rep (λ m k x. (t : ℕ) (s : Settled) → settled_at t k.state.settled ≡ Some s → settled_at t x.state.settled ≡ Some s) keep (λ m k t s e. e) }

  as_before : l.state ≡ (w.lane n).state → Stays w w'
  as_before e = stays_with (λ t s k. ap (λ (x : LaneState). settled_at t x.settled) e ∙ k)

  one_more : (s : Settled) → l.state ≡ with_settled (w.lane n).state s → Stays w w'
  one_more s e = stays_with (λ t r k. ap (λ (x : LaneState). settled_at t x.settled) e ∙ entry_still t (w.lane n).state.settled s r k)

  by_leaving : (e t : ℕ) (r : Request) → Leaves n (w.lane n) l e t r → Stays w w'
  by_leaving e t r v3 = grind (arith, as_before, one_more)

-- an answer for good is the settled one
module _ (n : List ℕ) (l l' : FencedLane) (e t : ℕ) (r : Request) where
  by_settling : (x : Settlement) (o : Option Settlement) (st : LaneState) → settlement_of t l.state.settled ≡ o → SettlesBy o n l.state st t r x → l' ≡ record l { state = st }
      → (s : Settled) × (settled_at t l'.state.settled ≡ Some s) × (s.settlement ≡ x)
  by_settling x (Some earlier) st h m k =
      let (s, p, q) = settled_as t l.state.settled earlier h in
      (s, ap (λ (y : FencedLane). settled_at t y.state.settled) k ∙ ap (λ (y : LaneState). settled_at t y.settled) m.1 ∙ p, q ∙ sym m.0)
  by_settling x None st h m k =
      let s : Settled = record { token = t; request = r; settlement = x } in (
        s,
        ap (λ (y : FencedLane). settled_at t y.state.settled) k ∙ ap (λ (y : LaneState). settled_at t y.settled) m.1
            ∙ entry_now t l.state.settled s refl (unsettled t l.state.settled h),
        refl,
      )

  answer_settled : (x : Answer) (y : Settlement) → CallMove n l l' e t r x → settlement_in x ≡ Some y → (s : Settled) × (settled_at t l'.state.settled ≡ Some s) × (s.settlement ≡ y)
  answer_settled x y m k = grind (arith, by_settling)

pub call_keeps : CallKeeps
call_keeps a w w' ls l after x h mine there rep m = let b = (h.tied).books in record {
  tied = record { books = b; ties = ties_called a l.lane w w' b (h.tied).ties there after rep l.token l.request ((h.leased).out l mine) x m };
  leased = leased_replied a w w' ls h.leased (by_leaving l.lane after w w' rep a.epoch l.token l.request (call_leaves l.lane (w.lane l.lane) after a.epoch l.token l.request x m)) l (settlement_in x) mine
      (λ y e. let (s, p, q) = answer_settled l.lane (w.lane l.lane) after a.epoch l.token l.request x y m e in (s, ap (λ (z : FencedLane). settled_at l.token z.state.settled) rep.at ∙ p, q));
}

pub late_keeps : LateKeeps
late_keeps a w w' ls n after place x h there rep m = record {
  tied = record { books = (h.tied).books; ties = ties_late a n w w' (h.tied).books (h.tied).ties there place x after rep m };
  leased = leased_still a w w' ls h.leased
      (one_more n after w w' rep (record { token = (m.flying).token; request = (m.flying).request; settlement = x })
      (ap (λ (y : FencedLane). y.state) (m.leaves ∙ ap (λ o. settled_late place x (w.lane n) o) m.stands)));
}

pub fence_keeps : FenceKeeps
fence_keeps a w w' ls n after x before counted h there rep m = record {
  tied = record { books = (h.tied).books; ties = ties_fenced a n w w' (h.tied).books (h.tied).ties there after rep x before counted m };
  leased = leased_still a w w' ls h.leased (as_before n after w w' rep (state x m));
}
  where
    state : (x : FenceAnswer) → FenceMove (w.lane n) after a.epoch x before counted → after.state ≡ (w.lane n).state
    state v0 k = grind arith

pub opening_keeps : OpeningKeeps
opening_keeps a w named resting h may = grind arith

pub rest_keeps : RestKeeps
rest_keeps a w ls resting h less = grind arith

pub intent_keeps : IntentKeeps
intent_keeps a w ls o h may = (
  record { tied = tied; leased = leased_by a (intended o a) w ls h.leased (λ l i. keep l) },
  λ going. record { tied = tied; leased = leased_granted a (intended o a) w ls h.leased (a.last + 1) o.lane o.request (λ l i. keep l) (λ l i e. let k = (((h.leased).out l i).own).number in absurd (omega arith)) (new going) },
)
  where
    tied : AreTied (intended o a) w
    tied = record { books = books_intended a w (h.tied).books (h.tied).ties o may; ties = ties_intended a w (h.tied).books (h.tied).ties o }

    keep : (l : CallOut) → IsOut a l.lane l.token l.request → IsOut (intended o a) l.lane l.token l.request
    keep l x = grind arith

    -- the new call is the one that is open under the new token
    open_now : (intended o a).open_ (a.last + 1) ≡ Some o
    open_now = Rattle.cf_agree.proofs.Words.at_same (a.last + 1) (a.last + 1) (Some o) (a.open_ (a.last + 1)) refl

    new : a.resting o.stack ≡ false → IsOut (intended o a) o.lane (a.last + 1) o.request
    new going = grind (arith, open_now)

pub answer_keeps : AnswerKeeps
answer_keeps a w ls l o x h mine re op = by_entry ((h.leased).replies l x mine re)
  where
    by_entry : (s : Settled) × (settled_under w l.lane l.token ≡ Some s) × (s.settlement ≡ x) → Agrees (answered l.token o x a) w (returned l.token ls)
    by_entry (s, e, y) = let b = (h.tied).books in subst (λ z. Agrees (answered l.token o z a) w (returned l.token ls)) y (record {
      tied = record { books = books_answered a w b (h.tied).ties l.token o s is; ties = ties_answered a w b (h.tied).ties l.token o s is };
      leased = leased_returned a (answered l.token o s.settlement a) w ls h.leased l.token (λ m i n out. record {
        own = record { number = (out.own).number; written = (out.own).written };
        accounted = grind (arith, out.accounted, open_kept a w b (h.tied).ties l.token o s is m.token, leftover_stays a w b (h.tied).ties l.token o s is, n);
        going = λ v k. out.going v (open_old a w b (h.tied).ties l.token o s is m.token v k).1;
      });
    })
      where
        is : IsSettledCall a w l.token o s
        is = let fit = (((h.leased).out l mine).own).written (called_of o) ((h.tied).books.calls l.token o op) in
            (op, subst (λ n. settled_under w n l.token ≡ Some s) (sym fit.0) e)

pub return_keeps : ReturnKeeps
return_keeps a w ls t h = record { tied = h.tied; leased = leased_returned a a w ls h.leased t (λ l i n o. o) }

pub drop_keeps : DropKeeps
drop_keeps a w ls drop role h may =
    let b = (h.tied).books in
    let t = (h.tied).ties in
    record {
      tied = record { books = books_dropped a w b t drop role may; ties = ties_dropped a w b t drop role may };
      leased = leased_by a (dropped drop role a) w ls h.leased (λ l i out. record {
        own = fits_as a (dropped drop role a) l.lane l.token l.request out.own;
        accounted = accounted_dropped a w b t drop role may l.lane l.token l.request out.own (λ v e rest raised. true≢false (sym rest ∙ out.going v e)) out.accounted;
        going = λ v k. out.going v (open_old_dropped a w b t drop role may l.token v k).0;
      });
    }
