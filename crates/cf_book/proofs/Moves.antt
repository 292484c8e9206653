-- A lane that comes home from its call, as events of a life: late effects that came before, and the call.
use Rattle.std.proofs.Common.{◌≡◌, ℕ, ◌≤◌, ◌==◌, Bool, true, false, not, ◌⊎◌, inl, inr, List, [], ◌∷◌, ◌++◌, Option, Some, None, map, filter, find, option_map, refl, sym, ◌∙◌, ap, subst, cond, true≢false, arith}
use Rattle.std.specs.Str.{bytes_eq}
use Rattle.cf_tree.specs.Lists.{In}
use Rattle.cf_tree.specs.Lists.In.{here, there}
use Rattle.cf_tree.specs.declared.request.Answer.{Answer}
use Rattle.cf_tree.specs.declared.request.Answer.TheVariants as answer
use Rattle.cf_tree.specs.declared.request.Request.{Request}
use Rattle.cf_schema.specs.declared.described.Schema.{Schema}
use Rattle.cf_handler.specs.declared.settled.Settlement.{Settlement}
use Rattle.cf_handler.specs.declared.settled.Settlement.TheVariants.{Success, Failed}
use Rattle.cf_handler.specs.Fence.{CallMove, FencedLane, Left, Untouched, SettledBy, FlyingOn, late_by, left_by, with_flying}
use Rattle.cf_handler.specs.Lane.{LaneState, settlement_of}
use Rattle.cf_handler.specs.Move.{HasCause, Settles, SettlesBy, with_settled}
use Rattle.cf_handler.specs.Tells.{AreLate, LateEffect, Lates}
use Rattle.cf_plan.specs.Lanes.{Lane, lane_at}
use Rattle.cf_plan.specs.Life.{Act, Answered, CallEnd, Event, Happens, IsLife, Late, Lease, Life, changed, lane_acted, lease_at, lease_replying, life_after, replied_to, world_of}
use Rattle.cf_plan.proofs.ChangedLists.{find_mapped}
use Rattle.cf_plan.proofs.CreatedStays.{found_one}
use Rattle.cf_plan.proofs.Listed.{bytes_same, same_bytes}
use Rattle.cf_plan.proofs.Members.{false_from}
use Rattle.cf_book.specs.Events.{late_on}

-- one life after another
pub along : (schemas : List Schema) (a : Life) (es : List Event) (b : Life) (fs : List Event) (c : Life) → IsLife schemas a es b → IsLife schemas b fs c
    → IsLife schemas a (es ++ fs) c
along schemas a [] b fs c h g = subst (λ (z : Life). IsLife schemas z fs c) h g
along schemas a (e ∷ es) b fs c h g = (h.0, along schemas (life_after a e) es b fs c h.1 g)

-- One lane is in another state, and the others are as they were.
pub record IsMovedTo (before after : List Lane) (name : List ℕ) (l : Lane) (state : FencedLane) : Type 0 where
  pub itself : lane_at name after ≡ Some (record l { state = state })
  pub others : (m : List ℕ) → bytes_eq m name ≡ false → lane_at m after ≡ lane_at m before

module _ (name : List ℕ) (f : FencedLane → FencedLane) where
  same_name : (l : Lane) → (changed name f l).name ≡ l.name
  same_name l = by (bytes_eq name l.name) where
    by : (b : Bool) → (cond b (record l { state = f l.state }) l).name ≡ l.name
    by true = refl
    by false = refl

  found_under : (m : List ℕ) (ls : List Lane) → lane_at m (map (changed name f) ls) ≡ option_map (changed name f) (lane_at m ls)
  found_under m ls = find_mapped (λ (x : Lane). bytes_eq m x.name) (changed name f) ls (λ x. ap (bytes_eq m) (same_name x))

  pub moved_lane : (ls : List Lane) (l : Lane) → lane_at name ls ≡ Some l → lane_at name (map (changed name f) ls) ≡ Some (record l { state = f l.state })
  moved_lane ls l at =
      let is : bytes_eq name l.name ≡ true = (found_one (λ (x : Lane). bytes_eq name x.name) ls l at).1 in
      found_under name ls ∙ ap (option_map (changed name f)) at ∙ ap (λ b. Some (cond b (record l { state = f l.state }) l)) is

  pub other_lane : (ls : List Lane) (m : List ℕ) → bytes_eq m name ≡ false → lane_at m (map (changed name f) ls) ≡ lane_at m ls
  other_lane ls m n = found_under m ls ∙ by (lane_at m ls) refl where
    by : (o : Option Lane) → lane_at m ls ≡ o → option_map (changed name f) o ≡ o
    by None e = refl
    by (Some l) e =
        let is : m ≡ l.name = bytes_same m l.name (found_one (λ (x : Lane). bytes_eq m x.name) ls l e).1 in
        let other : bytes_eq name l.name ≡ false = false_from (bytes_eq name l.name) (λ t.
        true≢false (sym (subst (λ k. bytes_eq m k ≡ true) (is ∙ sym (bytes_same name l.name t)) (same_bytes m)) ∙ n)) in
        ap (λ b. Some (cond b (record l { state = f l.state }) l)) other

  pub moved : (ls : List Lane) (l : Lane) → lane_at name ls ≡ Some l → IsMovedTo ls (map (changed name f) ls) name l (f l.state)
  moved ls l at = record { itself = moved_lane ls l at; others = λ m n. other_lane ls m n }

-- one move after another
pub moved_on : (a b c : List Lane) (name : List ℕ) (l : Lane) (s t : FencedLane) → IsMovedTo a b name l s → IsMovedTo b c name (record l { state = s }) t
    → IsMovedTo a c name l t
moved_on a b c name l s t h g = record { itself = g.itself; others = λ m n. g.others m n ∙ h.others m n }

-- late effects
pub lates_lead : (schemas : List Schema) (life : Life) (name : List ℕ) (l : Lane) (effects : List LateEffect) (after : FencedLane)
    → lane_at name life.lanes ≡ Some l → AreLate name l.state effects after
    → (lanes : List Lane) × IsLife schemas life (map (late_on name) effects) (record life { lanes = lanes }) × IsMovedTo life.lanes lanes name l after
lates_lead schemas life name l [] after at h =
    (life.lanes, refl, record { itself = at ∙ ap (λ (s : FencedLane). Some (record l { state = s })) (sym h); others = λ m n. refl })
lates_lead schemas life name l (e ∷ es) after at h =
    let f : FencedLane → FencedLane = late_by e.place e.settlement in
    let one = moved name f life.lanes l at in
    let (lanes, lives, more) = lates_lead schemas (record life { lanes = map (changed name f) life.lanes }) name (record l { state = f l.state }) es after one.itself h.1 in
    (lanes, ((l, at, h.0), lives), moved_on life.lanes (map (changed name f) life.lanes) lanes name l (f l.state) after one more)

-- What a call leaves on its lane.
module _ (epoch token : ℕ) (r : Request) (before : FencedLane) where
  abbrev IsLeft : FencedLane → Type 0
  IsLeft after = (left : Left) × (after ≡ left_by left epoch token r before)

  settled_left : (name : List ℕ) (o : Option Settlement) (state : LaneState) (s : Settlement) → SettlesBy o name before.state state token r s
      → IsLeft (record before { state = state })
  settled_left name (Some earlier) state s h = (Untouched, ap (λ (z : LaneState). record before { state = z }) h.1)
  settled_left name None state s h = (SettledBy s, ap (λ (z : LaneState). record before { state = z }) h.1)

  state_left : (after : FencedLane) (state : LaneState) → after ≡ record before { state = state } → IsLeft (record before { state = state }) → IsLeft after
  state_left after state e h = (h.0, e ∙ h.1)

  pub call_left : (name : List ℕ) (after : FencedLane) (a : Answer) → CallMove name before after epoch token r a → IsLeft after
  call_left name after (answer.Success physical attrs) (passes, (state, m, e)) =
      state_left after state e (settled_left name (settlement_of token before.state.settled) state (Success physical attrs) m)
  call_left name after (answer.Failed code) (passes, (state, m, e)) =
      state_left after state e (settled_left name (settlement_of token before.state.settled) state (Failed code) m)
  call_left name after answer.Fault (passes, h) = elim h [
    | inl (state, m, e) ↦ state_left after state e (elim m [
      | inl same ↦ (Untouched, ap (λ (z : LaneState). record before { state = z }) same)
      | inr (s, new, m) ↦ settled_left name (settlement_of token before.state.settled) state s m
    ])
    | inr (new, e) ↦ (FlyingOn, e)
  ]
  call_left name after (answer.Stale fence) h = (Untouched, h.2)
  call_left name after answer.NoMemory h = (Untouched, h)

-- The call of a lease that is out, made on its lane.
pub call_leads : (schemas : List Schema) (life : Life) (lease : Lease) (l : Lane) (mid after : FencedLane) (a : Answer) (before counted : ℕ)
    → lease_at lease.token life ≡ Some lease → lease.reply ≡ None → lane_at lease.lane life.lanes ≡ Some l → Lates lease.lane l.state mid
    → HasCause before counted a → CallMove lease.lane mid after (world_of life).epoch lease.token lease.request a
    → (effects : List LateEffect) × (left : Left) × (lanes : List Lane)
    × IsLife schemas life (map (late_on lease.lane) effects ++ Act lease.token (Answered a before counted) left ∷ [])
    (record life { lanes = lanes; leases = map (lease_replying lease.token (Answered a before counted)) life.leases })
    × IsMovedTo life.lanes lanes lease.lane l after
call_leads schemas life lease l mid after a before counted out none at (effects, late) cause move =
    let (lanes, lives, moves) = lates_lead schemas life lease.lane l effects mid at late in
    let half : Life = record life { lanes = lanes } in
    let named : lease.lane ≡ l.name = bytes_same lease.lane l.name (found_one (λ (x : Lane). bytes_eq lease.lane x.name) life.lanes l at).1 in
    let (left, is) = call_left (world_of life).epoch lease.token lease.request mid lease.lane after a move in
    let f : FencedLane → FencedLane = left_by left (world_of life).epoch lease.token lease.request in
    let reply : CallEnd = Answered a before counted in
    let may : CallMove l.name mid (f mid) (world_of life).epoch lease.token lease.request a =
    subst (λ n. CallMove n mid (f mid) (world_of life).epoch lease.token lease.request a) named
    (subst (λ z. CallMove lease.lane mid z (world_of life).epoch lease.token lease.request a) is move) in
    let happens : Happens schemas half (Act lease.token reply left) = (lease, record l { state = mid }, out, none, moves.itself, (cause, may)) in
    let acted : life_after half (Act lease.token reply left) ≡ record life { lanes = map (changed lease.lane f) lanes; leases = map (lease_replying lease.token reply) life.leases } =
    ap (λ (o : Option Lease). replied_to lease.token reply (lane_acted left o half)) out in
    let step = moved lease.lane f lanes (record l { state = mid }) moves.itself in (
      effects,
      left,
      map (changed lease.lane f) lanes,
      along schemas life (map (late_on lease.lane) effects) half (Act lease.token reply left ∷ []) _ lives (happens, sym acted),
      subst (λ z. IsMovedTo life.lanes (map (changed lease.lane f) lanes) lease.lane l z) (sym is) (moved_on life.lanes lanes (map (changed lease.lane f) lanes) lease.lane l mid (f mid) moves step),
    )

-- leases of other tokens are as they were
pub others_left : (token : ℕ) (reply : CallEnd) (ls : List Lease)
    → filter (λ (l : Lease). not (token == l.token)) (map (lease_replying token reply) ls) ≡ filter (λ (l : Lease). not (token == l.token)) ls
others_left token reply [] = refl
others_left token reply (l ∷ ls) = by (token == l.token) refl (others_left token reply ls) where
  test : Lease → Bool
  test m = not (token == m.token)

  by : (b : Bool) → (token == l.token) ≡ b → filter test (map (lease_replying token reply) ls) ≡ filter test ls
      → filter test (cond (token == l.token) (record l { reply = Some reply }) l ∷ map (lease_replying token reply) ls) ≡ filter test (l ∷ ls)
  by b e ih = grind (arith, e, ih)
