-- An outcome that is written down keeps what holds at each moment of a life.
use Rattle.std.proofs.Common.{◌≡◌, ℕ, List, [], ◌∷◌, ◌++◌, map, refl, sym, subst, ◌≢◌, inl, inr, ◌==◌, true, false, not, Option, Some, None, filter, find, ap, ◌∙◌, true≢false, arith, ◌+◌, ◌&&◌}
use Rattle.cf_core.proofs.Words.{Account, Act, Agrees, AgreesIn, Answer, Answered, AreHandedIn, AreTied, Books, BrokenWith, BrokenWithout, CallEnd, Close, Crash, End, Entry, FencedLane, FitsLane, Grant, Held, HeldIsLive, In, IsKindFor, IsLive, IsLocal, HasNextNumber, IsOfLane, IsOrderly, IsOut, IsOutcomeOf, IsSettledCall, IsSound, IsStart, IsThere, Lane, Lanes, LanesKeep, LanesOnce, Late, Lease as Granted, Life, Live, MayFollow, Happens, MayLeave, MayRepeat, StacksByName, OneStack, Open, Opened, OpenedKeeps, Park, Pending, Raise, RepeatKeeps, Replaced, Reply, Request, Resource, Schema, Settle, SettleKeeps, Settlement, StackState, Stage, Thing, Ties, Whole, World, account_of, account_with, bytes_eq, called_of, changed, changed_by, effect_at, empty_world, settled_under, first_again, first_so, fold_of, for_good, good_reply, has_token, heard, held_in, here, intended, is_at_rest, is_going, is_in_flight, is_lane_name, is_lane_of, is_opened_since, is_restore, lane_at, lane_of, lanes_of, late_by, lease_at, lease_for, lease_of, left_by, life_after, list_all, list_any, live_of, named_by, lane_types, no_lane, on_stack as stays_listed, open_as, open_in, open_on, option_map_or, option_or, pending_of, raised_to, repeated, replied as reply_of, resting_in, returned, role_in, second_so, settled_reply, stack_of_operation, there, thing_of, tokens_out, value_at, world_after, world_of}
use Rattle.cf_core.proofs.Lemmas.{any_of, eq-eqb, find_mapped, found_one, found_stands, if_other, if_same, in_any, map-append, is_found_in, not-true, number_or, one_id, one_lane}
use Rattle.cf_agree.proofs.Keeps.{call_keeps, late_keeps, fence_keeps, return_keeps, opening_keeps, intent_keeps, answer_keeps}
use Rattle.cf_agree.proofs.{Effects.gone_names, Effects.set_names, Leases.leased_granted, Words.bytes_same, Words.in_cons, Words.same_bytes}
use Rattle.cf_agree.proofs.Calls.{request_of}
use Rattle.cf_agree.specs.{Moves.CallOut, Moves.MayBeWritten, Moves.leases_granted, Moves.leases_replied}
use Rattle.cf_agree.specs.{Account.answered}
use Rattle.cf_core.proofs.Outcomes.{answered_stack, doubt_local, doubt_moves, held_stands, in_doubt, intent_local, open_found_in, outcome_local, outcome_moves, own_opened, role_found_in, token_of}
use Rattle.cf_core.proofs.Stacks.{IsOnOne, intent_moves, is_working, map_none, none_open, on_one, once_here, open_none, open_of, opening_moves, own_kept, role_of, sends, stands_on, or_none}
use Rattle.cf_core.proofs.FitKept.{left_by as answered_left, differ_left}
use Rattle.cf_plan.specs.Life.{lease_replying as replying_life}
use Rattle.cf_stacks.proofs.{Apart.stay_apart, Folded.folded_more}
use Rattle.std.specs.{Option.option_map}
use Rattle.cf_plan.proofs.Doing.{some_is as some_of}

-- One more entry of a life: what holds of the world that it leaves holds of the life.

-- what the journal says in a life, and its lanes
abbrev told_in : Life → Account
told_in life = account_of life.entries (world_of life)

abbrev held_by : Life → Lanes
held_by life = lanes_of life.lanes

module _ (life : Life) (e : Entry) where
  -- the entry is there: of its world
  pub agrees_more : (ls : List CallOut) → Agrees (account_with e life.entries (world_of life)) (lanes_of life.lanes) ls
      → Agrees (account_of (life.entries ++ e ∷ []) (fold_of empty_world (life.entries ++ e ∷ []))) (lanes_of life.lanes) ls
  agrees_more ls g = subst (λ x. Agrees (account_of (life.entries ++ e ∷ []) x) (lanes_of life.lanes) ls) (folded_more empty_world life.entries e) g

  pub orderly_more : IsOrderly (world_after (world_of life) e) → IsOrderly (fold_of empty_world (life.entries ++ e ∷ []))
  orderly_more g = subst IsOrderly (folded_more empty_world life.entries e) g

-- one stack changes, and takes nothing of another
pub orderly_on : (x : World) (e : Entry) (name : List ℕ) (s s' : StackState) → IsOrderly x → HasNextNumber e x → OneStack x.stacks (world_after x e).stacks name s s' → IsLocal x.stacks name s s'
    → (world_after x e).lanes ≡ x.lanes → IsOrderly (world_after x e)
orderly_on x e name s s' h next one local lanes = let apart = stay_apart x e h.apart next in record {
  apart = apart;
  own = own_kept x.stacks (world_after x e).stacks name s s' one local apart.names h.own;
  once = λ l m i j. h.once l m (subst (λ ls. In l ls) lanes i) (subst (λ ls. In m ls) lanes j);
}

-- The events of lanes and leases in a life keep agreement.

-- one lane is changed under its name
module _ (n : List ℕ) (change : FencedLane → FencedLane) where
  pub kept_name : (l : Lane) → (changed n change l).name ≡ l.name
  kept_name l = grind arith

  pub kept_kind : (l : Lane) → (changed n change l).kind ≡ l.kind
  kept_kind l = grind arith

  found_changed : (m : List ℕ) (ls : List Lane) → lane_at m (map (changed n change) ls) ≡ option_map (changed n change) (lane_at m ls)
  found_changed m ls = find_mapped (λ (l : Lane). bytes_eq m l.name) (changed n change) ls (λ l. ap (bytes_eq m) (kept_name l))

  pub found_name : (m : List ℕ) (ls : List Lane) (l : Lane) → lane_at m ls ≡ Some l → m ≡ l.name
  found_name m ls l e = bytes_same m l.name (found_one (λ (k : Lane). bytes_eq m k.name) ls l e).1

  pub replaced : (ls : List Lane) (l : Lane) → lane_at n ls ≡ Some l → Replaced n (change l.state) (lanes_of ls) (lanes_of (map (changed n change) ls))
  replaced ls l e = grind (arith, found_changed, if_same, found_name, kept_kind, if_other)

-- a lane that is there
pub there_is : (ls : List Lane) (n : List ℕ) (l : Lane) → lane_at n ls ≡ Some l → IsThere (lanes_of ls) n × ((lanes_of ls).lane n ≡ l.state)
there_is ls n l e = ((l.kind, ap (option_map (λ (x : Lane). x.kind)) e), ap (λ o. option_map_or (λ (x : Lane). x.state) o Rattle.cf_agree.specs.Lanes.no_lane) e)

-- the lease of a token
pub found_lease : (t : ℕ) (ls : List Granted) (l : Granted) → find (λ l. t == l.token) ls ≡ Some l → (t ≡ l.token) × In (lease_of l) (map lease_of ls)
found_lease t [] l e = absurd (cc)
found_lease t (k ∷ ls) l e = elim (number_or t k.token) [
  | inl x ↦ (let one : k ≡ l = grind arith in (x ∙ ap (λ (y : Granted). y.token) one, subst (λ q. In q (map lease_of (k ∷ ls))) (ap lease_of one) here))
  | inr x ↦ (let (y, i) = found_lease t ls l (grind arith) in (y, there i))
]

replied_same : (t : ℕ) (r : CallEnd) (ls : List Granted) → map lease_of (map (replying_life t r) ls) ≡ leases_replied t (settled_reply r) (map lease_of ls)
replied_same t r [] = refl
replied_same t r (l ∷ ls) = grind (arith, replied_same t r ls)

pub returned_same : (t : ℕ) (ls : List Granted) → map lease_of (filter (λ l. not (t == l.token)) ls) ≡ returned t (map lease_of ls)
returned_same t [] = refl
returned_same t (l ∷ ls) = grind (arith, returned_same t ls)

-- no lease is out
pub none_out : (a : Account) (w : Lanes) (ls : List CallOut) → Agrees a w ls → Agrees a w []
none_out a w ls h = record { tied = h.tied; leased = record { once = λ l m i. elim i [ ]; out = λ l i. elim i [ ]; replies = λ l x i. elim i [ ] } }

pub lanes_keep : LanesKeep
lanes_keep schemas life (Act token reply left) of (lease, lane, found, rest, home, leave) h =
    let change : FencedLane → FencedLane = left_by left (world_of life).epoch lease.token lease.request in
    let is : IsThere (held_by life) lease.lane × ((held_by life).lane lease.lane ≡ lane.state) = there_is life.lanes lease.lane lane home in
    let mine : (token ≡ lease.token) × In (lease_of lease) (map lease_of life.leases) = found_lease token life.leases lease found in
    let after : Lanes = lanes_of (map (changed lease.lane change) life.lanes) in
    let rep : Replaced lease.lane (change lane.state) (held_by life) after = replaced lease.lane change life.lanes lane home in
    -- the life after it, where the lease is found
    let done : (r : CallEnd) → Agrees (told_in life) after (leases_replied lease.token (settled_reply r) (map lease_of life.leases)) → AgreesIn (life_after life (Act token r left)) =
    λ r g. subst (λ o. AgreesIn (Rattle.cf_plan.specs.Life.replied_to token r (Rattle.cf_plan.specs.Life.lane_acted left o life))) (sym found)
    (subst (Agrees (told_in life) after) (ap (λ t. leases_replied t (settled_reply r) (map lease_of life.leases)) (sym mine.0) ∙ sym (replied_same token r life.leases)) g) in
    (elim reply as (λ r. MayLeave lane (change lane.state) (world_of life).epoch lease r → AgreesIn (life_after life (Act token r left))) [
      | Answered x before counted ↦ λ m. done (Answered x before counted)
          (call_keeps (told_in life) (held_by life) after (map lease_of life.leases) (lease_of lease) (change lane.state) x h mine.1 is.0 rep
          (subst (λ l. Rattle.cf_handler.specs.Fence.CallMove lease.lane l (change lane.state) (world_of life).epoch lease.token lease.request x) (sym is.1)
          (subst (λ n. Rattle.cf_handler.specs.Fence.CallMove n lane.state (change lane.state) (world_of life).epoch lease.token lease.request x)
          (sym (found_name lease.lane change lease.lane life.lanes lane home)) m.1)))
    ]) leave
lanes_keep schemas life (Late n place s) of may h =
    let is : IsThere (held_by life) n × ((held_by life).lane n ≡ may.0.state) = there_is life.lanes n may.0 may.1 in
    late_keeps (account_of life.entries (world_of life)) (held_by life) (lanes_of (map (changed n (late_by place s)) life.lanes)) (map lease_of life.leases) n (late_by place s may.0.state) place s h is.0
    (replaced n (late_by place s) life.lanes may.0 may.1)
    (subst (λ l. Rattle.cf_handler.specs.Fence.LateMove n l (late_by place s may.0.state) place s) (sym is.1)
    (subst (λ m. Rattle.cf_handler.specs.Fence.LateMove m may.0.state (late_by place s may.0.state) place s) refl may.2))
lanes_keep schemas life (Raise n x true before counted) of may h =
    let is : IsThere (held_by life) n × ((held_by life).lane n ≡ may.2.state) = there_is life.lanes n may.2 may.3 in
    fence_keeps (told_in life) (held_by life) (lanes_of (map (changed n (λ l. raised_to l (world_of life).epoch)) life.lanes)) (map lease_of life.leases) n (raised_to may.2.state (world_of life).epoch) x before counted h is.0
    (replaced n (λ l. raised_to l (world_of life).epoch) life.lanes may.2 may.3)
    (subst (λ l. Rattle.cf_handler.specs.Fence.FenceMove l (raised_to may.2.state (world_of life).epoch) (world_of life).epoch x before counted) (sym is.1) may.6)
lanes_keep schemas life (Raise n x false before counted) of may h = h
lanes_keep schemas life (Park token) of may h = grind (arith, returned_same, return_keeps)
lanes_keep schemas life Close of may h = h
lanes_keep schemas life Crash of may h = none_out (account_of life.entries (world_of life)) (held_by life) (map lease_of life.leases) h
lanes_keep schemas life e of may h = absurd of

-- A start agrees.

named_all : (n : List ℕ) (ls : List Lane) (l : Lane) → list_all (λ (l : Lane). is_lane_name l.name) ls ≡ true → lane_at n ls ≡ Some l → is_lane_name n ≡ true
named_all n [] l h e = absurd (cc)
named_all n (k ∷ ls) l h e = let more = second_so (is_lane_name k.name) _ h in let now = first_so (is_lane_name k.name) _ h in grind (arith, named_all n ls l, bytes_same n k.name)

-- nothing was called or is live on any lane
blank : (life : Life) → ((l : Lane) → In l life.lanes → (l.state.state.settled ≡ []) × (l.state.flying ≡ []) × (l.state.fence ≡ 0) × (live_of l.state.state ≡ []))
    → (n : List ℕ) → (lanes_of life.lanes).lane n ≡ no_lane
blank life untouched n = by (lane_at n life.lanes) refl where
  by : (o : Option Lane) → lane_at n life.lanes ≡ o → option_map_or (λ (l : Lane). l.state) o no_lane ≡ no_lane
  by None e = refl
  by (Some l) e =
      let (s, f, g, v) = untouched l (found_one (λ (k : Lane). bytes_eq n k.name) life.lanes l e).0 in
      let b : l.state.state.base ≡ [] = sym (ap (λ ss. Rattle.cf_handler.specs.Lane.live_after l.state.state.base ss) s) ∙ v in
      λ k. record { state = record { base = b k; settled = s k }; flying = f k; fence = g k }

pub map_some : (o : Option Lane) (k : List ℕ) → option_map (λ (l : Lane). l.kind) o ≡ Some k → (l : Lane) × (o ≡ Some l)
map_some o k e = grind arith

-- lanes like that agree with the account of no entries
blank_tied : (kind : List ℕ → Option (List ℕ)) → ((n k : List ℕ) → kind n ≡ Some k → is_lane_name n ≡ true)
    → AreTied (account_of [] empty_world) (record { kind = kind; lane = λ n. no_lane })
blank_tied kind names = record {
  books = grind arith;
  ties = grind arith;
}

pub start_agrees : (schemas : List Schema) (life : Life) → IsStart schemas life → AgreesIn life
start_agrees schemas life h = grind (arith, blank_tied, map_some, named_all, blank)

-- An opening keeps what holds at each moment of a life.

-- the lane of a name, among those of an opening
pub named_found : (lanes : List (List ℕ × List ℕ)) (n k : List ℕ) → lane_types lanes n ≡ Some k → (l : List ℕ × List ℕ) × In l lanes × (n ≡ l.0) × (l.1 ≡ k)
named_found lanes n k e = go (find (λ (l : List ℕ × List ℕ). bytes_eq n l.0) lanes) refl e where
  go : (o : Option (List ℕ × List ℕ)) → find (λ (l : List ℕ × List ℕ). bytes_eq n l.0) lanes ≡ o → option_map (λ (l : List ℕ × List ℕ). l.1) o ≡ Some k → (l : List ℕ × List ℕ) × In l lanes × (n ≡ l.0) × (l.1 ≡ k)
  go None f g = absurd (cc)
  go (Some l) f g = let (i, t) = found_one (λ (l : List ℕ × List ℕ). bytes_eq n l.0) lanes l f in (l, i, bytes_same n l.0 t, cc)

-- where no two lanes have one name, each is the one of its name
names_one : (lanes : List (List ℕ × List ℕ)) → ((l m : List ℕ × List ℕ) → In l lanes → In m lanes → l.0 ≡ m.0 → l ≡ m) → (l : List ℕ × List ℕ) → In l lanes
    → lane_types lanes l.0 ≡ Some l.1
names_one lanes once l i =
    let (m, f) = is_found_in (λ (q : List ℕ × List ℕ). bytes_eq l.0 q.0) lanes l i (same_bytes l.0 l.0 refl) in
    let (j, t) = found_one (λ (q : List ℕ × List ℕ). bytes_eq l.0 q.0) lanes m f in
    ap (option_map (λ (q : List ℕ × List ℕ). q.1)) (f ∙ ap Some (sym (once l m i j (bytes_same l.0 m.0 t))))

-- lanes that are handed in are named with their types
module _ (life : Life) (lanes : List (List ℕ × List ℕ)) (handed : AreHandedIn life lanes) where
  is_there : (l : List ℕ × List ℕ) → In l lanes → (lanes_of life.lanes).kind l.0 ≡ Some l.1
  is_there l i = grind arith

  pub named_there : (n k : List ℕ) → lane_types lanes n ≡ Some k → (lanes_of life.lanes).kind n ≡ Some k
  named_there n k e = let (l, i, x, y) = named_found lanes n k e in ap (lanes_of life.lanes).kind x ∙ is_there l i ∙ ap Some y

  pub named_of : (l : List ℕ × List ℕ) → In l lanes → lane_types lanes l.0 ≡ Some l.1
  named_of = names_one lanes (one_id (λ (n : List ℕ × List ℕ). n.0) lanes handed.once)

pub opened_keeps : OpenedKeeps
opened_keeps schemas life epoch lanes end may h =
    let e : Entry = Entry.Opened epoch lanes in
    let x : World = world_of life in
    let names = h.orderly.own.names in
    let homes : (i : List ℕ) (r : Thing) → role_in x.stacks i ≡ Resource r → lane_types lanes (lane_of i) ≡ Some r.kind = λ i r k.
    let f = role_found_in x.stacks i r names k in
    let (j, ih) = held_stands i f.stack f.held f.found in
    let (l, il, of, kd) = (may.1.2 r.stack f.stack f.stands).0 f.held j in
    let name = ((h.agrees.tied).ties).lane_names l.0 (l.1, is_there life lanes may.2 l il) in
    ap (lane_types lanes) (ap lane_of ih ∙ one_lane l.0 (f.held).physical name of) ∙ named_of life lanes may.2 l il ∙ ap Some (kd ∙ ap (λ (t : Thing). t.kind) f.same) in
    let open_homes : (t : ℕ) (o : Open) → open_in x.stacks t ≡ Some o → (k : List ℕ) × (lane_types lanes o.lane ≡ Some k) × IsKindFor o.request k = λ t o k.
    let f = open_found_in x.stacks t o names k in
    let (l, il, fit) = (may.1.2 o.stack f.stack f.stands).1 f.pending (found_one _ _ f.pending f.found).0 in
    let kind : IsKindFor (f.pending).request l.1 = grind (arith, fit.1) in
    (l.1, ap (lane_types lanes) (ap (λ (v : Open). v.lane) (sym f.same) ∙ sym fit.0) ∙ named_of life lanes may.2 l il, subst (λ (v : Open). IsKindFor v.request l.1) f.same fit.1) in
    let agreed : Agrees (account_of (life.entries ++ e ∷ []) (world_after x e)) (held_by life) [] =
    subst (λ b. Agrees b (held_by life) []) (sym (opening_moves life.entries x epoch lanes may.1.1))
    (opening_keeps (told_in life) (held_by life) (lane_types lanes) (resting_in (world_after x e).stacks) h.agrees.tied
    (record { handed = named_there life lanes may.2; homes = homes; open_homes = open_homes })) in
    let apart = stay_apart x e h.orderly.apart tt in
    let own = own_opened (x.place + 1) epoch lanes x.stacks apart.names h.orderly.own in
    elim end as (λ d. IsSound (life_after life (Opened epoch lanes d))) [
      | BrokenWithout ↦ record { agrees = none_out (told_in life) (held_by life) (map lease_of life.leases) h.agrees; orderly = h.orderly }
      | _ ↦ record {
        agrees = agrees_more life e [] agreed;
        orderly = orderly_more life e (record { apart = apart; own = own; once = one_id (λ (n : List ℕ × List ℕ). n.0) lanes may.2.once });
      }
    ]

-- A call that is written down and granted keeps what holds at each moment of a life.

-- the lanes of the last opening, as the account names them
module _ (x : World) (once : LanesOnce x) where
  by_name : (lane : List ℕ) → list_any (λ (l : List ℕ × List ℕ). bytes_eq lane l.0) x.lanes ≡ true → (k : List ℕ) × (lane_types x.lanes lane ≡ Some k)
  by_name lane h =
      let (l, i, t) = in_any (λ (l : List ℕ × List ℕ). bytes_eq lane l.0) x.lanes h in
      (l.1, ap (lane_types x.lanes) (bytes_same lane l.0 t) ∙ (names_one x.lanes once) l i)

  at_home : (lane : List ℕ) (r : Request) → FitsLane x lane r → (k : List ℕ) × (lane_types x.lanes lane ≡ Some k) × IsKindFor r k
  at_home lane (Request.Create k props) h =
      let (l, i, t) = in_any (is_lane_of lane k) x.lanes h in
      let named = first_so (bytes_eq lane l.0) (bytes_eq k l.1) t in
      let kind = second_so (bytes_eq lane l.0) (bytes_eq k l.1) t in
      (l.1, ap (lane_types x.lanes) (bytes_same lane l.0 named) ∙ (names_one x.lanes once) l i, sym (bytes_same k l.1 kind))
  at_home lane _ h = let (k, e) = by_name lane h.1 in (k, e, tt)

  of_lane : (lane : List ℕ) (r : Request) (i : List ℕ) → FitsLane x lane r → named_by r ≡ Some i → IsOfLane lane i
  of_lane lane r i h e = grind arith

-- the call names a resource of the stack that works, at its path
abbrev pub NamesOwn : World → ℕ → List ℕ → Request → Type 0
NamesOwn x number path r =
    (name : List ℕ) (s : StackState) (i : List ℕ) → stack_of_operation number x ≡ Some (name, s) → named_by r ≡ Some i → (h : Held) × (held_in i s ≡ Some h) × (h.path ≡ path)

pub intent_keeps_in : (schemas : List Schema) (life : Life) (number token : ℕ) (lane path : List ℕ) (r : Request) (end : End) → NamesOwn (world_of life) number path r
    → Happens schemas life (Grant (Entry.Intent number token lane path r) end) → IsSound life → IsSound (life_after life (Grant (Entry.Intent number token lane path r) end))
intent_keeps_in schemas life number token lane path r end names (running, granting, (name, s, stage, found, at_stage, may)) h =
    let x : World = fold_of empty_world life.entries in
    let e : Entry = Entry.Intent number token lane path r in
    let o : Open = record { stack = name; path = path; lane = lane; request = r } in
    let p : Pending = record { token = token; path = path; lane = lane; request = r } in
    let s' : StackState = (effect_at (x.place + 1) (Entry.Intent number token lane path r) s).stack in
    let at = on_one e x name s h.orderly.own refl found in
    let stands = found_stands (λ (q : List ℕ × StackState). is_going number q.1) x.stacks (name, s) h.orderly.own.names found in
    let free : (t : ℕ) (v : Open) → (told_in life).open_ t ≡ Some v → v.stack ≡ name → v.path ≢ path = λ t v k n q.
    let f = open_found_in x.stacks t v h.orderly.own.names k in
    let both : Some f.stack ≡ Some s = sym f.stands ∙ ap (λ m. value_at m x.stacks) n ∙ stands in
    let same : f.stack ≡ s = cc in
    let j : In f.pending s.tokens = subst (λ (t : StackState). In f.pending t.tokens) same (found_one (has_token t) (f.stack).tokens f.pending f.found).0 in
    true≢false (sym (any_of (λ (p : Pending). bytes_eq path p.path) s.tokens f.pending j (same_bytes path (f.pending).path (sym q ∙ ap (λ (u : Open). u.path) (sym f.same))))
    ∙ not-true (list_any (λ (p : Pending). bytes_eq path p.path) s.tokens) may.free) in
    let may_intend : MayBeWritten (told_in life) o = record {
      free = free;
      named = λ i n. let (q, k, l) = names name s i found n in (thing_of name q, role_of at i q k, refl, l);
      home = λ i n. let (k, f, z) = at_home x h.orderly.once lane r may.fits in
          one_lane lane i (((h.agrees.tied).ties).lane_names lane (k, ((h.agrees.tied).ties).handed lane k f)) (of_lane x h.orderly.once lane r i may.fits n);
      at_home = at_home x h.orderly.once lane r may.fits;
    } in
    let resting : (told_in life).resting name ≡ false =
    ap (λ z. option_map_or is_at_rest z false) stands ∙ ap (λ b. not b && is_opened_since s) (is_working number x name s found) in
    let both = intent_keeps (told_in life) (held_by life) (map lease_of life.leases) o h.agrees may_intend in
    let there_now : (ls : List CallOut) → Agrees (intended o (told_in life)) (held_by life) ls → Agrees (account_of (life.entries ++ e ∷ []) (fold_of empty_world (life.entries ++ e ∷ []))) (held_by life) ls =
    λ ls g. agrees_more life e ls (subst (λ b. Agrees b (held_by life) ls) (sym (intent_moves life.entries x name s number token lane path r h.orderly.own found may.next (h.agrees.tied).books)) g) in
    let none : open_in x.stacks token ≡ None = ap (open_in x.stacks) may.next ∙ none_open life.entries x (h.agrees.tied).books in
    let none_here = map_none (open_as name) (find (has_token token) s.tokens) (open_none at.one token none).1 in
    let orderly = orderly_more life e (orderly_on x e name s s' h.orderly tt at.one
    (intent_local x.stacks name s s' p (once_here at.one h.orderly.own) none none_here (sends (x.place + 1) number p s none_here)) at.lanes) in
    let lease : Granted = record { number = number; token = token; lane = lane; request = r; reply = None } in
    let more = ap (λ t. leases_granted t lane r (map lease_of life.leases)) (sym may.next) ∙ sym
    (map-append lease_of life.leases (lease ∷ [])) in
    elim end as (λ d. IsSound (life_after life (Grant (Entry.Intent number token lane path r) d))) [
      | Whole ↦ record { agrees = there_now _ (subst (Agrees (intended o (told_in life)) (held_by life)) more (both.1 resting)); orderly = orderly }
      | BrokenWith ↦ record { agrees = there_now (map lease_of life.leases) both.0; orderly = orderly }
      | BrokenWithout ↦ record { agrees = h.agrees; orderly = h.orderly }
    ]

module _ (schemas : List Schema) (life : Life) (token : ℕ) (h : IsSound life) (lease : Granted) (found : lease_at token life ≡ Some lease) where
  abbrev ls : List CallOut
  ls = map lease_of life.leases

  mine : (token ≡ lease.token) × In (lease_of lease) ls
  mine = found_lease token life.leases lease found

  -- what the entry leaves: the lease is back
  pub record IsBack (e : Entry) : Type 0 where
    pub agrees : Agrees (account_of (life.entries ++ e ∷ []) (world_after (world_of life) e)) (held_by life) (returned token ls)
    pub orderly : IsOrderly (world_after (world_of life) e)

  -- the entry is there, or not
  settled_life : (e : Entry) → IsBack e → (end : End) → IsSound (life_after life (Settle token e end))
  settled_life e g BrokenWithout = grind (arith, returned_same, return_keeps, h.agrees, h.orderly)
  settled_life e g _ = record {
    agrees = subst (Agrees (account_of (life.entries ++ e ∷ []) (fold_of empty_world (life.entries ++ e ∷ []))) (held_by life)) (sym (returned_same token life.leases)) (agrees_more life e (returned token ls) g.agrees);
    orderly = orderly_more life e g.orderly;
  }

  by_doubt : (before after : ℕ) → MayFollow schemas (world_of life) (tokens_out life) (Entry.Outcome lease.number lease.token Reply.Doubt before after) → IsBack (Entry.Outcome lease.number lease.token Reply.Doubt before after)
  by_doubt before after (name, s, stage, at_work, at_stage, may) =
      let x : World = fold_of empty_world life.entries in
      let e : Entry = Entry.Outcome lease.number lease.token Reply.Doubt before after in
      let at = on_one e x name s h.orderly.own refl at_work in
      let same = in_doubt (x.place + 1) lease.number lease.token before after s in
      record {
        agrees = subst (λ c. Agrees c (held_by life) (returned token ls)) (sym (doubt_moves life.entries x name s lease.number lease.token before after h.orderly.own at_work))
            (return_keeps (told_in life) (held_by life) ls token h.agrees);
        orderly = orderly_on x e name s _ h.orderly tt at.one (doubt_local x.stacks name s _ (once_here at.one h.orderly.own) same) at.lanes;
      }

  -- the answer is for good
  by_good : (answer_ : Reply) (y : Settlement) (before after : ℕ) → for_good answer_ ≡ Some y → good_reply lease.reply ≡ Some y
      → MayFollow schemas (world_of life) (tokens_out life) (Entry.Outcome lease.number lease.token answer_ before after) → IsBack (Entry.Outcome lease.number lease.token answer_ before after)
  by_good answer_ y before after g k (name, s, stage, at_work, at_stage, (out, is_open, counted)) =
      let x : World = fold_of empty_world life.entries in
      let e : Entry = Entry.Outcome lease.number lease.token answer_ before after in
      let z : World = changed_by (x.place + 1) e x in
      let (p, pending) = some_of (pending_of lease.token s) is_open in
      let o = open_as name p in
      let sf = answered_stack (x.place + 1) lease.number lease.token answer_ before after p s in
      let at : IsOnOne x z name s sf = subst (λ q. IsOnOne x z name s (heard (x.place + 1) e s (stays_listed (reply_of lease.token answer_ q s))).stack) pending (on_one e x name s h.orderly.own refl at_work) in
      let open_ = open_of at lease.token p pending in
      let (r, en, ry) = (h.agrees.leased).replies (lease_of lease) y mine.1 k in
      let fit = ((((h.agrees.leased).out (lease_of lease) mine.1).own).written (called_of o) (((h.agrees.tied).books).calls lease.token o open_)).0 in
      let is : IsSettledCall (told_in life) (held_by life) lease.token o r = (open_, subst (λ n. settled_under (held_by life) n lease.token ≡ Some r) (sym fit) en) in
      let good = g ∙ ap Some (sym ry) in
      let moved = outcome_moves life.entries x (held_by life) name s p r lease.number lease.token answer_ before after h.orderly.own at_work pending good h.agrees.tied is in
      let kept = answer_keeps (told_in life) (held_by life) ls (lease_of lease) o y h.agrees mine.1 k open_ in
      record {
        agrees = subst (λ c. Agrees c (held_by life) (returned token ls)) (sym (moved ∙ ap (λ v. answered lease.token o v (told_in life)) ry)) (subst (λ t. Agrees (answered lease.token o y (told_in life)) (held_by life) (returned t ls)) (sym mine.0) kept);
        orderly = orderly_on x e name s sf h.orderly tt at.one
            (outcome_local life.entries x z (held_by life) name s p r (x.place + 1) lease.number lease.token answer_ before after h.orderly.own good h.agrees.tied is at
            (differ_left s _ p.path p.request answer_ (answered_left (is_restore lease.token s) p.path p.request answer_ s))) at.lanes;
      }

  by_entry : (e : Entry) (r : CallEnd) → lease.reply ≡ Some r → IsOutcomeOf lease r e → MayFollow schemas (world_of life) (tokens_out life) e → IsBack e
  by_entry e (Answered (Answer.Success i v) before after) k is may =
      subst IsBack (sym is) (by_good (Reply.Success i v) (Settlement.Success i v) before after refl (ap good_reply k) (subst (λ d. MayFollow schemas (world_of life) (tokens_out life) d) is may))
  by_entry e (Answered (Answer.Failed c) before after) k is may =
      subst IsBack (sym is) (by_good (Reply.Failed c) (Settlement.Failed c) before after refl (ap good_reply k) (subst (λ d. MayFollow schemas (world_of life) (tokens_out life) d) is may))
  by_entry e (Answered Answer.Fault before after) k is may =
      subst IsBack (sym is) (by_doubt before after (subst (λ d. MayFollow schemas (world_of life) (tokens_out life) d) is may))
  by_entry e _ k is may = absurd is

pub settle_keeps : SettleKeeps
settle_keeps schemas life token e end may h = settled_life schemas life token h may.1 may.3 e (by_entry schemas life token h may.1 may.3 e may.2 may.4 may.5 may.6) end

-- A call that is made again keeps what holds at each moment of a life.

-- the lease of an open call that is made again is that of the stack on which it is open
again_behind : (t : ℕ) (front back : StacksByName) → open_in front t ≡ None → first_again t (front ++ back) ≡ first_again t back
again_behind t [] back n = refl
again_behind t (s ∷ ss) back n =
    let (here_none, rest_none) = or_none (open_on s.0 s.1 t) (open_in ss t) n in
    let none : find (has_token t) (s.1).tokens ≡ None = map_none (open_as s.0) (find (has_token t) (s.1).tokens) here_none in
    ap (λ o. option_or (option_map (lease_for (s.1).operation) o) (first_again t (ss ++ back))) none ∙ again_behind t ss back rest_none

pub again_is : (x : World) (name : List ℕ) (s : StackState) (at : IsOnOne x x name s s) (t : ℕ) (p : Pending) → find (has_token t) s.tokens ≡ Some p
    → first_again t x.stacks ≡ Some (lease_for s.operation p)
again_is x name s at t p found = grind (arith, again_behind)

-- a call that may be made again is open and not out
pub may_again : (schemas : List Schema) (name : List ℕ) (x : World) (out : List ℕ) (s : StackState) (stage : Stage) (p : Pending) → MayRepeat schemas name x out s stage p → In p s.tokens × (is_in_flight out p.token ≡ false)
may_again schemas name x out s stage p m = grind (arith, not-true)

not_out : (token : ℕ) (ls : List Granted) → is_in_flight (map (λ (l : Granted). l.token) ls) token ≡ false → (l : CallOut) → In l (map lease_of ls) → l.token ≢ token
not_out token [] h l i = elim i [ ]
not_out token (k ∷ ls) h l i = elim (in_cons l (lease_of k) (map lease_of ls) i) [
  | inl m ↦ (λ z. let e : token ≡ k.token = sym z ∙ ap (λ (q : CallOut). q.token) m in absurd (grind arith))
  | inr m ↦ not_out token ls (grind arith) l m
]

pub repeat_keeps : RepeatKeeps
repeat_keeps schemas life token (running, name, s, stage, p, m) h =
    let x : World = world_of life in
    let is : In p s.tokens × (is_in_flight (tokens_out life) p.token ≡ false) = may_again schemas name x (tokens_out life) s stage p m.may in
    let (q, pending) = is_found_in (has_token token) s.tokens p is.0 (eq-eqb token p.token (sym m.of_token)) in
    let o : Open = open_as name q in
    let at : IsOnOne x x name s s = stands_on x name s h.orderly.own m.stands in
    let open_ = open_of at token q pending in
    let written : (told_in life).call token ≡ Some (called_of o) = (((h.agrees).tied).books).calls token o open_ in
    let out : IsOut (told_in life) q.lane token q.request = record {
      own = grind (arith, h.agrees.tied.books.numbers);
      accounted = inl (o, open_);
      going = grind (arith, m.stands, m.at_stage);
    } in
    let ls : List CallOut = map lease_of life.leases in
    let lease : Granted = lease_for s.operation q in
    let ends : ls ++ record { token = token; lane = q.lane; request = q.request; reply = None } ∷ [] ≡ map lease_of (life.leases ++ lease ∷ []) =
    ap (λ t. ls ++ record { token = t; lane = q.lane; request = q.request; reply = None } ∷ []) (token_of token s.tokens q pending) ∙ sym
    (map-append lease_of life.leases (lease ∷ [])) in
    subst (λ q. IsSound (repeated q life)) (sym (again_is x name s at token q pending)) (record {
      agrees = grind (arith, leased_granted, not_out, h.agrees.tied, h.agrees.leased, m.of_token);
      orderly = h.orderly;
    })

-- Where no call of a stack is open, what it holds is live.

pub held_is_live : HeldIsLive
held_is_live life name s r h stands none held =
    let b : Books (told_in life) = (h.agrees.tied).books in
    let t : Ties (told_in life) (held_by life) = (h.agrees.tied).ties in
    let at : IsOnOne (world_of life) (world_of life) name s s = stands_on (world_of life) name s h.orderly.own stands in
    let role = role_of at r.physical r held in
    let home : IsOfLane (lane_of r.physical) r.physical × ((told_in life).named (lane_of r.physical) ≡ Some r.kind) = b.homes r.physical (thing_of name r) role in
    let there_ : IsThere (held_by life) (lane_of r.physical) = (r.kind, t.handed (lane_of r.physical) r.kind home.1) in
    -- no open call names it
    let not_named : (u : ℕ) (o : Open) → (told_in life).open_ u ≡ Some o → named_by o.request ≡ Some r.physical → ⊥ = λ u o e n.
    let (r', x, y, z) = b.named u o r.physical e n in
    let both : Resource r' ≡ Resource (thing_of name r) = sym x ∙ role in
    let same : r' ≡ thing_of name r = cc in
    let at : o.stack ≡ name = sym y ∙ ap (λ (q : Thing). q.stack) same in
    let f = open_found_in (world_of life).stacks u o h.orderly.own.names e in
    let stacks : Some f.stack ≡ Some s = sym f.stands ∙ ap (λ m. value_at m (world_of life).stacks) at ∙ stands in
    let is : f.stack ≡ s = cc in
    let found : find (has_token u) [] ≡ Some f.pending = sym (ap (find (has_token u)) (ap (λ (q : StackState). q.tokens) is ∙ none)) ∙ f.found in
    cc in
    let v : (v : Live) × (Rattle.cf_agree.specs.Lanes.live_in (held_by life) (lane_of r.physical) r.physical ≡ Some v) × (v.kind ≡ r.kind) = t.alive r.physical (thing_of name r) role there_ (λ (u, o, q, is, d). not_named u o is.0 (ap named_by (request_of (told_in life) (held_by life) b t u o q is) ∙ gone_names q.request q.settlement r.physical d)) in
    let same : r.unsure ≡ false → ((v.0).props ≡ r.props) × ((v.0).attrs ≡ r.attrs) = λ sure. t.same r.physical (thing_of name r) v.0 role (ap not sure) (λ (u, o, q, x, y, is, d). not_named u o is.0 (ap named_by (request_of (told_in life) (held_by life) b t u o q is) ∙ set_names q.request q.settlement r.physical x y d)) v.1 in
    let lane : (l : Lane) × (lane_at (lane_of r.physical) life.lanes ≡ Some l) = map_some (lane_at (lane_of r.physical) life.lanes) r.kind there_.1 in
    let name_is : lane_of r.physical ≡ (lane.0).name = found_name (lane_of r.physical) (λ l. l) (lane_of r.physical) life.lanes lane.0 lane.1 in
    let is_live : IsLive life.lanes r v.0 = grind (arith, there_is) in
    (v.0, is_live, v.2, λ sure. same sure)
