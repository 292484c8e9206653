-- The account and the lanes agree: what the lanes hold fits what the journal says of them (this project's own).
use Rattle.std.specs.Prelude.{◌≡◌, ◌≢◌, ◌⊎◌, ℕ, ◌<◌, ◌≤◌, true, List, Some, None, map}
use Rattle.std.specs.Str.{bytes_eq}
use Rattle.cf_tree.specs.Named.{all_differ}
use Rattle.cf_tree.specs.declared.request.Request.{Request}
use Rattle.cf_handler.specs.declared.settled.Settlement.{Settlement}
use Rattle.cf_handler.specs.declared.settled.Settled.{Settled}
use Rattle.cf_handler.specs.Lane.{Live, has_id}
use Rattle.cf_handler.specs.Fence.{Flying}
use Rattle.cf_handler.specs.Move.{IsKindFor, IsOfLane}
use Rattle.cf_handler.specs.Name.{is_lane_name}
use Rattle.cf_agree.specs.Base.{Dict, Made, Set, lane_of, named_by, gone_by, change_of}
use Rattle.cf_tree.specs.Lists.{In}
use Rattle.cf_agree.specs.Lanes.{Lanes, IsThere, live_in, used_in, settled_under}
use Rattle.cf_agree.specs.Account.{Thing, Called, Open, Account, called_of}
use Rattle.cf_agree.specs.Account.Role.{Stranger, Resource, Leftover}

-- what the journal says of its own calls and resources
pub record Books (a : Account) : Type 0 where
  -- tokens: an open call is the one that was written down and has no answer for good, and none is above the last
  pub calls : (t : ℕ) (o : Open) → a.open_ t ≡ Some o → a.call t ≡ Some (called_of o)
  pub numbers : (t : ℕ) (c : Called) → a.call t ≡ Some c → t ≤ a.last
  pub untold : (t : ℕ) (o : Open) → a.open_ t ≡ Some o → a.told t ≡ None
  pub told_calls : (t : ℕ) (x : Settlement) → a.told t ≡ Some x → (c : Called) × (a.call t ≡ Some c)
  pub lost_calls : (t : ℕ) → a.lost t ≡ true → (a.open_ t ≡ None) × (c : Called) × (a.call t ≡ Some c)
  -- an open update or deletion is of a resource of its stack, at its path and on the lane that the id names
  pub named : (t : ℕ) (o : Open) (i : List ℕ) → a.open_ t ≡ Some o → named_by o.request ≡ Some i
      → (r : Thing) × (a.role i ≡ Resource r) × (r.stack ≡ o.stack) × (r.path ≡ o.path)
  pub home : (t : ℕ) (o : Open) (i : List ℕ) → a.open_ t ≡ Some o → named_by o.request ≡ Some i → lane_of i ≡ o.lane
  -- no two open calls are of one path
  pub once : (t u : ℕ) (o v : Open) → a.open_ t ≡ Some o → a.open_ u ≡ Some v → o.stack ≡ v.stack → o.path ≡ v.path → t ≡ u
  -- each resource and each open call has its lane among those that the last opening names
  pub homes : (i : List ℕ) (r : Thing) → a.role i ≡ Resource r → IsOfLane (lane_of i) i × (a.named (lane_of i) ≡ Some r.kind)
  pub open_homes : (t : ℕ) (o : Open) → a.open_ t ≡ Some o → (k : List ℕ) × (a.named o.lane ≡ Some k) × IsKindFor o.request k

-- a call of this token is the one that the journal has
pub record FitsCall (a : Account) (lane : List ℕ) (token : ℕ) (r : Request) : Type 0 where
  pub number : token ≤ a.last
  pub written : (c : Called) → a.call token ≡ Some c → (c.lane ≡ lane) × (c.request ≡ r)

-- What a call can still change is known: it is open, or its resource is a leftover, or it is a create that was given up.
abbrev pub IsAccounted : Account → ℕ → Request → Type 0
IsAccounted a t r =
    ((o : Open) × (a.open_ t ≡ Some o)) ⊎ ((i : List ℕ) × (named_by r ≡ Some i) × (a.role i ≡ Leftover))
    ⊎ ((named_by r ≡ None) × (a.lost t ≡ true))

-- an open call that is settled on its lane
abbrev pub IsSettledCall : Account → Lanes → ℕ → Open → Settled → Type 0
IsSettledCall a w t o s = (a.open_ t ≡ Some o) × (settled_under w o.lane t ≡ Some s)

-- the settled call made this id
abbrev pub IsMade : Settled → List ℕ → Type 0
IsMade s i = (kind : List ℕ) × (props : Dict) × (attrs : Dict) × (change_of s.request s.settlement ≡ Made i kind props attrs)

-- an open deletion of the id was answered, and it is gone
abbrev pub IsGone : Account → Lanes → List ℕ → Type 0
IsGone a w i = (t : ℕ) × (o : Open) × (s : Settled) × IsSettledCall a w t o s × (gone_by s.request s.settlement ≡ Some i)

-- an open update of it was answered with success
abbrev pub IsChanged : Account → Lanes → List ℕ → Type 0
IsChanged a w i =
    (t : ℕ) × (o : Open) × (s : Settled) × (props : Dict) × (attrs : Dict) × IsSettledCall a w t o s
    × (change_of s.request s.settlement ≡ Set i props attrs)

-- an open create was answered with it
abbrev pub IsBorn : Account → Lanes → List ℕ → Type 0
IsBorn a w i = (t : ℕ) × (o : Open) × (s : Settled) × IsSettledCall a w t o s × IsMade s i

-- a create that was given up made it
abbrev pub IsLost : Account → Lanes → List ℕ → Type 0
IsLost a w i = (t : ℕ) × (n : List ℕ) × (s : Settled) × (a.lost t ≡ true) × (settled_under w n t ≡ Some s) × IsMade s i

pub record Ties (a : Account) (w : Lanes) : Type 0 where
  -- the lanes that the last opening names are there, and have lane names
  pub handed : (n k : List ℕ) → a.named n ≡ Some k → w.kind n ≡ Some k
  pub lane_names : (n : List ℕ) → IsThere w n → is_lane_name n ≡ true
  -- a lane settles each token once, and what was live before has ids of the lane, no two the same
  pub settled_once : (n : List ℕ) (s : Settled) → In s (w.lane n).state.settled → settled_under w n s.token ≡ Some s
  pub base_once : (n : List ℕ) → all_differ bytes_eq (map (λ v. v.id) (w.lane n).state.base) ≡ true
  pub base_named : (n i : List ℕ) → has_id i (w.lane n).state.base ≡ true → lane_of i ≡ n
  -- what was made since has ids of the lane too, and no two calls made one
  pub created_named : (n i : List ℕ) (t : ℕ) (s : Settled) → settled_under w n t ≡ Some s → IsMade s i → (lane_of i ≡ n) × IsOfLane n i
  pub created_once : (n i : List ℕ) (t u : ℕ) (s r : Settled) → settled_under w n t ≡ Some s → settled_under w n u ≡ Some r → IsMade s i
      → IsMade r i → t ≡ u
  -- each token is one of the journal's, on its lane and with its request
  pub settled_calls : (n : List ℕ) (t : ℕ) (s : Settled) → settled_under w n t ≡ Some s → FitsCall a n t s.request
  pub flying_calls : (n : List ℕ) (f : Flying) → In f (w.lane n).flying → FitsCall a n f.token f.request
  -- what the journal says was answered
  pub answers : (t : ℕ) (x : Settlement) (c : Called) → a.told t ≡ Some x → a.call t ≡ Some c → IsThere w c.lane
      → (s : Settled) × (settled_under w c.lane t ≡ Some s) × (s.settlement ≡ x)
  -- what may act later is accounted for, and is of no later opening
  pub flying_open : (n : List ℕ) (f : Flying) → In f (w.lane n).flying → settled_under w n f.token ≡ None → (w.lane n).fence ≤ f.epoch
      → IsAccounted a f.token f.request
  pub flying_epochs : (n : List ℕ) (f : Flying) → In f (w.lane n).flying → f.epoch ≤ a.epoch
  pub flying_at_rest : (n : List ℕ) (f : Flying) (o : Open) → In f (w.lane n).flying → settled_under w n f.token ≡ None
      → a.open_ f.token ≡ Some o → a.resting o.stack ≡ true → f.epoch < a.epoch
  -- no lane is ahead of the journal
  pub fences : (n : List ℕ) → (w.lane n).fence ≤ a.epoch
  -- ids, and what is live under them
  pub known : (i : List ℕ) → a.role i ≢ Stranger → IsThere w (lane_of i) → used_in w (lane_of i) i ≡ true
  pub gone : (i : List ℕ) (r : Thing) → a.role i ≡ Resource r → IsGone a w i → live_in w (lane_of i) i ≡ None
  pub alive : (i : List ℕ) (r : Thing) → a.role i ≡ Resource r → IsThere w (lane_of i) → (IsGone a w i → ⊥)
      → (v : Live) × (live_in w (lane_of i) i ≡ Some v) × (v.kind ≡ r.kind)
  pub same : (i : List ℕ) (r : Thing) (v : Live) → a.role i ≡ Resource r → r.sure ≡ true → (IsChanged a w i → ⊥)
      → live_in w (lane_of i) i ≡ Some v → (v.props ≡ r.props) × (v.attrs ≡ r.attrs)
  pub changed : (t : ℕ) (o : Open) (s : Settled) (i : List ℕ) (props attrs : Dict) → IsSettledCall a w t o s
      → change_of s.request s.settlement ≡ Set i props attrs → (v : Live) × (live_in w o.lane i ≡ Some v) × (v.props ≡ props)
      × (v.attrs ≡ attrs)
  pub born : (t : ℕ) (o : Open) (s : Settled) (i kind : List ℕ) (props attrs : Dict) → IsSettledCall a w t o s
      → change_of s.request s.settlement ≡ Made i kind props attrs
      → (live_in w o.lane i ≡ Some (record { id = i; kind = kind; props = props; attrs = attrs })) × (a.role i ≡ Stranger)
  -- what is live is on the lane that its id names, and nothing is live that the journal does not list
  pub live_named : (n i : List ℕ) (v : Live) → live_in w n i ≡ Some v → lane_of i ≡ n
  pub listed : (n i : List ℕ) (v : Live) → live_in w n i ≡ Some v → (a.role i ≢ Stranger) ⊎ IsBorn a w i ⊎ IsLost a w i

-- journal and lanes agree
pub record AreTied (a : Account) (w : Lanes) : Type 0 where
  pub books : Books a
  pub ties : Ties a w
