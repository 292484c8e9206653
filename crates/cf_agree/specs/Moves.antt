-- What a call that is out, a call that is written down and calls that are given up have to be, so that agreement is kept (this
-- project's own).
use Rattle.std.specs.Prelude.{◌≡◌, ◌≢◌, ℕ, ◌==◌, Bool, true, false, not, List, [], ◌∷◌, ◌++◌, Option, Some, None, map, filter, if◌then◌else◌}
use Rattle.cf_tree.specs.declared.request.Request.{Request}
use Rattle.cf_tree.specs.declared.request.Request.TheVariants.{Update}
use Rattle.cf_handler.specs.declared.settled.Settlement.{Settlement}
use Rattle.cf_handler.specs.declared.settled.Settled.{Settled}
use Rattle.cf_agree.specs.Base.{Dict, lane_of, named_by}
use Rattle.cf_tree.specs.Lists.{In}
use Rattle.cf_agree.specs.Lanes.{Lanes, settled_under}
use Rattle.cf_agree.specs.Account.{Thing, Role, Open, Account}
use Rattle.cf_agree.specs.Account.Role.{Resource, Leftover}
use Rattle.cf_agree.specs.Ties.{FitsCall, IsAccounted}
use Rattle.cf_handler.specs.Move.{IsKindFor}

-- A call that is out: it is its token's own, what it may do is accounted for, and while it is open its stack is not at rest.
pub record IsOut (a : Account) (lane : List ℕ) (token : ℕ) (r : Request) : Type 0 where
  pub own : FitsCall a lane token r
  pub accounted : IsAccounted a token r
  pub going : (o : Open) → a.open_ token ≡ Some o → a.resting o.stack ≡ false

-- a lease: a call that is out, and its answer for good, where it has one
pub record CallOut : Type 0 where
  pub token : ℕ
  pub lane : List ℕ
  pub request : Request
  pub reply : Option Settlement

-- the leases that are out: no two are of one token, each is a call that is out, and the answer for good that one has is its token's
-- settled one
pub record AreLeased (a : Account) (w : Lanes) (ls : List CallOut) : Type 0 where
  pub once : (l m : CallOut) → In l ls → In m ls → l.token ≡ m.token → l ≡ m
  pub out : (l : CallOut) → In l ls → IsOut a l.lane l.token l.request
  pub replies : (l : CallOut) (x : Settlement) → In l ls → l.reply ≡ Some x
      → (s : Settled) × (settled_under w l.lane l.token ≡ Some s) × (s.settlement ≡ x)

-- the lease of a token has this answer, is gone, or is a new one
abbrev pub lease_replied : ℕ → Option Settlement → CallOut → CallOut
lease_replied t x l = if t == l.token then record l { reply = x } else l

abbrev pub leases_replied : ℕ → Option Settlement → List CallOut → List CallOut
leases_replied t x ls = map (lease_replied t x) ls

abbrev pub returned : ℕ → List CallOut → List CallOut
returned t ls = filter (λ l. not (t == l.token)) ls

abbrev pub leases_granted : ℕ → List ℕ → Request → List CallOut → List CallOut
leases_granted t lane r ls = ls ++ record { token = t; lane = lane; request = r; reply = None } ∷ []

-- A call that is written down: its path is free, its stack works, and it names a resource of its stack, at its path, on the resource's
-- lane.
pub record MayBeWritten (a : Account) (o : Open) : Type 0 where
  pub free : (t : ℕ) (v : Open) → a.open_ t ≡ Some v → v.stack ≡ o.stack → v.path ≢ o.path
  pub named : (i : List ℕ) → named_by o.request ≡ Some i → (r : Thing) × (a.role i ≡ Resource r) × (r.stack ≡ o.stack) × (r.path ≡ o.path)
  pub home : (i : List ℕ) → named_by o.request ≡ Some i → lane_of i ≡ o.lane
  pub at_home : (k : List ℕ) × (a.named o.lane ≡ Some k) × IsKindFor o.request k

-- What becomes of an id where calls are given up: nothing, it is left over, or what it has isn't known any more.
pub data RoleMove (before after : Role) : Type 0 where
  stays : after ≡ before → RoleMove before after
  leaves : (r : Thing) → before ≡ Resource r → after ≡ Leftover → RoleMove before after
  doubted : (r s : Thing) → before ≡ Resource r → after ≡ Resource s → s.stack ≡ r.stack → s.path ≡ r.path → s.kind ≡ r.kind
      → s.sure ≡ false → RoleMove before after

-- A call that is given up: a create, one on what is left over, or an update, on what isn't known any more, whose stack is at rest and
-- whose lane is raised to the last opening: so no late effect can follow.
pub data GivenUp (a : Account) (w : Lanes) (role : List ℕ → Role) (o : Open) : Type 0 where
  of_create : named_by o.request ≡ None → GivenUp a w role o
  of_leftover : (i : List ℕ) → named_by o.request ≡ Some i → role i ≡ Leftover → GivenUp a w role o
  of_doubted :
      (i : List ℕ) (props : Dict) (r : Thing) → o.request ≡ Update i props → role i ≡ Resource r → r.sure ≡ false → a.resting o.stack ≡ true
      → (w.lane o.lane).fence ≡ a.epoch → GivenUp a w role o

pub record MayDrop (a : Account) (w : Lanes) (drop : ℕ → Bool) (role : List ℕ → Role) : Type 0 where
  pub roles : (i : List ℕ) → RoleMove (a.role i) (role i)
  pub calls : (t : ℕ) (o : Open) → a.open_ t ≡ Some o → drop t ≡ true → GivenUp a w role o
  -- no open call is left on what is left over
  pub left : (t : ℕ) (o : Open) (i : List ℕ) → a.open_ t ≡ Some o → drop t ≡ false → named_by o.request ≡ Some i
      → (r : Thing) × (role i ≡ Resource r)

-- An opening names lanes that are there, among them that of each resource and of each open call.
pub record NamesItsLanes (a : Account) (w : Lanes) (named : List ℕ → Option (List ℕ)) : Type 0 where
  pub handed : (n k : List ℕ) → named n ≡ Some k → w.kind n ≡ Some k
  pub homes : (i : List ℕ) (r : Thing) → a.role i ≡ Resource r → named (lane_of i) ≡ Some r.kind
  pub open_homes : (t : ℕ) (o : Open) → a.open_ t ≡ Some o → (k : List ℕ) × (named o.lane ≡ Some k) × IsKindFor o.request k
