-- Every move of a lane, and every change of the account, keeps agreement and the leases (this project's own laws).
use Rattle.std.specs.Prelude.{◌≡◌, ℕ, ◌+◌, Bool, true, false, List, [], Option, Some}
use Rattle.cf_tree.specs.declared.request.Answer.{Answer}
use Rattle.cf_handler.specs.declared.settled.Settlement.{Settlement}
use Rattle.cf_handler.specs.Answered.{settlement_in}
use Rattle.cf_handler.specs.declared.fence.FenceAnswer.{FenceAnswer}
use Rattle.cf_handler.specs.Fence.{FencedLane, CallMove, LateMove, FenceMove}
use Rattle.cf_tree.specs.Lists.{In}
use Rattle.cf_agree.specs.Lanes.{Lanes, IsThere, Replaced}
use Rattle.cf_agree.specs.Account.{Role, Open, Account, opened, rested, intended, answered, dropped}
use Rattle.cf_agree.specs.Ties.{AreTied}
use Rattle.cf_agree.specs.Moves.{CallOut, AreLeased, leases_replied, returned, leases_granted, MayBeWritten, MayDrop, NamesItsLanes}

-- journal and lanes agree, and the leases that are out are sound
pub record Agrees (a : Account) (w : Lanes) (ls : List CallOut) : Type 0 where
  pub tied : AreTied a w
  pub leased : AreLeased a w ls

-- a call that is out, whatever it answers and leaves behind
abbrev pub CallKeeps : Type 0
CallKeeps =
    (a : Account) (w w' : Lanes) (ls : List CallOut) (l : CallOut) (after : FencedLane) (x : Answer) → Agrees a w ls → In l ls
    → IsThere w l.lane
    → Replaced l.lane after w w' → CallMove l.lane (w.lane l.lane) after a.epoch l.token l.request x
    → Agrees a w' (leases_replied l.token (settlement_in x) ls)

-- a late effect
abbrev pub LateKeeps : Type 0
LateKeeps =
    (a : Account) (w w' : Lanes) (ls : List CallOut) (n : List ℕ) (after : FencedLane) (place : ℕ) (x : Settlement) → Agrees a w ls
    → IsThere w n
    → Replaced n after w w' → LateMove n (w.lane n) after place x → Agrees a w' ls

-- a fence that is raised, is ahead, or whose raising broke off
abbrev pub FenceKeeps : Type 0
FenceKeeps =
    (a : Account) (w w' : Lanes) (ls : List CallOut) (n : List ℕ) (after : FencedLane) (x : FenceAnswer) (before counted : ℕ)
    → Agrees a w ls → IsThere w n
    → Replaced n after w w' → FenceMove (w.lane n) after a.epoch x before counted → Agrees a w' ls

-- an opening: no lease is out
abbrev pub OpeningKeeps : Type 0
OpeningKeeps =
    (a : Account) (w : Lanes) (named : List ℕ → Option (List ℕ)) (resting : List ℕ → Bool) → AreTied a w → NamesItsLanes a w named
    → Agrees (opened named resting a) w []

-- an operation that begins, or ends: no stack is at rest that was not
abbrev pub RestKeeps : Type 0
RestKeeps =
    (a : Account) (w : Lanes) (ls : List CallOut) (resting : List ℕ → Bool) → Agrees a w ls → ((s : List ℕ) → resting s ≡ true
    → a.resting s ≡ true)
    → Agrees (rested resting a) w ls

-- a call that is written down, and goes out or not
abbrev pub IntentKeeps : Type 0
IntentKeeps =
    (a : Account) (w : Lanes) (ls : List CallOut) (o : Open) → Agrees a w ls → MayBeWritten a o
    → Agrees (intended o a) w ls × (a.resting o.stack ≡ false → Agrees (intended o a) w (leases_granted (a.last + 1) o.lane o.request ls))

-- the answer for good of an open call, whose lease comes back
abbrev pub AnswerKeeps : Type 0
AnswerKeeps =
    (a : Account) (w : Lanes) (ls : List CallOut) (l : CallOut) (o : Open) (x : Settlement) → Agrees a w ls → In l ls → l.reply ≡ Some x
    → a.open_ l.token ≡ Some o → Agrees (answered l.token o x a) w (returned l.token ls)

-- a lease that comes back with nothing to write, or with a doubt
abbrev pub ReturnKeeps : Type 0
ReturnKeeps = (a : Account) (w : Lanes) (ls : List CallOut) (t : ℕ) → Agrees a w ls → Agrees a w (returned t ls)

-- calls that are given up
abbrev pub DropKeeps : Type 0
DropKeeps =
    (a : Account) (w : Lanes) (ls : List CallOut) (drop : ℕ → Bool) (role : List ℕ → Role) → Agrees a w ls → MayDrop a w drop role
    → Agrees (dropped drop role a) w ls
