-- Settling the call of a lane that comes home: the room for its outcome.
use Rattle.std.proofs.Common.{◌≡◌, ◌⊎◌, inl, inr, ℕ, suc, ◌+◌, ◌^◌, ◌≤◌, Bool, true, false, List, [], ◌∷◌, Option, Some, None, length, refl, sym, ◌∙◌, ap, subst, arith, cond}
use Rattle.std.proofs.Math.Nat.{min-le_left}
use Rattle.std.specs.List.{cons_option}
use Rattle.std.specs.Option.{option_map_or}
use Rattle.std.specs.Str.{bytes_eq}
use Rattle.cf_tree.specs.Lists.{In}
use Rattle.cf_tree.specs.Lists.In.{here, there}
use Rattle.cf_tree.specs.SizeOf.{capped}
use Rattle.cf_tree.specs.declared.request.Answer.{Answer}
use Rattle.cf_tree.specs.declared.request.Answer.TheVariants as answer
use Rattle.cf_handler.specs.Move.{IsShort}
use Rattle.cf_entry.proofs.Codec.{some_is}
use Rattle.cf_entry.specs.Entry.{spelling_of}
use Rattle.cf_entry.specs.declared.entry.Reply.{Reply}
use Rattle.cf_effect.specs.Bounds.{IsShortReply}
use Rattle.cf_effect.specs.World.{StackState, stack_of_operation}
use Rattle.cf_stacks.specs.Room.{HasRoom, Standing, awaited_at, has_call}
use Rattle.cf_stacks.proofs.Short.{outcome_short}
use Rattle.cf_plan.proofs.Listed.{same_bytes}
use Rattle.cf_lane.specs.Calling.{Granted, granted_in}
use Rattle.cf_lane.specs.Lanes.{LaneNow}
use Rattle.cf_lane.specs.declared.told.Told.{Told}
use Rattle.cf_book.specs.Events.{outcome_by, reply_for}
use Rattle.cf_book.specs.Inside.{IsAwaited, calls_out}
use Rattle.cf_book.specs.State.{BookLane, IsOut, at_home, come_home, lent_for}
use Rattle.cf_book.proofs.Ready.{as_long, fewer_out, longer}

-- what is written of a short answer is short
pub short_reply : (a : Answer) (r : Reply) → IsShort a → reply_for a ≡ Some r → IsShortReply r
short_reply (answer.Success physical attrs) r h e = subst IsShortReply (some_is _ _ e) h
short_reply (answer.Failed code) r h e = subst IsShortReply (some_is _ _ e) tt
short_reply answer.Fault r h e = subst IsShortReply (some_is _ _ e) tt
short_reply (answer.Stale fence) r h e = absurd (cc)
short_reply answer.NoMemory r h e = absurd (cc)

-- there is room for the outcome of a call that is awaited
pub outcome_has_room : (x : Standing) (t : Told) (r : Reply) → IsAwaited x (granted_in t) → IsShort t.answer → reply_for t.answer ≡ Some r
    → HasRoom x (outcome_by t r)
outcome_has_room x t r h short e = inl (
  ap (λ (o : Option (List ℕ × StackState)). option_map_or (λ s. has_call t.token (awaited_at s.0 x)) o false) h.at ∙ h.room,
  short_reply t.answer r short e,
)

-- and for its spelling
pub outcome_is_short : (t : Told) (r : Reply) (spare : ℕ) → IsShort t.answer → reply_for t.answer ≡ Some r → 525350 ≤ spare
    → capped (length (spelling_of (outcome_by t r))) ≤ spare
outcome_is_short t r spare short e h =
    omega (arith, h, min-le_left (length (spelling_of (outcome_by t r))) (2 ^ 63), outcome_short t.number t.token r t.before t.after (short_reply t.answer r short e))

-- one call fewer is out where its lane comes home
pub one_fewer : (lanes : List BookLane) (was lane : LaneNow) (call : Granted) → IsOut lanes was call → lane.name ≡ was.name
    → suc (length (calls_out (come_home lane lanes))) ≤ length (calls_out lanes)
one_fewer [] was lane call i named = elim i [ ]
one_fewer (b ∷ bs) was lane call here named =
    let same : bytes_eq lane.name was.name ≡ true = subst (λ n. bytes_eq lane.name n ≡ true) named (same_bytes lane.name) in
    subst (λ s. suc (length (cons_option (cond s (at_home lane) (lent_for call was)).out (calls_out (come_home lane bs)))) ≤ length (cons_option (Some call) (calls_out bs))) (sym same)
    (omega (arith, fewer_out lane bs))
one_fewer (b ∷ bs) was lane call (there i) named = by (bytes_eq lane.name b.lane.name) (one_fewer bs was lane call i named) where
  by : (t : Bool) → suc (length (calls_out (come_home lane bs))) ≤ length (calls_out bs)
      → suc (length (cons_option (cond t (at_home lane) b).out (calls_out (come_home lane bs)))) ≤ length (cons_option b.out (calls_out bs))
  by true h = more b.out h where
    more : (o : Option Granted) → suc (length (calls_out (come_home lane bs))) ≤ length (calls_out bs) → suc (length (calls_out (come_home lane bs))) ≤ length (cons_option o (calls_out bs))
    more None h = h
    more (Some c) h = omega (arith, h)
  by false h = more b.out h where
    more : (o : Option Granted) → suc (length (calls_out (come_home lane bs))) ≤ length (calls_out bs)
        → suc (length (cons_option o (calls_out (come_home lane bs)))) ≤ length (cons_option o (calls_out bs))
    more None h = h
    more (Some c) h = omega (arith, h)

pub one_is_out : (lanes : List BookLane) (was : LaneNow) (call : Granted) → IsOut lanes was call → 1 ≤ length (calls_out lanes)
one_is_out [] was call i = elim i [ ]
one_is_out (b ∷ bs) was call here = omega arith
one_is_out (b ∷ bs) was call (there i) = more b.out (one_is_out bs was call i) where
  more : (o : Option Granted) → 1 ≤ length (calls_out bs) → 1 ≤ length (cons_option o (calls_out bs))
  more None h = h
  more (Some c) h = omega (arith, h)
