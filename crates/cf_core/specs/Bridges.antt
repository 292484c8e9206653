-- How an entry changes the account: by one of the account's own moves (this project's own).
use Rattle.std.specs.Prelude.{◌≡◌, ℕ, ◌+◌, Bool, false, List, [], ◌∷◌, ◌++◌, Option, Some, None, if◌then◌else◌}
use Rattle.std.specs.Option.{option_map_or}
use Rattle.std.specs.Str.{bytes_eq}
use Rattle.cf_tree.specs.declared.request.Request.{Request}
use Rattle.cf_handler.specs.declared.settled.Settled.{Settled}
use Rattle.cf_entry.specs.declared.entry.Entry.{Entry}
use Rattle.cf_entry.specs.declared.entry.Entry.TheVariants as entry
use Rattle.cf_entry.specs.declared.entry.Reply.{Reply}
use Rattle.cf_entry.specs.declared.entry.Reply.TheVariants as reply
use Rattle.cf_entry.specs.declared.status.Status.{Status}
use Rattle.cf_entry.specs.declared.turn.Cause.{Cause}
use Rattle.cf_entry.specs.declared.turn.Phase.{Phase}
use Rattle.cf_entry.specs.declared.turn.Why.{Why}
use Rattle.cf_effect.specs.declared.held.Held.{Held}
use Rattle.cf_effect.specs.declared.held.Pending.{Pending}
use Rattle.cf_effect.specs.World.{StackState, World, stack_of_operation}
use Rattle.cf_effect.specs.Words.{pending_of}
use Rattle.cf_effect.specs.Fold.{world_after}
use Rattle.cf_agree.specs.Base.{named_by}
use Rattle.cf_agree.specs.Lanes.{Lanes}
use Rattle.cf_agree.specs.Account.{Thing, Role, Open, Account, opened, intended, answered, dropped}
use Rattle.cf_agree.specs.Account.Role.{Resource, Leftover}
use Rattle.cf_agree.specs.Moves.{MayDrop}
use Rattle.cf_agree.specs.Ties.{Books, AreTied, IsSettledCall}
use Rattle.cf_core.specs.AccountOf.{account_of, held_in, lane_types, resting_in, open_as, for_good}
use Rattle.cf_core.specs.OneStack.{AreOwn}

-- the account with one more entry
abbrev pub account_with : Entry → List Entry → World → Account
account_with e es x = account_of (es ++ e ∷ []) (world_after x e)

abbrev pub OpeningMoves : Type 0
OpeningMoves =
    (es : List Entry) (x : World) (epoch : ℕ) (lanes : List (List ℕ × List ℕ)) → epoch ≡ x.epoch + 1
    → account_with (entry.Opened epoch lanes) es x
    ≡ opened (lane_types lanes) (resting_in (world_after x (entry.Opened epoch lanes)).stacks) (account_of es x)

abbrev pub IntentMoves : Type 0
IntentMoves =
    (es : List Entry) (x : World) (name : List ℕ) (s : StackState) (number token : ℕ) (lane path : List ℕ) (r : Request)
    → AreOwn x.stacks → stack_of_operation number x ≡ Some (name, s) → token ≡ x.token + 1 → Books (account_of es x)
    → account_with (entry.Intent number token lane path r) es x
    ≡ intended (record { stack = name; path = path; lane = lane; request = r }) (account_of es x)

-- an answer for good; its token is settled so on its lane
abbrev pub OutcomeMoves : Type 0
OutcomeMoves =
    (es : List Entry) (x : World) (w : Lanes) (name : List ℕ) (s : StackState) (p : Pending) (y : Settled) (number token : ℕ)
    (answer : Reply) (before after : ℕ) → AreOwn x.stacks → stack_of_operation number x ≡ Some (name, s)
    → pending_of token s ≡ Some p → for_good answer ≡ Some y.settlement → AreTied (account_of es x) w
    → IsSettledCall (account_of es x) w token (open_as name p) y
    → account_with (entry.Outcome number token answer before after) es x
    ≡ answered token (open_as name p) y.settlement (account_of es x)

-- a doubt changes nothing
abbrev pub DoubtMoves : Type 0
DoubtMoves =
    (es : List Entry) (x : World) (name : List ℕ) (s : StackState) (number token before after : ℕ) → AreOwn x.stacks
    → stack_of_operation number x ≡ Some (name, s)
    → account_with (entry.Outcome number token reply.Doubt before after) es x ≡ account_of es x

-- A resource is kept: it is left over, and the calls on it are given up.
abbrev pub names_id : List ℕ → Option Open → Bool
names_id i None = false
names_id i (Some o) = option_map_or (bytes_eq i) (named_by o.request) false

abbrev pub kept_role : List ℕ → (List ℕ → Role) → List ℕ → Role
kept_role i role j = if bytes_eq j i then Leftover else role j

abbrev pub kept_in : List ℕ → Account → Account
kept_in i a = dropped (λ t. names_id i (a.open_ t)) (kept_role i a.role) a

abbrev pub KeptMoves : Type 0
KeptMoves =
    (es : List Entry) (x : World) (name : List ℕ) (s : StackState) (h : Held) (number : ℕ) (path physical : List ℕ) (w : Why)
    → AreOwn x.stacks → stack_of_operation number x ≡ Some (name, s) → held_in physical s ≡ Some h → Books (account_of es x)
    → account_with (entry.Kept number path physical w) es x ≡ kept_in physical (account_of es x)

-- and that may be
abbrev pub KeptMay : Type 0
KeptMay =
    (a : Account) (w : Lanes) (i : List ℕ) (r : Thing) → Books a → a.role i ≡ Resource r
    → MayDrop a w (λ t. names_id i (a.open_ t)) (kept_role i a.role)

-- a later phase, and an end, change nothing that is told
abbrev pub PhaseMoves : Type 0
PhaseMoves =
    (es : List Entry) (x : World) (name : List ℕ) (s : StackState) (number : ℕ) (p : Phase) (cause : Option Cause) → AreOwn x.stacks
    → stack_of_operation number x ≡ Some (name, s) → account_with (entry.Phase number p cause) es x ≡ account_of es x

abbrev pub DoneMoves : Type 0
DoneMoves =
    (es : List Entry) (x : World) (name : List ℕ) (s : StackState) (number : ℕ) (state : Status) (failed : List (List ℕ))
    → AreOwn x.stacks → stack_of_operation number x ≡ Some (name, s)
    → account_with (entry.Done number state failed) es x ≡ account_of es x
