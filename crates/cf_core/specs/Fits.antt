-- What agreement of journal and lanes gives of one stack, said of the journal alone, and the entries that agreement lets be
-- written: those that may follow, where what a create made has an id that nothing had before (this project's own).
use Rattle.std.specs.Prelude.{◌≡◌, ℕ, ◌+◌, ◌==◌, ◌≤◌, true, false, List, Some, None, map, ⊤}
use Rattle.std.specs.Str.{bytes_eq}
use Rattle.cf_tree.specs.Named.{all_differ}
use Rattle.cf_entry.specs.declared.entry.Entry.{Entry}
use Rattle.cf_entry.specs.declared.entry.Entry.TheVariants as entry
use Rattle.cf_entry.specs.declared.entry.Reply.TheVariants as reply
use Rattle.cf_schema.specs.declared.described.Schema.{Schema}
use Rattle.cf_effect.specs.declared.call.Call.{Call}
use Rattle.cf_effect.specs.declared.held.Held.{Held}
use Rattle.cf_effect.specs.declared.held.Pending.{Pending}
use Rattle.cf_effect.specs.World.{StackState, World, known_stack, stack_at, stack_of_operation}
use Rattle.cf_effect.specs.Words.{id_named, pending_of, resources_of}
use Rattle.cf_effect.specs.Calls.{call_under as call_of}
use Rattle.cf_stacks.specs.Apart.{AreApart}
use Rattle.cf_effect.specs.Fold.{effect_at, is_opening, stack_for, world_after}
use Rattle.cf_tree.specs.Lists.{In}
use Rattle.cf_plan.specs.Follow.{HasLanes, MayFollow}

-- the row of an open call: it says what the call is, and has no answer
pub record IsRowOf (p : Pending) (c : Call) : Type 0 where
  pub lane : c.lane ≡ p.lane
  pub path : c.path ≡ p.path
  pub request : c.request ≡ p.request
  pub unanswered : c.answer ≡ None

-- no two resources of the stack have one id and no two of its open calls one token or one path; each open call has its row, each
-- update and deletion names a resource of the stack, at the call's path, and the lanes of the last opening are there for all of it
pub record Fits (x : World) (s : StackState) : Type 0 where
  pub ids : all_differ bytes_eq (map (λ r. r.physical) (resources_of s)) ≡ true
  pub tokens : all_differ ◌==◌ (map (λ p. p.token) s.tokens) ≡ true
  pub paths : (p q : Pending) → In p s.tokens → In q s.tokens → p.path ≡ q.path → p ≡ q
  pub named : (p : Pending) (id : List ℕ) → In p s.tokens → id_named p.request ≡ Some id
      → (r : Held) × In r (resources_of s) × (r.physical ≡ id) × (r.path ≡ p.path)
  pub rows : (p : Pending) → In p s.tokens → (c : Call) × (call_of p.token s ≡ Some c) × IsRowOf p c
  pub row_tokens : all_differ ◌==◌ (map (λ c. c.token) s.ledger) ≡ true
  pub last : (c : Call) → In c s.ledger → c.token ≤ x.token
  pub numbers : (c : Call) → In c s.ledger → c.number ≤ s.operation
  pub lanes : HasLanes x.lanes s

-- an id is new to a stack: no resource of it has the id, and no call of it names the id
pub record IsNewTo (s : StackState) (id : List ℕ) : Type 0 where
  pub resources : (r : Held) → In r (resources_of s) → r.physical ≡ id → ⊥
  pub calls : (c : Call) → In c s.ledger → id_named c.request ≡ Some id → ⊥

-- what an open create made is new to its stack
abbrev pub IsNew : World → Entry → Type 0
IsNew x (entry.Outcome number token (reply.Success physical attrs) before after) =
    (name : List ℕ) (s : StackState) (p : Pending) → stack_of_operation number x ≡ Some (name, s) → pending_of token s ≡ Some p
    → id_named p.request ≡ None → IsNewTo s physical
IsNew x e = ⊤

-- the stack after an entry: as the fold has it where the entry is of the stack or an opening, and else as it was
pub data BecomesBy (x : World) (e : Entry) (name : List ℕ) (s : StackState) : StackState → Type 0 where
  own : stack_for e x ≡ Some (name, s) → BecomesBy x e name s (effect_at (x.place + 1) e s).stack
  at_opening : is_opening e ≡ true → BecomesBy x e name s (effect_at (x.place + 1) e s).stack
  other : (is_opening e ≡ false) → ((t : StackState) → stack_for e x ≡ Some (name, t) → ⊥) → BecomesBy x e name s s

-- An entry is written, while the leases of these tokens are out: the stack of this name, s, becomes t. Where there was none, s is one of
-- which nothing is known.
pub record IsWritten (schemas : List Schema) (x : World) (out : List ℕ) (e : Entry) (name : List ℕ) (s t : StackState) : Type 0 where
  pub may : MayFollow schemas x out e
  pub new : IsNew x e
  pub apart : AreApart x
  pub was : known_stack name x ≡ s
  pub now : stack_at name (world_after x e) ≡ Some t
  pub becomes : BecomesBy x e name s t
  pub fits : Fits x s
  pub fits_after : Fits (world_after x e) t
