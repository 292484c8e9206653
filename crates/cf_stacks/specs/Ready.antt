-- The room for one entry: what is prepared for a step over it (this project's own).
use Rattle.std.specs.Prelude.{◌≡◌, ℕ, ◌≤◌, ◌+◌, Bool, true, false, List, Option, Some, None, IfSome, is_some, length}
use Rattle.std.specs.List.{AllByRecursion}
use Rattle.cf_tree.specs.Keys.{value_at}
use Rattle.cf_entry.specs.declared.entry.Entry.{Entry}
use Rattle.cf_entry.specs.declared.entry.Entry.TheVariants as entry
use Rattle.cf_stacks.specs.declared.ready.Work.{Work}
use Rattle.cf_stacks.specs.declared.ready.Work.TheVariants as work
use Rattle.cf_stacks.specs.declared.standing.Fields.{Fields}
use Rattle.cf_stacks.specs.declared.stack.CallParts.{CallParts}
use Rattle.cf_effect.specs.declared.heard.HeardEntry.{HeardEntry}
use Rattle.cf_effect.specs.Fold.{is_intent, is_opening, stack_for}
use Rattle.cf_effect.specs.Bounds.{IsShortReply}
use Rattle.cf_stacks.specs.Room.{is_awaited}
use Rattle.cf_stacks.specs.Standing.{CallFits, HasOne, IsLeft, IsPartsOf, stack_known, standing_in, world_in}

-- the entry is of the stack of this name
abbrev pub IsOfStack : List ℕ → Entry → Fields → Type 0
IsOfStack name e x = stack_for e (world_in x) ≡ Some (name, stack_known (value_at name x.stacks))

pub record IsOpening (e : Entry) (heard : List Entry) (x : Fields) : Type 0 where
  pub opening : is_opening e ≡ true
  pub spare : AllByRecursion HasOne x.stacks
  pub copies : AllByRecursion (λ c. c ≡ e) heard
  pub enough : length x.stacks ≤ length heard

pub record IsCall (e : Entry) (name : List ℕ) (brought : CallParts) (x : Fields) : Type 0 where
  pub of_it : IsOfStack name e x
  pub stands : is_some (value_at name x.stacks) ≡ true
  pub fits : IfSome (value_at name x.stacks) (CallFits brought)
  pub parts : IsPartsOf e brought (x.place + 1) (stack_known (value_at name x.stacks))

-- the entry is a short outcome of this call, which is awaited on the stack of this operation
abbrev pub IsAnswer : ℕ → ℕ → Entry → Fields → Type 0
IsAnswer number token (entry.Outcome n t answer before after) x =
    (n ≡ number) × (t ≡ token) × (is_awaited number token (standing_in x) ≡ true) × IsShortReply answer
IsAnswer number token e x = ⊥

abbrev pub IsPrepared : Entry → Fields → Work → Type 0
IsPrepared e x work.Nothing = (is_opening e ≡ false) × (stack_for e (world_in x) ≡ None)
IsPrepared e x (work.Opens copies) = IsOpening e copies.items x
IsPrepared e x (work.Calls name parts) = IsCall e name parts x
IsPrepared e x (work.Answers number token) = IsAnswer number token e x
IsPrepared e x (work.Leaves name left) = (is_opening e ≡ false) × (is_intent e ≡ false) × IsOfStack name e x × IsLeft e name left x
