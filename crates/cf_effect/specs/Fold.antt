-- Folding the journal: the world after each entry, as a table over the kinds of entry (this project's own).
use Rattle.std.specs.Prelude.{ℕ, ◌+◌, Bool, true, false, List, [], ◌∷◌, Option, Some, None, map}
use Rattle.std.specs.Option.{option_map, option_map_or}
use Rattle.cf_entry.specs.declared.entry.Entry.{Entry}
use Rattle.cf_entry.specs.declared.entry.Entry.TheVariants as entry
use Rattle.cf_entry.specs.declared.entry.Begun.TheVariants as begin
use Rattle.cf_effect.specs.World.{StackState, World, known_stack, stack_at, stack_of_operation}
use Rattle.cf_effect.specs.Calls.{anew}
use Rattle.cf_effect.specs.Effect.{Effect, heard, leaving, on_stack}
use Rattle.cf_effect.specs.Begin.{beginning, begun_effect, source_for, with_set}
use Rattle.cf_effect.specs.Reply.{intending, keeping, replying}
use Rattle.cf_effect.specs.End.{ended_effect, turned_effect}

-- The stack that an entry is of, with its name: a create and a change set make theirs where there is none; every other
-- Begin is of the stack of its name; and what an operation does is of the stack on which it is in progress.
abbrev pub stack_for : Entry → World → Option (List ℕ × StackState)
stack_for (entry.Opened epoch lanes) x = None
stack_for (entry.Begin number name (begin.Create source)) x = Some (name, known_stack name x)
stack_for (entry.Begin number name k) x = option_map (λ s. (name, s)) (stack_at name x)
stack_for (entry.ChangeSet number name source rows outputs) x = Some (name, known_stack name x)
stack_for (entry.Kept number path physical w) x = stack_of_operation number x
stack_for (entry.Intent number token lane path r) x = stack_of_operation number x
stack_for (entry.Outcome number token answer before after) x = stack_of_operation number x
stack_for (entry.Phase number p cause) x = stack_of_operation number x
stack_for (entry.Done number state failed) x = stack_of_operation number x

-- what an entry leaves of its stack; an opening is of every stack, whose calls count anew
abbrev pub effect_of : Entry → StackState → Effect
effect_of (entry.Opened epoch lanes) s = on_stack (record s { ledger = map anew s.ledger })
effect_of (entry.Begin number name k) s = begun_effect k (beginning name number k s)
effect_of (entry.Kept number path physical w) s = on_stack (keeping path physical w s)
effect_of (entry.Intent number token lane path r) s =
    on_stack (intending number (record { token = token; path = path; lane = lane; request = r }) s)
effect_of (entry.Outcome number token answer before after) s = on_stack (replying token answer s)
effect_of (entry.Phase number p cause) s = turned_effect p s
effect_of (entry.Done number state failed) s = ended_effect state s
effect_of (entry.ChangeSet number name source rows outputs) s =
    on_stack (with_set (record { number = number; source = source_for name 0 source; rows = rows; outputs = outputs }) s)

-- what an entry at its place leaves of its stack, which has heard of it
abbrev pub effect_at : ℕ → Entry → StackState → Effect
effect_at place e s = heard place e s (effect_of e s)

abbrev pub opening_heard : ℕ → Entry → List ℕ × StackState → List ℕ × StackState
opening_heard place e s = (s.0, (effect_at place e s.1).stack)

abbrev pub is_opening : Entry → Bool
is_opening (entry.Opened epoch lanes) = true
is_opening e = false

-- the entry is an intent
abbrev pub is_intent : Entry → Bool
is_intent (entry.Intent number token lane path r) = true
is_intent e = false

-- the world in which every stack, or the one that the entry is of, is left so
abbrev pub changed_by : ℕ → Entry → World → World
changed_by place (entry.Opened epoch lanes) x = record x { stacks = map (opening_heard place (entry.Opened epoch lanes)) x.stacks }
changed_by place e x = option_map_or (λ s. leaving s.0 (effect_at place e s.1) x) (stack_for e x) x

-- the last numbers, and the lanes of the last opening: whether there is a stack that the entry is of or not
abbrev pub numbered : Entry → World → World
numbered (entry.Opened epoch lanes) x = record x { epoch = epoch; lanes = lanes }
numbered (entry.Begin number name k) x = record x { operation = number }
numbered (entry.Intent number token lane path r) x = record x { token = token }
numbered (entry.ChangeSet number name source rows outputs) x = record x { set = number }
numbered e x = x

abbrev pub world_after : World → Entry → World
world_after x e = record (numbered e (changed_by (x.place + 1) e x)) { place = x.place + 1 }

-- the world after these entries
abbrev pub fold_of : World → List Entry → World
fold_of x [] = x
fold_of x (e ∷ es) = fold_of (world_after x e) es
