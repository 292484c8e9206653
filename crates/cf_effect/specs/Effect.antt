-- What an entry leaves of the stack that it is of and of what this stack lists among all stacks: one record, which every
-- entry of a stack gives, and the one way in which it changes the world (this project's own).
use Rattle.std.specs.Prelude.{ℕ, List, [], ◌∷◌, ◌++◌, Option, None}
use Rattle.cf_tree.specs.Keys.{put}
use Rattle.cf_entry.specs.declared.entry.Entry.{Entry}
use Rattle.cf_entry.specs.declared.entry.Entry.TheVariants as entry
use Rattle.cf_effect.specs.World.{StackState, World}
use Rattle.cf_effect.specs.Event.{lines_of}
use Rattle.cf_effect.specs.Listed.{NamesAfter, Same, pins_after, exports_after}

pub record Effect : Type 0 where
  pub stack : StackState
  pub exports : Option (List (List ℕ × List ℕ))  -- all that the stack exports from now on, where that changes
  pub pins : NamesAfter
  pub claims : NamesAfter

-- the stack changes, and nothing that it lists
abbrev pub on_stack : StackState → Effect
on_stack s = record { stack = s; exports = None; pins = Same; claims = Same }

-- The entry joins those of its stack, which begin with the last Begin that is no continued rollback: an opening joins what
-- is there since one, and a change set is of no operation.
abbrev pub entries_with : Entry → List Entry → List Entry
entries_with (entry.ChangeSet number name source rows outputs) es = es
entries_with (entry.Opened epoch lanes) [] = []
entries_with e es = es ++ e ∷ []

-- the stack hears of the entry at this place: it joins the stack's own, with its line for `events`
abbrev pub heard : ℕ → Entry → StackState → Effect → Effect
heard place e was f =
    record f { stack = record f.stack { entries = entries_with e f.stack.entries; events = f.stack.events ++ lines_of place e was } }

-- The world in which the stack of this name is left so: the other stacks and what they list, the lanes and the last
-- numbers are as they were.
abbrev pub leaving : List ℕ → Effect → World → World
leaving name f x = record x {
  stacks = put name f.stack x.stacks;
  exports = exports_after name f.exports x.exports;
  pins = pins_after name f.pins x.pins;
  claims = pins_after name f.claims x.claims;
}
