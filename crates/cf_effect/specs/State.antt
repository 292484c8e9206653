-- How a stack's fields stand for its record, and what an entry leaves of it as the code keeps that (this project's own).
use Rattle.std.specs.Prelude.{ℕ, List, [], Option, None, option_map}
use Rattle.std.specs.Option.{option_map_or}
use Rattle.cf_tree.specs.declared.source.Source.{Source}
use Rattle.cf_effect.specs.declared.held.Held.{Held}
use Rattle.cf_effect.specs.declared.state.State.{State}
use Rattle.cf_effect.specs.declared.listed.Listed.TheVariants as kept
use Rattle.cf_effect.specs.declared.listed.Listed as declared
use Rattle.cf_effect.specs.declared.listed.Lists.{Lists}
use Rattle.cf_effect.specs.World.{StackState}
use Rattle.cf_effect.specs.Outset.{Outset}
use Rattle.cf_effect.specs.Listed.{NamesAfter, Same, Also, Only}
use Rattle.cf_effect.specs.Effect.{Effect}

abbrev pub before_in : Option Outset → List Held
before_in o = option_map_or (λ s. s.before) o []

abbrev pub source_in : Option Outset → Option Source
source_in o = option_map (λ s. s.source) o

abbrev pub state_of : State → StackState
state_of s = record {
  status = s.status;
  number = s.number;
  operation = s.operation;
  held = s.held.items;
  before = before_in s.outset;
  made = s.made.items;
  leftovers = s.leftovers.items;
  tokens = s.tokens.items;
  abandoned = s.abandoned.items;
  source = s.source;
  going = source_in s.outset;
  outputs = s.outputs;
  sets = s.sets.items;
  events = s.events.items;
  entries = s.entries.items;
  ledger = s.ledger.items;
}

abbrev pub names_listed : declared.Listed → NamesAfter
names_listed kept.Same = Same
names_listed (kept.Also names) = Also names
names_listed (kept.Only names) = Only names

-- a stack that was left so, and what is left of its lists
abbrev pub effect_from : Lists → State → Effect
effect_from l s = record { stack = state_of s; exports = l.exports; pins = names_listed l.pins; claims = names_listed l.claims }

-- what a stack lists stays; or it pins these names alone
abbrev pub lists_same : Lists
lists_same = record { exports = None; pins = kept.Same; claims = kept.Same }

abbrev pub lists_pinning : List (List ℕ) → Lists
lists_pinning names = record { exports = None; pins = kept.Only names; claims = kept.Same }
