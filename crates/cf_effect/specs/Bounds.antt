-- The bounds on the outcome of a call (this project's own; what a handler may answer has the same).
use Rattle.std.specs.Prelude.{◌≡◌, ⊤, ℕ, ◌≤◌, length}
use Rattle.cf_tree.specs.Limits.{most_id_bytes, most_attrs_bytes}
use Rattle.cf_tree.specs.SizeOf.{size_of_dict}
use Rattle.cf_entry.specs.declared.entry.Entry.{Entry}
use Rattle.cf_entry.specs.declared.entry.Entry.TheVariants as entry
use Rattle.cf_entry.specs.declared.entry.Reply.{Reply}
use Rattle.cf_entry.specs.declared.entry.Reply.TheVariants as reply

-- the longest answer
abbrev pub IsShortReply : Reply → Type 0
IsShortReply (reply.Success physical attrs) = (length physical ≤ most_id_bytes) × (size_of_dict attrs ≤ most_attrs_bytes)
IsShortReply _ = ⊤

-- the entry is a short outcome of this call
abbrev pub IsShortOutcomeOf : ℕ → Entry → Type 0
IsShortOutcomeOf token (entry.Outcome number other answer before after) = (other ≡ token) × IsShortReply answer
IsShortOutcomeOf token e = ⊥
