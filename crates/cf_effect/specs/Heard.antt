-- What an entry is kept as: itself, or its spelling (this project's own).
use Rattle.std.specs.Prelude.{◌≡◌, ⊤, ℕ, Bool, true, false, List, [], Option, Some, None}
use Rattle.cf_entry.specs.declared.entry.Entry.{Entry}
use Rattle.cf_entry.specs.declared.entry.Entry.TheVariants as entry
use Rattle.cf_entry.specs.declared.entry.Reply.TheVariants as reply
use Rattle.cf_entry.specs.EntryReading.{entry_of}
use Rattle.cf_effect.specs.declared.heard.Form.{Form}
use Rattle.cf_effect.specs.declared.heard.Form.TheVariants as form

-- no bytes are kept that spell no entry
abbrev pub spelled : Option Entry → Entry
spelled (Some e) = e
spelled None = entry.Opened 0 []

abbrev pub entry_of_form : Form → Entry
entry_of_form (form.Whole e) = e
entry_of_form (form.Spelled bytes) = spelled (entry_of bytes.items)

-- the entry is an outcome that is a success: only that is kept as its spelling
abbrev pub is_success_outcome : Entry → Bool
is_success_outcome (entry.Outcome number token (reply.Success physical attrs) before after) = true
is_success_outcome e = false

-- an outcome that is none, a copy of which takes no memory
abbrev pub unsuccessful : Entry → Option Entry
unsuccessful (entry.Outcome number token (reply.Failed code) before after) =
    Some (entry.Outcome number token (reply.Failed code) before after)
unsuccessful (entry.Outcome number token reply.Doubt before after) = Some (entry.Outcome number token reply.Doubt before after)
unsuccessful e = None

abbrev pub IsForm : Form → Type 0
IsForm (form.Whole e) = ⊤
IsForm (form.Spelled bytes) = is_success_outcome (spelled (entry_of bytes.items)) ≡ true
