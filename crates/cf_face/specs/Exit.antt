-- How a command ended, and the line that says so (this project's own).
use Rattle.std.specs.Prelude.{ℕ, List, [], ◌∷◌, ◌++◌, decimal, codes}
use Rattle.cf_desired.specs.FlawText.{flaw_text}
use Rattle.cf_template.specs.declared.refusal.TemplateFault.{TemplateFault}
use Rattle.cf_template.specs.declared.refusal.TemplateFault.TheVariants as unread
use Rattle.cf_face.specs.declared.exit.Exit.{Exit}
use Rattle.cf_face.specs.declared.exit.Exit.TheVariants as exit
use Rattle.cf_face.specs.declared.exit.Refusal.{Refusal}
use Rattle.cf_face.specs.declared.exit.Refusal.TheVariants as refusal
use Rattle.cf_face.specs.declared.exit.StackFault.{StackFault}
use Rattle.cf_face.specs.declared.exit.StackFault.TheVariants as stack
use Rattle.cf_entry.specs.declared.turn.Cause.{Cause}
use Rattle.cf_entry.specs.declared.turn.Cause.TheVariants as cause
use Rattle.cf_entry.specs.declared.turn.Reason.{Reason}
use Rattle.cf_entry.specs.declared.turn.Reason.TheVariants as reason
use Rattle.cf_tree.specs.Codes.{name_of as code_name}
use Rattle.cf_entry.specs.Status.{status_name}
use Rattle.cf_face.specs.Line.{line_of, text_word, texts_word}

-- the number of an exit, which is the status of the process
abbrev pub exit_number : Exit → ℕ
exit_number exit.Done = 0
exit_number exit.BadWords = 1
exit_number (exit.TemplateRefused fault) = 2
exit_number (exit.StackRefused fault) = 3
exit_number (exit.RolledBack cause) = 4
exit_number (exit.Failed blamed) = 5
exit_number exit.LibraryFault = 6
exit_number exit.DiskFault = 7
exit_number exit.SinkFault = 8
exit_number exit.NoMemory = 9
exit_number (exit.NotAJournal offset) = 10
exit_number (exit.LaneMissing name) = 11
exit_number (exit.LaneTwice name) = 11
exit_number (exit.LaneAhead name fence epoch) = 12
exit_number (exit.LaneFault name) = 13
exit_number (exit.Full length need room) = 14

-- the name of an exit
abbrev pub exit_name : Exit → List ℕ
exit_name exit.Done = codes "Done"
exit_name exit.BadWords = codes "BadWords"
exit_name (exit.TemplateRefused fault) = codes "TemplateRefused"
exit_name (exit.StackRefused fault) = codes "StackRefused"
exit_name (exit.RolledBack cause) = codes "RolledBack"
exit_name (exit.Failed blamed) = codes "Failed"
exit_name exit.LibraryFault = codes "LibraryFault"
exit_name exit.DiskFault = codes "DiskFault"
exit_name exit.SinkFault = codes "SinkFault"
exit_name exit.NoMemory = codes "NoMemory"
exit_name (exit.NotAJournal offset) = codes "NotAJournal"
exit_name (exit.LaneMissing name) = codes "LaneMissing"
exit_name (exit.LaneTwice name) = codes "LaneTwice"
exit_name (exit.LaneAhead name fence epoch) = codes "LaneAhead"
exit_name (exit.LaneFault name) = codes "LaneFault"
exit_name (exit.Full length need room) = codes "Full"

-- why a template was not read: the fault's name and then its fields
abbrev pub unread_words : TemplateFault → List (List ℕ)
unread_words unread.NotJson = codes "NotJson" ∷ []
unread_words (unread.TooLong length) = codes "TooLong" ∷ decimal length ∷ []
unread_words (unread.WrongShape path) = codes "WrongShape" ∷ text_word path ∷ []
unread_words (unread.UnknownSection name) = codes "UnknownSection" ∷ text_word name ∷ []
unread_words unread.BadVersion = codes "BadVersion" ∷ []
unread_words (unread.NullValue path) = codes "NullValue" ∷ text_word path ∷ []
unread_words (unread.BadNumber path) = codes "BadNumber" ∷ text_word path ∷ []
unread_words (unread.BadName path) = codes "BadName" ∷ text_word path ∷ []
unread_words (unread.TooMany what count) = codes "TooMany" ∷ text_word what ∷ decimal count ∷ []
unread_words (unread.UnknownFunction path) = codes "UnknownFunction" ∷ text_word path ∷ []
unread_words (unread.Unsupported path name) = codes "Unsupported" ∷ text_word path ∷ text_word name ∷ []
unread_words unread.NoMemory = codes "NoMemory" ∷ []

-- why a template was refused: the variant's name and then its fields
abbrev pub refusal_words : Refusal → List (List ℕ)
refusal_words (refusal.Read name fault) = codes "Read" ∷ text_word name ∷ unread_words fault
refusal_words (refusal.NotYet name) = codes "NotYet" ∷ text_word name ∷ []
refusal_words (refusal.Plan fault) = codes "Plan" ∷ flaw_text fault ∷ []
refusal_words (refusal.UnknownType path name) = codes "UnknownType" ∷ text_word path ∷ text_word name ∷ []

-- why a stack was refused
abbrev pub stack_words : StackFault → List (List ℕ)
stack_words stack.NoStack = codes "NoStack" ∷ []
stack_words (stack.WrongStatus status) = codes "WrongStatus" ∷ status_name status ∷ []
stack_words (stack.NoChangeSet number) = codes "NoChangeSet" ∷ decimal number ∷ []
stack_words (stack.NotFailed path) = codes "NotFailed" ∷ text_word path ∷ []
stack_words (stack.TypeChanged path) = codes "TypeChanged" ∷ text_word path ∷ []
stack_words (stack.ExportTaken name) = codes "ExportTaken" ∷ text_word name ∷ []
stack_words (stack.ExportInUse name) = codes "ExportInUse" ∷ text_word name ∷ []
stack_words stack.NoChanges = codes "NoChanges" ∷ []
stack_words (stack.Outdated number) = codes "Outdated" ∷ decimal number ∷ []

-- what a handler answered: the name of its code, or that it failed without one
abbrev pub reason_word : Reason → List ℕ
reason_word (reason.Code code) = code_name code
reason_word reason.Fault = codes "Fault"

-- why an operation went no further; the text of a plan's fault is printed as it is
abbrev pub cause_words : Cause → List (List ℕ)
cause_words (cause.Handler path r) = codes "Handler" ∷ text_word path ∷ reason_word r ∷ []
cause_words (cause.Plan fault) = codes "Plan" ∷ fault ∷ []
cause_words (cause.Export name) = codes "Export" ∷ text_word name ∷ []

-- the fields of an exit
abbrev pub field_words : Exit → List (List ℕ)
field_words exit.Done = []
field_words exit.BadWords = []
field_words (exit.TemplateRefused fault) = refusal_words fault
field_words (exit.StackRefused fault) = stack_words fault
field_words (exit.RolledBack cause) = cause_words cause
field_words (exit.Failed blamed) = texts_word blamed ∷ []
field_words exit.LibraryFault = []
field_words exit.DiskFault = []
field_words exit.SinkFault = []
field_words exit.NoMemory = []
field_words (exit.NotAJournal offset) = decimal offset ∷ []
field_words (exit.LaneMissing name) = text_word name ∷ []
field_words (exit.LaneTwice name) = text_word name ∷ []
field_words (exit.LaneAhead name fence epoch) = text_word name ∷ decimal fence ∷ decimal epoch ∷ []
field_words (exit.LaneFault name) = text_word name ∷ []
field_words (exit.Full length need room) = decimal length ∷ decimal need ∷ decimal room ∷ []

-- the line of an exit: `exit`, its number, its name, and its fields in order
abbrev pub exit_line : Exit → List ℕ
exit_line e = line_of (codes "exit") (decimal (exit_number e) ∷ exit_name e ∷ field_words e)

-- What is printed where no report is: the line of the exit, and before it, where nothing changes, that of CloudFormation (API, UpdateStack).
abbrev pub unchanged_line : Exit → List ℕ
unchanged_line (exit.StackRefused stack.NoChanges) = codes "No updates are to be performed.\n"
unchanged_line _ = []

abbrev pub ending_text : Exit → List ℕ
ending_text e = unchanged_line e ++ exit_line e
