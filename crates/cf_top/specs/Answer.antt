-- What a command that drives no handlers comes to, and the program's choice between the two top calls (this project's own).
use Rattle.std.specs.Prelude.{◌≡◌, ◌⊎◌, ℕ, Bool, true, false, not, List, Option, Some, None, map, option_and_then, Ok, Err, IsTrue, ⊤}
use Rattle.cf_tree.specs.declared.template.Template.{Template}
use Rattle.cf_template.specs.Refusals.{Reading}
use Rattle.cf_template.specs.Whole.{template_of}
use Rattle.cf_tree.specs.Counts.{HasRisen}
use Rattle.cf_io.specs.Library.{StandsUnder}
use Rattle.cf_journal.specs.Record.{KeepsRecord}
use Rattle.cf_entry.specs.declared.entry.Entry.{Entry}
use Rattle.cf_desired.specs.declared.flaw.Flaw.TheVariants.{TemplateMissing}
use Rattle.cf_effect.specs.World.{World}
use Rattle.cf_face.specs.declared.words.Command.{Command}
use Rattle.cf_face.specs.declared.words.Question.{Question}
use Rattle.cf_face.specs.declared.words.Choice.{Choice}
use Rattle.cf_face.specs.declared.words.Question.TheVariants.{Review, Tell, Validate}
use Rattle.cf_face.specs.declared.words.Subject.{Subject}
use Rattle.cf_face.specs.declared.exit.Exit.{Exit}
use Rattle.cf_face.specs.declared.exit.Exit.TheVariants as exit
use Rattle.cf_face.specs.declared.exit.Refusal.{Refusal}
use Rattle.cf_face.specs.declared.exit.Refusal.TheVariants.{Read, Plan}
use Rattle.cf_face.specs.Exit.{ending_text}
use Rattle.cf_face.specs.Words.{command_of, drives, question_of}
use Rattle.cf_face.specs.Print.{PrintTells}
use Rattle.cf_disk.specs.declared.disk.Disk.{Ghosts as DiskGhosts}
use Rattle.cf_handler.specs.declared.handler.Handler.{Ghosts as HandlerGhosts}
use Rattle.cf_book.specs.Record.{world_left}
use Rattle.cf_schema.specs.declared.described.Schema.{Schema}
use Rattle.cf_top.specs.Crash.{WroteNothing}
use Rattle.cf_top.specs.Lanes.{one_of_each}
use Rattle.cf_top.specs.Opening.{HasOpenCause, Holds}
use Rattle.cf_top.specs.Refusals.{IsMiss, IsUnasked, LibraryUse}
use Rattle.cf_top.specs.Outside.{NothingTouched, Outside, Printing}
use Rattle.cf_top.specs.Reviewing.{LeavesAtMostOneSet, Reviews}
use Rattle.cf_top.specs.Telling.{subject_exit, subject_text}
use Rattle.cf_top.specs.Alone.{IsAnswered}

-- the command drives no handlers
abbrev pub is_asking : Option Command → Bool
is_asking (Some c) = not (drives c)
is_asking None = false

-- what the words ask, if they are such a command
abbrev pub question_words : List (List ℕ) → Option Question
question_words words = option_and_then question_of (command_of words)

-- the words are a review, the one of these commands that may write an entry
abbrev pub is_review : Option Question → Bool
is_review (Some (Review name choice)) = true
is_review (Some (Tell what)) = false
is_review (Some (Validate template)) = false
is_review None = false

-- why what was found under a template's name is no template
abbrev pub unread_as : List ℕ → Reading Template → Option Refusal
unread_as name (Err fault) = Some (Read name fault)
unread_as name (Ok t) = None

abbrev pub invalid_of : List ℕ → Option (List ℕ) → Option Refusal
invalid_of name None = Some (Plan (TemplateMissing name))
invalid_of name (Some bytes) = unread_as name (template_of bytes)

-- what the validation of the template under a name comes to: it is one, or the exit with its cause
abbrev pub Validates : LibraryUse → List ℕ → Exit → Type 0
Validates o name exit.Done = (bytes : List ℕ) × StandsUnder o.texts name (Some bytes) × (invalid_of name (Some bytes) ≡ None)
Validates o name (exit.TemplateRefused fault) =
    (found : Option (List ℕ)) × StandsUnder o.texts name found × (invalid_of name found ≡ Some fault) × IsMiss found o.misses o.misses'
Validates o name exit.LibraryFault = HasRisen o.faults o.faults'
Validates o name exit.NoMemory = ⊤
Validates o name _ = ⊥

-- a text was printed, and the exit answered
abbrev pub Prints : Printing → List ℕ → Exit → Exit → Type 0
Prints p text e result = PrintTells p.held p.held' p.faults p.faults' text e result

-- What the journal tells is of the world that its entries leave, and writes none; or the journal was not opened.
abbrev pub TellsIn : Subject → Printing → World → Exit → Type 0
TellsIn what p x result = Prints p (subject_text what x) (subject_exit what x) result

abbrev pub TellsFrom : Bool → List ℕ → List ℕ → ℕ → ℕ → Printing → Subject → Exit → Type 0
TellsFrom tells bytes bytes' faults faults' p what result =
    ((es : List Entry) × Holds tells bytes es × Holds tells bytes' es × TellsIn what p (world_left es) result)
    ⊎ ((e : Exit) × HasOpenCause tells bytes faults faults' e × Prints p (ending_text e) e result)

-- words that ask nothing, or memory is short
abbrev pub AsksNothing : List (List ℕ) → Exit → Type 0
AsksNothing words e = ((e ≡ exit.BadWords) × (is_asking (command_of words) ≡ false)) ⊎ (e ≡ exit.NoMemory)

-- all of it: the words are a validation, which asks the library alone; or ask what the journal tells, which asks the disk alone and keeps
-- its record; or a review, which asks both and may write one change set; or none of these
pub data AnswerTells {D : Type 0} (g : DiskGhosts D) (o : LibraryUse) (p : Printing) (schemas : List Schema) (disk disk' : D)
    (words : List (List ℕ)) (result : Exit) : Type 0 where
  validates :
      (template : List ℕ) (e : Exit) → question_words words ≡ Some (Validate template) → Validates o template e → disk' ≡ disk
      → Prints p (ending_text e) e result → AnswerTells g o p schemas disk disk' words result
  tells :
      (what : Subject) → question_words words ≡ Some (Tell what) → IsUnasked o
      → (IsTrue g.tells → KeepsRecord (g.seen disk) (g.seen disk'))
      → TellsFrom g.tells (g.seen disk) (g.seen disk') (g.count disk) (g.count disk') p what result
      → AnswerTells g o p schemas disk disk' words result
  reviews :
      (name : List ℕ) (choice : Choice) → question_words words ≡ Some (Review name choice)
      → Reviews g o p schemas disk disk' name choice result → AnswerTells g o p schemas disk disk' words result
  asks_nothing :
      (e : Exit) → AsksNothing words e → IsUnasked o → disk' ≡ disk → Prints p (ending_text e) e result
      → AnswerTells g o p schemas disk disk' words result

-- the schemas that a command has which drives no handlers: of each type of the lanes that of the first one
abbrev pub schemas_handed : {H : Type 0} → HandlerGhosts H → List H → List Schema
schemas_handed h handlers = one_of_each (map h.schema_of handlers)

-- No lane is called, and a disk that tells its bytes keeps its record, in what a crash may leave too; a review may leave one change set.
abbrev pub KeepsAll : {D H : Type 0} → DiskGhosts D → HandlerGhosts H → Outside D H → List (List ℕ) → Exit → Type 0
KeepsAll g h m words e =
    (m.handlers' ≡ m.handlers)
    × (is_review (question_words words) ≡ false → IsTrue g.tells
    → WroteNothing (g.seen m.disk) (g.seen m.disk') (g.may_leave m.disk) (g.may_leave m.disk'))
    × (IsTrue g.tells → LeavesAtMostOneSet (schemas_handed h m.handlers) (g.seen m.disk) (g.seen m.disk') (g.may_leave m.disk)
    (g.may_leave m.disk') e)

-- the words are a command that drives no handlers, which is answered and calls no lane; or they are not, and are for one thread alone; or
-- there was no memory to read them, and nothing was done
abbrev pub RanAs : {D H : Type 0} → DiskGhosts D → HandlerGhosts H → Outside D H → Printing → List (List ℕ) → Exit → Type 0
RanAs g h m p words result =
    ((is_asking (command_of words) ≡ true) × KeepsAll g h m words result
    × AnswerTells g m.library p (schemas_handed h m.handlers) m.disk m.disk' words result)
    ⊎ (((is_asking (command_of words) ≡ false) × IsAnswered g h m p words result)
    ⊎ (NothingTouched m × Prints p (ending_text exit.NoMemory) exit.NoMemory result))
