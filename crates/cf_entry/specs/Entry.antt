-- The one spelling of each entry of the journal (this project's own format): a byte for the kind of entry, and its fields.
use Rattle.std.specs.Prelude.{◌≡◌, ℕ, Bool, true, ◌&&◌, IsTrue, IfSome, List, [], ◌∷◌, ◌++◌, Option, Some, None}
use Rattle.std.specs.List.{AllByRecursion}
use Rattle.cf_tree.specs.Codes.{number_of}
use Rattle.cf_tree.specs.declared.request.Request.{Request}
use Rattle.cf_tree.specs.declared.request.Request.TheVariants as request
use Rattle.cf_tree.specs.declared.row.Detail.{Detail}
use Rattle.cf_tree.specs.declared.row.Row.{Row}
use Rattle.cf_tree.specs.declared.source.Source.{Source}
use Rattle.cf_tree.specs.Keys.{ascends, bytes_lt}
use Rattle.cf_entry.specs.declared.entry.Entry.{Entry}
use Rattle.cf_entry.specs.declared.entry.Entry.TheVariants as entry
use Rattle.cf_entry.specs.declared.entry.Begun.{Begun}
use Rattle.cf_entry.specs.declared.entry.Begun.TheVariants as begun
use Rattle.cf_entry.specs.declared.entry.Reply.{Reply}
use Rattle.cf_entry.specs.declared.entry.Reply.TheVariants as reply
use Rattle.cf_entry.specs.declared.turn.Cause.{Cause}
use Rattle.cf_entry.specs.declared.turn.Cause.TheVariants as cause
use Rattle.cf_entry.specs.Numbers.{why_number, phase_number, action_number, attribute_number, recreation_number, evaluation_number, replacement_number, reason_number, has_cause, is_named}
use Rattle.cf_entry.specs.Status.{status_number, is_end}
use Rattle.cf_entry.specs.Bytes.{truth_byte, eight_bytes, text_bytes, list_bytes, option_bytes, pair_bytes, IsTemplate, IsText, IsEight, AreAll, IsPair}
use Rattle.cf_entry.specs.Value.{dict_bytes, IsDict}

-- a source, but for the stack and the number that serve pseudo parameters
abbrev pub source_bytes : Source → List ℕ
source_bytes s = text_bytes s.root ++ (list_bytes pair_bytes s.texts ++ (list_bytes pair_bytes s.given ++ list_bytes pair_bytes s.imports))

-- the number of what an operation sets out to do
abbrev pub kind_number : Begun → ℕ
kind_number (begun.Create source) = 1
kind_number (begun.Update source) = 2
kind_number (begun.Delete paths) = 3
kind_number (begun.Continue paths) = 4

-- its source, which creations and updates have
abbrev pub source_of : Begun → Option Source
source_of (begun.Create source) = Some source
source_of (begun.Update source) = Some source
source_of _ = None

-- its paths: those to keep of a deletion, and those to skip of a rollback that goes on
abbrev pub paths_of : Begun → List (List ℕ)
paths_of (begun.Delete paths) = paths
paths_of (begun.Continue paths) = paths
paths_of _ = []

-- a number, a source where there is one, and paths
abbrev pub parts_bytes : ℕ → Option Source → List (List ℕ) → List ℕ
parts_bytes n s ps = n ∷ (option_bytes source_bytes s ++ list_bytes text_bytes ps)

abbrev pub begun_bytes : Begun → List ℕ
begun_bytes b = parts_bytes (kind_number b) (source_of b) (paths_of b)

-- a request: what to make, change or delete
abbrev pub request_bytes : Request → List ℕ
request_bytes (request.Create kind props) = 1 ∷ (text_bytes kind ++ dict_bytes props)
request_bytes (request.Update physical props) = 2 ∷ (text_bytes physical ++ dict_bytes props)
request_bytes (request.Delete physical) = 3 ∷ text_bytes physical

-- what a request came to
abbrev pub reply_bytes : Reply → List ℕ
reply_bytes (reply.Success physical attrs) = 1 ∷ (text_bytes physical ++ dict_bytes attrs)
reply_bytes (reply.Failed code) = 2 ∷ number_of code ∷ []
reply_bytes reply.Doubt = 3 ∷ []

-- why an operation turned back
abbrev pub cause_bytes : Cause → List ℕ
cause_bytes (cause.Handler path reason) = 1 ∷ (text_bytes path ++ (reason_number reason ∷ []))
cause_bytes (cause.Plan fault) = 2 ∷ text_bytes fault
cause_bytes (cause.Export name) = 3 ∷ text_bytes name

-- a change of a resource, and a row of a change set
abbrev pub detail_bytes : Detail → List ℕ
detail_bytes d =
    attribute_number d.attribute ∷ (text_bytes d.name ++ (recreation_number d.recreation ∷ (evaluation_number d.evaluation ∷ [])))

abbrev pub row_bytes : Row → List ℕ
row_bytes r =
    action_number r.action ∷ (text_bytes r.path
    ++ (text_bytes r.kind ++ (replacement_number r.replacement ∷ (truth_byte r.unsure ∷ list_bytes detail_bytes r.details))))

-- the one spelling of an entry
abbrev pub spelling_of : Entry → List ℕ
spelling_of (entry.Opened epoch lanes) = 1 ∷ (eight_bytes epoch ++ list_bytes pair_bytes lanes)
spelling_of (entry.Begin number stack kind) = 2 ∷ (eight_bytes number ++ (text_bytes stack ++ begun_bytes kind))
spelling_of (entry.Kept number path physical why) =
    3 ∷ (eight_bytes number ++ (text_bytes path ++ (text_bytes physical ++ (why_number why ∷ []))))
spelling_of (entry.Intent number token lane path request) =
    4 ∷ (eight_bytes number ++ (eight_bytes token ++ (text_bytes lane ++ (text_bytes path ++ request_bytes request))))
spelling_of (entry.Outcome number token answer before after) =
    5 ∷ (eight_bytes number ++ (eight_bytes token ++ (reply_bytes answer ++ (eight_bytes before ++ eight_bytes after))))
spelling_of (entry.Phase number phase cause) = 6 ∷ (eight_bytes number ++ (phase_number phase ∷ option_bytes cause_bytes cause))
spelling_of (entry.Done number status failed) = 7 ∷ (eight_bytes number ++ (status_number status ∷ list_bytes text_bytes failed))
spelling_of (entry.ChangeSet number stack source rows outputs) =
    8 ∷ (eight_bytes number ++ (text_bytes stack ++ (source_bytes source ++ (list_bytes row_bytes rows ++ (truth_byte outputs ∷ [])))))

-- each text is below the next in the order of their bytes, and the first above k
abbrev pub texts_ascend_from : List ℕ → List (List ℕ) → Bool
texts_ascend_from k [] = true
texts_ascend_from k (t ∷ ts) = bytes_lt k t && texts_ascend_from t ts

-- each text is below the next
abbrev pub texts_ascend : List (List ℕ) → Bool
texts_ascend [] = true
texts_ascend (t ∷ ts) = texts_ascend_from t ts

-- a source tells the stack of its entry, and the number 0
abbrev pub IsFor : List ℕ → Source → Type 0
IsFor stack source = (source.stack ≡ stack) × (source.number ≡ 0)

-- the source of an operation is for its stack, and its paths ascend
abbrev pub IsTied : List ℕ → Begun → Type 0
IsTied stack (begun.Create source) = IsFor stack source
IsTied stack (begun.Update source) = IsFor stack source
IsTied stack (begun.Delete paths) = IsTrue (texts_ascend paths)
IsTied stack (begun.Continue paths) = IsTrue (texts_ascend paths)

-- a detail of a policy has no name
abbrev pub IsNamed : Detail → Type 0
IsNamed d = IsTrue (is_named d.attribute d.name)

abbrev pub HasNamed : Row → Type 0
HasNamed r = AllByRecursion IsNamed r.details

abbrev pub AreNamed : List Row → Type 0
AreNamed rows = AllByRecursion HasNamed rows

-- what the types leave open: a source is for the stack of its entry, paths ascend, a turn back has a cause and no other phase has one, no
-- detail of a policy has a name, and an operation ends in one of the statuses for it
abbrev pub IsProper : Entry → Type 0
IsProper (entry.Begin number stack kind) = IsTied stack kind
IsProper (entry.Phase number phase cause) = IsTrue (has_cause phase cause)
IsProper (entry.Done number status failed) = IsTrue (is_end status)
IsProper (entry.ChangeSet number stack source rows outputs) = IsFor stack source × AreNamed rows
IsProper _ = Unit {0}

-- what can stand in a journal: the parts fit their fields, texts are texts, keys ascend
abbrev pub IsSource : Source → Type 0
IsSource s =
    IsText s.root × (AreAll IsTemplate s.texts × IsTrue (ascends s.texts)) × (AreAll IsPair s.given × IsTrue (ascends s.given))
    × (AreAll IsPair s.imports × IsTrue (ascends s.imports))

abbrev pub IsBegun : List ℕ → Begun → Type 0
IsBegun stack (begun.Create source) = IsSource source × IsTied stack (begun.Create source)
IsBegun stack (begun.Update source) = IsSource source × IsTied stack (begun.Update source)
IsBegun stack (begun.Delete paths) = AreAll IsText paths × IsTied stack (begun.Delete paths)
IsBegun stack (begun.Continue paths) = AreAll IsText paths × IsTied stack (begun.Continue paths)

abbrev pub IsRequest : Request → Type 0
IsRequest (request.Create kind props) = IsText kind × IsDict props
IsRequest (request.Update physical props) = IsText physical × IsDict props
IsRequest (request.Delete physical) = IsText physical

abbrev pub IsReply : Reply → Type 0
IsReply (reply.Success physical attrs) = IsText physical × IsDict attrs
IsReply (reply.Failed code) = Unit {0}
IsReply reply.Doubt = Unit {0}

abbrev pub IsCauseText : Cause → Type 0
IsCauseText (cause.Handler path reason) = IsText path
IsCauseText (cause.Plan fault) = IsText fault
IsCauseText (cause.Export name) = IsText name

abbrev pub IsDetail : Detail → Type 0
IsDetail d = IsText d.name × IsNamed d

abbrev pub IsRow : Row → Type 0
IsRow r = IsText r.path × IsText r.kind × AreAll IsDetail r.details

abbrev pub IsEntry : Entry → Type 0
IsEntry (entry.Opened epoch lanes) = IsEight epoch × AreAll IsPair lanes
IsEntry (entry.Begin number stack kind) = IsEight number × IsText stack × IsBegun stack kind
IsEntry (entry.Kept number path physical why) = IsEight number × IsText path × IsText physical
IsEntry (entry.Intent number token lane path request) = IsEight number × IsEight token × IsText lane × IsText path × IsRequest request
IsEntry (entry.Outcome number token answer before after) = IsEight number × IsEight token × IsReply answer × IsEight before × IsEight after
IsEntry (entry.Phase number phase cause) = IsEight number × IfSome cause IsCauseText × IsTrue (has_cause phase cause)
IsEntry (entry.Done number status failed) = IsEight number × IsTrue (is_end status) × AreAll IsText failed
IsEntry (entry.ChangeSet number stack source rows outputs) =
    IsEight number × IsText stack × (IsSource source × IsFor stack source) × AreAll IsRow rows
