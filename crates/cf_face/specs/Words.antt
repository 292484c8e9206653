-- What the words of a command line ask for: the table of commands (this project's own).
use Rattle.std.specs.Prelude.{ℕ, ◌==◌, ◌&&◌, ◌||◌, ◌+◌, ◌-◌, ◌*◌, ◌++◌, Bool, true, false, if◌then◌else◌, List, [], ◌∷◌, length, sum_by, nat_le, nat_lt, Option, None, Some, is_some, option_map, option_and_then, codes, decimal}
use Rattle.std.specs.List.{list_all}
use Rattle.std.specs.Str.{bytes_eq}
use Rattle.std.specs.Int.{is_in_range}
use Rattle.std.specs.Char.{is_ascii_alphabetic, is_ascii_alphanumeric}
use Rattle.cf_funcs.specs.Pieces.{cut_at, pieces_of}
use Rattle.cf_tree.specs.Keys.{put, value_at}
use Rattle.cf_tree.specs.Lists.{is_among}
use Rattle.cf_template.specs.Words.{is_name}
use Rattle.cf_funcs.specs.Number.{digits_of}
use Rattle.cf_face.specs.declared.words.Choice.{Choice}
use Rattle.cf_face.specs.declared.words.Command.{Command}
use Rattle.cf_face.specs.declared.words.Command.TheVariants as command
use Rattle.cf_face.specs.declared.words.Question.{Question}
use Rattle.cf_face.specs.declared.words.Question.TheVariants as question
use Rattle.cf_face.specs.declared.words.Subject.TheVariants as subject
use Rattle.cf_face.specs.declared.words.Task.{Task}
use Rattle.cf_face.specs.declared.words.Task.TheVariants as task

-- a letter, digit or `-` (45)
abbrev pub is_name_byte : ℕ → Bool
is_name_byte b = is_ascii_alphanumeric b || b == 45

-- the name of a stack: a letter, then letters, digits and `-`, at most 128 (CloudFormation API, CreateStack, StackName)
abbrev pub is_stack_name : List ℕ → Bool
is_stack_name [] = false
is_stack_name (b ∷ bytes) = is_ascii_alphabetic b && (list_all is_name_byte bytes && nat_le (length (b ∷ bytes)) 128)

-- the name of a template: 1 to 128 bytes (this project's own)
abbrev pub is_template_name : List ℕ → Bool
is_template_name name = nat_le 1 (length name) && nat_le (length name) 128

-- what a word gives for a parameter: NAME=VALUE, cut at the first `=`; the name is 1 to 255 letters and digits (this project's own)
abbrev pub named_setting : List ℕ × List ℕ → Option (List ℕ × List ℕ)
named_setting cut = if is_name cut.0 then Some cut else None

abbrev pub setting_in_word : List ℕ → Option (List ℕ × List ℕ)
setting_in_word word = option_and_then named_setting (cut_at (codes "=") word)

-- what words give, put among what others gave; a word that is no setting, or a name that is given twice, makes them none
abbrev pub given_beside : List (List ℕ) → List (List ℕ × List ℕ) → Option (List (List ℕ × List ℕ))
given_beside [] given = Some given
given_beside (word ∷ words) given =
    option_and_then (λ s. if is_some (value_at s.0 given) then None else given_beside words (put s.0 s.1 given)) (setting_in_word word)

-- what words give for parameters, by name
abbrev pub given_of : List (List ℕ) → Option (List (List ℕ × List ℕ))
given_of words = given_beside words []

-- a stack, and a template with what is given for its parameters: STACK TEMPLATE NAME=VALUE ..
abbrev pub chosen_in : List (List ℕ) → Option (List ℕ × Choice)
chosen_in (stack ∷ template ∷ settings) =
    if is_stack_name stack && is_template_name template
    then option_map (λ given. (stack, record { template = template; given = given })) (given_of settings) else None
chosen_in _ = None

-- `deploy STACK TEMPLATE NAME=VALUE ..`
abbrev pub deploy_of : List (List ℕ) → Option Command
deploy_of words = option_map (λ c. command.Deploy c.0 c.1.template c.1.given) (chosen_in words)

-- `create-change-set STACK TEMPLATE NAME=VALUE ..`
abbrev pub create_set_of : List (List ℕ) → Option Command
create_set_of words = option_map (λ c. command.CreateSet c.0 c.1.template c.1.given) (chosen_in words)

-- the number of a change set: 1 to 18 digits, the first of them no 0 (48) (this project's own)
abbrev pub set_number_of : List ℕ → Option ℕ
set_number_of [] = None
set_number_of (d ∷ ds) = if d == 48 then None else digits_of 18 (d ∷ ds)

-- a stack and the number of one of its change sets: STACK NUMBER
abbrev pub set_in_words : List (List ℕ) → Option (List ℕ × ℕ)
set_in_words (stack ∷ number ∷ []) = if is_stack_name stack then option_map (λ n. (stack, n)) (set_number_of number) else None
set_in_words _ = None

-- `describe-change-set STACK NUMBER`
abbrev pub describe_set_of : List (List ℕ) → Option Command
describe_set_of words = option_map (λ s. command.DescribeSet s.0 s.1) (set_in_words words)

-- `execute-change-set STACK NUMBER`
abbrev pub execute_set_of : List (List ℕ) → Option Command
execute_set_of words = option_map (λ s. command.ExecuteSet s.0 s.1) (set_in_words words)

-- the commands on change sets
abbrev pub set_command_of : List ℕ → List (List ℕ) → Option Command
set_command_of word words =
    if bytes_eq (codes "create-change-set") word then create_set_of words
    else (if bytes_eq (codes "describe-change-set") word then describe_set_of words
    else (if bytes_eq (codes "execute-change-set") word then execute_set_of words else None))

-- a path: names of resources and nested stacks, joined by `/` (this project's own)
abbrev pub is_path : List ℕ → Bool
is_path word = list_all is_name (pieces_of (codes "/") word)

-- what words are as paths, in their order, behind those that others were; a word that is no path, or a path that is named twice, makes them
-- none
abbrev pub paths_beside : List (List ℕ) → List (List ℕ) → Option (List (List ℕ))
paths_beside [] paths = Some paths
paths_beside (word ∷ words) paths =
    if is_among word paths then None else (if is_path word then paths_beside words (paths ++ word ∷ []) else None)

abbrev pub paths_of : List (List ℕ) → Option (List (List ℕ))
paths_of words = paths_beside words []

-- `continue-rollback STACK PATH ..`
abbrev pub continue_of : List (List ℕ) → Option Command
continue_of (stack ∷ words) = if is_stack_name stack then option_map (command.ContinueRollback stack) (paths_of words) else None
continue_of _ = None

-- `resume STACK`
abbrev pub resume_of : List (List ℕ) → Option Command
resume_of (stack ∷ []) = if is_stack_name stack then Some (command.Resume stack) else None
resume_of _ = None

-- `describe STACK`
abbrev pub describe_of : List (List ℕ) → Option Command
describe_of (stack ∷ []) = if is_stack_name stack then Some (command.Describe stack) else None
describe_of _ = None

-- `events STACK`
abbrev pub events_of : List (List ℕ) → Option Command
events_of (stack ∷ []) = if is_stack_name stack then Some (command.Events stack) else None
events_of _ = None

-- `list`
abbrev pub list_of : List (List ℕ) → Option Command
list_of [] = Some command.List
list_of _ = None

-- `validate TEMPLATE`
abbrev pub validate_of : List (List ℕ) → Option Command
validate_of (template ∷ []) = if is_template_name template then Some (command.Validate template) else None
validate_of _ = None

-- the number of records that a word names: a decimal number from 1 to 500 without a leading zero, of one to three digits (this project's
-- own)
abbrev pub load_count_of : List ℕ → Option ℕ
load_count_of (one ∷ []) = if is_in_range 49 57 one then Some (one - 48) else None
load_count_of (ten ∷ one ∷ []) =
    if is_in_range 49 57 ten && is_in_range 48 57 one then Some (10 * (ten - 48) + (one - 48)) else None
load_count_of (hundred ∷ ten ∷ one ∷ []) =
    let number = 100 * (hundred - 48) + (10 * (ten - 48) + (one - 48)) in
    if is_in_range 49 57 hundred && (is_in_range 48 57 ten && (is_in_range 48 57 one && nat_le number 500)) then Some number else None
load_count_of _ = None

-- `load N`
abbrev pub load_of : List (List ℕ) → Option Command
load_of (word ∷ []) = option_map command.Load (load_count_of word)
load_of _ = None

-- the name of the stack of the load mode with so many records, and that of its template (this project's own)
abbrev pub load_name : ℕ → List ℕ
load_name count = codes "load-" ++ decimal count

-- that template, which has no parameters
abbrev pub load_choice : ℕ → Choice
load_choice count = record { template = load_name count; given = [] }

-- the command that the words ask for, by the first of them; None where no row of the table fits
abbrev pub command_of : List (List ℕ) → Option Command
command_of [] = None
command_of (word ∷ words) =
    if bytes_eq (codes "deploy") word then deploy_of words
    else (if bytes_eq (codes "continue-rollback") word then continue_of words
    else (if bytes_eq (codes "resume") word then resume_of words
    else (if bytes_eq (codes "load") word then load_of words
    else (if bytes_eq (codes "describe") word then describe_of words
    else (if bytes_eq (codes "events") word then events_of words
    else (if bytes_eq (codes "list") word then list_of words
    else (if bytes_eq (codes "validate") word then validate_of words else set_command_of word words)))))))

-- whether a command changes a stack, and so drives handlers
abbrev pub drives : Command → Bool
drives (command.Deploy stack template given) = true
drives (command.ContinueRollback stack paths) = true
drives (command.Resume stack) = true
drives (command.ExecuteSet stack number) = true
drives (command.CreateSet stack template given) = false
drives (command.DescribeSet stack number) = false
drives (command.Load count) = true
drives (command.Describe stack) = false
drives (command.Events stack) = false
drives command.List = false
drives (command.Validate template) = false

-- the stack that a command changes and what is to be done with it, if it changes one
abbrev pub task_of : Command → Option (List ℕ × Task)
task_of (command.Deploy stack template given) = Some (stack, task.Deploy (record { template = template; given = given }))
task_of (command.ContinueRollback stack paths) = Some (stack, task.Continue paths)
task_of (command.Resume stack) = Some (stack, task.Resume)
task_of (command.ExecuteSet stack number) = Some (stack, task.Execute number)
task_of (command.Load count) = Some (load_name count, task.Load count)
task_of _ = None

-- what a command asks that drives no handlers: a template of the library, the journal, or what a template would change of a stack
abbrev pub question_of : Command → Option Question
question_of (command.Describe stack) = Some (question.Tell (subject.Stack stack))
question_of (command.Events stack) = Some (question.Tell (subject.Events stack))
question_of command.List = Some (question.Tell subject.Stacks)
question_of (command.DescribeSet stack number) = Some (question.Tell (subject.Set stack number))
question_of (command.Validate template) = Some (question.Validate template)
question_of (command.CreateSet stack template given) =
    Some (question.Review stack (record { template = template; given = given }))
question_of _ = None

-- the number of workers that a word names: a decimal number from 1 to 64 without a leading zero, of one digit
-- or two (this project's own)
abbrev pub workers_of : List ℕ → Option ℕ
workers_of (one ∷ []) = if is_in_range 49 57 one then Some (one - 48) else None
workers_of (ten ∷ one ∷ []) =
    let number = 10 * (ten - 48) + (one - 48) in
    if is_in_range 49 57 ten && (is_in_range 48 57 one && nat_le number 64) then Some number else None
workers_of _ = None

-- the words have fewer than 2 ^ 30 bytes together (this project's own)
abbrev pub are_short : List (List ℕ) → Bool
are_short words = nat_lt (sum_by length words) 1073741824

-- a folder is named, a number of workers is, and all the words are short
abbrev pub is_in_form : List ℕ → List ℕ → List (List ℕ) → Bool
is_in_form home workers words = nat_lt 0 (length home) && (is_some (workers_of workers) && are_short words)

-- whether the program's whole command line is one of those that it knows: `--help`, `--version`, or HOME WORKERS WORD ..
abbrev pub is_command_line : List (List ℕ) → Bool
is_command_line [] = false
is_command_line (word ∷ []) = bytes_eq (codes "--help") word || bytes_eq (codes "--version") word
is_command_line (home ∷ workers ∷ rest) = is_in_form home workers (home ∷ workers ∷ rest)
