-- What a stack's entries tell of its operation, where their order matters (this project's own).
use Rattle.std.specs.Prelude.{ℕ, ◌==◌, Bool, true, false, ◌&&◌, List, [], ◌∷◌, Option, Some, None, filter, filter_map, flat_map, count_by, if◌then◌else◌}
use Rattle.std.specs.List.{list_any}
use Rattle.cf_tree.specs.Lists.{is_among}
use Rattle.cf_entry.specs.declared.entry.Entry.{Entry}
use Rattle.cf_entry.specs.declared.entry.Entry.TheVariants as entry
use Rattle.cf_entry.specs.declared.entry.Reply.{Reply}
use Rattle.cf_entry.specs.declared.entry.Reply.TheVariants as reply
use Rattle.cf_entry.specs.Entry.{paths_of}
use Rattle.cf_effect.specs.World.{StackState}

-- what comes after the last that passes; all where none does
abbrev pub after_last : {A : Type 0} → (A → Bool) → List A → List A
after_last test [] = []
after_last test (x ∷ xs) = if list_any test xs then after_last test xs else if test x then xs else x ∷ xs

-- what comes up to the last that passes, this one included
abbrev pub up_to_last : {A : Type 0} → (A → Bool) → List A → List A
up_to_last test [] = []
up_to_last test (x ∷ xs) = if list_any test (x ∷ xs) then x ∷ up_to_last test xs else []

-- what comes before the first that passes
abbrev pub before_first : {A : Type 0} → (A → Bool) → List A → List A
before_first test [] = []
before_first test (x ∷ xs) = if test x then [] else x ∷ before_first test xs

-- the entry begins a phase
abbrev pub is_turn : Entry → Bool
is_turn (entry.Begin number stack kind) = true
is_turn (entry.Phase number phase cause) = true
is_turn _ = false

-- the entry begins a phase or an opening
abbrev pub is_turn_or_opening : Entry → Bool
is_turn_or_opening (entry.Opened epoch lanes) = true
is_turn_or_opening e = is_turn e

-- what was done in this phase and opening
abbrev pub now_of : StackState → List Entry
now_of s = after_last is_turn_or_opening s.entries

-- the forward phase of the last create or update: what comes before the first later phase
abbrev pub is_phase : Entry → Bool
is_phase (entry.Phase number phase cause) = true
is_phase _ = false

abbrev pub forward_of : StackState → List Entry
forward_of s = before_first is_phase s.entries

-- the entry is of this operation
abbrev pub is_of : ℕ → Entry → Bool
is_of n (entry.Opened epoch lanes) = false
is_of n (entry.Begin number stack kind) = n == number
is_of n (entry.Kept number path physical why) = n == number
is_of n (entry.Intent number token lane path request) = n == number
is_of n (entry.Outcome number token answer before after) = n == number
is_of n (entry.Phase number phase cause) = n == number
is_of n (entry.Done number status failed) = n == number
is_of n (entry.ChangeSet number stack source rows outputs) = false

-- the entries of the stack's last operation
abbrev pub own_of : StackState → List Entry
own_of s = filter (is_of s.operation) s.entries

-- an answer that an Outcome writes down
pub record Response : Type 0 where
  pub token : ℕ
  pub answer : Reply
  pub before : ℕ
  pub after : ℕ

abbrev pub reply_in : Entry → Option Response
reply_in (entry.Outcome number token answer before after) = Some (record { token = token; answer = answer; before = before; after = after })
reply_in _ = None

abbrev pub replies_in : List Entry → List Response
replies_in es = filter_map reply_in es

abbrev pub is_doubt : Reply → Bool
is_doubt reply.Doubt = true
is_doubt _ = false

-- how often the token was answered by a doubt in these entries
abbrev pub doubts_in : ℕ → List Entry → ℕ
doubts_in token es = count_by (λ r. token == r.token && is_doubt r.answer) (replies_in es)

-- the paths that a continued rollback, or a deletion, names
abbrev pub named_in : Entry → List (List ℕ)
named_in (entry.Begin number stack kind) = paths_of kind
named_in _ = []

-- the paths that the last operation names: those to retain, of a deletion
abbrev pub named_paths : StackState → List (List ℕ)
named_paths s = flat_map named_in (own_of s)

-- a continued rollback since the update began skips the path
abbrev pub was_skipped : List ℕ → StackState → Bool
was_skipped path s = is_among path (flat_map named_in s.entries)
