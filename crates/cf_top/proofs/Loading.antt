-- For how many records a load is, by the words that ask for it.
use Rattle.std.proofs.Common.{◌≡◌, ℕ, ◌+◌, ◌-◌, ◌*◌, ◌≤◌, Bool, true, false, true≢false, ◌&&◌, cond, List, [], ◌∷◌, Option, Some, None, option_map, refl, sym, ap, subst, arith}
use Rattle.std.proofs.lemmas.Bool.{leb-true}
use Rattle.std.specs.Prelude.{codes, nat_le, option_and_then}
use Rattle.std.specs.Int.{is_in_range}
use Rattle.std.specs.Str.{bytes_eq}
use Rattle.cf_face.specs.Words.{chosen_in, command_of, continue_of, create_set_of, deploy_of, describe_of, describe_set_of, events_of, execute_set_of, is_stack_name, is_template_name, list_of, load_count_of, load_of, paths_of, resume_of, set_command_of, set_in_words, task_of, validate_of}
use Rattle.cf_face.specs.declared.words.Choice.{Choice}
use Rattle.cf_face.specs.declared.words.Command.{Command}
use Rattle.cf_face.specs.declared.words.Command.TheVariants as command
use Rattle.cf_face.specs.declared.words.Task.{Task}
use Rattle.cf_top.specs.Tasks.{IsLoadable, task_words}

-- a number of records that there is a template for
abbrev IsFew : Option ℕ → Type 0
IsFew (Some count) = (1 ≤ count) × (count ≤ 500)
IsFew None = Unit {0}

both : (a b : Bool) → (a && b) ≡ true → (a ≡ true) × (b ≡ true)
both true b e = (refl, e)
both false b e = absurd (true≢false (sym e))

within : (low high b : ℕ) → is_in_range low high b ≡ true → (low ≤ b) × (b ≤ high)
within low high b e = let p = both (nat_le low b) (nat_le b high) e in (leb-true low b p.0, leb-true b high p.1)

one_digit : (one : ℕ) (b : Bool) → is_in_range 49 57 one ≡ b → IsFew (cond b (Some (one - 48)) None)
one_digit one true e = let (low, high) = within 49 57 one e in (omega (arith, low), omega (arith, high))
one_digit one false e = tt

two_digits : (ten one : ℕ) (b : Bool) → (is_in_range 49 57 ten && is_in_range 48 57 one) ≡ b → IsFew (cond b (Some (10 * (ten - 48) + (one - 48))) None)
two_digits ten one true e =
    let (first, second) = both (is_in_range 49 57 ten) (is_in_range 48 57 one) e in
    let (low, high) = within 49 57 ten first in
    let (least, most) = within 48 57 one second in (omega (arith, low), omega (arith, high, most))
two_digits ten one false e = tt

three_digits : (hundred ten one : ℕ) (b : Bool)
    → (is_in_range 49 57 hundred && (is_in_range 48 57 ten && (is_in_range 48 57 one && nat_le (100 * (hundred - 48) + (10 * (ten - 48) + (one - 48))) 500))) ≡ b
    → IsFew (cond b (Some (100 * (hundred - 48) + (10 * (ten - 48) + (one - 48)))) None)
three_digits hundred ten one true e =
    let number : ℕ = 100 * (hundred - 48) + (10 * (ten - 48) + (one - 48)) in
    let (first, rest) = both (is_in_range 49 57 hundred) (is_in_range 48 57 ten && (is_in_range 48 57 one && nat_le number 500)) e in
    let (second, others) = both (is_in_range 48 57 ten) (is_in_range 48 57 one && nat_le number 500) rest in
    let (third, most) = both (is_in_range 48 57 one) (nat_le number 500) others in
    let (low, high) = within 49 57 hundred first in (omega (arith, low), leb-true number 500 most)
three_digits hundred ten one false e = tt

few_count : (word : List ℕ) → IsFew (load_count_of word)
few_count [] = tt
few_count (one ∷ []) = one_digit one (is_in_range 49 57 one) refl
few_count (ten ∷ one ∷ []) = two_digits ten one (is_in_range 49 57 ten && is_in_range 48 57 one) refl
few_count (hundred ∷ ten ∷ one ∷ []) =
    three_digits hundred ten one (is_in_range 49 57 hundred && (is_in_range 48 57 ten && (is_in_range 48 57 one && nat_le (100 * (hundred - 48) + (10 * (ten - 48) + (one - 48))) 500))) refl
few_count (a ∷ b ∷ c ∷ d ∷ word) = tt

-- a command is no load, or one of few records
abbrev IsFewIn : Option Command → Type 0
IsFewIn (Some (command.Load count)) = (1 ≤ count) × (count ≤ 500)
IsFewIn _ = Unit {0}

either : (b : Bool) (x y : Option Command) → IsFewIn x → IsFewIn y → IsFewIn (cond b x y)
either true x y f g = f
either false x y f g = g

deploys : (words : List (List ℕ)) → IsFewIn (deploy_of words)
deploys words = by (chosen_in words) where
  by : (chosen : Option (List ℕ × Choice)) → IsFewIn (option_map (λ (c : List ℕ × Choice). command.Deploy c.0 c.1.template c.1.given) chosen)
  by (Some c) = tt
  by None = tt

continues : (words : List (List ℕ)) → IsFewIn (continue_of words)
continues [] = tt
continues (stack ∷ words) = by (is_stack_name stack) (paths_of words) where
  by : (b : Bool) (paths : Option (List (List ℕ))) → IsFewIn (cond b (option_map (command.ContinueRollback stack) paths) None)
  by true (Some paths) = tt
  by true None = tt
  by false paths = tt

resumes : (words : List (List ℕ)) → IsFewIn (resume_of words)
resumes [] = tt
resumes (stack ∷ []) = either (is_stack_name stack) (Some (command.Resume stack)) None tt tt
resumes (stack ∷ word ∷ words) = tt

loads : (words : List (List ℕ)) → IsFewIn (load_of words)
loads [] = tt
loads (word ∷ []) = by (load_count_of word) (few_count word) where
  by : (count : Option ℕ) → IsFew count → IsFewIn (option_map command.Load count)
  by (Some count) few = few
  by None few = tt
loads (word ∷ second ∷ words) = tt

describes : (words : List (List ℕ)) → IsFewIn (describe_of words)
describes [] = tt
describes (stack ∷ []) = either (is_stack_name stack) (Some (command.Describe stack)) None tt tt
describes (stack ∷ word ∷ words) = tt

tells_events : (words : List (List ℕ)) → IsFewIn (events_of words)
tells_events [] = tt
tells_events (stack ∷ []) = either (is_stack_name stack) (Some (command.Events stack)) None tt tt
tells_events (stack ∷ word ∷ words) = tt

lists : (words : List (List ℕ)) → IsFewIn (list_of words)
lists [] = tt
lists (word ∷ words) = tt

validates : (words : List (List ℕ)) → IsFewIn (validate_of words)
validates [] = tt
validates (template ∷ []) = either (is_template_name template) (Some (command.Validate template)) None tt tt
validates (template ∷ word ∷ words) = tt

creates_sets : (words : List (List ℕ)) → IsFewIn (create_set_of words)
creates_sets words = by (chosen_in words) where
  by : (chosen : Option (List ℕ × Choice)) → IsFewIn (option_map (λ (c : List ℕ × Choice). command.CreateSet c.0 c.1.template c.1.given) chosen)
  by (Some c) = tt
  by None = tt

describes_sets : (words : List (List ℕ)) → IsFewIn (describe_set_of words)
describes_sets words = by (set_in_words words) where
  by : (set : Option (List ℕ × ℕ)) → IsFewIn (option_map (λ (s : List ℕ × ℕ). command.DescribeSet s.0 s.1) set)
  by (Some s) = tt
  by None = tt

executes_sets : (words : List (List ℕ)) → IsFewIn (execute_set_of words)
executes_sets words = by (set_in_words words) where
  by : (set : Option (List ℕ × ℕ)) → IsFewIn (option_map (λ (s : List ℕ × ℕ). command.ExecuteSet s.0 s.1) set)
  by (Some s) = tt
  by None = tt

on_sets : (word : List ℕ) (words : List (List ℕ)) → IsFewIn (set_command_of word words)
on_sets word words =
    either (bytes_eq (codes "create-change-set") word) (create_set_of words) _ (creates_sets words)
    (either (bytes_eq (codes "describe-change-set") word) (describe_set_of words) _ (describes_sets words)
    (either (bytes_eq (codes "execute-change-set") word) (execute_set_of words) None (executes_sets words) tt))

few_in : (words : List (List ℕ)) → IsFewIn (command_of words)
few_in [] = tt
few_in (word ∷ words) =
    either (bytes_eq (codes "deploy") word) (deploy_of words) _ (deploys words)
    (either (bytes_eq (codes "continue-rollback") word) (continue_of words) _ (continues words)
    (either (bytes_eq (codes "resume") word) (resume_of words) _ (resumes words)
    (either (bytes_eq (codes "load") word) (load_of words) _ (loads words)
    (either (bytes_eq (codes "describe") word) (describe_of words) _ (describes words)
    (either (bytes_eq (codes "events") word) (events_of words) _ (tells_events words)
    (either (bytes_eq (codes "list") word) (list_of words) _ (lists words)
    (either (bytes_eq (codes "validate") word) (validate_of words) _ (validates words) (on_sets word words))))))))

-- the task of a pair that is there
task_in : (a b : List ℕ × Task) → Some a ≡ Some b → a.1 ≡ b.1
task_in a b e = let same : a ≡ b = cc in ap (λ (p : List ℕ × Task). p.1) same

-- what words ask for is no load, or one of 1 to 500 records
pub loadable : (words : List (List ℕ)) (stack : List ℕ) (t : Task) → task_words words ≡ Some (stack, t) → IsLoadable t
loadable words stack t said = by (command_of words) (few_in words) said where
  by : (c : Option Command) → IsFewIn c → option_and_then task_of c ≡ Some (stack, t) → IsLoadable t
  by None few e = let no : ⊥ = cc in absurd no
  by (Some (command.Deploy name template given)) few e = subst IsLoadable (task_in _ (stack, t) e) tt
  by (Some (command.ContinueRollback name paths)) few e = subst IsLoadable (task_in _ (stack, t) e) tt
  by (Some (command.Resume name)) few e = subst IsLoadable (task_in _ (stack, t) e) tt
  by (Some (command.Load count)) few e = subst IsLoadable (task_in _ (stack, t) e) few
  by (Some (command.ExecuteSet name number)) few e = subst IsLoadable (task_in _ (stack, t) e) tt
  by (Some (command.CreateSet name template given)) few e = let no : ⊥ = cc in absurd no
  by (Some (command.DescribeSet name number)) few e = let no : ⊥ = cc in absurd no
  by (Some (command.Describe name)) few e = let no : ⊥ = cc in absurd no
  by (Some (command.Events name)) few e = let no : ⊥ = cc in absurd no
  by (Some command.List) few e = let no : ⊥ = cc in absurd no
  by (Some (command.Validate template)) few e = let no : ⊥ = cc in absurd no
