-- What the objects and lists of a template must be, member by member (template reference; the order of refusals is this project's own).
use Rattle.std.specs.Prelude.{ℕ, suc, List, [], ◌∷◌, ◌++◌, ◌&&◌, Bool, true, false, is_some, Option, Some, None, Ok, Err}
use Rattle.serde_json.specs.Data.{Data, string, object, Items, no_items, item, Members, no_members, member}
use Rattle.serde_json.specs.Find.{get}
use Rattle.cf_template.specs.declared.refusal.TemplateFault.TheVariants.{WrongShape}
use Rattle.cf_template.specs.Refusals.{Reading, after, mapped}
use Rattle.cf_template.specs.Places.{member_place, item_at}

-- whether each member of an object has a name that passes a test; a value that is no object has no members
abbrev pub all_named : (List ℕ → Bool) → Members → Bool
all_named known no_members = true
all_named known (member k d ms) = known k && all_named known ms

-- whether a value is an object whose members all have known names
abbrev pub has_only : (List ℕ → Bool) → Data → Bool
has_only known (object ms) = all_named known ms
has_only known d = false

-- whether an object has the member of a name
abbrev pub has_member : List ℕ → Data → Bool
has_member k d = is_some (get k d)

-- a member that may be missing
abbrev pub optional_from : {A : Type 0} → (Data → List ℕ → Reading A) → Option Data → List ℕ → Reading (Option A)
optional_from read None at = Ok None
optional_from read (Some d) at = mapped Some (read d at)

abbrev pub optional : {A : Type 0} → (Data → List ℕ → Reading A) → List ℕ → Data → List ℕ → Reading (Option A)
optional read k d at = optional_from read (get k d) (member_place at k)

-- a member that stands where it must
abbrev pub required_from : {A : Type 0} → (Data → List ℕ → Reading A) → Option Data → List ℕ → List ℕ → Reading A
required_from read None at in_ = Err (WrongShape at)
required_from read (Some d) at in_ = read d in_

abbrev pub required : {A : Type 0} → (Data → List ℕ → Reading A) → List ℕ → Data → List ℕ → Reading A
required read k d at = required_from read (get k d) at (member_place at k)

-- a text of any kind
abbrev pub plain_text : Data → List ℕ → Reading (List ℕ)
plain_text (string t) at = Ok t
plain_text d at = Err (WrongShape at)

-- an object that isn't read further
abbrev pub unread : Data → List ℕ → Reading Bool
unread (object ms) at = Ok true
unread d at = Err (WrongShape at)

-- the items of a list behind those found before
abbrev pub items_from : {A : Type 0} → (Data → List ℕ → Reading A) → Items → List ℕ → ℕ → List A → Reading (List A)
items_from read no_items at i found = Ok found
items_from read (item d ds) at i found = after (read d (item_at at i)) (λ x. items_from read ds at (suc i) (found ++ x ∷ []))
