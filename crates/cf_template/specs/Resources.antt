-- The resources of a template (template reference, Resources and resource attributes). Which attributes aren't taken is this project's own.
use Rattle.std.specs.Prelude.{ℕ, List, [], ◌∷◌, ◌++◌, codes, Bool, Option, Some, None, Ok, Err, if◌then◌else◌}
use Rattle.std.specs.Str.{bytes_eq}
use Rattle.serde_json.specs.Data.{Data, string, array, object, Members, no_members, member}
use Rattle.cf_tree.specs.Lists.{is_among}
use Rattle.cf_tree.specs.declared.template.Param.{Param}
use Rattle.cf_tree.specs.declared.template.Res.{Res}
use Rattle.cf_tree.specs.declared.template.Deletion.{Deletion}
use Rattle.cf_tree.specs.declared.template.Deletion.TheVariants as deletion
use Rattle.cf_tree.specs.declared.template.Replace.{Replace}
use Rattle.cf_tree.specs.declared.template.Replace.TheVariants as replace
use Rattle.cf_template.specs.declared.refusal.TemplateFault.{TemplateFault}
use Rattle.cf_template.specs.declared.refusal.TemplateFault.TheVariants.{WrongShape, BadName, Unsupported}
use Rattle.cf_template.specs.Refusals.{Reading, after, mapped, provided, unless, first_refusal}
use Rattle.cf_template.specs.Places.{member_place}
use Rattle.cf_template.specs.Words.{is_name}
use Rattle.cf_template.specs.Shapes.{has_member, optional, required, plain_text, unread, items_from}
use Rattle.cf_template.specs.Exprs.{values_of}

abbrev pub is_resource_member : List ℕ → Bool
is_resource_member k =
    is_among k (codes "Condition" ∷ codes "DeletionPolicy" ∷ codes "DependsOn" ∷ codes "Metadata" ∷ codes "Properties" ∷ codes "Type"
    ∷ codes "UpdateReplacePolicy" ∷ [])

abbrev pub is_untaken_member : List ℕ → Bool
is_untaken_member k = is_among k (codes "CreationPolicy" ∷ codes "UpdatePolicy" ∷ [])

-- why a resource may not have the member of a name
abbrev pub resource_member_fault : List ℕ → List ℕ → Option TemplateFault
resource_member_fault k at =
    if is_resource_member k then None
    else if is_untaken_member k then Some (Unsupported (member_place at k) k)
    else Some (WrongShape at)

abbrev pub resource_members_fault : Members → List ℕ → Option TemplateFault
resource_members_fault no_members at = None
resource_members_fault (member k d ms) at = first_refusal (resource_member_fault k at) (resource_members_fault ms at)

-- a text, or a list of texts
abbrev pub depends_form : Data → List ℕ → Reading (List (List ℕ))
depends_form (string t) at = Ok (t ∷ [])
depends_form (array ds) at = items_from plain_text ds at 0 []
depends_form d at = Err (WrongShape at)

abbrev pub deletion_named : List ℕ → List ℕ → Reading Deletion
deletion_named t at =
    if bytes_eq t (codes "Delete") then Ok deletion.Delete
    else if bytes_eq t (codes "Retain") then Ok deletion.Retain
    else if bytes_eq t (codes "RetainExceptOnCreate") then Ok deletion.RetainExceptOnCreate
    else if bytes_eq t (codes "Snapshot") then Err (Unsupported at t)
    else Err (WrongShape at)

abbrev pub deletion_form : Data → List ℕ → Reading Deletion
deletion_form (string t) at = deletion_named t at
deletion_form d at = Err (WrongShape at)

abbrev pub replace_named : List ℕ → List ℕ → Reading Replace
replace_named t at =
    if bytes_eq t (codes "Delete") then Ok replace.Delete
    else if bytes_eq t (codes "Retain") then Ok replace.Retain
    else if bytes_eq t (codes "Snapshot") then Err (Unsupported at t)
    else Err (WrongShape at)

abbrev pub replace_of : Data → List ℕ → Reading Replace
replace_of (string t) at = replace_named t at
replace_of d at = Err (WrongShape at)

-- what a member that is missing stands for
abbrev pub or_none : {A : Type 0} → Option (List A) → List A
or_none None = []
or_none (Some xs) = xs

-- the members of a resource, one after another in byte order
abbrev pub resource_fields : List Param → List ℕ → Data → List ℕ → Reading Res
resource_fields ps name d at =
    after (optional plain_text (codes "Condition") d at) (λ condition.
    after (optional deletion_form (codes "DeletionPolicy") d at) (λ deletion.
    after (optional depends_form (codes "DependsOn") d at) (λ depends.
    after (optional unread (codes "Metadata") d at) (λ _.
    after (optional (values_of ps) (codes "Properties") d at) (λ props.
    after (required plain_text (codes "Type") d at) (λ kind.
    mapped (λ replace. record {
      name = name;
      kind = kind;
      props = or_none props;
      depends = or_none depends;
      condition = condition;
      deletion = deletion;
      replace = replace;
    }) (optional replace_of (codes "UpdateReplacePolicy") d at)))))))

-- a resource: an object whose members are taken, and that has a type
abbrev pub resource_of : List Param → List ℕ → Data → List ℕ → Reading Res
resource_of ps name (object ms) at =
    unless (resource_members_fault ms at)
    (provided (has_member (codes "Type") (object ms)) (WrongShape at) (resource_fields ps name (object ms) at))
resource_of ps name d at = Err (WrongShape at)

-- the members of the section behind those found before
abbrev pub resources_in : List Param → Members → List ℕ → List Res → Reading (List Res)
resources_in ps no_members at found = Ok found
resources_in ps (member k d ms) at found =
    provided (is_name k) (BadName (member_place at k))
    (after (resource_of ps k d (member_place at k)) (λ r. resources_in ps ms at (found ++ r ∷ [])))
