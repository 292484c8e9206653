-- What a template is, section by section (User Guide: template anatomy, quotas), or the first refusal. The most bytes of a template is
-- this project's own.
use Rattle.std.specs.Prelude.{ℕ, List, [], ◌∷◌, length, nat_lt, nat_le, codes, Bool, true, false, Option, Some, None, Ok, Err, if◌then◌else◌}
use Rattle.std.specs.Str.{bytes_eq}
use Rattle.serde_json.specs.Data.{Data, string, object, Members, no_members, member}
use Rattle.serde_json.specs.Find.{get}
use Rattle.cf_tree.specs.Lists.{is_among}
use Rattle.cf_tree.specs.declared.template.Template.{Template}
use Rattle.cf_template.specs.declared.refusal.TemplateFault.{TemplateFault}
use Rattle.cf_template.specs.declared.refusal.TemplateFault.TheVariants.{NotJson, TooLong, WrongShape, UnknownSection, BadVersion, TooMany, Unsupported}
use Rattle.cf_template.specs.declared.walk.Region.TheVariants.{Root}
use Rattle.cf_template.specs.Refusals.{Reading, after, mapped, provided, unless, first_refusal}
use Rattle.cf_template.specs.Places.{member_place}
use Rattle.cf_template.specs.Json.{json_of, count}
use Rattle.cf_template.specs.Walk.{walk_fault}
use Rattle.cf_template.specs.Shapes.{optional, plain_text, unread}
use Rattle.cf_template.specs.Params.{params_in}
use Rattle.cf_template.specs.Maps.{mappings_in}
use Rattle.cf_template.specs.Conds.{conds_in}
use Rattle.cf_template.specs.Resources.{resources_in}
use Rattle.cf_template.specs.Outputs.{outputs_form}

abbrev pub is_section : List ℕ → Bool
is_section k =
    is_among k (codes "AWSTemplateFormatVersion" ∷ codes "Conditions" ∷ codes "Description" ∷ codes "Mappings" ∷ codes "Metadata"
    ∷ codes "Outputs" ∷ codes "Parameters" ∷ codes "Resources" ∷ [])

abbrev pub is_untaken_section : List ℕ → Bool
is_untaken_section k = is_among k (codes "Hooks" ∷ codes "Rules" ∷ codes "Transform" ∷ [])

-- why a template may not have the section of a name
abbrev pub section_fault : List ℕ → Option TemplateFault
section_fault k =
    if is_section k then None
    else if is_untaken_section k then Some (Unsupported (member_place [] k) k)
    else Some (UnknownSection k)

abbrev pub sections_fault : Members → Option TemplateFault
sections_fault no_members = None
sections_fault (member k d ms) = first_refusal (section_fault k) (sections_fault ms)

-- whether the version is the only one there is, where it is given
abbrev pub is_version : Option Data → Bool
is_version None = true
is_version (Some (string t)) = bytes_eq t (codes "2010-09-09")
is_version (Some d) = false

-- why a section may not have so many members
abbrev pub count_fault : List ℕ → ℕ → ℕ → Option TemplateFault
count_fault name most n = if nat_le n most then None else Some (TooMany name n)

-- a section of a name, with so many members at most
abbrev pub section : {A : Type 0} → (Members → List ℕ → List A → Reading (List A)) → ℕ → List ℕ → Option Data → Reading (List A)
section read most name None = Ok []
section read most name (Some (object ms)) = unless (count_fault name most (count ms)) (read ms (member_place [] name) [])
section read most name (Some d) = Err (WrongShape (member_place [] name))

-- a section of a name without a limit
abbrev pub free_section : {A : Type 0} → (Members → List ℕ → List A → Reading (List A)) → List ℕ → Option Data → Reading (List A)
free_section read name None = Ok []
free_section read name (Some (object ms)) = read ms (member_place [] name) []
free_section read name (Some d) = Err (WrongShape (member_place [] name))

-- why the section that must be there may not have so few members
abbrev pub empty_fault : List ℕ → ℕ → Option TemplateFault
empty_fault name n = if nat_lt 0 n then None else Some (WrongShape (member_place [] name))

-- the section that must be there, with one member at least
abbrev pub required_section : {A : Type 0} → (Members → List ℕ → List A → Reading (List A)) → ℕ → List ℕ → Option Data → Reading (List A)
required_section read most name None = Err (WrongShape (member_place [] name))
required_section read most name (Some (object ms)) = unless (empty_fault name (count ms)) (section read most name (Some (object ms)))
required_section read most name (Some d) = Err (WrongShape (member_place [] name))

-- the sections, one after another
abbrev pub sections_of : Data → Reading Template
sections_of d =
    after (optional plain_text (codes "Description") d []) (λ _.
    after (optional unread (codes "Metadata") d []) (λ _.
    after (section params_in 200 (codes "Parameters") (get (codes "Parameters") d)) (λ params.
    after (section mappings_in 200 (codes "Mappings") (get (codes "Mappings") d)) (λ mappings.
    after (free_section (conds_in params) (codes "Conditions") (get (codes "Conditions") d)) (λ conds.
    after (required_section (resources_in params) 500 (codes "Resources") (get (codes "Resources") d)) (λ resources.
    mapped (λ outputs. record {
      params = params;
      mappings = mappings;
      conds = conds;
      resources = resources;
      outputs = outputs;
    }) (section (outputs_form params) 200 (codes "Outputs") (get (codes "Outputs") d))))))))

-- a template: an object whose members are sections, with the version where one is given
abbrev pub template_from : Data → Reading Template
template_from (object ms) =
    unless (sections_fault ms) (provided (is_version (get (codes "AWSTemplateFormatVersion") (object ms))) BadVersion
    (sections_of (object ms)))
template_from d = Err (WrongShape [])

-- the template that a JSON value is: no null and no wrong number anywhere, and then its sections
abbrev pub value_template : Option Data → Reading Template
value_template None = Err NotJson
value_template (Some d) = unless (walk_fault d Root []) (template_from d)

-- the template that bytes are
abbrev pub template_of : List ℕ → Reading Template
template_of bytes = provided (nat_le (length bytes) 1048576) (TooLong (length bytes)) (value_template (json_of bytes))
