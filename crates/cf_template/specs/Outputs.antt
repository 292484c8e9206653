-- The outputs of a template (template reference, Outputs).
use Rattle.std.specs.Prelude.{ℕ, List, [], ◌∷◌, ◌++◌, ◌&&◌, codes, Bool, Ok, Err, if◌then◌else◌}
use Rattle.std.specs.Str.{bytes_eq}
use Rattle.serde_json.specs.Data.{Data, object, Members, no_members, member}
use Rattle.cf_tree.specs.Forms.{Form}
use Rattle.cf_tree.specs.Lists.{is_among}
use Rattle.cf_tree.specs.declared.template.Param.{Param}
use Rattle.cf_tree.specs.declared.template.Out.{Out}
use Rattle.cf_template.specs.declared.refusal.TemplateFault.TheVariants.{WrongShape, BadName}
use Rattle.cf_template.specs.Refusals.{Reading, after, mapped, provided}
use Rattle.cf_template.specs.Places.{member_place}
use Rattle.cf_template.specs.Words.{is_name}
use Rattle.cf_template.specs.Shapes.{has_only, has_member, optional, required, plain_text}
use Rattle.cf_template.specs.Exprs.{form_of}

abbrev pub is_output_member : List ℕ → Bool
is_output_member k = is_among k (codes "Condition" ∷ codes "Description" ∷ codes "Export" ∷ codes "Value" ∷ [])

-- an object with the one member `Name`
abbrev pub export_form : List Param → Data → List ℕ → Reading Form
export_form ps (object (member k d no_members)) at =
    if bytes_eq k (codes "Name") then form_of ps d (member_place at k) else Err (WrongShape at)
export_form ps d at = Err (WrongShape at)

-- the members of an output, one after another in byte order
abbrev pub output_fields : List Param → List ℕ → Data → List ℕ → Reading Out
output_fields ps name d at =
    after (optional plain_text (codes "Condition") d at) (λ condition.
    after (optional plain_text (codes "Description") d at) (λ description.
    after (optional (export_form ps) (codes "Export") d at) (λ export.
    mapped (λ value. record {
      name = name;
      value = value;
      description = description;
      condition = condition;
      export = export;
    }) (required (form_of ps) (codes "Value") d at))))

-- an output: an object with known members and a value
abbrev pub output_form : List Param → List ℕ → Data → List ℕ → Reading Out
output_form ps name d at =
    provided (has_only is_output_member d && has_member (codes "Value") d) (WrongShape at) (output_fields ps name d at)

-- the members of the section behind those found before
abbrev pub outputs_form : List Param → Members → List ℕ → List Out → Reading (List Out)
outputs_form ps no_members at found = Ok found
outputs_form ps (member k d ms) at found =
    provided (is_name k) (BadName (member_place at k))
    (after (output_form ps k d (member_place at k)) (λ o. outputs_form ps ms at (found ++ o ∷ [])))
