-- The mappings of a template (template reference, Mappings): under each name two keys lead to a text, a whole number, a truth value or a
-- list of texts.
use Rattle.std.specs.Prelude.{ℕ, List, [], Ok, Err}
use Rattle.serde_json.specs.Data.{Data, boolean, number, string, array, object, Members, no_members, member}
use Rattle.serde_json.specs.Find.{as_i64}
use Rattle.cf_tree.specs.Datum as tree
use Rattle.cf_tree.specs.Keys.{put}
use Rattle.cf_template.specs.declared.refusal.TemplateFault.TheVariants.{WrongShape, BadName}
use Rattle.cf_template.specs.Refusals.{Reading, after, mapped, provided}
use Rattle.cf_template.specs.Places.{member_place}
use Rattle.cf_template.specs.Words.{is_name}
use Rattle.cf_template.specs.Shapes.{plain_text, items_from}
use Rattle.cf_template.specs.Exprs.{whole_number}

abbrev pub mapped_text : Data → List ℕ → Reading tree.Data
mapped_text d at = mapped tree.text (plain_text d at)

abbrev pub mapped_value : Data → List ℕ → Reading tree.Data
mapped_value (string t) at = Ok (tree.text t)
mapped_value (boolean b) at = Ok (tree.truth b)
mapped_value (number n) at = mapped tree.whole (whole_number (as_i64 n) at)
mapped_value (array ds) at = mapped (λ vs. tree.list (tree.items_of vs)) (items_from mapped_text ds at 0 [])
mapped_value d at = Err (WrongShape at)

-- the values under the second key put into those found before
abbrev pub values_in : Members → List ℕ → List (List ℕ × tree.Data) → Reading (List (List ℕ × tree.Data))
values_in no_members at found = Ok found
values_in (member k d ms) at found = after (mapped_value d (member_place at k)) (λ v. values_in ms at (put k v found))

abbrev pub mapping_row : Data → List ℕ → Reading (List (List ℕ × tree.Data))
mapping_row (object ms) at = values_in ms at []
mapping_row d at = Err (WrongShape at)

-- what stands under the first key put into what was found before
abbrev pub rows_in : Members → List ℕ → List (List ℕ × List (List ℕ × tree.Data)) → Reading (List (List ℕ × List (List ℕ × tree.Data)))
rows_in no_members at found = Ok found
rows_in (member k d ms) at found = after (mapping_row d (member_place at k)) (λ r. rows_in ms at (put k r found))

abbrev pub mapping_of : Data → List ℕ → Reading (List (List ℕ × List (List ℕ × tree.Data)))
mapping_of (object ms) at = rows_in ms at []
mapping_of d at = Err (WrongShape at)

-- the members of the section put into those found before
abbrev pub mappings_in : Members → List ℕ → List (List ℕ × List (List ℕ × List (List ℕ × tree.Data)))
    → Reading (List (List ℕ × List (List ℕ × List (List ℕ × tree.Data))))
mappings_in no_members at found = Ok found
mappings_in (member k d ms) at found =
    provided (is_name k) (BadName (member_place at k)) (after (mapping_of d (member_place at k)) (λ m. mappings_in ms at (put k m found)))
