-- A template has 500 resources at the most.
use Rattle.std.proofs.Common.{◌≡◌, ℕ, suc, ◌+◌, ◌≤◌, List, [], ◌∷◌, ◌++◌, Bool, true, false, Option, Some, None, Result, Ok, Err, IfOk, refl, sym, subst, length, arith}
use Rattle.std.specs.Prelude.{⊤, nat_le, codes, option_and_then, if◌then◌else◌}
use Rattle.std.proofs.lemmas.Bool.{leb-true}
use Rattle.std.proofs.lemmas.List.{length-append}
use Rattle.serde_json.specs.Data.{Data, null, boolean, number, string, array, object, Members, no_members, member}
use Rattle.serde_json.specs.Find.{get}
use Rattle.cf_tree.specs.Keys.{value_at}
use Rattle.cf_tree.specs.Datum as tree
use Rattle.cf_tree.specs.Tests.{Test}
use Rattle.cf_tree.specs.declared.template.Param.{Param}
use Rattle.cf_tree.specs.declared.template.Res.{Res}
use Rattle.cf_tree.specs.declared.template.Template.{Template}
use Rattle.cf_tree.specs.declared.source.Source.{Source}
use Rattle.cf_template.specs.declared.refusal.TemplateFault.{TemplateFault}
use Rattle.cf_template.specs.declared.refusal.TemplateFault.TheVariants.{BadName, BadVersion, TooLong, TooMany}
use Rattle.cf_template.specs.declared.walk.Region.TheVariants.{Root}
use Rattle.cf_template.specs.Conds.{conds_in}
use Rattle.cf_template.specs.Json.{json_of, count}
use Rattle.cf_template.specs.Maps.{mappings_in}
use Rattle.cf_template.specs.Outputs.{outputs_form}
use Rattle.cf_template.specs.Params.{params_in}
use Rattle.cf_template.specs.Places.{member_place}
use Rattle.cf_template.specs.Refusals.{Reading, after, mapped, provided, unless}
use Rattle.cf_template.specs.Resources.{resource_of, resources_in}
use Rattle.cf_template.specs.Shapes.{optional, plain_text, unread}
use Rattle.cf_template.specs.Walk.{walk_fault}
use Rattle.cf_template.specs.Whole.{count_fault, empty_fault, free_section, is_version, required_section, section, sections_fault, sections_of, template_from, template_of, value_template}
use Rattle.cf_template.specs.Words.{is_name}
use Rattle.cf_desired.specs.Templates.{accepted, template_named}

after_ok : {A B : Type 0} (Q : B → Type 0) (r : Reading A) (f : A → Reading B) → ((a : A) → IfOk (f a) Q) → IfOk (after r f) Q
after_ok Q (Ok a) f h = h a
after_ok Q (Err e) f h = tt

then_ok : {A B : Type 0} (P : A → Type 0) (Q : B → Type 0) (r : Reading A) (f : A → Reading B) → ((a : A) → P a → IfOk (f a) Q) → IfOk r P → IfOk (after r f) Q
then_ok P Q (Ok a) f h p = h a p
then_ok P Q (Err e) f h p = tt

map_ok : {A B : Type 0} (Q : B → Type 0) (f : A → B) (r : Reading A) → ((a : A) → Q (f a)) → IfOk (mapped f r) Q
map_ok Q f (Ok a) h = h a
map_ok Q f (Err e) h = tt

provided_ok : {A : Type 0} (Q : A → Type 0) (b : Bool) (e : TemplateFault) (r : Reading A) → IfOk r Q → IfOk (provided b e r) Q
provided_ok Q true e r h = h
provided_ok Q false e r h = tt

unless_ok : {A : Type 0} (Q : A → Type 0) (o : Option TemplateFault) (r : Reading A) → IfOk r Q → IfOk (unless o r) Q
unless_ok Q None r h = h
unless_ok Q (Some e) r h = tt

-- as many resources as there are members
abbrev IsAsLong : ℕ → List Res → Type 0
IsAsLong n rs = length rs ≡ n

one_longer : (n : ℕ) (found : List Res) (r : Res) (rs : List Res) → length rs ≡ length (found ++ r ∷ []) + n → length rs ≡ length found + suc n
one_longer n found r rs h = omega (arith, h, length-append found (r ∷ []))

read_long : (ps : List Param) (ms : Members) (at : List ℕ) (found : List Res) → IfOk (resources_in ps ms at found) (IsAsLong (length found + count ms))
read_long ps no_members at found = omega arith
read_long ps (member k d ms) at found =
    provided_ok (IsAsLong (length found + suc (count ms))) (is_name k) (BadName (member_place at k)) (after (resource_of ps k d (member_place at k)) (λ r. resources_in ps ms at (found ++ r ∷ [])))
    (after_ok (IsAsLong (length found + suc (count ms))) (resource_of ps k d (member_place at k)) (λ r. resources_in ps ms at (found ++ r ∷ []))
    (λ r. longer r (resources_in ps ms at (found ++ r ∷ [])) (read_long ps ms at (found ++ r ∷ [])))) where
      longer : (r : Res) (x : Reading (List Res)) → IfOk x (IsAsLong (length (found ++ r ∷ []) + count ms)) → IfOk x (IsAsLong (length found + suc (count ms)))
      longer r (Ok rs) h = one_longer (count ms) found r rs h
      longer r (Err e) h = tt

abbrev AreFew : List Res → Type 0
AreFew rs = length rs ≤ 500

few_of : (n : ℕ) (r : Reading (List Res)) → n ≤ 500 → IfOk r (IsAsLong n) → IfOk r AreFew
few_of n (Ok rs) h l = subst (λ k. k ≤ 500) (sym l) h
few_of n (Err e) h l = tt

counted : (n : ℕ) (r : Reading (List Res)) → IfOk r (IsAsLong n) → IfOk (unless (count_fault (codes "Resources") 500 n) r) AreFew
counted n r l = either (nat_le n 500) refl where
  either : (b : Bool) → nat_le n 500 ≡ b → IfOk (unless (if b then None else Some (TooMany (codes "Resources") n)) r) AreFew
  either true h = few_of n r (leb-true n 500 h) l
  either false h = tt

section_few : (ps : List Param) (o : Option Data) → IfOk (required_section (resources_in ps) 500 (codes "Resources") o) AreFew
section_few ps None = tt
section_few ps (Some (object ms)) =
    let none : 0 + count ms ≡ count ms = omega arith in
    let long = subst (λ (k : ℕ). IfOk (resources_in ps ms (member_place [] (codes "Resources")) []) (IsAsLong k)) none (read_long ps ms (member_place [] (codes "Resources")) []) in
    unless_ok AreFew (empty_fault (codes "Resources") (count ms)) (section (resources_in ps) 500 (codes "Resources") (Some (object ms)))
    (counted (count ms) (resources_in ps ms (member_place [] (codes "Resources")) []) long)
section_few ps (Some (array ds)) = tt
section_few ps (Some null) = tt
section_few ps (Some (boolean b)) = tt
section_few ps (Some (number n)) = tt
section_few ps (Some (string t)) = tt

abbrev HasFew : Template → Type 0
HasFew t = length t.resources ≤ 500

module _ (d : Data) where
  abbrev Mappings : Type 0
  Mappings = List (List ℕ × List (List ℕ × List (List ℕ × tree.Data)))

  abbrev with_resources : List Param → Mappings → List (List ℕ × Test) → List Res → Reading Template
  with_resources params mappings conds resources =
      mapped (λ outputs. record {
        params = params;
        mappings = mappings;
        conds = conds;
        resources = resources;
        outputs = outputs;
      }) (section (outputs_form params) 200 (codes "Outputs") (get (codes "Outputs") d))

  abbrev with_conds : List Param → Mappings → List (List ℕ × Test) → Reading Template
  with_conds params mappings conds = after (required_section (resources_in params) 500 (codes "Resources") (get (codes "Resources") d)) (with_resources params mappings conds)

  abbrev with_mappings : List Param → Mappings → Reading Template
  with_mappings params mappings = after (free_section (conds_in params) (codes "Conditions") (get (codes "Conditions") d)) (with_conds params mappings)

  abbrev with_params : List Param → Reading Template
  with_params params = after (section mappings_in 200 (codes "Mappings") (get (codes "Mappings") d)) (with_mappings params)

  abbrev behind_metadata : Reading Template
  behind_metadata = after (section params_in 200 (codes "Parameters") (get (codes "Parameters") d)) with_params

  abbrev behind_description : Reading Template
  behind_description = after (optional unread (codes "Metadata") d []) (λ _. behind_metadata)

  sections_few : IfOk (sections_of d) HasFew
  sections_few =
      after_ok HasFew (optional plain_text (codes "Description") d []) (λ _. behind_description) (λ u.
      after_ok HasFew (optional unread (codes "Metadata") d []) (λ _. behind_metadata) (λ v.
      after_ok HasFew (section params_in 200 (codes "Parameters") (get (codes "Parameters") d)) with_params (λ params.
      after_ok HasFew (section mappings_in 200 (codes "Mappings") (get (codes "Mappings") d)) (with_mappings params) (λ mappings.
      after_ok HasFew (free_section (conds_in params) (codes "Conditions") (get (codes "Conditions") d)) (with_conds params mappings) (λ conds.
      then_ok AreFew HasFew (required_section (resources_in params) 500 (codes "Resources") (get (codes "Resources") d)) (with_resources params mappings conds)
      (λ resources o. map_ok HasFew _ (section (outputs_form params) 200 (codes "Outputs") (get (codes "Outputs") d)) (λ outputs. o))
      (section_few params (get (codes "Resources") d)))))))

from_few : (d : Data) → IfOk (template_from d) HasFew
from_few (object ms) =
    let read = sections_of (object ms) in
    unless_ok HasFew (sections_fault ms) (provided (is_version (get (codes "AWSTemplateFormatVersion") (object ms))) BadVersion read)
    (provided_ok HasFew (is_version (get (codes "AWSTemplateFormatVersion") (object ms))) BadVersion read (sections_few (object ms)))
from_few (array ds) = tt
from_few null = tt
from_few (boolean b) = tt
from_few (number n) = tt
from_few (string t) = tt

value_few : (o : Option Data) → IfOk (value_template o) HasFew
value_few None = tt
value_few (Some d) = unless_ok HasFew (walk_fault d Root []) (template_from d) (from_few d)

template_few : (bytes : List ℕ) → IfOk (template_of bytes) HasFew
template_few bytes = provided_ok HasFew (nat_le (length bytes) 1048576) (TooLong (length bytes)) (value_template (json_of bytes)) (value_few (json_of bytes))

abbrev IfFew : Option Template → Type 0
IfFew None = ⊤
IfFew (Some t) = HasFew t

named : (name : List ℕ) (source : Source) → IfFew (template_named name source)
named name source = by_text (value_at name source.texts) where
  by_reading : (r : Result Template TemplateFault) → IfOk r HasFew → IfFew (accepted r)
  by_reading (Ok t) h = h
  by_reading (Err f) h = tt

  by_text : (o : Option (List ℕ)) → IfFew (option_and_then (λ bytes. accepted (template_of bytes)) o)
  by_text None = tt
  by_text (Some bytes) = by_reading (template_of bytes) (template_few bytes)

-- the template of a name among the texts of a source
pub named_few : (name : List ℕ) (source : Source) (t : Template) → template_named name source ≡ Some t → length t.resources ≤ 500
named_few name source t e = subst IfFew e (named name source)
