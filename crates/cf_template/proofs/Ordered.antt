-- No two resources of a template that was read have one name: the members of a JSON object stand once each, in the order of their names.
-- And all names have the form of ids.
use Rattle.std.proofs.Common.{◌≡◌, ℕ, List, [], ◌∷◌, ◌++◌, Bool, true, false, ◌&&◌, Option, Some, None, Ok, Err, refl, sym, ap, ◌∙◌, map, option_map}
use Rattle.std.specs.Prelude.{⊤, cond, codes, length, nat_le, IfOk}
use Rattle.std.specs.List.{list_all}
use Rattle.std.specs.Str.{is_utf8}
use Rattle.std.specs.Ordering.{nat_cmp, match_ordering}
use Rattle.std.specs.declared.cmp.Ordering.{Ordering}
use Rattle.std.specs.declared.cmp.Ordering.TheVariants.{Less, Equal, Greater}
use Rattle.std.specs.Cmp.Lexicographic.{slice_cmp}
use Rattle.std.specs.Option.{option_and_then}
use Rattle.std.proofs.lemmas.List.{append_assoc, append-nil, map-append}
use Rattle.std.proofs.lemmas.List.Folds.{list_all-append}
use Rattle.json.specs.Json as json
use Rattle.serde_json.specs.Data.{Num, Data, null, boolean, number, string, array, object, Items, no_items, item, Members, no_members, member, put}
use Rattle.serde_json.specs.Find.{get, get_member}
use Rattle.json.specs.Lex.{tokens}
use Rattle.serde_json.specs.Read.{max_depth, of_json, of_items, of_members, number_of, read}
use Rattle.cf_tree.specs.Keys.{ascends}
use Rattle.cf_tree.specs.Keys as keys
use Rattle.cf_tree.proofs.Order.{ascends_put, ascends_map}
use Rattle.cf_tree.specs.declared.template.Param.{Param}
use Rattle.cf_tree.specs.declared.template.Res.{Res}
use Rattle.cf_tree.specs.declared.template.Template.{Template}
use Rattle.cf_template.specs.declared.refusal.TemplateFault.{TemplateFault}
use Rattle.cf_template.specs.Refusals.{Reading, after, mapped, provided, unless}
use Rattle.cf_template.specs.Places.{member_place}
use Rattle.cf_tree.specs.Datum as tree
use Rattle.cf_tree.specs.Forms.{Form}
use Rattle.cf_tree.specs.Tests.{Test}
use Rattle.cf_tree.specs.declared.template.Deletion.{Deletion}
use Rattle.cf_template.specs.declared.refusal.TemplateFault.TheVariants.{WrongShape, BadName, BadVersion, TooLong}
use Rattle.cf_template.specs.declared.walk.Region.TheVariants.{Root}
use Rattle.cf_template.specs.Words.{is_name}
use Rattle.cf_template.specs.Shapes.{has_member, optional, required, plain_text, unread}
use Rattle.cf_template.specs.Exprs.{values_of}
use Rattle.cf_template.specs.Walk.{walk_fault}
use Rattle.cf_template.specs.Params.{params_in}
use Rattle.cf_template.specs.Maps.{mappings_in}
use Rattle.cf_template.specs.Conds.{conds_in}
use Rattle.cf_template.specs.Outputs.{outputs_form}
use Rattle.cf_template.specs.Resources.{resources_in, resource_of, resource_fields, resource_members_fault, depends_form, deletion_form, replace_of, or_none}
use Rattle.cf_template.specs.Json.{json_of, count}
use Rattle.cf_template.specs.Whole.{section, free_section, required_section, count_fault, empty_fault, sections_fault, is_version, sections_of, template_from, value_template, template_of}

-- the members of an object by name
abbrev pairs_in : Members → List (List ℕ × Data)
pairs_in no_members = []
pairs_in (member k d ms) = (k, d) ∷ pairs_in ms

-- names stand once each, in the order of their bytes, in all objects of a value
abbrev mutual
  Sorted : Data → Type 0
  Sorted (object ms) = (ascends (pairs_in ms) ≡ true) × SortedMembers ms
  Sorted (array ds) = SortedItems ds
  Sorted null = ⊤
  Sorted (boolean b) = ⊤
  Sorted (number n) = ⊤
  Sorted (string s) = ⊤

  SortedItems : Items → Type 0
  SortedItems no_items = ⊤
  SortedItems (item d ds) = Sorted d × SortedItems ds

  SortedMembers : Members → Type 0
  SortedMembers no_members = ⊤
  SortedMembers (member k d ms) = Sorted d × SortedMembers ms

-- what there is has it
abbrev IfSome : {A : Type 0} → (A → Type 0) → Option A → Type 0
IfSome P None = ⊤
IfSome P (Some a) = P a

some_map : {A B : Type 0} (P : A → Type 0) (Q : B → Type 0) (f : A → B) (o : Option A) → ((a : A) → P a → Q (f a)) → IfSome P o → IfSome Q (option_map f o)
some_map P Q f None h p = tt
some_map P Q f (Some a) h p = h a p

some_then : {A B : Type 0} (P : A → Type 0) (Q : B → Type 0) (f : A → Option B) (o : Option A) → ((a : A) → P a → IfSome Q (f a)) → IfSome P o → IfSome Q (option_and_then f o)
some_then P Q f None h p = tt
some_then P Q f (Some a) h p = h a p

-- a member is put among others as a pair among pairs
put_by :
    (k l : List ℕ) (d e : Data) (ms : Members) (o : Ordering) → pairs_in (put k d ms) ≡ keys.put k d (pairs_in ms)
    → pairs_in (match_ordering o (member k d (member l e ms)) (member l d ms) (member l e (put k d ms)))
    ≡ match_ordering o ((k, d) ∷ (l, e) ∷ pairs_in ms) ((l, d) ∷ pairs_in ms) ((l, e) ∷ keys.put k d (pairs_in ms))
put_by k l d e ms Less h = refl
put_by k l d e ms Equal h = refl
put_by k l d e ms Greater h = ap (λ ps. (l, e) ∷ ps) h

put_pairs : (k : List ℕ) (d : Data) (ms : Members) → pairs_in (put k d ms) ≡ keys.put k d (pairs_in ms)
put_pairs k d no_members = refl
put_pairs k d (member l e ms) = put_by k l d e ms (slice_cmp nat_cmp k l) (put_pairs k d ms)

sorted_by :
    (k l : List ℕ) (d e : Data) (ms : Members) (o : Ordering) → Sorted d → Sorted e → SortedMembers ms → SortedMembers (put k d ms)
    → SortedMembers (match_ordering o (member k d (member l e ms)) (member l d ms) (member l e (put k d ms)))
sorted_by k l d e ms Less s t r h = (s, (t, r))
sorted_by k l d e ms Equal s t r h = (s, r)
sorted_by k l d e ms Greater s t r h = (t, h)

put_sorted : (k : List ℕ) (d : Data) (ms : Members) → Sorted d → SortedMembers ms → SortedMembers (put k d ms)
put_sorted k d no_members s r = (s, tt)
put_sorted k d (member l e ms) s r = sorted_by k l d e ms (slice_cmp nat_cmp k l) s r.0 r.1 (put_sorted k d ms s r.1)

abbrev IsObject : Members → Type 0
IsObject ms = (ascends (pairs_in ms) ≡ true) × SortedMembers ms

put_object : (k : List ℕ) (d : Data) (ms : Members) → Sorted d → IsObject ms → IsObject (put k d ms)
put_object k d ms s h = (ap ascends (put_pairs k d ms) ∙ ascends_put k d (pairs_in ms) h.0, put_sorted k d ms s h.1)

number_sorted : (o : Option Num) → IfSome Sorted (option_map number o)
number_sorted None = tt
number_sorted (Some n) = tt

-- what JSON text is read as is sorted
mutual
  json_sorted : (j : json.Json) → IfSome Sorted (of_json j)
  json_sorted json.null = tt
  json_sorted (json.boolean b) = tt
  json_sorted (json.number s) = number_sorted (number_of s)
  json_sorted (json.string s) = tt
  json_sorted (json.array js) = some_map SortedItems Sorted array (of_items js) (λ ds h. h) (items_sorted js)
  json_sorted (json.object ms) = some_map IsObject Sorted object (of_members ms no_members) (λ found h. h) (members_sorted ms no_members (refl, tt))

  items_sorted : (js : json.Items) → IfSome SortedItems (of_items js)
  items_sorted json.no_items = tt
  items_sorted (json.item j js) =
      some_then Sorted SortedItems (λ d. option_map (item d) (of_items js)) (of_json j)
      (λ d s. some_map SortedItems SortedItems (item d) (of_items js) (λ ds h. (s, h)) (items_sorted js)) (json_sorted j)

  members_sorted : (ms : json.Members) (found : Members) → IsObject found → IfSome IsObject (of_members ms found)
  members_sorted json.no_members found h = h
  members_sorted (json.member k j ms) found h =
      some_then Sorted IsObject (λ d. of_members ms (put k d found)) (of_json j) (λ d s. members_sorted ms (put k d found) (put_object k d found s h)) (json_sorted j)

any_read : (o : Option json.Json) → IfSome Sorted (option_and_then of_json o)
any_read None = tt
any_read (Some j) = json_sorted j

read_sorted : (bytes : List ℕ) → IfSome Sorted (json_of bytes)
read_sorted bytes = if_text (is_utf8 bytes) where
  if_text : (b : Bool) → IfSome Sorted (cond b (read bytes) None)
  if_text true = any_read (option_and_then (λ p. json.if_last p.0 p.1) (json.value max_depth (tokens bytes)))
  if_text false = tt

found_by : (o : Ordering) (d : Option Data) (e : Data) → IfSome Sorted d → Sorted e → IfSome Sorted (match_ordering o d (Some e) d)
found_by Less d e h s = h
found_by Equal d e h s = s
found_by Greater d e h s = h

member_sorted : (k : List ℕ) (ms : Members) → SortedMembers ms → IfSome Sorted (get_member k ms)
member_sorted k no_members h = tt
member_sorted k (member l e ms) h = found_by (slice_cmp nat_cmp k l) (get_member k ms) e (member_sorted k ms h.1) h.0

-- what was read has it
then_ok : {A B : Type 0} (P : A → Type 0) (Q : B → Type 0) (r : Reading A) (f : A → Reading B) → ((a : A) → P a → IfOk (f a) Q) → IfOk r P → IfOk (after r f) Q
then_ok P Q (Ok a) f h p = h a p
then_ok P Q (Err e) f h p = tt

any_ok : {A : Type 0} (r : Reading A) → IfOk r (λ a. ⊤)
any_ok (Ok a) = tt
any_ok (Err e) = tt

after_ok : {A B : Type 0} (Q : B → Type 0) (r : Reading A) (f : A → Reading B) → ((a : A) → IfOk (f a) Q) → IfOk (after r f) Q
after_ok Q r f h = then_ok (λ a. ⊤) Q r f (λ a t. h a) (any_ok r)

map_ok : {A B : Type 0} (Q : B → Type 0) (f : A → B) (r : Reading A) → ((a : A) → Q (f a)) → IfOk (mapped f r) Q
map_ok Q f (Ok a) h = h a
map_ok Q f (Err e) h = tt

provided_ok : {A : Type 0} (Q : A → Type 0) (b : Bool) (e : TemplateFault) (r : Reading A) → IfOk r Q → IfOk (provided b e r) Q
provided_ok Q true e r h = h
provided_ok Q false e r h = tt

unless_ok : {A : Type 0} (Q : A → Type 0) (o : Option TemplateFault) (r : Reading A) → IfOk r Q → IfOk (unless o r) Q
unless_ok Q None r h = h
unless_ok Q (Some e) r h = tt

-- a resource has the name of its member, whatever its own members are
module _ (ps : List Param) (k : List ℕ) (d : Data) (at : List ℕ) where
  abbrev IsNamed : Res → Type 0
  IsNamed r = r.name ≡ k

  abbrev with_kind : Option (List ℕ) → Option Deletion → Option (List (List ℕ)) → Option (List (List ℕ × Form)) → List ℕ → Reading Res
  with_kind condition deletion depends props kind =
      mapped (λ replace. record {
        name = k;
        kind = kind;
        props = or_none props;
        depends = or_none depends;
        condition = condition;
        deletion = deletion;
        replace = replace;
      }) (optional replace_of (codes "UpdateReplacePolicy") d at)

  kind_named : (c : Option (List ℕ)) (del : Option Deletion) (dep : Option (List (List ℕ))) (props : Option (List (List ℕ × Form))) (kind : List ℕ) → IfOk (with_kind c del dep props kind) IsNamed
  kind_named c del dep props kind = map_ok IsNamed _ (optional replace_of (codes "UpdateReplacePolicy") d at) (λ replace. refl)

  abbrev with_props : Option (List ℕ) → Option Deletion → Option (List (List ℕ)) → Option (List (List ℕ × Form)) → Reading Res
  with_props c del dep props = after (required plain_text (codes "Type") d at) (with_kind c del dep props)

  abbrev with_metadata : Option (List ℕ) → Option Deletion → Option (List (List ℕ)) → Reading Res
  with_metadata c del dep = after (optional (values_of ps) (codes "Properties") d at) (with_props c del dep)

  abbrev with_depends : Option (List ℕ) → Option Deletion → Option (List (List ℕ)) → Reading Res
  with_depends c del dep = after (optional unread (codes "Metadata") d at) (λ _. with_metadata c del dep)

  abbrev with_deletion : Option (List ℕ) → Option Deletion → Reading Res
  with_deletion c del = after (optional depends_form (codes "DependsOn") d at) (with_depends c del)

  abbrev with_condition : Option (List ℕ) → Reading Res
  with_condition c = after (optional deletion_form (codes "DeletionPolicy") d at) (with_deletion c)

  fields_named : IfOk (resource_fields ps k d at) IsNamed
  fields_named =
      after_ok IsNamed (optional plain_text (codes "Condition") d at) with_condition (λ c.
      after_ok IsNamed (optional deletion_form (codes "DeletionPolicy") d at) (with_deletion c) (λ del.
      after_ok IsNamed (optional depends_form (codes "DependsOn") d at) (with_depends c del) (λ dep.
      after_ok IsNamed (optional unread (codes "Metadata") d at) (λ _. with_metadata c del dep) (λ u.
      after_ok IsNamed (optional (values_of ps) (codes "Properties") d at) (with_props c del dep) (λ props.
      after_ok IsNamed (required plain_text (codes "Type") d at) (with_kind c del dep props) (λ kind. kind_named c del dep props kind))))))

resource_named : (ps : List Param) (k : List ℕ) (d : Data) (at : List ℕ) → IfOk (resource_of ps k d at) (λ r. r.name ≡ k)
resource_named ps k (object ms) at =
    unless_ok (λ r. r.name ≡ k) (resource_members_fault ms at) (provided (has_member (codes "Type") (object ms)) (WrongShape at) (resource_fields ps k (object ms) at))
    (provided_ok (λ r. r.name ≡ k) (has_member (codes "Type") (object ms)) (WrongShape at) (resource_fields ps k (object ms) at) (fields_named ps k (object ms) at))
resource_named ps k (array ds) at = tt
resource_named ps k null at = tt
resource_named ps k (boolean b) at = tt
resource_named ps k (number n) at = tt
resource_named ps k (string s) at = tt

-- names, each once and in order
abbrev pub under_names : List Res → List (List ℕ × Bool)
under_names rs = map (λ r. (r.name, true)) rs

abbrev names_in : Members → List (List ℕ × Bool)
names_in ms = map (λ p. (p.0, true)) (pairs_in ms)

abbrev pub AreOrdered : List Res → Type 0
AreOrdered rs = ascends (under_names rs) ≡ true

resources_ordered : (ps : List Param) (ms : Members) (at : List ℕ) (found : List Res) → ascends (under_names found ++ names_in ms) ≡ true → IfOk (resources_in ps ms at found) AreOrdered
resources_ordered ps no_members at found h = ap ascends (sym (append-nil (under_names found))) ∙ h
resources_ordered ps (member k d ms) at found h =
    provided_ok AreOrdered (is_name k) (BadName (member_place at k)) (after (resource_of ps k d (member_place at k)) (λ r. resources_in ps ms at (found ++ r ∷ [])))
    (then_ok (λ r. r.name ≡ k) AreOrdered (resource_of ps k d (member_place at k)) (λ r. resources_in ps ms at (found ++ r ∷ []))
    (λ r e.
    resources_ordered ps ms at (found ++ r ∷ [])
    (ap (λ ns. ascends (ns ++ names_in ms)) (map-append (λ (x : Res). (x.name, true)) found (r ∷ []))
    ∙ ap ascends (append_assoc (under_names found) ((r.name, true) ∷ []) (names_in ms))
    ∙ ap (λ n. ascends (under_names found ++ (n, true) ∷ names_in ms)) e ∙ h))
    (resource_named ps k d (member_place at k)))

-- names of the form that ids have
abbrev pub AreNamed : List Res → Type 0
AreNamed rs = list_all (λ r. is_name r.name) rs ≡ true

provided_so : {A : Type 0} (Q : A → Type 0) (b : Bool) (e : TemplateFault) (r : Reading A) → (b ≡ true → IfOk r Q) → IfOk (provided b e r) Q
provided_so Q true e r h = h refl
provided_so Q false e r h = tt

one_more : (found : List Res) (r : Res) → AreNamed found → is_name r.name ≡ true → AreNamed (found ++ r ∷ [])
one_more found r h n = list_all-append (λ x. is_name x.name) found (r ∷ []) ∙ ap (λ b. b && (is_name r.name && true)) h ∙ ap (λ b. b && true) n

resources_all_named : (ps : List Param) (ms : Members) (at : List ℕ) (found : List Res) → AreNamed found → IfOk (resources_in ps ms at found) AreNamed
resources_all_named ps no_members at found h = h
resources_all_named ps (member k d ms) at found h =
    provided_so AreNamed (is_name k) (BadName (member_place at k)) (after (resource_of ps k d (member_place at k)) (λ r. resources_in ps ms at (found ++ r ∷ []))) (λ n.
    then_ok (λ r. r.name ≡ k) AreNamed (resource_of ps k d (member_place at k)) (λ r. resources_in ps ms at (found ++ r ∷ []))
    (λ r e. resources_all_named ps ms at (found ++ r ∷ []) (one_more found r h (ap is_name e ∙ n)))
    (resource_named ps k d (member_place at k)))

-- what the resources that were read have, the section has
section_has : (P : List Res → Type 0) (ps : List Param) (ms : Members) → IfOk (resources_in ps ms (member_place [] (codes "Resources")) []) P
    → IfOk (required_section (resources_in ps) 500 (codes "Resources") (Some (object ms))) P
section_has P ps ms h =
    let read = resources_in ps ms (member_place [] (codes "Resources")) [] in
    unless_ok P (empty_fault (codes "Resources") (count ms)) (unless (count_fault (codes "Resources") 500 (count ms)) read)
    (unless_ok P (count_fault (codes "Resources") 500 (count ms)) read h)

section_ordered : (ps : List Param) (o : Option Data) → IfSome Sorted o → IfOk (required_section (resources_in ps) 500 (codes "Resources") o) AreOrdered
section_ordered ps None s = tt
section_ordered ps (Some (object ms)) s =
    section_has AreOrdered ps ms
    (resources_ordered ps ms (member_place [] (codes "Resources")) [] (ascends_map (λ (p : List ℕ × Data). (p.0, true)) (λ p. refl) (pairs_in ms) ∙ s.0))
section_ordered ps (Some (array ds)) s = tt
section_ordered ps (Some null) s = tt
section_ordered ps (Some (boolean b)) s = tt
section_ordered ps (Some (number n)) s = tt
section_ordered ps (Some (string t)) s = tt

section_named : (ps : List Param) (o : Option Data) → IfOk (required_section (resources_in ps) 500 (codes "Resources") o) AreNamed
section_named ps None = tt
section_named ps (Some (object ms)) = section_has AreNamed ps ms (resources_all_named ps ms (member_place [] (codes "Resources")) [] refl)
section_named ps (Some (array ds)) = tt
section_named ps (Some null) = tt
section_named ps (Some (boolean b)) = tt
section_named ps (Some (number n)) = tt
section_named ps (Some (string t)) = tt

-- the sections of a template one after another, where all resources have something
module _ (P : List Res → Type 0) (d : Data) where
  abbrev HasAll : Template → Type 0
  HasAll t = P t.resources

  abbrev Mappings : Type 0
  Mappings = List (List ℕ × List (List ℕ × List (List ℕ × tree.Data)))

  abbrev with_resources : List Param → Mappings → List (List ℕ × Test) → List Res → Reading Template
  with_resources params mappings conds resources =
      mapped (λ outputs. record {
        params = params;
        mappings = mappings;
        conds = conds;
        resources = resources;
        outputs = outputs;
      }) (section (outputs_form params) 200 (codes "Outputs") (get (codes "Outputs") d))

  abbrev with_conds : List Param → Mappings → List (List ℕ × Test) → Reading Template
  with_conds params mappings conds = after (required_section (resources_in params) 500 (codes "Resources") (get (codes "Resources") d)) (with_resources params mappings conds)

  abbrev with_mappings : List Param → Mappings → Reading Template
  with_mappings params mappings = after (free_section (conds_in params) (codes "Conditions") (get (codes "Conditions") d)) (with_conds params mappings)

  abbrev with_params : List Param → Reading Template
  with_params params = after (section mappings_in 200 (codes "Mappings") (get (codes "Mappings") d)) (with_mappings params)

  abbrev behind_metadata : Reading Template
  behind_metadata = after (section params_in 200 (codes "Parameters") (get (codes "Parameters") d)) with_params

  abbrev behind_description : Reading Template
  behind_description = after (optional unread (codes "Metadata") d []) (λ _. behind_metadata)

  sections_have : ((ps : List Param) → IfOk (required_section (resources_in ps) 500 (codes "Resources") (get (codes "Resources") d)) P) → IfOk (sections_of d) HasAll
  sections_have h =
      after_ok HasAll (optional plain_text (codes "Description") d []) (λ _. behind_description) (λ u.
      after_ok HasAll (optional unread (codes "Metadata") d []) (λ _. behind_metadata) (λ v.
      after_ok HasAll (section params_in 200 (codes "Parameters") (get (codes "Parameters") d)) with_params (λ params.
      after_ok HasAll (section mappings_in 200 (codes "Mappings") (get (codes "Mappings") d)) (with_mappings params) (λ mappings.
      after_ok HasAll (free_section (conds_in params) (codes "Conditions") (get (codes "Conditions") d)) (with_conds params mappings) (λ conds.
      then_ok P HasAll (required_section (resources_in params) 500 (codes "Resources") (get (codes "Resources") d)) (with_resources params mappings conds)
      (λ resources o. map_ok HasAll _ (section (outputs_form params) 200 (codes "Outputs") (get (codes "Outputs") d)) (λ outputs. o)) (h params))))))

from_has : (Q : Template → Type 0) (ms : Members) → IfOk (sections_of (object ms)) Q → IfOk (template_from (object ms)) Q
from_has Q ms h =
    let read = sections_of (object ms) in
    unless_ok Q (sections_fault ms) (provided (is_version (get (codes "AWSTemplateFormatVersion") (object ms))) BadVersion read)
    (provided_ok Q (is_version (get (codes "AWSTemplateFormatVersion") (object ms))) BadVersion read h)

abbrev HasOrder : Template → Type 0
HasOrder t = AreOrdered t.resources

abbrev HasNames : Template → Type 0
HasNames t = AreNamed t.resources

from_ordered : (d : Data) → Sorted d → IfOk (template_from d) HasOrder
from_ordered (object ms) s = from_has HasOrder ms (sections_have AreOrdered (object ms) (λ ps. section_ordered ps (get (codes "Resources") (object ms)) (member_sorted (codes "Resources") ms s.1)))
from_ordered (array ds) s = tt
from_ordered null s = tt
from_ordered (boolean b) s = tt
from_ordered (number n) s = tt
from_ordered (string t) s = tt

from_named : (d : Data) → IfOk (template_from d) HasNames
from_named (object ms) = from_has HasNames ms (sections_have AreNamed (object ms) (λ ps. section_named ps (get (codes "Resources") (object ms))))
from_named (array ds) = tt
from_named null = tt
from_named (boolean b) = tt
from_named (number n) = tt
from_named (string t) = tt

value_ordered : (o : Option Data) → IfSome Sorted o → IfOk (value_template o) HasOrder
value_ordered None s = tt
value_ordered (Some d) s = unless_ok HasOrder (walk_fault d Root []) (template_from d) (from_ordered d s)

-- the resources of a template that was read stand in the order of their names
pub template_ordered : (bytes : List ℕ) → IfOk (template_of bytes) (λ t. AreOrdered t.resources)
template_ordered bytes = provided_ok HasOrder (nat_le (length bytes) 1048576) (TooLong (length bytes)) (value_template (json_of bytes)) (value_ordered (json_of bytes) (read_sorted bytes))

value_named : (o : Option Data) → IfOk (value_template o) HasNames
value_named None = tt
value_named (Some d) = unless_ok HasNames (walk_fault d Root []) (template_from d) (from_named d)

-- and each has a name of the form that ids have
pub template_names : (bytes : List ℕ) → IfOk (template_of bytes) (λ t. AreNamed t.resources)
template_names bytes = provided_ok HasNames (nat_le (length bytes) 1048576) (TooLong (length bytes)) (value_template (json_of bytes)) (value_named (json_of bytes))
