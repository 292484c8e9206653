-- Where every parameter is known, every condition is decided and all of each resource is seen, nothing that is evaluated is Later.
use Rattle.std.proofs.Common.{◌≡◌, ℕ, ℤ, pos, negsuc, List, [], ◌∷◌, map, Bool, true, false, cond, Option, Some, None, option_map, refl, codes}
use Rattle.std.specs.Prelude.{unwrap_or, nat_lt}
use Rattle.std.specs.Str.{bytes_eq}
use Rattle.cf_funcs.specs.Pieces.{cut_at}
use Rattle.cf_tree.specs.Datum.{Data}
use Rattle.cf_tree.specs.Forms.{Form, Node, Forms, Fields, expr, lit, ref, get_att, sub, join, select, split, choice, find_in_map, import_value, base64, no_forms, form, no_fields, field}
use Rattle.cf_tree.specs.Forms as node
use Rattle.cf_tree.specs.Keys.{value_at, put}
use Rattle.cf_tree.specs.SizeOf.{size_of}
use Rattle.cf_tree.specs.declared.parts.Part.{Part}
use Rattle.cf_tree.specs.declared.parts.Part.TheVariants.{Plain, Name}
use Rattle.cf_eval.specs.Outcome.{Outcome, got, later, bad, fault, undecided, below, on_got, both, each, or_wrong, undeclared_at_fault}
use Rattle.cf_eval.specs.Scope.{Scope, Beyond, open_to, closed_to}
use Rattle.cf_eval.specs.Texts.{Found, known, text_of, list_in, index_of, wanted_text, wanted_list, wanted_index, as_text, as_list, within, most_bytes}
use Rattle.cf_eval.specs.Functions.{or_fault, output_found, id_of, attribute_found, resource_ref, pseudo_ref, setting_found, ref_found, attribute_in, get_att_found, cut_found, name_found, piece_found, put_together, outcomes, sub_found, join_found, split_at, split_found, nth, select_found, paired, under_second, under_key, value_in_mapping, find_found, if_found, imported, import_found, base64_found}
use Rattle.cf_eval.specs.Value.{named, pairs_found, dict_found, blamed, form_found, node_found, forms_found, fields_found}
use Rattle.cf_eval.specs.declared.fault.EvalWhy.{EvalWhy}
use Rattle.cf_eval.specs.declared.fault.EvalWhy.TheVariants.{TooBig, UnknownName, UnknownAttribute}
use Rattle.cf_eval.specs.declared.env.OutputSight.{OutputSight}
use Rattle.cf_eval.specs.declared.env.OutputSight.TheVariants as output
use Rattle.cf_eval.specs.declared.env.Sight.{Sight}
use Rattle.cf_eval.specs.declared.env.Sight.TheVariants as sight
use Rattle.cf_desired.specs.Seeing.{by_names}
use Rattle.std.specs.Ordering.{nat_cmp, match_ordering}
use Rattle.std.specs.Cmp.Lexicographic.{slice_cmp}
use Rattle.std.specs.declared.cmp.Ordering.{Ordering}
use Rattle.std.specs.declared.cmp.Ordering.TheVariants.{Less, Equal, Greater}

-- an outcome is not Later
abbrev pub IsSure : {A : Type 0} → Outcome A → Type 0
IsSure (got a) = Unit {0}
IsSure later = ⊥
IsSure (bad s) = Unit {0}

-- all that there is of a resource is seen
abbrev pub IsTold : Option OutputSight → Type 0
IsTold (Some (output.Made None)) = ⊥
IsTold (Some (output.Made (Some v))) = Unit {0}
IsTold (Some output.NotMade) = Unit {0}
IsTold (Some (output.Broken why stack at)) = Unit {0}
IsTold None = Unit {0}

abbrev pub AllTold : List (List ℕ × OutputSight) → Type 0
AllTold [] = Unit {0}
AllTold (o ∷ os) = IsTold (Some o.1) × AllTold os

-- where all outputs are told, those are of which each name stands once
told_by : (k : List ℕ) (v : OutputSight) (p : List ℕ × OutputSight) (ps : List (List ℕ × OutputSight)) (o : Ordering) → IsTold (Some v) → AllTold (p ∷ ps) → AllTold (put k v ps)
    → AllTold (match_ordering o ((k, v) ∷ p ∷ ps) ((p.0, v) ∷ ps) (p ∷ put k v ps))
told_by k v p ps Less h all rest = (h, all)
told_by k v p ps Equal h all rest = (h, all.1)
told_by k v p ps Greater h all rest = (all.0, rest)

told_put : (k : List ℕ) (v : OutputSight) (ps : List (List ℕ × OutputSight)) → IsTold (Some v) → AllTold ps → AllTold (put k v ps)
told_put k v [] h all = (h, tt)
told_put k v (p ∷ ps) h all = told_by k v p ps (slice_cmp nat_cmp k p.0) h all (told_put k v ps h all.1)

pub told_names : (ps : List (List ℕ × OutputSight)) → AllTold ps → AllTold (by_names ps)
told_names [] all = tt
told_names (p ∷ ps) all = told_put p.0 p.1 (by_names ps) all.0 (told_names ps all.1)

abbrev pub IsFull : Option Sight → Type 0
IsFull None = Unit {0}
IsFull (Some sight.NotMade) = Unit {0}
IsFull (Some (sight.Made (Some p) (Some a))) = Unit {0}
IsFull (Some (sight.Made p a)) = ⊥
IsFull (Some (sight.Nested i outs)) = AllTold outs

abbrev pub AreFull : Beyond → Type 0
AreFull (open_to seen imports) = (id : List ℕ) → IsFull (value_at id seen)
AreFull (closed_to names) = Unit {0}

-- every parameter is known, every condition is decided, and all of each resource is seen
pub record IsKnown (s : Scope) : Type 0 where
  pub params : (name : List ℕ) → s.params name ≡ Some None → ⊥
  pub decided : (at name : List ℕ) → IsSure (s.decided at name)
  pub beyond : AreFull s.beyond

abbrev pub AreSure : {A : Type 0} → List (Outcome A) → Type 0
AreSure [] = Unit {0}
AreSure (x ∷ xs) = IsSure x × AreSure xs

pub on_got_sure : {A B : Type 0} (x : Outcome A) (f : A → Outcome B) → IsSure x → ((a : A) → IsSure (f a)) → IsSure (on_got x f)
on_got_sure (got a) f s h = h a
on_got_sure later f s h = s
on_got_sure (bad w) f s h = tt

both_sure : {A B C : Type 0} (x : Outcome A) (y : Outcome B) (f : A → B → Outcome C) → IsSure x → IsSure y → ((a : A) (b : B) → IsSure (f a b)) → IsSure (both x y f)
both_sure (got a) y f s t h = on_got_sure y (f a) t (h a)
both_sure later y f s t h = absurd s
both_sure (bad w) y f s t h = tt

each_sure : {A : Type 0} (xs : List (Outcome A)) → AreSure xs → IsSure (each xs)
each_sure [] h = tt
each_sure {A} (x ∷ xs) h = both_sure x (each xs) (λ (a : A) (rest : List A). got (a ∷ rest)) h.0 (each_sure xs h.1) (λ a rest. tt)

map_sure : {A B : Type 0} (f : A → Outcome B) (xs : List A) → ((a : A) → IsSure (f a)) → AreSure (map f xs)
map_sure f [] h = tt
map_sure f (x ∷ xs) h = (h x, map_sure f xs h)

cond_sure : {A : Type 0} (b : Bool) (x y : Outcome A) → IsSure x → IsSure y → IsSure (cond b x y)
cond_sure true x y s t = s
cond_sure false x y s t = t

or_wrong_sure : {A : Type 0} (at : List ℕ) (o : Option A) → IsSure (or_wrong at o)
or_wrong_sure at (Some a) = tt
or_wrong_sure at None = tt

or_fault_sure : {A : Type 0} (why : EvalWhy) (at : List ℕ) (o : Option A) → IsSure (or_fault why at o)
or_fault_sure why at (Some a) = tt
or_fault_sure why at None = tt

text_sure : (at : List ℕ) (o : Option Data) → IsSure (wanted_text at o)
text_sure at None = tt
text_sure at (Some d) = or_wrong_sure at (text_of d)

list_sure : (at : List ℕ) (o : Option Data) → IsSure (wanted_list at o)
list_sure at None = tt
list_sure at (Some d) = or_wrong_sure at (list_in d)

index_sure : (at : List ℕ) (o : Option Data) → IsSure (wanted_index at o)
index_sure at None = tt
index_sure at (Some d) = or_wrong_sure at (index_of d)

pub as_text_sure : (at : List ℕ) (x : Found) → IsSure x → IsSure (as_text at x)
as_text_sure at x s = on_got_sure x (wanted_text at) s (text_sure at)

as_list_sure : (at : List ℕ) (x : Found) → IsSure x → IsSure (as_list at x)
as_list_sure at x s = on_got_sure x (wanted_list at) s (list_sure at)

within_sure : (at : List ℕ) (x : Found) → IsSure x → IsSure (within at x)
within_sure at (got (Some d)) s = cond_sure (nat_lt most_bytes (size_of d)) (bad (fault TooBig at)) (known d) tt tt
within_sure at (got None) s = tt
within_sure at later s = s
within_sure at (bad w) s = tt

id_sure : (at : List ℕ) (o : Option Sight) → IsFull o → IsSure (on_got (or_fault UnknownName at o) (id_of at))
id_sure at None h = tt
id_sure at (Some sight.NotMade) h = tt
id_sure at (Some (sight.Made (Some p) (Some a))) h = tt
id_sure at (Some (sight.Made (Some p) None)) h = absurd h
id_sure at (Some (sight.Made None a)) h = absurd h
id_sure at (Some (sight.Nested i outs)) h = tt

resource_sure : (b : Beyond) (at name : List ℕ) → AreFull b → IsSure (resource_ref b at name)
resource_sure (open_to seen imports) at name h = id_sure at (value_at name seen) (h name)
resource_sure (closed_to names) at name h = tt

output_sure : (at : List ℕ) (o : Option OutputSight) → IsTold o → IsSure (on_got (or_fault UnknownAttribute at o) (output_found at))
output_sure at None h = tt
output_sure at (Some output.NotMade) h = tt
output_sure at (Some (output.Made (Some v))) h = tt
output_sure at (Some (output.Made None)) h = absurd h
output_sure at (Some (output.Broken why stack place)) h = tt

told_at : (name : List ℕ) (os : List (List ℕ × OutputSight)) → AllTold os → IsTold (value_at name os)
told_at name [] h = tt
told_at name (o ∷ os) h = either (bytes_eq name o.0) (told_at name os h.1) where
  either : (b : Bool) → IsTold (value_at name os) → IsTold (cond b (Some o.1) (value_at name os))
  either true ih = h.0
  either false ih = ih

attribute_of_sure : (at name : List ℕ) (o : Option Sight) → IsFull o → IsSure (on_got (or_fault UnknownName at o) (λ s. attribute_found at s name))
attribute_of_sure at name None h = tt
attribute_of_sure at name (Some sight.NotMade) h = tt
attribute_of_sure at name (Some (sight.Made (Some p) (Some a))) h = on_got_sure (or_fault UnknownAttribute at (value_at name a)) known (or_fault_sure UnknownAttribute at (value_at name a)) (λ d. tt)
attribute_of_sure at name (Some (sight.Made (Some p) None)) h = absurd h
attribute_of_sure at name (Some (sight.Made None a)) h = absurd h
attribute_of_sure at name (Some (sight.Nested i outs)) h = output_sure at (value_at name outs) (told_at name outs h)

attribute_sure : (b : Beyond) (at id name : List ℕ) → AreFull b → IsSure (attribute_in b at id name)
attribute_sure (open_to seen imports) at id name h = attribute_of_sure at name (value_at id seen) (h id)
attribute_sure (closed_to names) at id name h = tt

value_or : (o : Option Data) (x : Found) → IsSure x → IsSure (unwrap_or (option_map known o) x)
value_or None x s = s
value_or (Some d) x s = tt

setting_or : (o : Option (Option Data)) (x : Found) → (o ≡ Some None → ⊥) → IsSure x → IsSure (unwrap_or (option_map setting_found o) x)
setting_or None x n s = s
setting_or (Some (Some d)) x n s = tt
setting_or (Some None) x n s = absurd (n refl)

pseudo_sure : (s : Scope) (at name : List ℕ) → IsKnown s → IsSure (pseudo_ref s at name)
pseudo_sure s at name k =
    cond_sure (bytes_eq (codes "AWS::NoValue") name) (got None) (unwrap_or (option_map known (value_at name s.pseudo)) (resource_ref s.beyond at name)) tt (value_or (value_at name s.pseudo) (resource_ref s.beyond at name) (resource_sure s.beyond at name k.beyond))

ref_sure : (s : Scope) (at name : List ℕ) → IsKnown s → IsSure (ref_found s at name)
ref_sure s at name k = setting_or (s.params name) (pseudo_ref s at name) (k.params name) (pseudo_sure s at name k)

get_att_sure : (s : Scope) (at id : List ℕ) (x : Found) → IsKnown s → IsSure x → IsSure (get_att_found s at id x)
get_att_sure s at id x k h = on_got_sure (as_text at x) (attribute_in s.beyond at id) (as_text_sure at x h) (λ name. attribute_sure s.beyond at id name k.beyond)

cut_sure : (s : Scope) (at name : List ℕ) (c : Option (List ℕ × List ℕ)) → IsKnown s → IsSure (cut_found s at name c)
cut_sure s at name None k = ref_sure s at name k
cut_sure s at name (Some c) k = attribute_sure s.beyond at c.0 c.1 k.beyond

chosen_sure : (b : Bool) (x : Found) (o : Option Found) (y : Found) → IsSure x → IsSure (unwrap_or o y) → IsSure (unwrap_or (cond b (Some x) o) y)
chosen_sure true x o y s t = s
chosen_sure false x o y s t = t

own_sure : (name : List ℕ) (own : List (List ℕ × Found)) (y : Found) → AreSure (outcomes own) → IsSure y → IsSure (unwrap_or (value_at name own) y)
own_sure name [] y h t = t
own_sure name (m ∷ ms) y h t = chosen_sure (bytes_eq name m.0) m.1 (value_at name ms) y h.0 (own_sure name ms y h.1 t)

piece_sure : (s : Scope) (at : List ℕ) (own : List (List ℕ × Found)) (p : Part) → IsKnown s → AreSure (outcomes own) → IsSure (piece_found s at own p)
piece_sure s at own (Plain t) k h = tt
piece_sure s at own (Name name) k h = own_sure name own (name_found s at name) h (cut_sure s at name (cut_at (codes ".") name) k)

together_sure : (at : List ℕ) (pieces : List (Option Data)) → IsSure (put_together at pieces)
together_sure at pieces = on_got_sure (each (map (wanted_text at) pieces)) _ (each_sure (map (wanted_text at) pieces) (map_sure (wanted_text at) pieces (text_sure at))) (λ ts. tt)

sub_sure : (s : Scope) (at : List ℕ) (own : List (List ℕ × Found)) (parts : List Part) → IsKnown s → AreSure (outcomes own) → IsSure (sub_found s at own parts)
sub_sure s at own parts k h =
    both_sure (each (outcomes own)) (each (map (piece_found s at own) parts)) (λ _ pieces. put_together at pieces) (each_sure (outcomes own) h) (each_sure (map (piece_found s at own) parts) (map_sure (piece_found s at own) parts (λ p. piece_sure s at own p k h))) (λ _ pieces. together_sure at pieces)

join_sure : (at d : List ℕ) (x : Found) → IsSure x → IsSure (join_found at d x)
join_sure at d x s =
    on_got_sure (as_list at x) _ (as_list_sure at x s) (λ ds. on_got_sure (each (map (λ (m : Data). wanted_text at (Some m)) ds)) _ (each_sure (map (λ (m : Data). wanted_text at (Some m)) ds) (map_sure (λ (m : Data). wanted_text at (Some m)) ds (λ m. text_sure at (Some m)))) (λ ts. tt))

split_at_sure : (at d t : List ℕ) → IsSure (split_at at d t)
split_at_sure at [] t = tt
split_at_sure at (b ∷ bs) t = tt

split_sure : (at d : List ℕ) (x : Found) → IsSure x → IsSure (split_found at d x)
split_sure at d x s = on_got_sure (as_text at x) (split_at at d) (as_text_sure at x s) (split_at_sure at d)

nth_sure : (at : List ℕ) (ds : List Data) (n : ℤ) → IsSure (nth at ds n)
nth_sure at ds (pos n) = on_got_sure (or_fault _ at _) known (or_fault_sure _ at _) (λ d. tt)
nth_sure at ds (negsuc n) = tt

select_sure : (at : List ℕ) (x y : Found) → IsSure x → IsSure y → IsSure (select_found at x y)
select_sure at x y s t =
    both_sure x y (λ i l. on_got (wanted_index at i) (λ n. on_got (wanted_list at l) (λ ds. nth at ds n))) s t (λ i l. on_got_sure (wanted_index at i) _ (index_sure at i) (λ n. on_got_sure (wanted_list at l) (λ ds. nth at ds n) (list_sure at l) (λ ds. nth_sure at ds n)))

second_sure : (at second : List ℕ) (vs : List (List ℕ × Data)) → IsSure (under_second at second vs)
second_sure at second vs = on_got_sure (or_fault _ at (value_at second vs)) known (or_fault_sure _ at (value_at second vs)) (λ d. tt)

key_sure : (at first second : List ℕ) (ks : List (List ℕ × List (List ℕ × Data))) → IsSure (under_key at first second ks)
key_sure at first second ks = on_got_sure (or_fault _ at (value_at first ks)) (under_second at second) (or_fault_sure _ at (value_at first ks)) (second_sure at second)

mapped_sure : (s : Scope) (at name first second : List ℕ) → IsSure (value_in_mapping s at name first second)
mapped_sure s at name first second = on_got_sure (or_fault _ at (s.mapping name)) (under_key at first second) (or_fault_sure _ at (s.mapping name)) (key_sure at first second)

find_sure : (s : Scope) (at : List ℕ) (x y z : Found) → IsSure x → IsSure y → IsSure z → IsSure (find_found s at x y z)
find_sure s at x y z t u v =
    both_sure (both x y paired) z _ (both_sure x y paired t u (λ a b. tt)) v (λ p l. on_got_sure (wanted_text at p.0) _ (text_sure at p.0) (λ name. on_got_sure (wanted_text at p.1) _ (text_sure at p.1) (λ first. on_got_sure (wanted_text at l) _ (text_sure at l) (λ second. mapped_sure s at name first second))))

if_sure : (x : Outcome Bool) (y z : Found) → IsSure x → IsSure y → IsSure z → IsSure (if_found x y z)
if_sure x y z s t u = on_got_sure x _ s (λ b. cond_sure b y z t u)

imported_sure : (b : Beyond) (at name : List ℕ) → IsSure (imported b at name)
imported_sure (open_to seen imports) at name = on_got_sure (or_fault _ at (value_at name imports)) _ (or_fault_sure _ at (value_at name imports)) (λ t. tt)
imported_sure (closed_to names) at name = tt

import_sure : (s : Scope) (at : List ℕ) (x : Found) → IsSure (import_found s at x)
import_sure s at (got name) = on_got_sure (wanted_text at name) (imported s.beyond at) (text_sure at name) (imported_sure s.beyond at)
import_sure s at later = tt
import_sure s at (bad w) = tt

base64_sure : (at : List ℕ) (x : Found) → IsSure x → IsSure (base64_found at x)
base64_sure at x s = on_got_sure (as_text at x) _ (as_text_sure at x s) (λ t. tt)

named_sure : (ms : List (List ℕ × Found)) → AreSure (outcomes ms) → AreSure (map named ms)
named_sure [] h = tt
named_sure (m ∷ ms) h = (on_got_sure m.1 (λ o. got (m.0, o)) h.0 (λ o. tt), named_sure ms h.1)

pairs_sure : (ms : List (List ℕ × Found)) → AreSure (outcomes ms) → IsSure (pairs_found ms)
pairs_sure ms h = on_got_sure (each (map named ms)) _ (each_sure (map named ms) (named_sure ms h)) (λ ps. tt)

dict_sure : (ms : List (List ℕ × Found)) → AreSure (outcomes ms) → IsSure (dict_found ms)
dict_sure ms h = on_got_sure (pairs_found ms) _ (pairs_sure ms h) (λ ps. tt)

mutual
  pub form_sure : (s : Scope) (around : Option (List ℕ)) (e : Form) → IsKnown s → IsSure (form_found s around e)
  form_sure s around (expr at n) k = within_sure (blamed around at n) (node_found s around at n) (node_sure s around at n k)

  node_sure : (s : Scope) (around : Option (List ℕ)) (at : List ℕ) (n : Node) → IsKnown s → IsSure (node_found s around at n)
  node_sure s around at (lit d) k = tt
  node_sure s around at (node.list es) k = on_got_sure (each (forms_found s around es)) _ (each_sure (forms_found s around es) (forms_sure s around es k)) (λ os. tt)
  node_sure s around at (node.dict ps) k = dict_sure (fields_found s around ps) (fields_sure s around ps k)
  node_sure s around at (ref name) k = ref_sure s at name k
  node_sure s around at (get_att id a) k = get_att_sure s at id (form_found s (Some at) a) k (form_sure s (Some at) a k)
  node_sure s around at (sub parts own) k = sub_sure s at (fields_found s (Some at) own) parts k (fields_sure s (Some at) own k)
  node_sure s around at (join d e) k = join_sure at d (form_found s (Some at) e) (form_sure s (Some at) e k)
  node_sure s around at (select i e) k = select_sure at (form_found s (Some at) i) (form_found s (Some at) e) (form_sure s (Some at) i k) (form_sure s (Some at) e k)
  node_sure s around at (split d e) k = split_sure at d (form_found s (Some at) e) (form_sure s (Some at) e k)
  node_sure s around at (choice name y n) k = if_sure (s.decided at name) (form_found s (Some at) y) (form_found s (Some at) n) (k.decided at name) (form_sure s (Some at) y k) (form_sure s (Some at) n k)
  node_sure s around at (find_in_map m i l) k = find_sure s at (form_found s (Some at) m) (form_found s (Some at) i) (form_found s (Some at) l) (form_sure s (Some at) m k) (form_sure s (Some at) i k) (form_sure s (Some at) l k)
  node_sure s around at (import_value e) k = import_sure s at (form_found s (Some at) e)
  node_sure s around at (base64 e) k = base64_sure at (form_found s (Some at) e) (form_sure s (Some at) e k)

  forms_sure : (s : Scope) (around : Option (List ℕ)) (es : Forms) → IsKnown s → AreSure (forms_found s around es)
  forms_sure s around no_forms k = tt
  forms_sure s around (form e es) k = (form_sure s around e k, forms_sure s around es k)

  fields_sure : (s : Scope) (around : Option (List ℕ)) (ps : Fields) → IsKnown s → AreSure (outcomes (fields_found s around ps))
  fields_sure s around no_fields k = tt
  fields_sure s around (field name e ps) k = (form_sure s around e k, fields_sure s around ps k)

pub undeclared_sure : {A : Type 0} (x : Outcome A) → IsSure x → IsSure (undeclared_at_fault x)
undeclared_sure (got a) s = tt
undeclared_sure later s = s
undeclared_sure (bad (fault why at)) s = tt
undeclared_sure (bad (undecided name at)) s = tt
undeclared_sure (bad (below why stack at)) s = tt
