-- An evaluation over the conditions that are decided agrees with one over all: it gives the same, or asks for a condition; and if that one has a fault, the whole has it.
use Rattle.std.proofs.Common.{◌≡◌, ℕ, ℤ, pos, negsuc, List, [], ◌∷◌, Bool, true, false, not, Option, Some, None, map, refl, sym, ap, subst, ◌∙◌}
use Rattle.std.specs.Prelude.{⊤, cond, unwrap_or, option_map, codes, slice_get, nat_lt}
use Rattle.std.specs.Str.{bytes_eq}
use Rattle.cf_funcs.specs.Pieces.{cut_at}
use Rattle.cf_tree.specs.Datum.{Data, text}
use Rattle.cf_tree.specs.SizeOf.{size_of}
use Rattle.cf_tree.specs.Forms.{Form, Node, Forms, Fields, expr, lit, ref, get_att, sub, join, select, split, choice, find_in_map, import_value, base64, no_forms, form, no_fields, field}
use Rattle.cf_tree.specs.Forms as node
use Rattle.cf_tree.specs.Keys.{value_at}
use Rattle.cf_tree.specs.Tests.{Test, TestNode, Tests, equals, negation, all_of, any_of, named, no_tests, test}
use Rattle.cf_tree.specs.Tests as tests
use Rattle.cf_tree.specs.declared.parts.Part.{Part}
use Rattle.cf_tree.specs.declared.parts.Part.TheVariants.{Plain, Name}
use Rattle.cf_eval.specs.declared.env.Sight.{Sight}
use Rattle.cf_eval.specs.declared.env.Sight.TheVariants as sight
use Rattle.cf_eval.specs.declared.env.OutputSight.{OutputSight}
use Rattle.cf_eval.specs.declared.env.OutputSight.TheVariants as output
use Rattle.cf_eval.specs.declared.fault.EvalWhy.{EvalWhy}
use Rattle.cf_eval.specs.declared.fault.EvalWhy.TheVariants.{UnknownName, UnknownAttribute, WrongKind, TooBig}
use Rattle.cf_eval.specs.Outcome.{Outcome, Stop, fault, below, undecided, got, later, bad, on_got, after_later, both, each, or_wrong}
use Rattle.cf_eval.specs.Scope.{Scope, Beyond, open_to, closed_to}
use Rattle.cf_eval.specs.Texts.{Found, known, within, as_text, as_list, wanted_text, wanted_list, wanted_index, most_bytes}
use Rattle.cf_eval.specs.Functions.{or_fault, or_later, text_value, id_of, resource_ref, setting_found, pseudo_ref, ref_found, output_found, attribute_found, attribute_in, cut_found, name_found, piece_found, put_together, outcomes, sub_found, nth, value_in_mapping, under_key, under_second, paired, find_found, imported, import_found, split_at}
use Rattle.cf_eval.specs.Value.{form_found, node_found, forms_found, fields_found, blamed}
use Rattle.cf_eval.specs.Value as values
use Rattle.cf_eval.specs.Conditions.{decided_by, test_found, test_node_found, tests_found, equal_values}

module _ (P : List ℕ → List ℕ → Type 0) where
  -- each condition that is asked for, at its place, is one that P allows
  abbrev pub Asks : {A : Type 0} → Outcome A → Type 0
  Asks (got a) = ⊤
  Asks later = ⊤
  Asks (bad (fault why at)) = ⊤
  Asks (bad (below why stack at)) = ⊤
  Asks (bad (undecided name at)) = P at name

  asks_on : {A B : Type 0} (x : Outcome A) (f : A → Outcome B) → Asks x → ((a : A) → Asks (f a)) → Asks (on_got x f)
  asks_on (got a) f h k = k a
  asks_on later f h k = tt
  asks_on (bad (fault why at)) f h k = tt
  asks_on (bad (below why stack at)) f h k = tt
  asks_on (bad (undecided name at)) f h k = h

  asks_wrong : {A : Type 0} (at : List ℕ) (o : Option A) → Asks (or_wrong at o)
  asks_wrong at (Some a) = tt
  asks_wrong at None = tt

  asks_fault : {A : Type 0} (why : EvalWhy) (at : List ℕ) (o : Option A) → Asks (or_fault why at o)
  asks_fault why at (Some a) = tt
  asks_fault why at None = tt

  asks_later : {A : Type 0} (o : Option A) → Asks (or_later o)
  asks_later (Some a) = tt
  asks_later None = tt

  asks_text : (at : List ℕ) (o : Option Data) → Asks (wanted_text at o)
  asks_text at None = tt
  asks_text at (Some d) = asks_wrong at _

  asks_list : (at : List ℕ) (o : Option Data) → Asks (wanted_list at o)
  asks_list at None = tt
  asks_list at (Some d) = asks_wrong at _

  asks_index : (at : List ℕ) (o : Option Data) → Asks (wanted_index at o)
  asks_index at None = tt
  asks_index at (Some d) = asks_wrong at _

  asks_both : {A B C : Type 0} (x : Outcome A) (y : Outcome B) (f : A → B → Outcome C) → Asks x → Asks y → ((a : A) (c : B) → Asks (f a c)) → Asks (both x y f)
  asks_both (got a) y f h k l = asks_on y (f a) k (l a)
  asks_both later (got c) f h k l = tt
  asks_both later later f h k l = tt
  asks_both later (bad (fault why at)) f h k l = tt
  asks_both later (bad (below why stack at)) f h k l = tt
  asks_both later (bad (undecided name at)) f h k l = k
  asks_both (bad (fault why at)) y f h k l = tt
  asks_both (bad (below why stack at)) y f h k l = tt
  asks_both (bad (undecided name at)) y f h k l = h

  asks_texts : (at : List ℕ) (os : List (Option Data)) → Asks (each (map (wanted_text at) os))
  asks_texts at [] = tt
  asks_texts at (o ∷ os) = asks_both (wanted_text at o) (each (map (wanted_text at) os)) _ (asks_text at o) (asks_texts at os) (λ a c. tt)

  asks_members : (at : List ℕ) (ds : List Data) → Asks (each (map (λ m. wanted_text at (Some m)) ds))
  asks_members at [] = tt
  asks_members at (d ∷ ds) = asks_both (wanted_text at (Some d)) (each (map (λ m. wanted_text at (Some m)) ds)) _ (asks_text at (Some d)) (asks_members at ds) (λ a c. tt)

  asks_id : (at : List ℕ) (s : Sight) → Asks (id_of at s)
  asks_id at sight.NotMade = tt
  asks_id at (sight.Made p a) = asks_on (or_later p) text_value (asks_later p) (λ t. tt)
  asks_id at (sight.Nested i o) = tt

  asks_resource : (m : Beyond) (at name : List ℕ) → Asks (resource_ref m at name)
  asks_resource (open_to seen imports) at name = asks_on (or_fault UnknownName at (value_at name seen)) (id_of at) (asks_fault UnknownName at _) (asks_id at)
  asks_resource (closed_to names) at name = tt

  asks_pseudo : (c : Bool) (o : Option Data) (x : Found) → Asks x → Asks (cond c (got None) (unwrap_or (option_map known o) x))
  asks_pseudo true o x h = tt
  asks_pseudo false (Some d) x h = tt
  asks_pseudo false None x h = h

  asks_setting : (p : Option (Option Data)) (x : Found) → Asks x → Asks (unwrap_or (option_map setting_found p) x)
  asks_setting None x h = h
  asks_setting (Some None) x h = tt
  asks_setting (Some (Some d)) x h = tt

  asks_ref : (s : Scope) (at name : List ℕ) → Asks (ref_found s at name)
  asks_ref s at name = asks_setting (s.params name) _ (asks_pseudo (bytes_eq (codes "AWS::NoValue") name) (value_at name s.pseudo) _ (asks_resource s.beyond at name))

  asks_output : (at : List ℕ) (o : OutputSight) → Asks (output_found at o)
  asks_output at output.NotMade = tt
  asks_output at (output.Made v) = asks_on (or_later v) text_value (asks_later v) (λ t. tt)
  asks_output at (output.Broken why stack place) = tt

  asks_attribute : (at : List ℕ) (s : Sight) (name : List ℕ) → Asks (attribute_found at s name)
  asks_attribute at sight.NotMade name = tt
  asks_attribute at (sight.Made p a) name =
      asks_on (or_later a) _ (asks_later a) (λ all. asks_on (or_fault UnknownAttribute at (value_at name all)) known (asks_fault UnknownAttribute at _) (λ d. tt))
  asks_attribute at (sight.Nested i o) name = asks_on (or_fault UnknownAttribute at (value_at name o)) (output_found at) (asks_fault UnknownAttribute at _) (asks_output at)

  asks_attribute_in : (m : Beyond) (at id name : List ℕ) → Asks (attribute_in m at id name)
  asks_attribute_in (open_to seen imports) at id name =
      asks_on (or_fault UnknownName at (value_at id seen)) _ (asks_fault UnknownName at _) (λ s. asks_attribute at s name)
  asks_attribute_in (closed_to names) at id name = tt

  asks_cut : (s : Scope) (at name : List ℕ) (o : Option (List ℕ × List ℕ)) → Asks (cut_found s at name o)
  asks_cut s at name None = asks_ref s at name
  asks_cut s at name (Some c) = asks_attribute_in s.beyond at c.0 c.1

  asks_mapped : (s : Scope) (at name first second : List ℕ) → Asks (value_in_mapping s at name first second)
  asks_mapped s at name first second =
      asks_on (or_fault UnknownName at (s.mapping name)) _ (asks_fault UnknownName at _) (λ keys.
      asks_on (or_fault _ at (value_at first keys)) _ (asks_fault _ at _) (λ values.
      asks_on (or_fault _ at (value_at second values)) known (asks_fault _ at _) (λ d. tt)))

  asks_imported : (m : Beyond) (at name : List ℕ) → Asks (imported m at name)
  asks_imported (open_to seen imports) at name = asks_on (or_fault _ at (value_at name imports)) text_value (asks_fault _ at _) (λ t. tt)
  asks_imported (closed_to names) at name = tt

  asks_nth : (at : List ℕ) (ds : List Data) (n : ℤ) → Asks (nth at ds n)
  asks_nth at ds (pos n) = asks_on (or_fault _ at (slice_get ds n)) known (asks_fault _ at _) (λ d. tt)
  asks_nth at ds (negsuc n) = tt

  asks_split : (at d t : List ℕ) → Asks (split_at at d t)
  asks_split at [] t = tt
  asks_split at (b ∷ bs) t = tt

  asks_limit : (at : List ℕ) (d : Data) (c : Bool) → Asks {A = Option Data} (cond c (bad (fault TooBig at)) (known d))
  asks_limit at d true = tt
  asks_limit at d false = tt

  asks_within : (at : List ℕ) (o : Option Data) → Asks (within at (got o))
  asks_within at None = tt
  asks_within at (Some d) = asks_limit at d (nat_lt most_bytes (size_of d))

  asks_limited : (at : List ℕ) (x : Found) → Asks x → Asks (within at x)
  asks_limited at (got o) h = asks_within at o
  asks_limited at later h = tt
  asks_limited at (bad (fault why place)) h = tt
  asks_limited at (bad (below why stack place)) h = tt
  asks_limited at (bad (undecided name place)) h = h

  abbrev AllAsk : {A : Type 0} → List (Outcome A) → Type 0
  AllAsk [] = ⊤
  AllAsk (x ∷ xs) = Asks x × AllAsk xs

  asks_each : {A : Type 0} (xs : List (Outcome A)) → AllAsk xs → Asks (each xs)
  asks_each [] h = tt
  asks_each (x ∷ xs) h = asks_both x (each xs) _ h.0 (asks_each xs h.1) (λ a c. tt)

  asks_named : (fs : List (List ℕ × Found)) → AllAsk (outcomes fs) → AllAsk (map values.named fs)
  asks_named [] h = tt
  asks_named (p ∷ ps) h = (asks_on p.1 _ h.0 (λ o. tt), asks_named ps h.1)

  asks_own_by : (c : Bool) (x : Found) (p : Option Found) (y : Found) → Asks x → Asks (unwrap_or p y) → Asks (unwrap_or (cond c (Some x) p) y)
  asks_own_by true x p y h k = h
  asks_own_by false x p y h k = k

  asks_own : (name : List ℕ) (fs : List (List ℕ × Found)) (y : Found) → AllAsk (outcomes fs) → Asks y → Asks (unwrap_or (value_at name fs) y)
  asks_own name [] y h k = k
  asks_own name (p ∷ ps) y h k = asks_own_by (bytes_eq name p.0) p.1 (value_at name ps) y h.0 (asks_own name ps y h.1 k)

  asks_taken : (c : Bool) (x y : Found) → Asks x → Asks y → Asks (cond c x y)
  asks_taken true x y h k = h
  asks_taken false x y h k = k

  module _ (s : Scope) (decides : (at name : List ℕ) → Asks (s.decided at name)) where
    asks_pieces : (at : List ℕ) (own : List (List ℕ × Found)) → AllAsk (outcomes own) → (ps : List Part) → AllAsk (map (piece_found s at own) ps)
    asks_pieces at own h [] = tt
    asks_pieces at own h (Plain t ∷ ps) = (tt, asks_pieces at own h ps)
    asks_pieces at own h (Name name ∷ ps) = (asks_own name own _ h (asks_cut s at name (cut_at (codes ".") name)), asks_pieces at own h ps)

    asks_import : (at : List ℕ) (x : Found) → Asks x → Asks (import_found s at x)
    asks_import at (got v) h = asks_on (wanted_text at v) _ (asks_text at v) (asks_imported s.beyond at)
    asks_import at later h = tt
    asks_import at (bad (fault why place)) h = tt
    asks_import at (bad (below why stack place)) h = tt
    asks_import at (bad (undecided name place)) h = h

    mutual
      asks_form : (around : Option (List ℕ)) (e : Form) → Asks (form_found s around e)
      asks_form around (expr at n) = asks_limited (blamed around at n) _ (asks_node around at n)

      asks_node : (around : Option (List ℕ)) (at : List ℕ) (n : Node) → Asks (node_found s around at n)
      asks_node around at (lit d) = tt
      asks_node around at (node.list es) = asks_on _ _ (asks_each _ (asks_forms around es)) (λ os. tt)
      asks_node around at (node.dict ps) = asks_on _ _ (asks_on _ _ (asks_each _ (asks_named _ (asks_fields around ps))) (λ os. tt)) (λ ms. tt)
      asks_node around at (ref name) = asks_ref s at name
      asks_node around at (get_att id x) = asks_on _ _ (asks_on _ _ (asks_form (Some at) x) (asks_text at)) (λ name. asks_attribute_in s.beyond at id name)
      asks_node around at (sub parts own) =
          asks_both _ _ _ (asks_each _ (asks_fields (Some at) own)) (asks_each _ (asks_pieces at _ (asks_fields (Some at) own) parts)) (λ os pieces.
          asks_on (each (map (wanted_text at) pieces)) _ (asks_texts at pieces) (λ ts. tt))
      asks_node around at (join d e) = asks_on _ _ (asks_on _ _ (asks_form (Some at) e) (asks_list at)) (λ ds. asks_on (each (map (λ m. wanted_text at (Some m)) ds)) _ (asks_members at ds) (λ ts. tt))
      asks_node around at (select i e) =
          asks_both _ _ _ (asks_form (Some at) i) (asks_form (Some at) e) (λ v l. asks_on (wanted_index at v) _ (asks_index at v) (λ n. asks_on (wanted_list at l) _ (asks_list at l) (λ ds. asks_nth at ds n)))
      asks_node around at (split d e) = asks_on _ _ (asks_on _ _ (asks_form (Some at) e) (asks_text at)) (λ x. asks_split at d x)
      asks_node around at (choice name y n) = asks_on _ _ (decides at name) (λ c. asks_taken c _ _ (asks_form (Some at) y) (asks_form (Some at) n))
      asks_node around at (find_in_map m k l) =
          asks_both _ _ _ (asks_both _ _ paired (asks_form (Some at) m) (asks_form (Some at) k) (λ a c. tt)) (asks_form (Some at) l) (λ p o.
          asks_on (wanted_text at p.0) _ (asks_text at p.0) (λ name.
          asks_on (wanted_text at p.1) _ (asks_text at p.1) (λ first.
          asks_on (wanted_text at o) _ (asks_text at o) (λ second. asks_mapped s at name first second))))
      asks_node around at (import_value e) = asks_import at _ (asks_form (Some at) e)
      asks_node around at (base64 e) = asks_on _ _ (asks_on _ _ (asks_form (Some at) e) (asks_text at)) (λ x. tt)

      asks_forms : (around : Option (List ℕ)) (es : Forms) → AllAsk (forms_found s around es)
      asks_forms around no_forms = tt
      asks_forms around (form e es) = (asks_form around e, asks_forms around es)

      asks_fields : (around : Option (List ℕ)) (ps : Fields) → AllAsk (outcomes (fields_found s around ps))
      asks_fields around no_fields = tt
      asks_fields around (field name e ps) = (asks_form around e, asks_fields around ps)

    mutual
      pub asks_test : (around : Option (List ℕ)) (c : Test) → Asks (test_found s around c)
      asks_test around (tests.cond at n) = asks_test_node around at n

      asks_test_node : (around : Option (List ℕ)) (at : List ℕ) (n : TestNode) → Asks (test_node_found s around at n)
      asks_test_node around at (equals a b) = asks_both _ _ _ (asks_form (Some at) a) (asks_form (Some at) b) (λ v w. asks_wrong at (equal_values v w))
      asks_test_node around at (negation c) = asks_on _ _ (asks_test (Some at) c) (λ b. tt)
      asks_test_node around at (all_of cs) = asks_on _ _ (asks_each _ (asks_tests (Some at) cs)) (λ bs. tt)
      asks_test_node around at (any_of cs) = asks_on _ _ (asks_each _ (asks_tests (Some at) cs)) (λ bs. tt)
      asks_test_node around at (named name) = decides (unwrap_or around at) name

      asks_tests : (around : Option (List ℕ)) (cs : Tests) → AllAsk (tests_found s around cs)
      asks_tests around no_tests = tt
      asks_tests around (test c cs) = (asks_test around c, asks_tests around cs)

-- no condition is asked for
abbrev nobody : List ℕ → List ℕ → Type 0
nobody at name = ⊥

-- g is what each condition comes to, asked for at a place
module _ (g : List ℕ → List ℕ → Outcome Bool) where
  abbrev pub Agrees : {A : Type 0} → Outcome A → Outcome A → Type 0
  Agrees (got a) y = y ≡ got a
  Agrees later y = y ≡ later
  Agrees (bad (fault why at)) y = y ≡ bad (fault why at)
  Agrees (bad (below why stack at)) y = y ≡ bad (below why stack at)
  Agrees (bad (undecided name at)) y = (w : Stop) → g at name ≡ bad w → y ≡ bad w

  itself : {A : Type 0} (x : Outcome A) → Asks nobody x → Agrees x x
  itself (got a) h = refl
  itself later h = refl
  itself (bad (fault why at)) h = refl
  itself (bad (below why stack at)) h = refl
  itself (bad (undecided name at)) h = absurd h

  agree_on : {A B : Type 0} (x y : Outcome A) (f h : A → Outcome B) → Agrees x y → ((a : A) → Agrees (f a) (h a)) → Agrees (on_got x f) (on_got y h)
  agree_on (got a) y f h e k = subst (λ z. Agrees (f a) (on_got z h)) (sym e) (k a)
  agree_on later y f h e k = ap (λ z. on_got z h) e
  agree_on (bad (fault why at)) y f h e k = ap (λ z. on_got z h) e
  agree_on (bad (below why stack at)) y f h e k = ap (λ z. on_got z h) e
  agree_on (bad (undecided name at)) y f h e k = λ w i. ap (λ z. on_got z h) (e w i)

  agree_late : {A : Type 0} (B : Type 0) (x y : Outcome A) → Agrees x y → Agrees {A = B} (after_later x) (after_later y)
  agree_late B (got a) y e = ap after_later e
  agree_late B later y e = ap after_later e
  agree_late B (bad (fault why at)) y e = ap after_later e
  agree_late B (bad (below why stack at)) y e = ap after_later e
  agree_late B (bad (undecided name at)) y e = λ w i. ap after_later (e w i)

  agree_both : {A B C : Type 0} (x u : Outcome A) (y v : Outcome B) (f h : A → B → Outcome C) → Agrees x u → Agrees y v → ((a : A) (c : B) → Agrees (f a c) (h a c)) → Agrees (both x y f) (both u v h)
  agree_both (got a) u y v f h e i k = subst (λ z. Agrees (on_got y (f a)) (both z v h)) (sym e) (agree_on y v (f a) (h a) i (k a))
  agree_both later u y v f h e i k = subst (λ z. Agrees (after_later y) (both z v h)) (sym e) (agree_late _ y v i)
  agree_both (bad (fault why at)) u y v f h e i k = ap (λ z. both z v h) e
  agree_both (bad (below why stack at)) u y v f h e i k = ap (λ z. both z v h) e
  agree_both (bad (undecided name at)) u y v f h e i k = λ w j. ap (λ z. both z v h) (e w j)

  abbrev AgreeAll : {A : Type 0} → List (Outcome A) → List (Outcome A) → Type 0
  AgreeAll [] [] = ⊤
  AgreeAll (x ∷ xs) (y ∷ ys) = Agrees x y × AgreeAll xs ys
  AgreeAll _ _ = ⊥

  agree_each : {A : Type 0} (xs ys : List (Outcome A)) → AgreeAll xs ys → Agrees (each xs) (each ys)
  agree_each [] [] h = refl
  agree_each (x ∷ xs) (y ∷ ys) h = agree_both x y (each xs) (each ys) _ _ h.0 (agree_each xs ys h.1) (λ a c. refl)
  agree_each _ _ h = absurd h

  agree_within : (at : List ℕ) (x y : Found) → Agrees x y → Agrees (within at x) (within at y)
  agree_within at (got o) y e = subst (λ z. Agrees (within at (got o)) (within at z)) (sym e) (itself (within at (got o)) (asks_within nobody at o))
  agree_within at later y e = ap (within at) e
  agree_within at (bad (fault why place)) y e = ap (within at) e
  agree_within at (bad (below why stack place)) y e = ap (within at) e
  agree_within at (bad (undecided name place)) y e = λ w i. ap (within at) (e w i)

  abbrev AgreeNamed : List (List ℕ × Found) → List (List ℕ × Found) → Type 0
  AgreeNamed [] [] = ⊤
  AgreeNamed (p ∷ ps) (q ∷ qs) = (q.0 ≡ p.0) × (Agrees p.1 q.1 × AgreeNamed ps qs)
  AgreeNamed _ _ = ⊥

  outcomes_agree : (fs hs : List (List ℕ × Found)) → AgreeNamed fs hs → AgreeAll (outcomes fs) (outcomes hs)
  outcomes_agree [] [] h = tt
  outcomes_agree (p ∷ ps) (q ∷ qs) h = (h.1.0, outcomes_agree ps qs h.1.1)
  outcomes_agree _ _ h = absurd h

  named_agree : (fs hs : List (List ℕ × Found)) → AgreeNamed fs hs → AgreeAll (map values.named fs) (map values.named hs)
  named_agree [] [] h = tt
  named_agree (p ∷ ps) (q ∷ qs) h =
      (subst (λ n. Agrees (values.named p) (values.named (n, q.1))) (sym h.0) (agree_on p.1 q.1 (λ o. got (p.0, o)) (λ o. got (p.0, o)) h.1.0 (λ o. refl)), named_agree ps qs h.1.1)
  named_agree _ _ h = absurd h

  by_test : (c : Bool) (x u : Found) (p q : Option Found) (y z : Found) → Agrees x u → Agrees (unwrap_or p y) (unwrap_or q z) → Agrees (unwrap_or (cond c (Some x) p) y) (unwrap_or (cond c (Some u) q) z)
  by_test true x u p q y z h k = h
  by_test false x u p q y z h k = k

  own_agrees : (name : List ℕ) (fs hs : List (List ℕ × Found)) (y z : Found) → AgreeNamed fs hs → Agrees y z → Agrees (unwrap_or (value_at name fs) y) (unwrap_or (value_at name hs) z)
  own_agrees name [] [] y z h k = k
  own_agrees name (p ∷ ps) (q ∷ qs) y z h k =
      subst (λ n. Agrees (unwrap_or (value_at name (p ∷ ps)) y) (unwrap_or (cond (bytes_eq name n) (Some q.1) (value_at name qs)) z)) (sym h.0)
      (by_test (bytes_eq name p.0) p.1 q.1 (value_at name ps) (value_at name qs) y z h.1.0 (own_agrees name ps qs y z h.1.1 k))
  own_agrees name _ _ y z h k = absurd h

  taken : (c : Bool) (x y u v : Found) → Agrees x u → Agrees y v → Agrees (cond c x y) (cond c u v)
  taken true x y u v h k = h
  taken false x y u v h k = k

  module _ (f : List ℕ → List ℕ → Outcome Bool) (o : Scope) (decides : (at name : List ℕ) → Agrees (f at name) (g at name)) where
    piece_agrees : (at : List ℕ) (own more : List (List ℕ × Found)) → AgreeNamed own more → (p : Part) → Agrees (piece_found (decided_by f o) at own p) (piece_found (decided_by g o) at more p)
    piece_agrees at own more h (Plain t) = refl
    piece_agrees at own more h (Name name) = own_agrees name own more _ _ h (itself (name_found (decided_by f o) at name) (asks_cut nobody (decided_by f o) at name (cut_at (codes ".") name)))

    pieces_agree : (at : List ℕ) (own more : List (List ℕ × Found)) → AgreeNamed own more → (ps : List Part) → AgreeAll (map (piece_found (decided_by f o) at own) ps) (map (piece_found (decided_by g o) at more) ps)
    pieces_agree at own more h [] = tt
    pieces_agree at own more h (p ∷ ps) = (piece_agrees at own more h p, pieces_agree at own more h ps)

    sub_agrees : (at : List ℕ) (own more : List (List ℕ × Found)) (ps : List Part) → AgreeNamed own more → Agrees (sub_found (decided_by f o) at own ps) (sub_found (decided_by g o) at more ps)
    sub_agrees at own more ps h =
        agree_both _ _ _ _ _ _ (agree_each _ _ (outcomes_agree own more h)) (agree_each _ _ (pieces_agree at own more h ps)) (λ os pieces.
        itself (put_together at pieces) (asks_on nobody (each (map (wanted_text at) pieces)) _ (asks_texts nobody at pieces) (λ ts. tt)))

    text_agrees : (at : List ℕ) (x y : Found) → Agrees x y → Agrees (as_text at x) (as_text at y)
    text_agrees at x y h = agree_on x y (wanted_text at) (wanted_text at) h (λ v. itself (wanted_text at v) (asks_text nobody at v))

    list_agrees : (at : List ℕ) (x y : Found) → Agrees x y → Agrees (as_list at x) (as_list at y)
    list_agrees at x y h = agree_on x y (wanted_list at) (wanted_list at) h (λ v. itself (wanted_list at v) (asks_list nobody at v))

    find_agrees : (at : List ℕ) (x y z u v w : Found) → Agrees x u → Agrees y v → Agrees z w → Agrees (find_found (decided_by f o) at x y z) (find_found (decided_by g o) at u v w)
    find_agrees at x y z u v w h i j =
        agree_both _ _ z w _ _ (agree_both x u y v paired paired h i (λ a c. refl)) j (λ p l.
        itself _ (asks_on nobody (wanted_text at p.0) _ (asks_text nobody at p.0) (λ name.
        asks_on nobody (wanted_text at p.1) _ (asks_text nobody at p.1) (λ first.
        asks_on nobody (wanted_text at l) _ (asks_text nobody at l) (λ second. asks_mapped nobody (decided_by f o) at name first second)))))

    import_agrees : (at : List ℕ) (x y : Found) → Agrees x y → Agrees (import_found (decided_by f o) at x) (import_found (decided_by g o) at y)
    import_agrees at (got v) y e =
        subst (λ z. Agrees (import_found (decided_by f o) at (got v)) (import_found (decided_by g o) at z)) (sym e)
        (itself (import_found (decided_by f o) at (got v)) (asks_on nobody (wanted_text at v) _ (asks_text nobody at v) (asks_imported nobody o.beyond at)))
    import_agrees at later y e = ap (import_found (decided_by g o) at) e
    import_agrees at (bad (fault why place)) y e = ap (import_found (decided_by g o) at) e
    import_agrees at (bad (below why stack place)) y e = ap (import_found (decided_by g o) at) e
    import_agrees at (bad (undecided name place)) y e = λ w i. ap (import_found (decided_by g o) at) (e w i)

    mutual
      form_agrees : (around : Option (List ℕ)) (e : Form) → Agrees (form_found (decided_by f o) around e) (form_found (decided_by g o) around e)
      form_agrees around (expr at n) = agree_within (blamed around at n) _ _ (node_agrees around at n)

      node_agrees : (around : Option (List ℕ)) (at : List ℕ) (n : Node) → Agrees (node_found (decided_by f o) around at n) (node_found (decided_by g o) around at n)
      node_agrees around at (lit d) = refl
      node_agrees around at (node.list es) = agree_on _ _ _ _ (agree_each _ _ (forms_agree around es)) (λ os. refl)
      node_agrees around at (node.dict ps) = agree_on _ _ _ _ (agree_on _ _ _ _ (agree_each _ _ (named_agree _ _ (fields_agree around ps))) (λ os. refl)) (λ ms. refl)
      node_agrees around at (ref name) = itself (ref_found (decided_by f o) at name) (asks_ref nobody (decided_by f o) at name)
      node_agrees around at (get_att id x) =
          agree_on _ _ _ _ (text_agrees at _ _ (form_agrees (Some at) x)) (λ name. itself (attribute_in o.beyond at id name) (asks_attribute_in nobody o.beyond at id name))
      node_agrees around at (sub parts own) = sub_agrees at _ _ parts (fields_agree (Some at) own)
      node_agrees around at (join d e) =
          agree_on _ _ _ _ (list_agrees at _ _ (form_agrees (Some at) e)) (λ ds. itself _ (asks_on nobody (each (map (λ m. wanted_text at (Some m)) ds)) _ (asks_members nobody at ds) (λ ts. tt)))
      node_agrees around at (select i e) =
          agree_both _ _ _ _ _ _ (form_agrees (Some at) i) (form_agrees (Some at) e) (λ v l. itself _ (asks_on nobody (wanted_index at v) _ (asks_index nobody at v) (λ n. asks_on nobody (wanted_list at l) _ (asks_list nobody at l) (λ ds. asks_nth nobody at ds n))))
      node_agrees around at (split d e) = agree_on _ _ _ _ (text_agrees at _ _ (form_agrees (Some at) e)) (λ x. itself (split_at at d x) (asks_split nobody at d x))
      node_agrees around at (choice name y n) =
          agree_on _ _ _ _ (decides at name) (λ c. taken c _ _ _ _ (form_agrees (Some at) y) (form_agrees (Some at) n))
      node_agrees around at (find_in_map m k l) = find_agrees at _ _ _ _ _ _ (form_agrees (Some at) m) (form_agrees (Some at) k) (form_agrees (Some at) l)
      node_agrees around at (import_value e) = import_agrees at _ _ (form_agrees (Some at) e)
      node_agrees around at (base64 e) = agree_on _ _ _ _ (text_agrees at _ _ (form_agrees (Some at) e)) (λ x. refl)

      forms_agree : (around : Option (List ℕ)) (es : Forms) → AgreeAll (forms_found (decided_by f o) around es) (forms_found (decided_by g o) around es)
      forms_agree around no_forms = tt
      forms_agree around (form e es) = (form_agrees around e, forms_agree around es)

      fields_agree : (around : Option (List ℕ)) (ps : Fields) → AgreeNamed (fields_found (decided_by f o) around ps) (fields_found (decided_by g o) around ps)
      fields_agree around no_fields = tt
      fields_agree around (field name e ps) = (refl, (form_agrees around e, fields_agree around ps))

    mutual
      pub test_agrees : (around : Option (List ℕ)) (c : Test) → Agrees (test_found (decided_by f o) around c) (test_found (decided_by g o) around c)
      test_agrees around (tests.cond at n) = test_node_agrees around at n

      test_node_agrees : (around : Option (List ℕ)) (at : List ℕ) (n : TestNode) → Agrees (test_node_found (decided_by f o) around at n) (test_node_found (decided_by g o) around at n)
      test_node_agrees around at (equals a b) = agree_both _ _ _ _ _ _ (form_agrees (Some at) a) (form_agrees (Some at) b) (λ v w. itself _ (asks_wrong nobody at (equal_values v w)))
      test_node_agrees around at (negation c) = agree_on _ _ _ _ (test_agrees (Some at) c) (λ b. refl)
      test_node_agrees around at (all_of cs) = agree_on _ _ _ _ (agree_each _ _ (tests_agree (Some at) cs)) (λ bs. refl)
      test_node_agrees around at (any_of cs) = agree_on _ _ _ _ (agree_each _ _ (tests_agree (Some at) cs)) (λ bs. refl)
      test_node_agrees around at (named name) = decides (unwrap_or around at) name

      tests_agree : (around : Option (List ℕ)) (cs : Tests) → AgreeAll (tests_found (decided_by f o) around cs) (tests_found (decided_by g o) around cs)
      tests_agree around no_tests = tt
      tests_agree around (test c cs) = (test_agrees around c, tests_agree around cs)
