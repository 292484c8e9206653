-- Knowing more never changes what was known: by induction on the expression.
use Rattle.std.proofs.Common.{◌≡◌, ℕ, ℤ, List, [], ◌∷◌, Bool, true, false, ◌&&◌, not, Option, Some, None, IsTrue, map, fold, filter_map, refl, sym, ap, subst, ◌∙◌, true≢false}
use Rattle.std.specs.Cmp.{first_so, second_so}
use Rattle.cf_tree.specs.Datum.{Data}
use Rattle.cf_tree.specs.Forms.{Form, Node, Forms, Fields, expr, lit, ref, get_att, sub, join, select, split, choice, find_in_map, import_value, base64, no_forms, form, no_fields, field}
use Rattle.cf_tree.specs.Forms as node
use Rattle.cf_eval.specs.Outcome.{Outcome, Stop, fault, below, undecided, got, later, bad, on_got, after_later, both, each, undeclared_at_fault}
use Rattle.cf_eval.specs.Scope.{Scope, Beyond, open_to, closed_to}
use Rattle.cf_eval.specs.Texts.{Found, known, within, as_text, as_list, wanted_text, wanted_list, wanted_index}
use Rattle.std.specs.Prelude.{⊤, cond, unwrap_or, option_map, codes, ℤ}
use Rattle.std.specs.Str.{bytes_eq}
use Rattle.cf_funcs.specs.Pieces.{cut_at}
use Rattle.cf_tree.specs.Datum.{text}
use Rattle.cf_tree.specs.Keys.{value_at}
use Rattle.cf_tree.specs.declared.parts.Part.{Part}
use Rattle.cf_tree.specs.declared.parts.Part.TheVariants.{Plain, Name}
use Rattle.cf_eval.specs.declared.env.Sight.{Sight}
use Rattle.cf_eval.specs.declared.env.Sight.TheVariants as sight
use Rattle.cf_eval.specs.declared.env.OutputSight.{OutputSight}
use Rattle.cf_eval.specs.declared.env.OutputSight.TheVariants as output
use Rattle.cf_eval.specs.declared.fault.EvalWhy.TheVariants.{UnknownName, UnknownAttribute, WrongKind}
use Rattle.cf_eval.specs.Functions.{or_fault, or_later, text_value, id_of, resource_ref, setting_found, pseudo_ref, ref_found, output_found, attribute_found, attribute_in, get_att_found, cut_found, name_found, piece_found, put_together, outcomes, sub_found, join_found, split_found, select_found, value_in_mapping, under_key, paired, find_found, if_found, imported, import_found, base64_found}
use Rattle.cf_eval.specs.Value.{form_found, node_found, forms_found, fields_found, blamed, named, list_found, pairs_found, dict_found, value_of}
use Rattle.cf_eval.specs.Knows.{KnowsMore, StaysKnown, KeepsSetting, KeepsOutput, KeepsSight, KeepsBeyond, KeepsOutcome, KeepsFaults, BrokenStay, BrokenBeyond, is_broken, is_fault, is_later, names_imports, node_names_imports, all_name_imports, fields_name_imports, Stays, ValuesStay}

-- y stands where x stood: what x is known to be stays, and, where b says so, that it is a fault
abbrev pub Stands : {A : Type 0} → Bool → Outcome A → Outcome A → Type 0
Stands b (got a) y = y ≡ got a
Stands b later y = ⊤
Stands true (bad w) y = is_fault y ≡ true
Stands false (bad w) y = ⊤

pub itself : {A : Type 0} (b : Bool) (x : Outcome A) → Stands b x x
itself b (got a) = refl
itself b later = tt
itself true (bad w) = refl
itself false (bad w) = tt

fault_on : {A B : Type 0} (y : Outcome A) (g : A → Outcome B) → is_fault y ≡ true → is_fault (on_got y g) ≡ true
fault_on (got a) g h = absurd (true≢false (sym h))
fault_on later g h = absurd (true≢false (sym h))
fault_on (bad w) g h = refl

pub stands_on : {A B : Type 0} (b : Bool) (x y : Outcome A) (f g : A → Outcome B) → Stands b x y → ((a : A) → Stands b (f a) (g a)) → Stands b (on_got x f) (on_got y g)
stands_on b (got a) y f g h k = subst (λ z. Stands b (f a) (on_got z g)) (sym h) (k a)
stands_on b later y f g h k = tt
stands_on true (bad w) y f g h k = fault_on y g h
stands_on false (bad w) y f g h k = tt

fault_first : {A B C : Type 0} (x : Outcome A) (y : Outcome B) (f : A → B → Outcome C) → is_fault x ≡ true → is_fault (both x y f) ≡ true
fault_first (got a) y f h = absurd (true≢false (sym h))
fault_first later y f h = absurd (true≢false (sym h))
fault_first (bad w) y f h = refl

fault_second : {A B C : Type 0} (x : Outcome A) (y : Outcome B) (f : A → B → Outcome C) → is_fault y ≡ true → is_fault (both x y f) ≡ true
fault_second x (got a) f h = absurd (true≢false (sym h))
fault_second x later f h = absurd (true≢false (sym h))
fault_second (got a) (bad w) f h = refl
fault_second later (bad w) f h = refl
fault_second (bad v) (bad w) f h = refl

pub stands_both : {A B C : Type 0} (b : Bool) (x u : Outcome A) (y v : Outcome B) (f g : A → B → Outcome C) → Stands b x u → Stands b y v → ((a : A) (c : B) → Stands b (f a c) (g a c)) → Stands b (both x y f) (both u v g)
stands_both b (got a) u y v f g h k l = subst (λ z. Stands b (on_got y (f a)) (both z v g)) (sym h) (stands_on b y v (f a) (g a) k (l a))
stands_both b later u (got c) v f g h k l = tt
stands_both b later u later v f g h k l = tt
stands_both true later u (bad w) v f g h k l = fault_second u v g k
stands_both false later u (bad w) v f g h k l = tt
stands_both true (bad w) u y v f g h k l = fault_first u v g h
stands_both false (bad w) u y v f g h k l = tt

-- the same of lists, member by member
abbrev pub StandAll : {A : Type 0} → Bool → List (Outcome A) → List (Outcome A) → Type 0
StandAll b [] [] = ⊤
StandAll b (x ∷ xs) (y ∷ ys) = Stands b x y × StandAll b xs ys
StandAll b _ _ = ⊥

pub stands_each : {A : Type 0} (b : Bool) (xs ys : List (Outcome A)) → StandAll b xs ys → Stands b (each xs) (each ys)
stands_each b [] [] h = refl
stands_each b (x ∷ xs) (y ∷ ys) h = stands_both b x y (each xs) (each ys) _ _ h.0 (stands_each b xs ys h.1) (λ a c. refl)
stands_each b _ _ h = absurd h

stands_within : (b : Bool) (at : List ℕ) (x y : Found) → Stands b x y → Stands b (within at x) (within at y)
stands_within b at (got o) y h = subst (λ z. Stands b (within at (got o)) (within at z)) (sym h) (itself b (within at (got o)))
stands_within b at later y h = tt
stands_within true at (bad w) (got o) h = absurd (true≢false (sym h))
stands_within true at (bad w) later h = absurd (true≢false (sym h))
stands_within true at (bad w) (bad v) h = refl
stands_within false at (bad w) y h = tt

abbrev StandNamed : Bool → List (List ℕ × Found) → List (List ℕ × Found) → Type 0
StandNamed b [] [] = ⊤
StandNamed b (p ∷ ps) (q ∷ qs) = (q.0 ≡ p.0) × (Stands b p.1 q.1 × StandNamed b ps qs)
StandNamed b _ _ = ⊥

outcomes_stand : (b : Bool) (fs gs : List (List ℕ × Found)) → StandNamed b fs gs → StandAll b (outcomes fs) (outcomes gs)
outcomes_stand b [] [] h = tt
outcomes_stand b (p ∷ ps) (q ∷ qs) h = (h.1.0, outcomes_stand b ps qs h.1.1)
outcomes_stand b _ _ h = absurd h

named_stand : (b : Bool) (fs gs : List (List ℕ × Found)) → StandNamed b fs gs → StandAll b (map named fs) (map named gs)
named_stand b [] [] h = tt
named_stand b (p ∷ ps) (q ∷ qs) h =
    (subst (λ n. Stands b (named p) (named (n, q.1))) (sym h.0) (stands_on b p.1 q.1 (λ o. got (p.0, o)) (λ o. got (p.0, o)) h.1.0 (λ o. refl)), named_stand b ps qs h.1.1)
named_stand b _ _ h = absurd h

-- a look-up in the function's own map, or else what stands beside it
by_test : (b c : Bool) (x u : Found) (p q : Option Found) (y z : Found) → Stands b x u → Stands b (unwrap_or p y) (unwrap_or q z) → Stands b (unwrap_or (cond c (Some x) p) y) (unwrap_or (cond c (Some u) q) z)
by_test b true x u p q y z h k = h
by_test b false x u p q y z h k = k

own_stands : (b : Bool) (name : List ℕ) (fs gs : List (List ℕ × Found)) (y z : Found) → StandNamed b fs gs → Stands b y z → Stands b (unwrap_or (value_at name fs) y) (unwrap_or (value_at name gs) z)
own_stands b name [] [] y z h k = k
own_stands b name (p ∷ ps) (q ∷ qs) y z h k =
    subst (λ n. Stands b (unwrap_or (value_at name (p ∷ ps)) y) (unwrap_or (cond (bytes_eq name n) (Some q.1) (value_at name qs)) z)) (sym h.0)
    (by_test b (bytes_eq name p.0) p.1 q.1 (value_at name ps) (value_at name qs) y z h.1.0 (own_stands b name ps qs y z h.1.1 k))
own_stands b name _ _ y z h k = absurd h

same : {A : Type 0} (b : Bool) (x y : Outcome A) → y ≡ x → Stands b x y
same b x y e = subst (λ z. Stands b x z) (sym e) (itself b x)

setting_stands : (b : Bool) (p q : Option (Option Data)) (y z : Found) → KeepsSetting p q → Stands b y z → Stands b (unwrap_or (option_map setting_found p) y) (unwrap_or (option_map setting_found q) z)
setting_stands b None q y z h k = subst (λ o. Stands b y (unwrap_or (option_map setting_found o) z)) (sym h) k
setting_stands b (Some v) None y z h k = absurd h
setting_stands b (Some (Some d)) (Some w) y z h k = ap setting_found h
setting_stands b (Some None) (Some w) y z h k = tt

pseudo_stands : (b c : Bool) (o : Option Data) (y z : Found) → Stands b y z → Stands b (cond c (got None) (unwrap_or (option_map known o) y)) (cond c (got None) (unwrap_or (option_map known o) z))
pseudo_stands b true o y z h = refl
pseudo_stands b false (Some d) y z h = refl
pseudo_stands b false None y z h = h

kept : {A B : Type 0} (b : Bool) (p q : Option A) (f : A → Outcome B) → StaysKnown p q → Stands b (on_got (or_later p) f) (on_got (or_later q) f)
kept b (Some a) q f h = same b _ _ (ap (λ o. on_got (or_later o) f) h)
kept b None q f h = tt

id_stands : (b : Bool) (at : List ℕ) (p q : Option Sight) → KeepsSight p q → Stands b (on_got (or_fault UnknownName at p) (id_of at)) (on_got (or_fault UnknownName at q) (id_of at))
id_stands b at None q h = same b _ _ (ap (λ o. on_got (or_fault UnknownName at o) (id_of at)) h)
id_stands b at (Some sight.NotMade) q h = same b _ _ (ap (λ o. on_got (or_fault UnknownName at o) (id_of at)) h)
id_stands b at (Some (sight.Made p a)) (Some (sight.Made q c)) h = kept b p q text_value h.0
id_stands b at (Some (sight.Nested i o)) (Some (sight.Nested j r)) h = ap text_value h.0
id_stands b at (Some (sight.Made p a)) None h = absurd h
id_stands b at (Some (sight.Made p a)) (Some sight.NotMade) h = absurd h
id_stands b at (Some (sight.Made p a)) (Some (sight.Nested j r)) h = absurd h
id_stands b at (Some (sight.Nested i o)) None h = absurd h
id_stands b at (Some (sight.Nested i o)) (Some sight.NotMade) h = absurd h
id_stands b at (Some (sight.Nested i o)) (Some (sight.Made q c)) h = absurd h

broken_fault : (at : List ℕ) (q : Option OutputSight) → is_broken q ≡ true → is_fault (on_got (or_fault UnknownAttribute at q) (output_found at)) ≡ true
broken_fault at None h = absurd (true≢false (sym h))
broken_fault at (Some output.NotMade) h = absurd (true≢false (sym h))
broken_fault at (Some (output.Made v)) h = absurd (true≢false (sym h))
broken_fault at (Some (output.Broken why stack place)) h = refl

output_stands : (b : Bool) (at : List ℕ) (p q : Option OutputSight) → KeepsOutput p q → (b ≡ true → is_broken p ≡ true → is_broken q ≡ true)
    → Stands b (on_got (or_fault UnknownAttribute at p) (output_found at)) (on_got (or_fault UnknownAttribute at q) (output_found at))
output_stands b at None q h f = same b _ _ (ap (λ o. on_got (or_fault UnknownAttribute at o) (output_found at)) h)
output_stands b at (Some output.NotMade) q h f = same b _ _ (ap (λ o. on_got (or_fault UnknownAttribute at o) (output_found at)) h)
output_stands b at (Some (output.Made (Some v))) q h f = same b _ _ (ap (λ o. on_got (or_fault UnknownAttribute at o) (output_found at)) h)
output_stands b at (Some (output.Made None)) q h f = tt
output_stands true at (Some (output.Broken why stack place)) q h f = broken_fault at q (f refl refl)
output_stands false at (Some (output.Broken why stack place)) q h f = tt

attribute_stands : (b : Bool) (at name : List ℕ) (p q : Option Sight) → KeepsSight p q → (b ≡ true → BrokenStay p q)
    → Stands b (on_got (or_fault UnknownName at p) (λ s. attribute_found at s name)) (on_got (or_fault UnknownName at q) (λ s. attribute_found at s name))
attribute_stands b at name None q h f = same b _ _ (ap (λ o. on_got (or_fault UnknownName at o) (λ s. attribute_found at s name)) h)
attribute_stands b at name (Some sight.NotMade) q h f = same b _ _ (ap (λ o. on_got (or_fault UnknownName at o) (λ s. attribute_found at s name)) h)
attribute_stands b at name (Some (sight.Made p a)) (Some (sight.Made q c)) h f = kept b a c _ h.1
attribute_stands b at name (Some (sight.Nested i o)) (Some (sight.Nested j r)) h f = output_stands b at (value_at name o) (value_at name r) (h.1 name) (λ e. f e name)
attribute_stands b at name (Some (sight.Made p a)) None h f = absurd h
attribute_stands b at name (Some (sight.Made p a)) (Some sight.NotMade) h f = absurd h
attribute_stands b at name (Some (sight.Made p a)) (Some (sight.Nested j r)) h f = absurd h
attribute_stands b at name (Some (sight.Nested i o)) None h f = absurd h
attribute_stands b at name (Some (sight.Nested i o)) (Some sight.NotMade) h f = absurd h
attribute_stands b at name (Some (sight.Nested i o)) (Some (sight.Made q c)) h f = absurd h

resource_stands : (b : Bool) (at name : List ℕ) (m n : Beyond) → KeepsBeyond m n → Stands b (resource_ref m at name) (resource_ref n at name)
resource_stands b at name (open_to seen imports) (open_to others more) h = id_stands b at (value_at name seen) (value_at name others) (h.0 name)
resource_stands b at name (open_to seen imports) (closed_to names) h = absurd h
resource_stands b at name (closed_to names) n h = same b _ _ (ap (λ m. resource_ref m at name) h)

attribute_in_stands : (b : Bool) (at id name : List ℕ) (m n : Beyond) → KeepsBeyond m n → (b ≡ true → BrokenBeyond m n) → Stands b (attribute_in m at id name) (attribute_in n at id name)
attribute_in_stands b at id name (open_to seen imports) (open_to others more) h f = attribute_stands b at name (value_at id seen) (value_at id others) (h.0 id) (λ e. f e id)
attribute_in_stands b at id name (open_to seen imports) (closed_to names) h f = absurd h
attribute_in_stands b at id name (closed_to names) n h f = same b _ _ (ap (λ m. attribute_in m at id name) h)

imported_same : (at name : List ℕ) (m n : Beyond) → KeepsBeyond m n → imported n at name ≡ imported m at name
imported_same at name (open_to seen imports) (open_to others more) h = ap (λ i. imported (open_to seen i) at name) h.1
imported_same at name (open_to seen imports) (closed_to names) h = absurd h
imported_same at name (closed_to names) n h = ap (λ m. imported m at name) h

decided_stands : {A : Type 0} (b : Bool) (x y : Outcome A) → KeepsOutcome x y → (b ≡ true → is_fault x ≡ true → is_fault y ≡ true) → Stands b x y
decided_stands b (got a) y h f = h
decided_stands b later y h f = tt
decided_stands true (bad w) y h f = f refl refl
decided_stands false (bad w) y h f = tt

taken : (b c : Bool) (x y u v : Found) → Stands b x u → Stands b y v → Stands b (cond c x y) (cond c u v)
taken b true x y u v h k = h
taken b false x y u v h k = k

-- what is asked of imports where faults are to stay
abbrev Asks : Bool → Bool → Type 0
Asks b c = b ≡ true → c ≡ true

asks_first : (b c d : Bool) → Asks b (c && d) → Asks b c
asks_first b c d h e = first_so c d (h e)

asks_second : (b c d : Bool) → Asks b (c && d) → Asks b d
asks_second b c d h e = second_so c d (h e)

module _ (s t : Scope) (k : KnowsMore s t) (b : Bool) (f : b ≡ true → KeepsFaults s t) where
  ref_stands : (at name : List ℕ) → Stands b (ref_found s at name) (ref_found t at name)
  ref_stands at name =
      let beside = subst (λ p. Stands b (pseudo_ref s at name) (cond (bytes_eq (codes "AWS::NoValue") name) (got None) (unwrap_or (option_map known (value_at name p)) (resource_ref t.beyond at name)))) (sym k.pseudo)
      (pseudo_stands b (bytes_eq (codes "AWS::NoValue") name) (value_at name s.pseudo) _ _ (resource_stands b at name s.beyond t.beyond k.beyond)) in
      setting_stands b (s.params name) (t.params name) _ _ (k.params name) beside

  cut_stands : (at name : List ℕ) (o : Option (List ℕ × List ℕ)) → Stands b (cut_found s at name o) (cut_found t at name o)
  cut_stands at name None = ref_stands at name
  cut_stands at name (Some c) = attribute_in_stands b at c.0 c.1 s.beyond t.beyond k.beyond (λ e. KeepsFaults.beyond (f e))

  piece_stands : (at : List ℕ) (own more : List (List ℕ × Found)) → StandNamed b own more → (p : Part) → Stands b (piece_found s at own p) (piece_found t at more p)
  piece_stands at own more h (Plain t) = refl
  piece_stands at own more h (Name name) = own_stands b name own more _ _ h (cut_stands at name (cut_at (codes ".") name))

  pieces_stand : (at : List ℕ) (own more : List (List ℕ × Found)) → StandNamed b own more → (ps : List Part) → StandAll b (map (piece_found s at own) ps) (map (piece_found t at more) ps)
  pieces_stand at own more h [] = tt
  pieces_stand at own more h (p ∷ ps) = (piece_stands at own more h p, pieces_stand at own more h ps)

  sub_stands : (at : List ℕ) (own more : List (List ℕ × Found)) (ps : List Part) → StandNamed b own more → Stands b (sub_found s at own ps) (sub_found t at more ps)
  sub_stands at own more ps h =
      stands_both b _ _ _ _ _ _ (stands_each b _ _ (outcomes_stand b own more h)) (stands_each b _ _ (pieces_stand at own more h ps)) (λ os pieces. itself b (put_together at pieces))

  text_stands : (at : List ℕ) (x y : Found) → Stands b x y → Stands b (as_text at x) (as_text at y)
  text_stands at x y h = stands_on b x y (wanted_text at) (wanted_text at) h (λ o. itself b (wanted_text at o))

  list_stands : (at : List ℕ) (x y : Found) → Stands b x y → Stands b (as_list at x) (as_list at y)
  list_stands at x y h = stands_on b x y (wanted_list at) (wanted_list at) h (λ o. itself b (wanted_list at o))

  mapped_stands : (at name first second : List ℕ) → Stands b (value_in_mapping s at name first second) (value_in_mapping t at name first second)
  mapped_stands at name first second = same b _ _ (ap (λ o. on_got (or_fault UnknownName at o) (under_key at first second)) (k.mapping name))

  find_stands : (at : List ℕ) (x y z u v w : Found) → Stands b x u → Stands b y v → Stands b z w → Stands b (find_found s at x y z) (find_found t at u v w)
  find_stands at x y z u v w h i j =
      stands_both b _ _ z w _ _ (stands_both b x u y v paired paired h i (λ a c. refl)) j (λ p o.
      stands_on b (wanted_text at p.0) (wanted_text at p.0) _ _ (itself b _) (λ name.
      stands_on b (wanted_text at p.1) (wanted_text at p.1) _ _ (itself b _) (λ first.
      stands_on b (wanted_text at o) (wanted_text at o) _ _ (itself b _) (λ second. mapped_stands at name first second))))

  fault_import : (at : List ℕ) (y : Found) → is_fault y ≡ true → is_fault (import_found t at y) ≡ true
  fault_import at (got o) h = absurd (true≢false (sym h))
  fault_import at later h = refl
  fault_import at (bad w) h = refl

  import_known : (at : List ℕ) (o : Option Data) → Stands b (import_found s at (got o)) (import_found t at (got o))
  import_known at o = stands_on b (wanted_text at o) (wanted_text at o) _ _ (itself b _) (λ name. same b _ _ (imported_same at name s.beyond t.beyond k.beyond))

  import_stands : (c : Bool) (at : List ℕ) (x y : Found) → b ≡ c → (c ≡ true → is_later x ≡ false) → Stands b x y → Stands b (import_found s at x) (import_found t at y)
  import_stands c at (got o) y e h i = subst (λ z. Stands b (import_found s at (got o)) (import_found t at z)) (sym i) (import_known at o)
  import_stands true at later y e h i = absurd (true≢false (h refl))
  import_stands false at later y e h i = subst (λ d. Stands d (import_found s at later) (import_found t at y)) (sym e) tt
  import_stands true at (bad w) y e h i =
      subst (λ d. Stands d (import_found s at (bad w)) (import_found t at y)) (sym e) (fault_import at y (subst (λ d. Stands d (bad w) y) e i))
  import_stands false at (bad w) y e h i = subst (λ d. Stands d (import_found s at (bad w)) (import_found t at y)) (sym e) tt

  not_true : (c : Bool) → not c ≡ true → c ≡ false
  not_true true h = sym h
  not_true false h = refl

  mutual
    pub form_stands : (around : Option (List ℕ)) (e : Form) → Asks b (names_imports s e) → Stands b (form_found s around e) (form_found t around e)
    form_stands around (expr at n) a = stands_within b (blamed around at n) _ _ (node_stands around at n a)

    node_stands : (around : Option (List ℕ)) (at : List ℕ) (n : Node) → Asks b (node_names_imports s at n) → Stands b (node_found s around at n) (node_found t around at n)
    node_stands around at (lit d) a = refl
    node_stands around at (node.list es) a = stands_on b _ _ _ _ (stands_each b _ _ (forms_stand around es a)) (λ os. refl)
    node_stands around at (node.dict ps) a =
        stands_on b _ _ _ _ (stands_on b _ _ _ _ (stands_each b _ _ (named_stand b _ _ (fields_stand around ps a))) (λ os. refl)) (λ ms. refl)
    node_stands around at (ref name) a = ref_stands at name
    node_stands around at (get_att id x) a =
        stands_on b _ _ _ _ (text_stands at _ _ (form_stands (Some at) x a)) (λ name. attribute_in_stands b at id name s.beyond t.beyond k.beyond (λ e. KeepsFaults.beyond (f e)))
    node_stands around at (sub parts own) a = sub_stands at _ _ parts (fields_stand (Some at) own a)
    node_stands around at (join d e) a = stands_on b _ _ _ _ (list_stands at _ _ (form_stands (Some at) e a)) (λ ds. itself b _)
    node_stands around at (select i e) a =
        stands_both b _ _ _ _ _ _ (form_stands (Some at) i (asks_first b _ (names_imports s e) a)) (form_stands (Some at) e (asks_second b (names_imports s i) _ a)) (λ o l. itself b _)
    node_stands around at (split d e) a = stands_on b _ _ _ _ (text_stands at _ _ (form_stands (Some at) e a)) (λ x. itself b _)
    node_stands around at (choice name y n) a =
        stands_on b _ _ _ _ (decided_stands b _ _ (k.decided at name) (λ e. KeepsFaults.decided (f e) at name)) (λ c.
        taken b c _ _ _ _ (form_stands (Some at) y (asks_first b _ (names_imports s n) a)) (form_stands (Some at) n (asks_second b (names_imports s y) _ a)))
    node_stands around at (find_in_map m f l) a =
        let rest = asks_second b (names_imports s m) _ a in
        find_stands at _ _ _ _ _ _ (form_stands (Some at) m (asks_first b _ (names_imports s f && names_imports s l) a))
        (form_stands (Some at) f (asks_first b _ (names_imports s l) rest)) (form_stands (Some at) l (asks_second b (names_imports s f) _ rest))
    node_stands around at (import_value e) a =
        import_stands b at (form_found s (Some at) e) (form_found t (Some at) e) refl
        (λ h. not_true _ (first_so (not (is_later (form_found s (Some at) e))) (names_imports s e) (a h)))
        (form_stands (Some at) e (asks_second b (not (is_later (form_found s (Some at) e))) _ a))
    node_stands around at (base64 e) a = stands_on b _ _ _ _ (text_stands at _ _ (form_stands (Some at) e a)) (λ x. refl)

    forms_stand : (around : Option (List ℕ)) (es : Forms) → Asks b (all_name_imports s es) → StandAll b (forms_found s around es) (forms_found t around es)
    forms_stand around no_forms a = tt
    forms_stand around (form e es) a = (form_stands around e (asks_first b _ (all_name_imports s es) a), forms_stand around es (asks_second b (names_imports s e) _ a))

    fields_stand : (around : Option (List ℕ)) (ps : Fields) → Asks b (fields_name_imports s ps) → StandNamed b (fields_found s around ps) (fields_found t around ps)
    fields_stand around no_fields a = tt
    fields_stand around (field name e ps) a =
        (refl, (form_stands around e (asks_first b _ (fields_name_imports s ps) a), fields_stand around ps (asks_second b (names_imports s e) _ a)))

stands_got : {A : Type 0} (x y : Outcome A) (v : A) → Stands false x y → x ≡ got v → y ≡ got v
stands_got x y v h e = let st : Stands false (got v) y = subst (λ z. Stands false z y) e h in st

stands_fault : {A : Type 0} (x y : Outcome A) → Stands true x y → is_fault x ≡ true → is_fault y ≡ true
stands_fault (got a) y h e = absurd (true≢false (sym e))
stands_fault later y h e = absurd (true≢false (sym e))
stands_fault (bad w) y h e = h

pub undeclared_got : {A : Type 0} (x : Outcome A) (v : A) → undeclared_at_fault x ≡ got v → x ≡ got v
undeclared_got (got a) v h = h
undeclared_got later v h = h
undeclared_got (bad (fault why at)) v h = h
undeclared_got (bad (below why stack at)) v h = h
undeclared_got (bad (undecided name at)) v h = let no : ⊥ = cc in absurd no

undeclared_fault : (x : Found) → is_fault (undeclared_at_fault x) ≡ is_fault x
undeclared_fault (got a) = refl
undeclared_fault later = refl
undeclared_fault (bad (fault why at)) = refl
undeclared_fault (bad (below why stack at)) = refl
undeclared_fault (bad (undecided name at)) = refl

pub undeclared_stands : {A : Type 0} (x y : Outcome A) → Stands false x y → Stands false (undeclared_at_fault x) (undeclared_at_fault y)
undeclared_stands (got a) y h = ap undeclared_at_fault h
undeclared_stands later y h = tt
undeclared_stands (bad (fault why at)) y h = tt
undeclared_stands (bad (undecided name at)) y h = tt
undeclared_stands (bad (below why stack at)) y h = tt

-- of values alone
module _ (s t : Scope) (k : KnowsMore s t) where
  pub form_value_stands : (around : Option (List ℕ)) (e : Form) → Stands false (form_found s around e) (form_found t around e)
  form_value_stands around e = form_stands s t k false (λ h. absurd (true≢false (sym h))) around e (λ h. absurd (true≢false (sym h)))

  pub value_stands : (e : Form) → Stands false (value_of s e) (value_of t e)
  value_stands e = undeclared_stands (form_found s None e) (form_found t None e) (form_value_stands None e)

-- knowing more never changes what was known
pub knowing_more : ValuesStay
knowing_more s t k e = record {
  value = λ v known. ap undeclared_at_fault (stands_got (form_found s None e) (form_found t None e) v (form_value_stands s t k None e) (undeclared_got _ v known));
  fault = λ kept h.
      undeclared_fault (form_found t None e)
      ∙ stands_fault (form_found s None e) (form_found t None e) (form_stands s t k true (λ _. kept.0) None e (λ _. kept.1)) (sym (undeclared_fault (form_found s None e)) ∙ h);
}
