-- What an expression comes to rests on what is seen of the names that it mentions alone.
use Rattle.std.proofs.Common.{◌≡◌, ℕ, List, [], ◌∷◌, ◌++◌, Bool, true, false, Option, Some, None, refl, ap, ◌∙◌, map, option_map}
use Rattle.std.specs.Prelude.{cond, codes, flat_map, is_some, unwrap_or}
use Rattle.std.specs.Str.{bytes_eq}
use Rattle.cf_funcs.specs.Pieces.{cut_at}
use Rattle.cf_tree.specs.Datum.{Data}
use Rattle.cf_tree.specs.Forms.{Form, Node, Forms, Fields, expr, lit, ref, get_att, sub, join, select, split, choice, find_in_map, import_value, base64, no_forms, form, no_fields, field, fields_of}
use Rattle.cf_tree.specs.Forms as node
use Rattle.cf_tree.specs.Keys.{value_at}
use Rattle.cf_tree.specs.declared.bound.Setting.{Setting}
use Rattle.cf_tree.specs.declared.bound.Verdict.{Verdict}
use Rattle.cf_tree.specs.declared.bound.Verdict.TheVariants as verdict
use Rattle.cf_tree.specs.declared.parts.Part.{Part}
use Rattle.cf_tree.specs.declared.parts.Part.TheVariants.{Plain, Name}
use Rattle.cf_tree.specs.declared.template.Template.{Template}
use Rattle.cf_eval.specs.declared.env.Sight.{Sight}
use Rattle.cf_eval.specs.declared.fault.EvalWhy.TheVariants.{UnknownName}
use Rattle.cf_eval.specs.Outcome.{got, later, bad, on_got, both, each, undeclared_at_fault}
use Rattle.cf_eval.specs.Scope.{Scope, decided_at, setting_of, verdict_of, resource_scope}
use Rattle.cf_eval.specs.Texts.{Found, known, within, as_text}
use Rattle.cf_eval.specs.Functions.{or_fault, id_of, attribute_found, setting_found, ref_found, attribute_in, get_att_found, cut_found, name_found, piece_found, put_together, outcomes, sub_found, join_found, select_found, split_found, find_found, if_found, import_found, base64_found}
use Rattle.cf_eval.specs.Value.{form_found, node_found, forms_found, fields_found, blamed, list_found, dict_found, value_of, with_prop, props_of}
use Rattle.cf_graph.specs.Mentions.{Mention, hole, holes_in, keys_of, taken_branch, mentions_of, node_mentions, forms_mentions, fields_mentions}
use Rattle.cf_graph.specs.Needs.{is_true, holds_in}
use Rattle.cf_desired.specs.Rests.{SeesSame, SeesAllSame, ValueRests}

module _
    (t : Template) (bound : List (List ℕ × Setting)) (conds : List (List ℕ × Verdict)) (pseudo : List (List ℕ × Data)) (imports : List (List ℕ × List ℕ))
    (m n : List (List ℕ × Sight)) where
  abbrev s : Scope
  s = resource_scope t.mappings bound conds pseudo m imports

  abbrev u : Scope
  u = resource_scope t.mappings bound conds pseudo n imports

  abbrev holds : List ℕ → Option Bool
  holds = holds_in conds

  pub first_agree : (xs ys : List Mention) → SeesAllSame bound m n (xs ++ ys) → SeesAllSame bound m n xs
  first_agree [] ys a = tt
  first_agree (x ∷ xs) ys a = (a.0, first_agree xs ys a.1)

  pub second_agree : (xs ys : List Mention) → SeesAllSame bound m n (xs ++ ys) → SeesAllSame bound m n ys
  second_agree [] ys a = a
  second_agree (x ∷ xs) ys a = second_agree xs ys a.1

  beside_same : (at name : List ℕ) → value_at name n ≡ value_at name m
      → cond (bytes_eq (codes "AWS::NoValue") name) (got None) (unwrap_or (option_map known (value_at name pseudo)) (on_got (or_fault UnknownName at (value_at name n)) (id_of at)))
      ≡ cond (bytes_eq (codes "AWS::NoValue") name) (got None) (unwrap_or (option_map known (value_at name pseudo)) (on_got (or_fault UnknownName at (value_at name m)) (id_of at)))
  beside_same at name e =
      ap (λ o. cond (bytes_eq (codes "AWS::NoValue") name) (got None) (unwrap_or (option_map known (value_at name pseudo)) (on_got (or_fault UnknownName at o) (id_of at)))) e

  or_beside : (o : Option Setting) (x y : Found) → (o ≡ None → y ≡ x) → unwrap_or (option_map setting_found (option_map setting_of o)) y ≡ unwrap_or (option_map setting_found (option_map setting_of o)) x
  or_beside None x y h = h refl
  or_beside (Some v) x y h = refl

  ref_same : (at name : List ℕ) → (value_at name bound ≡ None → value_at name n ≡ value_at name m) → ref_found u at name ≡ ref_found s at name
  ref_same at name a = or_beside (value_at name bound) _ _ (λ e. beside_same at name (a e))

  attribute_same : (at id name : List ℕ) → value_at id n ≡ value_at id m → attribute_in u.beyond at id name ≡ attribute_in s.beyond at id name
  attribute_same at id name e = ap (λ o. on_got (or_fault UnknownName at o) (λ x. attribute_found at x name)) e

  get_att_same : (at id : List ℕ) (x y : Found) → value_at id n ≡ value_at id m → y ≡ x → get_att_found u at id y ≡ get_att_found s at id x
  get_att_same at id x y e d =
      ap (get_att_found u at id) d ∙ ap (λ o. on_got (as_text at x) (λ name. on_got (or_fault UnknownName at o) (λ z. attribute_found at z name))) e

  -- a text's holes
  keys_there : (b : Bool) (x : Found) (o : Option Found) (p : Option Bool) → is_some o ≡ is_some p → is_some (cond b (Some x) o) ≡ is_some (cond b (Some true) p)
  keys_there true x o p e = refl
  keys_there false x o p e = e

  own_keys : (around : Option (List ℕ)) (name : List ℕ) (own : Fields) → is_some (value_at name (fields_found s around own)) ≡ is_some (value_at name (map (λ k. (k, true)) (keys_of own)))
  own_keys around name no_fields = refl
  own_keys around name (field k e ps) =
      keys_there (bytes_eq name k) (form_found s around e) (value_at name (fields_found s around ps)) (value_at name (map (λ l. (l, true)) (keys_of ps))) (own_keys around name ps)

  hole_same : (at name : List ℕ) (c : Option (List ℕ × List ℕ)) → SeesSame bound m n (hole name c) → cut_found u at name c ≡ cut_found s at name c
  hole_same at name None a = ref_same at name a
  hole_same at name (Some c) a = attribute_same at c.0 c.1 a

  own_or : (o : Option Found) (b : Bool) (x y : Found) (h : Mention) → is_some o ≡ b → SeesAllSame bound m n (cond b [] (h ∷ [])) → (SeesSame bound m n h → y ≡ x) → unwrap_or o y ≡ unwrap_or o x
  own_or (Some f) b x y h e a d = refl
  own_or None true x y h e a d = let no : ⊥ = cc in absurd no
  own_or None false x y h e a d = d a.0

  piece_same : (at : List ℕ) (around : Option (List ℕ)) (own : Fields) (p : Part) → SeesAllSame bound m n (holes_in (keys_of own) p) → piece_found u at (fields_found s around own) p ≡ piece_found s at (fields_found s around own) p
  piece_same at around own (Plain x) a = refl
  piece_same at around own (Name name) a =
      own_or (value_at name (fields_found s around own)) (is_some (value_at name (map (λ k. (k, true)) (keys_of own)))) (name_found s at name) (name_found u at name)
      (hole name (cut_at (codes ".") name)) (own_keys around name own) a (hole_same at name (cut_at (codes ".") name))

  pieces_same : (at : List ℕ) (around : Option (List ℕ)) (own : Fields) (ps : List Part) → SeesAllSame bound m n (flat_map (holes_in (keys_of own)) ps)
      → map (piece_found u at (fields_found s around own)) ps ≡ map (piece_found s at (fields_found s around own)) ps
  pieces_same at around own [] a = refl
  pieces_same at around own (p ∷ ps) a =
      ap (λ x. x ∷ map (piece_found u at (fields_found s around own)) ps) (piece_same at around own p (first_agree (holes_in (keys_of own) p) _ a))
      ∙ ap (λ xs. piece_found s at (fields_found s around own) p ∷ xs) (pieces_same at around own ps (second_agree (holes_in (keys_of own) p) _ a))

  import_same : (at : List ℕ) (x : Found) → import_found u at x ≡ import_found s at x
  import_same at (got name) = refl
  import_same at later = refl
  import_same at (bad w) = refl

  choice_same :
      (at name : List ℕ) (o : Option Verdict) (x y v w : Found) (first second : List Mention) → (SeesAllSame bound m n first → v ≡ x) → (SeesAllSame bound m n second → w ≡ y)
      → SeesAllSame bound m n (taken_branch (option_map is_true o) first second)
      → if_found (decided_at at name (option_map verdict_of o)) v w ≡ if_found (decided_at at name (option_map verdict_of o)) x y
  choice_same at name None x y v w first second g h a = refl
  choice_same at name (Some verdict.True) x y v w first second g h a = g a
  choice_same at name (Some verdict.False) x y v w first second g h a = h a
  choice_same at name (Some verdict.Later) x y v w first second g h a = refl

  mutual
    pub form_same : (around : Option (List ℕ)) (e : Form) → SeesAllSame bound m n (mentions_of holds e) → form_found u around e ≡ form_found s around e
    form_same around (expr at x) a = ap (within (blamed around at x)) (node_same around at x a)

    node_same : (around : Option (List ℕ)) (at : List ℕ) (x : Node) → SeesAllSame bound m n (node_mentions holds x) → node_found u around at x ≡ node_found s around at x
    node_same around at (lit d) a = refl
    node_same around at (node.list es) a = ap list_found (forms_same around es a)
    node_same around at (node.dict ps) a = ap dict_found (fields_same around ps a)
    node_same around at (ref name) a = ref_same at name a.0
    node_same around at (get_att id x) a = get_att_same at id (form_found s (Some at) x) (form_found u (Some at) x) a.0 (form_same (Some at) x a.1)
    node_same around at (sub parts own) a =
        ap (λ fs. sub_found u at fs parts) (fields_same (Some at) own (first_agree (fields_mentions holds own) _ a))
        ∙ ap (λ ps. both (each (outcomes (fields_found s (Some at) own))) (each ps) (λ _ pieces. put_together at pieces))
        (pieces_same at (Some at) own parts (second_agree (fields_mentions holds own) _ a))
    node_same around at (join d e) a = ap (join_found at d) (form_same (Some at) e a)
    node_same around at (select i e) a =
        ap (λ x. select_found at x (form_found u (Some at) e)) (form_same (Some at) i (first_agree (mentions_of holds i) _ a))
        ∙ ap (select_found at (form_found s (Some at) i)) (form_same (Some at) e (second_agree (mentions_of holds i) _ a))
    node_same around at (split d e) a = ap (split_found at d) (form_same (Some at) e a)
    node_same around at (choice name y z) a =
        choice_same at name (value_at name conds) (form_found s (Some at) y) (form_found s (Some at) z) (form_found u (Some at) y) (form_found u (Some at) z)
        (mentions_of holds y) (mentions_of holds z) (form_same (Some at) y) (form_same (Some at) z) a
    node_same around at (find_in_map x k l) a =
        let rest = second_agree (mentions_of holds x) _ a in
        ap (λ f. find_found u at f (form_found u (Some at) k) (form_found u (Some at) l)) (form_same (Some at) x (first_agree (mentions_of holds x) _ a))
        ∙ ap (λ f. find_found u at (form_found s (Some at) x) f (form_found u (Some at) l)) (form_same (Some at) k (first_agree (mentions_of holds k) _ rest))
        ∙ ap (find_found u at (form_found s (Some at) x) (form_found s (Some at) k)) (form_same (Some at) l (second_agree (mentions_of holds k) _ rest))
    node_same around at (import_value e) a = ap (import_found u at) (form_same (Some at) e a) ∙ import_same at (form_found s (Some at) e)
    node_same around at (base64 e) a = ap (base64_found at) (form_same (Some at) e a)

    forms_same : (around : Option (List ℕ)) (es : Forms) → SeesAllSame bound m n (forms_mentions holds es) → forms_found u around es ≡ forms_found s around es
    forms_same around no_forms a = refl
    forms_same around (form e es) a =
        ap (λ x. x ∷ forms_found u around es) (form_same around e (first_agree (mentions_of holds e) _ a))
        ∙ ap (λ xs. form_found s around e ∷ xs) (forms_same around es (second_agree (mentions_of holds e) _ a))

    fields_same : (around : Option (List ℕ)) (ps : Fields) → SeesAllSame bound m n (fields_mentions holds ps) → fields_found u around ps ≡ fields_found s around ps
    fields_same around no_fields a = refl
    fields_same around (field k e ps) a =
        ap (λ x. (k, x) ∷ fields_found u around ps) (form_same around e (first_agree (mentions_of holds e) _ a))
        ∙ ap (λ xs. (k, form_found s around e) ∷ xs) (fields_same around ps (second_agree (mentions_of holds e) _ a))

  -- properties, one by one
  pub props_same : (ps : List (List ℕ × Form)) → SeesAllSame bound m n (fields_mentions holds (fields_of ps)) → props_of u ps ≡ props_of s ps
  props_same [] a = refl
  props_same (p ∷ ps) a =
      ap (λ f. with_prop p.0 f (props_of u ps)) (ap undeclared_at_fault (form_same None p.1 (first_agree (mentions_of holds p.1) _ a)))
      ∙ ap (with_prop p.0 (value_of s p.1)) (props_same ps (second_agree (mentions_of holds p.1) _ a))

pub value_rests : ValueRests
value_rests t bound conds pseudo imports m n e a = ap undeclared_at_fault (form_same t bound conds pseudo imports m n None e a)
