-- The properties of a path rest on what is seen of the paths that it needs alone.
use Rattle.std.proofs.Common.{◌≡◌, ℕ, List, [], ◌∷◌, ◌++◌, Bool, true, false, ◌||◌, Option, Some, None, refl, sym, ap, subst, ◌∙◌, true≢false, map, find, option_map}
use Rattle.std.specs.Prelude.{⊤, cond, codes, is_some, unwrap_or}
use Rattle.std.specs.Option.{option_map_or, option_and_then, option_or}
use Rattle.std.specs.Str.{bytes_eq}
use Rattle.std.proofs.lemmas.Slice.Eq.{bytes_eq-Decides}
use Rattle.cf_tree.specs.Datum.{Data}
use Rattle.cf_tree.specs.Forms.{Form, Node, Fields, expr, lit, ref, get_att, sub, join, select, split, choice, find_in_map, import_value, base64, no_fields, field, fields_of, place_of}
use Rattle.cf_tree.specs.Forms as node
use Rattle.cf_tree.specs.Keys.{value_at, put}
use Rattle.cf_tree.specs.Named.{found}
use Rattle.cf_tree.specs.declared.bound.Verdict.{Verdict}
use Rattle.cf_tree.specs.declared.bound.Verdict.TheVariants as verdict
use Rattle.cf_tree.specs.declared.source.Source.{Source}
use Rattle.cf_tree.specs.declared.template.Out.{Out}
use Rattle.cf_tree.specs.declared.template.Param.{Param}
use Rattle.cf_tree.specs.declared.template.Template.{Template}
use Rattle.cf_graph.specs.Mentions.{Mention, by_ref, by_attribute, mentions_of, node_mentions, fields_mentions, taken_branch}
use Rattle.cf_graph.specs.Needs.{is_true, holds_in}
use Rattle.cf_tree.specs.Lists.{is_among}
use Rattle.cf_desired.specs.Names.{path_in, pseudo_of, stack_id}
use Rattle.cf_desired.specs.Seeing.{Seen, SeenAt, is_output_made, seen_as, own_ids, first_sights, unnamed_output, export_wanted, export_stop, output_stop, text_in, text_known, broken_at, output_sight, output_seen, output_sights, sights_after, outputs_inside, outputs_of, by_names}
use Rattle.cf_desired.specs.Valued.{unless_flaw, member_props, resources_along, resources_inside, resources_in, valued_along, valued_inside, valued_in}
use Rattle.cf_desired.specs.Stays.{AgreeAt}
use Rattle.cf_desired.specs.declared.wanted.Evaluated.{Evaluated}
use Rattle.cf_desired.proofs.OrderNeeds.{among_first, among_second}
use Rattle.cf_desired.proofs.Puts.{value_put}
use Rattle.cf_desired.specs.Plan.{at_path}
use Rattle.cf_desired.specs.Given.{Given, Offers, offers_in, node_offers, offered_fields, map_wanted, blamed_on, given_in, given_by, settings_for, setting_given}
use Rattle.cf_desired.specs.NeedsMatter.{NeedsMatter}
use Rattle.cf_eval.specs.Outcome.{Outcome, got, on_got, undeclared_at_fault}
use Rattle.cf_eval.specs.declared.env.OutputSight.{OutputSight}
use Rattle.cf_eval.specs.declared.env.OutputSight.TheVariants as output
use Rattle.cf_desired.specs.Rests.{SeesAllSame}
use Rattle.cf_eval.specs.Scope.{Scope, decided_at, verdict_of, resource_scope}
use Rattle.cf_desired.specs.Shape.{StandsFor, first_stands, paths_below, paths_inside, paths_in, given_root, shape_of}
use Rattle.cf_eval.specs.declared.env.Sight.{Sight}
use Rattle.cf_eval.specs.declared.env.Sight.TheVariants as sight
use Rattle.cf_desired.specs.Stack.{Stack, Verdicts, Settings, Sights, Scoping, evaluated_in, scoping, stop_in}
use Rattle.cf_eval.specs.Texts.{as_text}
use Rattle.cf_eval.specs.Value.{form_found, blamed, value_of, value_within}
use Rattle.cf_desired.specs.Work.{Member, Nesting, Work, Inside, Body, no_work, resource, nested, shut, barred, halted, opened}
use Rattle.cf_desired.specs.Work as inside
use Rattle.cf_desired.proofs.Covers.{In, CoversAll, CoversForm, Covers, CoversInside, CoversBody, shape_covered}
use Rattle.cf_desired.proofs.Mentions.{first_agree, second_agree, form_same, props_same}

-- what a nested stack is given rests on what its expression mentions
module _
    (t : Template) (bound : Settings) (conds : Verdicts) (pseudo : List (List ℕ × Data)) (imports : List (List ℕ × List ℕ)) (m n : Sights) where
  abbrev s : Scope
  s = resource_scope t.mappings bound conds pseudo m imports

  abbrev u : Scope
  u = resource_scope t.mappings bound conds pseudo n imports

  abbrev holds : List ℕ → Option Bool
  holds = holds_in conds

  one_same : (around : Option (List ℕ)) (e : Form) → SeesAllSame bound m n (mentions_of holds e) → form_found u around e ≡ form_found s around e
  one_same around e a = form_same t bound conds pseudo imports m n around e a

  offered_same : (around : Option (List ℕ)) (fs : Fields) → SeesAllSame bound m n (fields_mentions holds fs) → offered_fields u around fs ≡ offered_fields s around fs
  offered_same around no_fields a = refl
  offered_same around (field k e fs) a =
      ap (λ x. record { name = k; at = blamed_on around e; value = undeclared_at_fault x } ∷ offered_fields u around fs) (one_same around e (first_agree t bound conds pseudo imports m n (mentions_of holds e) _ a))
      ∙ ap (λ os. record { name = k; at = blamed_on around e; value = value_within s around e } ∷ os) (offered_same around fs (second_agree t bound conds pseudo imports m n (mentions_of holds e) _ a))

  branch_same :
      (at name : List ℕ) (o : Option Verdict) (x y v w : Outcome Offers) (first second : List Mention) → (SeesAllSame bound m n first → v ≡ x) → (SeesAllSame bound m n second → w ≡ y)
      → SeesAllSame bound m n (taken_branch (option_map is_true o) first second)
      → on_got (decided_at at name (option_map verdict_of o)) (λ b. cond b v w) ≡ on_got (decided_at at name (option_map verdict_of o)) (λ b. cond b x y)
  branch_same at name None x y v w first second g h a = refl
  branch_same at name (Some verdict.True) x y v w first second g h a = g a
  branch_same at name (Some verdict.False) x y v w first second g h a = h a
  branch_same at name (Some verdict.Later) x y v w first second g h a = refl

  as_value : (around : Option (List ℕ)) (at : List ℕ) (x : Node) → SeesAllSame bound m n (node_mentions holds x)
      → on_got (value_within u around (expr at x)) (map_wanted (blamed around at x)) ≡ on_got (value_within s around (expr at x)) (map_wanted (blamed around at x))
  as_value around at x a = ap (λ f. on_got (undeclared_at_fault f) (map_wanted (blamed around at x))) (one_same around (expr at x) a)

  mutual
    pub offers_same : (around : Option (List ℕ)) (e : Form) → SeesAllSame bound m n (mentions_of holds e) → offers_in u around e ≡ offers_in s around e
    offers_same around (expr at x) a = node_same around at x a

    node_same : (around : Option (List ℕ)) (at : List ℕ) (x : Node) → SeesAllSame bound m n (node_mentions holds x) → node_offers u around at x ≡ node_offers s around at x
    node_same around at (node.dict fs) a =
        ap (λ os. got (record { members = os; whole = stop_in (value_within u around (expr at (node.dict fs))) })) (offered_same around fs a)
        ∙ ap (λ f. got (record { members = offered_fields s around fs; whole = stop_in (undeclared_at_fault f) })) (one_same around (expr at (node.dict fs)) a)
    node_same around at (choice name y z) a =
        branch_same at name (value_at name conds) (offers_in s (Some at) y) (offers_in s (Some at) z) (offers_in u (Some at) y) (offers_in u (Some at) z)
        (mentions_of holds y) (mentions_of holds z) (offers_same (Some at) y) (offers_same (Some at) z) a
    node_same around at (lit d) a = as_value around at (lit d) a
    node_same around at (node.list es) a = as_value around at (node.list es) a
    node_same around at (ref name) a = as_value around at (ref name) a
    node_same around at (get_att id x) a = as_value around at (get_att id x) a
    node_same around at (sub ps own) a = as_value around at (sub ps own) a
    node_same around at (join d e) a = as_value around at (join d e) a
    node_same around at (select i e) a = as_value around at (select i e) a
    node_same around at (split d e) a = as_value around at (split d e) a
    node_same around at (find_in_map x k l) a = as_value around at (find_in_map x k l) a
    node_same around at (import_value e) a = as_value around at (import_value e) a
    node_same around at (base64 e) a = as_value around at (base64 e) a

  abbrev pub FormAgrees : Option Form → Type 0
  FormAgrees None = ⊤
  FormAgrees (Some f) = SeesAllSame bound m n (mentions_of holds f)

  pub given_same : (form : Option Form) → FormAgrees form → given_in u form ≡ given_in s form
  given_same None a = refl
  given_same (Some f) a = ap given_by (offers_same None f a)

  -- where all names are seen the same
  every : ((id : List ℕ) → value_at id n ≡ value_at id m) → (ms : List Mention) → SeesAllSame bound m n ms
  every h [] = tt
  every h (by_ref name ∷ ms) = (λ o. h name, every h ms)
  every h (by_attribute name ∷ ms) = (h name, every h ms)

  module _ (h : (id : List ℕ) → value_at id n ≡ value_at id m) where
    value_every : (e : Form) → value_of u e ≡ value_of s e
    value_every e = ap undeclared_at_fault (one_same None e (every h (mentions_of holds e)))

    pub given_every : (form : Option Form) → given_in u form ≡ given_in s form
    given_every None = refl
    given_every (Some f) = given_same (Some f) (every h (mentions_of holds f))

    text_every : (e : Form) → text_in u e ≡ text_in s e
    text_every e = ap (λ x. as_text (place_of e) x) (value_every e)

    export_every : (o : Option Form) → export_stop u o ≡ export_stop s o
    export_every None = refl
    export_every (Some f) = ap (λ x. stop_in (export_wanted f x)) (text_every f)

    stop_every : (cs : Verdicts) (o : Out) → output_stop cs u o ≡ output_stop cs s o
    stop_every cs o =
        ap (λ x. option_or (unnamed_output cs o) (option_or x (stop_in (text_in u o.value)))) (export_every o.export)
        ∙ ap (λ x. option_or (unnamed_output cs o) (option_or (export_stop s o.export) (stop_in x))) (text_every o.value)

    sight_every : (at : Stack) (cs : Verdicts) (o : Out) → output_sight at cs u o ≡ output_sight at cs s o
    sight_every at cs o =
        ap (λ x. cond (is_output_made cs o) (option_map_or (broken_at at.path) x (output.Made (text_known (text_in u o.value)))) output.NotMade) (stop_every cs o)
        ∙ ap (λ x. cond (is_output_made cs o) (option_map_or (broken_at at.path) (output_stop cs s o) (output.Made (text_known x))) output.NotMade) (text_every o.value)

    abbrev named : Out → OutputSight → List ℕ × OutputSight
    named o x = (codes "Outputs." ++ o.name, x)

    outs_every : (at : Stack) (cs : Verdicts) (os : List Out)
        → map (output_seen at cs u) os ≡ map (output_seen at cs s) os
    outs_every at cs [] = refl
    outs_every at cs (o ∷ os) =
        ap (λ x. named o x ∷ map (output_seen at cs u) os) (sight_every at cs o)
        ∙ ap (λ l. output_seen at cs s o ∷ l) (outs_every at cs os)

    pub outputs_every : (at : Stack) (cs : Verdicts) → output_sights at cs u ≡ output_sights at cs s
    outputs_every at cs = outs_every at cs at.template.outputs

-- a parameter that is declared is bound
pub hidden : (g : Given) (name : List ℕ) (ps : List Param) → value_at name (settings_for ps g) ≡ None → is_some (found (λ p. p.name) name ps) ≡ false
hidden g name [] h = refl
hidden g name (p ∷ ps) h = by_name (bytes_eq name p.name) h (hidden g name ps) where
  by_name : (b : Bool) → cond b (Some (setting_given g p)) (value_at name (settings_for ps g)) ≡ None
      → (value_at name (settings_for ps g) ≡ None → is_some (found (λ q. q.name) name ps) ≡ false) → is_some (cond b (Some p) (found (λ q. q.name) name ps)) ≡ false
  by_name true k ih = let no : ⊥ = cc in absurd no
  by_name false k ih = ih k

-- what stands under a name is among all
in_all : (t : Stack) (id : List ℕ) (ids : List (List ℕ)) → In (map (path_in t.path) ids) (unwrap_or (value_at id (first_stands t ids)) [])
in_all t id [] q h = absurd (true≢false (sym h))
in_all t id (k ∷ ids) q h = by_name (bytes_eq id k) h (in_all t id ids q) where
  by_name : (b : Bool) → is_among q (unwrap_or (cond b (Some (path_in t.path k ∷ [])) (value_at id (first_stands t ids))) []) ≡ true
      → (is_among q (unwrap_or (value_at id (first_stands t ids)) []) ≡ true → is_among q (map (path_in t.path) ids) ≡ true) → is_among q ((path_in t.path k ∷ []) ++ map (path_in t.path) ids) ≡ true
  by_name true g ih = among_first q (path_in t.path k ∷ []) (map (path_in t.path) ids) g
  by_name false g ih = among_second q (path_in t.path k ∷ []) (map (path_in t.path) ids) (ih g)

module _ (source : Source) (a b : Seen) where
  both_seen : (x y : Option SeenAt) → option_and_then (λ s. s.physical) y ≡ option_and_then (λ s. s.physical) x → option_and_then (λ s. s.attrs) y ≡ option_and_then (λ s. s.attrs) x
      → seen_as y ≡ seen_as x
  both_seen None None g h = refl
  both_seen None (Some t) g h = ap (λ p. sight.Made p t.attrs) g ∙ ap (sight.Made None) h
  both_seen (Some s) None g h = ap (λ p. sight.Made p None) g ∙ ap (sight.Made s.physical) h
  both_seen (Some s) (Some t) g h = ap (λ p. sight.Made p t.attrs) g ∙ ap (sight.Made s.physical) h

  seen_same : (path : List ℕ) → AgreeAt (path ∷ []) a b → seen_as (value_at path b) ≡ seen_as (value_at path a)
  seen_same path g = let e = g path (ap (λ t. t || false) ((bytes_eq-Decides path path).1 refl)) in both_seen (value_at path a) (value_at path b) e.0 e.1

  abbrev pub SightsRest : StandsFor → Sights → Sights → Type 0
  SightsRest stands m n = (id : List ℕ) → AgreeAt (unwrap_or (value_at id stands) []) a b → value_at id n ≡ value_at id m

  pub first_rest : (t : Stack) (conds : Verdicts) (ids : List (List ℕ)) → SightsRest (first_stands t ids) (first_sights t conds a ids) (first_sights t conds b ids)
  first_rest t conds [] id g = refl
  first_rest t conds (k ∷ ids) id g = by_name (bytes_eq id k) g (first_rest t conds ids id) where
    by_name : (e : Bool) → AgreeAt (unwrap_or (cond e (Some (path_in t.path k ∷ [])) (value_at id (first_stands t ids))) []) a b
        → (AgreeAt (unwrap_or (value_at id (first_stands t ids)) []) a b → value_at id (first_sights t conds b ids) ≡ value_at id (first_sights t conds a ids))
        → cond e (Some (seen_as (value_at (path_in t.path k) b))) (value_at id (first_sights t conds b ids)) ≡ cond e (Some (seen_as (value_at (path_in t.path k) a))) (value_at id (first_sights t conds a ids))
    by_name true h ih = ap (λ x. Some x) (seen_same (path_in t.path k) h)
    by_name false h ih = ih h

  pub put_rest : (stands : StandsFor) (m n : Sights) (k : List ℕ) (ps : List (List ℕ)) (x y : Sight) → SightsRest stands m n → (AgreeAt ps a b → y ≡ x)
      → SightsRest (put k ps stands) (put k x m) (put k y n)
  put_rest stands m n k ps x y h e id g =
      value_put id k y n ∙ either (bytes_eq id k) (subst (λ o. AgreeAt (unwrap_or o []) a b) (value_put id k ps stands) g) ∙ sym (value_put id k x m) where
        either : (t : Bool) → AgreeAt (unwrap_or (cond t (Some ps) (value_at id stands)) []) a b → cond t (Some y) (value_at id n) ≡ cond t (Some x) (value_at id m)
        either true k = ap (λ z. Some z) (e k)
        either false k = h id k

  put_every : (m n : Sights) (k : List ℕ) (x y : Sight) → ((id : List ℕ) → value_at id n ≡ value_at id m) → y ≡ x → (id : List ℕ) → value_at id (put k y n) ≡ value_at id (put k x m)
  put_every m n k x y h e id = value_put id k y n ∙ either (bytes_eq id k) ∙ sym (value_put id k x m) where
    either : (t : Bool) → cond t (Some y) (value_at id n) ≡ cond t (Some x) (value_at id m)
    either true = ap (λ z. Some z) e
    either false = h id

  abbrev pub over : Stack → Verdicts → Given → Scoping
  over t conds g = scoping source t conds (settings_for t.template.params g)

  first_part : (xs ys : List (List ℕ)) → AgreeAt (xs ++ ys) a b → AgreeAt xs a b
  first_part xs ys g q h = g q (among_first q xs ys h)

  second_part : (xs ys : List (List ℕ)) → AgreeAt (xs ++ ys) a b → AgreeAt ys a b
  second_part xs ys g q h = g q (among_second q xs ys h)

  -- where all in a nested stack is seen the same, so are its outputs
  mutual
    after_every : (t : Stack) (conds : Verdicts) (g : Given) (m n : Sights) (w : Work) → ((id : List ℕ) → value_at id n ≡ value_at id m) → AgreeAt (paths_below w) a b
        → (id : List ℕ) → value_at id (sights_after source b (over t conds g) n w) ≡ value_at id (sights_after source a (over t conds g) m w)
    after_every t conds g m n no_work h k = h
    after_every t conds g m n (resource r w) h k = after_every t conds g m n w h k
    after_every t conds g m n (nested x i w) h k =
        after_every t conds g _ _ w
        (put_every m n x.id _ _ h
        (ap (λ os. sight.Nested (stack_id x.name source.number) (by_names os)) (inside_every t conds g m n i h (first_part (paths_inside i) x.needs (first_part (paths_inside i ++ x.needs) (paths_below w) k)))))
        (second_part (paths_inside i ++ x.needs) (paths_below w) k)

    inside_every : (t : Stack) (conds : Verdicts) (g : Given) (m n : Sights) (i : Inside) → ((id : List ℕ) → value_at id n ≡ value_at id m) → AgreeAt (paths_inside i) a b
        → outputs_inside source b (over t conds g n) i ≡ outputs_inside source a (over t conds g m) i
    inside_every t conds g m n (shut f) h k = refl
    inside_every t conds g m n (inside.given_by form x) h k =
        ap (λ y. outputs_of source b y x) (given_every t.template (settings_for t.template.params g) conds (pseudo_of t.name source.number) source.imports m n h form)
        ∙ body_every (given_in (over t conds g m) form) x k

    body_every : (g : Given) (x : Body) → AgreeAt (paths_in x) a b → outputs_of source b g x ≡ outputs_of source a g x
    body_every g (barred f) k = refl
    body_every g (halted t f) k = refl
    body_every g (opened t conds w) k =
        outputs_every t.template (settings_for t.template.params g) conds (pseudo_of t.name source.number) source.imports
        (sights_after source a (over t conds g) (first_sights t conds a (own_ids w)) w) (sights_after source b (over t conds g) (first_sights t conds b (own_ids w)) w)
        (after_every t conds g (first_sights t conds a (own_ids w)) (first_sights t conds b (own_ids w)) w
        (λ id. first_rest t conds (own_ids w) id (λ q h. first_part (map (path_in t.path) (own_ids w)) (paths_below w) k q (in_all t id (own_ids w) q h)))
        (second_part (map (path_in t.path) (own_ids w)) (paths_below w) k))
        t conds

  -- mentions that are covered agree
  pub all_agree : (t : Template) (g : Given) (needs : List (List ℕ)) (stands : StandsFor) (m n : Sights) → SightsRest stands m n → AgreeAt needs a b → (ms : List Mention)
      → CoversAll t needs stands ms → SeesAllSame (settings_for t.params g) m n ms
  all_agree t g needs stands m n h k [] c = tt
  all_agree t g needs stands m n h k (by_ref name ∷ ms) c =
      (λ o. h name (λ q i. k q (c.0 (hidden g name t.params o) q i)), all_agree t g needs stands m n h k ms c.1)
  all_agree t g needs stands m n h k (by_attribute name ∷ ms) c = (h name (λ q i. k q (c.0 q i)), all_agree t g needs stands m n h k ms c.1)

  abbrev RestsAll : List (Member × Evaluated) → List (Member × Evaluated) → Type 0
  RestsAll [] [] = ⊤
  RestsAll (x ∷ xs) (y ∷ ys) = ((y.0 ≡ x.0) × (AgreeAt x.0.needs a b → y.1 ≡ x.1)) × RestsAll xs ys
  RestsAll _ _ = ⊥

  rests_and : (xs ys vs ws : List (Member × Evaluated)) → RestsAll xs ys → RestsAll vs ws → RestsAll (xs ++ vs) (ys ++ ws)
  rests_and [] [] vs ws h k = k
  rests_and [] (y ∷ ys) vs ws h k = absurd h
  rests_and (x ∷ xs) [] vs ws h k = absurd h
  rests_and (x ∷ xs) (y ∷ ys) vs ws h k = (h.0, rests_and xs ys vs ws h.1 k)

  module _ (t : Stack) (conds : Verdicts) (needs : List (List ℕ)) (g h : Given) (same : AgreeAt needs a b → h ≡ g) where
    pub given_rest : (own : List (List ℕ)) (stands : StandsFor) (m n : Sights) (form : Option Form) → In own needs → CoversForm t.template conds own stands form → SightsRest stands m n → AgreeAt own a b
        → given_in (over t conds h n) form ≡ given_in (over t conds g m) form
    given_rest own stands m n form around c k agree =
        ap (λ x. given_in (over t conds x n) form) (same (λ q i. agree q (around q i)))
        ∙ given_same t.template (settings_for t.template.params g) conds (pseudo_of t.name source.number) source.imports m n form (agrees form c) where
          agrees : (o : Option Form) → CoversForm t.template conds own stands o → FormAgrees t.template (settings_for t.template.params g) conds (pseudo_of t.name source.number) source.imports m n o
          agrees None d = tt
          agrees (Some f) d = all_agree t.template g own stands m n k agree (mentions_of (holds_in conds) f) d

    member_rests : (stands : StandsFor) (m n : Sights) (r : Member) → In r.needs needs → CoversAll t.template r.needs stands (fields_mentions (holds_in conds) (fields_of r.props)) → SightsRest stands m n
        → AgreeAt r.needs a b → member_props t.path (over t conds h n) r ≡ member_props t.path (over t conds g m) r
    member_rests stands m n r around c k agree =
        ap (λ x. member_props t.path (over t conds x n) r) (same (λ q i. agree q (around q i)))
        ∙ ap (λ ps. unless_flaw r.unnamed (evaluated_in t.path ps))
        (props_same t.template (settings_for t.template.params g) conds (pseudo_of t.name source.number) source.imports m n r.props
        (all_agree t.template g r.needs stands m n k agree (fields_mentions (holds_in conds) (fields_of r.props)) c))

    pub inside_outputs : (own : List (List ℕ)) (stands : StandsFor) (m n : Sights) (i : Inside) → In own needs → CoversInside t.template conds own stands i → SightsRest stands m n
        → AgreeAt (paths_inside i ++ own) a b → outputs_inside source b (over t conds h n) i ≡ outputs_inside source a (over t conds g m) i
    inside_outputs own stands m n (shut f) around c k agree = refl
    inside_outputs own stands m n (inside.given_by form x) around c k agree =
        ap (λ y. outputs_of source b y x) (given_rest own stands m n form around c.0 k (second_part (paths_in x) own agree))
        ∙ body_every (given_in (over t conds g m) form) x (first_part (paths_in x) own agree)

  mutual
    along_rests : (t : Stack) (conds : Verdicts) (needs : List (List ℕ)) (g h : Given) → (AgreeAt needs a b → h ≡ g) → (stands : StandsFor) (m n : Sights) (w : Work)
        → Covers t.template conds needs stands w → SightsRest stands m n
        → RestsAll (valued_along source a t.path (over t conds g) m w) (valued_along source b t.path (over t conds h) n w)
    along_rests t conds needs g h same stands m n no_work c k = tt
    along_rests t conds needs g h same stands m n (resource r w) c k =
        ((refl, member_rests t conds needs g h same stands m n r c.0.0 c.0.1 k), along_rests t conds needs g h same stands m n w c.1 k)
    along_rests t conds needs g h same stands m n (nested x i w) c k =
        rests_and _ _ _ _ (inside_rests t conds needs g h same x.needs stands m n i c.0.0 c.0.1 k)
        (along_rests t conds needs g h same (put x.id (paths_inside i ++ x.needs) stands) _ _ w c.1
        (put_rest stands m n x.id (paths_inside i ++ x.needs) _ _ k
        (λ agree. ap (λ os. sight.Nested (stack_id x.name source.number) (by_names os)) (inside_outputs t conds needs g h same x.needs stands m n i c.0.0 c.0.1 k agree))))

    inside_rests : (t : Stack) (conds : Verdicts) (needs : List (List ℕ)) (g h : Given) → (AgreeAt needs a b → h ≡ g) → (own : List (List ℕ)) (stands : StandsFor) (m n : Sights) (i : Inside)
        → In own needs → CoversInside t.template conds own stands i → SightsRest stands m n
        → RestsAll (valued_inside source a (over t conds g m) i) (valued_inside source b (over t conds h n) i)
    inside_rests t conds needs g h same own stands m n (shut f) around c k = tt
    inside_rests t conds needs g h same own stands m n (inside.given_by form x) around c k =
        body_rests own x c.1 (given_in (over t conds g m) form) (given_in (over t conds h n) form) (given_rest t conds needs g h same own stands m n form around c.0 k)

    body_rests : (needs : List (List ℕ)) (x : Body) → CoversBody needs x → (g h : Given) → (AgreeAt needs a b → h ≡ g) → RestsAll (valued_in source a g x) (valued_in source b h x)
    body_rests needs (barred f) c g h same = tt
    body_rests needs (halted t f) c g h same = tt
    body_rests needs (opened t conds w) c g h same =
        along_rests t conds needs g h same (first_stands t (own_ids w)) (first_sights t conds a (own_ids w)) (first_sights t conds b (own_ids w)) w c.1 (first_rest t conds (own_ids w))

  -- the resources that are evaluated are those of the shape
  abbrev pub AreOf : List (Member × Evaluated) → List Member → Type 0
  AreOf [] [] = ⊤
  AreOf (x ∷ xs) (m ∷ ms) = (x.0 ≡ m) × AreOf xs ms
  AreOf _ _ = ⊥

  of_and : (xs ys : List (Member × Evaluated)) (ms ns : List Member) → AreOf xs ms → AreOf ys ns → AreOf (xs ++ ys) (ms ++ ns)
  of_and [] ys [] ns h k = k
  of_and [] ys (m ∷ ms) ns h k = absurd h
  of_and (x ∷ xs) ys [] ns h k = absurd h
  of_and (x ∷ xs) ys (m ∷ ms) ns h k = (h.0, of_and xs ys ms ns h.1 k)

  mutual
    along_of : (path : List ℕ) (o : Scoping) (m : Sights) (w : Work) → AreOf (valued_along source a path o m w) (resources_along w)
    along_of path o m no_work = tt
    along_of path o m (resource r w) = (refl, along_of path o m w)
    along_of path o m (nested x i w) = of_and _ _ _ _ (inside_of (o m) i) (along_of path o _ w)

    inside_of : (s : Scope) (i : Inside) → AreOf (valued_inside source a s i) (resources_inside i)
    inside_of s (shut f) = tt
    inside_of s (inside.given_by form x) = body_of (given_in s form) x

    pub body_of : (g : Given) (x : Body) → AreOf (valued_in source a g x) (resources_in x)
    body_of g (barred f) = tt
    body_of g (halted t f) = tt
    body_of g (opened t conds w) = along_of t.path (over t conds g) (first_sights t conds a (own_ids w)) w

  found_rest : (path : List ℕ) (m : Member) (xs ys : List (Member × Evaluated)) (ms : List Member) → RestsAll xs ys → AreOf xs ms → find (λ x. bytes_eq path x.path) ms ≡ Some m → AgreeAt m.needs a b
      → option_map (λ r. r.1) (at_path path ys) ≡ option_map (λ r. r.1) (at_path path xs)
  found_rest path m [] [] ms h k q g = refl
  found_rest path m [] (y ∷ ys) ms h k q g = absurd h
  found_rest path m (x ∷ xs) [] ms h k q g = absurd h
  found_rest path m (x ∷ xs) (y ∷ ys) [] h k q g = absurd k
  found_rest path m (x ∷ xs) (y ∷ ys) (z ∷ ms) h k q g =
      ap (λ p. option_map (λ r. r.1) (cond (bytes_eq path p.path) (Some y) (at_path path ys))) h.0.0
      ∙ by_path (bytes_eq path x.0.path) (ap (λ p. cond (bytes_eq path p.path) (Some z) (find (λ w. bytes_eq path w.path) ms)) k.0 ∙ q) (λ e. found_rest path m xs ys ms h.1 k.1 e g) where
        by_path : (t : Bool) → cond t (Some z) (find (λ w. bytes_eq path w.path) ms) ≡ Some m
            → (find (λ w. bytes_eq path w.path) ms ≡ Some m → option_map (λ r. r.1) (at_path path ys) ≡ option_map (λ r. r.1) (at_path path xs))
            → option_map (λ r. r.1) (cond t (Some y) (at_path path ys)) ≡ option_map (λ r. r.1) (cond t (Some x) (at_path path xs))
        by_path true e ih = let same : z ≡ m = cc in ap (λ v. Some v) (h.0.1 (subst (λ w. AgreeAt w.needs a b) (sym (k.0 ∙ same)) g))
        by_path false e ih = ih e

pub needs_suffice : NeedsMatter
needs_suffice source before a b path m q g =
    found_rest source a b path m (valued_in source a (given_root source) (shape_of source before)) (valued_in source b (given_root source) (shape_of source before)) (resources_in (shape_of source before))
    (body_rests source a b [] (shape_of source before) (shape_covered source before) (given_root source) (given_root source) (λ k. refl))
    (body_of source a b (given_root source) (shape_of source before)) q g
