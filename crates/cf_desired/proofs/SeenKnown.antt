-- Where all paths are seen, a plan without a flaw is known.
use Rattle.std.proofs.Common.{◌≡◌, ℕ, List, [], ◌∷◌, ◌++◌, Bool, true, false, not, ◌&&◌, ◌||◌, Option, Some, None, Result, Ok, Err, refl, sym, ap, subst, ◌∙◌, true≢false, filter, map, option_map}
use Rattle.std.specs.Prelude.{⊤, cond, flat_map, is_some}
use Rattle.std.specs.Cmp.{first_so, second_so}
use Rattle.std.specs.List.{list_all}
use Rattle.std.specs.Option.{option_map_or, option_and_then, option_or}
use Rattle.std.specs.Str.{bytes_eq}
use Rattle.std.proofs.lemmas.List.Folds.{list_all-append}
use Rattle.cf_tree.specs.Datum.{Data, Members, dict, list, text, whole, truth, no_members, member}
use Rattle.cf_tree.specs.Forms.{Form, Node, Fields, expr, lit, ref, get_att, sub, join, select, split, choice, find_in_map, import_value, base64, no_fields, field, place_of}
use Rattle.cf_tree.specs.Forms as node
use Rattle.cf_tree.specs.Keys.{value_at, put}
use Rattle.cf_tree.specs.declared.bound.Setting.{Setting}
use Rattle.cf_tree.specs.declared.bound.Setting.TheVariants as setting
use Rattle.cf_tree.specs.declared.bound.Verdict.{Verdict}
use Rattle.cf_tree.specs.declared.bound.Verdict.TheVariants as verdict
use Rattle.cf_tree.specs.declared.source.Source.{Source}
use Rattle.cf_tree.specs.declared.template.Out.{Out}
use Rattle.cf_tree.specs.declared.template.Param.{Param}
use Rattle.cf_tree.specs.declared.template.Res.{Res}
use Rattle.cf_tree.specs.declared.template.Template.{Template}
use Rattle.cf_eval.specs.declared.fault.EvalWhy.TheVariants.{WrongKind}
use Rattle.cf_param.specs.Binding.{binding_of, bound_to, settings_of, undeclared, breach_of, constrained_texts, default_of}
use Rattle.cf_param.specs.Binding as binding
use Rattle.cf_param.specs.declared.fault.BindFault.{BindFault}
use Rattle.cf_param.specs.declared.fault.BindFault.TheVariants as unbound
use Rattle.cf_param.specs.declared.constraints.Breach.{Breach}
use Rattle.cf_param.specs.declared.offered.Piece.{Piece}
use Rattle.cf_param.specs.declared.offered.Piece.TheVariants as piece
use Rattle.cf_desired.specs.Names.{path_in, stack_id}
use Rattle.cf_desired.specs.Seeing.{SeenAt, Seen, is_output_made, seen_as, own_ids, unmade_sight, first_sights, unnamed_output, export_wanted, export_stop, output_stop, text_in, text_known, broken_at, output_sight, output_seen, nested_sight, sights_after, outputs_inside, outputs_of, by_names}
use Rattle.cf_desired.specs.Valued.{unless_flaw, member_props, resources_in, valued_along, valued_inside, valued_in}
use Rattle.cf_desired.specs.Met.{flaws_of, Met, an_output, a_flaw, flaw_met, met_along, met_inside, met_in, offers_flaw, bind_flaw, exporting_as, exporting_in, output_at, outputs_met, scope_after}
use Rattle.cf_desired.specs.Plan.{output_flaws, exported, exported_as, export_met, wanted_of, outputs_in}
use Rattle.cf_desired.specs.Stays.{is_shown, id_seen, is_settled, SeenIsKnown}
use Rattle.cf_desired.specs.Whole.{known_of, known_props_from, right_of, right_output, right_export, with_export, right_export_name as exported_name}
use Rattle.cf_desired.specs.declared.flaw.Flaw.{Flaw}
use Rattle.cf_desired.specs.declared.flaw.Flaw.TheVariants as flaw
use Rattle.cf_desired.specs.declared.wanted.Exporting.{Exporting}
use Rattle.cf_desired.specs.declared.wanted.Exporting.TheVariants as exporting
use Rattle.cf_desired.specs.declared.wanted.Evaluated.{Evaluated}
use Rattle.cf_desired.specs.declared.wanted.Evaluated.TheVariants.{Flawed as flawed, Known as evaluated}
use Rattle.cf_graph.specs.Needs.{is_made}
use Rattle.cf_tree.specs.Lists.{is_among}
use Rattle.cf_desired.proofs.OrderNeeds.{among_first, among_second}
use Rattle.cf_desired.proofs.Puts.{value_put}
use Rattle.cf_desired.proofs.ComeFirst.{paths_among}
use Rattle.std.proofs.lemmas.List.{append-nil}
use Rattle.std.proofs.lemmas.Slice.Eq.{bytes_eq-Decides}
use Rattle.cf_desired.specs.Given.{Given, pieces, unknown, Offered, Offers, offers_in, node_offers, offers_of, offered_fields, offered_members, map_wanted, parts_stop, kind_stop, kinds_stop, offers_stop, given_in, given_by, given_pieces, with_piece, piece_text, or_unknown, settings_for, error_of, bind_fault}
use Rattle.cf_eval.specs.Outcome.{Outcome, Stop, got, later, bad, fault, undecided, below, on_got}
use Rattle.cf_eval.specs.declared.env.OutputSight.TheVariants as output
use Rattle.cf_eval.specs.Scope.{Scope, decided_at, setting_of, verdict_of}
use Rattle.cf_desired.specs.Shape.{StandsFor, first_stands, paths_below, paths_inside, paths_in, given_root, shape_of}
use Rattle.cf_eval.specs.declared.env.Sight.{Sight}
use Rattle.cf_eval.specs.declared.env.Sight.TheVariants as sight
use Rattle.cf_desired.specs.Stack.{Stack, Verdicts, Settings, Sights, Scoping, evaluated_in, scoping, stop_in, flaw_at}
use Rattle.cf_eval.specs.Texts.{Found}
use Rattle.cf_eval.specs.Value.{PropsFound, form_found, blamed, value_of, with_prop, props_of, value_within}
use Rattle.cf_desired.specs.Work.{Member, Nesting, Work, Inside, Body, no_work, resource, nested, shut, barred, halted, opened}
use Rattle.cf_desired.specs.Work as inside
use Rattle.cf_desired.proofs.Covers.{AreDecided, CoversBody, CoversInside, Covers, shape_covered}
use Rattle.cf_desired.proofs.Flawless.{HasNone, none_in}
use Rattle.cf_desired.proofs.Sure.{IsSure, IsTold, AllTold, IsFull, IsKnown, as_text_sure, form_sure, undeclared_sure, told_names}

mapped : {A B : Type 0} (f : A → B) (o : Option A) → is_some o ≡ true → is_some (option_map f o) ≡ true
mapped f None h = absurd (true≢false (sym h))
mapped f (Some a) h = refl

-- what is offered is not Later
abbrev AllSure : List Offered → Type 0
AllSure [] = ⊤
AllSure (o ∷ os) = IsSure o.value × AllSure os

abbrev pub OffersSure : Outcome Offers → Type 0
OffersSure (got o) = AllSure o.members
OffersSure later = ⊥
OffersSure (bad w) = ⊤

members_sure : (at : List ℕ) (ms : Members) → AllSure (offered_members at ms)
members_sure at no_members = tt
members_sure at (member k d ms) = (tt, members_sure at ms)

map_sure : (at : List ℕ) (o : Option Data) → OffersSure (map_wanted at o)
map_sure at None = tt
map_sure at (Some (dict ms)) = members_sure at ms
map_sure at (Some (list ds)) = tt
map_sure at (Some (text t)) = tt
map_sure at (Some (whole n)) = tt
map_sure at (Some (truth b)) = tt

offers_then : {A : Type 0} (x : Outcome A) (f : A → Outcome Offers) → IsSure x → ((a : A) → OffersSure (f a)) → OffersSure (on_got x f)
offers_then (got a) f h k = k a
offers_then later f h k = absurd h
offers_then (bad w) f h k = tt

branch_sure : (b : Bool) (x y : Outcome Offers) → OffersSure x → OffersSure y → OffersSure (cond b x y)
branch_sure true x y h k = h
branch_sure false x y h k = k

module _ (s : Scope) (known : IsKnown s) where
  fields_offered : (around : Option (List ℕ)) (fs : Fields) → AllSure (offered_fields s around fs)
  fields_offered around no_fields = tt
  fields_offered around (field k e fs) = (undeclared_sure (form_found s around e) (form_sure s around e known), fields_offered around fs)

  value_offered : (around : Option (List ℕ)) (at : List ℕ) (x : Node) → OffersSure (on_got (value_within s around (expr at x)) (map_wanted (blamed around at x)))
  value_offered around at x = offers_then (value_within s around (expr at x)) (map_wanted (blamed around at x)) (undeclared_sure (form_found s around (expr at x)) (form_sure s around (expr at x) known)) (map_sure (blamed around at x))

  mutual
    offers_sure : (around : Option (List ℕ)) (e : Form) → OffersSure (offers_in s around e)
    offers_sure around (expr at x) = node_sure around at x

    node_sure : (around : Option (List ℕ)) (at : List ℕ) (x : Node) → OffersSure (node_offers s around at x)
    node_sure around at (node.dict fs) = fields_offered around fs
    node_sure around at (choice name y z) = offers_then (s.decided at name) _ (known.decided at name) (λ b. branch_sure b _ _ (offers_sure (Some at) y) (offers_sure (Some at) z))
    node_sure around at (lit d) = value_offered around at (lit d)
    node_sure around at (node.list es) = value_offered around at (node.list es)
    node_sure around at (ref name) = value_offered around at (ref name)
    node_sure around at (get_att id x) = value_offered around at (get_att id x)
    node_sure around at (sub ps own) = value_offered around at (sub ps own)
    node_sure around at (join d e) = value_offered around at (join d e)
    node_sure around at (select i e) = value_offered around at (select i e)
    node_sure around at (split d e) = value_offered around at (split d e)
    node_sure around at (find_in_map x f l) = value_offered around at (find_in_map x f l)
    node_sure around at (import_value e) = value_offered around at (import_value e)
    node_sure around at (base64 e) = value_offered around at (base64 e)

  pub given_sure : (form : Option Form) → OffersSure (offers_of s form)
  given_sure None = tt
  given_sure (Some f) = offers_sure None f

-- what is given is known
abbrev pub NoLater : Given → Type 0
NoLater (pieces ps) = (name : List ℕ) → value_at name ps ≡ Some piece.Later → ⊥
NoLater unknown = ⊥

pub neither : {A : Type 0} (x y : Option A) → option_or x y ≡ None → (x ≡ None) × (y ≡ None)
neither None y h = (refl, h)
neither (Some a) y h = let no : ⊥ = cc in absurd no

pieces_known : (os : List Offered) → AllSure os → parts_stop os ≡ None → kinds_stop os ≡ None → (name : List ℕ) → value_at name (given_pieces os) ≡ Some piece.Later → ⊥
pieces_known [] h p k name q = let no : ⊥ = cc in no
pieces_known (o ∷ os) h p k name q =
    let part = neither (stop_in o.value) (parts_stop os) p in
    let kind = neither (kind_stop o.at o.value) (kinds_stop os) k in
    one o.value h.0 part.0 kind.0 q (pieces_known os h.1 part.1 kind.1 name) where
      by_name : (b : Bool) (d : Data) (t : Option (List ℕ)) → option_map_or (λ x. None) t (Some (fault WrongKind o.at)) ≡ None
          → cond b (Some (option_map_or (λ x. piece.Text x) t piece.Later)) (value_at name (given_pieces os)) ≡ Some piece.Later → (value_at name (given_pieces os) ≡ Some piece.Later → ⊥) → ⊥
      by_name true d None g e ih = let no : ⊥ = cc in no
      by_name true d (Some t) g e ih = let no : ⊥ = cc in no
      by_name false d t g e ih = ih e

      one : (x : Found) → IsSure x → stop_in x ≡ None → kind_stop o.at x ≡ None → value_at name (with_piece o.name x (given_pieces os)) ≡ Some piece.Later → (value_at name (given_pieces os) ≡ Some piece.Later → ⊥) → ⊥
      one (got None) s p k e ih = ih e
      one (got (Some d)) s p k e ih = by_name (bytes_eq name o.name) d (piece_text d) k e ih
      one later s p k e ih = s
      one (bad w) s p k e ih = let no : ⊥ = cc in no

pub given_known : (x : Outcome Offers) → OffersSure x → offers_stop x ≡ None → NoLater (given_by x)
given_known (got o) s h =
    let parts = neither (parts_stop o.members) (option_or (kinds_stop o.members) o.whole) h in
    pieces_known o.members s parts.0 (neither (kinds_stop o.members) o.whole parts.1).0
given_known later s h = absurd s
given_known (bad w) s h = let no : ⊥ = cc in absurd no

-- parameters that are bound are known
abbrev pub AreBound : List Param → Given → Type 0
AreBound params g = (name : List ℕ) → value_at name (settings_for params g) ≡ Some setting.Later → ⊥

text_bound : (p : Param) (t : List ℕ) → error_of (binding.setting_from p t) ≡ None → or_unknown (binding.setting_from p t) ≡ setting.Later → ⊥
text_bound p t h e = either (breach_of p (constrained_texts p.kind t)) h e where
  either : (o : Option Breach) → error_of (option_map_or (λ b. Err (binding.breach_fault p.name b)) o (Ok (setting.Value (binding.setting_value p.kind t)))) ≡ None
      → or_unknown (option_map_or (λ b. Err (binding.breach_fault p.name b)) o (Ok (setting.Value (binding.setting_value p.kind t)))) ≡ setting.Later → ⊥
  either None h e = let no : ⊥ = cc in no
  either (Some b) h e = let no : ⊥ = cc in no

one_bound : (p : Param) (o : Option Piece) → (o ≡ Some piece.Later → ⊥) → error_of (bound_to p o) ≡ None → or_unknown (bound_to p o) ≡ setting.Later → ⊥
one_bound p (Some piece.Later) n h e = n refl
one_bound p (Some (piece.Text t)) n h e = text_bound p t h e
one_bound p None n h e = by_default p.default h e where
  by_default : (d : Option (List ℕ)) → error_of (default_of p d) ≡ None → or_unknown (default_of p d) ≡ setting.Later → ⊥
  by_default None h e = let no : ⊥ = cc in no
  by_default (Some t) h e = text_bound p t h e

each_bound : (params : List Param) (given : List (List ℕ × Piece)) (bound : Settings) → ((name : List ℕ) → value_at name given ≡ Some piece.Later → ⊥) → error_of (settings_of params given bound) ≡ None → AreBound params (pieces given)
each_bound [] given bound n h name e = let no : ⊥ = cc in no
each_bound (p ∷ ps) given bound n h name e =
    by_result (bound_to p (value_at p.name given)) refl h (λ s k. each_bound ps given (put p.name s bound) n k name) where
      by_name : (b : Bool) → error_of (bound_to p (value_at p.name given)) ≡ None → cond b (Some (or_unknown (bound_to p (value_at p.name given)))) (value_at name (settings_for ps (pieces given))) ≡ Some setting.Later
          → (value_at name (settings_for ps (pieces given)) ≡ Some setting.Later → ⊥) → ⊥
      by_name true k d ih = one_bound p (value_at p.name given) (n p.name) k (cc)
      by_name false k d ih = ih d

      by_result : (r : Result Setting BindFault) → bound_to p (value_at p.name given) ≡ r → error_of (binding.and_then r (λ s. settings_of ps given (put p.name s bound))) ≡ None
          → ((s : Setting) → error_of (settings_of ps given (put p.name s bound)) ≡ None → value_at name (settings_for ps (pieces given)) ≡ Some setting.Later → ⊥) → ⊥
      by_result (Ok s) q k ih = by_name (bytes_eq name p.name) (ap error_of q) e (ih s k)
      by_result (Err f) q k ih = let no : ⊥ = cc in no

pub all_bound : (params : List Param) (g : Given) → NoLater g → bind_fault params g ≡ None → AreBound params g
all_bound params unknown n h = absurd n
all_bound params (pieces given) n h = either (undeclared params given) h where
  either : (o : Option (List ℕ)) → error_of (option_map_or (λ name. Err (unbound.Undeclared name)) o (settings_of params given [])) ≡ None → AreBound params (pieces given)
  either None k = each_bound params given [] n k
  either (Some name) k = let no : ⊥ = cc in absurd no

pub root_known : (source : Source) → NoLater (given_root source)
root_known source = each source.given where
  each : (gs : List (List ℕ × List ℕ)) (name : List ℕ) → value_at name (map (λ g. (g.0, piece.Text g.1)) gs) ≡ Some piece.Later → ⊥
  each [] name h = let no : ⊥ = cc in no
  each (g ∷ gs) name h = either (bytes_eq name g.0) h (each gs name) where
    either : (b : Bool) → cond b (Some (piece.Text g.1)) (value_at name (map (λ x. (x.0, piece.Text x.1)) gs)) ≡ Some piece.Later → (value_at name (map (λ x. (x.0, piece.Text x.1)) gs) ≡ Some piece.Later → ⊥) → ⊥
    either true e ih = let no : ⊥ = cc in no
    either false e ih = ih e

-- flaws that are not there
no_flaw : (path : List ℕ) (o : Option Stop) → HasNone (flaw_met (option_map (flaw_at path) o)) → o ≡ None
no_flaw path None h = refl
no_flaw path (Some w) h = let no : ⊥ = cc in absurd no

no_fault : (t : Stack) (g : Given) → HasNone (flaw_met (bind_flaw t g)) → bind_fault t.template.params g ≡ None
no_fault t g h = either (bind_fault t.template.params g) h where
  either : (o : Option BindFault) → HasNone (flaw_met (option_map (flaw.Bind t.path) o)) → o ≡ None
  either None k = refl
  either (Some f) k = let no : ⊥ = cc in absurd no

abbrev pub IsFullAll : Sights → Type 0
IsFullAll m = (id : List ℕ) → IsFull (value_at id m)

module _ (source : Source) (seen : Seen) where
  abbrev pub over : Stack → Verdicts → Given → Scoping
  over t conds g = scoping source t conds (settings_for t.template.params g)

  pub scope_known : (t : Stack) (conds : Verdicts) (g : Given) (m : Sights) → AreDecided conds → AreBound t.template.params g → IsFullAll m → IsKnown (over t conds g m)
  scope_known t conds g m d b f = record {
    params = λ name h. param (value_at name (settings_for t.template.params g)) (b name) h;
    decided = λ at name. condition at name (value_at name conds) (d name);
    beyond = f;
  } where
    param : (o : Option Setting) → (o ≡ Some setting.Later → ⊥) → option_map setting_of o ≡ Some None → ⊥
    param None n h = let no : ⊥ = cc in no
    param (Some setting.Later) n h = n refl
    param (Some (setting.Value v)) n h = let no : ⊥ = cc in no

    condition : (at name : List ℕ) (o : Option Verdict) → (o ≡ Some verdict.Later → ⊥) → IsSure (decided_at at name (option_map verdict_of o))
    condition at name None n = tt
    condition at name (Some verdict.True) n = tt
    condition at name (Some verdict.False) n = tt
    condition at name (Some verdict.Later) n = n refl

  abbrev pub AreShown : List (List ℕ) → Type 0
  AreShown ps = (q : List ℕ) → is_among q ps ≡ true → is_shown seen q ≡ true

  pub first_shown : (xs ys : List (List ℕ)) → AreShown (xs ++ ys) → AreShown xs
  first_shown xs ys h q k = h q (among_first q xs ys k)

  pub second_shown : (xs ys : List (List ℕ)) → AreShown (xs ++ ys) → AreShown ys
  second_shown xs ys h q k = h q (among_second q xs ys k)

  unmade_full : (rs : List Res) → IsFullAll (map unmade_sight rs)
  unmade_full [] id = tt
  unmade_full (r ∷ rs) id = either (bytes_eq id r.name) (unmade_full rs id) where
    either : (b : Bool) → IsFull (value_at id (map unmade_sight rs)) → IsFull (cond b (Some sight.NotMade) (value_at id (map unmade_sight rs)))
    either true ih = tt
    either false ih = ih

  seen_full : (o : Option SeenAt) → is_some (option_and_then (λ s. s.physical) o) ≡ true → is_some (option_and_then (λ s. s.attrs) o) ≡ true → IsFull (Some (seen_as o))
  seen_full None g h = absurd (true≢false (sym g))
  seen_full (Some s) g h = both s.physical s.attrs g h where
    both : (p : Option (List ℕ)) (a : Option (List (List ℕ × Data))) → is_some p ≡ true → is_some a ≡ true → IsFull (Some (sight.Made p a))
    both None a g h = absurd (true≢false (sym g))
    both (Some p) None g h = absurd (true≢false (sym h))
    both (Some p) (Some a) g h = tt

  pub first_full : (t : Stack) (conds : Verdicts) (ids : List (List ℕ)) → AreShown (map (path_in t.path) ids) → IsFullAll (first_sights t conds seen ids)
  first_full t conds [] h id = unmade_full (filter (λ r. not (is_made conds r)) t.template.resources) id
  first_full t conds (k ∷ ids) h id = either (bytes_eq id k) (first_full t conds ids (second_shown (path_in t.path k ∷ []) (map (path_in t.path) ids) h) id) where
    either : (b : Bool) → IsFull (value_at id (first_sights t conds seen ids)) → IsFull (cond b (Some (seen_as (value_at (path_in t.path k) seen))) (value_at id (first_sights t conds seen ids)))
    either true ih =
        let shown = h (path_in t.path k) (ap (λ b. b || is_among (path_in t.path k) (map (path_in t.path) ids)) ((bytes_eq-Decides (path_in t.path k) (path_in t.path k)).1 refl)) in
        seen_full (value_at (path_in t.path k) seen) (first_so (is_some (id_seen (path_in t.path k) seen)) _ shown) (second_so (is_some (id_seen (path_in t.path k) seen)) _ shown)
    either false ih = ih

  pub put_full : (k : List ℕ) (x : Sight) (m : Sights) → IsFull (Some x) → IsFullAll m → IsFullAll (put k x m)
  put_full k x m h f id = subst IsFull (sym (value_put id k x m)) (either (bytes_eq id k)) where
    either : (b : Bool) → IsFull (cond b (Some x) (value_at id m))
    either true = h
    either false = f id

  -- the outputs of a stack over a known scope
  module _ (s : Scope) (known : IsKnown s) where
    text_sure : (e : Form) → IsSure (text_in s e)
    text_sure e = as_text_sure (place_of e) (value_of s e) (undeclared_sure (form_found s None e) (form_sure s None e known))

    got_text : (x : Outcome (List ℕ)) → IsSure x → stop_in x ≡ None → is_some (text_known x) ≡ true
    got_text (got t) h k = refl
    got_text later h k = absurd h
    got_text (bad w) h k = let no : ⊥ = cc in absurd no

    one_told : (t : Stack) (conds : Verdicts) (o : Out) → IsTold (Some (output_sight t conds s o))
    one_told t conds o = by_made (is_output_made conds o) where
      made : (v : Option (List ℕ)) → is_some v ≡ true → IsTold (Some (output.Made v))
      made None h = absurd (true≢false (sym h))
      made (Some v) h = tt

      by_stop : (w : Option Stop) → (w ≡ None → stop_in (text_in s o.value) ≡ None) → IsTold (Some (option_map_or (broken_at t.path) w (output.Made (text_known (text_in s o.value)))))
      by_stop None h = made (text_known (text_in s o.value)) (got_text (text_in s o.value) (text_sure o.value) (h refl))
      by_stop (Some w) h = tt

      by_made : (b : Bool) → IsTold (Some (cond b (option_map_or (broken_at t.path) (output_stop conds s o) (output.Made (text_known (text_in s o.value)))) output.NotMade))
      by_made true =
          by_stop (output_stop conds s o)
          (λ h. (neither (export_stop s o.export) (stop_in (text_in s o.value)) (neither (unnamed_output conds o) (option_or (export_stop s o.export) (stop_in (text_in s o.value))) h).1).1)
      by_made false = tt

    pub all_told : (t : Stack) (conds : Verdicts) (os : List Out) → AllTold (map (output_seen t conds s) os)
    all_told t conds [] = tt
    all_told t conds (o ∷ os) = (one_told t conds o, all_told t conds os)

    -- and properties
    prop_settled : (path name : List ℕ) (x : Found) (r : PropsFound) → IsSure x → is_settled (evaluated_in path r) ≡ true → is_settled (evaluated_in path (with_prop name x r)) ≡ true
    prop_settled path name (bad w) r h k = refl
    prop_settled path name (got None) (Err f) h k = refl
    prop_settled path name (got None) (Ok ps) h k = k
    prop_settled path name (got (Some d)) (Err f) h k = refl
    prop_settled path name (got (Some d)) (Ok ps) h k = both (known_props_from ps) k where
      both : (o : Option (List (List ℕ × Data))) → is_some o ≡ true → is_some (option_map (λ rest. (name, d) ∷ rest) o) ≡ true
      both None g = absurd (true≢false (sym g))
      both (Some ds) g = refl
    prop_settled path name later r h k = absurd h

    pub props_settled : (path : List ℕ) (ps : List (List ℕ × Form)) → is_settled (evaluated_in path (props_of s ps)) ≡ true
    props_settled path [] = refl
    props_settled path (p ∷ ps) = prop_settled path p.0 (value_of s p.1) (props_of s ps) (undeclared_sure (form_found s None p.1) (form_sure s None p.1 known)) (props_settled path ps)

    member_known : (path : List ℕ) (m : Member) → HasNone (map (λ f. a_flaw f) (flaws_of (member_props path s m))) → is_some (right_of (wanted_of (m, member_props path s m))) ≡ true
    member_known path m h = right (member_props path s m) (unflawed (member_props path s m) h (settled m.unnamed)) where
      settled : (f : Option Flaw) → is_settled (unless_flaw f (evaluated_in path (props_of s m.props))) ≡ true
      settled None = props_settled path m.props
      settled (Some f) = refl

      unflawed : (v : Evaluated) → HasNone (map (λ f. a_flaw f) (flaws_of v)) → is_settled v ≡ true → is_some (known_of v) ≡ true
      unflawed (flawed f) h k = let no : ⊥ = cc in absurd no
      unflawed (evaluated ps) h k = k

      right : (v : Evaluated) → is_some (known_of v) ≡ true → is_some (right_of (wanted_of (m, v))) ≡ true
      right v k = mapped _ (known_of v) k

  abbrev AllRight : List (Member × Evaluated) → Type 0
  AllRight rs = list_all (λ w. is_some (right_of w)) (map wanted_of rs) ≡ true

  right_both : (xs ys : List (Member × Evaluated)) → AllRight xs → AllRight ys → AllRight (xs ++ ys)
  right_both [] ys h k = k
  right_both (x ∷ xs) ys h k = both _ _ (first_so (is_some (right_of (wanted_of x))) _ h) (right_both xs ys (second_so (is_some (right_of (wanted_of x))) _ h) k) where
    both : (a b : Bool) → a ≡ true → b ≡ true → (a && b) ≡ true
    both true b g h = h
    both false b g h = g

  abbrev ExportsRight : List Met → Type 0
  ExportsRight ms = list_all (λ e. is_some (right_export e)) (flat_map export_met ms) ≡ true

  both_so : (a b : Bool) → a ≡ true → b ≡ true → (a && b) ≡ true
  both_so true b g h = h
  both_so false b g h = g

  exports_both : (xs ys : List Met) → ExportsRight xs → ExportsRight ys → ExportsRight (xs ++ ys)
  exports_both [] ys h k = k
  exports_both (x ∷ xs) ys h k =
      let parts = sym (list_all-append (λ e. is_some (right_export e)) (export_met x) (flat_map export_met xs)) ∙ h in
      list_all-append (λ e. is_some (right_export e)) (export_met x) (flat_map export_met (xs ++ ys))
      ∙ both_so _ _ (first_so (list_all (λ e. is_some (right_export e)) (export_met x)) _ parts) (exports_both xs ys (second_so (list_all (λ e. is_some (right_export e)) (export_met x)) _ parts) k)

  flaws_export : (fs : List Flaw) → ExportsRight (map (λ f. a_flaw f) fs)
  flaws_export [] = refl
  flaws_export (f ∷ fs) = flaws_export fs

  flaw_exports : (o : Option Flaw) → ExportsRight (flaw_met o)
  flaw_exports None = refl
  flaw_exports (Some f) = refl

  -- outputs without a flaw
  module _ (s : Scope) (known : IsKnown s) (path : List ℕ) (conds : Verdicts) where
    value_there : (o : Out) → output_stop conds s o ≡ None → is_some (text_known (text_in s o.value)) ≡ true
    value_there o h =
        got_text s known (text_in s o.value) (text_sure s known o.value)
        (neither (export_stop s o.export) (stop_in (text_in s o.value)) (neither (unnamed_output conds o) (option_or (export_stop s o.export) (stop_in (text_in s o.value))) h).1).1

    no_stop : (o : Out) → output_flaws (output_at path conds s o) ≡ [] → output_stop conds s o ≡ None
    no_stop o h = either (output_stop conds s o) h where
      either : (w : Option Stop) → option_map_or (λ f. f ∷ []) (option_map (flaw_at path) w) [] ≡ [] → w ≡ None
      either None k = refl
      either (Some w) k = let no : ⊥ = cc in absurd no

    export_there : (o : Option Form) → export_stop s o ≡ None → is_some (exported_name (exporting_in s o)) ≡ true
    export_there None h = refl
    export_there (Some f) h = either (text_in s f) h where
      either : (x : Outcome (List ℕ)) → stop_in (export_wanted f x) ≡ None → is_some (exported_name (exporting_as (export_wanted f x))) ≡ true
      either (got t) k = refl
      either later k = let no : ⊥ = cc in absurd no
      either (bad w) k = let no : ⊥ = cc in absurd no

    one_output : (o : Out) → output_stop conds s o ≡ None → is_some (right_output (output_at path conds s o)) ≡ true
    one_output o h =
        both (text_known (text_in s o.value)) (exported_name (exporting_in s o.export)) (value_there o h)
        (export_there o.export (neither (export_stop s o.export) (stop_in (text_in s o.value)) (neither (unnamed_output conds o) (option_or (export_stop s o.export) (stop_in (text_in s o.value))) h).1).0) where
          both : (v : Option (List ℕ)) (x : Option (Option (List ℕ))) → is_some v ≡ true → is_some x ≡ true → is_some (option_map_or (λ value. with_export (output_at path conds s o) value x) v None) ≡ true
          both None x g k = absurd (true≢false (sym g))
          both (Some v) None g k = absurd (true≢false (sym k))
          both (Some v) (Some x) g k = refl

    one_export : (o : Out) → output_stop conds s o ≡ None → list_all (λ e. is_some (right_export e)) (exported (output_at path conds s o)) ≡ true
    one_export o h = by_export (exporting_in s o.export) (text_known (text_in s o.value)) (value_there o h) where
      by_export : (x : Exporting) (v : Option (List ℕ)) → is_some v ≡ true → list_all (λ e. is_some (right_export e)) (exported_as v x) ≡ true
      by_export exporting.Nothing v g = refl
      by_export exporting.Fault v g = refl
      by_export (exporting.Named n) None g = absurd (true≢false (sym g))
      by_export (exporting.Named n) (Some v) g = refl

    outputs_right : (os : List Out) → HasNone (map (λ o. an_output o) (map (output_at path conds s) os)) → list_all (λ o. is_some (right_output o)) (map (output_at path conds s) os) ≡ true
    outputs_right [] h = refl
    outputs_right (o ∷ os) h =
        let parts = none_in (an_output (output_at path conds s o) ∷ []) (map (λ x. an_output x) (map (output_at path conds s) os)) h in
        both_so _ _ (one_output o (no_stop o (sym (append-nil (output_flaws (output_at path conds s o))) ∙ parts.0))) (outputs_right os parts.1)

    exports_right : (os : List Out) → HasNone (map (λ o. an_output o) (map (output_at path conds s) os)) → ExportsRight (map (λ o. an_output o) (map (output_at path conds s) os))
    exports_right [] h = refl
    exports_right (o ∷ os) h =
        let parts = none_in (an_output (output_at path conds s o) ∷ []) (map (λ x. an_output x) (map (output_at path conds s) os)) h in
        list_all-append (λ e. is_some (right_export e)) (exported (output_at path conds s o)) (flat_map export_met (map (λ x. an_output x) (map (output_at path conds s) os)))
        ∙ both_so _ _ (one_export o (no_stop o (sym (append-nil (output_flaws (output_at path conds s o))) ∙ parts.0))) (exports_right os parts.1)

  inside_given : (path : List ℕ) (s : Scope) → IsKnown s → (form : Option Form) → HasNone (flaw_met (offers_flaw path s form)) → NoLater (given_in s form)
  inside_given path s known form h = given_known (offers_of s form) (given_sure s known form) (no_flaw path (offers_stop (offers_of s form)) h)

  module _ (t : Stack) (conds : Verdicts) (g : Given) (n : NoLater g) where
    bound_of : HasNone (flaw_met (bind_flaw t g)) → AreBound t.template.params g
    bound_of h = all_bound t.template.params g n (no_fault t g h)

  mutual
    after_full : (t : Stack) (conds : Verdicts) (g : Given) → AreDecided conds → AreBound t.template.params g → (m : Sights) → IsFullAll m → (needs : List (List ℕ)) (stands : StandsFor) (w : Work)
        → Covers t.template conds needs stands w → AreShown (paths_below w) → HasNone (met_along source seen t.path (over t conds g) m w) → IsFullAll (sights_after source seen (over t conds g) m w)
    after_full t conds g d b m f needs stands no_work c s h = f
    after_full t conds g d b m f needs stands (resource r w) c s h =
        after_full t conds g d b m f needs stands w c.1 s (none_in (map (λ x. a_flaw x) (flaws_of (member_props t.path (over t conds g m) r))) _ h).1
    after_full t conds g d b m f needs stands (nested x i w) c s h =
        let parts = none_in (met_inside source seen t.path (over t conds g m) i) (met_along source seen t.path (over t conds g) (nested_sight source x (outputs_inside source seen (over t conds g m) i) m) w) h in
        after_full t conds g d b (nested_sight source x (outputs_inside source seen (over t conds g m) i) m)
        (put_full x.id (sight.Nested (stack_id x.name source.number) (by_names (outputs_inside source seen (over t conds g m) i))) m
        (told_names (outputs_inside source seen (over t conds g m) i)
        (inside_told t.path (over t conds g m) (scope_known t conds g m d b f) t.template conds x.needs stands i c.0.1 (first_shown (paths_inside i) x.needs (first_shown (paths_inside i ++ x.needs) (paths_below w) s)) parts.0)) f)
        needs (put x.id (paths_inside i ++ x.needs) stands) w c.1 (second_shown (paths_inside i ++ x.needs) (paths_below w) s) parts.1

    inside_told : (path : List ℕ) (s : Scope) → IsKnown s → (t : Template) (conds : Verdicts) (needs : List (List ℕ)) (stands : StandsFor) (i : Inside) → CoversInside t conds needs stands i → AreShown (paths_inside i)
        → HasNone (met_inside source seen path s i) → AllTold (outputs_inside source seen s i)
    inside_told path s known t conds needs stands (shut f) c k h = tt
    inside_told path s known t conds needs stands (inside.given_by form x) c k h =
        let parts = none_in (flaw_met (offers_flaw path s form)) (met_in source seen (given_in s form) x) h in
        body_told (given_in s form) (inside_given path s known form parts.0) needs x c.1 k parts.1

    body_told : (g : Given) → NoLater g → (needs : List (List ℕ)) (x : Body) → CoversBody needs x → AreShown (paths_in x) → HasNone (met_in source seen g x) → AllTold (outputs_of source seen g x)
    body_told g n needs (barred f) c s h = tt
    body_told g n needs (halted t f) c s h = tt
    body_told g n needs (opened t conds w) c s h =
        let parts = none_in (flaw_met (bind_flaw t g)) _ h in
        let rest = none_in (met_along source seen t.path (over t conds g) (first_sights t conds seen (own_ids w)) w) (outputs_met t conds (scope_after source seen g t conds w)) parts.1 in
        let bound = bound_of t conds g n parts.0 in
        let full = first_full t conds (own_ids w) (first_shown (map (path_in t.path) (own_ids w)) (paths_below w) s) in
        all_told (scope_after source seen g t conds w)
        (scope_known t conds g _ c.0 bound (after_full t conds g c.0 bound (first_sights t conds seen (own_ids w)) full needs (first_stands t (own_ids w)) w c.1 (second_shown (map (path_in t.path) (own_ids w)) (paths_below w) s) rest.0))
        t conds t.template.outputs

  mutual
    along_right : (t : Stack) (conds : Verdicts) (g : Given) → AreDecided conds → AreBound t.template.params g → (m : Sights) → IsFullAll m → (needs : List (List ℕ)) (stands : StandsFor) (w : Work)
        → Covers t.template conds needs stands w → AreShown (paths_below w) → HasNone (met_along source seen t.path (over t conds g) m w)
        → AllRight (valued_along source seen t.path (over t conds g) m w) × ExportsRight (met_along source seen t.path (over t conds g) m w)
    along_right t conds g d b m f needs stands no_work c s h = (refl, refl)
    along_right t conds g d b m f needs stands (resource r w) c s h =
        let parts = none_in (map (λ x. a_flaw x) (flaws_of (member_props t.path (over t conds g m) r))) (met_along source seen t.path (over t conds g) m w) h in
        let rest = along_right t conds g d b m f needs stands w c.1 s parts.1 in (
          both_so _ _ (member_known (over t conds g m) (scope_known t conds g m d b f) t.path r parts.0) rest.0,
          exports_both (map (λ x. a_flaw x) (flaws_of (member_props t.path (over t conds g m) r))) _ (flaws_export (flaws_of (member_props t.path (over t conds g m) r))) rest.1,
        )
    along_right t conds g d b m f needs stands (nested x i w) c s h =
        let parts = none_in (met_inside source seen t.path (over t conds g m) i) (met_along source seen t.path (over t conds g) (nested_sight source x (outputs_inside source seen (over t conds g m) i) m) w) h in
        let known = scope_known t conds g m d b f in
        let shown = first_shown (paths_inside i) x.needs (first_shown (paths_inside i ++ x.needs) (paths_below w) s) in
        let here = inside_right t.path (over t conds g m) known t.template conds x.needs stands i c.0.1 shown parts.0 in
        let rest =
        along_right t conds g d b (nested_sight source x (outputs_inside source seen (over t conds g m) i) m)
        (put_full x.id (sight.Nested (stack_id x.name source.number) (by_names (outputs_inside source seen (over t conds g m) i))) m
        (told_names (outputs_inside source seen (over t conds g m) i) (inside_told t.path (over t conds g m) known t.template conds x.needs stands i c.0.1 shown parts.0)) f)
        needs (put x.id (paths_inside i ++ x.needs) stands) w c.1 (second_shown (paths_inside i ++ x.needs) (paths_below w) s) parts.1 in (
          right_both (valued_inside source seen (over t conds g m) i) _ here.0 rest.0,
          exports_both (met_inside source seen t.path (over t conds g m) i) _ here.1 rest.1,
        )

    inside_right : (path : List ℕ) (s : Scope) → IsKnown s → (t : Template) (conds : Verdicts) (needs : List (List ℕ)) (stands : StandsFor) (i : Inside) → CoversInside t conds needs stands i → AreShown (paths_inside i)
        → HasNone (met_inside source seen path s i) → AllRight (valued_inside source seen s i) × ExportsRight (met_inside source seen path s i)
    inside_right path s known t conds needs stands (shut f) c k h = (refl, refl)
    inside_right path s known t conds needs stands (inside.given_by form x) c k h =
        let parts = none_in (flaw_met (offers_flaw path s form)) (met_in source seen (given_in s form) x) h in
        let body = body_right (given_in s form) (inside_given path s known form parts.0) needs x c.1 k parts.1 in
        (body.0, exports_both (flaw_met (offers_flaw path s form)) (met_in source seen (given_in s form) x) (flaw_exports (offers_flaw path s form)) body.1)

    body_right : (g : Given) → NoLater g → (needs : List (List ℕ)) (x : Body) → CoversBody needs x → AreShown (paths_in x) → HasNone (met_in source seen g x)
        → AllRight (valued_in source seen g x) × ExportsRight (met_in source seen g x)
    body_right g n needs (barred f) c s h = (refl, refl)
    body_right g n needs (halted t f) c s h = (refl, exports_both (flaw_met (bind_flaw t g)) (a_flaw f ∷ []) (flaw_exports (bind_flaw t g)) refl)
    body_right g n needs (opened t conds w) c s h =
        let parts = none_in (flaw_met (bind_flaw t g)) _ h in
        let rest = none_in (met_along source seen t.path (over t conds g) (first_sights t conds seen (own_ids w)) w) (outputs_met t conds (scope_after source seen g t conds w)) parts.1 in
        let bound = bound_of t conds g n parts.0 in
        let full = first_full t conds (own_ids w) (first_shown (map (path_in t.path) (own_ids w)) (paths_below w) s) in
        let below = second_shown (map (path_in t.path) (own_ids w)) (paths_below w) s in
        let along = along_right t conds g c.0 bound (first_sights t conds seen (own_ids w)) full needs (first_stands t (own_ids w)) w c.1 below rest.0 in
        let known = scope_known t conds g (sights_after source seen (over t conds g) (first_sights t conds seen (own_ids w)) w) c.0 bound (after_full t conds g c.0 bound (first_sights t conds seen (own_ids w)) full needs (first_stands t (own_ids w)) w c.1 below rest.0) in (
          along.0,
          exports_both (flaw_met (bind_flaw t g)) _ (flaw_exports (bind_flaw t g))
              (exports_both (met_along source seen t.path (over t conds g) (first_sights t conds seen (own_ids w)) w) (outputs_met t conds (scope_after source seen g t conds w)) along.1
              (exports_right (scope_after source seen g t conds w) known t.path conds (filter (is_output_made conds) t.template.outputs) rest.1)),
        )

  root_outputs : (g : Given) → NoLater g → (needs : List (List ℕ)) (x : Body) → CoversBody needs x → AreShown (paths_in x) → HasNone (met_in source seen g x)
      → list_all (λ o. is_some (right_output o)) (outputs_in source seen g x) ≡ true
  root_outputs g n needs (barred f) c s h = refl
  root_outputs g n needs (halted t f) c s h = refl
  root_outputs g n needs (opened t conds w) c s h =
      let parts = none_in (flaw_met (bind_flaw t g)) _ h in
      let rest = none_in (met_along source seen t.path (over t conds g) (first_sights t conds seen (own_ids w)) w) (outputs_met t conds (scope_after source seen g t conds w)) parts.1 in
      let bound = bound_of t conds g n parts.0 in
      let full = first_full t conds (own_ids w) (first_shown (map (path_in t.path) (own_ids w)) (paths_below w) s) in
      let below = second_shown (map (path_in t.path) (own_ids w)) (paths_below w) s in
      let known = scope_known t conds g (sights_after source seen (over t conds g) (first_sights t conds seen (own_ids w)) w) c.0 bound (after_full t conds g c.0 bound (first_sights t conds seen (own_ids w)) full needs (first_stands t (own_ids w)) w c.1 below rest.0) in
      outputs_right (scope_after source seen g t conds w) known t.path conds (filter (is_output_made conds) t.template.outputs) rest.1

-- the paths of resources that are all shown
pub shown_paths : (seen : Seen) (ms : List Member) → list_all (λ m. is_shown seen m.path) ms ≡ true → (q : List ℕ) → is_among q (map (λ m. m.path) ms) ≡ true → is_shown seen q ≡ true
shown_paths seen [] h q k = absurd (true≢false (sym k))
shown_paths seen (m ∷ ms) h q k = either (bytes_eq q m.path) refl k (shown_paths seen ms (second_so (is_shown seen m.path) _ h) q) where
  either : (b : Bool) → bytes_eq q m.path ≡ b → (b || is_among q (map (λ x. x.path) ms)) ≡ true → (is_among q (map (λ x. x.path) ms) ≡ true → is_shown seen q ≡ true) → is_shown seen q ≡ true
  either true e g ih = ap (is_shown seen) ((bytes_eq-Decides q m.path).0 e) ∙ first_so (is_shown seen m.path) _ h
  either false e g ih = ih g

pub seen_known : SeenIsKnown
seen_known source before now shown h =
    let paths = λ (q : List ℕ) (k : is_among q (paths_in (shape_of source before)) ≡ true). shown_paths now (resources_in (shape_of source before)) shown q (paths_among source before q k) in
    let right = body_right source now (given_root source) (root_known source) [] (shape_of source before) (shape_covered source before) paths h in
    record {
      flaws = h;
      props = right.0;
      outputs = root_outputs source now (given_root source) (root_known source) [] (shape_of source before) (shape_covered source before) paths h;
      exports = right.1;
    }
