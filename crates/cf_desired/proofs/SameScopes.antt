-- Where the same stands under each name, expressions, offers, properties and outputs come to the same.
use Rattle.std.proofs.Common.{◌≡◌, ℕ, List, [], ◌∷◌, Option, Some, None, refl, ap, ◌∙◌, map, option_map}
use Rattle.std.specs.Option.{option_or, option_map_or}
use Rattle.cf_tree.specs.Datum.{Data}
use Rattle.cf_tree.specs.Forms.{Form, place_of}
use Rattle.cf_tree.specs.Keys.{value_at}
use Rattle.cf_tree.specs.declared.template.Out.{Out}
use Rattle.cf_tree.specs.declared.template.Template.{Template}
use Rattle.cf_eval.specs.declared.env.OutputSight.TheVariants as output
use Rattle.cf_eval.specs.Outcome.{Outcome}
use Rattle.cf_eval.specs.Scope.{Scope, setting_of, resource_scope}
use Rattle.cf_eval.specs.Texts.{as_text}
use Rattle.cf_graph.specs.Mentions.{Mention, by_ref, by_attribute, mentions_of}
use Rattle.cf_graph.specs.Needs.{holds_in}
use Rattle.cf_desired.specs.Given.{Offers, given_by, given_in, offers_of, offers_stop}
use Rattle.cf_desired.specs.Met.{exporting_as, exporting_in, offers_flaw, output_at, outputs_wanted}
use Rattle.cf_desired.specs.Rests.{SeesAllSame}
use Rattle.cf_desired.specs.Seeing.{broken_at, export_stop, export_wanted, is_output_made, output_attribute, output_seen, output_sight, output_sights, text_in, text_known, unnamed_output}
use Rattle.cf_desired.specs.Stack.{Stack, Settings, Sights, Verdicts, evaluated_in, flaw_at, stop_in}
use Rattle.cf_eval.specs.Value.{props_of, value_of, with_prop}
use Rattle.cf_desired.specs.Valued.{member_props, unless_flaw}
use Rattle.cf_desired.specs.Work.{Member}
use Rattle.cf_desired.proofs.Mentions.{value_rests}
use Rattle.cf_desired.proofs.NeedsMatter.{offers_same}
use Rattle.std.specs.Prelude.{cond, filter}

pub record SameScope (s u : Scope) : Type 0 where
  pub value : (e : Form) → value_of s e ≡ value_of u e
  pub offers : (form : Option Form) → offers_of s form ≡ offers_of u form

all_agree : (bound : Settings) (m n : Sights) → ((q : List ℕ) → value_at q n ≡ value_at q m) → (xs : List Mention) → SeesAllSame bound m n xs
all_agree bound m n h [] = tt
all_agree bound m n h (by_ref name ∷ xs) = (λ hidden. h name, all_agree bound m n h xs)
all_agree bound m n h (by_attribute name ∷ xs) = (h name, all_agree bound m n h xs)

module _ (t : Template) (bound settings : Settings) (conds : Verdicts) (pseudo told : List (List ℕ × Data)) (imports : List (List ℕ × List ℕ)) (n m : Sights)
    (b : (name : List ℕ) → value_at name bound ≡ value_at name settings) (p : pseudo ≡ told) (h : (q : List ℕ) → value_at q n ≡ value_at q m) where
  bound_same : resource_scope t.mappings bound conds pseudo n imports ≡ resource_scope t.mappings settings conds told n imports
  bound_same = λ i. record (resource_scope t.mappings bound conds pseudo n imports) { params = λ name. option_map setting_of (b name i); pseudo = p i }

  seen_same : (form : Option Form) → offers_of (resource_scope t.mappings settings conds told n imports) form ≡ offers_of (resource_scope t.mappings settings conds told m imports) form
  seen_same None = refl
  seen_same (Some f) = offers_same t settings conds told imports m n None f (all_agree settings m n h (mentions_of (holds_in conds) f))

  pub scope_same : SameScope (resource_scope t.mappings bound conds pseudo n imports) (resource_scope t.mappings settings conds told m imports)
  scope_same = record {
    value = λ e. ap (λ (s : Scope). value_of s e) bound_same ∙ value_rests t settings conds told imports m n e (all_agree settings m n h (mentions_of (holds_in conds) e));
    offers = λ form. ap (λ (s : Scope). offers_of s form) bound_same ∙ seen_same form;
  }

module _ (s u : Scope) (same : SameScope s u) where
  pub given_same : (form : Option Form) → given_in s form ≡ given_in u form
  given_same form = ap given_by (same.offers form)

  pub flaw_same : (path : List ℕ) (form : Option Form) → offers_flaw path s form ≡ offers_flaw path u form
  flaw_same path form = ap (λ (o : Outcome Offers). option_map (flaw_at path) (offers_stop o)) (same.offers form)

  props_same : (ps : List (List ℕ × Form)) → props_of s ps ≡ props_of u ps
  props_same [] = refl
  props_same (p ∷ ps) = λ i. with_prop p.0 (same.value p.1 i) (props_same ps i)

  pub evaluated_same : (path : List ℕ) (m : Member) → member_props path s m ≡ member_props path u m
  evaluated_same path m = ap (λ r. unless_flaw m.unnamed (evaluated_in path r)) (props_same m.props)

  text_same : (e : Form) → text_in s e ≡ text_in u e
  text_same e = ap (as_text (place_of e)) (same.value e)

  export_same : (f : Option Form) → exporting_in s f ≡ exporting_in u f
  export_same None = refl
  export_same (Some f) = ap (λ (o : Outcome (List ℕ)). exporting_as (export_wanted f o)) (text_same f)

  stop_same : (f : Option Form) → export_stop s f ≡ export_stop u f
  stop_same None = refl
  stop_same (Some f) = ap (λ (o : Outcome (List ℕ)). stop_in (export_wanted f o)) (text_same f)

  output_same : (path : List ℕ) (conds : Verdicts) (o : Out) → output_at path conds s o ≡ output_at path conds u o
  output_same path conds o = λ i. record {
    name = o.name;
    value = text_known (text_same o.value i);
    export = export_same o.export i;
    fault = option_map (flaw_at path) (option_or (unnamed_output conds o) (option_or (stop_same o.export i) (stop_in (text_same o.value i))));
  }

  mapped_same : (path : List ℕ) (conds : Verdicts) (os : List Out) → map (output_at path conds s) os ≡ map (output_at path conds u) os
  mapped_same path conds [] = refl
  mapped_same path conds (o ∷ os) = λ i. output_same path conds o i ∷ mapped_same path conds os i

  pub wanted_same : (t : Stack) (conds : Verdicts) → outputs_wanted t conds s ≡ outputs_wanted t conds u
  wanted_same t conds = mapped_same t.path conds (filter (is_output_made conds) t.template.outputs)

  sight_same : (t : Stack) (conds : Verdicts) (o : Out) → output_sight t conds s o ≡ output_sight t conds u o
  sight_same t conds o = λ i. cond (is_output_made conds o)
      (option_map_or (broken_at t.path) (option_or (unnamed_output conds o) (option_or (stop_same o.export i) (stop_in (text_same o.value i)))) (output.Made (text_known (text_same o.value i)))) output.NotMade

  seen_all : (t : Stack) (conds : Verdicts) (os : List Out) → map (output_seen t conds s) os ≡ map (output_seen t conds u) os
  seen_all t conds [] = refl
  seen_all t conds (o ∷ os) = λ i. (output_attribute o.name, sight_same t conds o i) ∷ seen_all t conds os i

  pub sights_same : (t : Stack) (conds : Verdicts) → output_sights t conds s ≡ output_sights t conds u
  sights_same t conds = seen_all t conds t.template.outputs
