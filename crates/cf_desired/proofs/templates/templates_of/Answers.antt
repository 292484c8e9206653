use Rattle.std.proofs.Common.{◌≡◌, ◌∙◌, ℕ, List, [], ◌∷◌, ◌++◌, ◌+◌, Bool, length, take, filter_map, ap, sym, subst, arith}
use Rattle.std.specs.Bool.{IsTrue}
use Rattle.std.proofs.Math.Seq.{take-length}
use Rattle.std.proofs.lemmas.List.{take_more}
use Rattle.std.proofs.lemmas.List.Elements.{filter_map-append}
use Rattle.cf_template.specs.Whole.{template_of}
use Rattle.cf_tree.specs.Keys.{ascends}
use Rattle.cf_desired.specs.Templates.{accepted, template_under}
use Rattle.cf_desired.proofs.Kept.{kept_ascend}
use Rattle.cf_desired.proofs.templates.templates_of.Goals as goal

pub loop-text-preserved : goal.loop-text-preserved
loop-text-preserved c =
    let texts = c.as_slice-text-items.result.now in
    let i = c.loop-text.text-index in
    let before : List (List ℕ × List ℕ) = take i texts in
    let more : take (i + 1) texts ≡ before ++ c.text-item.result ∷ [] =
    take_more texts i c.text-item.result c.loop-text-test.true ∙ ap (λ (t : List ℕ × List ℕ). before ++ t ∷ []) (sym c.text-item.is) in
    c.in_ok-add_template.ensures ∙ ap (λ xs. xs ++ filter_map template_under (c.text-item.result ∷ [])) c.loop-text.invariant
    ∙ sym (filter_map-append template_under before (c.text-item.result ∷ [])) ∙ ap (λ (ts : List (List ℕ × List ℕ)). filter_map template_under ts) (sym more)

pub from_vec-requires : goal.from_vec-requires
from_vec-requires c =
    let texts = c.as_slice-text-items.result.now in
    let all : c.loop-text.text-index ≡ length texts = omega arith in
    let taken : take c.loop-text.text-index texts ≡ texts = ap (λ (k : ℕ). take k texts) all ∙ take-length texts in
    let same : filter_map template_under texts ≡ c.loop-text.templates.items =
    ap (λ (ts : List (List ℕ × List ℕ)). filter_map template_under ts) (sym taken) ∙ sym c.loop-text.invariant in
    subst (λ (b : Bool). IsTrue b) (ap ascends same) (kept_ascend (λ bytes. accepted (template_of bytes)) texts c.as_slice-text-items.ensures.in_order)
