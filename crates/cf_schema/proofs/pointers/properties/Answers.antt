use Rattle.std.proofs.Common.{◌≡◌, ◌∙◌, sym, ap, Some, None, Ok, ◌++◌, ◌∷◌, [], List, ℕ, find, Option}
use Rattle.std.specs.Vec.Iter.{into_iter_items}
use Rattle.std.specs.Str.{bytes_eq}
use Rattle.cf_schema.specs.Reading.{and_then, properties_named}
use Rattle.cf_schema.specs.Spelling.{spelled_as}
use Rattle.cf_schema.proofs.Naming.{named_not, named_more}
use Rattle.cf_schema.proofs.pointers.properties.Goals as goal

-- the look-up that was made is that of the text among the properties
looked : (f : List ℕ → List ℕ) (t u : List ℕ) (ps qs : List (List ℕ)) (o : Option (List ℕ)) → u ≡ t → qs ≡ ps → o ≡ find (λ p. bytes_eq u (f p)) qs → find (λ p. bytes_eq t (f p)) ps ≡ o
looked f t u ps qs o a b h = ap (λ v. find (λ p. bytes_eq v (f p)) ps) (sym a) ∙ ap (λ rs. find (λ p. bytes_eq u (f p)) rs) (sym b) ∙ sym h

pub returns-in-None-property : goal.returns-in-None-property
returns-in-None-property c =
    let f = spelled_as c.args.spelling in
    let props = c.args.props.now in
    let nothing : find (λ p. bytes_eq c.in-Some.text (f p)) props ≡ None = looked f _ c.as_str.result.now _ c.as_slice.result.now None c.as_str.ensures c.as_slice.ensures c.in-None-property.ensures in
    c.loop-text.invariant ∙ ap (λ ts. and_then (properties_named f props ts) (λ ps. Ok (c.loop-text.found ++ ps))) c.in-Some.ensures.steps.0
    ∙ named_not f props c.in-Some.text (into_iter_items c.next.new.self) c.loop-text.found nothing

pub loop-text-preserved : goal.loop-text-preserved
loop-text-preserved c =
    let f = spelled_as c.args.spelling in
    let props = c.args.props.now in
    let p = c.in-Some-property.property.now in
    let one : find (λ q. bytes_eq c.in-Some.text (f q)) props ≡ Some p = looked f _ c.as_str.result.now _ c.as_slice.result.now (Some p) c.as_str.ensures c.as_slice.ensures c.in-Some-property.ensures in
    let more : c.push.new.self ≡ c.loop-text.found ++ p ∷ [] = c.in_ok-push-in-Some-property.ensures.ok ∙ ap (λ q. c.loop-text.found ++ q ∷ []) c.in_ok-try_clone-in-Some-property.ensures in
    c.loop-text.invariant ∙ ap (λ ts. and_then (properties_named f props ts) (λ ps. Ok (c.loop-text.found ++ ps))) c.in-Some.ensures.steps.0
    ∙ named_more f props c.in-Some.text (into_iter_items c.next.new.self) c.loop-text.found p one
    ∙ ap (λ found. and_then (properties_named f props (into_iter_items c.next.new.self)) (λ ps. Ok (found ++ ps))) (sym more)
