use Rattle.std.proofs.Common.{◌≡◌, ◌∙◌, ℕ, Bool, List, [], map, fold, ap, sym}
use Rattle.std.proofs.lemmas.List.Sums.{fold-append}
use Rattle.cf_desired.specs.Props.{prop_of}
use Rattle.cf_desired.specs.Shape.{put_name}
use Rattle.cf_change.proofs.details.names_of.Goals as goal

pub returns : goal.returns
returns c =
    let olds = map (λ p. p.0) c.args.old.now in
    let news = map (λ p. p.0) (map prop_of c.args.new.now) in
    let old : c.add_old.new.names ≡ fold put_name [] olds = c.in_ok-add_old.ensures ∙ (λ j. fold put_name (c.new-names.ensures j) (map (λ p. p.0) (c.as_slice.ensures.value j))) in
    ap (λ (ps : List (List ℕ × Bool)). map (λ p. p.0) ps)
    (c.in_ok-add_new.ensures ∙ ap (λ ps. fold put_name ps news) old ∙ sym (fold-append put_name [] olds news))
