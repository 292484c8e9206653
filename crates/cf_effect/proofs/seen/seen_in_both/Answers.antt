use Rattle.std.proofs.Common.{◌∙◌, ap, filter, map, not, sym}
use Rattle.std.proofs.lemmas.List.{map-append}
use Rattle.std.proofs.lemmas.List.Elements.{filter-append}
use Rattle.cf_desired.specs.Seeing.{by_names}
use Rattle.cf_effect.specs.declared.held.Held.{Held}
use Rattle.cf_effect.specs.Begin.{shown_under}
use Rattle.cf_effect.proofs.seen.seen_in_both.Goals as goal

pub returns-in-Ok : goal.returns-in-Ok
returns-in-Ok c =
    let first = c.args.first.now in
    let second = c.args.second.now in
    c.in-Ok.ensures (map shown_under (filter (λ h. not h.superseded) second)) c.in_ok-seen.ensures
    ∙ ap by_names (sym (map-append shown_under (filter (λ h. not h.superseded) first) (filter (λ h. not h.superseded) second)))
    ∙ ap (λ hs. by_names (map shown_under hs)) (sym (filter-append (λ (h : Held). not h.superseded) first second))
