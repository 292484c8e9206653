use Rattle.std.proofs.Common.{◌∙◌, [], ap, filter, map, not}
use Rattle.std.proofs.lemmas.List.{append-nil}
use Rattle.cf_desired.specs.Seeing.{by_names}
use Rattle.cf_effect.specs.Begin.{shown_under}
use Rattle.cf_effect.proofs.seen.seen_in.Goals as goal

pub returns-in-Ok : goal.returns-in-Ok
returns-in-Ok c = c.in-Ok.ensures [] c.new-seen.ensures ∙ ap by_names (append-nil (map shown_under (filter (λ h. not h.superseded) c.args.helds.now)))
