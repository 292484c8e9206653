-- The name of a nested template, where its evaluation stops.
use Rattle.std.proofs.Common.{◌≡◌, ℕ, List, ap, Err}
use Rattle.cf_eval.specs.Outcome.{Stop, bad, on_got}
use Rattle.cf_desired.specs.Kept.{blame_at, flaw_of_blame}
use Rattle.cf_desired.specs.Shape.{maybe_text, template_name_from}
use Rattle.cf_eval.specs.Texts.{Found}

pub name_stops : (stack path at : List ℕ) (x : Found) (s : Stop) → x ≡ bad s → template_name_from stack path (on_got x (maybe_text at)) ≡ Err (flaw_of_blame (blame_at stack s))
name_stops stack path at x s e = ap (λ y. template_name_from stack path (on_got y (maybe_text at))) e
