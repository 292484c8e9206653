use Rattle.std.proofs.Common.{◌∙◌, ap, reverse}
use Rattle.cf_funcs.specs.Pieces.{past_spaces}
use Rattle.cf_funcs.proofs.Trims.{front_trimmed, end_trimmed}
use Rattle.cf_funcs.proofs.cuts.without_spaces.Goals as goal

pub returns : goal.returns
returns c =
    end_trimmed _ _ c.trim_end_matches.ensures.matches
    ∙ ap (λ t. reverse (past_spaces (reverse t))) (front_trimmed _ _ c.trim_start_matches.ensures.matches)
