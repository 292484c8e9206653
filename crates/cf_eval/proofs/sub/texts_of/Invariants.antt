use Rattle.std.proofs.Common.{◌≡◌, map, drop, false}
use Rattle.cf_eval.specs.Outcome.{each}
use Rattle.cf_eval.specs.Texts.{wanted_text}
use Rattle.cf_eval.specs.Gives.{got_value}
use Rattle.cf_eval.proofs.Each.{each_after}
use Rattle.cf_eval.proofs.sub.texts_of.Given as goal

abbrev pub invariant-loop-piece : goal.invariant-loop-piece
invariant-loop-piece l = each (map (wanted_text l.at) (map got_value l.pieces)) ≡ each_after false l.texts.items (map (wanted_text l.at) (map got_value (drop l.piece-index l.pieces)))
