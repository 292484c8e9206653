use Rattle.std.proofs.Common.{◌≡◌, drop}
use Rattle.cf_face.specs.Words.{given_of, given_beside}
use Rattle.cf_face.proofs.words.read_given.Given as goal

abbrev pub invariant-loop-word : goal.invariant-loop-word
invariant-loop-word l = given_of l.words ≡ given_beside (drop l.word-index l.words) l.given
