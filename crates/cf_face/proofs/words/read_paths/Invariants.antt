use Rattle.std.proofs.Common.{◌≡◌, drop}
use Rattle.cf_face.specs.Words.{paths_of, paths_beside}
use Rattle.cf_face.proofs.words.read_paths.Given as goal

abbrev pub invariant-loop-word : goal.invariant-loop-word
invariant-loop-word l = paths_of l.words ≡ paths_beside (drop l.word-index l.words) l.paths
