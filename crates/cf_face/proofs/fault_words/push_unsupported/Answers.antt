-- The name of the fault and then its two fields.
use Rattle.cf_face.proofs.Spaced.{three_words}
use Rattle.cf_face.proofs.fault_words.push_unsupported.Goals as goal

pub returns : goal.returns
returns c = rw (c.in_ok-push_text-2.ensures, c.in_ok-push_text.ensures, c.in_ok-push_word.ensures) (three_words _ _ _ _)
