-- The name of the variant and then its two fields.
use Rattle.cf_face.proofs.Spaced.{three_words}
use Rattle.cf_face.proofs.exit.Refusal.push_to.Goals as goal

pub returns-in_ok-push_text-in-UnknownType-2 : goal.returns-in_ok-push_text-in-UnknownType-2
returns-in_ok-push_text-in-UnknownType-2 c =
    rw (
      c.in_ok-push_text-in-UnknownType-2.ensures,
      c.in_ok-push_text-in-UnknownType.ensures,
      c.in_ok-push_word-in-UnknownType.ensures,
      c.in-UnknownType.is,
    ) (three_words _ _ _ _)
