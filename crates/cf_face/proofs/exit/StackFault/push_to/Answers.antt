-- The name of the variant and then its field.
use Rattle.std.specs.Prelude.{◌≡◌, ◌++◌, [], ◌∷◌, codes, IfOk, string_bytes}
use Rattle.std.proofs.Common.{subst}
use Rattle.cf_face.specs.Line.{spaced}
use Rattle.cf_face.proofs.exit.StackFault.push_to.Goals as goal

pub returns-in-WrongStatus : goal.returns-in-WrongStatus
returns-in-WrongStatus c =
    rw (c.in-WrongStatus.is) (subst (λ w. IfOk c.push_words.result (λ _. string_bytes c.push_words.new.line
    ≡ string_bytes c.args.line.now ++ spaced (codes "WrongStatus" ∷ w ∷ []))) c.name.ensures c.push_words.ensures)

pub returns-in-ExportTaken : goal.returns-in-ExportTaken
returns-in-ExportTaken c = rw (c.in-ExportTaken.is) c.push_named-in-ExportTaken.ensures

pub returns-in-ExportInUse : goal.returns-in-ExportInUse
returns-in-ExportInUse c = rw (c.in-ExportInUse.is) c.push_named-in-ExportInUse.ensures
