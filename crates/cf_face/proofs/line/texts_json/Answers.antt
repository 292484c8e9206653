-- The values are a JSON array of the texts, which has no float.
use Rattle.std.proofs.Common.{◌∙◌, ap}
use Rattle.serde_json.specs.Data.{array}
use Rattle.serde_json.specs.View.{items_of}
use Rattle.serde_json.specs.Written.{compact_text, has_float}
use Rattle.serde_json.proofs.Views.{view-Array}
use Rattle.cf_face.specs.Line.{texts_word}
use Rattle.cf_face.proofs.Texts.{texts-no_float}
use Rattle.cf_face.proofs.line.texts_json.Goals as goal

pub returns : goal.returns
unfolding texts_word
returns c =
    let seen = view-Array c.in_ok-values.values ∙ ap (λ ds. array (items_of ds)) c.in_ok-values.ensures in
    c.in_ok-json.ensures.text (ap has_float seen ∙ texts-no_float c.args.texts.now) ∙ ap compact_text seen
