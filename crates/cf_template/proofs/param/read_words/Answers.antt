use Rattle.serde_json.specs.View.{view}
use Rattle.cf_template.specs.Params.{words_of}
use Rattle.cf_template.proofs.Steps.{first_fails, then_fails, mapped_fails, then_gives, mapped_gives, refused}
use Rattle.cf_template.proofs.param.read_words.Goals as goal

pub returns-in_err-words-2 : goal.returns-in_err-words-2
returns-in_err-words-2 c =
    refused (words_of (view c.args.object.now) c.args.at.now) _ c.from_residual-in_err-words-2.result c.in_err-words-2.field-0.0 c.from_residual-in_err-words-2.ensures.1
    (then_fails _ _ _ _ c.in_ok-words.ensures (first_fails _ _ _ c.in_err-words-2.ensures))

pub returns-in_err-words-3 : goal.returns-in_err-words-3
returns-in_err-words-3 c =
    refused (words_of (view c.args.object.now) c.args.at.now) _ c.from_residual-in_err-words-3.result c.in_err-words-3.field-0.0 c.from_residual-in_err-words-3.ensures.1
    (then_fails _ _ _ _ c.in_ok-words.ensures (then_fails _ _ _ _ c.in_ok-words-2.ensures (first_fails _ _ _ c.in_err-words-3.ensures)))

pub returns-in_err-words-4 : goal.returns-in_err-words-4
returns-in_err-words-4 c =
    refused (words_of (view c.args.object.now) c.args.at.now) _ c.from_residual-in_err-words-4.result c.in_err-words-4.field-0.0 c.from_residual-in_err-words-4.ensures.1
    (then_fails _ _ _ _ c.in_ok-words.ensures (then_fails _ _ _ _ c.in_ok-words-2.ensures (then_fails _ _ _ _ c.in_ok-words-3.ensures (first_fails _ _ _ c.in_err-words-4.ensures))))

pub returns-in_err-words-5 : goal.returns-in_err-words-5
returns-in_err-words-5 c =
    refused (words_of (view c.args.object.now) c.args.at.now) _ c.from_residual-in_err-words-5.result c.in_err-words-5.field-0.0 c.from_residual-in_err-words-5.ensures.1
    (then_fails _ _ _ _ c.in_ok-words.ensures (then_fails _ _ _ _ c.in_ok-words-2.ensures (then_fails _ _ _ _ c.in_ok-words-3.ensures (then_fails _ _ _ _ c.in_ok-words-4.ensures (mapped_fails _ _ _ c.in_err-words-5.ensures)))))

pub returns : goal.returns
returns c = then_gives _ _ _ _ c.in_ok-words.ensures (then_gives _ _ _ _ c.in_ok-words-2.ensures (then_gives _ _ _ _ c.in_ok-words-3.ensures (then_gives _ _ _ _ c.in_ok-words-4.ensures (mapped_gives _ _ _ c.in_ok-words-5.ensures))))
