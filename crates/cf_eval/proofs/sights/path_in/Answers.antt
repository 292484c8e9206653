use Rattle.std.proofs.Common.{◌≡◌, ◌∙◌, ◌++◌, false, rules}
use Rattle.std.specs.Prelude.{◌==◌, codes, length}
use Rattle.cf_eval.proofs.Looking.{nested_path}
use Rattle.cf_eval.proofs.sights.path_in.Goals as goal

pub returns : goal.returns
returns c =
    let joined : c.new.result ≡ (c.args.stack.now ++ codes "/") ++ c.args.id.now = search rules in
    let nested : (length c.args.stack.now == 0) ≡ false = search rules in
    joined ∙ nested_path c.args.stack.now c.args.id.now nested
