use Rattle.std.proofs.Common.{◌≡◌, ◌∙◌, ℕ, List, length, take, fold, ap, arith}
use Rattle.std.proofs.Math.Seq.{take-length}
use Rattle.cf_desired.specs.declared.shape.Terms.{Terms}
use Rattle.cf_change.proofs.Along.{along_terms, found_under}
use Rattle.cf_change.proofs.found.find_all.Goals as goal

pub returns : goal.returns
returns c b ms s e =
    let members = c.args.members.now in
    let found = fold (found_under c.args.schemas.now c.args.held.now c.args.source.now b) c.args.found.now in
    let all : c.loop-member.member-index ≡ length members = omega arith in
    let taken : take c.loop-member.member-index members ≡ members = ap (λ (k : ℕ). take k members) all ∙ take-length members in
    c.loop-member.invariant b s ∙ ap (λ (ts : List (List ℕ × Terms)). found ts) (taken ∙ e)
    ∙ along_terms c.args.schemas.now c.args.held.now c.args.source.now b c.args.found.now ms
