use Rattle.std.proofs.Common.{Some, sym, subst}
use Rattle.cf_effect.specs.Findings.{FindsAt}
use Rattle.cf_effect.specs.State.{state_of}
use Rattle.cf_effect.proofs.Followed.{found_kept}
use Rattle.cf_effect.proofs.findings.find_one.Goals as goal

pub find_at-requires : goal.find_at-requires
find_at-requires c = c.requires.findings

pub returns-in-Some : goal.returns-in-Some
returns-in-Some c =
    found_kept (state_of c.args.state.now) c.args.findings.now c.put_found.new.findings c.args.at c.in-Some.found c.as_slice.result.now c.as_slice-in-Some.result.now c.follow_found.new.ahead
    c.requires c.put_found.ensures.made c.put_found.ensures.held c.put_found.ensures.found c.put_found.ensures.ahead
    (λ m h. subst (FindsAt (state_of c.args.state.now) m.path) c.in-Some.is (c.in_ok-found.ensures m h)) c.as_slice.ensures.value c.as_slice-in-Some.ensures.value c.follow_found.ensures
