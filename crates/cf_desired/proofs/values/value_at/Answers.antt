use Rattle.std.proofs.Common.{◌≡◌, ◌∙◌, ℕ, List, Some, true, option_map, ap, sym}
use Rattle.std.specs.Option.{option_copied}
use Rattle.std.specs.Str.{bytes_eq}
use Rattle.cf_desired.specs.Kept.{member_in, turn_in}
use Rattle.cf_desired.specs.Plan.{at_path}
use Rattle.cf_desired.specs.Turns.{valued_at}
use Rattle.cf_desired.specs.Valued.{member_props}
use Rattle.cf_desired.proofs.Finding.{found_here}
use Rattle.cf_desired.proofs.OnTop.{on_top}
use Rattle.cf_desired.proofs.values.value_at.Goals as goal

pub returns-in_ok-evaluated-in-Some : goal.returns-in_ok-evaluated-in-Some
returns-in_ok-evaluated-in-Some c =
    let top = on_top c.args.frames.now c.in-Some.frame.now (sym c.last.ensures.value ∙ ap option_copied c.in-Some.is) in
    let path = c.args.path.now in
    let member = member_in c.in-Resource.member in
    let yes : bytes_eq path member.path ≡ true = ap (λ (p : List ℕ). bytes_eq p member.path) (sym c.as_str.ensures) ∙ sym c.is.ensures ∙ c.if-not-is.false in
    let value = c.in_ok-evaluated-in-Some.ensures ∙ (λ j. member_props (c.env_on.ensures.stack j) (c.env_on.ensures.scope j) member) in
    ap (λ v. Some v) value ∙ sym (found_here path member _ yes)
    ∙ sym (λ j. option_map (λ r. r.1) (at_path path (valued_at c.args.source.now (top j) (turn_in (c.in-Resource.is j)))))
