-- What stands above keeps the halves, so the next in them leads to the next flag.
use Rattle.std.proofs.Common.{◌≡◌, ◌+◌, ◌/◌, ap, ◌∙◌, sym, subst, None, Some}
use Rattle.cf_ready.specs.Halved.{IsNextIn, halved, in_pair, next_set}
use Rattle.cf_ready.proofs.Halves.{next_paired, next_some}
use Rattle.cf_ready.proofs.flags.Flags.+next.Goals as goal

pub first_of_two-requires : goal.first_of_two-requires
first_of_two-requires t c =
    let bits = c.self.inside.bits.items in
    let above = rw c.in-Half.is at c.self.invariant in
    let seen : c.deref.result.now ≡ halved bits = c.deref.ensures ∙ above.0 in
    let none : in_pair bits c.args.at ≡ None = ap (λ bs. in_pair bs c.args.at) (sym c.as_slice.ensures.value) ∙ sym c.in_pair.ensures ∙ c.in-None.is in
    let found : next_set (halved bits) (c.args.at / 2 + 1) ≡ Some c.in-Some-next.half =
    ap (λ bs. next_set bs (c.args.at / 2 + 1)) (sym seen) ∙ sym c.next.ensures ∙ c.in-Some-next.is in
    subst (λ bs. IsNextIn bs c.args.at c.in-Some-next.half) (sym c.as_slice-in-Some-next.ensures.value) (next_some bits c.args.at c.in-Some-next.half none found)

pub returns-in-Some : goal.returns-in-Some
returns-in-Some t c =
    let bits = c.self.inside.bits.items in
    let found : in_pair bits c.args.at ≡ Some c.in-Some.found = ap (λ bs. in_pair bs c.args.at) (sym c.as_slice.ensures.value) ∙ sym c.in_pair.ensures ∙ c.in-Some.is in
    sym (ap (λ bs. next_set bs c.args.at) (sym c.self.view_is) ∙ next_paired bits c.args.at c.in-Some.found found)
