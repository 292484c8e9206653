use Rattle.std.proofs.Common.{◌≡◌, ◌≤◌, None, ◌++◌, ◌∷◌, [], ◌-◌, suc, refl, sym, ap, subst, ◌∙◌, arith, take, length}
use Rattle.std.proofs.Math.Seq.{take-append_seam}
use Rattle.cf_eval.specs.Conditions.{condition_found, decided_by, test_found}
use Rattle.cf_eval.specs.Deciding.{context_scope, left_of, Apart, IsDecided, IsNoted}
use Rattle.cf_tree.specs.Keys.{put}
use Rattle.cf_eval.specs.Gives.{Stops}
use Rattle.cf_eval.proofs.Noting.{asked_fresh, looked_at, stop_asked, stop_bad, stop_below, open_less, one_at_least, descended, noted_all, apart_enter, pushed}
use Rattle.cf_eval.proofs.decide.+decide.Goals as goal

pub decide-enter-requires : goal.decide-enter-requires
decide-enter-requires t c = (
  omega arith,
  (
    c.deciding.invariant.0.right,
    (
      subst (λ u. Apart u c.deciding.done) (sym c.deciding.invariant.1) c.deciding.invariant.0.apart,
      (
        subst (λ u. left_of u c.args.context.now.conds.now ≤ c.args.left) (sym c.deciding.invariant.1) c.requires.enough,
        (asked_fresh (context_scope c.args.context.now) c.deciding.done c.args.cond.now c.in-Undecided.name c.in-Undecided.at (rw c.in-Undecided.is at c.in-Err.ensures)),
      ),
    ),
  ),
)

pub decide-returns-in-Err-enter : goal.decide-returns-in-Err-enter
decide-returns-in-Err-enter t c =
    let s = context_scope c.args.context.now in
    let conds = c.args.context.now.conds.now in
    let under = c.args.under.now.items in
    let agrees = looked_at s conds c.deciding.done c.deciding.invariant.0.right c.args.left under c.args.cond.now c.deciding.invariant.0.apart c.requires.enough in
    stop_asked (condition_found c.args.left s conds under) _ _ c.in-Undecided.name c.in-Undecided.at c.in-Err-enter.stop (rw c.in-Undecided.is at c.in-Err.ensures) agrees
    (subst (λ u. Stops (condition_found c.args.left s conds u c.in-Undecided.at c.in-Undecided.name) c.in-Err-enter.stop) c.deciding.invariant.1 c.in-Err-enter.ensures)

pub decide-returns-in-Bad : goal.decide-returns-in-Bad
decide-returns-in-Bad t c =
    let s = context_scope c.args.context.now in
    let conds = c.args.context.now.conds.now in
    let under = c.args.under.now.items in
    let agrees = looked_at s conds c.deciding.done c.deciding.invariant.0.right c.args.left under c.args.cond.now c.deciding.invariant.0.apart c.requires.enough in
    stop_bad (condition_found c.args.left s conds under) _ _ c.in-Bad.why c.in-Bad.at (rw c.in-Bad.is at c.in-Err.ensures) agrees

pub decide-returns-in-Below : goal.decide-returns-in-Below
decide-returns-in-Below t c =
    let s = context_scope c.args.context.now in
    let conds = c.args.context.now.conds.now in
    let under = c.args.under.now.items in
    let agrees = looked_at s conds c.deciding.done c.deciding.invariant.0.right c.args.left under c.args.cond.now c.deciding.invariant.0.apart c.requires.enough in
    stop_below (condition_found c.args.left s conds under) _ _ c.in-Below.why c.in-Below.stack c.in-Below.at (rw c.in-Below.is at c.in-Err.ensures) agrees

pub decide-deciding-smaller : goal.decide-deciding-smaller
decide-deciding-smaller t c =
    let noted = c.in-Ok-enter.ensures.0 in
    let fresh = asked_fresh (context_scope c.args.context.now) c.deciding.done c.args.cond.now c.in-Undecided.name c.in-Undecided.at (rw c.in-Undecided.is at c.in-Err.ensures) in
    open_less c.deciding.done c.enter.new.done c.in-Undecided.name c.in-Ok-enter.field-0 c.args.context.now.conds.now noted.extends fresh noted.noted noted.declared

pub descend-overflow_sub-left : goal.descend-overflow_sub-left
descend-overflow_sub-left t c =
    omega (arith, one_at_least c.args.under.now.items c.args.context.now.conds.now c.args.name.now c.args.cond.now c.args.left c.requires.declared c.requires.out c.requires.enough)

pub descend-decide-requires : goal.descend-decide-requires
descend-decide-requires t c =
    let conds = c.args.context.now.conds.now in
    let entered : c.push.new.self.items ≡ c.args.under.now.items ++ c.args.name.now ∷ [] = pushed _ c.in_ok-push.ensures.items c.in_ok-try_clone.ensures in
    let one = one_at_least c.args.under.now.items conds c.args.name.now c.args.cond.now c.args.left c.requires.declared c.requires.out c.requires.enough in
    let fits : left_of (c.args.under.now.items ++ c.args.name.now ∷ []) conds ≤ c.args.left - 1 = omega (arith, one) in (
      omega (arith, one),
      (
        c.requires.right,
        (
          subst (λ u. Apart u c.args.done.now) (sym entered) (apart_enter (context_scope c.args.context.now) conds c.args.under.now.items c.args.done.now c.args.name.now c.requires.apart c.requires.fresh),
          (subst (λ u. left_of u conds ≤ c.args.left - 1) (sym entered) fits),
        ),
      ),
    )

pub descend-returns-in_ok-insert-in-Ok : goal.descend-returns-in_ok-insert-in-Ok
descend-returns-in_ok-insert-in-Ok t c =
    let s = context_scope c.args.context.now in
    let conds = c.args.context.now.conds.now in
    let under = c.args.under.now.items in
    let entered : c.push.new.self.items ≡ under ++ c.args.name.now ∷ [] = pushed _ c.in_ok-push.ensures.items c.in_ok-try_clone.ensures in
    let depth : c.len-depth.result ≡ length under = omega (arith, c.len-depth.ensures) in
    let settled = subst (λ u. IsDecided s conds u c.args.done.now c.decide.new.done c.args.cond.now c.in-Ok.verdict) entered c.in-Ok.ensures.0 in
    let put_in = ap (λ n. put n c.in-Ok.verdict c.decide.new.done) c.in_ok-noted.ensures in (
      subst (λ d. IsNoted s conds under c.args.done.now d c.args.name.now c.in-Ok.verdict) (sym (c.in_ok-insert-in-Ok.ensures.ok ∙ put_in))
          (noted_all s conds under c.args.done.now c.decide.new.done c.args.name.now c.in-Ok.verdict c.args.cond.now settled c.requires.declared c.requires.out),
      c.truncate.ensures.items ∙ ap (take c.len-depth.result) (c.in-Ok.ensures.1 ∙ entered) ∙ ap (λ n. take n (under ++ c.args.name.now ∷ [])) depth ∙ take-append_seam under (c.args.name.now ∷ []),
    )

pub descend-returns-in-Err : goal.descend-returns-in-Err
descend-returns-in-Err t c =
    let s = context_scope c.args.context.now in
    let conds = c.args.context.now.conds.now in
    let entered : c.push.new.self.items ≡ c.args.under.now.items ++ c.args.name.now ∷ [] = pushed _ c.in_ok-push.ensures.items c.in_ok-try_clone.ensures in
    let one = one_at_least c.args.under.now.items conds c.args.name.now c.args.cond.now c.args.left c.requires.declared c.requires.out c.requires.enough in
    let whole : c.args.left ≡ suc (c.args.left - 1) = omega (arith, one) in
    descended s conds c.args.under.now.items c.args.name.now c.args.cond.now (c.args.left - 1) c.args.left c.in-Err.stop whole c.requires.declared c.requires.out
    (subst (λ u. Stops (test_found (decided_by (condition_found (c.args.left - 1) s conds u) s) None c.args.cond.now) c.in-Err.stop) entered c.in-Err.ensures)
