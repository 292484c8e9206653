-- The life with a continued rollback.
use Rattle.std.proofs.Common.{◌≡◌, refl, [], ◌∷◌, false, sym, subst, inl, lit≤, true≢false}
use Rattle.std.specs.Prelude.{codes, drop, ◌++◌}
use Rattle.cf_effect.specs.declared.held.Held.{Held}
use Rattle.cf_plan.specs.Life.{Life}
use Rattle.cf_examples.specs.Skipped.{broken_back_once, broken_back_twice}
use Rattle.cf_effect.specs.Status.{Back}
use Rattle.cf_tree.specs.Lists.{here}
use Rattle.cf_tree.specs.Lists.{In}
use Rattle.cf_plan.specs.Ends.{IsRestored, IsLive}
use Rattle.cf_handler.specs.Lane.{Live}
use Rattle.cf_examples.specs.FirstLife.{files_with}
use Rattle.cf_examples.specs.LateLife.{until_turned, creation, change, flying}
use Rattle.cf_examples.specs.ContinuedLife.{unrolled, until_closed, end, Fails, FailsAsPromised, GoesOn, EndsAsPromised, from_then_on}
use Rattle.cf_examples.specs.Ends.{IsPromised}
use Rattle.cf_examples.proofs.Computing.{computing}
use Rattle.cf_examples.proofs.Lists.{only}
use Rattle.cf_examples.proofs.Living.{IsLived, ended, opens, raises, begins, grants, acts, settles, repeats, moves_late, closes}
use Rattle.cf_examples.proofs.LateEffect.{world_11, stack_11_s, a_1}
use Rattle.cf_examples.proofs.LateLife.{life_18, pending, until_18, live_y}
use Rattle.cf_examples.proofs.Skipped.{until_15, until_19, world_12, world_13, world_14, world_15, world_16, world_17, world_18, world_19, stack_12_s, stack_13_s, stack_19_s, a_3, may_broken_back_once, may_broken_back_twice, may_broken_back_thrice, may_failed, may_opened_again, may_continued, may_cleaning, may_rolled_back}
use Rattle.cf_examples.proofs.Ends.{doubted}

-- The failing life, from its last part to its first.
abbrev life_24 : Life
life_24 = record life_18 { entries = until_turned ++ broken_back_once ∷ broken_back_twice ∷ [] }

from_24 : IsLived life_24 world_13 (drop 24 until_closed) unrolled
unfolding computing
from_24 =
    repeats (codes "s") stack_13_s Back pending refl refl refl refl refl (here, refl) refl
    (acts refl refl refl ((lit≤ tt, λ _. lit≤ tt), (lit≤ tt, inl (_, inl refl, refl)))
    (settles world_14 refl refl refl refl may_broken_back_thrice refl
    (grants world_15 refl tt may_failed refl refl
    (closes refl refl ended))))

from_18 : IsLived life_18 world_11 (drop 18 until_closed) unrolled
unfolding computing
from_18 =
    repeats (codes "s") stack_11_s Back pending refl refl refl refl refl (here, refl) refl
    (acts refl refl refl ((lit≤ tt, λ _. lit≤ tt), (lit≤ tt, inl (_, inl refl, refl)))
    (settles world_12 refl refl refl refl may_broken_back_once refl
    (repeats (codes "s") stack_12_s Back pending refl refl refl refl refl (here, refl) refl
    (acts refl refl refl ((lit≤ tt, λ _. lit≤ tt), (lit≤ tt, inl (_, inl refl, refl)))
    (settles world_13 refl refl refl refl may_broken_back_twice refl from_24)))))

pub fails : Fails
fails = (until_18 from_18).lives refl

pub fails_as_promised : FailsAsPromised
fails_as_promised = subst (λ x. IsPromised (codes "s") x unrolled.lanes) (sym until_15.arrives) doubted

going : IsLived unrolled world_15 from_then_on end
unfolding computing
going =
    moves_late refl (record { flying = flying; stands = refl; passes = lit≤ tt; is_new = refl; fits = (refl, refl, lit≤ tt); leaves = refl })
    (opens world_16 refl may_opened_again refl refl refl
    (raises refl refl refl here (lit≤ tt) (lit≤ tt, refl)
    (begins world_17 refl refl tt may_continued refl
    (grants world_18 refl tt may_cleaning refl refl
    (grants world_19 refl tt may_rolled_back refl refl
    (closes refl refl ended))))))

pub goes_on : GoesOn
goes_on = going.lives until_15.arrives

-- the file is live under its id; its content is another one, which an unsure record allows
restored : IsRestored stack_19_s end.lanes
restored = record {
  settled = record { none_open = refl; none_made = refl };
  held = λ b i. only (λ (q : Held). (r : Held) × In r stack_19_s.held × (r.path ≡ q.path) × (r.physical ≡ q.physical) × (r.kind ≡ q.kind)) {a = a_1} (a_3, here, refl, refl, refl) b i;
  nothing_else = λ r i. only (λ (q : Held). (b : Held) × In b stack_19_s.before × (b.path ≡ q.path) × (b.physical ≡ q.physical)) {a = a_3} (a_1, here, refl, refl) r i;
  live = λ b r i j same. only (λ (q : Held). (v : Live) × IsLive end.lanes r v × (v.kind ≡ q.kind) × (r.unsure ≡ false → v.props ≡ q.props)) {a = a_1} (only (λ (q : Held). (v : Live) × IsLive end.lanes q v × (v.kind ≡ a_1.kind) × (q.unsure ≡ false → v.props ≡ a_1.props)) {a = a_3} (live_y, record { lane = files_with (creation ∷ change ∷ []) [] 2; home = record { handed_in = refl; named = (codes "1", refl) }; live = refl }, refl, λ e. absurd (true≢false e)) r j) b i;
}

pub ends_as_promised : EndsAsPromised
ends_as_promised = subst (λ x. IsPromised (codes "s") x end.lanes) (sym until_19.arrives) restored
