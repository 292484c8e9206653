use Rattle.std.proofs.Common.{ℕ, ◌<◌, ◌∙◌, List, [], length, get_or, rules, subst}
use Rattle.cf_tree.specs.declared.request.Request.TheVariants.{Delete}
use Rattle.cf_schema.specs.declared.described.Schema.{Schema}
use Rattle.cf_handler.specs.Tells.{Lates}
use Rattle.cf_fake.specs.declared.waiting.Waiting.{Waiting}
use Rattle.cf_fake.specs.Late.{IsTurn, lane_at}
use Rattle.cf_fake.proofs.Acting.{lates_then, turn_settled, turn_steps, turn_waiting}
use Rattle.cf_fake.proofs.late.act_due.Goals as goal

-- read of no list
none_waits : Waiting
none_waits = record { due = 0; epoch = 0; token = 0; request = Delete [] }

pub returns-in_err-at-clause-late : goal.returns-in_err-at-clause-late
returns-in_err-at-clause-late c =
    lates_then c.args.store.now.name (lane_at c.args.store.now.settled.items c.args.waiting.now.items c.args.fence) (lane_at c.loop-at.store.settled.items c.loop-at.waiting.items c.args.fence) (lane_at c.turn.new.store.settled.items c.turn.new.waiting.items c.args.fence)
    c.loop-at.invariant.late
    (subst (λ n. Lates n (lane_at c.loop-at.store.settled.items c.loop-at.waiting.items c.args.fence) (lane_at c.turn.new.store.settled.items c.turn.new.waiting.items c.args.fence)) c.loop-at.invariant.name c.turn.ensures.late)

pub loop-at-smaller : goal.loop-at-smaller
loop-at-smaller c =
    let within : c.loop-at.at < length c.loop-at.waiting.items = search rules in
    (turn_steps c.loop-at.store.schema c.loop-at.store.name c.args.number c.args.fence c.loop-at.at c.in_ok-at.at c.loop-at.store.settled.items c.turn.new.store.settled.items c.loop-at.waiting.items c.turn.new.waiting.items none_waits within (c.in_ok-at.ensures.ok none_waits)).1

pub loop-at-preserved : goal.loop-at-preserved
loop-at-preserved c =
    let g : Schema = c.args.store.now.schema in
    let n : List ℕ = c.args.store.now.name in
    let within : c.loop-at.at < length c.loop-at.waiting.items = search rules in
    let turn : IsTurn g n c.args.number c.args.fence c.loop-at.at (get_or c.loop-at.waiting.items c.loop-at.at none_waits) c.loop-at.store.settled.items c.loop-at.waiting.items c.turn.new.store.settled.items c.turn.new.waiting.items c.in_ok-at.at =
    subst (λ y. IsTurn g y c.args.number c.args.fence c.loop-at.at (get_or c.loop-at.waiting.items c.loop-at.at none_waits) c.loop-at.store.settled.items c.loop-at.waiting.items c.turn.new.store.settled.items c.turn.new.waiting.items c.in_ok-at.at) c.loop-at.invariant.name
    (subst (λ y. IsTurn y c.loop-at.store.name c.args.number c.args.fence c.loop-at.at (get_or c.loop-at.waiting.items c.loop-at.at none_waits) c.loop-at.store.settled.items c.loop-at.waiting.items c.turn.new.store.settled.items c.turn.new.waiting.items c.in_ok-at.at) c.loop-at.invariant.schema (c.in_ok-at.ensures.ok none_waits)) in
    record {
      name = c.turn.ensures.stays.0 ∙ c.loop-at.invariant.name;
      schema = c.turn.ensures.stays.1 ∙ c.loop-at.invariant.schema;
      within = (turn_steps g n c.args.number c.args.fence c.loop-at.at c.in_ok-at.at c.loop-at.store.settled.items c.turn.new.store.settled.items c.loop-at.waiting.items c.turn.new.waiting.items none_waits within turn).0;
      settled = c.loop-at.invariant.settled ∙ turn_settled g n c.args.number c.args.fence c.loop-at.at c.in_ok-at.at c.loop-at.store.settled.items c.turn.new.store.settled.items c.loop-at.waiting.items c.turn.new.waiting.items none_waits within turn;
      waiting = c.loop-at.invariant.waiting ∙ turn_waiting g n c.args.number c.args.fence c.loop-at.at c.in_ok-at.at c.loop-at.store.settled.items c.turn.new.store.settled.items c.loop-at.waiting.items c.turn.new.waiting.items none_waits within turn;
      late =
          lates_then n (lane_at c.args.store.now.settled.items c.args.waiting.now.items c.args.fence) (lane_at c.loop-at.store.settled.items c.loop-at.waiting.items c.args.fence) (lane_at c.turn.new.store.settled.items c.turn.new.waiting.items c.args.fence)
          c.loop-at.invariant.late
          (subst (λ y. Lates y (lane_at c.loop-at.store.settled.items c.loop-at.waiting.items c.args.fence) (lane_at c.turn.new.store.settled.items c.turn.new.waiting.items c.args.fence)) c.loop-at.invariant.name c.turn.ensures.late);
    }
