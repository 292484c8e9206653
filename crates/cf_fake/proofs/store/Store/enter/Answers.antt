use Rattle.cf_handler.specs.declared.settled.Settled.{Settled}
use Rattle.cf_answers.proofs.Free.{noted_after}
use Rattle.cf_fake.proofs.Keeps.{kept_after, same_after}
use Rattle.cf_fake.proofs.store.Store.enter.Goals as goal

pub invariant_of-self-2 : goal.invariant_of-self-2
invariant_of-self-2 c =
    let x : Settled = record { token = c.args.token; request = c.args.request.now; settlement = c.args.settlement } in
    record {
      named = c.args.self.now.named;
      kept = kept_after c.args.self.now.name c.args.self.now.settled.items c.keep.new.settled.items x c.keep.result c.args.self.now.kept c.requires c.keep.ensures.settled c.keep.ensures.settled_before;
      same = same_after c.args.self.now.settled.items c.keep.new.settled.items c.args.self.now.live.items c.keep.new.live.items c.args.token c.args.request.now c.args.settlement c.keep.result c.args.self.now.same c.keep.ensures.settled c.keep.ensures.live c.keep.ensures.settled_before c.keep.ensures.live_before;
      marked = noted_after c.args.self.now.schema.create_only c.args.self.now.noted c.note_request.new.self c.args.request.now c.args.settlement c.args.self.now.live.items c.keep.new.live.items c.keep.result c.args.self.now.marked c.in_ok-note_request.ensures.ok c.keep.ensures.live c.keep.ensures.live_before;
    }
