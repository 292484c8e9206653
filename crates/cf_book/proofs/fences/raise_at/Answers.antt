use Rattle.cf_book.proofs.Fenced.{raised_at}
use Rattle.cf_book.proofs.fences.raise_at.Goals as goal

pub returns : goal.returns
returns g c =
    raised_at g.H.Handler c.args.lanes.now.items c.args.at c.index_mut.result.now c.fence.new.self c.args.epoch c.fence.result c.requires
    c.index_mut.ensures.value c.fence.ensures.name c.fence.ensures.schema c.fence.ensures.cause c.fence.ensures.told
