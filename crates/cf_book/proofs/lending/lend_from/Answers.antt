use Rattle.std.proofs.Common.{Ok, ◌∙◌, subst}
use Rattle.cf_tree.specs.declared.memory.NoMemory.{NoMemory}
use Rattle.cf_tree.specs.declared.request.Request.{Request}
use Rattle.cf_book.specs.Inside.{places_now}
use Rattle.cf_book.specs.Lending.{LendsAt}
use Rattle.cf_book.proofs.lending.lend_from.Goals as goal

pub lend_at-requires-clause-home : goal.lend_at-requires-clause-home
lend_at-requires-clause-home g c = c.requires.home

pub returns-in-Ok-clause-lends : goal.returns-in-Ok-clause-lends
returns-in-Ok-clause-lends g c =
    subst (λ (r : Request). LendsAt {E = NoMemory} g.H.Handler (places_now g.H.Handler c.args.places.now.items) (places_now g.H.Handler c.lend_at.new.places.items) c.args.at
    (record { epoch = c.args.epoch; number = c.args.number; token = c.args.asked.token; request = r }) (Ok c.in-Ok.lease))
    (c.of.ensures ∙ c.in_ok-request.ensures.request) c.in-Ok.ensures

pub returns-in-Err-clause-lends : goal.returns-in-Err-clause-lends
returns-in-Err-clause-lends g c = c.in-Err.ensures
