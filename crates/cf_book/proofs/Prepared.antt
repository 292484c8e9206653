-- What was prepared by the schemas of a book's lanes may begin by those of each life that the book stands for.
use Rattle.std.proofs.Common.{List, [], map}
use Rattle.cf_schema.specs.declared.described.Schema.{Schema}
use Rattle.cf_next.specs.Chosen.{schemas_of}
use Rattle.cf_plan.proofs.SameAccepted.{same_begun}
use Rattle.cf_plan.specs.Life.{Life, world_of}
use Rattle.cf_prepare.specs.declared.wish.Order.{Order}
use Rattle.cf_prepare.specs.declared.wish.Order.TheVariants as order
use Rattle.cf_core.specs.Theorem.{HoldsAlways}
use Rattle.cf_book.proofs.Told.{tells_held}
use Rattle.cf_book.specs.Beginning.{IsPrepared}
use Rattle.cf_book.specs.Lives.{DescribeLanes, NamesLanes}
use Rattle.cf_book.specs.State.{BookLane, home_of}

pub prepared_by : (schemas : List Schema) (lanes : List BookLane) (life : Life) → DescribeLanes schemas lanes → NamesLanes lanes (world_of life)
    → HoldsAlways schemas life → (o : Order) → IsPrepared (schemas_of (map home_of lanes)) (world_of life) o → IsPrepared schemas (world_of life) o
prepared_by schemas lanes life described named holds (order.Begin e) h =
    (h.0, h.1, same_begun (schemas_of (map home_of lanes)) schemas (world_of life) [] e h.0 (tells_held schemas lanes life described named holds) h.2)
prepared_by schemas lanes life described named holds (order.Review e) h = absurd h
prepared_by schemas lanes life described named holds (order.Resume number) h = h
