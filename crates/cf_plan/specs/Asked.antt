-- A request by what it borrows (this project's own).
use Rattle.cf_tree.specs.declared.request.Request.{Request}
use Rattle.cf_tree.specs.declared.request.Request.TheVariants as request
use Rattle.cf_plan.specs.declared.start.Ask.{Ask}
use Rattle.cf_plan.specs.declared.start.Ask.TheVariants as ask

abbrev pub request_of : Ask → Request
request_of (ask.Create kind props) = request.Create kind.now props.now
request_of (ask.Update physical props) = request.Update physical.now props.now
request_of (ask.Delete physical) = request.Delete physical.now
