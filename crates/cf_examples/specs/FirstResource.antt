-- The first resource: a stack of one file (this project's own).
use Rattle.std.specs.Prelude.{◌≡◌, List, [], ◌∷◌, codes, Some, false, true}
use Rattle.cf_tree.specs.declared.request.Request.TheVariants as request
use Rattle.cf_tree.specs.declared.source.Source.{Source}
use Rattle.cf_tree.specs.declared.template.Deletion.TheVariants as deletion
use Rattle.cf_tree.specs.declared.template.Replace.TheVariants as replace
use Rattle.cf_entry.specs.declared.entry.Entry.{Entry}
use Rattle.cf_entry.specs.declared.entry.Entry.TheVariants as entry
use Rattle.cf_entry.specs.declared.entry.Begun.TheVariants as begin
use Rattle.cf_entry.specs.declared.entry.Reply.TheVariants as reply
use Rattle.cf_entry.specs.declared.status.Status.TheVariants as status
use Rattle.cf_effect.specs.declared.call.Call.{Call}
use Rattle.cf_effect.specs.declared.call.Settled.TheVariants as settled
use Rattle.cf_effect.specs.declared.held.Held.{Held}
use Rattle.cf_effect.specs.declared.held.HeldStatus.TheVariants as held
use Rattle.cf_effect.specs.World.{StackState, World, empty_world}
use Rattle.cf_effect.specs.Fold.{fold_of}
use Rattle.cf_effect.specs.Begin.{source_for}
use Rattle.cf_plan.specs.Follow.{IsLegal}
use Rattle.cf_examples.specs.Given.{file, file_props, file_attrs, schemas, source_of, IsRefusedAfter}

abbrev pub source : Source
source =
    source_of (codes "app") (codes "one")
    (codes "{\"Resources\":{\"Web\":{\"Type\":\"Local::Files::File\",\"Properties\":{\"Path\":\"web.txt\",\"Content\":\"hello\"}}}}")

abbrev pub opened : Entry
opened = entry.Opened 1 ((codes "f1", file) ∷ [])

abbrev pub begun : Entry
begun = entry.Begin 1 (codes "app") (begin.Create source)

abbrev pub intended : Entry
intended = entry.Intent 1 1 (codes "f1") (codes "Web") (request.Create file (file_props (codes "web.txt") (codes "hello")))

abbrev pub answered : Entry
answered = entry.Outcome 1 1 (reply.Success (codes "f1:1") (file_attrs (codes "f1:1") 5 (codes "web.txt") (codes "hello"))) 0 0

abbrev pub done : Entry
done = entry.Done 1 status.CreateComplete []

abbrev pub run : List Entry
run = opened ∷ begun ∷ intended ∷ answered ∷ done ∷ []

-- the file as it is held
abbrev pub web : Held
web = record {
  path = codes "Web";
  kind = file;
  physical = codes "f1:1";
  props = file_props (codes "web.txt") (codes "hello");
  attrs = file_attrs (codes "f1:1") 5 (codes "web.txt") (codes "hello");
  needs = [];
  deletion = deletion.Delete;
  replace = replace.Delete;
  status = held.CreateComplete;
  unsure = false;
  superseded = false;
}

-- the call that made it
abbrev pub call : Call
call = record {
  number = 1;
  token = 1;
  lane = codes "f1";
  path = codes "Web";
  request = request.Create file (file_props (codes "web.txt") (codes "hello"));
  status = status.CreateInProgress;
  fresh = true;
  doubts = 0;
  answer = Some settled.Success;
}

abbrev pub app : StackState
app = record {
  status = status.CreateComplete;
  number = 1;
  operation = 1;
  held = web ∷ [];
  before = [];
  made = [];
  leftovers = [];
  tokens = [];
  abandoned = [];
  source = Some (source_for (codes "app") 1 source);
  going = Some (source_for (codes "app") 1 source);
  outputs = [];
  sets = [];
  events =
      codes "event 2 - CREATE_IN_PROGRESS" ∷ codes "event 3 Web CREATE_IN_PROGRESS" ∷ codes "event 4 Web CREATE_COMPLETE"
      ∷ codes "event 5 - CREATE_COMPLETE" ∷ [];
  entries = begun ∷ intended ∷ answered ∷ done ∷ [];
  ledger = call ∷ [];
}

abbrev pub world : World
world =
    record {
      stacks = (codes "app", app) ∷ [];
      exports = [];
      pins = [];
      claims = [];
      lanes = (codes "f1", file) ∷ [];
      epoch = 1;
      operation = 1;
      set = 0;
      token = 1;
      place = 5;
    }

abbrev pub Leaves : Type 0
Leaves = fold_of empty_world run ≡ world

abbrev pub Legal : Type 0
Legal = IsLegal schemas empty_world run

-- The same source changes nothing, so no update begins by it.
abbrev pub same_again : Entry
same_again = entry.Begin 2 (codes "app") (begin.Update source)

abbrev pub UpdatedThoughTheSame : Type 0
UpdatedThoughTheSame = IsRefusedAfter run same_again
