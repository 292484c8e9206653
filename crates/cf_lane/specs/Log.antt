-- The log of a lane: its calls in order, each with what came of it (this project's own).
use Rattle.std.specs.Prelude.{◌<◌, List, map, vec_len, vec_capacity}
use Rattle.cf_lane.specs.declared.note.Note.{Note}
use Rattle.cf_lane.specs.declared.note.Notes.{Notes}
use Rattle.cf_lane.specs.declared.told.Told.{Told}

-- a call as its note keeps it, the request and the answer for contracts alone
abbrev pub told_in : Note → Told
told_in n = record {
  epoch = n.epoch;
  number = n.number;
  token = n.token;
  request = n.request.value;
  answer = n.answer.value;
  before = n.before;
  after = n.after;
}

abbrev pub calls_in : Notes → List Told
calls_in ns = map told_in ns.notes.items

-- there is room for one more note
abbrev pub HasRoom : Notes → Type 0
HasRoom ns = vec_len ns.notes < vec_capacity ns.notes
