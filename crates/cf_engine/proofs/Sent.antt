-- A shipped lane may go to another thread, since no part of it is bound to one: from its parts upward, each by a search of its own, for a
-- search of the whole comes to its limit.
use denote.RattleType.{RattleType}
use denote.Param.Send.{IsSend, sendable}
use Rattle.std.specs.declared.alloc.Allocator.{Ghosts as Allocator}
use Rattle.std.specs.declared.alloc.Global.{Global}
use Rattle.std.specs.declared.clone.Clone.{Ghosts as Clone}
use Rattle.std.specs.declared.fs.File.{File}
use Rattle.std.specs.declared.io.traits.Read.{Ghosts as Read}
use Rattle.std.specs.declared.io.traits.Seek.{Ghosts as Seek}
use Rattle.std.specs.declared.io.traits.Write.{Ghosts as Write}
use Rattle.std.proofs.alloc.Global.TheSendSync as global
use Rattle.std.proofs.fs.File.TheSendSync as file
use Rattle.std.proofs.option.Option.TheSendSync as option
use Rattle.std.proofs.vec.Vec.TheSendSync as vec
use Rattle.std.proofs.Crossing.{frees}
use Rattle.once_cell.proofs.race.once_box.OnceBox.TheSendSync as once
use Rattle.cf_tree.proofs.code.Code.TheSendSync as code
use Rattle.cf_tree.proofs.text.Txt.TheSendSync as text
use Rattle.cf_tree.proofs.value.Dict.TheLaws.TheKnot.{send-Dict}
use Rattle.cf_tree.specs.contracts.request.Request as request
use Rattle.cf_tree.specs.contracts.value.Dict as dict
use Rattle.cf_schema.proofs.described.Schema.TheSendSync as schema
use Rattle.cf_handler.specs.contracts.settled.Settled as settled
use Rattle.cf_handler.specs.contracts.settled.Settlement as settlement
use Rattle.cf_answers.specs.contracts.live.LiveResource as live
use Rattle.cf_answers.specs.contracts.live_set.LiveSet as live_set
use Rattle.cf_tokens.proofs.table.Place.TheSendSync as place
use Rattle.cf_tokens.specs.contracts.known.Undone as undone
use Rattle.cf_tokens.specs.contracts.known.Known as known
use Rattle.cf_tokens.specs.contracts.table.Table as table
use Rattle.cf_tokens.specs.contracts.handler.TableHandler as handler
use Rattle.cf_records.proofs.records.Rows.TheSendSync as rows
use Rattle.cf_files.proofs.files.FolderFiles.TheSendSync as folder
use Rattle.cf_shipped.specs.contracts.shipped.Shipped as shipped

dict_send : IsSend dict.the_row
dict_send = search (sendable, send-Dict, text.the_send, vec.the_send, frees, global.the_field_send) depth 20

request_send : IsSend request.the_field.row
request_send = search (sendable, dict_send, text.the_send) depth 30

settlement_send : IsSend settlement.the_field.row
settlement_send = search (sendable, dict_send, text.the_send, code.the_field_send) depth 30

settled_send : IsSend settled.the_field.row
settled_send = search (sendable, request_send, settlement_send) depth 30

live_send : IsSend live.the_field.row
live_send = search (sendable, dict_send, text.the_send) depth 30

lives_send : IsSend live_set.the_field.row
lives_send = search (sendable, live_send, vec.the_send, frees, global.the_field_send) depth 30

undone_send : IsSend undone.the_field.row
undone_send = search (sendable, request_send, text.the_send) depth 30

known_send : IsSend known.the_field.row
known_send =
    search (
      sendable,
      settled_send,
      lives_send,
      undone_send,
      text.the_send,
      vec.the_send,
      frees,
      global.the_field_send,
      option.the_field_send,
    ) depth 30

table_send : IsSend table.the_field.row
table_send = search (sendable, known_send, place.the_field_send, once.the_send, file.the_field_send, global.the_field_send) depth 30

handler_send :
    (R S T : RattleType) (r : Read File) (w : Write File) (k : Seek File) (t : Read T.Denot) (a : Allocator Global) (c : Clone Global)
    → IsSend R → IsSend S → IsSend (handler.the_field R S T r w k t a c).row
handler_send R S T r w k t a c sr ss = search (sendable, text.the_send, schema.the_field_send, table_send) depth 30

shipped_send : (R T : RattleType) (t : Read T.Denot) → IsSend R → IsSend (shipped.the_field R T t).row
shipped_send R T t s = search (sendable, handler_send, rows.the_field_send, folder.the_field_send) depth 30

pub lane_send : (R T : RattleType) (t : Read T.Denot) → IsSend R → IsSend (shipped.the_row R T t)
lane_send R T t s = search (sendable, shipped_send) depth 30
