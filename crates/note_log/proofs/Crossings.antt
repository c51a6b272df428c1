-- The memory may be shared by several threads.
use denote.Builtin.{u8, u64}
use denote.Param.Send.{IsSend, IsSync, sendable}
use denote.Param.SendFields.{declared_send, declared_sync}
use Rattle.std.proofs.Crossing.{crosses, frees}
use Rattle.std.proofs.MapsCrossing as maps
use Rattle.std.specs.contracts.alloc.Global as Global
use Rattle.std.specs.contracts.impls.GlobalAllocator.TheImpl.{ghosts}
use Rattle.std.specs.contracts.vec.Vec as Vec
use Rattle.http_server.proofs.log.Log.TheSendSync as log
use Rattle.log_file.specs.contracts.handed.Handed as Handed
use Rattle.lru.proofs.Crosses.{Deed-send, KeyRef-send, List-send}
use Rattle.lru.specs.contracts.entry.Deed as Deed
use Rattle.lru.specs.contracts.key_ref.KeyRef as KeyRef
use Rattle.lru.specs.contracts.list.List as Nodes
use Rattle.note_log.specs.contracts.files.Files as Files
use Rattle.note_log.specs.contracts.memory.NoteMemory as NoteMemory
use Rattle.note_log.specs.contracts.shared.SharedMemory as SharedMemory

pub Handed-send : IsSend Handed.the_row
Handed-send = declared_send Handed.the_type (search (sendable, crosses, log.the_send) depth 80, tt)

Files-send : IsSend Files.the_row
Files-send = declared_send Files.the_type (search (sendable, crosses) depth 40, (search (sendable, crosses) depth 40, (search (sendable, crosses, log.the_send, Handed-send) depth 80, tt)))

-- the keys of the table, and what it has of them and of the numbers
line_send : IsSend (Vec.the_row u8 Global.the_row ghosts)
line_send = search (sendable, crosses) depth 40

line_sync : IsSync (Vec.the_row u8 Global.the_row ghosts)
line_sync = search (sendable, crosses) depth 40

key_send : IsSend (KeyRef.the_row (Vec.the_row u8 Global.the_row ghosts))
key_send = KeyRef-send (Vec.the_row u8 Global.the_row ghosts) line_sync

nodes_send : IsSend (Nodes.the_row (Vec.the_row u8 Global.the_row ghosts) u64)
nodes_send = List-send (Vec.the_row u8 Global.the_row ghosts) u64 line_send line_sync (search sendable)

deed_send : IsSend (Deed.the_row (Vec.the_row u8 Global.the_row ghosts) u64 Global.the_row ghosts)
deed_send = Deed-send (Vec.the_row u8 Global.the_row ghosts) u64 Global.the_row ghosts frees

NoteMemory-send : IsSend NoteMemory.the_row
NoteMemory-send = declared_send NoteMemory.the_type (search (sendable, crosses, maps.crosses, key_send, nodes_send, deed_send) depth 120, (Files-send, tt))

pub SharedMemory-sync : IsSync SharedMemory.the_row
SharedMemory-sync = declared_sync SharedMemory.the_type (search (sendable, crosses, NoteMemory-send) depth 80, tt)
