-- A handle goes to another thread, as the box that it holds does.
use base.Shift.{Keyless}
use mir.Raw.{raw}
use denote.Memory.{lone}
use denote.RawPtr.{Ptr}
use denote.Builtin.{RawPtr, bool}
use denote.Param.Send.{IsSend, owning_send, struct_send, sendable}
use denote.Struct.Struct.{exits_of}
use denote.Struct.Owning.{shape, fields, to}
use Rattle.std.specs.Prelude.{Option, Some, None}
use Rattle.libc.specs.Heap.{chunk-Keyless}
use Rattle.std_alloc.proofs.SendSync.{quiet, lies}
use Rattle.flagops_c.specs.Held.{held_at}
use Rattle.flagops_c.specs.contracts.handle.Handle.{the_row, the_type}
use Rattle.library_seat.specs.contracts.seat.Seat.{the_row as R}
use Rattle.flagops_c.proofs.Crossings.{Seat-send}

held_keyless : (at : Ptr) (s : Option R.Denot) → Keyless (held_at at s)
held_keyless at None = tt
held_keyless at (Some x) = (lies R Seat-send at x, chunk-Keyless (raw (lone R.mir)) at)

pub send : IsSend the_row
send = let O = the_type in let ps : IsSend RawPtr = search sendable in let bs : IsSend bool = search sendable in
    owning_send O (ps, (bs, tt)) (λ d. held_keyless d.address d.seat) (λ k. quiet (to O) (exits_of k (fields O)) ((struct_send (shape O) (ps, (bs, tt))).leaving k))
