-- What the thread of a seat is given may go to it.
use mathlib.Core.List.{[], ◌∷◌}
use mir.Syntax.{Sym}
use denote.Ref.{NamedLft, ShrRef}
use denote.RattleType.{RattleType}
use denote.Param.Send.{IsSend, IsSync, shr_send, sendable}
use denote.Param.SendFields.{as_row_send, declared_send}
use denote.Struct.Field.{row_field}
use denote.Struct.Tuple.{TupleAt, type_at}
use Rattle.std.proofs.Crossing.{crosses}
use Rattle.std.specs.contracts.sync.atomic.AtomicU64 as AtomicU64
use Rattle.snap_share.specs.declared.history.ShareName as ShareName
use Rattle.snap_share.specs.contracts.seat.ReadSeat as ReadSeat
use Rattle.snap_share.proofs.Crossings.{ReadSeat-send}

AtomicU64-sync : IsSync AtomicU64.the_row
AtomicU64-sync = search (sendable, crosses) depth 40

module _ (T : RattleType) (g : ShareName.Ghosts T.Denot) where
  -- the captures of a seat's thread: the seat and the counter
  abbrev pub Reading : Sym → NamedLft → RattleType
  Reading ν c = TupleAt ν (ReadSeat.the_row T g ∷ ShrRef c.mir c.lft AtomicU64.the_row ∷ [])

  pub reading_send : IsSend T → IsSync T → (ν : Sym) (c : NamedLft) → IsSend (Reading ν c)
  reading_send send sync ν c =
      declared_send (type_at ν (ReadSeat.the_row T g ∷ ShrRef c.mir c.lft AtomicU64.the_row ∷ []))
      (as_row_send (row_field (ReadSeat.the_row T g)) (ReadSeat-send T g send sync), (as_row_send (row_field (ShrRef c.mir c.lft AtomicU64.the_row)) (shr_send c.mir c.lft AtomicU64.the_row AtomicU64-sync), tt))
