-- What a subscriber's thread is given may go to it.
use mathlib.Core.List.{[], ◌∷◌}
use mir.Syntax.{Sym}
use denote.Ref.{NamedLft, ShrRef}
use denote.RattleType.{RattleType}
use denote.Param.Send.{IsSend, IsSync, shr_send, sendable}
use denote.Param.SendFields.{as_row_send, declared_send, declared_sync}
use denote.Struct.Field.{row_field}
use denote.Struct.Tuple.{TupleAt, type_at}
use Rattle.std.proofs.Crossing.{crosses}
use denote.Builtin.{usize}
use Rattle.std.specs.contracts.net.tcp.TcpStream as TcpStream
use Rattle.snap_share.specs.declared.history.ShareName as ShareName
use Rattle.snap_share.specs.contracts.seat.ReadSeat as ReadSeat
use Rattle.snap_share.proofs.Crossings.{ReadSeat-send, Told-send}
use Rattle.flagops_streams.specs.contracts.board.Board as Board
use Rattle.flagops_streams.specs.contracts.news.News as News

-- five captures that may go may be captured by one closure
captured_send : (ν : Sym) (A B C D E : RattleType) → IsSend A → IsSend B → IsSend C → IsSend D → IsSend E → IsSend (TupleAt ν (A ∷ B ∷ C ∷ D ∷ E ∷ []))
captured_send ν A B C D E a b c d e =
    declared_send (type_at ν (A ∷ B ∷ C ∷ D ∷ E ∷ []))
    (as_row_send (row_field A) a, (as_row_send (row_field B) b, (as_row_send (row_field C) c, (as_row_send (row_field D) d, (as_row_send (row_field E) e, tt)))))

usize-send : IsSend usize
usize-send = search (sendable, crosses) depth 20

TcpStream-send : IsSend TcpStream.the_row
TcpStream-send = search (sendable, crosses) depth 40

-- the captures of a subscriber's thread: the handle, the board, its place, its seat and its connection
abbrev pub Attending : (T : RattleType) → ShareName.Ghosts T.Denot → Sym → NamedLft → NamedLft → RattleType → RattleType
Attending T g ν r b R = TupleAt ν (ShrRef r.mir r.lft R ∷ ShrRef b.mir b.lft (Board.the_row T g) ∷ usize ∷ ReadSeat.the_row T g ∷ TcpStream.the_row ∷ [])

module _ (T : RattleType) (g : ShareName.Ghosts T.Denot) (send : IsSend T) (sync : IsSync T) where
  News-send : IsSend (News.the_row T g)
  News-send = declared_send (News.the_type T g) (Told-send T g send sync, (search (sendable, crosses) depth 20, (search (sendable, crosses) depth 20, (search (sendable, crosses) depth 40, tt))))

  Board-sync : IsSync (Board.the_row T g)
  Board-sync = declared_sync (Board.the_type T g) (search (sendable, crosses, News-send) depth 40, (search (sendable, crosses) depth 40, (search (sendable, crosses) depth 20, tt)))

  pub attend_send : (ν : Sym) (r b : NamedLft) (R : RattleType) → IsSync R → IsSend (Attending T g ν r b R)
  attend_send ν r b R s =
      captured_send ν (ShrRef r.mir r.lft R) (ShrRef b.mir b.lft (Board.the_row T g)) usize (ReadSeat.the_row T g) TcpStream.the_row
      (shr_send r.mir r.lft R s) (shr_send b.mir b.lft (Board.the_row T g) Board-sync) usize-send (ReadSeat-send T g send sync) TcpStream-send
