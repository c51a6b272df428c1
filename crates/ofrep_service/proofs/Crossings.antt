-- What a worker's thread is given may go to it.
use mathlib.Core.List.{[], ◌∷◌}
use mir.Syntax.{Sym}
use denote.Ref.{NamedLft, ShrRef}
use denote.RattleType.{RattleType}
use denote.Param.Send.{IsSend, IsSync, shr_send, sendable}
use denote.Param.SendFields.{as_row_send, declared_send, declared_sync}
use denote.Struct.Field.{row_field}
use denote.Struct.Tuple.{TupleAt, type_at}
use Rattle.std.proofs.Crossing.{crosses}
use Rattle.std.specs.contracts.alloc.Global as Global
use Rattle.std.specs.contracts.random_state.RandomState as RandomState
use Rattle.std.specs.contracts.net.tcp.TcpListener as TcpListener
use Rattle.http_server.proofs.log.Log.TheSendSync as log
use Rattle.log_file.specs.contracts.journal.Journal as Journal
use Rattle.log_file.specs.contracts.system.SystemLog as SystemLog
use Rattle.log_file.specs.declared.file.LogFile.{Ghosts}
use Rattle.note_log.proofs.Crossings.{Handed-send, SharedMemory-sync}
use Rattle.note_log.specs.contracts.numbered.NumberedJournal as NumberedJournal
use Rattle.snap_share.specs.declared.history.ShareName as ShareName
use Rattle.snap_share.specs.contracts.seat.ReadSeat as ReadSeat
use Rattle.snap_share.proofs.Crossings.{ReadSeat-send}
use Rattle.ofrep_connections.specs.contracts.load.Load as Load
use Rattle.service_layers.proofs.Crossings.{AccessLines-sync}
use Rattle.control_desk.specs.contracts.sources.PublishedSources as PublishedSources
use Rattle.control_desk.proofs.Crossings.{DeskPost-sync, PublishedSources-sync}
use Rattle.ofrep_guards.proofs.Crossings.{KeyRing-sync}
use Rattle.ofrep_worker.proofs.Crossings.{Counts-sync}
use Rattle.ofrep_service.specs.contracts.admin.AdminPost as AdminPost
use Rattle.ofrep_service.specs.contracts.board.Board as Board
use Rattle.ofrep_service.specs.contracts.posts.Post as Post

-- six captures that may go may be captured by one closure
captured_six : (ν : Sym) (A B C D E F : RattleType) → IsSend A → IsSend B → IsSend C → IsSend D → IsSend E → IsSend F
    → IsSend (TupleAt ν (A ∷ B ∷ C ∷ D ∷ E ∷ F ∷ []))
captured_six ν A B C D E F a b c d e f =
    declared_send (type_at ν (A ∷ B ∷ C ∷ D ∷ E ∷ F ∷ []))
    (as_row_send (row_field A) a, (as_row_send (row_field B) b, (as_row_send (row_field C) c, (as_row_send (row_field D) d, (as_row_send (row_field E) e, (as_row_send (row_field F) f, tt))))))

-- and so eight
captured_eight : (ν : Sym) (A B C D E F G H : RattleType) → IsSend A → IsSend B → IsSend C → IsSend D → IsSend E → IsSend F → IsSend G → IsSend H
    → IsSend (TupleAt ν (A ∷ B ∷ C ∷ D ∷ E ∷ F ∷ G ∷ H ∷ []))
captured_eight ν A B C D E F G H a b c d e f h i =
    declared_send (type_at ν (A ∷ B ∷ C ∷ D ∷ E ∷ F ∷ G ∷ H ∷ []))
    (as_row_send (row_field A) a, (as_row_send (row_field B) b, (as_row_send (row_field C) c, (as_row_send (row_field D) d, (as_row_send (row_field E) e, (as_row_send (row_field F) f, (as_row_send (row_field G) h, (as_row_send (row_field H) i, tt))))))))

-- and so four
captured_four : (ν : Sym) (A B C D : RattleType) → IsSend A → IsSend B → IsSend C → IsSend D → IsSend (TupleAt ν (A ∷ B ∷ C ∷ D ∷ []))
captured_four ν A B C D a b c d =
    declared_send (type_at ν (A ∷ B ∷ C ∷ D ∷ []))
    (as_row_send (row_field A) a, (as_row_send (row_field B) b, (as_row_send (row_field C) c, (as_row_send (row_field D) d, tt))))

Global-send : IsSend Global.the_row
Global-send = search (sendable, crosses) depth 20

RandomState-send : IsSend RandomState.the_row
RandomState-send = search (sendable, crosses) depth 40

Load-sync : IsSync Load.the_row
Load-sync = search (sendable, crosses) depth 40

Board-sync : IsSync Board.the_row
Board-sync =
    declared_sync Board.the_type (Counts-sync, (Load-sync, (search (sendable, crosses) depth 40, (search (sendable, crosses) depth 40, (search (sendable, crosses) depth 40, (search (sendable, crosses) depth 40, (SharedMemory-sync, (search (sendable, crosses) depth 40, (search (sendable, crosses) depth 40, (search (sendable, crosses, KeyRing-sync) depth 40, (search (sendable, crosses) depth 40, (search (sendable, crosses, AccessLines-sync) depth 40, (search (sendable, crosses) depth 40, (DeskPost-sync, (Load-sync, tt)))))))))))))))

TcpListener-send : IsSend TcpListener.the_row
TcpListener-send = search (sendable, crosses) depth 40

SystemLog-send : IsSend SystemLog.the_row
SystemLog-send = search (sendable, crosses, log.the_send) depth 80

Journal-send : (g : Ghosts (SystemLog.the_row).Denot) → IsSend (Journal.the_row SystemLog.the_row g)
Journal-send g =
    declared_send (Journal.the_type SystemLog.the_row g) (SystemLog-send, (search (sendable, crosses) depth 40, (search (sendable, crosses) depth 40, (search (sendable, crosses) depth 40, (Handed-send, tt)))))

NumberedJournal-send : (g : Ghosts (SystemLog.the_row).Denot) → IsSend (NumberedJournal.the_row SystemLog.the_row g)
NumberedJournal-send g = declared_send (NumberedJournal.the_type SystemLog.the_row g) (Journal-send g, (search (sendable, crosses) depth 40, tt))

Post-send : IsSend Post.the_row
Post-send = declared_send Post.the_type (TcpListener-send, (search (sendable, crosses, NumberedJournal-send) depth 40, tt))

AdminPost-send : IsSend AdminPost.the_row
AdminPost-send = search (sendable, crosses) depth 120

-- the captures of a worker's thread: the handle, the allocator, the keys, the board, its seat and its post
abbrev pub Working : (T : RattleType) → ShareName.Ghosts T.Denot → Sym → NamedLft → NamedLft → RattleType → RattleType
Working T g ν r b R =
    TupleAt ν (ShrRef r.mir r.lft R ∷ Global.the_row ∷ RandomState.the_row ∷ ShrRef b.mir b.lft Board.the_row ∷ ReadSeat.the_row T g ∷ Post.the_row ∷ [])

-- the captures of a thread for operations: the same, what is known of documents, a seat for its desk, and another post
abbrev pub Operating : (T : RattleType) → ShareName.Ghosts T.Denot → Sym → NamedLft → NamedLft → NamedLft → RattleType → RattleType
Operating T g ν r b s R =
    TupleAt ν (ShrRef r.mir r.lft R ∷ Global.the_row ∷ RandomState.the_row ∷ ShrRef b.mir b.lft Board.the_row ∷ ShrRef s.mir s.lft (PublishedSources.the_row T g) ∷ ReadSeat.the_row T g ∷ ReadSeat.the_row T g ∷ AdminPost.the_row ∷ [])

-- the captures of a thread of the stream: the handle, the board, its seat and its listener
abbrev pub Streaming : (T : RattleType) → ShareName.Ghosts T.Denot → Sym → NamedLft → NamedLft → RattleType → RattleType
Streaming T g ν r b R = TupleAt ν (ShrRef r.mir r.lft R ∷ ShrRef b.mir b.lft Board.the_row ∷ ReadSeat.the_row T g ∷ TcpListener.the_row ∷ [])

module _ (T : RattleType) (g : ShareName.Ghosts T.Denot) (send : IsSend T) (sync : IsSync T) where
  pub work_send : (ν : Sym) (r b : NamedLft) (R : RattleType) → IsSync R → IsSend (Working T g ν r b R)
  work_send ν r b R is =
      captured_six ν (ShrRef r.mir r.lft R) Global.the_row RandomState.the_row (ShrRef b.mir b.lft Board.the_row) (ReadSeat.the_row T g) Post.the_row
      (shr_send r.mir r.lft R is) Global-send RandomState-send (shr_send b.mir b.lft Board.the_row Board-sync) (ReadSeat-send T g send sync) Post-send

  pub operate_send : (ν : Sym) (r b s : NamedLft) (R : RattleType) → IsSync R → IsSend (Operating T g ν r b s R)
  operate_send ν r b s R is =
      captured_eight ν (ShrRef r.mir r.lft R) Global.the_row RandomState.the_row (ShrRef b.mir b.lft Board.the_row) (ShrRef s.mir s.lft (PublishedSources.the_row T g)) (ReadSeat.the_row T g) (ReadSeat.the_row T g) AdminPost.the_row
      (shr_send r.mir r.lft R is) Global-send RandomState-send (shr_send b.mir b.lft Board.the_row Board-sync) (shr_send s.mir s.lft (PublishedSources.the_row T g) (PublishedSources-sync T g send sync)) (ReadSeat-send T g send sync) (ReadSeat-send T g send sync) AdminPost-send

  pub stream_send : (ν : Sym) (r b : NamedLft) (R : RattleType) → IsSync R → IsSend (Streaming T g ν r b R)
  stream_send ν r b R is =
      captured_four ν (ShrRef r.mir r.lft R) (ShrRef b.mir b.lft Board.the_row) (ReadSeat.the_row T g) TcpListener.the_row
      (shr_send r.mir r.lft R is) (shr_send b.mir b.lft Board.the_row Board-sync) (ReadSeat-send T g send sync) TcpListener-send
