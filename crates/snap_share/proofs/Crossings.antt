use denote.RattleType.{RattleType}
use denote.Param.Send.{IsSend, IsSync, view_send, view_sync, sendable}
use denote.Param.SendFields.{declared_send, declared_sync}
use Rattle.std.proofs.Crossing.{crosses}
use Rattle.std.proofs.MapsCrossing.{crosses as maps}
use Rattle.std.specs.contracts.alloc.Global as Global
use Rattle.std.specs.contracts.boxed.Box as Box
use Rattle.std.specs.contracts.impls.GlobalAllocator.TheImpl as memory
use Rattle.std.specs.contracts.option.Option as Option
use Rattle.std.specs.contracts.vec.Vec as Vec
use Rattle.flag_text.proofs.tree.Tree.TheLaws.TheKnot.{crosses as trees}
use Rattle.flag_text.specs.contracts.tree.Tree as Tree
use Rattle.logic_ast.proofs.node.Node.TheLaws.TheKnot.{sync-Node, send-Node}
use Rattle.logic_ast.specs.contracts.node.Bucket as Bucket
use Rattle.logic_ast.specs.contracts.node.Node as Node
use Rattle.logic_ast.specs.contracts.operator.Operator as Operator
use Rattle.logic_ast.specs.contracts.expr.Expr as Expr
use Rattle.flag_defs.specs.contracts.flag.Flag as Flag
use Rattle.flag_defs.specs.contracts.flags.Flags as Flags
use Rattle.flag_metadata.specs.contracts.document.DocumentMetadata as DocumentMetadata
use Rattle.flag_metadata.specs.contracts.member.Member as Member
use Rattle.flag_metadata.specs.contracts.merged.Metadata as Metadata
use Rattle.snap_core.specs.contracts.snapshot.Snapshot as Snapshot
use Rattle.sync_frames.specs.contracts.framed.FramedSnapshot as Framed
use Rattle.sync_frames.specs.contracts.framed.FramedSnapshot.TheInside as FramedInside
use Rattle.snap_share.specs.declared.history.ShareName as ShareName
use Rattle.snap_share.specs.contracts.front.HistoryPrefix as HistoryPrefix
use Rattle.snap_share.specs.contracts.front.HistoryPrefix.TheInside as HistoryPrefixInside
use Rattle.snap_share.specs.contracts.stamp.Stamp as Stamp
use Rattle.snap_share.specs.contracts.stamp.Stamp.TheInside as StampInside
use Rattle.snap_share.specs.contracts.publisher.Told as Told
use Rattle.snap_share.specs.contracts.publisher.Told.TheInside as ToldInside
use Rattle.snap_share.specs.contracts.seat.ReadSeat as ReadSeat
use Rattle.snap_share.specs.contracts.seat.ReadSeat.TheInside as SeatInside
use Rattle.snap_share.specs.contracts.history.LawRuleFlagsU64.TheImpl as law
use Rattle.http_server.proofs.log.Log.TheSendSync as log
use Rattle.logbook.proofs.tokens.Seen.TheSendSync as seen
use Rattle.left_right.proofs.part.Part.TheSendSync as part
use Rattle.atomic_table.proofs.shared.Seat.TheSendSync as place
use Rattle.atomic_table.proofs.shared.Shared.TheSendSync as shared
use Rattle.atomic_table.proofs.send_lease.SendLease.TheSendSync as lease

-- ---- flags may be read by several threads at once

Tree-sync : IsSync Tree.the_row
Tree-sync = search (sendable, crosses, trees) depth 40

Tree-parts-sync : IsSync (Tree.the_field).row
Tree-parts-sync = search (sendable, crosses, trees) depth 40

Operator-parts-sync : IsSync (Operator.the_field).row
Operator-parts-sync = search (sendable, crosses) depth 120 fits 1000000

boxed-sync : (h : RattleType) → IsSync h → IsSync (Option.the_row (Box.the_row h Global.the_row memory.ghosts))
boxed-sync h s = search (sendable, crosses) depth 40

bucket-sync : (h : RattleType) → IsSync h → IsSync (Bucket.the_row h)
bucket-sync h s = search (sendable, crosses) depth 40

buckets-sync : (h : RattleType) → IsSync h → IsSync (Vec.the_row (Bucket.the_row h) Global.the_row memory.ghosts)
buckets-sync h s = let one = bucket-sync h s in search (sendable, crosses) depth 40

Node-parts-sync : IsSync (Node.the_field).row
Node-parts-sync = sync-Node Tree-parts-sync (λ h s. search (sendable, crosses) depth 40) Operator-parts-sync (search (sendable, crosses) depth 40) boxed-sync buckets-sync

Node-sync : IsSync Node.the_row
Node-sync = search (sendable, crosses, Node-parts-sync) depth 40

Expr-sync : IsSync Expr.the_row
Expr-sync = declared_sync Expr.the_type (Node-sync, (search (sendable, crosses) depth 40, tt))

Flag-sync : IsSync Flag.the_row
Flag-sync = search (sendable, crosses, Tree-sync, Expr-sync) depth 40

Member-sync : IsSync Member.the_row
Member-sync = search (sendable, crosses) depth 40

DocumentMetadata-sync : IsSync DocumentMetadata.the_row
DocumentMetadata-sync = search (sendable, crosses, maps, Member-sync) depth 60

Metadata-sync : IsSync Metadata.the_row
Metadata-sync = search (sendable, crosses, DocumentMetadata-sync) depth 40

pub Flags-sync : IsSync Flags.the_row
Flags-sync = declared_sync Flags.the_type (search (sendable, crosses, Flag-sync) depth 40, (Metadata-sync, tt))

-- ---- and may go from one to another

Tree-send : IsSend Tree.the_row
Tree-send = search (sendable, crosses, trees) depth 40

Tree-parts-send : IsSend (Tree.the_field).row
Tree-parts-send = search (sendable, crosses, trees) depth 40

Operator-parts-send : IsSend (Operator.the_field).row
Operator-parts-send = search (sendable, crosses) depth 120 fits 1000000

boxed-send : (h : RattleType) → IsSend h → IsSend (Option.the_row (Box.the_row h Global.the_row memory.ghosts))
boxed-send h s = search (sendable, crosses) depth 40

bucket-send : (h : RattleType) → IsSend h → IsSend (Bucket.the_row h)
bucket-send h s = search (sendable, crosses) depth 40

buckets-send : (h : RattleType) → IsSend h → IsSend (Vec.the_row (Bucket.the_row h) Global.the_row memory.ghosts)
buckets-send h s = let one = bucket-send h s in search (sendable, crosses) depth 40

Node-parts-send : IsSend (Node.the_field).row
Node-parts-send = send-Node Tree-parts-send (λ h s. search (sendable, crosses) depth 40) Operator-parts-send (search (sendable, crosses) depth 40) boxed-send buckets-send

Node-send : IsSend Node.the_row
Node-send = search (sendable, crosses, Node-parts-send) depth 40

Expr-send : IsSend Expr.the_row
Expr-send = declared_send Expr.the_type (Node-send, (search (sendable, crosses) depth 40, tt))

Flag-send : IsSend Flag.the_row
Flag-send = search (sendable, crosses, Tree-send, Expr-send) depth 40

Member-send : IsSend Member.the_row
Member-send = search (sendable, crosses) depth 40

DocumentMetadata-send : IsSend DocumentMetadata.the_row
DocumentMetadata-send = search (sendable, crosses, maps, Member-send) depth 60

Metadata-send : IsSend Metadata.the_row
Metadata-send = search (sendable, crosses, DocumentMetadata-send) depth 40

pub Flags-send : IsSend Flags.the_row
Flags-send = declared_send Flags.the_type (search (sendable, crosses, Flag-send) depth 40, (Metadata-send, tt))

-- ---- so may a snapshot with its frame

Snapshot-sync : IsSync Snapshot.the_row
Snapshot-sync = declared_sync Snapshot.the_type (search (sendable, crosses) depth 20, (Flags-sync, tt))

Snapshot-send : IsSend Snapshot.the_row
Snapshot-send = declared_send Snapshot.the_type (search (sendable, crosses) depth 20, (Flags-send, tt))

Framed-sync : IsSync Framed.the_row
Framed-sync = view_sync _ _ _ _ _ (declared_sync FramedInside.the_type (Snapshot-sync, (search (sendable, crosses) depth 40, tt)))

Framed-send : IsSend Framed.the_row
Framed-send = view_send _ _ _ _ _ (declared_send FramedInside.the_type (Snapshot-send, (search (sendable, crosses) depth 40, tt)))

-- ---- a seat, and what it is told

module _ (T : RattleType) (g : ShareName.Ghosts T.Denot) (send : IsSend T) (sync : IsSync T) where
  HistoryPrefix-sync : IsSync (HistoryPrefix.the_row T g)
  HistoryPrefix-sync =
      view_sync _ _ _ _ _
      (declared_sync (HistoryPrefixInside.the_type T g) (search (sendable, crosses) depth 40, (seen.the_sync _ _ _ law.ghosts, (search (sendable, crosses) depth 40, tt))))

  HistoryPrefix-send : IsSend (HistoryPrefix.the_row T g)
  HistoryPrefix-send =
      view_send _ _ _ _ _
      (declared_send (HistoryPrefixInside.the_type T g) (search (sendable, crosses) depth 40, (seen.the_send _ _ _ law.ghosts, (search (sendable, crosses) depth 40, tt))))

  Stamp-sync : IsSync (Stamp.the_row T g)
  Stamp-sync = view_sync _ _ _ _ _ (declared_sync (StampInside.the_type T g) (search (sendable, crosses, Framed-send, Framed-sync) depth 40, (HistoryPrefix-sync, tt)))

  pub ReadSeat-send : IsSend (ReadSeat.the_row T g)
  ReadSeat-send =
      view_send _ _ _ _ _
      (declared_send (SeatInside.the_type T g) (search (sendable, crosses, Stamp-sync, part.the_send, place.the_send, shared.the_send, shared.the_sync, lease.the_send, lease.the_sync) depth 80, (HistoryPrefix-send, (search (sendable, crosses, log.the_send) depth 40, tt))))

  -- what was told goes with a lock from thread to thread
  pub Told-send : IsSend (Told.the_row T g)
  Told-send = view_send _ _ _ _ _ (declared_send (ToldInside.the_type T g) (HistoryPrefix-send, tt))
