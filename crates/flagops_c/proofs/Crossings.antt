-- That flags may be read by several threads at once, and that a seat may go from one to another.
use denote.RattleType.{RattleType}
use denote.Param.Send.{IsSend, IsSync, sendable}
use denote.Param.SendFields.{declared_send, declared_sync, variants_send}
use Rattle.std.proofs.Crossing.{crosses}
use Rattle.std.proofs.MapsCrossing.{crosses as maps}
use Rattle.std.specs.contracts.alloc.Global as Global
use Rattle.std.specs.contracts.boxed.Box as Box
use Rattle.std.specs.contracts.impls.GlobalAllocator.TheImpl as memory
use Rattle.std.specs.contracts.option.Option as Option
use Rattle.std.specs.contracts.vec.Vec as Vec
use Rattle.json.specs.contracts.scratch.Scratch as Scratch
use Rattle.flag_text.proofs.tree.Tree.TheLaws.TheKnot.{crosses as trees}
use Rattle.flag_text.specs.contracts.tree.Tree as Tree
use Rattle.logic_ast.proofs.node.Node.TheLaws.TheKnot.{sync-Node, send-Node}
use Rattle.logic_ast.specs.contracts.node.Bucket as Bucket
use Rattle.logic_ast.specs.contracts.node.Node as Node
use Rattle.logic_ast.specs.contracts.operator.Operator as Operator
use Rattle.logic_ast.specs.contracts.expr.Expr as Expr
use Rattle.flag_defs.specs.contracts.flag.Flag as Flag
use Rattle.flag_defs.specs.contracts.flags.Flags as Flags
use Rattle.flag_metadata.specs.contracts.document.DocumentMetadata as DocumentMetadata
use Rattle.flag_metadata.specs.contracts.member.Member as Member
use Rattle.flag_metadata.specs.contracts.merged.Metadata as Metadata
use Rattle.sync_frames.specs.contracts.feed.Feed as Feed
use Rattle.sync_frames.specs.contracts.stage.Stage as Stage
use Rattle.library_seat.specs.contracts.asked.ReadContext as ReadContext
use Rattle.library_seat.specs.contracts.held.HeldFlags as HeldFlags
use Rattle.library_seat.specs.contracts.seat.Seat as Seat
use Rattle.library_seat.specs.contracts.workspace.Workspace as Workspace

-- ---- flags may be read by several threads at once

Tree-sync : IsSync Tree.the_row
Tree-sync = search (sendable, crosses, trees) depth 40

Tree-parts-sync : IsSync (Tree.the_field).row
Tree-parts-sync = search (sendable, crosses, trees) depth 40

Operator-parts-sync : IsSync (Operator.the_field).row
Operator-parts-sync = search (sendable, crosses) depth 120 fits 1000000

boxed-sync : (h : RattleType) → IsSync h → IsSync (Option.the_row (Box.the_row h Global.the_row memory.ghosts))
boxed-sync h s = search (sendable, crosses) depth 40

bucket-sync : (h : RattleType) → IsSync h → IsSync (Bucket.the_row h)
bucket-sync h s = search (sendable, crosses) depth 40

buckets-sync : (h : RattleType) → IsSync h → IsSync (Vec.the_row (Bucket.the_row h) Global.the_row memory.ghosts)
buckets-sync h s = let one = bucket-sync h s in search (sendable, crosses) depth 40

Node-parts-sync : IsSync (Node.the_field).row
Node-parts-sync = sync-Node Tree-parts-sync (λ h s. search (sendable, crosses) depth 40) Operator-parts-sync (search (sendable, crosses) depth 40) boxed-sync buckets-sync

Node-sync : IsSync Node.the_row
Node-sync = search (sendable, crosses, Node-parts-sync) depth 40

Expr-sync : IsSync Expr.the_row
Expr-sync = declared_sync Expr.the_type (Node-sync, (search (sendable, crosses) depth 40, tt))

Flag-sync : IsSync Flag.the_row
Flag-sync = search (sendable, crosses, Tree-sync, Expr-sync) depth 40

Member-sync : IsSync Member.the_row
Member-sync = search (sendable, crosses) depth 40

DocumentMetadata-sync : IsSync DocumentMetadata.the_row
DocumentMetadata-sync = search (sendable, crosses, maps, Member-sync) depth 60

Metadata-sync : IsSync Metadata.the_row
Metadata-sync = search (sendable, crosses, DocumentMetadata-sync) depth 40

pub Flags-sync : IsSync Flags.the_row
Flags-sync = declared_sync Flags.the_type (search (sendable, crosses, Flag-sync) depth 40, (Metadata-sync, tt))

-- ---- and may go from one to another

Tree-send : IsSend Tree.the_row
Tree-send = search (sendable, crosses, trees) depth 40

Tree-parts-send : IsSend (Tree.the_field).row
Tree-parts-send = search (sendable, crosses, trees) depth 40

Operator-parts-send : IsSend (Operator.the_field).row
Operator-parts-send = search (sendable, crosses) depth 120 fits 1000000

boxed-send : (h : RattleType) → IsSend h → IsSend (Option.the_row (Box.the_row h Global.the_row memory.ghosts))
boxed-send h s = search (sendable, crosses) depth 40

bucket-send : (h : RattleType) → IsSend h → IsSend (Bucket.the_row h)
bucket-send h s = search (sendable, crosses) depth 40

buckets-send : (h : RattleType) → IsSend h → IsSend (Vec.the_row (Bucket.the_row h) Global.the_row memory.ghosts)
buckets-send h s = let one = bucket-send h s in search (sendable, crosses) depth 40

Node-parts-send : IsSend (Node.the_field).row
Node-parts-send = send-Node Tree-parts-send (λ h s. search (sendable, crosses) depth 40) Operator-parts-send (search (sendable, crosses) depth 40) boxed-send buckets-send

Node-send : IsSend Node.the_row
Node-send = search (sendable, crosses, Node-parts-send) depth 40

Expr-send : IsSend Expr.the_row
Expr-send = declared_send Expr.the_type (Node-send, (search (sendable, crosses) depth 40, tt))

Flag-send : IsSend Flag.the_row
Flag-send = search (sendable, crosses, Tree-send, Expr-send) depth 40

Member-send : IsSend Member.the_row
Member-send = search (sendable, crosses) depth 40

DocumentMetadata-send : IsSend DocumentMetadata.the_row
DocumentMetadata-send = search (sendable, crosses, maps, Member-send) depth 60

Metadata-send : IsSend Metadata.the_row
Metadata-send = search (sendable, crosses, DocumentMetadata-send) depth 40

pub Flags-send : IsSend Flags.the_row
Flags-send = declared_send Flags.the_type (search (sendable, crosses, Flag-send) depth 40, (Metadata-send, tt))

-- ---- so may a seat, which shares its flags with others

Context-send : IsSend ReadContext.the_row
Context-send = declared_send ReadContext.the_type (Tree-send, tt)

HeldFlags-send : IsSend HeldFlags.the_row
HeldFlags-send = variants_send HeldFlags.enum ((Flags-send, tt), ((search (sendable, crosses, Flags-sync, Flags-send) depth 40, tt), tt))

Stage-send : IsSend Stage.the_row
Stage-send = search (sendable, crosses) depth 40 fits 100000

Feed-send : IsSend Feed.the_row
Feed-send = declared_send Feed.the_type (search (sendable, crosses) depth 40, (search (sendable, crosses) depth 40, (Stage-send, tt)))

Scratch-send : IsSend (Scratch.the_row Global.the_row memory.ghosts)
Scratch-send = search (sendable, crosses) depth 40

Workspace-send : IsSend Workspace.the_row
Workspace-send = declared_send Workspace.the_type (search (sendable, crosses, Scratch-send) depth 40, (search (sendable, crosses) depth 40, tt))

pub Seat-send : IsSend Seat.the_row
Seat-send = declared_send Seat.the_type (search (sendable, crosses, HeldFlags-send) depth 40, (search (sendable, crosses, Context-send) depth 40, (search (sendable, crosses) depth 40, (Feed-send, (Workspace-send, tt)))))
