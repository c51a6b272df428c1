-- A recorder may be read by several workers at once.
use denote.RattleType.{RattleType}
use denote.Ref.{NamedLft}
use denote.Param.Send.{IsSync, sendable}
use denote.Param.SendFields.{declared_sync}
use Rattle.std.proofs.Crossing.{crosses}
use Rattle.std.proofs.MapsCrossing.{crosses as maps}
use Rattle.std.specs.contracts.alloc.Global as Global
use Rattle.std.specs.contracts.boxed.Box as Box
use Rattle.std.specs.contracts.impls.GlobalAllocator.TheImpl as memory
use Rattle.std.specs.contracts.option.Option as Option
use Rattle.std.specs.contracts.vec.Vec as Vec
use Rattle.flag_text.proofs.tree.Tree.TheLaws.TheKnot.{crosses as trees}
use Rattle.flag_text.specs.contracts.tree.Tree as Tree
use Rattle.logic_ast.proofs.node.Node.TheLaws.TheKnot.{sync-Node}
use Rattle.logic_ast.specs.contracts.node.Bucket as Bucket
use Rattle.logic_ast.specs.contracts.node.Node as Node
use Rattle.logic_ast.specs.contracts.operator.Operator as Operator
use Rattle.logic_ast.specs.contracts.expr.Expr as Expr
use Rattle.flag_defs.specs.contracts.flag.Flag as Flag
use Rattle.flag_defs.specs.contracts.flags.Flags as Flags
use Rattle.flag_metadata.specs.contracts.document.DocumentMetadata as DocumentMetadata
use Rattle.flag_metadata.specs.contracts.member.Member as Member
use Rattle.flag_metadata.specs.contracts.merged.Metadata as Metadata
use Rattle.book_core.specs.contracts.page.Page as Page
use Rattle.note_streams.specs.contracts.scene.Recorder as Recorder

Tree-sync : IsSync Tree.the_row
Tree-sync = search (sendable, crosses, trees) depth 40

Tree-parts-sync : IsSync (Tree.the_field).row
Tree-parts-sync = search (sendable, crosses, trees) depth 40

Operator-sync : IsSync Operator.the_row
Operator-sync = search (sendable, crosses) depth 120 fits 1000000

Operator-parts-sync : IsSync (Operator.the_field).row
Operator-parts-sync = search (sendable, crosses) depth 120 fits 1000000

boxed-sync : (h : RattleType) → IsSync h → IsSync (Option.the_row (Box.the_row h Global.the_row memory.ghosts))
boxed-sync h s = search (sendable, crosses) depth 40

bucket-sync : (h : RattleType) → IsSync h → IsSync (Bucket.the_row h)
bucket-sync h s = search (sendable, crosses) depth 40

buckets-sync : (h : RattleType) → IsSync h → IsSync (Vec.the_row (Bucket.the_row h) Global.the_row memory.ghosts)
buckets-sync h s = let one = bucket-sync h s in search (sendable, crosses) depth 40

Node-parts-sync : IsSync (Node.the_field).row
Node-parts-sync = sync-Node Tree-parts-sync (λ h s. search (sendable, crosses) depth 40) Operator-parts-sync (search (sendable, crosses) depth 40) boxed-sync buckets-sync

Node-sync : IsSync Node.the_row
Node-sync = search (sendable, crosses, Node-parts-sync) depth 40

Expr-sync : IsSync Expr.the_row
Expr-sync = declared_sync Expr.the_type (Node-sync, (search (sendable, crosses) depth 40, tt))

Flag-sync : IsSync Flag.the_row
Flag-sync = search (sendable, crosses, Tree-sync, Expr-sync) depth 40

Member-sync : IsSync Member.the_row
Member-sync = search (sendable, crosses) depth 40

DocumentMetadata-sync : IsSync DocumentMetadata.the_row
DocumentMetadata-sync = search (sendable, crosses, maps, Member-sync) depth 60

Metadata-sync : IsSync Metadata.the_row
Metadata-sync = search (sendable, crosses, DocumentMetadata-sync) depth 40

Flags-sync : IsSync Flags.the_row
Flags-sync = declared_sync Flags.the_type (search (sendable, crosses, Flag-sync) depth 40, (Metadata-sync, tt))

Page-sync : IsSync Page.the_row
Page-sync = search (sendable, crosses) depth 40

module _ (κ : NamedLft) where
  pub Recorder-sync : IsSync (Recorder.the_row κ)
  Recorder-sync =
      declared_sync (Recorder.the_type κ)
      (search (sendable, crosses, Flags-sync) depth 40, (search (sendable, crosses) depth 40, (search (sendable, crosses) depth 40, (search (sendable, crosses, Page-sync) depth 60, tt))))
