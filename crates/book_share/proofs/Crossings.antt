-- Which values several workers may read at once.
use mathlib.Core.List.{[], ◌∷◌}
use mir.Syntax.{Sym}
use denote.Ref.{NamedLft, ShrRef}
use denote.Struct.Field.{row_field}
use denote.Struct.Tuple.{TupleAt, type_at}
use denote.RattleType.{RattleType}
use denote.Param.Send.{IsSend, IsSync, shr_sync, sendable}
use denote.Param.SendFields.{as_row_sync, declared_sync}
use Rattle.std.proofs.Crossing.{crosses}
use Rattle.std.proofs.MapsCrossing.{crosses as maps}
use Rattle.std.specs.contracts.alloc.Global as Global
use Rattle.std.specs.contracts.boxed.Box as Box
use Rattle.std.specs.contracts.impls.GlobalAllocator.TheImpl as memory
use Rattle.std.specs.contracts.option.Option as Option
use Rattle.std.specs.contracts.vec.Vec as Vec
use Rattle.flag_text.proofs.tree.Tree.TheLaws.TheKnot.{crosses as trees}
use Rattle.flag_text.specs.contracts.tree.Tree as Tree
use Rattle.logic_ast.proofs.node.Node.TheLaws.TheKnot.{sync-Node}
use Rattle.logic_ast.specs.contracts.node.Bucket as Bucket
use Rattle.logic_ast.specs.contracts.node.Node as Node
use Rattle.logic_ast.specs.contracts.operator.Operator as Operator
use Rattle.logic_ast.specs.contracts.expr.Expr as Expr
use Rattle.flag_defs.specs.contracts.flag.Flag as Flag
use Rattle.flag_defs.specs.contracts.flags.Flags as Flags
use Rattle.flag_metadata.specs.contracts.document.DocumentMetadata as DocumentMetadata
use Rattle.flag_metadata.specs.contracts.member.Member as Member
use Rattle.flag_metadata.specs.contracts.merged.Metadata as Metadata
use Rattle.flag_defs.specs.contracts.kind.Kind as Kind
use Rattle.book_core.specs.contracts.book.Book as Book
use Rattle.book_core.specs.contracts.page.Page as Page
use Rattle.atomic_table.proofs.shared.Shared.TheSendSync as shared
use Rattle.atomic_table.proofs.send_lease.SendLease.TheSendSync as lease
use Rattle.book_lock.specs.declared.name.BookName as BookName
use Rattle.book_lock.specs.contracts.lock.BookLock as BookLock
use Rattle.book_lock.specs.contracts.shared.SharedBook as SharedBook
use Rattle.book_share.specs.declared.gate.Gate as Gate
use Rattle.book_share.specs.contracts.worker.Round as Round
use Rattle.book_share.specs.contracts.ask.Ask as Ask

pub Tree-sync : IsSync Tree.the_row
Tree-sync = search (sendable, crosses, trees) depth 40

Tree-parts-sync : IsSync (Tree.the_field).row
Tree-parts-sync = search (sendable, crosses, trees) depth 40

Operator-sync : IsSync Operator.the_row
Operator-sync = search (sendable, crosses) depth 120 fits 1000000

Operator-parts-sync : IsSync (Operator.the_field).row
Operator-parts-sync = search (sendable, crosses) depth 120 fits 1000000

boxed-sync : (h : RattleType) → IsSync h → IsSync (Option.the_row (Box.the_row h Global.the_row memory.ghosts))
boxed-sync h s = search (sendable, crosses) depth 40

bucket-sync : (h : RattleType) → IsSync h → IsSync (Bucket.the_row h)
bucket-sync h s = search (sendable, crosses) depth 40

buckets-sync : (h : RattleType) → IsSync h → IsSync (Vec.the_row (Bucket.the_row h) Global.the_row memory.ghosts)
buckets-sync h s = let one = bucket-sync h s in search (sendable, crosses) depth 40

Node-parts-sync : IsSync (Node.the_field).row
Node-parts-sync = sync-Node Tree-parts-sync (λ h s. search (sendable, crosses) depth 40) Operator-parts-sync (search (sendable, crosses) depth 40) boxed-sync buckets-sync

pub Node-sync : IsSync Node.the_row
Node-sync = search (sendable, crosses, Node-parts-sync) depth 40

pub Expr-sync : IsSync Expr.the_row
Expr-sync = declared_sync Expr.the_type (Node-sync, (search (sendable, crosses) depth 40, tt))

pub Flag-sync : IsSync Flag.the_row
Flag-sync = search (sendable, crosses, Tree-sync, Expr-sync) depth 40

Member-sync : IsSync Member.the_row
Member-sync = search (sendable, crosses) depth 40

DocumentMetadata-sync : IsSync DocumentMetadata.the_row
DocumentMetadata-sync = search (sendable, crosses, maps, Member-sync) depth 60

Metadata-sync : IsSync Metadata.the_row
Metadata-sync = search (sendable, crosses, DocumentMetadata-sync) depth 40

pub Flags-sync : IsSync Flags.the_row
Flags-sync = declared_sync Flags.the_type (search (sendable, crosses, Flag-sync) depth 40, (Metadata-sync, tt))

Kind-sync : IsSync Kind.the_row
Kind-sync = search (sendable, crosses) depth 40

pub Ask-sync : (κ : NamedLft) → IsSync (Ask.the_row κ)
Ask-sync κ =
    declared_sync (Ask.the_type κ)
    (search (sendable, crosses) depth 40, (Kind-sync, (search (sendable, crosses, Tree-sync) depth 40, (search (sendable, crosses, Tree-sync) depth 40, (search (sendable, crosses) depth 40, tt)))))

pub Book-send : IsSend Book.the_row
Book-send = search (sendable, crosses, maps) depth 60

pub Page-sync : IsSync Page.the_row
Page-sync = search (sendable, crosses) depth 40

-- three captures that may be read at once may be captured by one closure
captured_sync : (ν : Sym) (A B C : RattleType) → IsSync A → IsSync B → IsSync C → IsSync (TupleAt ν (A ∷ B ∷ C ∷ []))
captured_sync ν A B C a b c = declared_sync (type_at ν (A ∷ B ∷ C ∷ [])) (as_row_sync (row_field A) a, (as_row_sync (row_field B) b, (as_row_sync (row_field C) c, tt)))

Global-sync : IsSync Global.the_row
Global-sync = search (sendable, crosses) depth 20

slot-send : IsSend (Option.the_row Book.the_row)
slot-send = search (sendable, crosses, Book-send) depth 40

BookLock-sync : IsSync BookLock.the_row
BookLock-sync = declared_sync BookLock.the_type (search (sendable, crosses, slot-send, shared.the_sync, shared.the_send, lease.the_sync, lease.the_send) depth 80, tt)

module _ (T : RattleType) (g : BookName.Ghosts T.Denot) (send : IsSend T) (sync : IsSync T) where
  pub SharedBook-sync : IsSync (SharedBook.the_row T g)
  SharedBook-sync = declared_sync (SharedBook.the_type T g) (BookLock-sync, (search (sendable, crosses) depth 40, (search (sendable, crosses) depth 40, tt)))

  module _ (κ μ : NamedLft) (G : RattleType) (h : Gate.Ghosts G.Denot) (gate : IsSync G) where
    pub round_sync : IsSync (Round.the_row κ μ T G g h)
    round_sync =
        declared_sync (Round.the_type κ μ T G g h)
        (search (sendable, crosses, SharedBook-sync) depth 40, (search (sendable, crosses, Flags-sync) depth 40, (search (sendable, crosses, Ask-sync) depth 40, (search (sendable, crosses) depth 40, (search (sendable, crosses) depth 40, (search (sendable, crosses, maps, Page-sync) depth 60, tt))))))

    -- the captures of a worker's closure: the handle, the allocator and the round
    pub worker_sync : (ν : Sym) (r a w : NamedLft) (R : RattleType) → IsSync R → IsSync (TupleAt ν (ShrRef r.mir r.lft R ∷ ShrRef a.mir a.lft Global.the_row ∷ ShrRef w.mir w.lft (Round.the_row κ μ T G g h) ∷ []))
    worker_sync ν r a w R s =
        captured_sync ν (ShrRef r.mir r.lft R) (ShrRef a.mir a.lft Global.the_row) (ShrRef w.mir w.lft (Round.the_row κ μ T G g h))
        (shr_sync r.mir r.lft R s) (shr_sync a.mir a.lft Global.the_row Global-sync) (shr_sync w.mir w.lft (Round.the_row κ μ T G g h) round_sync)
