use Rattle.std.proofs.Common.{◌≡◌, drop}
use Rattle.std.specs.Option.{is_some}
use Rattle.logic_ast.specs.Sites.{entries_of}
use Rattle.logic_ast.specs.View.{buckets_view}
use Rattle.logic_ast.proofs.lookup.are_all_literal.Given as goal

abbrev pub invariant-loop-bucket : goal.invariant-loop-bucket
invariant-loop-bucket l = is_some (entries_of (buckets_view l.bucket-items)) ≡ is_some (entries_of (buckets_view (drop l.bucket-index l.bucket-items)))
