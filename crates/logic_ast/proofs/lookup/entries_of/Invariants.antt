use Rattle.std.proofs.Common.{◌≡◌, ◌++◌, drop, option_map}
use Rattle.bucket_core.specs.Rule.{entries_view}
use Rattle.logic_ast.specs.Sites.{entries_of}
use Rattle.logic_ast.specs.View.{buckets_view}
use Rattle.logic_ast.proofs.lookup.entries_of.Given as goal

abbrev pub invariant-loop-bucket : goal.invariant-loop-bucket
invariant-loop-bucket l = entries_of (buckets_view l.bucket-items) ≡ option_map (λ rest. entries_view l.entries.items ++ rest) (entries_of (buckets_view (drop l.bucket-index l.bucket-items)))
