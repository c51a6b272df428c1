use Rattle.std.proofs.Common.{◌≡◌, drop}
use Rattle.logic_ast.specs.View.{buckets_view}
use Rattle.flagops_checks.specs.Sites.{sum_to}
use Rattle.flagops_checks.proofs.sites.sum_to.Given as goal

abbrev pub invariant-loop-bucket : goal.invariant-loop-bucket
invariant-loop-bucket l = sum_to l.left (buckets_view (drop l.bucket-index l.bucket-items)) ≡ sum_to l.total (buckets_view l.bucket-items)
