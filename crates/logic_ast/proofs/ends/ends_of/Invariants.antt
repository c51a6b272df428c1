use Rattle.std.proofs.Common.{◌≡◌, ◌<◌, ◌^◌, drop}
use Rattle.logic_ast.specs.Ends.{ends_of}
use Rattle.logic_ast.specs.Summing.{ends_after, after_ends}
use Rattle.logic_ast.specs.View.{buckets_view}
use Rattle.logic_ast.proofs.ends.ends_of.Given as goal

abbrev pub invariant-loop-bucket : goal.invariant-loop-bucket
invariant-loop-bucket l = record {
  answers : ends_of (buckets_view l.bucket-items) ≡ after_ends l.ends.items (ends_after l.end (buckets_view (drop l.bucket-index l.bucket-items)));
  small : l.end < 2 ^ 31;
}
