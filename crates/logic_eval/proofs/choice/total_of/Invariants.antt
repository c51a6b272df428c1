use Rattle.std.proofs.Common.{◌≡◌, ◌<◌, ◌^◌, drop, map, option_map}
use Rattle.bucket_core.specs.Rule.{total_weight}
use Rattle.logic_eval.specs.Fractional.{buckets_of}
use Rattle.logic_eval.specs.Views.{weighted_variant_view}
use Rattle.logic_eval.proofs.Choices.{totals}
use Rattle.logic_eval.proofs.choice.total_of.Given as goal

abbrev pub invariant-loop-share : goal.invariant-loop-share
invariant-loop-share l = record {
  answers : option_map total_weight (buckets_of (map weighted_variant_view l.shares)) ≡ totals l.total (map weighted_variant_view (drop l.share-index l.shares));
  small : l.total < 2 ^ 31;
}
