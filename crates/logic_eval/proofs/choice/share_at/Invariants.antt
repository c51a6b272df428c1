use Rattle.std.proofs.Common.{◌≡◌, map, Some}
use Rattle.bucket_core.specs.Rule.{Entries}
use Rattle.logic_eval.specs.Fractional.{entries_of}
use Rattle.logic_eval.specs.Views.{weighted_variant_view}
use Rattle.logic_eval.proofs.Choices.{Rest}
use Rattle.logic_eval.proofs.choice.share_at.Given as goal

abbrev pub invariant-loop-share : goal.invariant-loop-share
invariant-loop-share l = (r : Entries) → entries_of (map weighted_variant_view l.shares) ≡ Some r → Rest l.shares l.share-index l.point l.left r
