use Rattle.std.proofs.Common.{◌≡◌, ◌<◌, ◌^◌, ◌+◌, drop, option_map}
use Rattle.flag_text.specs.View.{items_view}
use Rattle.bucket_core.specs.Reading.{buckets_of}
use Rattle.bucket_core.specs.Rule.{total_weight}
use Rattle.bucket_core.proofs.read.weigh.Given as goal

-- the whole sums to what was summed and the rest
abbrev pub invariant-loop-item : goal.invariant-loop-item
invariant-loop-item l =
    (l.total < 2 ^ 31)
    × (option_map total_weight (buckets_of (items_view l.items))
    ≡ option_map (λ bs. l.total + total_weight bs) (buckets_of (items_view (drop l.item-index l.items))))
