use Rattle.std.proofs.Common.{◌≡◌, drop}
use Rattle.std.specs.Option.{is_some}
use Rattle.flag_text.specs.View.{items_view}
use Rattle.bucket_core.specs.Reading.{buckets_of}
use Rattle.bucket_core.proofs.read.are_buckets.Given as goal

-- the rest answers as the whole
abbrev pub invariant-loop-item : goal.invariant-loop-item
invariant-loop-item l = is_some (buckets_of (items_view l.items)) ≡ is_some (buckets_of (items_view (drop l.item-index l.items)))
