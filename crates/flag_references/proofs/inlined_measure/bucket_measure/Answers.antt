use Rattle.std.proofs.Common.{◌≡◌, List, ℕ, Option, Some, IfSome, subst, arith}
use Rattle.flag_text.specs.Shape.{list}
use Rattle.flag_references.specs.Measure.{measured}
use Rattle.flag_references.specs.declared.measure.Measure.{Measure}
use Rattle.flag_references.proofs.Objects.{two_items}
use Rattle.flag_references.proofs.inlined_measure.bucket_measure.Goals as goal

pub returns-in-len2 : goal.returns-in-len2
returns-in-len2 c =
    let two = two_items c.args.items.now c.name-item.result c.weight-item.result (omega (arith, c.in-len2.len_at_least, c.in-len2.len_below)) c.name-item.is c.weight-item.is in
    subst (λ ts. IfSome c.pair_measure.result (λ m. (refer : List ℕ → Option Measure) → measured refer (list ts) ≡ Some m)) two c.pair_measure.ensures
