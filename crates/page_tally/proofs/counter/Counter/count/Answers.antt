use Rattle.std.proofs.Common.{◌≡◌, ◌<◌, length, ap, ◌∙◌, arith, subst, IfSome}
use Rattle.bucket_core.specs.Point.{scale, point_of}
use Rattle.page_tally.specs.Folding.{Kept, IsCounting, with_input}
use Rattle.page_tally.proofs.Running.{counted_more}
use Rattle.page_tally.proofs.counter.Counter.count.Goals as goal

pub returns-in-Some : goal.returns-in-Some
unfolding point_of
returns-in-Some c =
    let k : Kept = record { inputs = c.self.inside.inputs; total = c.self.inside.total; counts = c.self.inside.counts.items } in
    let t = c.in-Some.total in
    let q = c.scale-point.result in
    let at : q ≡ point_of t c.args.input.now = c.scale-point.ensures.value ∙ ap (scale t) c.hash.ensures in
    let counting : IsCounting k t = subst (λ o. IfSome o (IsCounting k)) c.in-Some.is c.self.invariant.counting in
    let room : q < length k.counts = omega (arith, counting.whole, c.scale-point.ensures.below) in
    counted_more k t q c.index_mut.result.now c.args.input.now c.in-Some.is at room c.index_mut.ensures.value ∙ ap (λ s. with_input s c.args.input.now) c.self.view_is
