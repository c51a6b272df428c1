use Rattle.std.proofs.Common.{◌∙◌, ◌+◌, ◌∷◌, arith, ap}
use Rattle.flagops_streams.specs.Documents.{missed_of}
use Rattle.flagops_streams.proofs.Served.{at_most_one}
use Rattle.flagops_streams.proofs.Told.{ends_more}
use Rattle.flagops_streams.proofs.serving.tell_gone.Goals as goal

pub loop-subscriber-preserved : goal.loop-subscriber-preserved
loop-subscriber-preserved g c =
    let so_far = c.loop-subscriber.invariant in
    let more = c.tell_next-missed.result in
    let end = c.tell_next-missed.ensures.end in
    let ends = so_far.2 in (
      omega (arith, so_far.0, at_most_one c.args.published end.0, end.1),
      λ works. so_far.1 (c.tell_next-missed.ensures.stays works),
      (
        end.0 ∷ ends.0,
        omega (arith, ends.1),
        ap (λ n. n + more) ends.2 ∙ ap (λ n. missed_of c.args.published ends.0 + n) end.1,
        ends_more _ _ c.tell_next-missed.ensures.stays end.0 ends.0 _ _ _ ends.3 end.2,
      ),
    )
