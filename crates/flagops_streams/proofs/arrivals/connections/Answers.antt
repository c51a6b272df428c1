use Rattle.std.proofs.Common.{◌+◌, refl, rules}
use Rattle.flagops_streams.proofs.Told.{arrivals_more, no_arrivals}
use Rattle.flagops_streams.proofs.arrivals.connections.Goals as goal

pub loop-place-init : goal.loop-place-init
loop-place-init g c = (search rules, no_arrivals c.args.port c.args.subscribers _ _ _ c.say_listening.ensures.line, c.say_listening.ensures.stays)

pub loop-place-preserved : goal.loop-place-preserved
loop-place-preserved g c =
    let so_far = c.loop-place.invariant in
    let place = c.loop-place.place in
    let told = c.say_came.ensures in (
      search rules,
      arrivals_more _ _ told.stays c.args.port c.args.subscribers place (place + 1) _ _ _ refl so_far.1 told.line,
      λ works. so_far.2 (told.stays works),
    )
