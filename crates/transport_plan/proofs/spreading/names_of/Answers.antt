use Rattle.std.proofs.Common.{ap, ◌∙◌, arith}
use Rattle.std.proofs.lemmas.List.{take_all}
use Rattle.std.specs.Map.{keys_of}
use Rattle.price_core.specs.Limits.{limits_view}
use Rattle.transport_plan.proofs.spreading.names_of.Goals as goal

pub returns : goal.returns
returns c =
    let limits = c.args.limits.now in
    c.loop-limit.invariant ∙ ap (λ ls. keys_of (limits_view ls)) (take_all c.loop-limit.limit-index limits (omega arith))
