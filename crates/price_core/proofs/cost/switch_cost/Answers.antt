use Rattle.std.proofs.Common.{string_bytes, length, ap, arith}
use Rattle.std.proofs.lemmas.List.{length-map}
use Rattle.price_core.proofs.cost.switch_cost.Goals as goal

pub cost_over-requires-clause-few : goal.cost_over-requires-clause-few
cost_over-requires-clause-few g c = omega (arith, c.inputs.ensures.lawful.few, ap length c.inputs.ensures.all, length-map c.inputs.result.now string_bytes)
