use Rattle.std.proofs.Common.{◌≡◌, ◌++◌, drop, option_map}
use Rattle.flag_text.specs.View.{items_view}
use Rattle.transport_core.specs.Certificate.{beta_view}
use Rattle.plan_text.specs.PlanFile.{each, beta_of}
use Rattle.plan_text.proofs.rows.read_beta.Given as goal

abbrev pub invariant-loop-item : goal.invariant-loop-item
invariant-loop-item l = each beta_of (items_view l.items) ≡ option_map (λ rows. beta_view l.beta.items ++ rows) (each beta_of (items_view (drop l.item-index l.items)))
