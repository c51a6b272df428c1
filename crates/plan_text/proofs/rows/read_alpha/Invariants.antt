use Rattle.std.proofs.Common.{◌≡◌, ◌++◌, drop, option_map}
use Rattle.flag_text.specs.View.{items_view}
use Rattle.transport_core.specs.Certificate.{alpha_view}
use Rattle.plan_text.specs.PlanFile.{each, alpha_of}
use Rattle.plan_text.proofs.rows.read_alpha.Given as goal

abbrev pub invariant-loop-item : goal.invariant-loop-item
invariant-loop-item l = each alpha_of (items_view l.items) ≡ option_map (λ rows. alpha_view l.alpha.items ++ rows) (each alpha_of (items_view (drop l.item-index l.items)))
