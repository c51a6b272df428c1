use Rattle.std.proofs.Common.{◌≡◌, ◌++◌, drop, option_map}
use Rattle.flag_text.specs.View.{items_view}
use Rattle.flag_text.specs.Readers.{as_text}
use Rattle.bucket_core.specs.Rule.{names_view}
use Rattle.plan_text.specs.PlanFile.{each}
use Rattle.plan_text.proofs.rows.read_names.Given as goal

abbrev pub invariant-loop-item : goal.invariant-loop-item
invariant-loop-item l = each as_text (items_view l.items) ≡ option_map (λ rows. names_view l.names.items ++ rows) (each as_text (items_view (drop l.item-index l.items)))
