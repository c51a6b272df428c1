use Rattle.std.proofs.Common.{◌≡◌, ◌++◌, drop, option_map}
use Rattle.flag_text.specs.View.{items_view}
use Rattle.bucket_core.specs.Rule.{entries_view}
use Rattle.plan_text.specs.PlanFile.{each, entry_of}
use Rattle.plan_text.proofs.rows.read_entries.Given as goal

abbrev pub invariant-loop-item : goal.invariant-loop-item
invariant-loop-item l = each entry_of (items_view l.items) ≡ option_map (λ rows. entries_view l.entries.items ++ rows) (each entry_of (items_view (drop l.item-index l.items)))
