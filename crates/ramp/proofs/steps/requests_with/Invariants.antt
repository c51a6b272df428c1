use Rattle.std.proofs.Common.{◌≡◌, ◌<◌, ◌++◌, drop, length}
use Rattle.std.specs.List.{AllByRecursion}
use Rattle.flag_text.specs.Reading.{max_levels}
use Rattle.flag_text.specs.View.{view, items_view}
use Rattle.ramp.specs.Steps.{AsksAsTree, requests_view, requests_with}
use Rattle.flag_text.specs.Shape.{items_are_whole, items_levels}
use Rattle.std.specs.Prelude.{true}
use Rattle.ramp.proofs.steps.requests_with.Given as goal

abbrev pub invariant-loop-totals : goal.invariant-loop-totals
invariant-loop-totals l = record {
  made : requests_view l.requests.items ++ requests_with (view l.tree) (items_view (drop l.totals-index l.steps)) ≡ requests_with (view l.tree) (items_view l.steps);
  whole : items_are_whole (items_view (drop l.totals-index l.steps)) ≡ true;
  asks : AllByRecursion (AsksAsTree (view l.tree)) (requests_view l.requests.items);
  flat : items_levels (items_view (drop l.totals-index l.steps)) < max_levels;
  count : length l.requests.items ≡ l.totals-index;
}
