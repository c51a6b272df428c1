use Rattle.std.proofs.Common.{◌≡◌, ◌≤◌, ◌+◌, drop, map}
use Rattle.flag_text.specs.View.{view}
use Rattle.logic_eval.specs.Scope.{found_count}
use Rattle.logic_eval.specs.Views.{scope_view}
use Rattle.logic_eval.proofs.missing.count_in_trees.Given as goal

abbrev pub invariant-loop-name : goal.invariant-loop-name
invariant-loop-name l = record {
  counted : l.found + found_count (scope_view l.scope) (map view (drop l.name-index l.names)) ≡ found_count (scope_view l.scope) (map view l.names);
  few : l.found ≤ l.name-index;
}
