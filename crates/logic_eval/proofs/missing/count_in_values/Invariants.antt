use Rattle.std.proofs.Common.{◌≡◌, ◌≤◌, ◌+◌, drop, map}
use Rattle.logic_eval.specs.Scope.{found_count}
use Rattle.logic_values.specs.Views.{value_view}
use Rattle.logic_eval.specs.Views.{scope_view}
use Rattle.logic_eval.proofs.missing.count_in_values.Given as goal

abbrev pub invariant-loop-name : goal.invariant-loop-name
invariant-loop-name l = record {
  counted : l.found + found_count (scope_view l.scope) (map value_view (drop l.name-index l.names)) ≡ found_count (scope_view l.scope) (map value_view l.names);
  few : l.found ≤ l.name-index;
}
