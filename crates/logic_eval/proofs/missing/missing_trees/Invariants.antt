use Rattle.std.proofs.Common.{◌≡◌, ◌++◌, drop, map, filter}
use Rattle.flag_text.specs.View.{view}
use Rattle.logic_eval.specs.Scope.{is_missing}
use Rattle.logic_values.specs.Views.{value_view}
use Rattle.logic_eval.specs.Views.{scope_view}
use Rattle.logic_eval.proofs.missing.missing_trees.Given as goal

abbrev pub invariant-loop-name : goal.invariant-loop-name
invariant-loop-name l =
    map value_view l.found.items ++ filter (is_missing (scope_view l.scope)) (map view (drop l.name-index l.names)) ≡ filter (is_missing (scope_view l.scope)) (map view l.names)
