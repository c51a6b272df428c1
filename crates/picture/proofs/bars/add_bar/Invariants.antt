use Rattle.std.proofs.Common.{◌≡◌, ◌++◌, ◌+◌}
use Rattle.bucket_core.specs.Rule.{total_weight}
use Rattle.price_core.specs.Limits.{limits_view}
use Rattle.picture.specs.Told.{bar_told, pieces_told, told}
use Rattle.picture.proofs.bars.add_bar.Given as goal

-- what is told so far, and the pieces of the rest
abbrev pub invariant-loop-name : goal.invariant-loop-name
invariant-loop-name l = record {
  can : (goal.iterator-loop-name).can_next l.name-iterator;
  ends_soon : (goal.iterator-loop-name).is_finite l.name-iterator;
  begin : l.begin + total_weight l.name-iterator ≡ l.total;
  pieces : told l.elements.items ++ pieces_told (limits_view l.limits) l.y l.total l.begin l.name-iterator ≡ told l.fn.elements.items ++ bar_told (limits_view l.limits) l.y l.rule;
}
