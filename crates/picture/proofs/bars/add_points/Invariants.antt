use Rattle.std.proofs.Common.{◌≡◌}
use Rattle.picture.specs.Told.{told}
use Rattle.picture.proofs.bars.add_points.Given as goal

-- lines tell nothing
abbrev pub invariant-loop-point : goal.invariant-loop-point
invariant-loop-point l = told l.elements.items ≡ told l.fn.elements.items
