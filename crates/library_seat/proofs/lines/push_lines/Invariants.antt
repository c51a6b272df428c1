use Rattle.std.proofs.Common.{◌≡◌, map, take}
use Rattle.std.specs.List.{flat_map}
use Rattle.logic_ast.specs.Expr.{view}
use Rattle.logic_eval.specs.Views.{reach_view}
use Rattle.library_seat.specs.LinesView.{lines_view}
use Rattle.library_seat.specs.Lines.{line_of}
use Rattle.library_seat.proofs.lines.push_lines.Given as goal

abbrev pub invariant-loop-reach : goal.invariant-loop-reach
invariant-loop-reach l = lines_view l.lines.items ≡ flat_map (line_of l.key (view l.targeting)) (map reach_view (take l.reach-index l.reached))
