use Rattle.std.proofs.Common.{◌≡◌, ◌++◌, map, take, option_map}
use Rattle.logic_ast.specs.Expr.{view}
use Rattle.logic_eval.specs.Views.{reach_view}
use Rattle.ofrep_worker.specs.Notes.{notes_at}
use Rattle.ofrep_worker.proofs.notes.push_all.Given as goal

abbrev pub invariant-loop-reach : goal.invariant-loop-reach
invariant-loop-reach l = l.notes.items ≡ l.initial.notes.items ++ notes_at l.key (option_map (λ e. view e.now) l.targeting) (map reach_view (take l.reach-index l.reached))
