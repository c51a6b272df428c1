use Rattle.std.proofs.Common.{ℕ, List, ◌++◌, sym, ap, ◌∙◌}
use Rattle.logic_ast.specs.Expr.{view}
use Rattle.logic_eval.specs.Views.{reach_view}
use Rattle.library_seat.specs.Lines.{line_of}
use Rattle.library_seat.proofs.Loops.{one_more_seen}
use Rattle.library_seat.proofs.lines.push_lines.Goals as goal

pub loop-reach-preserved : goal.loop-reach-preserved
loop-reach-preserved c =
    let line = line_of c.args.key.now (view c.args.targeting.now) in let x = c.reach-item.result in
    c.in_ok-push_line.ensures ∙ ap (λ (ls : List (List ℕ)). ls ++ line (reach_view x)) c.loop-reach.invariant
    ∙ sym (one_more_seen reach_view line c.args.reached.now c.loop-reach.reach-index x c.loop-reach-test.true c.reach-item.is)
