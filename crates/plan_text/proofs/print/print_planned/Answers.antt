use Rattle.std.proofs.Common.{refl, arith}
use Rattle.plan_text.specs.Answer.{planned_view}
use Rattle.plan_text.specs.PlanFile.{planned_written}
use Rattle.plan_text.proofs.ReadBack.{answer_again}
use Rattle.plan_text.proofs.print.print_planned.Goals as goal

pub returns-clause-reads_back : goal.returns-clause-reads_back
returns-clause-reads_back c = λ ordered.
    let answer = planned_view c.args.planned.now in
    let read = c.in_ok-text.ensures.reads_back (omega (arith, c.len.ensures, c.if-len-gt-FILE_BYTES.false)) in
    answer_again c.in_ok-text.text.items (planned_written answer) answer read refl c.requires.whole ordered c.in_ok-text.ensures.fits
