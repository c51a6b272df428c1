use Rattle.std.proofs.Common.{ap, ◌∙◌, arith}
use Rattle.plan_text.specs.Answer.{planned_view}
use Rattle.plan_text.specs.PlanFile.{answer_of}
use Rattle.plan_text.proofs.PlanLines.{line_reads}
use Rattle.plan_text.proofs.print.print_planned_line.Goals as goal

pub returns-clause-reads_back : goal.returns-clause-reads_back
returns-clause-reads_back c = λ ordered.
    let file = c.in_ok-line.line.items in
    ap answer_of c.in_ok-push.ensures.items
    ∙ line_reads (planned_view c.args.planned.now) file c.in_ok-line.ensures.exact c.requires.whole (λ full. omega (arith, full, c.len.ensures, c.if-len-eq-FILE_BYTES.false)) (c.in_ok-line.ensures.reads_back ordered)
