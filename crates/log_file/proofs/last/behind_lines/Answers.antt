use Rattle.std.proofs.Common.{arith}
use Rattle.log_file.proofs.LastLines.{no_line_left, one_line}
use Rattle.log_file.proofs.last.behind_lines.Goals as goal

pub returns-in-None-clause-skips : goal.returns-in-None-clause-skips
returns-in-None-clause-skips c =
    absurd (no_line_left c.args.lines c.loop-line._line c.args.bytes.now c.loop-line.rest.now c.loop-line.invariant.0 c.loop-line-test.true c.requires c.in-None.ensures.parts)

pub loop-line-preserved : goal.loop-line-preserved
loop-line-preserved c = (
  one_line c.loop-line._line c.args.bytes.now c.loop-line.rest.now c.in-Some.field-0-0.now c.in-Some.behind.now c.loop-line.invariant.0 c.in-Some.ensures.parts,
  omega (arith, c.loop-line.invariant.1, c.in-Some.ensures.fewer),
)
