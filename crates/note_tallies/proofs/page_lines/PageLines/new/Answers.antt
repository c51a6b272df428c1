use Rattle.std.proofs.Common.{arith}
use Rattle.note_tallies.proofs.Heads.{at_least_four, is_head}
use Rattle.note_tallies.proofs.page_lines.PageLines.new.Goals as goal

pub overflow_sub-len : goal.overflow_sub-len
overflow_sub-len c = omega (arith, at_least_four c.args.page c.in_ok-head.head.items c.in_ok-head.ensures.text, c.len.ensures)

pub invariant_of-result : goal.invariant_of-result
invariant_of-result c =
    let long = at_least_four c.args.page c.in_ok-head.head.items c.in_ok-head.ensures.text in
    is_head c.args.page c.in_ok-head.head.items c.truncate.new.self.items _ c.in_ok-head.ensures.text (omega (arith, long, c.len.ensures)) c.truncate.ensures.items (c.in_ok-head.ensures.note (omega arith))
