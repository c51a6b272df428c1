use Rattle.std.proofs.Common.{◌≡◌, ◌+◌, ◌-◌, ℕ, List, length, rules, subst, arith}
use Rattle.log_file.specs.Last.{SkipsLines}
use Rattle.log_file.specs.Line.{lines_in}
use Rattle.log_file.proofs.LastLines.{piece_starts}
use Rattle.log_file.proofs.last.last_start.Goals as goal

pub returns-then-lines-left-clause-start : goal.returns-then-lines-left-clause-start
returns-then-lines-left-clause-start g c =
    let bytes = g.F.LogFile.bytes c.args.file.now in
    let start = c.loop-end.end - c.min.result in
    let part = c.in_ok-part.part.items in
    let lines = c.lines_in-lines.result in
    let rest = c.behind_lines-rest.result.now in
    let at : start + length part ≡ c.loop-end.end = omega (arith, c.in_ok-part.ensures.count, c.min.ensures) in
    let is : lines ≡ lines_in part = search rules in
    let skips : SkipsLines (lines - c.loop-end.left) part rest = subst (λ (t : List ℕ). SkipsLines (lines - c.loop-end.left) t rest) c.as_slice-then-lines-left.ensures.value c.behind_lines-rest.ensures.skips in
    piece_starts c.args.most start c.loop-end.end c.loop-end.left lines bytes part rest at is c.if-lines-left.true c.in_ok-part.ensures.shown c.loop-end.invariant.1 skips
