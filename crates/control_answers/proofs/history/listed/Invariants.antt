use Rattle.std.proofs.Common.{◌≡◌, ◌++◌, codes, drop}
use Rattle.byte_streams.specs.Lines.{lines_view}
use Rattle.control_answers.specs.History.{has_some, newest_first}
use Rattle.control_answers.proofs.history.listed.Given as goal

abbrev pub invariant-rows : goal.invariant-rows
invariant-rows l = (l.out.items ≡ codes "[" ++ newest_first (lines_view (drop l.i l.rows))) × (l.later ≡ has_some (lines_view (drop l.i l.rows)))
