use Rattle.std.proofs.Common.{◌≡◌, ◌+◌, ◌≤◌, drop, map}
use Rattle.flag_resolve.specs.Views.{resolution_view}
use Rattle.flagops_drive.specs.Tally.{ended_in}
use Rattle.flagops_drive.proofs.tally.ended_in.Given as goal

abbrev pub invariant-loop-answer : goal.invariant-loop-answer
invariant-loop-answer l =
    (l.count + ended_in l.word (map resolution_view (drop l.answer-index l.answers)) ≡ ended_in l.word (map resolution_view l.answers)) × (l.count ≤ l.answer-index)
