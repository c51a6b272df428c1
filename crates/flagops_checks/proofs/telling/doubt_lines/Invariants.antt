use Rattle.std.proofs.Common.{drop, map, string_bytes}
use Rattle.flagops_checks.specs.Judged.{judged_view}
use Rattle.flagops_checks.proofs.Spoken.{Whole}
use Rattle.flagops_checks.proofs.telling.doubt_lines.Given as goal

abbrev pub invariant-loop-flag : goal.invariant-loop-flag
invariant-loop-flag l = Whole l.path (map judged_view l.flags) (map judged_view (drop l.flag-index l.flags)) (string_bytes l.text)
