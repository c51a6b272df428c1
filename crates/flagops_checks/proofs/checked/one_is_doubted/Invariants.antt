use Rattle.std.proofs.Common.{◌≡◌, drop, map}
use Rattle.std.specs.List.{list_any}
use Rattle.flagops_checks.specs.Judged.{is_doubted, judged_view}
use Rattle.flagops_checks.proofs.checked.one_is_doubted.Given as goal

abbrev pub invariant-loop-flag : goal.invariant-loop-flag
invariant-loop-flag l = list_any is_doubted (map judged_view (drop l.flag-index l.flags)) ≡ list_any is_doubted (map judged_view l.flags)
