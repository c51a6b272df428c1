use Rattle.std.proofs.Common.{◌≡◌, drop, map}
use Rattle.std.specs.List.{list_any}
use Rattle.flagops_checks.specs.Judged.{judged_view}
use Rattle.flagops_checks.proofs.checked.one_is_broken.Given as goal

abbrev pub invariant-loop-flag : goal.invariant-loop-flag
invariant-loop-flag l = list_any (λ j. j.is_broken) (map judged_view (drop l.flag-index l.flags)) ≡ list_any (λ j. j.is_broken) (map judged_view l.flags)
