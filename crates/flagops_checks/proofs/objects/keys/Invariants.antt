use Rattle.std.proofs.Common.{◌≡◌, ◌++◌, drop, map}
use Rattle.flag_text.specs.Shape.{text}
use Rattle.flag_text.specs.View.{view}
use Rattle.flagops_checks.specs.Judged.{judged_view}
use Rattle.flagops_checks.specs.Printed.{keys_in}
use Rattle.flagops_checks.proofs.objects.keys.Given as goal

abbrev pub invariant-loop-flag : goal.invariant-loop-flag
invariant-loop-flag l = map view l.keys.items ++ map text (keys_in l.which (map judged_view (drop l.flag-index l.flags))) ≡ map text (keys_in l.which (map judged_view l.flags))
