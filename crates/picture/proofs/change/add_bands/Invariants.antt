use Rattle.std.proofs.Common.{◌≡◌, ◌≤◌, ◌++◌, drop}
use Rattle.rule_switches.specs.Runs.{runs_view}
use Rattle.price_core.specs.Limits.{limits_view}
use Rattle.picture.specs.Told.{runs_told, told}
use Rattle.picture.proofs.change.add_bands.Given as goal

-- what is told so far, and what the rest tells
abbrev pub invariant-loop-i : goal.invariant-loop-i
invariant-loop-i l =
    (l.begin ≤ l.total) × (told l.elements.items ++ runs_told (limits_view l.limits) l.total l.begin (runs_view (drop l.i l.runs)) ≡ told l.fn.elements.items ++ runs_told (limits_view l.limits) l.total 0 (runs_view l.runs))
