use Rattle.std.proofs.Common.{◌≡◌, ◌+◌, drop}
use Rattle.ramp.specs.Steps.{judged, requests_view}
use Rattle.ramp.proofs.steps.judge.Given as goal

abbrev pub invariant-loop-i : goal.invariant-loop-i
invariant-loop-i l = judged 1 (requests_view l.requests) ≡ judged (l.i + 1) (requests_view (drop l.i l.requests))
