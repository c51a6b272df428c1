use Rattle.std.proofs.Common.{◌≡◌, ◌+◌}
use Rattle.control_desk.specs.Obstacles.{Grows, met_by}
use Rattle.control_desk.proofs.turn.Turn.wait.Given as goal

-- another had the turn each time
abbrev pub invariant-loop-look : goal.invariant-loop-look
invariant-loop-look g l = ((met_by l.met).taken ≡ (met_by l.fn.met).taken + l._look) × Grows (met_by l.fn.met) (met_by l.met)
