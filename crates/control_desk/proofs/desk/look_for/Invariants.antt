use Rattle.std.proofs.Common.{◌≡◌, ◌+◌}
use Rattle.control_desk.specs.Obstacles.{Grows, met_by}
use Rattle.control_desk.proofs.desk.look_for.Given as goal

-- nothing was set each time
abbrev pub invariant-loop-look : goal.invariant-loop-look
invariant-loop-look g l = ((met_by l.met).unset ≡ (met_by l.fn.met).unset + l._look) × Grows (met_by l.fn.met) (met_by l.met)
