use Rattle.std.proofs.Common.{◌≡◌, ◌≤◌, ◌+◌}
use Rattle.control_desk.specs.Obstacles.{Grows, met_by}
use Rattle.control_desk.proofs.logs.read_logs.Given as goal

-- each time a log was gone, and the files stay as they were
abbrev pub invariant-loop-try : goal.invariant-loop-try
invariant-loop-try g l =
    (g.F.DeskFiles.holding l.files ≡ g.F.DeskFiles.holding l.fn.files)
    × (g.F.DeskFiles.naming l.files ≡ g.F.DeskFiles.naming l.fn.files)
    × (g.F.DeskFiles.faults l.fn.files ≤ g.F.DeskFiles.faults l.files)
    × ((met_by l.fn.met).gone + l._try ≤ (met_by l.met).gone)
    × Grows (met_by l.fn.met) (met_by l.met)
