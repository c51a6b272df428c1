use Rattle.std.proofs.Common.{◌≡◌, ◌≤◌, map, take}
use Rattle.control_desk.specs.Logs.{AreAt}
use Rattle.control_desk.proofs.logs.read_each.Given as goal

-- those that were met are read, and the files stay as they were
abbrev pub invariant-loop-name : goal.invariant-loop-name
invariant-loop-name g l =
    AreAt (g.F.DeskFiles.holding l.fn.files) l.folder (map (λ n. n.now) (take l.name-index l.names)) (map (λ log. log.bytes.items) l.read.items)
    × (g.F.DeskFiles.holding l.files ≡ g.F.DeskFiles.holding l.fn.files)
    × (g.F.DeskFiles.naming l.files ≡ g.F.DeskFiles.naming l.fn.files)
    × (g.F.DeskFiles.faults l.fn.files ≤ g.F.DeskFiles.faults l.files)
