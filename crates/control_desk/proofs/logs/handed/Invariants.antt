use Rattle.std.proofs.Common.{◌≡◌, map, take}
use Rattle.note_streams.specs.LogLines.{files_view}
use Rattle.control_desk.proofs.logs.handed.Given as goal

-- those that were met are handed over
abbrev pub invariant-loop-log : goal.invariant-loop-log
invariant-loop-log l = files_view l.files.items ≡ map (λ log. log.bytes.items) (take l.log-index l.logs)
