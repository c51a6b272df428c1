use Rattle.std.proofs.Common.{◌≡◌, map, option_map}
use Rattle.ofrep_service.specs.Logs.{path_in, paths_of}
use Rattle.ofrep_service.proofs.logs.open_logs.Given as goal

-- the logs of the workers so far
abbrev pub invariant-loop-worker : goal.invariant-loop-worker
invariant-loop-worker g l = map path_in l.logs.items ≡ paths_of (option_map (λ f. f.now) l.folder) l.worker
