use Rattle.std.proofs.Common.{◌≡◌, drop}
use Rattle.control_desk.specs.Names.{has_log}
use Rattle.control_desk.proofs.names.has_log.Given as goal

-- it stands in what is left where it stands in the name
abbrev pub invariant-loop-place : goal.invariant-loop-place
invariant-loop-place l = has_log (drop l.place l.name) ≡ has_log l.name
