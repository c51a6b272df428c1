use Rattle.std.proofs.Common.{◌≡◌, drop, map}
use Rattle.flagops_service.specs.Ended.{cors_fault}
use Rattle.flagops_service.proofs.preparing.fault_in.Given as goal

-- the first fault is among those that are left
abbrev pub invariant-loop-origin : goal.invariant-loop-origin
invariant-loop-origin l = cors_fault (map (λ o. o.now) (drop l.origin-index l.origins)) ≡ cors_fault (map (λ o. o.now) l.origins)
