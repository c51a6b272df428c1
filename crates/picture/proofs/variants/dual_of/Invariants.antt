use Rattle.std.proofs.Common.{◌≡◌, drop}
use Rattle.std.specs.Map.{lookup}
use Rattle.std.specs.Str.{bytes_eq}
use Rattle.transport_core.specs.Certificate.{beta_view}
use Rattle.picture.proofs.variants.dual_of.Given as goal

-- the rest answers as all
abbrev pub invariant-loop-known : goal.invariant-loop-known
invariant-loop-known l = lookup (bytes_eq l.name) (beta_view (drop l.known-index l.duals)) ≡ lookup (bytes_eq l.name) (beta_view l.duals)
