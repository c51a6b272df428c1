use Rattle.std.proofs.Common.{◌≡◌, find, drop}
use Rattle.transport_core.specs.Certificate.{alpha_view, beta_view}
use Rattle.transport_core.specs.Refusals.{is_broken, pairs_of}
use Rattle.transport_core.proofs.slack.first_broken.Given as goal

-- the rest answers as the whole
abbrev pub invariant-loop-group : goal.invariant-loop-group
invariant-loop-group l =
    find (is_broken l.prices) (pairs_of (alpha_view (drop l.group-index l.alpha)) (beta_view l.beta)) ≡ find (is_broken l.prices) (pairs_of (alpha_view l.alpha) (beta_view l.beta))
