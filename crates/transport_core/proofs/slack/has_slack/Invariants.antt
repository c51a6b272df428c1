use Rattle.std.proofs.Common.{◌≡◌, drop}
use Rattle.transport_core.specs.Assignment.{has_slack}
use Rattle.transport_core.specs.Certificate.{alpha_view, beta_view}
use Rattle.transport_core.proofs.slack.has_slack.Given as goal

-- the rest answers as the whole
abbrev pub invariant-loop-name : goal.invariant-loop-name
invariant-loop-name l = has_slack l.prices (alpha_view l.alpha) (beta_view (drop l.name-index l.beta)) ≡ has_slack l.prices (alpha_view l.alpha) (beta_view l.beta)
