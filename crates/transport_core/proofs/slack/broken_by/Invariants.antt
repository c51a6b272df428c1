use Rattle.std.proofs.Common.{◌≡◌, find, drop}
use Rattle.transport_core.specs.Certificate.{alpha_row, beta_view}
use Rattle.transport_core.specs.Refusals.{is_broken}
use Rattle.transport_core.proofs.slack.broken_by.Given as goal

-- the rest answers as the whole
abbrev pub invariant-loop-name : goal.invariant-loop-name
invariant-loop-name l =
    find (λ b. is_broken l.prices (alpha_row l.group, b)) (beta_view (drop l.name-index l.beta)) ≡ find (λ b. is_broken l.prices (alpha_row l.group, b)) (beta_view l.beta)
