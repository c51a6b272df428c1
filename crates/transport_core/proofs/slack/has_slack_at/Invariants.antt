use Rattle.std.proofs.Common.{◌≡◌, not, drop, string_bytes}
use Rattle.std.specs.List.{list_all}
use Rattle.transport_core.specs.Certificate.{alpha_view, beta_row}
use Rattle.transport_core.specs.Refusals.{is_broken, IsArcCost}
use Rattle.transport_core.proofs.slack.has_slack_at.Given as goal

-- the rest answers as the whole, and the known cost is right
abbrev pub invariant-loop-group : goal.invariant-loop-group
invariant-loop-group l = record {
  rest : list_all (λ a. not (is_broken l.prices (a, beta_row l.name))) (alpha_view (drop l.group-index l.alpha)) ≡ list_all (λ a. not (is_broken l.prices (a, beta_row l.name))) (alpha_view l.alpha);
  cost : IsArcCost l.prices (string_bytes l.name.0) l.known.from.now l.known.forbidden l.known.price;
}
