use Rattle.std.proofs.Common.{ap, ◌∙◌}
use Rattle.std.specs.Map.{lookup}
use Rattle.price_core.specs.Pricing.{is_same_pair, entries_view}
use Rattle.price_core.proofs.Pricings.{named_fits}
use Rattle.price_core.proofs.prices.Prices.price.Goals as goal

pub returns-in-Some-clause-small : goal.returns-in-Some-clause-small
returns-in-Some-clause-small c =
    named_fits _ (c.args.a.now, c.args.b.now) c.in-Some.price.now c.self.invariant (c.in-Some.ensures ∙ ap (λ es. lookup (is_same_pair (c.args.a.now, c.args.b.now)) (entries_view es)) c.as_slice.ensures.value)
