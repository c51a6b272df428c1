use Rattle.std.proofs.Common.{sym, ap, ◌∙◌}
use Rattle.std.specs.Map.{keys_of}
use Rattle.price_core.specs.Pricing.{Pricing, entries_view}
use Rattle.price_core.proofs.Pricings.{forbidden_found}
use Rattle.price_core.proofs.prices.Prices.forbidden.Goals as goal

pub returns-then-ne-clause-value : goal.returns-then-ne-clause-value
returns-then-ne-clause-value c =
    let barred = ap (λ (p : Pricing). p.barred) (sym c.self.view_is) ∙ ap (λ es. keys_of (entries_view es)) (sym c.as_slice-barred.ensures.value) in
    c.is_some.ensures ∙ forbidden_found c.args.self.now c.args.a.now c.args.b.now (entries_view c.as_slice-barred.result.now) c.find.result (sym c.ne.ensures ∙ c.if-ne.true) barred c.find.ensures
