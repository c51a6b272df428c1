use Rattle.service_layers.proofs.date.date_of.Goals as goal

pub invariant_of-result : goal.invariant_of-result
invariant_of-result c = record { shown = ∣ (c.in-Ok.date, c.in-Ok.ensures.value, c.in_ok-value.ensures) ∣₁ }
