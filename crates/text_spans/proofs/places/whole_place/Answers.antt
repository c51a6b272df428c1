use Rattle.text_spans.proofs.Located.{whole_at}
use Rattle.text_spans.proofs.places.whole_place.Goals as goal

pub returns-clause-place : goal.returns-clause-place
returns-clause-place c =
    λ d j r. whole_at d _ _ _ _ _ j r c.from_next-from.ensures.here (λ e. (c.pass_value.ensures.value d r e).0) c.pass_value.ensures.passed
