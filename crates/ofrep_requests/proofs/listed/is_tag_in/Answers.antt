use Rattle.std.proofs.Common.{◌||◌, sym, ap, ◌∙◌}
use Rattle.ofrep_requests.specs.Tag.{is_tag_in}
use Rattle.ofrep_requests.proofs.Tags.{closed}
use Rattle.ofrep_requests.proofs.listed.is_tag_in.Goals as goal

pub returns-then-eq : goal.returns-then-eq
returns-then-eq c =
    let opaque = c.args.opaque.now in
    let rest = c.in-Some-split_at_quote.closed.now in
    let step = closed opaque c.loop-opened.rest.now c.in-Some.field-0-0.now c.in-Some.opened.now c.in-Some-split_at_quote.tag.now rest c.in-Some.ensures.parts c.in-Some-split_at_quote.ensures.parts in
    sym (sym c.loop-opened.invariant ∙ (step ∙ ap (λ found. found || is_tag_in opaque rest) (sym c.eq.ensures ∙ c.if-eq.true)))
