use Rattle.std.proofs.Common.{◌+◌, ◌&&◌, ℤ, ℕ, List, Bool, not, drop, sym, ap, ◌∙◌, subst}
use Rattle.std.specs.List.{list_all}
use Rattle.transport_core.specs.Certificate.{alpha_row, alpha_view, beta_row}
use Rattle.transport_core.specs.Groups.{GroupKey}
use Rattle.transport_core.specs.Refusals.{is_broken, IsArcCost}
use Rattle.transport_core.proofs.Certified.{broken_by_cost}
use Rattle.transport_core.proofs.Ranges.{from_here}
use Rattle.transport_core.proofs.slack.has_slack_at.Goals as goal

pub returns-then-is_negative : goal.returns-then-is_negative
returns-then-is_negative c =
    let p = c.args.prices.now in
    let name = beta_row c.args.name.now in
    let test : GroupKey × ℤ → Bool = λ a. not (is_broken p (a, name)) in
    let alpha = c.args.alpha.now in
    let i = c.loop-group.group-index in
    let row = c.group-item.result in
    let here = ap (λ rows. list_all test (alpha_view rows)) (from_here alpha i row c.loop-group-test.true c.group-item.is) in
    let known = c.arc_cost_from-known.result in
    let cost = subst (λ (to : List ℕ). IsArcCost p to known.from.now known.forbidden known.price) c.as_str-in-loop-group-2.ensures.value c.arc_cost_from-known.ensures.cost in
    let broken = broken_by_cost p (alpha_row row) name known.from.now known.forbidden known.price (c.arc_cost_from-known.ensures.from ∙ c.as_str-in-loop-group.ensures.value) cost in
    let later = list_all test (alpha_view (drop (i + 1) alpha)) in
    sym (sym c.loop-group.invariant.rest ∙ (here ∙ ap (λ b. not b && later) (broken ∙ (sym c.is_negative.ensures ∙ c.if-is_negative.true))))

pub loop-group-preserved : goal.loop-group-preserved
loop-group-preserved c =
    let p = c.args.prices.now in
    let name = beta_row c.args.name.now in
    let test : GroupKey × ℤ → Bool = λ a. not (is_broken p (a, name)) in
    let alpha = c.args.alpha.now in
    let i = c.loop-group.group-index in
    let row = c.group-item.result in
    let here = ap (λ rows. list_all test (alpha_view rows)) (from_here alpha i row c.loop-group-test.true c.group-item.is) in
    let known = c.arc_cost_from-known.result in
    let cost = subst (λ (to : List ℕ). IsArcCost p to known.from.now known.forbidden known.price) c.as_str-in-loop-group-2.ensures.value c.arc_cost_from-known.ensures.cost in
    let broken = broken_by_cost p (alpha_row row) name known.from.now known.forbidden known.price (c.arc_cost_from-known.ensures.from ∙ c.as_str-in-loop-group.ensures.value) cost in
    let later = list_all test (alpha_view (drop (i + 1) alpha)) in
    record {
      rest = sym (here ∙ ap (λ b. not b && later) (broken ∙ (sym c.is_negative.ensures ∙ c.if-is_negative.false))) ∙ c.loop-group.invariant.rest;
      cost = cost;
    }
