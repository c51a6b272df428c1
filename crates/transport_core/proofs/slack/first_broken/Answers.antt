-- the first pair of the rest is that of this group, or that of the groups behind it
use Rattle.std.proofs.Common.{◌≡◌, ℕ, ℤ, List, ◌+◌, drop, ◌∷◌, string_bytes, find, sym, ap, ◌∙◌, arith}
use Rattle.transport_core.specs.Certificate.{alpha_view, beta_row, beta_view}
use Rattle.transport_core.specs.Refusals.{is_broken, pairs_of}
use Rattle.transport_core.proofs.Pairs.{row_passes, row_fails}
use Rattle.transport_core.proofs.Plans.{none_broken}
use Rattle.transport_core.proofs.Ranges.{from_here}
use Rattle.transport_core.proofs.slack.first_broken.Goals as goal

pub returns-then-has_slack : goal.returns-then-has_slack
returns-then-has_slack c = sym (none_broken c.args.prices.now (alpha_view c.args.alpha.now) (beta_view c.args.beta.now) (sym c.if-has_slack.ensures))

pub returns-in-Some : goal.returns-in-Some
returns-in-Some c =
    let test = is_broken c.args.prices.now in
    let alpha = c.args.alpha.now in
    let beta = beta_view c.args.beta.now in
    let row = c.group-item.result in
    let i = c.loop-group.group-index in
    let view : (List ℕ × ℕ) × ℤ = ((string_bytes row.0, row.1), row.2) in
    let here : drop i alpha ≡ row ∷ drop (i + 1) alpha = from_here alpha i row (omega arith) c.group-item.is in
    let first = ap (λ rows. find test (pairs_of (alpha_view rows) beta)) here ∙ row_passes test view (pairs_of (alpha_view (drop (i + 1) alpha)) beta) beta (beta_row c.in-Some.name.now) (sym c.in-Some.ensures) in
    sym (sym c.loop-group.invariant ∙ first)

pub loop-group-preserved : goal.loop-group-preserved
loop-group-preserved c =
    let test = is_broken c.args.prices.now in
    let alpha = c.args.alpha.now in
    let beta = beta_view c.args.beta.now in
    let row = c.group-item.result in
    let i = c.loop-group.group-index in
    let view : (List ℕ × ℕ) × ℤ = ((string_bytes row.0, row.1), row.2) in
    let here : drop i alpha ≡ row ∷ drop (i + 1) alpha = from_here alpha i row (omega arith) c.group-item.is in
    let later = ap (λ rows. find test (pairs_of (alpha_view rows) beta)) here ∙ row_fails test view (pairs_of (alpha_view (drop (i + 1) alpha)) beta) beta (sym c.in_default.ensures) in
    sym later ∙ c.loop-group.invariant
