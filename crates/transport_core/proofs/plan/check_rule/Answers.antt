use Rattle.std.proofs.Common.{ℕ, List, ap, sym, ◌∙◌, arith}
use Rattle.std.proofs.lemmas.Bool.{MatchBool-at_true}
use Rattle.bucket_core.specs.Rule.{total_weight}
use Rattle.price_core.specs.Cost.{first_forbidden_of}
use Rattle.price_core.proofs.Numbered.{Rules}
use Rattle.transport_core.specs.Refusals.{KeepsLimits, BreaksLimit}
use Rattle.transport_core.proofs.Certified.{fits_from}
use Rattle.transport_core.proofs.plan.check_rule.Goals as goal

pub first_forbidden-requires : goal.first_forbidden-requires
first_forbidden-requires c =
    let rules = c.in_ok-switching.ensures.rules in
    omega (arith, ap (λ (w : Rules). total_weight w.0) rules, ap (λ (w : Rules). total_weight w.1) rules, c.total.ensures.value, c.total-2.ensures.value)

pub returns-in-Some-clause-exact : goal.returns-in-Some-clause-exact
returns-in-Some-clause-exact c =
    let new = c.args.new.now in
    let limits = c.args.totals.now in
    let kept = MatchBool-at_true (KeepsLimits new limits) ((name : List ℕ) × BreaksLimit new limits name) c.if-not-branch.false c.in_ok-keeps_limits.ensures in
    (omega (arith, c.total.ensures.value, c.total-2.ensures.value), kept, sym (c.in-Some.ensures.exact ∙ ap (λ (w : Rules). first_forbidden_of w.0 w.1 w.2) c.in_ok-switching.ensures.rules))

pub returns-clause-exact : goal.returns-clause-exact
returns-clause-exact c =
    let new = c.args.new.now in
    let limits = c.args.totals.now in
    let kept = MatchBool-at_true (KeepsLimits new limits) ((name : List ℕ) × BreaksLimit new limits name) c.if-not-branch.false c.in_ok-keeps_limits.ensures in
    fits_from c.args.old.now new limits c.args.prices.now (omega (arith, c.total.ensures.value, c.total-2.ensures.value)) kept (sym (c.in-None.ensures.exact ∙ ap (λ (w : Rules). first_forbidden_of w.0 w.1 w.2) c.in_ok-switching.ensures.rules))
