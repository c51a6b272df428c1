-- a plan that passes is certified, and one that is refused is not
use Rattle.std.proofs.Common.{◌≡◌, ◌≢◌, ◌<◌, ℕ, List, sym, ap, ◌∙◌, arith}
use Rattle.exposures.specs.Counts.{counts_of}
use Rattle.bucket_core.specs.Rule.{Entries, total_weight}
use Rattle.price_core.specs.Cost.{cost_of, tally_cost}
use Rattle.price_core.specs.Pricing.{Pricing}
use Rattle.price_core.proofs.Numbered.{Rules}
use Rattle.transport_core.specs.Certificate.{certificate_view, IsCertified}
use Rattle.transport_core.specs.declared.fault.CheckFault.{CheckFault}
use Rattle.transport_core.specs.declared.fault.CheckFault.TheVariants.{WantOfMemory}
use Rattle.transport_core.proofs.Certified.{lows-fit, refused_not, refuses_rule, refuses_duals, certified_duals, least_from, err_exit}
use Rattle.transport_core.proofs.Costs.{cost-tally}
use Rattle.transport_core.proofs.plan.check_plan.Goals as goal

-- the cost that is added up is that of the inputs
cost_counted : (old new : Entries) (inputs : List (List ℕ)) (counts : List ℕ) (pricing : Pricing) (rules : Rules) (cost : ℕ) → 0 < total_weight old → total_weight new ≡ total_weight old → counts ≡ counts_of inputs (total_weight old) → rules ≡ (old, new, pricing)
    → cost ≡ tally_cost rules.0 rules.1 counts rules.2 → cost ≡ cost_of old new inputs pricing
cost_counted old new inputs counts pricing rules cost some weight counted are is = is ∙ (ap (λ (w : Rules). tally_cost w.0 w.1 counts w.2) are ∙ cost-tally old new inputs counts pricing some weight counted)

pub tally_cost-cost-requires-clause-total : goal.tally_cost-cost-requires-clause-total
tally_cost-cost-requires-clause-total c =
    let rules = c.in_ok-switching.ensures.rules in
    ap (λ (w : Rules). total_weight w.1) rules ∙ (c.in_ok-switching.ensures.exact.weight ∙ sym (ap (λ (w : Rules). total_weight w.0) rules))

pub tally_cost-cost-requires-clause-points : goal.tally_cost-cost-requires-clause-points
tally_cost-cost-requires-clause-points c = c.requires.whole ∙ sym (ap (λ (w : Rules). total_weight w.0) c.in_ok-switching.ensures.rules)

pub returns-in_err-switching-clause-exact : goal.returns-in_err-switching-clause-exact
returns-in_err-switching-clause-exact c =
    let plan = certificate_view c.args.certificate.now in
    let fault = c.in_err-switching.field-0.0 in
    err_exit c.from_residual.result fault (λ _. Unit {0})
    (λ (f : CheckFault). f ≢ WantOfMemory → (inputs : List (List ℕ)) → c.args.counts.now ≡ counts_of inputs (total_weight c.args.old.now) → ¬ IsCertified c.args.old.now c.args.new.now c.args.totals.now c.args.prices.now inputs plan) c.from_residual.ensures.1
    (λ want inputs counted. refused_not c.args.old.now c.args.new.now c.args.totals.now c.args.prices.now inputs plan fault c.entries-limits.ensures.lawful want
    (refuses_rule c.args.old.now c.args.new.now c.args.totals.now c.args.prices.now inputs plan fault c.in_err-switching.ensures.exact))

pub check_duals-requires-clause-points : goal.check_duals-requires-clause-points
check_duals-requires-clause-points c = c.requires.whole

pub check_duals-requires-clause-lows : goal.check_duals-requires-clause-lows
check_duals-requires-clause-lows c =
    omega (arith, lows-fit c.args.old.now c.args.new.now c.args.totals.now c.args.prices.now c.entries-limits.ensures.lawful c.in_ok-switching.ensures.exact, c.total-total.ensures.value, c.total-total.ensures.allowed.small)

pub returns-in_err-check_duals-clause-exact : goal.returns-in_err-check_duals-clause-exact
returns-in_err-check_duals-clause-exact c =
    let plan = certificate_view c.args.certificate.now in
    let fault = c.in_err-check_duals.field-0.0 in
    err_exit c.from_residual-in_err-check_duals.result fault (λ _. Unit {0})
    (λ (f : CheckFault). f ≢ WantOfMemory → (inputs : List (List ℕ)) → c.args.counts.now ≡ counts_of inputs (total_weight c.args.old.now) → ¬ IsCertified c.args.old.now c.args.new.now c.args.totals.now c.args.prices.now inputs plan) c.from_residual-in_err-check_duals.ensures.1
    (λ want inputs counted. refused_not c.args.old.now c.args.new.now c.args.totals.now c.args.prices.now inputs plan fault c.entries-limits.ensures.lawful want
    (refuses_duals c.args.old.now c.args.new.now c.args.totals.now c.args.prices.now inputs plan fault c.in_ok-switching.ensures.exact (c.in_err-check_duals.ensures inputs counted)))

pub returns-clause-certified : goal.returns-clause-certified
returns-clause-certified c = λ inputs counted.
    let plan = certificate_view c.args.certificate.now in
    let some : 0 < total_weight c.args.old.now = omega (arith, c.total-total.ensures.value, c.total-total.ensures.allowed.some) in
    let fits = c.in_ok-switching.ensures.exact in
    let cost = cost_counted c.args.old.now c.args.new.now inputs c.args.counts.now c.args.prices.now c.in_ok-switching.switching c.tally_cost-cost.result some fits.weight counted c.in_ok-switching.ensures.rules c.tally_cost-cost.ensures in
    certified_duals c.args.old.now c.args.new.now c.args.totals.now c.args.prices.now inputs plan c.entries-limits.ensures.lawful fits (c.in_ok-check_duals.ensures inputs counted) (sym cost ∙ c.if-cost-certificate.false)

pub returns-clause-least : goal.returns-clause-least
returns-clause-least c = λ inputs counted.
    let plan = certificate_view c.args.certificate.now in
    let some : 0 < total_weight c.args.old.now = omega (arith, c.total-total.ensures.value, c.total-total.ensures.allowed.some) in
    let fits = c.in_ok-switching.ensures.exact in
    let cost = cost_counted c.args.old.now c.args.new.now inputs c.args.counts.now c.args.prices.now c.in_ok-switching.switching c.tally_cost-cost.result some fits.weight counted c.in_ok-switching.ensures.rules c.tally_cost-cost.ensures in
    let certified = certified_duals c.args.old.now c.args.new.now c.args.totals.now c.args.prices.now inputs plan c.entries-limits.ensures.lawful fits (c.in_ok-check_duals.ensures inputs counted) (sym cost ∙ c.if-cost-certificate.false) in
    least_from c.args.old.now c.args.new.now c.args.totals.now c.args.prices.now inputs plan some c.entries-limits.ensures.lawful certified

pub returns-then-cost-certificate-clause-refused : goal.returns-then-cost-certificate-clause-refused
returns-then-cost-certificate-clause-refused c = λ inputs counted.
    let some : 0 < total_weight c.args.old.now = omega (arith, c.total-total.ensures.value, c.total-total.ensures.allowed.some) in
    let fits = c.in_ok-switching.ensures.exact in
    let duals = c.in_ok-check_duals.ensures inputs counted in
    let cost = cost_counted c.args.old.now c.args.new.now inputs c.args.counts.now c.args.prices.now c.in_ok-switching.switching c.tally_cost-cost.result some fits.weight counted c.in_ok-switching.ensures.rules c.tally_cost-cost.ensures in
    (record { fits = fits; groups = duals.groups; names = duals.names }, duals.unbroken, duals.sum, λ e. c.if-cost-certificate.true (cost ∙ e))

pub returns-then-cost-certificate-clause-exact : goal.returns-then-cost-certificate-clause-exact
returns-then-cost-certificate-clause-exact c = λ want inputs counted certified.
    let some : 0 < total_weight c.args.old.now = omega (arith, c.total-total.ensures.value, c.total-total.ensures.allowed.some) in
    let fits = c.in_ok-switching.ensures.exact in
    let cost = cost_counted c.args.old.now c.args.new.now inputs c.args.counts.now c.args.prices.now c.in_ok-switching.switching c.tally_cost-cost.result some fits.weight counted c.in_ok-switching.ensures.rules c.tally_cost-cost.ensures in
    c.if-cost-certificate.true (cost ∙ certified.cost)
