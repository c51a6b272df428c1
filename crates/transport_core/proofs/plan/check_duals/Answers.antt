-- what was read is what was handed in
use Rattle.std.proofs.Common.{ℕ, ◌<◌, ◌^◌, string_bytes, sum_by, sym, ap, ◌∙◌, subst, refl, Some, arith}
use Rattle.std.proofs.lemmas.Bool.{false≢true}
use Rattle.price_core.specs.Limits.{Limits, limits_view}
use Rattle.transport_core.specs.Certificate.{alpha_view, beta_row, beta_view, certificate_view}
use Rattle.transport_core.specs.Groups.{rows_view}
use Rattle.transport_core.specs.Rows.{whole_amount}
use Rattle.transport_core.proofs.Certified.{refuse_groups, refuse_names, groups_exact, names_exact, first_is, sum_is, lows-view}
use Rattle.transport_core.proofs.Lengths.{groups_long, names_long}
use Rattle.transport_core.proofs.plan.check_duals.Goals as goal

pub returns-then-not-are_groups : goal.returns-then-not-are_groups
returns-then-not-are_groups c = λ inputs counted.
    refuse_groups c.args.old.now inputs c.args.totals.now (limits_view c.entries-limits.result.now) c.args.prices.now (certificate_view c.args.certificate.now)
    (alpha_view c.as_slice-alpha.result.now) (beta_view c.as_slice-beta.result.now) (rows_view c.in_ok-sizes.sizes.items) (rows_view c.as_slice-groups.result.now)
    c.entries-limits.ensures.value (ap alpha_view c.as_slice-alpha.ensures.value) (ap beta_view c.as_slice-beta.ensures.value) (ap rows_view c.as_slice-groups.ensures.value) (c.in_ok-sizes.ensures.sizes inputs counted) c.entries-limits.ensures.lawful
    c.if-not-are_groups.ensures

pub returns-then-not-are_names : goal.returns-then-not-are_names
returns-then-not-are_names c = λ inputs counted.
    refuse_names c.args.old.now inputs c.args.totals.now (limits_view c.entries-limits.result.now) c.args.prices.now (certificate_view c.args.certificate.now)
    (alpha_view c.as_slice-alpha.result.now) (beta_view c.as_slice-beta.result.now) (rows_view c.in_ok-sizes.sizes.items) (rows_view c.as_slice-groups.result.now)
    c.entries-limits.ensures.value (ap alpha_view c.as_slice-alpha.ensures.value) (ap beta_view c.as_slice-beta.ensures.value) (ap rows_view c.as_slice-groups.ensures.value) (c.in_ok-sizes.ensures.sizes inputs counted) c.entries-limits.ensures.lawful
    c.if-not-are_names.ensures

pub sums_to-requires-clause-points : goal.sums_to-requires-clause-points
sums_to-requires-clause-points c = omega (arith, ap whole_amount c.as_slice-groups.ensures.value, c.in_ok-sizes.ensures.few)

pub sums_to-requires-clause-groups : goal.sums_to-requires-clause-groups
sums_to-requires-clause-groups c = groups_long c.as_slice-alpha.result.now c.as_slice-groups.result.now c.if-not-are_groups.ensures

pub sums_to-requires-clause-names : goal.sums_to-requires-clause-names
sums_to-requires-clause-names c = names_long c.as_slice-beta.result.now c.entries-limits.result.now c.if-not-are_names.ensures

pub sums_to-requires-clause-lows : goal.sums_to-requires-clause-lows
sums_to-requires-clause-lows c =
    let is = sym (lows-view c.entries-limits.result.now) ∙ ap (λ (ls : Limits). sum_by (λ l. l.1.0) ls) c.entries-limits.ensures.value in
    subst (λ (n : ℕ). n < 2 ^ 32) (sym is) c.requires.lows

pub returns-in-Some : goal.returns-in-Some
returns-in-Some c = λ inputs counted.
    let groups = groups_exact c.args.old.now inputs c.args.totals.now (limits_view c.entries-limits.result.now) c.args.prices.now (certificate_view c.args.certificate.now)
    (alpha_view c.as_slice-alpha.result.now) (beta_view c.as_slice-beta.result.now) (rows_view c.in_ok-sizes.sizes.items) (rows_view c.as_slice-groups.result.now)
    c.entries-limits.ensures.value (ap alpha_view c.as_slice-alpha.ensures.value) (ap beta_view c.as_slice-beta.ensures.value) (ap rows_view c.as_slice-groups.ensures.value) (c.in_ok-sizes.ensures.sizes inputs counted) c.entries-limits.ensures.lawful c.if-not-are_groups.ensures in
    let names = names_exact c.args.old.now inputs c.args.totals.now (limits_view c.entries-limits.result.now) c.args.prices.now (certificate_view c.args.certificate.now)
    (alpha_view c.as_slice-alpha.result.now) (beta_view c.as_slice-beta.result.now) (rows_view c.in_ok-sizes.sizes.items) (rows_view c.as_slice-groups.result.now)
    c.entries-limits.ensures.value (ap alpha_view c.as_slice-alpha.ensures.value) (ap beta_view c.as_slice-beta.ensures.value) (ap rows_view c.as_slice-groups.ensures.value) (c.in_ok-sizes.ensures.sizes inputs counted) c.entries-limits.ensures.lawful c.if-not-are_names.ensures in
    let first = first_is c.args.old.now inputs c.args.totals.now (limits_view c.entries-limits.result.now) c.args.prices.now (certificate_view c.args.certificate.now)
    (alpha_view c.as_slice-alpha.result.now) (beta_view c.as_slice-beta.result.now) (rows_view c.in_ok-sizes.sizes.items) (rows_view c.as_slice-groups.result.now)
    c.entries-limits.ensures.value (ap alpha_view c.as_slice-alpha.ensures.value) (ap beta_view c.as_slice-beta.ensures.value) (ap rows_view c.as_slice-groups.ensures.value) (c.in_ok-sizes.ensures.sizes inputs counted) c.entries-limits.ensures.lawful in
    let group = c.in-Some.group.now in
    let name = c.in-Some.name.now in
    let named = ap (λ s. Some (((s, group.1), group.2), beta_row name)) (sym c.in_ok-clone.ensures.cases) in
    let to = ap (λ s. Some (((string_bytes c.in_ok-clone.field-0, group.1), group.2), (s, name.1))) (sym c.in_ok-clone-2.ensures.cases) in
    (groups, names, (group.2, name.1, sym first ∙ (sym c.in-Some.ensures ∙ (named ∙ to))))

pub returns-then-not-sums_to : goal.returns-then-not-sums_to
returns-then-not-sums_to c = λ inputs counted.
    let groups = groups_exact c.args.old.now inputs c.args.totals.now (limits_view c.entries-limits.result.now) c.args.prices.now (certificate_view c.args.certificate.now)
    (alpha_view c.as_slice-alpha.result.now) (beta_view c.as_slice-beta.result.now) (rows_view c.in_ok-sizes.sizes.items) (rows_view c.as_slice-groups.result.now)
    c.entries-limits.ensures.value (ap alpha_view c.as_slice-alpha.ensures.value) (ap beta_view c.as_slice-beta.ensures.value) (ap rows_view c.as_slice-groups.ensures.value) (c.in_ok-sizes.ensures.sizes inputs counted) c.entries-limits.ensures.lawful c.if-not-are_groups.ensures in
    let names = names_exact c.args.old.now inputs c.args.totals.now (limits_view c.entries-limits.result.now) c.args.prices.now (certificate_view c.args.certificate.now)
    (alpha_view c.as_slice-alpha.result.now) (beta_view c.as_slice-beta.result.now) (rows_view c.in_ok-sizes.sizes.items) (rows_view c.as_slice-groups.result.now)
    c.entries-limits.ensures.value (ap alpha_view c.as_slice-alpha.ensures.value) (ap beta_view c.as_slice-beta.ensures.value) (ap rows_view c.as_slice-groups.ensures.value) (c.in_ok-sizes.ensures.sizes inputs counted) c.entries-limits.ensures.lawful c.if-not-are_names.ensures in
    let first = first_is c.args.old.now inputs c.args.totals.now (limits_view c.entries-limits.result.now) c.args.prices.now (certificate_view c.args.certificate.now)
    (alpha_view c.as_slice-alpha.result.now) (beta_view c.as_slice-beta.result.now) (rows_view c.in_ok-sizes.sizes.items) (rows_view c.as_slice-groups.result.now)
    c.entries-limits.ensures.value (ap alpha_view c.as_slice-alpha.ensures.value) (ap beta_view c.as_slice-beta.ensures.value) (ap rows_view c.as_slice-groups.ensures.value) (c.in_ok-sizes.ensures.sizes inputs counted) c.entries-limits.ensures.lawful in
    let sum = sum_is c.args.old.now inputs c.args.totals.now (limits_view c.entries-limits.result.now) c.args.prices.now (certificate_view c.args.certificate.now)
    (alpha_view c.as_slice-alpha.result.now) (beta_view c.as_slice-beta.result.now) (rows_view c.in_ok-sizes.sizes.items) (rows_view c.as_slice-groups.result.now)
    c.entries-limits.ensures.value (ap alpha_view c.as_slice-alpha.ensures.value) (ap beta_view c.as_slice-beta.ensures.value) (ap rows_view c.as_slice-groups.ensures.value) (c.in_ok-sizes.ensures.sizes inputs counted) c.entries-limits.ensures.lawful c.if-not-are_groups.ensures c.if-not-are_names.ensures in
    (groups, names, sym first ∙ sym c.in_default.ensures, λ e. false≢true (c.if-not-sums_to.ensures.1 (sum ∙ e)))

pub returns : goal.returns
returns c = λ inputs counted.
    let groups = groups_exact c.args.old.now inputs c.args.totals.now (limits_view c.entries-limits.result.now) c.args.prices.now (certificate_view c.args.certificate.now)
    (alpha_view c.as_slice-alpha.result.now) (beta_view c.as_slice-beta.result.now) (rows_view c.in_ok-sizes.sizes.items) (rows_view c.as_slice-groups.result.now)
    c.entries-limits.ensures.value (ap alpha_view c.as_slice-alpha.ensures.value) (ap beta_view c.as_slice-beta.ensures.value) (ap rows_view c.as_slice-groups.ensures.value) (c.in_ok-sizes.ensures.sizes inputs counted) c.entries-limits.ensures.lawful c.if-not-are_groups.ensures in
    let names = names_exact c.args.old.now inputs c.args.totals.now (limits_view c.entries-limits.result.now) c.args.prices.now (certificate_view c.args.certificate.now)
    (alpha_view c.as_slice-alpha.result.now) (beta_view c.as_slice-beta.result.now) (rows_view c.in_ok-sizes.sizes.items) (rows_view c.as_slice-groups.result.now)
    c.entries-limits.ensures.value (ap alpha_view c.as_slice-alpha.ensures.value) (ap beta_view c.as_slice-beta.ensures.value) (ap rows_view c.as_slice-groups.ensures.value) (c.in_ok-sizes.ensures.sizes inputs counted) c.entries-limits.ensures.lawful c.if-not-are_names.ensures in
    let first = first_is c.args.old.now inputs c.args.totals.now (limits_view c.entries-limits.result.now) c.args.prices.now (certificate_view c.args.certificate.now)
    (alpha_view c.as_slice-alpha.result.now) (beta_view c.as_slice-beta.result.now) (rows_view c.in_ok-sizes.sizes.items) (rows_view c.as_slice-groups.result.now)
    c.entries-limits.ensures.value (ap alpha_view c.as_slice-alpha.ensures.value) (ap beta_view c.as_slice-beta.ensures.value) (ap rows_view c.as_slice-groups.ensures.value) (c.in_ok-sizes.ensures.sizes inputs counted) c.entries-limits.ensures.lawful in
    let sum = sum_is c.args.old.now inputs c.args.totals.now (limits_view c.entries-limits.result.now) c.args.prices.now (certificate_view c.args.certificate.now)
    (alpha_view c.as_slice-alpha.result.now) (beta_view c.as_slice-beta.result.now) (rows_view c.in_ok-sizes.sizes.items) (rows_view c.as_slice-groups.result.now)
    c.entries-limits.ensures.value (ap alpha_view c.as_slice-alpha.ensures.value) (ap beta_view c.as_slice-beta.ensures.value) (ap rows_view c.as_slice-groups.ensures.value) (c.in_ok-sizes.ensures.sizes inputs counted) c.entries-limits.ensures.lawful c.if-not-are_groups.ensures c.if-not-are_names.ensures in
    record { groups = groups; names = names; unbroken = sym first ∙ sym c.in_default.ensures; sum = sym sum ∙ c.if-not-sums_to.ensures.0 refl }
