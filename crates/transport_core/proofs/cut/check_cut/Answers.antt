use Rattle.std.proofs.Common.{refl, sym, ap, subst}
use Rattle.std.proofs.lemmas.Bool.{false≢true}
use Rattle.bucket_core.specs.Rule.{names_view}
use Rattle.price_core.specs.Limits.{limits_view}
use Rattle.transport_core.specs.Rows.{AreTotals, totals_view}
use Rattle.transport_core.proofs.Deficits.{deficient_fits_none, refuse_unlisted, listed_here, accept, refuse_few}
use Rattle.transport_core.proofs.cut.check_cut.Goals as goal

pub returns-then-not-are_listed-clause-refused : goal.returns-then-not-are_listed-clause-refused
returns-then-not-are_listed-clause-refused c = λ _. (
  refl,
  refuse_unlisted c.args.cut.now.kind c.args.old.now c.args.limits.now (limits_view c.entries-limits.result.now) c.args.prices.now (names_view c.args.cut.now.names.items) (names_view c.as_slice-names.result.now)
      c.entries-limits.ensures.value (ap names_view c.as_slice-names.ensures.value) c.if-not-are_listed.ensures,
)

pub returns-then-outnumbers-clause-deficient : goal.returns-then-outnumbers-clause-deficient
returns-then-outnumbers-clause-deficient c =
    accept c.args.cut.now.kind c.args.old.now c.args.limits.now (limits_view c.entries-limits.result.now) c.args.prices.now (names_view c.args.cut.now.names.items) (names_view c.as_slice-names.result.now)
    c.entries-limits.ensures.value (ap names_view c.as_slice-names.ensures.value) (totals_view c.as_slice.result.now) (subst (λ ts. AreTotals c.args.old.now ts) (sym (ap totals_view c.as_slice.ensures.value)) c.in_ok-totals.ensures)
    (sym c.if-not-are_listed.ensures) (c.if-outnumbers.ensures.0 refl)

pub returns-then-outnumbers-clause-none : goal.returns-then-outnumbers-clause-none
returns-then-outnumbers-clause-none c = λ rule fits.
    let deficient = accept c.args.cut.now.kind c.args.old.now c.args.limits.now (limits_view c.entries-limits.result.now) c.args.prices.now (names_view c.args.cut.now.names.items) (names_view c.as_slice-names.result.now)
    c.entries-limits.ensures.value (ap names_view c.as_slice-names.ensures.value) (totals_view c.as_slice.result.now) (subst (λ ts. AreTotals c.args.old.now ts) (sym (ap totals_view c.as_slice.ensures.value)) c.in_ok-totals.ensures)
    (sym c.if-not-are_listed.ensures) (c.if-outnumbers.ensures.0 refl) in
    deficient_fits_none c.args.cut.now.kind c.args.old.now rule c.args.limits.now c.args.prices.now (names_view c.args.cut.now.names.items) c.entries-limits.ensures.lawful deficient fits

pub returns-clause-refused : goal.returns-clause-refused
returns-clause-refused c = λ _. (
  refl,
  refuse_few c.args.cut.now.kind c.args.old.now c.args.limits.now (limits_view c.entries-limits.result.now) c.args.prices.now (names_view c.args.cut.now.names.items) (names_view c.as_slice-names.result.now)
      c.entries-limits.ensures.value (ap names_view c.as_slice-names.ensures.value) (totals_view c.as_slice.result.now) (subst (λ ts. AreTotals c.args.old.now ts) (sym (ap totals_view c.as_slice.ensures.value)) c.in_ok-totals.ensures)
      (λ more. false≢true (c.if-outnumbers.ensures.1 more)),
)

pub returns-in_err-totals-clause-unlisted : goal.returns-in_err-totals-clause-unlisted
returns-in_err-totals-clause-unlisted c = λ unlisted. absurd (unlisted (listed_here c.args.cut.now.kind c.args.old.now c.args.limits.now (limits_view c.entries-limits.result.now) c.args.prices.now (names_view c.args.cut.now.names.items) (names_view c.as_slice-names.result.now)
    c.entries-limits.ensures.value (ap names_view c.as_slice-names.ensures.value) (sym c.if-not-are_listed.ensures)))

pub returns-then-outnumbers-clause-unlisted : goal.returns-then-outnumbers-clause-unlisted
returns-then-outnumbers-clause-unlisted c = λ unlisted. absurd (unlisted (listed_here c.args.cut.now.kind c.args.old.now c.args.limits.now (limits_view c.entries-limits.result.now) c.args.prices.now (names_view c.args.cut.now.names.items) (names_view c.as_slice-names.result.now)
    c.entries-limits.ensures.value (ap names_view c.as_slice-names.ensures.value) (sym c.if-not-are_listed.ensures)))

pub returns-clause-unlisted : goal.returns-clause-unlisted
returns-clause-unlisted c = λ unlisted. absurd (unlisted (listed_here c.args.cut.now.kind c.args.old.now c.args.limits.now (limits_view c.entries-limits.result.now) c.args.prices.now (names_view c.args.cut.now.names.items) (names_view c.as_slice-names.result.now)
    c.entries-limits.ensures.value (ap names_view c.as_slice-names.ensures.value) (sym c.if-not-are_listed.ensures)))
