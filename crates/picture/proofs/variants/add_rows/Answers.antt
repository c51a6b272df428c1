use Rattle.std.proofs.Common.{◌+◌, drop}
use Rattle.price_core.specs.Limits.{limit_view, limits_view}
use Rattle.transport_core.specs.Certificate.{beta_view}
use Rattle.picture.specs.Changes.{variant_end, variant_told}
use Rattle.picture.specs.Told.{told}
use Rattle.picture.proofs.Remaining.{all_told, at_foot, ended, first_row, front}
use Rattle.picture.proofs.variants.add_rows.Goals as goal

pub loop-limit-preserved : goal.loop-limit-preserved
loop-limit-preserved c =
    let l = c.loop-limit in
    let change = c.args.change.now in
    let limits = c.args.limits.now in
    let item = c.limit-item.result in
    first_row (variant_told (limits_view limits) change.old.now change.new.now (beta_view change.certificate.now.beta.items)) variant_end l.row (limits_view (drop l.limit-index limits)) (told l.elements.items) _ _
    (limit_view item) (limits_view (drop (l.limit-index + 1) limits)) (told c.add_variant.new.elements.items) c.in_ok-row.row
    (front limit_view limits l.limit-index item c.loop-limit-test.true c.limit-item.is) c.in_ok-row.ensures.told c.in_ok-row.ensures.below l.invariant

pub returns-clause-told : goal.returns-clause-told
returns-clause-told c =
    let l = c.loop-limit in
    let change = c.args.change.now in
    let limits = c.args.limits.now in
    all_told (variant_told (limits_view limits) change.old.now change.new.now (beta_view change.certificate.now.beta.items)) variant_end l.row (limits_view (drop l.limit-index limits)) (told l.elements.items) _ _ (ended limit_view limits l.limit-index c.loop-limit-test.false) l.invariant

pub returns-clause-below : goal.returns-clause-below
returns-clause-below c =
    let l = c.loop-limit in
    let change = c.args.change.now in
    let limits = c.args.limits.now in
    at_foot (variant_told (limits_view limits) change.old.now change.new.now (beta_view change.certificate.now.beta.items)) variant_end l.row (limits_view (drop l.limit-index limits)) (told l.elements.items) _ _ (ended limit_view limits l.limit-index c.loop-limit-test.false) l.invariant
