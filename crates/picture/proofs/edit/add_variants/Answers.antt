use Rattle.std.proofs.Common.{◌+◌, drop}
use Rattle.price_core.specs.Limits.{limit_view, limits_view}
use Rattle.picture.specs.Edits.{points_end, points_told}
use Rattle.picture.specs.Told.{told}
use Rattle.picture.proofs.Remaining.{all_told, at_foot, ended, first_row, front}
use Rattle.picture.proofs.edit.add_variants.Goals as goal

pub loop-limit-preserved : goal.loop-limit-preserved
loop-limit-preserved c =
    let l = c.loop-limit in
    let edited = c.args.edited.now in
    let names = c.args.names.now in
    let item = c.limit-item.result in
    first_row (points_told (limits_view names) edited.old.now edited.new.now) points_end l.row (limits_view (drop l.limit-index names)) (told l.elements.items) _ _
    (limit_view item) (limits_view (drop (l.limit-index + 1) names)) (told c.add_variant.new.elements.items) c.in_ok-row.row
    (front limit_view names l.limit-index item c.loop-limit-test.true c.limit-item.is) c.in_ok-row.ensures.told c.in_ok-row.ensures.below l.invariant

pub returns-clause-told : goal.returns-clause-told
returns-clause-told c =
    let l = c.loop-limit in
    let edited = c.args.edited.now in
    let names = c.args.names.now in
    all_told (points_told (limits_view names) edited.old.now edited.new.now) points_end l.row (limits_view (drop l.limit-index names)) (told l.elements.items) _ _ (ended limit_view names l.limit-index c.loop-limit-test.false) l.invariant

pub returns-clause-below : goal.returns-clause-below
returns-clause-below c =
    let l = c.loop-limit in
    let edited = c.args.edited.now in
    let names = c.args.names.now in
    at_foot (points_told (limits_view names) edited.old.now edited.new.now) points_end l.row (limits_view (drop l.limit-index names)) (told l.elements.items) _ _ (ended limit_view names l.limit-index c.loop-limit-test.false) l.invariant
