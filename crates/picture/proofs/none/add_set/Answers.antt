use Rattle.std.proofs.Common.{◌≡◌, ◌+◌, ◌++◌, ℕ, List, drop, string_bytes, subst}
use Rattle.bucket_core.specs.Rule.{names_view}
use Rattle.price_core.specs.Limits.{limits_view}
use Rattle.picture.specs.Told.{named_told, next_row, told}
use Rattle.picture.proofs.Remaining.{all_told, at_foot, ended, first_row, front}
use Rattle.picture.proofs.none.add_set.Goals as goal

pub loop-name-preserved : goal.loop-name-preserved
loop-name-preserved c =
    let l = c.loop-name in
    let names = c.args.names.now in
    let item = c.name-item.result in
    let added = subst (λ (name : List ℕ). told c.add_named.new.elements.items ≡ told l.elements.items ++ named_told (limits_view c.args.limits.now) l.row name) c.as_str.ensures.value c.in_ok-add_named.ensures in
    first_row (named_told (limits_view c.args.limits.now)) (λ z n. next_row z) l.row (names_view (drop l.name-index names)) (told l.elements.items) _ _
    (string_bytes item) (names_view (drop (l.name-index + 1) names)) (told c.add_named.new.elements.items) c.saturating_add-row.result
    (front string_bytes names l.name-index item c.loop-name-test.true c.name-item.is) added c.saturating_add-row.ensures l.invariant

pub returns-clause-told : goal.returns-clause-told
returns-clause-told c =
    let l = c.loop-name in
    let names = c.args.names.now in
    all_told (named_told (limits_view c.args.limits.now)) (λ z n. next_row z) l.row (names_view (drop l.name-index names)) (told l.elements.items) _ _ (ended string_bytes names l.name-index c.loop-name-test.false) l.invariant

pub returns-clause-below : goal.returns-clause-below
returns-clause-below c =
    let l = c.loop-name in
    let names = c.args.names.now in
    at_foot (named_told (limits_view c.args.limits.now)) (λ z n. next_row z) l.row (names_view (drop l.name-index names)) (told l.elements.items) _ _ (ended string_bytes names l.name-index c.loop-name-test.false) l.invariant
