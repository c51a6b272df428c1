use Rattle.std.proofs.Common.{[], get_or, ◌∙◌, ap, sym}
use Rattle.std.proofs.lemmas.List.{get_or_default}
use Rattle.std.specs.BTreeMap.{is_at}
use Rattle.std.specs.BTreeSet.{contains}
use Rattle.std.specs.Cmp.Lexicographic.{slice_cmp}
use Rattle.std.specs.List.{list_any}
use Rattle.std.specs.Ordering.{nat_cmp}
use Rattle.member_names.proofs.SecondNames.{nameless, by_names, one_met, was_new}
use Rattle.member_names.proofs.twins.twin_of_many.Goals as goal

pub loop-name-init : goal.loop-name-init
loop-name-init c =
    by_names (contains (λ x y. slice_cmp nat_cmp x.now y.now) c.new-met.result) [] (λ q. ap (λ ks. list_any (is_at (λ x. slice_cmp nat_cmp q.now x.now)) ks) c.new-met.ensures.empty) c.args.names.now

pub loop-name-preserved : goal.loop-name-preserved
loop-name-preserved c =
    let xs = c.args.names.now in
    let i = c.loop-name.name-index in
    let met = contains (λ x y. slice_cmp nat_cmp x.now y.now) c.loop-name.met in
    let after = contains (λ x y. slice_cmp nat_cmp x.now y.now) c.insert.new.self in
    let m = get_or xs i nameless in
    sym (one_met met after xs i m c.loop-name-test.true (get_or_default xs i nameless m c.loop-name-test.true) (was_new c.in_ok-insert.field-0 (met m) c.in_ok-insert.ensures.added c.if-not-branch.false) c.in_ok-insert.ensures.updates.0)
    ∙ c.loop-name.invariant
