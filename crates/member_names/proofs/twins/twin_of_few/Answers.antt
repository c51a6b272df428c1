use Rattle.std.proofs.Common.{◌+◌, ◌∙◌, [], get_or, take, sym, refl}
use Rattle.std.proofs.lemmas.List.{get_or_default}
use Rattle.member_names.proofs.SecondNames.{nameless, by_names, one_met, among, among_more}
use Rattle.member_names.proofs.twins.twin_of_few.Goals as goal

pub loop-i-init : goal.loop-i-init
loop-i-init c = by_names (among []) [] (λ q. refl) c.args.names.now

pub loop-i-preserved : goal.loop-i-preserved
loop-i-preserved c =
    let xs = c.args.names.now in
    let i = c.loop-i.i in
    let m = get_or xs i nameless in
    let is = get_or_default xs i nameless m c.loop-i-test.true in
    sym (one_met (among (take i xs)) (among (take (i + 1) xs)) xs i m c.loop-i-test.true is (sym c.if-is_among.ensures) (λ q. among_more xs i m q c.loop-i-test.true is)) ∙ c.loop-i.invariant
