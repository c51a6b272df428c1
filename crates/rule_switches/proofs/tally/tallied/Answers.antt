use Rattle.std.proofs.Common.{◌≡◌, ◌+◌, ℕ, sym, ap, subst, arith}
use Rattle.rule_switches.specs.Counting.{Adds, names_at}
use Rattle.rule_switches.proofs.Tallied.{one_before}
use Rattle.rule_switches.proofs.tally.tallied.Goals as goal

pub loop-count-preserved : goal.loop-count-preserved
loop-count-preserved c =
    let l = c.loop-count in
    let s = l.counting in
    let t = c.add_number.new.self in
    let count = c.from-in-loop-count.result in
    let adds : Adds s t (names_at s l.count-index) count = subst (λ (n : ℕ). Adds s t (names_at s n) count) l.invariant.0 c.add_number.ensures in
    (omega (arith, l.invariant.0), one_before c.args.before.now c.args.after.now c.args.total c.args.counts.now l.count-index s t count c.loop-count-test.true c.from-in-loop-count.ensures l.invariant.1 adds)
