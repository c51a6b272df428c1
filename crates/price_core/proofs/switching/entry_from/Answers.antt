use Rattle.std.proofs.Common.{ap, sym, ◌∙◌, subst, length, arith}
use Rattle.bucket_core.specs.Rule.{IsRun, end_of, entry_name}
use Rattle.bucket_core.proofs.Ends.{entry_at-lt, at_here, at_run}
use Rattle.price_core.proofs.Cursors.{entry_at-le, entry_past}
use Rattle.price_core.proofs.switching.entry_from.Goals as goal

pub end_of-requires : goal.end_of-requires
end_of-requires c = omega (arith, c.loop-entry.invariant, entry_at-lt c.args.rule.now c.args.point c.requires.inside)

pub overflow_add-entry : goal.overflow_add-entry
overflow_add-entry c =
    omega (arith, c.len-count.type_inv, c.len-count.ensures, ap length c.entries.ensures.value, c.loop-entry.invariant, entry_at-lt c.args.rule.now c.args.point c.requires.inside)

pub loop-entry-smaller : goal.loop-entry-smaller
loop-entry-smaller c = omega (arith, entry_past c.args.rule.now c.args.point c.loop-entry.entry c.requires.inside c.loop-entry.invariant (omega (arith, c.end_of.ensures.value, c.loop-entry-test.true)))

pub loop-entry-preserved : goal.loop-entry-preserved
loop-entry-preserved c = omega (arith, entry_past c.args.rule.now c.args.point c.loop-entry.entry c.requires.inside c.loop-entry.invariant (omega (arith, c.end_of.ensures.value, c.loop-entry-test.true)))

pub returns-clause-value : goal.returns-clause-value
returns-clause-value c = omega (arith, c.loop-entry.invariant, entry_at-le c.args.rule.now c.args.point c.loop-entry.entry (omega (arith, c.end_of.ensures.value, c.loop-entry-test.false)))

pub returns-clause-within : goal.returns-clause-within
returns-clause-within c = omega (arith, c.loop-entry.invariant, entry_at-lt c.args.rule.now c.args.point c.requires.inside)

pub returns-clause-name : goal.returns-clause-name
returns-clause-name c = at_here c.args.rule.now c.args.point c.requires.inside ∙ ap (entry_name c.args.rule.now) (sym (returns-clause-value c))

pub returns-clause-run : goal.returns-clause-run
returns-clause-run c = subst (λ i. IsRun c.args.rule.now c.args.point (end_of c.args.rule.now i)) (sym (returns-clause-value c)) (at_run c.args.rule.now c.args.point c.requires.inside)
