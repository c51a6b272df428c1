use Rattle.std.proofs.Common.{◌≡◌, leb, ap, ◌∙◌, rules, of_calls}
use Rattle.std.proofs.lemmas.Fn.{always_returns_same}
use Rattle.bucket_core.specs.Rule.{ends_from, entry_at}
use Rattle.bucket_core.proofs.Ends.{ends_part, entry_at_part, entry_at-lt, end_of-entry_at, at_here, at_run}
use Rattle.bucket_core.proofs.rule.Rule.entry_at.Goals as goal

sums_are : (c : goal.After-partition_point) → c.deref.result.now ≡ ends_from 0 c.args.self.now
sums_are c = c.deref.ensures.value ∙ (c.self.invariant.ends ∙ ap (ends_from 0) c.self.view_is)

found : (c : goal.After-partition_point) → c.partition_point.result ≡ entry_at c.args.self.now c.args.p
found c =
    let sums = sums_are c in
    let calls = always_returns_same _ _ _ (λ a r f k. search (rules, of_calls)) in
    entry_at_part c.args.self.now c.args.p c.partition_point.result (rw (← sums) c.partition_point.ensures.bound)
    (rw sums at (c.partition_point.ensures.partitioned (λ end. leb end c.args.p) calls (rw sums (ends_part c.args.self.now c.args.p))))

pub returns-clause-value : goal.returns-clause-value
returns-clause-value c = found c

pub returns-clause-within : goal.returns-clause-within
returns-clause-within c = rw (found c) (entry_at-lt c.args.self.now c.args.p c.requires)

pub returns-clause-below : goal.returns-clause-below
returns-clause-below c = rw (found c) (end_of-entry_at c.args.self.now c.args.p c.requires)

pub returns-clause-name : goal.returns-clause-name
returns-clause-name c = rw (found c) (at_here c.args.self.now c.args.p c.requires)

pub returns-clause-run : goal.returns-clause-run
returns-clause-run c = rw (found c) (at_run c.args.self.now c.args.p c.requires)
