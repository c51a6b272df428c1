use Rattle.std.proofs.Common.{leb, rules, of_calls}
use Rattle.std.proofs.lemmas.Fn.{always_returns_same}
use Rattle.bucket_core.proofs.Ends.{ends_part, entry_at_part}
use Rattle.logic_eval.proofs.literal.entry_at.Goals as goal

pub returns : goal.returns
returns c r sums =
    let calls = always_returns_same _ _ _ (λ a r f k. search (rules, of_calls)) in
    entry_at_part r c.args.point c.partition_point.result (rw (← sums) c.partition_point.ensures.bound)
    (rw sums at (c.partition_point.ensures.partitioned (λ end. leb end c.args.point) calls (rw sums (ends_part r c.args.point))))
