-- Each turn joins one more group.
use Rattle.min_cost_flow.proofs.JoinedSpans.{one_more}
use Rattle.min_cost_flow.proofs.initial.begin_spans.Goals as goal

pub loop-g-preserved : goal.loop-g-preserved
loop-g-preserved c = one_more c.args.groups.now c.args.names c.loop-g.g c.loop-g.spans c.widen.new.spans c.loop-g-test.true c.requires.variants c.loop-g.invariant c.widen.ensures
