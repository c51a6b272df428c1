-- One more point is dealt behind the others.
use Rattle.transport_plan.proofs.Dealt.{deals_both}
use Rattle.transport_plan.proofs.dealing.deal_run.Goals as goal

pub loop-point-preserved : goal.loop-point-preserved
loop-point-preserved c =
    let l = c.loop-point in
    deals_both c.args.names c.args.stretch.now.group c.args.start l.point _ c.args.left.now l.left c.deal_point.new.left c.args.points.now l.points c.deal_point.new.points l.invariant c.deal_point.ensures
