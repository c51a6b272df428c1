-- Two parts of a stretch are dealt one behind the other.
use Rattle.transport_plan.proofs.Dealt.{deals_both}
use Rattle.transport_plan.proofs.dealing.deal_parts.Goals as goal

pub returns-then-name-stretch-2 : goal.returns-then-name-stretch-2
returns-then-name-stretch-2 c =
    let first = c.deal_run in
    let second = c.deal_run-then-name-stretch-2 in
    deals_both c.args.names c.args.stretch.now.group c.args.start _ _ c.args.left.now first.new.left second.new.left c.args.points.now first.new.points second.new.points first.ensures second.ensures

pub returns-else-name-stretch : goal.returns-else-name-stretch
returns-else-name-stretch c =
    let first = c.deal_run-else-name-stretch in
    let second = c.deal_run-else-name-stretch-2 in
    deals_both c.args.names c.args.stretch.now.group c.args.start _ _ c.args.left.now first.new.left second.new.left c.args.points.now first.new.points second.new.points first.ensures second.ensures
