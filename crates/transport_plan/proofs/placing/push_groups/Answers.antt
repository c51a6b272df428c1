-- The group that is known is that of the number that is known.
use Rattle.std.proofs.Common.{List}
use Rattle.std.specs.Map.{keys_of}
use Rattle.transport_core.specs.Groups.{GroupKey, rows_view}
use Rattle.transport_plan.proofs.Places.{adds_none, adds_more}
use Rattle.transport_plan.proofs.placing.push_groups.Goals as goal

pub loop-count-init : goal.loop-count-init
loop-count-init c = record {
  inside = c.group_of-group.ensures.within;
  known = c.group_of-group.ensures.place;
  added = adds_none (keys_of (rows_view c.args.groups.now)) c.args.name.now c.args.counts.now c.args.points.now.items;
}

pub loop-count-preserved : goal.loop-count-preserved
loop-count-preserved c =
    let l = c.loop-count in
    let keys : List GroupKey = keys_of (rows_view c.args.groups.now) in
    let beside = c.group_beside-group in
    record {
      inside = beside.ensures.within;
      known = beside.ensures.place;
      added = adds_more keys c.args.name.now c.args.counts.now l.count-index beside.result c.args.points.now.items l.points.items c.push.new.self.items l.invariant.added beside.ensures.place c.in_ok-push.ensures.items;
    }
