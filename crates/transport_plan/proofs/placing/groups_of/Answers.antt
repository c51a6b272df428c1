-- The points up to the end of an entry have their groups.
use Rattle.std.proofs.Common.{◌≤◌, ◌∙◌, length, arith}
use Rattle.std.specs.Map.{keys_of}
use Rattle.transport_core.specs.Groups.{rows_view}
use Rattle.transport_plan.proofs.Places.{length-part, run_listed, run_placed}
use Rattle.transport_plan.proofs.placing.groups_of.Goals as goal

pub push_groups-requires-clause-stand : goal.push_groups-requires-clause-stand
push_groups-requires-clause-stand c =
    let rule = c.args.old.now in
    let counts = c.args.counts.now in
    let start = c.loop-start.start in
    let end = c.end_of-end.result in
    let order : start ≤ end = omega (arith, c.entry_at-entry.ensures.below, c.end_of-end.ensures.value) in
    let inside : end ≤ length counts = omega (arith, c.end_of-end.ensures.bound, c.requires.whole) in
    run_listed rule counts start end order inside c.end_of-end.ensures.bound c.entry_name.result.now (c.entry_at-entry.ensures.name ∙ c.entry_name.ensures.value)
    (λ q low high. c.entry_at-entry.ensures.run q low (omega (arith, high, c.end_of-end.ensures.value))) (rows_view c.args.groups.now) c.requires.sizes

pub loop-start-preserved : goal.loop-start-preserved
loop-start-preserved c =
    let rule = c.args.old.now in
    let counts = c.args.counts.now in
    let start = c.loop-start.start in
    let end = c.end_of-end.result in
    let order : start ≤ end = omega (arith, c.entry_at-entry.ensures.below, c.end_of-end.ensures.value) in
    let inside : end ≤ length counts = omega (arith, c.end_of-end.ensures.bound, c.requires.whole) in
    let adds = c.in_ok-push_groups.ensures in
    record {
      within = omega (arith, c.end_of-end.ensures.bound, c.total-total.ensures.value);
      many = omega (arith, adds.grown, length-part counts start end order inside, c.loop-start.invariant.many, order);
      grouped = λ q below.
          run_placed rule counts start end order inside c.end_of-end.ensures.bound c.entry_name.result.now (c.entry_at-entry.ensures.name ∙ c.entry_name.ensures.value)
          (λ p low high. c.entry_at-entry.ensures.run p low (omega (arith, high, c.end_of-end.ensures.value))) (keys_of (rows_view c.args.groups.now)) c.loop-start.points.items c.push_groups.new.points.items
          c.loop-start.invariant.many c.loop-start.invariant.grouped adds q below;
    }
