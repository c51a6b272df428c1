-- the rows of each entry's points
use Rattle.std.proofs.Common.{◌<◌, ap, ◌∙◌, length, subst, arith}
use Rattle.std.specs.List.{slice_index}
use Rattle.bucket_core.specs.Rule.{end_of, total_weight}
use Rattle.transport_core.specs.Groups.{rows_view}
use Rattle.transport_core.specs.Rows.{CoversPoints}
use Rattle.transport_core.proofs.Tallied.{all_ended, covers_counts, ended_more, entry_here, entry_run}
use Rattle.transport_core.proofs.counted.counted_rows.Goals as goal
use Rattle.transport_core.proofs.counted.counted_rows.Goals.{then-point-end+in_ok-add_run, else-point-end}

pub loop-entry-preserved : goal.loop-entry-preserved
loop-entry-preserved c =
    let rule = c.args.rule.now in
    let loop = c.loop-entry in
    let p = loop.point in
    let end = c.end_of-end.result in
    let ends = c.end_of-end.ensures in
    elim c.if-point-end.branch [
      | then-point-end+in_ok-add_run w ↦
          let inside : p < total_weight rule = omega (arith, w.if-point-end.true, ends.bound) in
          let after : p < end_of rule loop.entry = omega (arith, w.if-point-end.true, ends.value) in
          rw (w.point-is, w.rows-is) (record {
            below = ends.bound;
            ended = ended_more rule p end loop.entry (omega (arith, w.if-point-end.true)) (omega (arith, ends.value)) loop.invariant.ended;
            covers = covers_counts rule c.args.counts.now p end w.entry_name.result.now (rows_view loop.rows.items) (rows_view w.add_run.new.rows.items) (omega (arith, w.if-point-end.true)) (omega (arith, ends.bound, c.requires)) (entry_here rule p loop.entry inside after loop.invariant.ended ∙ w.entry_name.ensures.value)
                (λ q low high. entry_run rule p loop.entry inside after loop.invariant.ended q low (omega (arith, high, ends.value))) loop.invariant.covers w.in_ok-add_run.ensures;
          })
      | else-point-end w ↦
          rw (w.point-is, w.rows-is) (record {
            below = loop.invariant.below;
            ended = ended_more rule p p loop.entry (omega arith) (omega (arith, w.if-point-end.false, ends.value)) loop.invariant.ended;
            covers = loop.invariant.covers;
          })
    ]

pub returns : goal.returns
returns c =
    let rule = c.args.rule.now in
    let loop = c.loop-entry in
    let all = all_ended rule loop.point loop.invariant.below (λ k below. loop.invariant.ended k (omega (arith, below, c.loop-entry-test.false, c.len-entry-end.ensures, ap length c.entries.ensures.value))) in
    subst (λ n. CoversPoints rule (slice_index c.args.counts.now) n (rows_view loop.rows.items)) all loop.invariant.covers
