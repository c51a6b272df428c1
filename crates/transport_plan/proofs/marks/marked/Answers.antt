-- One name more, where it is marked.
use Rattle.std.proofs.Common.{Bool, false, ℕ, ap, ◌∙◌, get_or}
use Rattle.transport_plan.proofs.ListedPoints.{marked_yes, marked_no}
use Rattle.transport_plan.proofs.marks.marked.Goals as goal
use Rattle.transport_plan.proofs.marks.marked.Goals.{then-marks-place+in_ok-clone+in_ok-push, else-marks-place}

pub loop-place-preserved : goal.loop-place-preserved
loop-place-preserved c =
    let mark : ℕ → Bool = λ v. get_or c.args.marks.now v false in
    elim c.if-marks-place.branch [
      | then-marks-place+in_ok-clone+in_ok-push w ↦
          marked_yes c.args.limits.now mark c.loop-place.place c.index-limits-place.result c.loop-place.names.items c.if-marks-place.names.items c.loop-place-test.true c.index-limits-place.is c.loop-place.invariant w.in_ok-clone.field-0 w.if-marks-place.true w.in_ok-clone.ensures.cases
          (ap (λ v. v.items) w.names-is ∙ w.in_ok-push.ensures.items)
      | else-marks-place w ↦
          marked_no c.args.limits.now mark c.loop-place.place c.index-limits-place.result c.loop-place.names.items c.if-marks-place.names.items c.loop-place-test.true c.index-limits-place.is c.loop-place.invariant w.if-marks-place.false (ap (λ v. v.items) w.names-is)
    ]
