use Rattle.std.proofs.Common.{option_map}
use Rattle.flagops_files.specs.Question.{question_view}
use Rattle.plan_text.specs.Answer.{planned_view}
use Rattle.flagops_pictures.proofs.Posing.{shown_step}
use Rattle.flagops_pictures.proofs.Wanted.{want_told}
use Rattle.flagops_pictures.proofs.checking.checked_picture.Goals as goal

pub drawn-requires-clause-shown : goal.drawn-requires-clause-shown
drawn-requires-clause-shown g c =
    let q = question_view c.args.question.now in
    let shown = shown_step (option_map (λ m. m.number) c.args.refine) (planned_view c.args.planned.now) q.flags q.request q.evidence c.in_ok-verified.ensures.shown in
    λ κs within. rw (c.asked_of-asked.ensures.refine, c.asked_of-asked.ensures.flags, c.asked_of-asked.ensures.request, c.asked_of-asked.ensures.evidence) shown

pub returns-in-Ok : goal.returns-in-Ok
returns-in-Ok g c = record {
  right = c.in_ok-verified.ensures.told;
  shown = c.in_ok-verified.ensures.shown;
  drawn = rw (c.asked_of-asked.ensures.refine, c.asked_of-asked.ensures.flags, c.asked_of-asked.ensures.request, c.asked_of-asked.ensures.evidence) at c.in-Ok.ensures;
}

pub returns-in-Err : goal.returns-in-Err
returns-in-Err g c =
    let q = question_view c.args.question.now in
    want_told (option_map (λ m. m.number) c.args.refine) (planned_view c.args.planned.now) q.flags q.request q.evidence
