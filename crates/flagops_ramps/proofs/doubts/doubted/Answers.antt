use Rattle.std.proofs.Common.{◌∙◌, ℕ, List, option_map, subst, ap}
use Rattle.std.specs.Result.{result_ok}
use Rattle.flagops_files.specs.Question.{question_view}
use Rattle.price_core.specs.Request.{asked_of}
use Rattle.ramp.specs.Steps.{requests_view}
use Rattle.flagops_rollouts.specs.Beside.{Tells}
use Rattle.flagops_rollouts.specs.Doubts.{doubt_in, recorded_doubt, recorded_parts}
use Rattle.flagops_rollouts.specs.Foreign.{is_foreign}
use Rattle.flagops_rollouts.specs.Unrecorded.{is_unrecorded, page_asked}
use Rattle.flagops_rollouts.proofs.Parts.{tells_both}
use Rattle.flagops_rollouts.proofs.Said.{recorded_told}
use Rattle.flagops_ramps.specs.Doubts.{first_question, first_request, steps_parts}
use Rattle.flagops_ramps.proofs.Diagnosed.{for_request}
use Rattle.flagops_ramps.proofs.doubts.doubted.Goals as goal

pub returns-clause-notes : goal.returns-clause-notes
returns-clause-notes g c =
    let a = c.args.asked.now in
    c.first_of.ensures.notes a.steps.now a.book.now c.in_ok-unread.ensures.notes (for_request a.steps.now a.book.now c.in_ok-recorded.recorded c.in_ok-recorded.ensures.notes)

pub returns-clause-parts : goal.returns-clause-parts
returns-clause-parts g c =
    let a = c.args.asked.now in
    let q = question_view c.args.question.now in
    let first = first_question q (requests_view c.args.steps.now) in
    let unread = subst (λ (b : List ℕ). Tells (steps_parts a.steps.now b) c.in_ok-unread.unread) c.bytes.ensures c.in_ok-unread.ensures.parts in
    let doubt = c.in_ok-recorded.ensures.doubt ∙ ap (λ (r : List ℕ). doubt_in q.evidence (page_asked q.flags (result_ok (asked_of r)))) c.first_request-request.ensures in
    tells_both (steps_parts a.steps.now q.request) (recorded_parts a.book.now (recorded_doubt (is_unrecorded first) (is_foreign first))) c.in_ok-unread.unread (option_map (λ d. d.remark) c.in_ok-recorded.recorded)
    (option_map (λ d. d.remark) c.first_of.result) unread (recorded_told a.book.now (is_unrecorded first) (is_foreign first) c.in_ok-recorded.recorded doubt c.in_ok-recorded.ensures.notes) c.first_of.ensures.both
