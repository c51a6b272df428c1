use Rattle.std.proofs.Common.{◌∙◌, ℕ, List, Option, ap, option_map, subst, sym}
use Rattle.std.specs.Result.{result_ok}
use Rattle.flagops_files.specs.Question.{question_view}
use Rattle.flagops_shell.specs.declared.refused.Remark.{Remark}
use Rattle.price_core.specs.Request.{asked_of}
use Rattle.flagops_rollouts.specs.Beside.{Tells}
use Rattle.flagops_rollouts.specs.Doubts.{doubt_in, doubt_parts, recorded_doubt, recorded_parts, request_parts}
use Rattle.flagops_rollouts.specs.Foreign.{is_foreign}
use Rattle.flagops_rollouts.specs.Unrecorded.{is_unrecorded, page_asked}
use Rattle.flagops_rollouts.proofs.Parts.{tells_both}
use Rattle.flagops_rollouts.proofs.Said.{recorded_told}
use Rattle.flagops_pictures.proofs.Diagnosed.{for_request, noted}
use Rattle.flagops_pictures.proofs.doubts.noted.Goals as goal

pub returns-clause-notes : goal.returns-clause-notes
returns-clause-notes g c =
    let a = c.args.asked.now in
    noted a.request.now a.book.now c.first_of.result c.remark_in.result c.remark_in.ensures.remark
    (c.first_of.ensures.notes a.request.now a.book.now c.in_ok-unread.ensures.notes (for_request a.request.now a.book.now c.in_ok-recorded.recorded c.in_ok-recorded.ensures.notes))

pub returns-clause-parts : goal.returns-clause-parts
returns-clause-parts g c =
    let a = c.args.asked.now in
    let q = question_view c.args.question.now in
    let doubt = c.in_ok-recorded.ensures.doubt ∙ ap (λ (r : List ℕ). doubt_in q.evidence (page_asked q.flags (result_ok (asked_of r)))) c.bytes-request.ensures in
    let told = recorded_told a.book.now (is_unrecorded q) (is_foreign q) c.in_ok-recorded.recorded doubt c.in_ok-recorded.ensures.notes in
    let all = tells_both (request_parts a.request.now q.request) (recorded_parts a.book.now (recorded_doubt (is_unrecorded q) (is_foreign q))) c.in_ok-unread.unread (option_map (λ d. d.remark) c.in_ok-recorded.recorded)
    (option_map (λ d. d.remark) c.first_of.result) c.in_ok-unread.ensures.parts told c.first_of.ensures.both in
    subst (λ (m : Option Remark). Tells (doubt_parts a.request.now a.book.now q) m) (sym c.remark_in.ensures.remark) all
