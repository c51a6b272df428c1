use Rattle.std.proofs.Common.{option_map}
use Rattle.flagops_files.specs.Question.{question_view}
use Rattle.flagops_rollouts.specs.Doubts.{recorded_doubt, recorded_parts, request_parts}
use Rattle.flagops_rollouts.specs.Foreign.{is_foreign}
use Rattle.flagops_rollouts.specs.Unrecorded.{is_unrecorded}
use Rattle.flagops_rollouts.proofs.Doubting.{for_request}
use Rattle.flagops_rollouts.proofs.Parts.{tells_both}
use Rattle.flagops_rollouts.proofs.Said.{recorded_told}
use Rattle.flagops_rollouts.proofs.doubts.doubted.Goals as goal

pub first_of-requires-clause-recorded : goal.first_of-requires-clause-recorded
first_of-requires-clause-recorded g c = for_request _ _ _ c.in_ok-recorded.ensures.notes

pub returns-clause-parts : goal.returns-clause-parts
returns-clause-parts g c =
    let q = question_view c.args.question.now in
    let request = c.args.request.now in
    let book = c.args.book.now in
    tells_both (request_parts request q.request) (recorded_parts book (recorded_doubt (is_unrecorded q) (is_foreign q))) c.in_ok-unread.unread (option_map (λ d. d.remark) c.in_ok-recorded.recorded) (option_map (λ d. d.remark) c.first_of.result)
    c.in_ok-unread.ensures.parts (recorded_told book (is_unrecorded q) (is_foreign q) c.in_ok-recorded.recorded c.in_ok-recorded.ensures.doubt c.in_ok-recorded.ensures.notes) c.first_of.ensures.both
