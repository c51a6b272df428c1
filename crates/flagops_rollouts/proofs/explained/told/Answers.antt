use Rattle.std.proofs.Common.{Some, option_map, refl, sym, unwrap_or}
use Rattle.flagops_files.specs.Question.{question_view}
use Rattle.flagops_rollouts.specs.ByHand.{TellsEdit}
use Rattle.flagops_rollouts.proofs.Doubting.{of_request}
use Rattle.flagops_rollouts.proofs.Parts.{before_no, before_one, more_both}
use Rattle.flagops_rollouts.proofs.Points.{both_doubted, in_words}
use Rattle.flagops_rollouts.proofs.explained.told.Goals as goal
use Rattle.plan_text.specs.Answer.{planned_view}

pub returns-then-explain-clause-notes : goal.returns-then-explain-clause-notes
returns-then-explain-clause-notes g c =
    let request = c.args.request.now in
    let book = c.args.book.now in
    let words = c.explained-words.result in
    both_doubted request book (Some words) c.args.noted c.behind.result (of_request request book words c.explained-words.ensures.names) c.requires c.behind.ensures.both

pub returns-then-explain-clause-edit : goal.returns-then-explain-clause-edit
returns-then-explain-clause-edit g c = λ is.
    let words = c.explained-words.result in
    in_words c.args.request.now (question_view c.args.question.now) (unwrap_or (option_map (λ m. m.number) c.args.refine) 1) (planned_view c.args.planned.now) (Some words) c.behind.result refl c.explained-words.ensures.edit
    (more_both (Some words) c.args.noted c.behind.result c.behind.ensures.both)

pub returns-then-explain-clause-beside : goal.returns-then-explain-clause-beside
returns-then-explain-clause-beside g c =
    before_one c.args.explain (TellsEdit c.args.request.now (question_view c.args.question.now) (unwrap_or (option_map (λ m. m.number) c.args.refine) 1) (planned_view c.args.planned.now)) c.args.noted c.behind.result c.explained-words.result
    (sym c.if-explain.true) c.explained-words.ensures.edit c.behind.ensures.both

pub returns-else-explain-clause-beside : goal.returns-else-explain-clause-beside
returns-else-explain-clause-beside g c =
    before_no c.args.explain (TellsEdit c.args.request.now (question_view c.args.question.now) (unwrap_or (option_map (λ m. m.number) c.args.refine) 1) (planned_view c.args.planned.now)) c.args.noted (sym c.if-explain.false)
