use Rattle.std.proofs.Common.{ℕ, IfSome, is_some, option_map, subst, unwrap_or}
use Rattle.file_diagnostics.specs.Named.{Names}
use Rattle.flagops_files.specs.Question.{question_view}
use Rattle.flagops_shell.specs.Diagnostic.{Says}
use Rattle.flagops_shell.specs.declared.outcome.Outcome.{Outcome}
use Rattle.flagops_rollouts.specs.Beside.{AreBehind}
use Rattle.flagops_rollouts.specs.Doubts.{NamesDoubted}
use Rattle.flagops_rollouts.specs.Finer.{TellsFiner, finer_parts}
use Rattle.flagops_rollouts.proofs.Edits.{planned}
use Rattle.flagops_rollouts.proofs.Parts.{says_result}
use Rattle.flagops_rollouts.proofs.Points.{printed, words_still}
use Rattle.flagops_rollouts.proofs.Said.{plan_said}
use Rattle.flagops_rollouts.proofs.planning.answer.Goals as goal
use Rattle.plan_text.specs.Answer.{planned_view}

pub returns-clause-edit : goal.returns-clause-edit
returns-clause-edit g c =
    let request = c.args.request.now in
    let q = question_view c.args.question.now in
    let m = unwrap_or (option_map (λ m. m.number) c.args.refine) 1 in
    let answer = planned_view c.in-Ok.planned in
    let shown = c.with_points-remark.result in
    planned request q m answer c.args.explain shown c.printed-outcome.result
    (words_still request q m answer c.args.explain (is_some c.in_ok-noted.noted) c.told-words.result shown c.told-words.ensures.told c.told-words.ensures.edit c.with_points-remark.ensures.more) c.printed-outcome.ensures.reads_back
    c.printed-outcome.ensures.remark

pub returns-clause-finer : goal.returns-clause-finer
returns-clause-finer g c =
    let request = c.args.request.now in
    let answer = planned_view c.in-Ok.planned in
    let shown = c.with_points-remark.result in
    let told = subst (λ (m : ℕ). IfSome shown (Says (TellsFiner request m answer))) c.factor_of.ensures.value c.with_points-remark.ensures.finer in
    printed request (unwrap_or (option_map (λ m. m.number) c.args.refine) 1) answer shown c.printed-outcome.result told c.printed-outcome.ensures.reads_back c.printed-outcome.ensures.remark

pub returns-clause-notes : goal.returns-clause-notes
returns-clause-notes g c =
    let request = c.args.request.now in
    let book = c.args.book.now in
    says_result (λ (o : Outcome). o.remark) (NamesDoubted request book) c.with_points-remark.result c.printed-outcome.result (c.with_points-remark.ensures.notes book c.told-words.ensures.notes) c.printed-outcome.ensures.remark

pub returns-clause-parts : goal.returns-clause-parts
returns-clause-parts g c =
    let request = c.args.request.now in
    let answer = planned_view c.in-Ok.planned in
    let words = c.told-words.result in
    let shown = c.with_points-remark.result in
    let behind = subst (λ (m : ℕ). AreBehind (finer_parts request m answer) words shown) c.factor_of.ensures.value c.with_points-remark.ensures.beside in
    plan_said request c.args.book.now (question_view c.args.question.now) (unwrap_or (option_map (λ m. m.number) c.args.refine) 1) c.args.explain answer c.in_ok-noted.noted words shown c.printed-outcome.result c.in_ok-noted.ensures.parts
    c.told-words.ensures.beside behind c.printed-outcome.ensures.reads_back c.printed-outcome.ensures.remark
