use Rattle.std.proofs.Common.{rules, IsErrOf}
use Rattle.library_seat.specs.Early.{early_refusal}
use Rattle.library_seat.specs.View.{asked_view}
use Rattle.library_seat.proofs.NotEarly.{early_passed, not_early}
use Rattle.library_seat.proofs.seat.Seat.resolve_kept.Goals as goal

pub returns-clause-early : goal.returns-clause-early
returns-clause-early c = λ _. not_early (early_refusal (asked_view c.args.asked.now)) c.in_ok-question.question (λ e. IsErrOf c.give.result e) c.in_ok-question.ensures.early

pub returns-in_err-question-clause-early : goal.returns-in_err-question-clause-early
returns-in_err-question-clause-early c = λ _. early_passed _ (early_refusal (asked_view c.args.asked.now)) c.in_err-question.field-0.0 c.from_residual.result (search rules) c.in_err-question.ensures.early
