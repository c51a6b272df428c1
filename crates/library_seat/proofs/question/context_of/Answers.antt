use Rattle.std.proofs.Common.{Err, ap}
use Rattle.library_seat.proofs.EarlyTexts.{early_context}
use Rattle.library_seat.proofs.question.context_of.Goals as goal

pub returns-in-Err-clause-early : goal.returns-in-Err-clause-early
returns-in-Err-clause-early c =
    early_context _ _ c.args.bytes.now c.in-Err.fault _ (ap Err c.of_context.ensures) c.in-Err.ensures.large c.in-Err.ensures.no_text
