use Rattle.std.proofs.Common.{Err, ap, ◌∙◌, arith}
use Rattle.book_share.proofs.Reaching.{accepted_one, long_one, refused_one}
use Rattle.book_share.proofs.reach.note_one.Goals as goal

pub returns-then-input-gt-INPUT_BYTES-clause-noted : goal.returns-then-input-gt-INPUT_BYTES-clause-noted
returns-then-input-gt-INPUT_BYTES-clause-noted g c = long_one c.args.page.now c.args.input.now c.args.seat.now c.args.refused.now (omega (arith, c.if-input-gt-INPUT_BYTES.true))

pub returns-in-Ok-clause-noted : goal.returns-in-Ok-clause-noted
returns-in-Ok-clause-noted g c =
    accepted_one c.args.seat.now.number c.args.page.now c.args.input.now c.in-Ok.field-0 c.args.seat.now c.note.new.seat c.args.refused.now
    (omega (arith, c.if-input-gt-INPUT_BYTES.false)) c.in-Ok.ensures.added

pub returns-in-Err-PageFull-clause-noted : goal.returns-in-Err-PageFull-clause-noted
returns-in-Err-PageFull-clause-noted g c =
    let told = c.note.ensures.full (c.in-Err-PageFull.is ∙ ap Err c.in-Err-PageFull.field-0-is) in
    refused_one c.args.page.now c.args.input.now c.args.seat.now c.note.new.seat c.args.refused.now
    (omega (arith, c.if-input-gt-INPUT_BYTES.false)) told.0 told.1
