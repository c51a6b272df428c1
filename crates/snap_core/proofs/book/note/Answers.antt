use Rattle.std.proofs.Common.{◌≢◌}
use Rattle.book_core.specs.declared.fault.BookFault.TheVariants.{WantOfMemory}
use Rattle.snap_core.specs.Event.{notes, refused}
use Rattle.snap_core.specs.WorldView.{world_view}
use Rattle.snap_core.specs.declared.event.Refusal.TheVariants.{Book}
use Rattle.snap_core.proofs.Booked.{note_done, note_refused}
use Rattle.snap_core.proofs.Stepped.{told}
use Rattle.snap_core.proofs.book.note.Goals as goal

pub returns-in-Ok-clause-steps : goal.returns-in-Ok-clause-steps
returns-in-Ok-clause-steps c = note_done (world_view c.args.world.now) c.args.seat c.args.page.now c.args.input.now c.note.new.self c.in-Ok.noted c.if-world.false c.if-seat-world.false c.in-Ok.ensures.exact c.in-Ok.ensures.noted

pub returns-in-Err-clause-steps : goal.returns-in-Err-clause-steps
returns-in-Err-clause-steps c =
    let old = world_view c.args.world.now in
    told old (record old { book = c.note.new.self }) (notes c.args.seat c.args.page.now c.args.input.now) (refused (Book c.in-Err.fault)) (c.in-Err.fault ≢ WantOfMemory) c.refused_by_book.result c.refused_by_book.ensures.answer c.refused_by_book.ensures.not_want
    (λ real. note_refused old c.args.seat c.args.page.now c.args.input.now c.note.new.self c.in-Err.fault c.if-world.false c.if-seat-world.false c.in-Err.ensures.refused (c.in-Err.ensures.exact real))
