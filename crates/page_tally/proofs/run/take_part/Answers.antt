use Rattle.std.proofs.Common.{◌≡◌, ◌≤◌, ◌+◌, ◌∷◌, length, sym, ap, ◌∙◌, arith}
use Rattle.std.proofs.lemmas.Bool.{leb-true}
use Rattle.book_core.specs.Book.{most_inputs}
use Rattle.page_tally.specs.Points.{points_if}
use Rattle.page_tally.proofs.Parted.{part_runs}
use Rattle.page_tally.proofs.run.take_part.Goals as goal

pub returns-clause-run : goal.returns-clause-run
returns-clause-run g c =
    let p = c.in_ok-part.part in
    let part = c.in_ok-part.ensures in
    let xs = p.first.now ∷ part.0 in
    let size : p.inputs ≡ length xs = omega (arith, part.1.inputs) in
    let points = c.as_slice.ensures.value ∙ (part.1.points ∙ ap (λ o. points_if o xs) c.total.ensures.total) in
    let room : c.args.counter.now.inputs + p.inputs ≤ most_inputs = leb-true _ _ (sym c.if-not-has_room_for.ensures) in
    (xs, part_runs c.args.lines.now.rest.now c.total.result part.0 p c.args.last.now c.args.lines.now.taken _ c.args.counter.now _ part.1 (sym c.if-not-is_below.ensures) room (omega arith) (c.add.ensures xs size points))
