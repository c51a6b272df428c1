use Rattle.std.proofs.Common.{sym}
use Rattle.note_tallies.proofs.Refused.{has_place, mixed_refused, order_refused}
use Rattle.note_tallies.proofs.tally.LineTally.take.Goals as goal

pub returns-then-not-is_next-clause-refused : goal.returns-then-not-is_next-clause-refused
returns-then-not-is_next-clause-refused c =
    let t = c.args.self.now in
    let line = c.args.line.now in
    order_refused t line c.in-Some.place (has_place t line c.in_ok-place.field-0 c.in-Some.place c.in-Some.is c.in_ok-place.ensures.place) (sym c.if-not-is_next.ensures)

pub returns-then-not-is_alike-clause-refused : goal.returns-then-not-is_alike-clause-refused
returns-then-not-is_alike-clause-refused c =
    let t = c.args.self.now in
    let line = c.args.line.now in
    mixed_refused t line c.in-Some.place (has_place t line c.in_ok-place.field-0 c.in-Some.place c.in-Some.is c.in_ok-place.ensures.place) (sym c.if-not-is_next.ensures) (sym c.if-not-is_alike.ensures)
