use Rattle.std.proofs.Common.{◌≡◌, ◌<◌, Some, true, false, rules, subst}
use Rattle.bucket_core.specs.Point.{point_of}
use Rattle.book_core.specs.Page.{page_eq}
use Rattle.note_lines.specs.Reading.{Reads}
use Rattle.note_tallies.proofs.Refused.{note_other, note_own}
use Rattle.note_tallies.proofs.tally.LineTally.place_of_input.Goals as goal

pub returns-then-ne-clause-place : goal.returns-then-ne-clause-place
returns-then-ne-clause-place c =
    let t = c.args.self.now in
    let note = c.in-Some.note in
    let reads : Reads c.args.line.now (Some note) = subst (Reads c.args.line.now) c.in-Some.is c.in_ok-note.ensures.exact in
    let page : page_eq note.page t.page ≡ false = search rules in
    note_other t c.args.line.now note reads.0 reads.1 page

pub returns-clause-place : goal.returns-clause-place
returns-clause-place c =
    let t = c.args.self.now in
    let note = c.in-Some.note in
    let reads : Reads c.args.line.now (Some note) = subst (Reads c.args.line.now) c.in-Some.is c.in_ok-note.ensures.exact in
    let page : page_eq note.page t.page ≡ true = search rules in
    let here : c.point.result ≡ point_of t.total note.input = search rules in
    let below : c.point.result < t.total = search rules in
    note_own t c.args.line.now note c.point.result reads.0 reads.1 page here below
