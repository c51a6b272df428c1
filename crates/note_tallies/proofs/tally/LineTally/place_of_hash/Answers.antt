use Rattle.std.proofs.Common.{◌≡◌, ◌<◌, Some, true, false, rules, subst}
use Rattle.bucket_core.specs.Point.{scale}
use Rattle.book_core.specs.Page.{page_eq}
use Rattle.note_lines.specs.Reading.{ReadsHashed}
use Rattle.note_tallies.proofs.Refused.{hash_other, hash_own}
use Rattle.note_tallies.proofs.tally.LineTally.place_of_hash.Goals as goal

pub returns-then-ne-clause-place : goal.returns-then-ne-clause-place
returns-then-ne-clause-place c =
    let t = c.args.self.now in
    let note = c.in-Some.note in
    let reads : ReadsHashed c.args.line.now (Some note) = subst (ReadsHashed c.args.line.now) c.in-Some.is c.in_ok-note.ensures.exact in
    let page : page_eq note.page t.page ≡ false = search rules in
    hash_other t c.args.line.now note reads.0 reads.1 page

pub returns-clause-place : goal.returns-clause-place
returns-clause-place c =
    let t = c.args.self.now in
    let note = c.in-Some.note in
    let reads : ReadsHashed c.args.line.now (Some note) = subst (ReadsHashed c.args.line.now) c.in-Some.is c.in_ok-note.ensures.exact in
    let page : page_eq note.page t.page ≡ true = search rules in
    let here : c.scale.result ≡ scale t.total note.hash = search rules in
    let below : c.scale.result < t.total = search rules in
    hash_own t c.args.line.now note c.scale.result reads.0 reads.1 page here below
