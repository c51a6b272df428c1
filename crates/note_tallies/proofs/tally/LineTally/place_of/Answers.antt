use Rattle.std.proofs.Common.{◌≡◌, ◌<◌, true, false, rules, ap, subst}
use Rattle.bucket_core.specs.Point.{point_of}
use Rattle.book_core.specs.Page.{PageName}
use Rattle.note_lines.specs.Hashed.{has_hash}
use Rattle.note_lines.specs.Note.{IsNote}
use Rattle.note_tallies.specs.Tally.{line_on, noted_on}
use Rattle.note_tallies.specs.Lines.{Tallied}
use Rattle.note_tallies.proofs.Refused.{ends_so, matched_hash, matched_input, own_input}
use Rattle.note_tallies.proofs.tally.LineTally.place_of.Goals as goal

pub returns-in-Some-clause-place : goal.returns-in-Some-clause-place
returns-in-Some-clause-place c =
    let t = c.args.self.now in
    let line = c.args.line.now in
    let input = c.in-Some.input.now in
    let is : IsNote (noted_on t.page input) × (line ≡ line_on t.page input) =
    subst (λ (page : PageName). IsNote (noted_on page input) × (line ≡ line_on page input)) (ap (λ (t : Tallied). t.page) c.self.view_is) c.in-Some.ensures in
    let here : c.point.result ≡ point_of t.total input = search rules in
    let below : c.point.result < t.total = search rules in
    own_input t line input c.point.result is here below

pub returns-in-Some-clause-unended : goal.returns-in-Some-clause-unended
returns-in-Some-clause-unended c = λ unended. absurd (ends_so c.args.line.now _ c.in-Some.ensures.1 unended)

pub returns-then-has_hash-clause-place : goal.returns-then-has_hash-clause-place
returns-then-has_hash-clause-place c =
    let kind : has_hash c.args.line.now ≡ true = search rules in
    matched_hash c.args.self.now c.args.line.now c.place_of_hash.result kind c.place_of_hash.ensures.place

pub returns-else-has_hash-clause-place : goal.returns-else-has_hash-clause-place
returns-else-has_hash-clause-place c =
    let kind : has_hash c.args.line.now ≡ false = search rules in
    matched_input c.args.self.now c.args.line.now c.place_of_input.result kind c.place_of_input.ensures.place
