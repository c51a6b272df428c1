use Rattle.std.proofs.Common.{◌≡◌, ◌≢◌, ◌++◌, List, ℕ, subst, MatchOption}
use Rattle.book_core.specs.Printing.{line_text}
use Rattle.note_tallies.specs.File.{Head, head_shape}
use Rattle.note_tallies.specs.Reading.{IsHead}
use Rattle.note_tallies.proofs.Told.{reads}
use Rattle.note_tallies.proofs.file_reading.read_tally.Goals as goal

pub returns-in-Some-2-clause-exact : goal.returns-in-Some-2-clause-exact
returns-in-Some-2-clause-exact c =
    let rest = c.in-Some.rest.now in
    let parts = subst (λ o. MatchOption o ((h : Head) (more : List ℕ) → IsHead h → rest ≢ line_text (head_shape h) ++ more) (λ r. IsHead r.0 × (rest ≡ line_text (head_shape r.0) ++ r.1.now))) c.in-Some-2.is c.in_ok-take_head.ensures in
    reads c.in-Some-2.head c.args.bytes.now rest c.in-Some-2.rest.now c.with_counts.result c.in-Some.ensures parts.1 parts.0 c.with_counts.ensures
