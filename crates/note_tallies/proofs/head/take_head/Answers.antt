use Rattle.std.proofs.Common.{◌≡◌, ◌≢◌, subst, MatchOption}
use Rattle.flag_text.specs.Printing.{text_of}
use Rattle.note_tallies.specs.File.{Head, head_shape}
use Rattle.note_tallies.specs.Reading.{IsHead}
use Rattle.note_tallies.proofs.FileHeads.{of_cut}
use Rattle.note_tallies.proofs.head.take_head.Goals as goal

pub returns-in-None : goal.returns-in-None
returns-in-None c = λ h more is same.
    let line = c.in-Some.line.now in
    let none : (h : Head) → IsHead h → line ≢ text_of (head_shape h) =
    subst (λ o. MatchOption o ((h : Head) → IsHead h → line ≢ text_of (head_shape h)) (λ h. IsHead h × (line ≡ text_of (head_shape h)))) c.in-None.is c.in_ok-read_head.ensures in
    none h is (of_cut h c.args.bytes.now line c.in-Some.rest.now more is c.in-Some.ensures.line c.in-Some.ensures.parts same)
