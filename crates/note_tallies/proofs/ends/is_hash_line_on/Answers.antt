use Rattle.std.proofs.Common.{◌≡◌, Some, None, Bool, rules, subst}
use Rattle.book_core.specs.Page.{page_eq}
use Rattle.note_lines.specs.Reading.{ReadsHashed}
use Rattle.note_tallies.proofs.Lined.{is_hash_on}
use Rattle.note_tallies.proofs.ends.is_hash_line_on.Goals as goal

pub returns-in-Some : goal.returns-in-Some
returns-in-Some c =
    let line = c.args.line.now in
    let note = c.in-Some.note in
    let reads : ReadsHashed line (Some note) = subst (ReadsHashed line) c.in-Some.is c.in_ok-read_hashed_note.ensures.exact in
    let tells : c.eq.result ≡ page_eq note.page c.args.page.now = search rules in
    is_hash_on note c.args.page.now line c.eq.result reads.0 reads.1 tells
