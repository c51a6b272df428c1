use Rattle.std.proofs.Common.{◌≡◌, Some, None, Bool, rules, subst}
use Rattle.book_core.specs.Page.{page_eq}
use Rattle.note_lines.specs.Reading.{Reads}
use Rattle.note_tallies.proofs.Lined.{is_on, no_input}
use Rattle.note_tallies.proofs.ends.is_line_on.Goals as goal

pub returns-in-None : goal.returns-in-None
returns-in-None c =
    let line = c.args.line.now in
    let none : Reads line None = subst (Reads line) c.in-None.is c.in_ok-read_note.ensures.exact in
    no_input c.args.page.now line c.is_hash_line_on.result none c.is_hash_line_on.ensures

pub returns-in-Some : goal.returns-in-Some
returns-in-Some c =
    let line = c.args.line.now in
    let note = c.in-Some.note in
    let reads : Reads line (Some note) = subst (Reads line) c.in-Some.is c.in_ok-read_note.ensures.exact in
    let tells : c.eq.result ≡ page_eq note.page c.args.page.now = search rules in
    is_on note c.args.page.now line c.eq.result reads.0 reads.1 tells
