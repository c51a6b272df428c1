-- the file was read before, so it has no fault
use Rattle.std.proofs.Common.{ap, sym, ◌∙◌}
use Rattle.book_core.specs.Book.{inputs_on}
use Rattle.book_core.specs.Counts.{counts_of}
use Rattle.page_tally.specs.Tally.{tally_of}
use Rattle.page_tally.proofs.Filed.{never_refused, tally_given}
use Rattle.page_tally.proofs.file.BookFile.counted.Goals as goal

pub unreachable-requires : goal.unreachable-requires
unreachable-requires g c =
    let s = c.self.inside in
    let bytes = c.as_slice.ensures.value in
    never_refused s.bytes.items c.args.page.now s.page c.args.total s.total s.counts.items c.in-Err.fault c.self.invariant (ap (λ bs. tally_of bs c.args.page.now c.args.total) (sym bytes) ∙ c.in-Err.ensures c.in_default.not-WantOfMemory)

pub returns-in-Ok : goal.returns-in-Ok
returns-in-Ok g c =
    let s = c.self.inside in
    let page = c.args.page.now in
    let total = c.args.total in
    let read = tally_given s.bytes.items page total c.in-Ok.counts.items c.requires.some (ap (λ bs. tally_of bs page total) (sym c.as_slice.ensures.value) ∙ c.in-Ok.ensures) in
    read.tally ∙ ap (λ book. counts_of (inputs_on book page) total) c.self.view_is
