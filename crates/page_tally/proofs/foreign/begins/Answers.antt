use Rattle.std.proofs.Common.{◌∷◌, if◌then◌else◌, sym, ap, ◌∙◌}
use Rattle.book_core.specs.Book.{inputs_on}
use Rattle.book_core.specs.Reading.{leading, pages_in}
use Rattle.page_tally.specs.Lines.{line_view}
use Rattle.page_tally.proofs.Lacking.{page_first}
use Rattle.page_tally.proofs.foreign.begins.Goals as goal

pub returns-in-Page : goal.returns-in-Page
returns-in-Page c = λ after.
    let page = c.args.page.now in
    ap (λ l. inputs_on (pages_in (line_view l ∷ after)) page) c.in-Page.is
    ∙ page_first c.in-Page.other page (leading after) (pages_in after)
    ∙ ap (λ b. if b then leading after else inputs_on (pages_in after) page) (sym c.eq.ensures)
