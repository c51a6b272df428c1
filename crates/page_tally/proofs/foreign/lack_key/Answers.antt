use Rattle.std.proofs.Common.{◌≡◌, [], ap, ◌∙◌, subst}
use Rattle.std.specs.Prelude.{MatchOption}
use Rattle.book_core.specs.Book.{inputs_on}
use Rattle.book_core.specs.Page.{PageName}
use Rattle.book_core.specs.Reading.{leading, lines_of, pages_in}
use Rattle.page_tally.proofs.Lacking.{lack_there}
use Rattle.page_tally.proofs.foreign.lack_key.Goals as goal

pub returns-in-Some-2 : goal.returns-in-Some-2
returns-in-Some-2 g c =
    let page = c.args.page.now in
    let lines = c.in-Some.lines.now in
    let there = subst (λ o. MatchOption o (inputs_on (pages_in (lines_of lines)) page ≡ []) (λ behind. inputs_on (pages_in (lines_of lines)) page ≡ leading (lines_of behind.now))) c.in-Some-2.is c.in_ok-inputs.ensures in
    let own = c.as_bytes.ensures.value ∙ ap (λ (p : PageName). p.flag) c.page.view_is in
    lack_there c.args.bytes.now c.in-Some.field-0-0.now lines page c.in-Some.ensures.parts c.in-Some-2.inputs.now c.as_bytes.result.now c.any_lacks.result there own c.any_lacks.ensures
