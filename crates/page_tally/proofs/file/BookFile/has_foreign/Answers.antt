-- a page with a bucketing expression
use Rattle.std.proofs.Common.{◌≡◌, ◌&&◌, false, option_map, string_bytes, ap, sym, ◌∙◌}
use Rattle.std.specs.List.{list_any}
use Rattle.std.specs.Prelude.{is_none}
use Rattle.book_core.specs.Book.{inputs_on}
use Rattle.book_core.specs.Page.{PageName}
use Rattle.page_tally.specs.Foreign.{lacks}
use Rattle.page_tally.proofs.Lacking.{foreign_by}
use Rattle.page_tally.proofs.file.BookFile.has_foreign.Goals as goal

pub returns-in-Some-clause-exact : goal.returns-in-Some-clause-exact
returns-in-Some-clause-exact g c =
    let page = c.args.page.now in
    let inputs = inputs_on c.args.self.now page in
    let none : is_none page.by ≡ false = sym (ap (λ (p : PageName). is_none p.by) c.page.view_is) ∙ ap (λ o. is_none (option_map string_bytes o)) c.in-Some.is in
    sym (foreign_by page inputs ∙ ap (λ b. b && list_any (lacks page.flag) inputs) none)
