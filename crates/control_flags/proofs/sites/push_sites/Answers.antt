use Rattle.std.proofs.Common.{ℕ, List, ◌++◌, ◌∙◌, ap, map, string_bytes}
use Rattle.std.proofs.lemmas.Result.{on_ok_weaker}
use Rattle.book_core.specs.Page.{PageName}
use Rattle.logic_ast.specs.Expr.{view}
use Rattle.control_flags.specs.Sites.{site_row}
use Rattle.control_flags.proofs.Pages.{are_pages_in}
use Rattle.control_flags.proofs.sites.push_sites.Goals as goal

pub returns : goal.returns
returns c =
    let targeting = view c.args.targeting.now in
    let rows : List PageName → List (List ℕ) = map (site_row c.args.recorded.now.entries targeting) in
    let pages = c.as_slice.ensures.value ∙ are_pages_in c.args.key.now targeting c.in_ok-pages.pages.items c.in_ok-pages.ensures in
    on_ok_weaker c.push_pages.result (λ is. is ∙ ap (λ (ps : List PageName). map string_bytes c.args.rows.now.items ++ rows ps) pages) c.push_pages.ensures
