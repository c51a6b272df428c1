use Rattle.std.proofs.Common.{List, subst}
use Rattle.std.proofs.lemmas.Result.{on_ok_weaker}
use Rattle.book_core.specs.Page.{PageName}
use Rattle.logic_ast.specs.Expr.{view}
use Rattle.control_answers.proofs.Pages.{are_pages_in}
use Rattle.control_answers.specs.SiteCounts.{Fills}
use Rattle.control_answers.proofs.counting.fill_targeting.Goals as goal

pub returns : goal.returns
returns c =
    on_ok_weaker c.fill_pages.result
    (subst (λ (ps : List PageName). Fills c.args.counts.now.entries ps c.fill_pages.new.counts.entries) (are_pages_in c.args.key.now (view c.args.targeting.now) c.in_ok-pages.pages.items c.in_ok-pages.ensures))
    c.fill_pages.ensures
