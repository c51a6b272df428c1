use Rattle.std.proofs.Common.{◌≡◌, ◌∙◌, [], ◌∷◌, List, sym, subst}
use Rattle.std.proofs.lemmas.List.{map-id}
use Rattle.std.proofs.lemmas.Iterator.Adapters.{YieldsList-from_vec}
use Rattle.std.proofs.lemmas.Iterator.Consumers.{YieldsList-end}
use Rattle.book_core.specs.Page.{PageName}
use Rattle.control_answers.specs.SiteCounts.{Fills}
use Rattle.control_answers.proofs.Filled.{fills_more, fills_none}
use Rattle.control_answers.proofs.counting.fill_pages.Goals as goal

pub loop-page-init : goal.loop-page-init
loop-page-init c = fills_none c.args.counts.now.entries

pub loop-page-preserved : goal.loop-page-preserved
loop-page-preserved c =
    fills_more c.args.counts.now.entries c.loop-page.counts.entries c.fill_page.new.counts.entries c.loop-page.yielded (c.in-Some.page ∷ []) c.loop-page.invariant c.in_ok-fill_page.ensures

pub returns : goal.returns
returns c =
    let given = c.into_iter-page-iterator.ensures.into_iter_gives in
    let taken = YieldsList-end (YieldsList-from_vec {s = c.into_iter-page-iterator.result} c.args.pages.items given.0 (cc)) c.loop-page.yielded c.loop-page.page-iterator c.loop-page.yielded_by c.next.result c.next.new.self c.in-None.is c.next.ensures.steps in
    let whole : c.loop-page.yielded ≡ c.args.pages.items = sym (map-id c.loop-page.yielded) ∙ taken.0 in
    subst (λ (ps : List PageName). Fills c.args.counts.now.entries ps c.loop-page.counts.entries) whole c.loop-page.invariant
