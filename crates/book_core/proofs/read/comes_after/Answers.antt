use Rattle.std.proofs.Common.{◌≡◌, ◌-◌, false, length, Some, slice_get, sym, ap, ◌∙◌}
use Rattle.std.specs.Prelude.{option_map}
use Rattle.std.specs.Map.{keys_of}
use Rattle.std.specs.Ordering.{is_lt}
use Rattle.std.proofs.lemmas.List.{length-map}
use Rattle.std.proofs.lemmas.List.Elements.{recursion_from_All}
use Rattle.book_core.specs.Page.{PageName, page_cmp}
use Rattle.book_core.specs.PageOrder.{pages_total}
use Rattle.book_core.specs.Reading.{comes_after}
use Rattle.book_core.proofs.Taken.{above_by_last, last_of-view, slice_get-map}
use Rattle.book_core.proofs.read.comes_after.Goals as goal

pub returns-in-Some-clause-last : goal.returns-in-Some-clause-last
returns-in-Some-clause-last c =
    let es = c.args.pages.now.entries in
    let last = c.in-Some.last.now in
    c.lt.ensures ∙ sym (ap (λ s. comes_after s c.args.page.now) (last_of-view es (last, c.in-Some.field-0-1.now) c.in-Some.ensures.last))

pub returns-in-Some-clause-all : goal.returns-in-Some-clause-all
returns-in-Some-clause-all c = λ below.
    let es = c.args.pages.now.entries in
    let last = c.in-Some.last.now in
    let up = recursion_from_All (λ (q : PageName). is_lt (page_cmp last q) ≡ false) (keys_of es) c.in-Some.ensures.all_up_to in
    let there : slice_get (keys_of es) (length (keys_of es) - 1) ≡ Some last =
    ap (λ n. slice_get (keys_of es) (n - 1)) (length-map es (λ e. e.0)) ∙ slice_get-map (λ e. e.0) es (length es - 1) ∙ ap (option_map (λ e. e.0)) c.in-Some.ensures.last in
    sym (above_by_last pages_total (keys_of es) last c.args.page.now up there) ∙ sym c.lt.ensures ∙ below
