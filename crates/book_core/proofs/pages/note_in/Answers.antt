use Rattle.std.proofs.Common.{◌≡◌, Some, sym}
use Rattle.std.specs.Map.{lookup}
use Rattle.std.specs.BTreeMap.{is_at}
use Rattle.book_core.specs.Page.{page_cmp}
use Rattle.book_core.specs.Book.{inputs_view, contents_view}
use Rattle.book_core.proofs.Paged.{held_lawful, inputs_on-found, reply_to-on, noted_page, kept_page}
use Rattle.book_core.proofs.Noting.{gives_along, other_along}
use Rattle.book_core.proofs.pages.note_in.Goals as goal

pub note_on-requires : goal.note_on-requires
note_on-requires c = (held_lawful c.args.pages.now.entries c.args.page.now c.in-Some.inputs.now c.requires (sym c.in-Some.ensures.value)).rising

pub returns-in-Some-clause-exact : goal.returns-in-Some-clause-exact
returns-in-Some-clause-exact c =
    let es = c.args.pages.now.entries in
    let inputs = c.in-Some.inputs.now in
    let found : lookup (is_at (page_cmp c.args.page.now)) es ≡ Some inputs = sym c.in-Some.ensures.value in
    gives_along c.note_on.result _ _ (reply_to-on (contents_view es) c.args.page.now c.args.input.now (inputs_view inputs) (inputs_on-found es c.args.page.now inputs found)) c.note_on.ensures.exact

pub returns-in-Some-clause-noted : goal.returns-in-Some-clause-noted
returns-in-Some-clause-noted c =
    let es = c.args.pages.now.entries in
    let inputs = c.in-Some.inputs.now in
    let found : lookup (is_at (page_cmp c.args.page.now)) es ≡ Some inputs = sym c.in-Some.ensures.value in
    let w = c.note_on.new.inputs in
    noted_page c.note_on.result es _ c.args.page.now inputs w c.args.input.now c.get_mut.ensures.ordered found (c.get_mut.follows.holds w).0 c.note_on.ensures.noted

pub returns-in-Some-clause-refused : goal.returns-in-Some-clause-refused
returns-in-Some-clause-refused c =
    let es = c.args.pages.now.entries in
    let inputs = c.in-Some.inputs.now in
    let found : lookup (is_at (page_cmp c.args.page.now)) es ≡ Some inputs = sym c.in-Some.ensures.value in
    let w = c.note_on.new.inputs in
    kept_page c.note_on.result es _ c.args.page.now inputs w found (c.get_mut.follows.holds w).0 c.note_on.ensures.refused

pub returns-in-Some-clause-no_memory : goal.returns-in-Some-clause-no_memory
returns-in-Some-clause-no_memory c =
    let es = c.args.pages.now.entries in
    let inputs = c.in-Some.inputs.now in
    let found : lookup (is_at (page_cmp c.args.page.now)) es ≡ Some inputs = sym c.in-Some.ensures.value in
    other_along c.note_on.result _ _ (reply_to-on (contents_view es) c.args.page.now c.args.input.now (inputs_view inputs) (inputs_on-found es c.args.page.now inputs found)) c.note_on.ensures.no_memory
