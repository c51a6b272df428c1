-- The map from pages to their inputs, seen as contents.
use Rattle.std.proofs.Common.{◌≡◌, ℕ, List, [], Some, None, Result, Ok, Err, OnOk, OnErr, unwrap_or, sym, ap, ◌∙◌, subst}
use Rattle.std.specs.Prelude.{option_map}
use Rattle.std.specs.List.Sorted.{IsStrictlySortedBy}
use Rattle.std.specs.Map.{lookup, set_value, keys_of}
use Rattle.std.specs.BTreeMap.{is_at, insert_entry}
use Rattle.std.specs.BTreeSet.{insert_key}
use Rattle.book_core.specs.Page.{PageName, bytes_cmp, page_cmp}
use Rattle.book_core.specs.PageOrder.{pages_total}
use Rattle.book_core.specs.Book.{Inputs, Contents, IsBook, IsExposure, inputs_on, page_reply, reply_to, with_input, inputs_view, contents_view}
use Rattle.book_core.specs.declared.inputs.PageInputs.{PageInputs}
use Rattle.book_core.specs.declared.noted.Noted.{Noted}
use Rattle.book_core.specs.declared.fault.BookFault.{BookFault}
use Rattle.book_core.proofs.Noting.{exposure_found}
use Rattle.book_core.proofs.Ordered.{lookup-seen_by, set_value-seen_by, set_value-same, insert_entry-seen_by, insert_entry-found, keys_of-seen_by}

pub found_view : (es : List (PageName × PageInputs)) (page : PageName) (s : PageInputs) → lookup (is_at (page_cmp page)) es ≡ Some s → lookup (is_at (page_cmp page)) (contents_view es) ≡ Some (inputs_view s)
found_view es page s found = lookup-seen_by inputs_view (is_at (page_cmp page)) es ∙ ap (option_map inputs_view) found

pub inputs_on-found : (es : List (PageName × PageInputs)) (page : PageName) (s : PageInputs) → lookup (is_at (page_cmp page)) es ≡ Some s → inputs_on (contents_view es) page ≡ inputs_view s
unfolding inputs_on
inputs_on-found es page s found = ap (λ o. unwrap_or o []) (found_view es page s found)

pub inputs_on-none : (es : List (PageName × PageInputs)) (page : PageName) → lookup (is_at (page_cmp page)) es ≡ None → inputs_on (contents_view es) page ≡ []
unfolding inputs_on
inputs_on-none es page none = ap (λ o. unwrap_or o []) (lookup-seen_by inputs_view (is_at (page_cmp page)) es ∙ ap (option_map inputs_view) none)

pub reply_to-on : (book : Contents) (page : PageName) (input : List ℕ) (inputs : Inputs) → inputs_on book page ≡ inputs → reply_to book page input ≡ page_reply inputs input
unfolding reply_to
reply_to-on book page input inputs on = ap (λ xs. page_reply xs input) on

-- what a book holds of a page is lawful
pub held_lawful : (es : List (PageName × PageInputs)) (page : PageName) (s : PageInputs) → IsBook (contents_view es) → lookup (is_at (page_cmp page)) es ≡ Some s → IsExposure (inputs_view s)
held_lawful es page s is_book found = subst (λ o. IsExposure (unwrap_or o [])) (found_view es page s found) (exposure_found (is_at (page_cmp page)) (contents_view es) is_book.filled)

-- the input was written to its page
pub page_noted : (es : List (PageName × PageInputs)) (page : PageName) (s w : PageInputs) (input : List ℕ) → IsStrictlySortedBy page_cmp (keys_of es) → lookup (is_at (page_cmp page)) es ≡ Some s → inputs_view w ≡ insert_key bytes_cmp (inputs_view s) input → contents_view (set_value (is_at (page_cmp page)) es w) ≡ with_input (contents_view es) page input
unfolding with_input
page_noted es page s w input sorted found noted =
    let test = is_at (page_cmp page) in
    let more = insert_key bytes_cmp (inputs_view s) input in
    let rising : IsStrictlySortedBy page_cmp (keys_of (contents_view es)) = rw (keys_of-seen_by inputs_view es) sorted in
    let written : insert_entry page_cmp (contents_view es) page more ≡ set_value test (contents_view es) more = insert_entry-found pages_total (contents_view es) page (inputs_view s) more rising (found_view es page s found) in
    set_value-seen_by inputs_view test es w ∙ ap (set_value test (contents_view es)) noted ∙ sym written ∙ ap (λ xs. insert_entry page_cmp (contents_view es) page (insert_key bytes_cmp xs input)) (sym (inputs_on-found es page s found))

-- what was written has the same inputs
pub page_kept : (es : List (PageName × PageInputs)) (page : PageName) (s w : PageInputs) → lookup (is_at (page_cmp page)) es ≡ Some s → inputs_view w ≡ inputs_view s → contents_view (set_value (is_at (page_cmp page)) es w) ≡ contents_view es
page_kept es page s w found kept =
    let test = is_at (page_cmp page) in
    set_value-seen_by inputs_view test es w ∙ ap (set_value test (contents_view es)) kept ∙ set_value-same test (contents_view es) (inputs_view s) (found_view es page s found)

-- a page came in with its first input
pub page_added : (es : List (PageName × PageInputs)) (page : PageName) (w : PageInputs) (input : List ℕ) → lookup (is_at (page_cmp page)) es ≡ None → inputs_view w ≡ insert_key bytes_cmp [] input → contents_view (insert_entry page_cmp es page w) ≡ with_input (contents_view es) page input
unfolding with_input
page_added es page w input none noted =
    insert_entry-seen_by inputs_view page_cmp es page w ∙ ap (insert_entry page_cmp (contents_view es) page) noted ∙ ap (λ xs. insert_entry page_cmp (contents_view es) page (insert_key bytes_cmp xs input)) (sym (inputs_on-none es page none))

-- the same by what noting on the page has answered
pub noted_page : (r : Result Noted BookFault) (es fs : List (PageName × PageInputs)) (page : PageName) (s w : PageInputs) (input : List ℕ) → IsStrictlySortedBy page_cmp (keys_of es) → lookup (is_at (page_cmp page)) es ≡ Some s → fs ≡ set_value (is_at (page_cmp page)) es w → OnOk r (inputs_view w ≡ insert_key bytes_cmp (inputs_view s) input) → OnOk r (contents_view fs ≡ with_input (contents_view es) page input)
noted_page (Ok reply) es fs page s w input sorted found written noted = ap contents_view written ∙ page_noted es page s w input sorted found noted
noted_page (Err fault) es fs page s w input sorted found written noted = tt

pub kept_page : (r : Result Noted BookFault) (es fs : List (PageName × PageInputs)) (page : PageName) (s w : PageInputs) → lookup (is_at (page_cmp page)) es ≡ Some s → fs ≡ set_value (is_at (page_cmp page)) es w → OnErr r (inputs_view w ≡ inputs_view s) → OnErr r (contents_view fs ≡ contents_view es)
kept_page (Ok reply) es fs page s w found written kept = tt
kept_page (Err fault) es fs page s w found written kept = ap contents_view written ∙ page_kept es page s w found kept
