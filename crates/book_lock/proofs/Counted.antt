-- The number of inputs once an input was noted.
use Rattle.std.proofs.Common.{◌≡◌, ℕ, ◌+◌, true, false, cond, List, [], ◌∷◌, length, Some, None, Ordering, unwrap_or, refl, ap, ◌∙◌, arith}
use Rattle.std.specs.declared.cmp.Ordering.TheVariants.{Less, Equal, Greater}
use Rattle.std.specs.Ordering.{is_eq, match_ordering}
use Rattle.std.specs.Cmp.Lexicographic.{nat_list_cmp_total}
use Rattle.std.specs.List.{AllByRecursion}
use Rattle.std.specs.List.Sorted.{IsStrictlySortedBy}
use Rattle.std.specs.Map.{lookup, keys_of}
use Rattle.std.specs.BTreeMap.{is_at, insert_entry}
use Rattle.std.specs.BTreeSet.{insert_key}
use Rattle.std.proofs.lemmas.List.Sums.{sum_by-cons}
use Rattle.book_core.specs.Page.{PageName, bytes_cmp, page_cmp}
use Rattle.book_core.specs.PageOrder.{pages_total}
use Rattle.book_core.specs.Book.{Inputs, Contents, is_among, input_count, inputs_on, with_input, IsBook}
use Rattle.book_core.proofs.Ordered.{length-insert_key, insert_key-found, below_all}
use Rattle.book_core.proofs.Noting.{is_among-by_order, exposure_found}

none_below : {K X : Type 0} (R : K → K → Ordering) (k : K) (es : List (K × X)) → AllByRecursion (λ y. R k y ≡ Less) (keys_of es) → lookup (is_at (R k)) es ≡ None
none_below R k [] below = refl
none_below R k (e ∷ es) below =
    let here : is_eq (R k e.0) ≡ false = ap is_eq below.0 in
    let later = none_below R k es below.1 in
    rw here later

abbrev inputs_in : Contents → PageName → Inputs
inputs_in book page = unwrap_or (lookup (is_at (page_cmp page)) book) []

one_page : (n total : ℕ) → total ≡ n + 0 → total + 0 ≡ 0 + n
one_page n total e = omega (arith, e)

in_front : (n total old : ℕ) → total ≡ n + old → total + 0 ≡ old + n
in_front n total old e = omega (arith, e)

in_place : (n m k total old : ℕ) → total ≡ n + k → old ≡ m + k → total + m ≡ old + n
in_place n m k total old e f = omega (arith, e, f)

behind : (n m k l new total old : ℕ) → total ≡ m + new → old ≡ m + k → new + l ≡ k + n → total + l ≡ old + n
behind n m k l new total old e f h = omega (arith, e, f, h)

abbrev size : PageName × Inputs → ℕ
size e = length e.1

-- a page's inputs are exchanged for others
count-insert : (book : Contents) (page : PageName) (inputs : Inputs) → IsStrictlySortedBy page_cmp (keys_of book) → input_count (insert_entry page_cmp book page inputs) + length (inputs_in book page) ≡ input_count book + length inputs
unfolding IsStrictlySortedBy
count-insert [] page inputs sorted = one_page (length inputs) (input_count ((page, inputs) ∷ [])) (sum_by-cons size (page, inputs) [])
count-insert (e ∷ es) page inputs sorted =
    let later = count-insert es page inputs sorted.1 in
    let old : input_count (e ∷ es) ≡ length e.1 + input_count es = sum_by-cons size e es in
    let low : page_cmp page e.0 ≡ Less → lookup (is_at (page_cmp page)) es ≡ None = λ h. none_below page_cmp page es (below_all pages_total page e.0 (keys_of es) h sorted.0) in
    elim (page_cmp page e.0) as (λ r. (r ≡ Less → lookup (is_at (page_cmp page)) es ≡ None) → input_count (match_ordering r ((page, inputs) ∷ e ∷ es) ((e.0, inputs) ∷ es) (e ∷ insert_entry page_cmp es page inputs)) + length (unwrap_or (cond (is_eq r) (Some e.1) (lookup (is_at (page_cmp page)) es)) []) ≡ input_count (e ∷ es) + length inputs) [
      | Less ↦ λ none. rw (none refl) (in_front (length inputs) (input_count ((page, inputs) ∷ e ∷ es)) (input_count (e ∷ es)) (sum_by-cons size (page, inputs) (e ∷ es)))
      | Equal ↦ λ none. in_place (length inputs) (length e.1) (input_count es) (input_count ((e.0, inputs) ∷ es)) (input_count (e ∷ es)) (sum_by-cons size (e.0, inputs) es) old
      | Greater ↦ λ none. behind (length inputs) (length e.1) (input_count es) (length (inputs_in es page)) (input_count (insert_entry page_cmp es page inputs)) (input_count (e ∷ insert_entry page_cmp es page inputs)) (input_count (e ∷ es)) (sum_by-cons size e (insert_entry page_cmp es page inputs)) old later
    ] low

rising_on : (book : Contents) (page : PageName) → IsBook book → IsStrictlySortedBy bytes_cmp (inputs_on book page)
unfolding inputs_on
rising_on book page is_book = (exposure_found (is_at (page_cmp page)) book is_book.filled).rising

-- an input that is there leaves the number
pub count_known : (book : Contents) (page : PageName) (input : List ℕ) → IsBook book → is_among input (inputs_on book page) ≡ true → input_count (with_input book page input) ≡ input_count book
unfolding with_input inputs_on
count_known book page input is_book among =
    let inputs = inputs_in book page in
    let same : insert_key bytes_cmp inputs input ≡ inputs = insert_key-found nat_list_cmp_total inputs input (rising_on book page is_book) (is_among-by_order input inputs ∙ among) in
    let put = count-insert book page (insert_key bytes_cmp inputs input) is_book.rising in
    omega (arith, put, ap length same)

-- another is one more
pub count_more : (book : Contents) (page : PageName) (input : List ℕ) → IsBook book → is_among input (inputs_on book page) ≡ false → input_count (with_input book page input) ≡ input_count book + 1
unfolding with_input inputs_on
count_more book page input is_book absent =
    let inputs = inputs_in book page in
    let more : length (insert_key bytes_cmp inputs input) ≡ length inputs + 1 = length-insert_key bytes_cmp inputs input (is_among-by_order input inputs ∙ absent) in
    let put = count-insert book page (insert_key bytes_cmp inputs input) is_book.rising in
    omega (arith, put, more)
