-- What each page has, from what was mentioned for it and what full pages refused.
use Rattle.std.proofs.Common.{◌≡◌, ℕ, suc, ◌+◌, ◌<◌, ◌≤◌, Bool, true, false, ◌||◌, ◌&&◌, cond, List, [], ◌∷◌, length, nat_lt, Ordering, Ok, Err, refl, sym, ap, ap₂, ◌∙◌, subst, arith, zero, get_or, ◌⊎◌, inl, inr, ⊎_elim}
use borrow.Author.Tests.{ltb-false}
use Rattle.std.specs.Prelude.{All, ◌↔◌}
use Rattle.std.specs.Cmp.{Equal-is, IsEquivalence, IsTotalOrder, alike_right}
use Rattle.std.specs.declared.cmp.Ordering.TheVariants.{Less, Equal, Greater}
use Rattle.std.specs.Ordering.{is_eq, match_ordering, eq_by_cmp}
use Rattle.std.specs.Cmp.Lexicographic.{nat_list_cmp_total}
use Rattle.std.specs.List.{list_any, IsDistinct, AllByRecursion}
use Rattle.std.specs.List.Sorted.{IsStrictlySortedBy}
use Rattle.std.specs.Set.{distinct_count}
use Rattle.std.specs.BTreeSet.{insert_key}
use Rattle.std.specs.BTreeMap.{is_at}
use Rattle.std.specs.Str.{bytes_eq}
use Rattle.std.proofs.lemmas.Cmp.{nat_list_eq_equiv}
use Rattle.std.proofs.lemmas.List.Elements.{All-head, All-tail}
use Rattle.std.proofs.lemmas.Map.Keys.{IsDistinct-from_sorted}
use Rattle.std.proofs.lemmas.Map.Made.{length-le_from_is_member, length-from_keys}
use Rattle.std.proofs.lemmas.Map.Text.{is_eq-slice_cmp}
use Rattle.book_core.specs.Book.{Inputs, Contents, most_bytes, most_inputs, is_among, inputs_on, reply_to, IsBook}
use Rattle.book_core.specs.Page.{PageName, page_cmp, page_eq, bytes_cmp}
use Rattle.book_core.specs.PageOrder.{pages_equal, pages_total}
use Rattle.book_core.specs.declared.noted.Noted.TheVariants.{New, Again}
use Rattle.book_core.specs.declared.fault.BookFault.TheVariants.{PageFull, InputTooLong}
use Rattle.book_core.proofs.Noting.{exposure_found, is_among-by_order}
use Rattle.book_core.proofs.Ordered.{length-insert_key, sorted-insert_key}
use Rattle.book_share.specs.Asked.{Mention, is_mention, mentioned_on}
use Rattle.book_share.specs.Driven.{reached_on}
use Rattle.book_share.proofs.Full.{IsFull}
use Rattle.book_core.proofs.Answered.{same_page}

-- the inputs that are mentioned for a page
any_on : (page : PageName) (q : List ℕ) (ms : List Mention) → list_any (is_mention page q) ms ≡ list_any (bytes_eq q) (mentioned_on page ms)
any_on page q [] = refl
any_on page q (m ∷ ms) = by (page_eq page m.page) (any_on page q ms)
  where
    by : (b : Bool) → list_any (is_mention page q) ms ≡ list_any (bytes_eq q) (mentioned_on page ms)
        → ((b && bytes_eq q m.input) || list_any (is_mention page q) ms) ≡ list_any (bytes_eq q) (cond b (m.input ∷ mentioned_on page ms) (mentioned_on page ms))
    by true l = ap (λ c. bytes_eq q m.input || c) l
    by false l = l

-- ---- one more input

or_swap : (a b c : Bool) → (a || (b || c)) ≡ (b || (a || c))
or_swap true true c = refl
or_swap true false c = refl
or_swap false b c = refl

or_same : (a b : Bool) → (a || b) ≡ (a || (a || b))
or_same true b = refl
or_same false b = refl

any-insert_key : {K : Type 0} {R : K → K → Ordering} → IsTotalOrder R → (ks : List K) (k q : K) → list_any (is_at (R q)) (insert_key R ks k) ≡ (is_eq (R q k) || list_any (is_at (R q)) ks)
any-insert_key o [] k q = refl
any-insert_key {R = R} o (x ∷ xs) k q =
    let later = any-insert_key o xs k q in
    let alike : R k x ≡ Equal → is_eq (R q k) ≡ is_eq (R q x) = λ e. ap is_eq (alike_right o k x q e) in
    elim (R k x) as (λ r. (r ≡ Equal → is_eq (R q k) ≡ is_eq (R q x)) → list_any (is_at (R q)) (match_ordering r (k ∷ x ∷ xs) (x ∷ xs) (x ∷ insert_key R xs k)) ≡ (is_eq (R q k) || (is_eq (R q x) || list_any (is_at (R q)) xs))) [
      | Less ↦ λ _. refl
      | Equal ↦ λ same. rw (same refl) (or_same (is_eq (R q x)) (list_any (is_at (R q)) xs))
      | Greater ↦ λ _. ap (λ b. is_eq (R q x) || b) later ∙ or_swap (is_eq (R q x)) (is_eq (R q k)) (list_any (is_at (R q)) xs)
    ] alike

is_among-insert : (inputs : Inputs) (input other : List ℕ) → is_among other (insert_key bytes_cmp inputs input) ≡ (bytes_eq other input || is_among other inputs)
is_among-insert inputs input other =
    sym (is_among-by_order other (insert_key bytes_cmp inputs input)) ∙ any-insert_key nat_list_cmp_total inputs input other ∙ ap₂ (λ a b. a || b) (is_eq-slice_cmp other input) (is_among-by_order other inputs)

-- ---- different inputs

pub bytes_laws : IsEquivalence bytes_eq
bytes_laws = nat_list_eq_equiv

All-same : {K : Type 0} (P Q : K → Type 0) → ((k : K) → P k → Q k) → (ks : List K) → AllByRecursion P ks → AllByRecursion Q ks
All-same P Q f [] all = tt
All-same P Q f (k ∷ ks) all = (f k all.0, All-same P Q f ks all.1)

distinct_by_bytes : (xs : Inputs) → IsDistinct (eq_by_cmp bytes_cmp) xs → IsDistinct bytes_eq xs
unfolding IsDistinct
distinct_by_bytes [] d = tt
distinct_by_bytes (x ∷ xs) d = (All-same (λ y. eq_by_cmp bytes_cmp x y ≡ false) (λ y. bytes_eq x y ≡ false) (λ y e. sym (is_eq-slice_cmp x y) ∙ e) xs d.0, distinct_by_bytes xs d.1)

pub rising_distinct : (xs : Inputs) → IsStrictlySortedBy bytes_cmp xs → IsDistinct bytes_eq xs
rising_distinct xs rising = distinct_by_bytes xs (IsDistinct-from_sorted bytes_cmp xs rising)

-- inputs in order, each once
in_rising : Inputs → Inputs
in_rising [] = []
in_rising (x ∷ xs) = insert_key bytes_cmp (in_rising xs) x

rising-in_rising : (xs : Inputs) → IsStrictlySortedBy bytes_cmp (in_rising xs)
unfolding IsStrictlySortedBy in_rising
rising-in_rising [] = tt
rising-in_rising (x ∷ xs) = sorted-insert_key nat_list_cmp_total (in_rising xs) x (rising-in_rising xs)

among-in_rising : (q : List ℕ) (xs : Inputs) → is_among q (in_rising xs) ≡ is_among q xs
unfolding in_rising
among-in_rising q [] = refl
among-in_rising q (x ∷ xs) = is_among-insert (in_rising xs) x q ∙ ap (λ b. bytes_eq q x || b) (among-in_rising q xs)

-- inputs in rising order that are all among others are no more than these have different ones
few_among : (xs others : Inputs) → IsStrictlySortedBy bytes_cmp xs → ((q : List ℕ) → is_among q xs ≡ true → is_among q others ≡ true) → length xs ≤ distinct_count bytes_eq others
few_among xs others rising within =
    let less = length-le_from_is_member bytes_laws xs (in_rising others) (rising_distinct xs rising) (λ q e. among-in_rising q others ∙ within q e) in
    let same = length-from_keys bytes_laws (in_rising others) others (rising_distinct (in_rising others) (rising-in_rising others)) (λ q. among-in_rising q others) in
    omega (arith, less, same)

-- ---- full pages

full_parts : (long among room : Bool) → cond long (Err InputTooLong) (cond among (Ok Again) (cond room (Ok New) (Err PageFull))) ≡ Err PageFull → (among ≡ false) × (room ≡ false)
full_parts true among room e = cc
full_parts false true room e = cc
full_parts false false true e = cc
full_parts false false false e = (refl, refl)

pub full_page : (book : Contents) (r : Mention) → IsFull book r → (is_among r.input (inputs_on book r.page) ≡ false) × (most_inputs ≤ length (inputs_on book r.page))
unfolding reply_to
full_page book r full =
    let input = r.input in
    let parts = full_parts (nat_lt most_bytes (length input)) (is_among input (inputs_on book r.page)) (nat_lt (length (inputs_on book r.page)) most_inputs) full in
    (parts.0, ltb-false _ _ parts.1)

pub rising_page : (book : Contents) (page : PageName) → IsBook book → IsStrictlySortedBy bytes_cmp (inputs_on book page)
unfolding inputs_on
rising_page book page is_book = (exposure_found (is_at (page_cmp page)) book is_book.filled).rising

few_on_page : (book : Contents) (page : PageName) → IsBook book → length (inputs_on book page) ≤ most_inputs
unfolding inputs_on
few_on_page book page is_book = (exposure_found (is_at (page_cmp page)) book is_book.filled).few

pub or_first : (a b : Bool) → a ≡ true → (a || b) ≡ true
or_first true b e = refl
or_first false b e = cc

pub or_last : (a b : Bool) → b ≡ true → (a || b) ≡ true
or_last true b e = refl
or_last false b e = e

either : {P : Type 0} (a b : Bool) → (a || b) ≡ true → (a ≡ true → P) → (b ≡ true → P) → P
either true b e f g = f refl
either false b e f g = g e

refused_here : (r : Mention) (rest : List Mention) (q : List ℕ) → bytes_eq q r.input ≡ true → list_any (is_mention r.page q) (r ∷ rest) ≡ true
refused_here r rest q same =
    let here : page_eq r.page r.page ≡ true = pages_equal.refl r.page in
    or_first (page_eq r.page r.page && bytes_eq q r.input) (list_any (is_mention r.page q) rest) (rw (here, same) refl)

no_refusals : (refused : List Mention) → length refused ≡ 0 → refused ≡ []
no_refusals [] e = refl
no_refusals (r ∷ rest) e = absurd (omega (arith, e))

-- ---- a page that refused an input

module _ (ms : List Mention) (book : Contents) (is_book : IsBook book) where
  -- more different inputs are mentioned for the page of a refused input than a page takes
  over : (r : Mention) → IsFull book r → ((q : List ℕ) → is_among q (inputs_on book r.page) ≡ true → list_any (is_mention r.page q) ms ≡ true) → ((q : List ℕ) → bytes_eq q r.input ≡ true → list_any (is_mention r.page q) ms ≡ true)
      → most_inputs < reached_on r.page ms
  over r full held mentioned =
      let input = r.input in
      let inputs = inputs_on book r.page in
      let parts = full_page book r full in
      let more = insert_key bytes_cmp inputs input in
      let longer : length more ≡ length inputs + 1 = length-insert_key bytes_cmp inputs input (is_among-by_order input inputs ∙ parts.0) in
      let many = parts.1 in
      let within : (q : List ℕ) → is_among q more ≡ true → is_among q (mentioned_on r.page ms) ≡ true =
      λ q e. sym (any_on r.page q ms) ∙ either (bytes_eq q input) (is_among q inputs) (sym (is_among-insert inputs input q) ∙ e) (mentioned q) (held q) in
      let less = few_among more (mentioned_on r.page ms) (sorted-insert_key nat_list_cmp_total inputs input (rising_page book r.page is_book)) within in
      omega (arith, longer, many, less)

  -- a page that has just what is mentioned for it has no more of it than a page takes
  few_exact : (page : PageName) → ((q : List ℕ) → is_among q (inputs_on book page) ≡ list_any (is_mention page q) ms) → reached_on page ms ≤ most_inputs
  few_exact page exact =
      let counts = length-from_keys bytes_laws (inputs_on book page) (mentioned_on page ms) (rising_distinct (inputs_on book page) (rising_page book page is_book)) (λ q. exact q ∙ any_on page q ms) in
      let few = few_on_page book page is_book in
      omega (arith, counts, few)

-- an input that full pages refused, among all of them
refused_at : (rs : List Mention) (k : ℕ) (d : Mention) (q : List ℕ) → k < length rs → bytes_eq q (get_or rs k d).input ≡ true → list_any (is_mention (get_or rs k d).page q) rs ≡ true
refused_at [] k d q lt same = absurd (omega (arith, lt))
refused_at (r ∷ rs) zero d q lt same = refused_here r rs q same
refused_at (r ∷ rs) (suc k) d q lt same =
    or_last (page_eq (get_or rs k d).page r.page && bytes_eq q r.input) (list_any (is_mention (get_or rs k d).page q) rs) (refused_at rs k d q (omega (arith, lt)) same)

-- one of them was of this page, or none
on_page : (Q : Mention → Type 0) (page : PageName) (rs : List Mention) → All Q rs → ((r : Mention) × Q r × (page_eq page r.page ≡ true)) ⊎ ((q : List ℕ) → list_any (is_mention page q) rs ≡ false)
on_page Q page [] all = inr (λ q. refl)
on_page Q page (r ∷ rs) all = by (page_eq page r.page) refl (on_page Q page rs (All-tail Q r rs all))
  where
    by : (b : Bool) → page_eq page r.page ≡ b → ((x : Mention) × Q x × (page_eq page x.page ≡ true)) ⊎ ((q : List ℕ) → list_any (is_mention page q) rs ≡ false) → ((x : Mention) × Q x × (page_eq page x.page ≡ true)) ⊎ ((q : List ℕ) → list_any (is_mention page q) (r ∷ rs) ≡ false)
    by true e later = inl (r, All-head Q r rs all, e)
    by false e later = ⊎_elim (λ found. inl found) (λ none. inr (λ q. rw e (none q))) later

mentioned_same : (page other : PageName) (ms : List Mention) → page_eq page other ≡ true → mentioned_on page ms ≡ mentioned_on other ms
mentioned_same page other [] same = refl
mentioned_same page other (m ∷ ms) same =
    let tied : page_cmp page other ≡ Equal = (Equal-is (page_cmp page other)).0 same in
    let later = mentioned_same page other ms same in
    ap₂ (λ b l. cond b (m.input ∷ l) l) (ap is_eq (pages_total.congr page other m.page tied)) later

-- ---- each page

-- what is known of a book and of what full pages refused it
pub record AreKept (ms : List Mention) (book : Contents) (refused : List Mention) : Type 0 where
  pub lawful : IsBook book
  pub held : (page : PageName) (q : List ℕ) → is_among q (inputs_on book page) ≡ true → list_any (is_mention page q) ms ≡ true
  pub full : All (IsFull book) refused
  pub within : (page : PageName) (q : List ℕ) → list_any (is_mention page q) refused ≡ true → list_any (is_mention page q) ms ≡ true
  pub exact : (page : PageName) (q : List ℕ) → list_any (is_mention page q) refused ≡ false → is_among q (inputs_on book page) ≡ list_any (is_mention page q) ms

module _ (ms : List Mention) (book : Contents) (refused : List Mention) (kept : AreKept ms book refused) where
  abbrev IsOver : Mention → Type 0
  IsOver r = (most_inputs ≤ length (inputs_on book r.page)) × (most_inputs < reached_on r.page ms)

  all_over : All IsOver refused
  all_over k d lt =
      let r = get_or refused k d in
      ((full_page book r (kept.full k d lt)).1, over ms book kept.lawful r (kept.full k d lt) (kept.held r.page) (λ q e. kept.within r.page q (refused_at refused k d q lt e)))

  abbrev IsFilled : PageName → Type 0
  IsFilled page = (length (inputs_on book page) ≡ most_inputs) × (most_inputs < reached_on page ms)

  abbrev IsExact : PageName → Type 0
  IsExact page = (q : List ℕ) → is_among q (inputs_on book page) ≡ list_any (is_mention page q) ms

  filled_as : (page : PageName) (r : Mention) → IsOver r → page_eq page r.page ≡ true → IsFilled page
  filled_as page r is same =
      let few = few_on_page book page kept.lawful in
      let many : most_inputs ≤ length (inputs_on book page) = subst (λ (l : Inputs). most_inputs ≤ length l) (sym (same_page book r.page page same)) is.0 in (
        omega (arith, few, many),
        subst (λ (l : List (List ℕ)). most_inputs < distinct_count bytes_eq l) (sym (mentioned_same page r.page ms same)) is.1,
      )

  each_page : (page : PageName) → IsFilled page ⊎ IsExact page
  each_page page =
      ⊎_elim
      (λ found. inl (filled_as page found.0 found.1 found.2))
      (λ none. inr (λ q. kept.exact page q (none q)))
      (on_page IsOver page refused all_over)

  pub page_contents : (page : PageName) → reached_on page ms ≤ most_inputs → IsExact page
  page_contents page few =
      ⊎_elim
      (λ (filled : IsFilled page). absurd (let many = filled.1 in omega (arith, many, few)))
      (λ (exact : IsExact page). exact)
      (each_page page)

  pub page_filled : (page : PageName) → most_inputs < reached_on page ms → length (inputs_on book page) ≡ most_inputs
  page_filled page many =
      ⊎_elim
      (λ (filled : IsFilled page). filled.0)
      (λ (exact : IsExact page). absurd (let few = few_exact ms book kept.lawful page exact in omega (arith, many, few)))
      (each_page page)

  -- no page was full exactly where none is reached by too many inputs
  pub none_full : (length refused ≡ 0) ↔ ((page : PageName) → reached_on page ms ≤ most_inputs)
  none_full = (
    (λ none page. few_exact ms book kept.lawful page (λ q. kept.exact page q (ap (list_any (is_mention page q)) (no_refusals refused none)))),
    go refused all_over,
  )
    where
      go : (rs : List Mention) → All IsOver rs → ((page : PageName) → reached_on page ms ≤ most_inputs) → length rs ≡ 0
      go [] all few = refl
      go (r ∷ rs) all few = absurd (let many = (All-head IsOver r rs all).1 in let bound = few r.page in omega (arith, many, bound))
