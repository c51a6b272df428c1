-- A book shows its calls, one after another.
use Rattle.std.proofs.Common.{◌≡◌, ℕ, ◌+◌, Bool, true, false, ◌&&◌, ◌||◌, cond, if◌then◌else◌, List, [], ◌∷◌, ◌++◌, length, Option, Some, Ordering, Result, Ok, Err, is_ok, nat_lt, unwrap_or, ⊎_elim, add-zero, append-nil, append_assoc, subst, refl, sym, ap, ap₂, ◌∙◌, arith}
use Rattle.std.specs.declared.cmp.Ordering.TheVariants.{Less, Equal, Greater}
use Rattle.std.specs.Ordering.{is_eq, match_ordering, ordering_reverse}
use Rattle.std.specs.Cmp.{IsTotalOrder, Equal-is, alike_right}
use Rattle.std.specs.Cmp.Lexicographic.{nat_list_cmp_total}
use Rattle.std.specs.List.{list_any}
use Rattle.std.specs.List.Sorted.{IsStrictlySortedBy}
use Rattle.std.proofs.lemmas.Bool.{cases_Bool, true≢false}
use Rattle.std.specs.Map.{lookup}
use Rattle.std.specs.Str.{bytes_eq}
use Rattle.std.specs.BTreeMap.{is_at, insert_entry}
use Rattle.std.specs.BTreeSet.{insert_key}
use Rattle.std.proofs.lemmas.Map.Text.{is_eq-slice_cmp}
use Rattle.book_core.specs.Page.{PageName, bytes_cmp, page_cmp, page_eq}
use Rattle.book_core.specs.PageOrder.{pages_total}
use Rattle.book_core.specs.Book.{Inputs, Contents, most_inputs, most_bytes, is_among, inputs_on, reply_to, with_input, IsBook}
use Rattle.book_core.specs.Calls.{Call, is_new, stands, news_on, reply_after, Shows, book_after, NotesOneCall, AreCallsAfter, book_of_calls, ShowsItsCalls}
use Rattle.book_core.specs.declared.noted.Noted.{Noted}
use Rattle.book_core.specs.declared.noted.Noted.TheVariants.{New, Again}
use Rattle.book_core.specs.declared.fault.BookFault.{BookFault}
use Rattle.book_core.specs.declared.fault.BookFault.TheVariants.{PageFull, InputTooLong}
use Rattle.book_core.proofs.Ordered.{length-insert_key, insert_key-found}
use Rattle.book_core.proofs.Noting.{is_among-by_order, exposure_found, book_taken}

or_same : (a b : Bool) → (a || b) ≡ (a || (a || b))
or_same true b = refl
or_same false b = refl

or_turned : (a b : Bool) → (a || b) ≡ (b || a)
or_turned true true = refl
or_turned true false = refl
or_turned false true = refl
or_turned false false = refl

or_none : (a : Bool) → a ≡ (a || false)
or_none true = refl
or_none false = refl

or_grouped : (a b c : Bool) → (a || (b || c)) ≡ ((a || b) || c)
or_grouped true b c = refl
or_grouped false b c = refl

or_swap : (a b c : Bool) → (a || (b || c)) ≡ (b || (a || c))
or_swap true true c = refl
or_swap true false c = refl
or_swap false b c = refl

-- which keys there are with one more
any-insert_key : {K : Type 0} {R : K → K → Ordering} → IsTotalOrder R → (ks : List K) (k q : K) → list_any (is_at (R q)) (insert_key R ks k) ≡ (is_eq (R q k) || list_any (is_at (R q)) ks)
any-insert_key o [] k q = refl
any-insert_key {R = R} o (x ∷ xs) k q =
    let later = any-insert_key o xs k q in
    let alike : R k x ≡ Equal → is_eq (R q k) ≡ is_eq (R q x) = λ e. ap is_eq (alike_right o k x q e) in
    elim (R k x) as (λ r. (r ≡ Equal → is_eq (R q k) ≡ is_eq (R q x)) → list_any (is_at (R q)) (match_ordering r (k ∷ x ∷ xs) (x ∷ xs) (x ∷ insert_key R xs k)) ≡ (is_eq (R q k) || (is_eq (R q x) || list_any (is_at (R q)) xs))) [
      | Less ↦ λ _. refl
      | Equal ↦ λ same. rw (same refl) (or_same (is_eq (R q x)) (list_any (is_at (R q)) xs))
      | Greater ↦ λ _. ap (λ b. is_eq (R q x) || b) later ∙ or_swap (is_eq (R q x)) (is_eq (R q k)) (list_any (is_at (R q)) xs)
    ] alike

cond_twice : {X : Type 0} (b : Bool) (v e rest : X) → cond b v rest ≡ cond b v (cond b e rest)
cond_twice true v e rest = refl
cond_twice false v e rest = refl

cond_swap : {X : Type 0} (a b : Bool) (v e rest : X) → (a ≡ true → b ≡ false) → cond a e (cond b v rest) ≡ cond b v (cond a e rest)
cond_swap true true v e rest apart = let no = apart refl in cc
cond_swap true false v e rest apart = refl
cond_swap false b v e rest apart = refl

apart_above : {K : Type 0} {R : K → K → Ordering} → IsTotalOrder R → (k x q : K) → R k x ≡ Greater → is_eq (R q x) ≡ true → is_eq (R q k) ≡ false
apart_above {R = R} o k x q above same =
    let tied : R q x ≡ Equal = (Equal-is (R q x)).0 same in
    ap is_eq (o.congr q x k tied ∙ o.antisymm x k ∙ ap ordering_reverse above)

-- what a look-up finds with one more entry
lookup-insert_entry : {K X : Type 0} {R : K → K → Ordering} → IsTotalOrder R → (es : List (K × X)) (k q : K) (v : X) → lookup (is_at (R q)) (insert_entry R es k v) ≡ cond (is_eq (R q k)) (Some v) (lookup (is_at (R q)) es)
lookup-insert_entry o [] k q v = refl
lookup-insert_entry {R = R} o (e ∷ es) k q v =
    let later = lookup-insert_entry o es k q v in
    let alike : R k e.0 ≡ Equal → is_eq (R q k) ≡ is_eq (R q e.0) = λ h. ap is_eq (alike_right o k e.0 q h) in
    elim (R k e.0) as (λ r. (r ≡ Equal → is_eq (R q k) ≡ is_eq (R q e.0)) → (r ≡ Greater → is_eq (R q e.0) ≡ true → is_eq (R q k) ≡ false) → lookup (is_at (R q)) (match_ordering r ((k, v) ∷ e ∷ es) ((e.0, v) ∷ es) (e ∷ insert_entry R es k v)) ≡ cond (is_eq (R q k)) (Some v) (cond (is_eq (R q e.0)) (Some e.1) (lookup (is_at (R q)) es))) [
      | Less ↦ λ _ _. refl
      | Equal ↦ λ same _. rw (same refl) (cond_twice (is_eq (R q e.0)) (Some v) (Some e.1) (lookup (is_at (R q)) es))
      | Greater ↦ λ _ apart. ap (λ o. cond (is_eq (R q e.0)) (Some e.1) o) later ∙ cond_swap (is_eq (R q e.0)) (is_eq (R q k)) (Some v) (Some e.1) (lookup (is_at (R q)) es) (apart refl)
    ] alike (apart_above o k e.0 q)

unwrap_cond : {X : Type 0} (b : Bool) (xs : List X) (o : Option (List X)) → unwrap_or (cond b (Some xs) o) [] ≡ cond b xs (unwrap_or o [])
unwrap_cond true xs o = refl
unwrap_cond false xs o = refl

lookup_alike : (book : Contents) (page q : PageName) → ((x : PageName) → page_cmp q x ≡ page_cmp page x) → lookup (is_at (page_cmp q)) book ≡ lookup (is_at (page_cmp page)) book
lookup_alike [] page q alike = refl
lookup_alike (e ∷ es) page q alike = rw (alike e.0, lookup_alike es page q alike) refl

-- the inputs on a page once an input was put on a page
pub inputs_on-with_input : (book : Contents) (page q : PageName) (input : List ℕ) → inputs_on (with_input book page input) q ≡ cond (page_eq q page) (insert_key bytes_cmp (inputs_on book page) input) (inputs_on book q)
unfolding inputs_on with_input
inputs_on-with_input book page q input =
    let more = insert_key bytes_cmp (unwrap_or (lookup (is_at (page_cmp page)) book) []) input in
    ap (λ o. unwrap_or o []) (lookup-insert_entry pages_total book page q more) ∙ unwrap_cond (page_eq q page) more (lookup (is_at (page_cmp q)) book)

pub same_page : (book : Contents) (page q : PageName) → page_eq q page ≡ true → inputs_on book q ≡ inputs_on book page
unfolding inputs_on
same_page book page q same =
    let tied : page_cmp q page ≡ Equal = (Equal-is (page_cmp q page)).0 same in
    ap (λ o. unwrap_or o []) (lookup_alike book page q (λ x. pages_total.congr q page x tied))

is_among-insert : (inputs : Inputs) (input other : List ℕ) → is_among other (insert_key bytes_cmp inputs input) ≡ (bytes_eq other input || is_among other inputs)
is_among-insert inputs input other =
    sym (is_among-by_order other (insert_key bytes_cmp inputs input)) ∙ any-insert_key nat_list_cmp_total inputs input other ∙ ap₂ (λ a b. a || b) (is_eq-slice_cmp other input) (is_among-by_order other inputs)

-- which inputs a book holds with one more
pub held_with : (book : Contents) (page q : PageName) (input other : List ℕ) → is_among other (inputs_on (with_input book page input) q) ≡ (is_among other (inputs_on book q) || (page_eq q page && bytes_eq other input))
held_with book page q input other =
    let put = ap (is_among other) (inputs_on-with_input book page q input) in
    ⊎_elim
    (λ (same : page_eq q page ≡ true).
    let here = ap (is_among other) (same_page book page q same) in
    put ∙ ap (λ b. is_among other (cond b (insert_key bytes_cmp (inputs_on book page) input) (inputs_on book q))) same
    ∙ is_among-insert (inputs_on book page) input other ∙ or_turned (bytes_eq other input) (is_among other (inputs_on book page))
    ∙ ap (λ b. b || bytes_eq other input) (sym here) ∙ ap (λ b. is_among other (inputs_on book q) || (b && bytes_eq other input)) (sym same))
    (λ (apart : page_eq q page ≡ false).
    put ∙ ap (λ b. is_among other (cond b (insert_key bytes_cmp (inputs_on book page) input) (inputs_on book q))) apart
    ∙ or_none (is_among other (inputs_on book q)) ∙ ap (λ b. is_among other (inputs_on book q) || (b && bytes_eq other input)) (sym apart))
    (cases_Bool (page_eq q page))

-- how many inputs a page has with a new one
counted_new : (book : Contents) (page q : PageName) (input : List ℕ) → is_among input (inputs_on book page) ≡ false → length (inputs_on (with_input book page input) q) ≡ length (inputs_on book q) + (if page_eq q page then 1 else 0)
counted_new book page q input absent =
    let put = ap length (inputs_on-with_input book page q input) in
    ⊎_elim
    (λ (same : page_eq q page ≡ true).
    let here = ap length (same_page book page q same) in
    let more = length-insert_key bytes_cmp (inputs_on book page) input (is_among-by_order input (inputs_on book page) ∙ absent) in
    put ∙ ap (λ b. length (cond b (insert_key bytes_cmp (inputs_on book page) input) (inputs_on book q))) same
    ∙ more ∙ ap (λ n. n + 1) (sym here) ∙ ap (λ b. length (inputs_on book q) + (if b then 1 else 0)) (sym same))
    (λ (apart : page_eq q page ≡ false).
    put ∙ ap (λ b. length (cond b (insert_key bytes_cmp (inputs_on book page) input) (inputs_on book q))) apart
    ∙ sym (add-zero (length (inputs_on book q))) ∙ ap (λ b. length (inputs_on book q) + (if b then 1 else 0)) (sym apart))
    (cases_Bool (page_eq q page))

-- a page has as many with one that stands there
counted_again : (book : Contents) (page q : PageName) (input : List ℕ) → IsStrictlySortedBy bytes_cmp (inputs_on book page) → is_among input (inputs_on book page) ≡ true → length (inputs_on (with_input book page input) q) ≡ length (inputs_on book q)
counted_again book page q input rising among =
    let put = ap length (inputs_on-with_input book page q input) in
    ⊎_elim
    (λ (same : page_eq q page ≡ true).
    let here = ap length (same_page book page q same) in
    let stays = insert_key-found nat_list_cmp_total (inputs_on book page) input rising (is_among-by_order input (inputs_on book page) ∙ among) in
    put ∙ ap (λ b. length (cond b (insert_key bytes_cmp (inputs_on book page) input) (inputs_on book q))) same ∙ ap length stays ∙ sym here)
    (λ (apart : page_eq q page ≡ false).
    put ∙ ap (λ b. length (cond b (insert_key bytes_cmp (inputs_on book page) input) (inputs_on book q))) apart)
    (cases_Bool (page_eq q page))

stands-append : (calls : List Call) (c : Call) (page : PageName) (input : List ℕ) → stands (calls ++ c ∷ []) page input ≡ (stands calls page input || (is_ok c.reply && (page_eq page c.page && bytes_eq input c.input)))
unfolding stands
stands-append [] c page input = sym (or_none (is_ok c.reply && (page_eq page c.page && bytes_eq input c.input)))
stands-append (d ∷ ds) c page input =
    ap (λ b. (is_ok d.reply && (page_eq page d.page && bytes_eq input d.input)) || b) (stands-append ds c page input)
    ∙ or_grouped (is_ok d.reply && (page_eq page d.page && bytes_eq input d.input)) (stands ds page input) (is_ok c.reply && (page_eq page c.page && bytes_eq input c.input))

news_on-append : (calls : List Call) (c : Call) (page : PageName) → length (news_on (calls ++ c ∷ []) page) ≡ length (news_on calls page) + (if is_new c.reply && page_eq page c.page then 1 else 0)
unfolding news_on
news_on-append [] c page = elim (is_new c.reply && page_eq page c.page) as (λ b. length (if b then c.input ∷ [] else []) ≡ 0 + (if b then 1 else 0)) [ true ↦ refl | false ↦ refl ]
news_on-append (d ∷ ds) c page =
    let more : ℕ = if is_new c.reply && page_eq page c.page then 1 else 0 in
    let later : length (news_on (ds ++ c ∷ []) page) ≡ length (news_on ds page) + more = news_on-append ds c page in
    elim (is_new d.reply && page_eq page d.page) as (λ b. length (if b then d.input ∷ news_on (ds ++ c ∷ []) page else news_on (ds ++ c ∷ []) page) ≡ length (if b then d.input ∷ news_on ds page else news_on ds page) + more) [
      | true ↦ omega (arith, later)
      | false ↦ later
    ]

abbrev call_of : ℕ → PageName → List ℕ → Result Noted BookFault → Call
call_of seat page input reply = record { seat = seat; page = page; input = input; reply = reply }

rising_on : (book : Contents) (page : PageName) → IsBook book → IsStrictlySortedBy bytes_cmp (inputs_on book page)
unfolding inputs_on
rising_on book page is_book = (exposure_found (is_at (page_cmp page)) book is_book.filled).rising

-- a book shows one more call
shows_more : (calls : List Call) (book : Contents) (seat : ℕ) (page : PageName) (input : List ℕ) (reply : Result Noted BookFault) → IsBook book → Shows calls book
    → (reply ≡ Ok New → is_among input (inputs_on book page) ≡ false) → (reply ≡ Ok Again → is_among input (inputs_on book page) ≡ true)
    → Shows (calls ++ call_of seat page input reply ∷ []) (book_after book page input reply)
shows_more calls book seat page input (Ok New) is_book shows new again = record {
  held = λ q other. held_with book page q input other ∙ ap (λ b. b || (page_eq q page && bytes_eq other input)) (shows.held q other) ∙ sym (stands-append calls (call_of seat page input (Ok New)) q other);
  counted = λ q. counted_new book page q input (new refl) ∙ ap (λ n. n + (if page_eq q page then 1 else 0)) (shows.counted q) ∙ sym (news_on-append calls (call_of seat page input (Ok New)) q);
}
shows_more calls book seat page input (Ok Again) is_book shows new again = record {
  held = λ q other. held_with book page q input other ∙ ap (λ b. b || (page_eq q page && bytes_eq other input)) (shows.held q other) ∙ sym (stands-append calls (call_of seat page input (Ok Again)) q other);
  counted = λ q. counted_again book page q input (rising_on book page is_book) (again refl) ∙ shows.counted q ∙ sym (add-zero (length (news_on calls q))) ∙ sym (news_on-append calls (call_of seat page input (Ok Again)) q);
}
shows_more calls book seat page input (Err fault) is_book shows new again = record {
  held = λ q other. shows.held q other ∙ or_none (stands calls q other) ∙ sym (stands-append calls (call_of seat page input (Err fault)) q other);
  counted = λ q. shows.counted q ∙ sym (add-zero (length (news_on calls q))) ∙ sym (news_on-append calls (call_of seat page input (Err fault)) q);
}

-- what a reply of a page says of the input
new_absent : (long among room : Bool) → cond long (Err InputTooLong) (cond among (Ok Again) (cond room (Ok New) (Err PageFull))) ≡ Ok New → among ≡ false
new_absent true among room e = cc
new_absent false true room e = absurd (true≢false (ap is_new (sym e)))
new_absent false false room e = refl

again_there : (long among room : Bool) → cond long (Err InputTooLong) (cond among (Ok Again) (cond room (Ok New) (Err PageFull))) ≡ Ok Again → among ≡ true
again_there true among room e = cc
again_there false true room e = refl
again_there false false true e = absurd (true≢false (ap is_new e))
again_there false false false e = cc

-- one more call is answered as after those before it
pub notes_one_call : NotesOneCall
unfolding reply_to reply_after
notes_one_call calls book seat page input is_book shows =
    let inputs = inputs_on book page in
    let same : reply_to book page input ≡ reply_after calls page input =
    ap₂ (λ among size. if nat_lt most_bytes (length input) then Err InputTooLong else (if among then Ok Again else (if nat_lt size most_inputs then Ok New else Err PageFull))) (shows.held page input) (shows.counted page) in
    let new = new_absent (nat_lt most_bytes (length input)) (is_among input inputs) (nat_lt (length inputs) most_inputs) in
    let again = again_there (nat_lt most_bytes (length input)) (is_among input inputs) (nat_lt (length inputs) most_inputs) in
    (same, shows_more calls book seat page input (reply_to book page input) is_book shows new again)

pub shows_none : Shows [] []
unfolding stands news_on inputs_on
shows_none = record { held = λ page input. refl; counted = λ page. refl }

book_kept : (book : Contents) (page : PageName) (input : List ℕ) (reply : Result Noted BookFault) → IsBook book → reply_to book page input ≡ reply → IsBook (book_after book page input reply)
book_kept book page input (Ok noted) is_book is = book_taken book page input is_book (ap is_ok is)
book_kept book page input (Err fault) is_book is = is_book

shows_all : (calls before : List Call) (book : Contents) → IsBook book → Shows before book → AreCallsAfter before calls → IsBook (book_of_calls book calls) × Shows (before ++ calls) (book_of_calls book calls)
shows_all [] before book is_book shows are = (is_book, subst (λ cs. Shows cs book) (sym (append-nil before)) shows)
shows_all (c ∷ cs) before book is_book shows are =
    let one = notes_one_call before book c.seat c.page c.input is_book shows in
    let is : reply_to book c.page c.input ≡ c.reply = one.0 ∙ sym are.0 in
    let after = book_after book c.page c.input c.reply in
    let shown : Shows (before ++ c ∷ []) after = subst (λ r. Shows (before ++ call_of c.seat c.page c.input r ∷ []) (book_after book c.page c.input r)) is one.1 in
    let rest = shows_all cs (before ++ c ∷ []) after (book_kept book c.page c.input c.reply is_book is) shown are.1 in
    (rest.0, subst (λ ds. Shows ds (book_of_calls after cs)) (append_assoc before (c ∷ []) cs) rest.1)

is_book_none : IsBook []
unfolding IsStrictlySortedBy
is_book_none = record { rising = tt; filled = tt }

-- the calls of a book leave a book that shows them
pub shows_its_calls : ShowsItsCalls
shows_its_calls calls are = shows_all calls [] [] is_book_none shows_none are
