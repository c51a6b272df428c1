-- What noting the inputs of one book in another comes to: their union, or none.
use Rattle.std.proofs.Common.{◌≡◌, ℕ, ◌≤◌, Bool, true, false, cond, ◌||◌, ◌&&◌, List, [], ◌∷◌, length, Some, Result, Ok, Err, IsOk, nat_lt, unwrap_or, ⊎_elim, refl, sym, ap, inl, inr, ◌⊎◌, ◌∙◌, arith}
use borrow.Author.Tests.{ltb-false, le-ltb}
use Rattle.std.specs.declared.cmp.Ordering.TheVariants.{Less, Equal}
use Rattle.std.specs.Cmp.{Equal-is, tied_itself}
use Rattle.std.specs.Cmp.Lexicographic.{nat_list_cmp_total}
use Rattle.std.specs.Ordering.{is_eq}
use Rattle.std.specs.List.{list_any, AllByRecursion}
use Rattle.std.specs.Map.{lookup, keys_of}
use Rattle.std.specs.Str.{bytes_eq}
use Rattle.std.specs.BTreeMap.{is_at}
use Rattle.std.specs.BTreeSet.{insert_key}
use Rattle.std.specs.List.Sorted.{IsStrictlySortedBy}
use Rattle.std.proofs.lemmas.Slice.Eq.{bytes_eq-Decides}
use Rattle.flag_text.specs.Outcome.{GivesUnless}
use Rattle.book_core.specs.Page.{PageName, bytes_cmp, page_cmp, page_eq}
use Rattle.book_core.specs.PageOrder.{pages_total}
use Rattle.book_core.specs.Book.{Inputs, Contents, most_inputs, most_bytes, is_among, inputs_on, reply_to, with_input, IsExposure, IsFilled, IsBook}
use Rattle.book_core.specs.Union.{Unites, after_reply, with_inputs, with_pages}
use Rattle.book_core.specs.declared.noted.Noted.TheVariants.{New, Again}
use Rattle.book_core.specs.declared.fault.BookFault.{BookFault}
use Rattle.book_core.specs.declared.fault.BookFault.TheVariants.{PageFull, InputTooLong, LastCall, Stranger, WantOfMemory}
use Rattle.book_core.proofs.Answered.{held_with, inputs_on-with_input, same_page}
use Rattle.book_core.proofs.Included.{as_many}
use Rattle.book_core.proofs.Noting.{is_among-by_order, book_taken, exposure_found}
use Rattle.book_core.proofs.Ordered.{All-weaker, length-insert_key, sorted-insert_key}

or_true : (b : Bool) → (b || true) ≡ true
or_true true = refl
or_true false = refl

or_none : (a : Bool) → a ≡ (a || false)
or_none true = refl
or_none false = refl

and_none : (a : Bool) → (a && false) ≡ false
and_none true = refl
and_none false = refl

joined : (a p e l : Bool) → ((a || (p && e)) || (p && l)) ≡ (a || (p && (e || l)))
joined true p e l = refl
joined false true e l = refl
joined false false e l = refl

grouped : (a b c : Bool) → ((a || b) || c) ≡ (a || (b || c))
grouped true b c = refl
grouped false b c = refl

either : (a b : Bool) → (a || b) ≡ true → (a ≡ true) ⊎ (b ≡ true)
either true b found = inl refl
either false b found = inr found

both_true : (a b : Bool) → (a && b) ≡ true → (a ≡ true) × (b ≡ true)
both_true true b found = (refl, found)
both_true false b found = cc

-- ---- what is held

-- an input stands on a page of this name among pages
abbrev pub stands_on : PageName → List ℕ → Contents → Bool
stands_on q other es = list_any (λ (e : PageName × Inputs). page_eq q e.0 && is_among other e.1) es

held_inputs : (inputs : Inputs) (book both : Contents) (page q : PageName) (other : List ℕ) → with_inputs book page inputs ≡ Ok both → is_among other (inputs_on both q) ≡ (is_among other (inputs_on book q) || (page_eq q page && is_among other inputs))
held_inputs [] book both page q other done =
    let same : book ≡ both = cc in
    rw (sym same, and_none (page_eq q page)) (or_none (is_among other (inputs_on book q)))
held_inputs (input ∷ inputs) book both page q other done =
    elim (reply_to book page input) as (λ r. after_reply r (with_inputs (with_input book page input) page inputs) ≡ Ok both → is_among other (inputs_on both q) ≡ (is_among other (inputs_on book q) || (page_eq q page && is_among other (input ∷ inputs)))) [
      | Ok reply ↦ λ e.
          held_inputs inputs (with_input book page input) both page q other e
          ∙ ap (λ b. b || (page_eq q page && is_among other inputs)) (held_with book page q input other)
          ∙ joined (is_among other (inputs_on book q)) (page_eq q page) (bytes_eq other input) (is_among other inputs)
      | Err fault ↦ λ e. cc
    ] done

held_pages : (es book both : Contents) (q : PageName) (other : List ℕ) → with_pages (Ok book) es ≡ Ok both → is_among other (inputs_on both q) ≡ (is_among other (inputs_on book q) || stands_on q other es)
held_pages [] book both q other done =
    let same : book ≡ both = cc in
    rw (sym same) (or_none (is_among other (inputs_on book q)))
held_pages (e ∷ es) book both q other done =
    elim (with_inputs book e.0 e.1) as (λ r. with_inputs book e.0 e.1 ≡ r → with_pages r es ≡ Ok both → is_among other (inputs_on both q) ≡ (is_among other (inputs_on book q) || stands_on q other (e ∷ es))) [
      | Ok next ↦ λ is h.
          held_pages es next both q other h
          ∙ ap (λ b. b || stands_on q other es) (held_inputs e.1 book next e.0 q other is)
          ∙ grouped (is_among other (inputs_on book q)) (page_eq q e.0 && is_among other e.1) (stands_on q other es)
      | Err fault ↦ λ is h. cc
    ] refl done

-- ---- what is left is a book

book_inputs : (inputs : Inputs) (book both : Contents) (page : PageName) → with_inputs book page inputs ≡ Ok both → IsBook book → IsBook both
book_inputs [] book both page done is_book = let same : book ≡ both = cc in rw (sym same) is_book
book_inputs (input ∷ inputs) book both page done is_book =
    elim (reply_to book page input) as (λ r. reply_to book page input ≡ r → after_reply r (with_inputs (with_input book page input) page inputs) ≡ Ok both → IsBook both) [
      | Ok reply ↦ λ is e.
          let taken : IsOk (reply_to book page input) = rw is refl in
          book_inputs inputs (with_input book page input) both page e (book_taken book page input is_book taken)
      | Err fault ↦ λ is e. cc
    ] refl done

book_pages : (es book both : Contents) → with_pages (Ok book) es ≡ Ok both → IsBook book → IsBook both
book_pages [] book both done is_book = let same : book ≡ both = cc in rw (sym same) is_book
book_pages (e ∷ es) book both done is_book =
    elim (with_inputs book e.0 e.1) as (λ r. with_inputs book e.0 e.1 ≡ r → with_pages r es ≡ Ok both → IsBook both) [
      | Ok next ↦ λ is h. book_pages es next both h (book_inputs e.1 book next e.0 is is_book)
      | Err fault ↦ λ is h. cc
    ] refl done

-- ---- where a note is refused there is no union

abbrev Includes : Contents → Contents → Type 0
Includes some all = (q : PageName) (other : List ℕ) → is_among other (inputs_on some q) ≡ true → is_among other (inputs_on all q) ≡ true

refused_by : (long among room : Bool) (fault : BookFault) → cond long (Err InputTooLong) (cond among (Ok Again) (cond room (Ok New) (Err PageFull))) ≡ Err fault → long ≡ false → (fault ≡ PageFull) × (among ≡ false) × (room ≡ false)
refused_by true among room fault is short = cc
refused_by false true room fault is short = cc
refused_by false false true fault is short = cc
refused_by false false false fault is short = let same : PageFull ≡ fault = cc in (sym same, refl, refl)

includes_more : (book both : Contents) (page : PageName) (input : List ℕ) → Includes book both → is_among input (inputs_on both page) ≡ true → ((other : List ℕ) → bytes_eq other input ≡ true → is_among other (inputs_on both page) ≡ true) → Includes (with_input book page input) both
includes_more book both page input includes here alike q other among =
    ⊎_elim
    (λ (before : is_among other (inputs_on book q) ≡ true). includes q other before)
    (λ (new : (page_eq q page && bytes_eq other input) ≡ true).
    let parts = both_true (page_eq q page) (bytes_eq other input) new in
    ap (is_among other) (same_page both page q parts.0) ∙ alike other parts.1)
    (either (is_among other (inputs_on book q)) (page_eq q page && bytes_eq other input) (sym (held_with book page q input other) ∙ among))

-- a page that would have more than it takes
no_room : (book both : Contents) (page : PageName) (input : List ℕ) → IsBook book → IsBook both → Includes (with_input book page input) both → is_among input (inputs_on book page) ≡ false → nat_lt (length (inputs_on book page)) most_inputs ≡ false → ⊥
unfolding inputs_on
no_room book both page input is_book is_both includes absent full =
    let has = inputs_on book page in
    let all = inputs_on both page in
    let part : IsExposure has = exposure_found (is_at (page_cmp page)) book is_book.filled in
    let whole : IsExposure all = exposure_found (is_at (page_cmp page)) both is_both.filled in
    let own : page_eq page page ≡ true = ap is_eq (tied_itself pages_total page) in
    let put : inputs_on (with_input book page input) page ≡ insert_key bytes_cmp has input = inputs_on-with_input book page page input ∙ ap (λ b. cond b (insert_key bytes_cmp has input) has) own in
    let inside : (k : List ℕ) → list_any (is_at (bytes_cmp k)) (insert_key bytes_cmp has input) ≡ true → list_any (is_at (bytes_cmp k)) all ≡ true = λ k found.
    is_among-by_order k all ∙ includes page k (ap (is_among k) put ∙ sym (is_among-by_order k (insert_key bytes_cmp has input)) ∙ found) in
    let fewer = as_many nat_list_cmp_total (insert_key bytes_cmp has input) all (sorted-insert_key nat_list_cmp_total has input part.rising) whole.rising inside in
    let more = length-insert_key bytes_cmp has input (is_among-by_order input has ∙ absent) in
    let at_most : most_inputs ≤ length has = ltb-false _ _ full in
    let few = whole.few in
    absurd (omega (arith, fewer, more, at_most, few))

-- the first of these inputs, and what reads the same, stands on the page
first_in : (both : Contents) (page : PageName) (input : List ℕ) (inputs : Inputs) → ((other : List ℕ) → is_among other (input ∷ inputs) ≡ true → is_among other (inputs_on both page) ≡ true) → (is_among input (inputs_on both page) ≡ true) × ((other : List ℕ) → bytes_eq other input ≡ true → is_among other (inputs_on both page) ≡ true)
first_in both page input inputs all =
    let own : bytes_eq input input ≡ true = (bytes_eq-Decides input input).1 refl in
    (all input (rw own refl), λ other alike. all other (rw alike refl))

inputs_refused : (inputs : Inputs) (book : Contents) (page : PageName) (fault : BookFault) → with_inputs book page inputs ≡ Err fault → IsBook book → AllByRecursion (λ (input : List ℕ). length input ≤ most_bytes) inputs
    → (fault ≡ PageFull) × ((both : Contents) → IsBook both → Includes book both → ((other : List ℕ) → is_among other inputs ≡ true → is_among other (inputs_on both page) ≡ true) → ⊥)
unfolding reply_to
inputs_refused [] book page fault refused is_book short = cc
inputs_refused (input ∷ inputs) book page fault refused is_book short =
    let later = with_inputs (with_input book page input) page inputs in
    let has = inputs_on book page in
    elim (reply_to book page input) as (λ r. reply_to book page input ≡ r → after_reply r later ≡ Err fault → (fault ≡ PageFull) × ((both : Contents) → IsBook both → Includes book both → ((other : List ℕ) → is_among other (input ∷ inputs) ≡ true → is_among other (inputs_on both page) ≡ true) → ⊥)) [
      | Ok reply ↦ λ is e.
          let taken : IsOk (reply_to book page input) = rw is refl in
          let rest = inputs_refused inputs (with_input book page input) page fault e (book_taken book page input is_book taken) short.1 in (
            rest.0,
            λ both is_both includes all.
                let first = first_in both page input inputs all in
                rest.1 both is_both (includes_more book both page input includes first.0 first.1) (λ other among. all other (rw among (or_true (bytes_eq other input)))),
          )
      | Err other ↦ λ is e.
          let same : other ≡ fault = cc in
          let why = refused_by (nat_lt most_bytes (length input)) (is_among input has) (nat_lt (length has) most_inputs) other is (le-ltb _ _ short.0) in (
            sym same ∙ why.0,
            λ both is_both includes all.
                let first = first_in both page input inputs all in
                no_room book both page input is_book is_both (includes_more book both page input includes first.0 first.1) why.1 why.2,
          )
    ] refl refused

pages_refused : (es book : Contents) (fault : BookFault) → with_pages (Ok book) es ≡ Err fault → IsBook book → AllByRecursion (λ (e : PageName × Inputs). IsFilled e.1) es
    → (fault ≡ PageFull) × ((both : Contents) → IsBook both → Includes book both → ((q : PageName) (other : List ℕ) → stands_on q other es ≡ true → is_among other (inputs_on both q) ≡ true) → ⊥)
pages_refused [] book fault refused is_book filled = cc
pages_refused (e ∷ es) book fault refused is_book filled =
    let own : page_eq e.0 e.0 ≡ true = ap is_eq (tied_itself pages_total e.0) in
    let here : IsFilled e.1 = filled.0 in
    elim (with_inputs book e.0 e.1) as (λ r. with_inputs book e.0 e.1 ≡ r → with_pages r es ≡ Err fault → (fault ≡ PageFull) × ((both : Contents) → IsBook both → Includes book both → ((q : PageName) (other : List ℕ) → stands_on q other (e ∷ es) ≡ true → is_among other (inputs_on both q) ≡ true) → ⊥)) [
      | Ok next ↦ λ is h.
          let rest = pages_refused es next fault h (book_inputs e.1 book next e.0 is is_book) filled.1 in (
            rest.0,
            λ both is_both includes all.
                rest.1 both is_both
                (λ q other among. ⊎_elim
                (λ (before : is_among other (inputs_on book q) ≡ true). includes q other before)
                (λ (new : (page_eq q e.0 && is_among other e.1) ≡ true). all q other (rw new refl))
                (either (is_among other (inputs_on book q)) (page_eq q e.0 && is_among other e.1) (sym (held_inputs e.1 book next e.0 q other is) ∙ among)))
                (λ q other among. all q other (rw among (or_true (page_eq q e.0 && is_among other e.1)))),
          )
      | Err other ↦ λ is h.
          let same : other ≡ fault = cc in
          let why = inputs_refused e.1 book e.0 other is is_book here.lawful.short in
          (sym same ∙ why.0, λ both is_both includes all. why.1 both is_both includes (λ input among. all e.0 input (rw (own, among) refl)))
    ] refl refused

-- ---- the pages of a book, one by one, hold what the book holds

stands_nowhere : (es : Contents) (q : PageName) (other : List ℕ) → AllByRecursion (λ y. page_cmp q y ≡ Less) (keys_of es) → stands_on q other es ≡ false
stands_nowhere [] q other below = refl
stands_nowhere (e ∷ es) q other below =
    let here : page_eq q e.0 ≡ false = ap is_eq below.0 in
    rw (here, stands_nowhere es q other below.1) refl

stands_held : (es : Contents) (q : PageName) (other : List ℕ) → IsStrictlySortedBy page_cmp (keys_of es) → stands_on q other es ≡ is_among other (inputs_on es q)
unfolding inputs_on IsStrictlySortedBy
stands_held [] q other rising = refl
stands_held (e ∷ es) q other rising =
    elim (page_eq q e.0) as (λ b. page_eq q e.0 ≡ b → ((b && is_among other e.1) || stands_on q other es) ≡ is_among other (unwrap_or (cond b (Some e.1) (lookup (is_at (page_cmp q)) es)) [])) [
      | true ↦ λ is.
          let tied : page_cmp q e.0 ≡ Equal = (Equal-is (page_cmp q e.0)).0 is in
          let below = All-weaker (λ y. page_cmp e.0 y ≡ Less) (λ y. page_cmp q y ≡ Less) (keys_of es) (λ y low. pages_total.congr q e.0 y tied ∙ low) rising.0 in
          ap (λ b. is_among other e.1 || b) (stands_nowhere es q other below) ∙ sym (or_none (is_among other e.1))
      | false ↦ λ is. stands_held es q other rising.1
    ] refl

pub united : (r : Result Contents BookFault) (one other : Contents) → IsBook one → IsBook other → GivesUnless WantOfMemory (λ both. both) r (with_pages (Ok one) other) → Unites one other r
united (Ok both) one other is_one is_other gives = record {
  lawful = book_pages other one both gives is_one;
  held = λ page input. held_pages other one both page input gives ∙ ap (λ b. is_among input (inputs_on one page) || b) (stands_held other page input is_other.rising);
}
united (Err WantOfMemory) one other is_one is_other gives = tt
united (Err PageFull) one other is_one is_other gives = λ both is_union.
    let why = pages_refused other one PageFull (gives (λ e. cc)) is_one is_other.filled in
    why.1 both is_union.lawful
    (λ q input among. is_union.held q input ∙ ap (λ b. b || is_among input (inputs_on other q)) among)
    (λ q input among. is_union.held q input ∙ ap (λ b. is_among input (inputs_on one q) || b) (sym (stands_held other q input is_other.rising) ∙ among) ∙ or_true (is_among input (inputs_on one q)))
united (Err InputTooLong) one other is_one is_other gives =
    let why = pages_refused other one InputTooLong (gives (λ e. cc)) is_one is_other.filled in let no = why.0 in cc
united (Err LastCall) one other is_one is_other gives =
    let why = pages_refused other one LastCall (gives (λ e. cc)) is_one is_other.filled in let no = why.0 in cc
united (Err Stranger) one other is_one is_other gives =
    let why = pages_refused other one Stranger (gives (λ e. cc)) is_one is_other.filled in let no = why.0 in cc

-- what a definition gives may be written in another way
pub along : (r wanted other : Result Contents BookFault) → wanted ≡ other → GivesUnless WantOfMemory (λ both. both) r wanted → GivesUnless WantOfMemory (λ both. both) r other
along r wanted other same gives = rw (sym same) gives
