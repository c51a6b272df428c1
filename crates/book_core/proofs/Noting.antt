-- What a note leaves is a book again.
use Rattle.std.proofs.Common.{◌≡◌, ◌≢◌, ℕ, ◌<◌, ◌≤◌, Bool, true, false, cond, List, [], ◌∷◌, map, length, Some, Result, Ok, Err, IsOk, OnOk, OnErr, String, string_bytes, nat_lt, unwrap_or, ◌⊎◌, inl, inr, refl, sym, ◌∙◌, arith}
use borrow.Author.Tests.{ltb-true, ltb-false, lt-ltb, le-ltb}
use Rattle.std.specs.Cmp.Lexicographic.{slice_cmp, nat_list_cmp_total}
use Rattle.std.specs.Ordering.{nat_cmp, match_ordering}
use Rattle.std.specs.declared.cmp.Ordering.TheVariants.{Less, Equal, Greater}
use Rattle.std.specs.declared.alloc.Global.{Global}
use Rattle.std.specs.List.{list_any, AllByRecursion}
use Rattle.std.specs.List.Sorted.{IsStrictlySortedBy}
use Rattle.std.specs.Map.{lookup, keys_of}
use Rattle.std.specs.BTreeMap.{is_at}
use Rattle.std.specs.BTreeSet.{insert_key}
use Rattle.std.proofs.lemmas.Map.Text.{is_eq-slice_cmp}
use Rattle.flag_text.specs.Outcome.{GivesUnless}
use Rattle.book_core.specs.Page.{PageName, bytes_cmp, page_cmp}
use Rattle.book_core.specs.PageOrder.{pages_total}
use Rattle.book_core.specs.Book.{Inputs, Contents, most_inputs, most_bytes, is_among, inputs_on, page_reply, reply_to, with_input, IsExposure, IsFilled, IsBook}
use Rattle.book_core.specs.declared.noted.Noted.{Noted}
use Rattle.book_core.specs.declared.noted.Noted.TheVariants.{New, Again}
use Rattle.book_core.specs.declared.fault.BookFault.{BookFault}
use Rattle.book_core.specs.declared.fault.BookFault.TheVariants.{PageFull, InputTooLong, WantOfMemory}
use Rattle.book_core.proofs.Ordered.{All-insert, length-insert_key, insert_key-found, sorted-insert_key, keys_of-insert_entry, All-insert_entry}

-- an input that is among others is found by its order
pub is_among-by_order : (input : List ℕ) (inputs : Inputs) → list_any (is_at (bytes_cmp input)) inputs ≡ is_among input inputs
is_among-by_order input [] = refl
is_among-by_order input (x ∷ xs) = rw (is_eq-slice_cmp input x, is_among-by_order input xs) refl

-- the same of the texts of a set
pub is_among-texts : (input : List ℕ) (keys : List (String Global)) → list_any (is_at (λ k. slice_cmp nat_cmp input (string_bytes k))) keys ≡ is_among input (map string_bytes keys)
is_among-texts input [] = refl
is_among-texts input (k ∷ ks) = rw (is_eq-slice_cmp input (string_bytes k), is_among-texts input ks) refl

pub exposure_none : IsExposure []
unfolding IsStrictlySortedBy
exposure_none = record { few = omega arith; short = tt; rising = tt }

pub exposure_found : (test : PageName → Bool) (book : Contents) → AllByRecursion (λ (e : PageName × Inputs). IsFilled e.1) book → IsExposure (unwrap_or (lookup test book) [])
exposure_found test [] filled = exposure_none
exposure_found test (e ∷ es) filled =
    let later = exposure_found test es filled.1 in
    let here : IsFilled e.1 = filled.0 in
    elim (test e.0) as (λ b. IsExposure (unwrap_or (cond b (Some e.1) (lookup test es)) [])) [
      | true ↦ here.lawful
      | false ↦ later
    ]

some_inserted : (inputs : Inputs) (input : List ℕ) → 0 < length (insert_key bytes_cmp inputs input)
some_inserted [] input = omega arith
some_inserted (x ∷ xs) input =
    elim (bytes_cmp input x) as (λ o. 0 < length (match_ordering o (input ∷ x ∷ xs) (x ∷ xs) (x ∷ insert_key bytes_cmp xs input))) [
      | Less ↦ omega arith
      | Equal ↦ omega arith
      | Greater ↦ omega arith
    ]

-- which tests a page's reply passed
taken_by : (long among room : Bool) → IsOk (cond long (Err InputTooLong) (cond among (Ok Again) (cond room (Ok New) (Err PageFull)))) → (long ≡ false) × ((among ≡ true) ⊎ ((among ≡ false) × (room ≡ true)))
taken_by true among room taken = cc
taken_by false true room taken = (refl, inl refl)
taken_by false false true taken = (refl, inr (refl, refl))
taken_by false false false taken = cc

few_inserted : (inputs : Inputs) (input : List ℕ) → IsExposure inputs → (is_among input inputs ≡ true) ⊎ ((is_among input inputs ≡ false) × (nat_lt (length inputs) most_inputs ≡ true)) → length (insert_key bytes_cmp inputs input) ≤ most_inputs
few_inserted inputs input part (inl among) =
    let same = insert_key-found nat_list_cmp_total inputs input part.rising (is_among-by_order input inputs ∙ among) in
    rw same part.few
few_inserted inputs input part (inr room) =
    let more = length-insert_key bytes_cmp inputs input (is_among-by_order input inputs ∙ room.0) in
    let below : length inputs < most_inputs = ltb-true _ _ room.1 in
    omega (arith, more, below)

-- a page that takes an input
pub filled_taken : (inputs : Inputs) (input : List ℕ) → IsExposure inputs → IsOk (page_reply inputs input) → IsFilled (insert_key bytes_cmp inputs input)
filled_taken inputs input part taken =
    let tests = taken_by (nat_lt most_bytes (length input)) (is_among input inputs) (nat_lt (length inputs) most_inputs) taken in
    let short : length input ≤ most_bytes = ltb-false _ _ tests.0 in record {
      some = some_inserted inputs input;
      lawful = record {
        few = few_inserted inputs input part tests.1;
        short = All-insert bytes_cmp (λ x. length x ≤ most_bytes) inputs input part.short short;
        rising = sorted-insert_key nat_list_cmp_total inputs input part.rising;
      };
    }

-- a book that takes an input is a book again
pub book_taken : (book : Contents) (page : PageName) (input : List ℕ) → IsBook book → IsOk (reply_to book page input) → IsBook (with_input book page input)
unfolding reply_to with_input inputs_on
book_taken book page input is_book taken =
    let inputs = unwrap_or (lookup (is_at (page_cmp page)) book) [] in
    let filled = filled_taken inputs input (exposure_found (is_at (page_cmp page)) book is_book.filled) taken in
    let more = insert_key bytes_cmp inputs input in record {
      rising = rw (keys_of-insert_entry page_cmp book page more) (sorted-insert_key pages_total (keys_of book) page is_book.rising);
      filled = All-insert_entry page_cmp IsFilled book page more is_book.filled filled;
    }

-- whatever a note answers, it leaves a book
pub book_noted : (r : Result Noted BookFault) (old new : Contents) (page : PageName) (input : List ℕ) → IsBook old → GivesUnless WantOfMemory (λ reply. reply) r (reply_to old page input) → OnOk r (new ≡ with_input old page input) → OnErr r (new ≡ old) → IsBook new
book_noted (Ok reply) old new page input is_book exact noted refused =
    let taken : IsOk (reply_to old page input) = rw exact refl in
    rw noted (book_taken old page input is_book taken)
book_noted (Err fault) old new page input is_book exact noted refused = rw refused is_book

-- the replies of a page, by what was tested
pub long_reply : (inputs : Inputs) (input : List ℕ) → most_bytes < length input → page_reply inputs input ≡ Err InputTooLong
long_reply inputs input long = rw (lt-ltb _ _ long) refl

pub again_reply : (inputs : Inputs) (input : List ℕ) → length input ≤ most_bytes → is_among input inputs ≡ true → page_reply inputs input ≡ Ok Again
again_reply inputs input short among = rw (le-ltb _ _ short, among) refl

pub full_reply : (inputs : Inputs) (input : List ℕ) → length input ≤ most_bytes → is_among input inputs ≡ false → most_inputs ≤ length inputs → page_reply inputs input ≡ Err PageFull
full_reply inputs input short among full = rw (le-ltb _ _ short, among, le-ltb _ _ full) refl

pub new_reply : (inputs : Inputs) (input : List ℕ) → length input ≤ most_bytes → is_among input inputs ≡ false → length inputs < most_inputs → page_reply inputs input ≡ Ok New
new_reply inputs input short among room = rw (le-ltb _ _ short, among, lt-ltb _ _ room) refl

-- an input that is there is not inserted again
pub again_inserted : (inputs : Inputs) (input : List ℕ) → IsStrictlySortedBy bytes_cmp inputs → is_among input inputs ≡ true → insert_key bytes_cmp inputs input ≡ inputs
again_inserted inputs input sorted among = insert_key-found nat_list_cmp_total inputs input sorted (is_among-by_order input inputs ∙ among)

-- what a definition gives may be written in another way
pub gives_along : (r wanted other : Result Noted BookFault) → other ≡ wanted → GivesUnless WantOfMemory (λ reply. reply) r wanted → GivesUnless WantOfMemory (λ reply. reply) r other
gives_along r wanted other same gives = rw same gives

-- the same of an answer that takes no memory
pub other_along : (r wanted other : Result Noted BookFault) → other ≡ wanted → (wanted ≢ Ok New → r ≡ wanted) → other ≢ Ok New → r ≡ other
other_along r wanted other same given new = given (λ e. new (same ∙ e)) ∙ sym same
