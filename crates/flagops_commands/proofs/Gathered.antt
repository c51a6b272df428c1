-- Keys that a page takes, in whatever order they are noted: they come to the same inputs.
use denote.Ref.{Bor}
use Rattle.std.proofs.Common.{◌≡◌, ◌⊎◌, inl, inr, ⊎_elim, ℕ, zero, suc, ◌+◌, ◌<◌, ◌≤◌, List, [], ◌∷◌, length, true, false, nat_le, Some, Result, Ok, Ordering, Less, Equal, Greater, refl, sym, ap, ◌∙◌, arith}
use Rattle.std.specs.BTreeSet.{insert_key}
use Rattle.std.specs.List.{All}
use Rattle.std.specs.List.Sorted.{IsPermutation, IsStrictlySortedBy}
use Rattle.std.specs.Ordering.{match_ordering}
use Rattle.std.proofs.lemmas.Bool.{and_parts, cases_Bool, leb-true}
use Rattle.std.proofs.lemmas.List.{length-map}
use Rattle.std.proofs.lemmas.List.Elements.{All-cons, All-head, All-nil, All-tail}
use Rattle.std.proofs.lemmas.Cmp.{nat_list_cmp_total}
use Rattle.std.proofs.lemmas.List.Sorted.{Contains-permutation, IsPermutation-map, IsPermutation-sym}
use Rattle.book_core.specs.Book.{Contents, Inputs, inputs_on, is_among, most_bytes, most_inputs, page_reply, reply_to, with_input}
use Rattle.book_core.specs.Page.{bytes_cmp}
use Rattle.book_core.proofs.Answered.{inputs_on-with_input}
use Rattle.book_core.proofs.Noting.{again_reply, new_reply}
use Rattle.book_core.proofs.Ordered.{sorted-insert_key}
use Rattle.book_core.proofs.Paged.{reply_to-on}
use Rattle.book_core.specs.declared.fault.BookFault.{BookFault}
use Rattle.book_core.specs.declared.noted.Noted.{Noted}
use Rattle.book_core.specs.declared.noted.Noted.TheVariants.{Again, New}
use Rattle.flagops_shell.specs.Outcomes.{◌>>=◌, refused_by}
use Rattle.flagops_commands.specs.declared.refusal.ListedRefusal.{ListedRefusal}
use Rattle.flagops_commands.specs.declared.refusal.ListedRefusal.TheVariants.{Note}
use Rattle.rule_text.specs.Texts.{texts_view}
use Rattle.flagops_commands.specs.Price.{are_short, are_taken, exposed, key_page, noted_from}
use Rattle.transport_core.proofs.Joined.{rise-nil}
use Rattle.transport_core.proofs.Members.{Stands, contains_from_place, place_from_contains, sorted_unique}
use Rattle.transport_core.proofs.Placed.{name_ties}

-- a text, without where it lies
abbrev pub now : Bor (List ℕ) → List ℕ
now s = s.now

-- the inputs of a page after these
abbrev pub gathered : Inputs → Inputs → Inputs
gathered inputs [] = inputs
gathered inputs (key ∷ keys) = gathered (insert_key bytes_cmp inputs key) keys

pub gathered-rise : (inputs keys : Inputs) → IsStrictlySortedBy bytes_cmp inputs → IsStrictlySortedBy bytes_cmp (gathered inputs keys)
gathered-rise inputs [] rise = rise
gathered-rise inputs (key ∷ keys) rise = gathered-rise (insert_key bytes_cmp inputs key) keys (sorted-insert_key nat_list_cmp_total inputs key rise)

-- ---- what stands among them

kept_at : (o : Ordering) (x key : List ℕ) (xs more : Inputs) (z : List ℕ) → (Stands xs z → Stands more z) → Stands (x ∷ xs) z → Stands (match_ordering o (key ∷ x ∷ xs) (x ∷ xs) (x ∷ more)) z
kept_at Less x key xs more z later (i, is) = (suc i, is)
kept_at Equal x key xs more z later s = s
kept_at Greater x key xs more z later (zero, is) = (zero, is)
kept_at Greater x key xs more z later (suc i, is) = let s = later (i, is) in (suc (s.0), s.1)

kept : (inputs : Inputs) (key z : List ℕ) → Stands inputs z → Stands (insert_key bytes_cmp inputs key) z
kept [] key z (i, is) = cc
kept (x ∷ xs) key z s = kept_at (bytes_cmp key x) x key xs (insert_key bytes_cmp xs key) z (kept xs key z) s

entered_at : (o : Ordering) (x key : List ℕ) (xs more : Inputs) → bytes_cmp key x ≡ o → Stands more key → Stands (match_ordering o (key ∷ x ∷ xs) (x ∷ xs) (x ∷ more)) key
entered_at Less x key xs more is later = (zero, refl)
entered_at Equal x key xs more is later = (zero, ap Some (sym (name_ties key x is)))
entered_at Greater x key xs more is later = (suc (later.0), later.1)

entered : (inputs : Inputs) (key : List ℕ) → Stands (insert_key bytes_cmp inputs key) key
entered [] key = (zero, refl)
entered (x ∷ xs) key = entered_at (bytes_cmp key x) x key xs (insert_key bytes_cmp xs key) refl (entered xs key)

head_or : (x z : List ℕ) (xs : Inputs) → Stands (x ∷ xs) z → (x ≡ z) ⊎ Stands xs z
head_or x z xs (zero, is) = let here : x ≡ z = cc in inl here
head_or x z xs (suc i, is) = inr (i, is)

behind : (x z : List ℕ) (xs : Inputs) → Stands xs z → Stands (x ∷ xs) z
behind x z xs (i, is) = (suc i, is)

first : (x z : List ℕ) (xs : Inputs) → x ≡ z → Stands (x ∷ xs) z
first x z xs same = (zero, ap Some same)

came_at : (o : Ordering) (x key z : List ℕ) (xs more : Inputs) → (Stands more z → Stands xs z ⊎ (key ≡ z)) → Stands (match_ordering o (key ∷ x ∷ xs) (x ∷ xs) (x ∷ more)) z → Stands (x ∷ xs) z ⊎ (key ≡ z)
came_at Less x key z xs more later s = ⊎_elim (λ (h : key ≡ z). inr h) (λ (h : Stands (x ∷ xs) z). inl h) (head_or key z (x ∷ xs) s)
came_at Equal x key z xs more later s = inl s
came_at Greater x key z xs more later s =
    ⊎_elim
    (λ (h : x ≡ z). inl (first x z xs h))
    (λ (h : Stands more z). ⊎_elim (λ (k : Stands xs z). inl (behind x z xs k)) (λ (k : key ≡ z). inr k) (later h))
    (head_or x z more s)

came : (inputs : Inputs) (key z : List ℕ) → Stands (insert_key bytes_cmp inputs key) z → Stands inputs z ⊎ (key ≡ z)
came [] key z s = ⊎_elim (λ (h : key ≡ z). inr h) (λ (h : Stands [] z). inl h) (head_or key z [] s)
came (x ∷ xs) key z s = came_at (bytes_cmp key x) x key z xs (insert_key bytes_cmp xs key) (came xs key z) s

gathered-kept : (inputs keys : Inputs) (z : List ℕ) → Stands inputs z → Stands (gathered inputs keys) z
gathered-kept inputs [] z s = s
gathered-kept inputs (key ∷ keys) z s = gathered-kept (insert_key bytes_cmp inputs key) keys z (kept inputs key z s)

entered_as : (inputs : Inputs) (key z : List ℕ) → key ≡ z → Stands (insert_key bytes_cmp inputs key) z
entered_as inputs key z same = let s = entered inputs key in (s.0, s.1 ∙ ap Some same)

pub gathered-entered : (inputs keys : Inputs) (z : List ℕ) → Stands keys z → Stands (gathered inputs keys) z
gathered-entered inputs [] z (i, is) = cc
gathered-entered inputs (key ∷ keys) z (zero, is) =
    let here : key ≡ z = cc in
    gathered-kept (insert_key bytes_cmp inputs key) keys z (entered_as inputs key z here)
gathered-entered inputs (key ∷ keys) z (suc i, is) = gathered-entered (insert_key bytes_cmp inputs key) keys z (i, is)

pub gathered-came : (inputs keys : Inputs) (z : List ℕ) → Stands (gathered inputs keys) z → Stands inputs z ⊎ Stands keys z
gathered-came inputs [] z s = inl s
gathered-came inputs (key ∷ keys) z s =
    ⊎_elim
    (λ (h : Stands (insert_key bytes_cmp inputs key) z). ⊎_elim (λ (k : Stands inputs z). inl k) (λ (k : key ≡ z). inr (first key z keys k)) (came inputs key z h))
    (λ (h : Stands keys z). inr (behind key z keys h))
    (gathered-came (insert_key bytes_cmp inputs key) keys z s)

pub none_stands : {X : Type 0} (z : List ℕ) → Stands [] z → X
none_stands z (i, is) = cc

moved : (keys sorted : Inputs) → IsPermutation keys sorted → (z : List ℕ) → Stands (gathered [] keys) z → Stands (gathered [] sorted) z
moved keys sorted same z s =
    gathered-entered [] sorted z
    (⊎_elim (λ (h : Stands [] z). none_stands z h) (λ (h : Stands keys z). place_from_contains sorted z (Contains-permutation keys sorted z same (contains_from_place keys z h))) (gathered-came [] keys z s))

-- in another order they come to the same
pub gathered-moved : (keys sorted : Inputs) → IsPermutation keys sorted → gathered [] keys ≡ gathered [] sorted
gathered-moved keys sorted same =
    sorted_unique bytes_cmp nat_list_cmp_total (gathered [] keys) (gathered [] sorted) (gathered-rise [] keys (rise-nil bytes_cmp)) (gathered-rise [] sorted (rise-nil bytes_cmp)) (moved keys sorted same)
    (moved sorted keys (IsPermutation-sym keys sorted same))

-- ---- what is noted

longer_at : (o : Ordering) (x key : List ℕ) (xs more : Inputs) → length more ≤ length xs + 1 → length (match_ordering o (key ∷ x ∷ xs) (x ∷ xs) (x ∷ more)) ≤ length (x ∷ xs) + 1
longer_at Less x key xs more later = omega arith
longer_at Equal x key xs more later = omega arith
longer_at Greater x key xs more later = omega arith

longer : (inputs : Inputs) (key : List ℕ) → length (insert_key bytes_cmp inputs key) ≤ length inputs + 1
longer [] key = omega arith
longer (x ∷ xs) key = longer_at (bytes_cmp key x) x key xs (insert_key bytes_cmp xs key) (longer xs key)

abbrev IsShort : List ℕ → Type 0
IsShort key = length key ≤ most_bytes

taken : (inputs : Inputs) (key : List ℕ) → IsShort key → length inputs < most_inputs → (reply : Noted) × (page_reply inputs key ≡ Ok reply)
taken inputs key short few =
    ⊎_elim
    (λ (again : is_among key inputs ≡ true). (Again, again_reply inputs key short again))
    (λ (new : is_among key inputs ≡ false). (New, new_reply inputs key short new few))
    (cases_Bool (is_among key inputs))

-- the inputs of the page after the keys, or the first refusal of one
abbrev exposed_from : Contents → Inputs → Result Inputs ListedRefusal
exposed_from book keys = noted_from book keys >>= λ after. Ok (inputs_on after key_page)

noted-gathered : (book : Contents) (keys : Inputs) → All IsShort keys → length (inputs_on book key_page) + length keys ≤ most_inputs → exposed_from book keys ≡ Ok (gathered (inputs_on book key_page) keys)
noted-gathered book [] short few = refl
noted-gathered book (key ∷ keys) short few =
    let inputs = inputs_on book key_page in
    let next = with_input book key_page key in
    let reply = taken inputs key (All-head IsShort key keys short) (omega arith) in
    let replied : reply_to book key_page key ≡ Ok reply.0 = reply_to-on book key_page key inputs refl ∙ reply.1 in
    let on : inputs_on next key_page ≡ insert_key bytes_cmp inputs key = inputs_on-with_input book key_page key_page key in
    ap (λ (r : Result Noted BookFault). (refused_by Note r >>= λ _. noted_from next keys) >>= λ after. Ok (inputs_on after key_page)) replied
    ∙ noted-gathered next keys (All-tail IsShort key keys short) (omega (arith, ap length on, longer inputs key))
    ∙ ap (λ (s : Inputs). Ok (gathered s keys)) on

none_yet : inputs_on [] key_page ≡ []
unfolding inputs_on
none_yet = refl

exposed-gathered : (keys : Inputs) → All IsShort keys → length keys ≤ most_inputs → exposed keys ≡ Ok (gathered [] keys)
exposed-gathered keys short few = noted-gathered [] keys short (omega (arith, ap length none_yet)) ∙ ap (λ (s : Inputs). Ok (gathered s keys)) none_yet

all_short : (keys : List (Bor (List ℕ))) → are_short keys ≡ true → All IsShort (texts_view keys)
all_short [] passes = All-nil IsShort
all_short (key ∷ keys) passes =
    let parts = and_parts (nat_le (length key.now) most_bytes) (are_short keys) passes in
    All-cons IsShort key.now (texts_view keys) (leb-true (length key.now) most_bytes parts.0) (all_short keys parts.1)

pub few_taken : (keys : List (Bor (List ℕ))) → are_taken keys ≡ true → length keys ≤ most_inputs
few_taken keys passes = leb-true (length keys) most_inputs (and_parts (nat_le (length keys) most_inputs) (are_short keys) passes).0

abbrev AreTaken : Inputs → Type 0
AreTaken keys = All IsShort keys × (length keys ≤ most_inputs)

taken_texts : (keys : List (Bor (List ℕ))) → are_taken keys ≡ true → AreTaken (texts_view keys)
taken_texts keys passes =
    (all_short keys (and_parts (nat_le (length keys) most_inputs) (are_short keys) passes).1, omega (arith, length-map keys now, few_taken keys passes))

-- keys that a page takes, in another order: what is gathered of them so
pub exposed-moved : (keys sorted : List (Bor (List ℕ))) → are_taken keys ≡ true → IsPermutation keys sorted → exposed (texts_view keys) ≡ Ok (gathered [] (texts_view sorted))
exposed-moved keys sorted passes same =
    let texts = texts_view keys in
    let taken = taken_texts keys passes in
    exposed-gathered texts taken.0 taken.1 ∙ ap Ok (gathered-moved texts (texts_view sorted) (IsPermutation-map now keys sorted same))
