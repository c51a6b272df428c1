-- What the book does is what the machine does.
use Rattle.std.proofs.Common.{◌≡◌, ℕ, ◌+◌, ◌≤◌, ◌<◌, Bool, true, false, List, [], ◌∷◌, ◌++◌, length, sum_by, nat_lt, if◌then◌else◌, unwrap_or, option_map, Option, None, Some, Result, Ok, Err, refl, sym, ap, ◌∙◌, subst, arith}
use Rattle.std.specs.BTreeMap.{is_at, insert_entry}
use Rattle.std.specs.BTreeSet.{insert_key}
use Rattle.std.specs.List.Sorted.{IsStrictlySortedBy}
use Rattle.std.specs.Map.{lookup, values_of}
use Rattle.std.proofs.lemmas.Bool.{lt-ltb, le-ltb}
use Rattle.std.proofs.lemmas.Cmp.{nat_list_cmp_total}
use Rattle.std.proofs.lemmas.List.Sums.{sum_by-cons, sum_by_push}
use Rattle.std.proofs.lemmas.Map.Entries.{sum_by-insert_entry}
use Rattle.book_core.specs.Book.{Inputs, Contents, IsBook, input_count, inputs_on, is_among, most_bytes, most_inputs, reply_to, with_input}
use Rattle.book_core.specs.Calls.{Call, Shows, book_after, is_new, reply_after}
use Rattle.book_core.specs.Page.{PageName, bytes_cmp, page_cmp}
use Rattle.book_core.specs.PageOrder.{pages_total}
use Rattle.book_core.specs.declared.noted.Noted.{Noted}
use Rattle.book_core.specs.declared.noted.Noted.TheVariants.{New, Again}
use Rattle.book_core.specs.declared.fault.BookFault.{BookFault}
use Rattle.book_core.specs.declared.fault.BookFault.TheVariants.{InputTooLong, PageFull, Stranger}
use Rattle.book_core.proofs.Answered.{notes_one_call}
use Rattle.book_core.proofs.Noting.{book_taken, exposure_found, is_among-by_order}
use Rattle.book_core.proofs.Ordered.{insert_key-found, length-insert_key}
use Rattle.snap_core.specs.Agreement.{Agrees, Steps}
use Rattle.snap_core.specs.Event.{notes, seals, noted, sealed, refused}
use Rattle.snap_core.specs.World.{State, Outcome, news, refuses, noting, noting_from}
use Rattle.snap_core.specs.WorldView.{Stored}
use Rattle.snap_core.specs.declared.event.Refusal.TheVariants.{Book, AlreadySealed}

-- ---- counts

-- what the tests of a page's reply have found
new_is_absent : (long among room : Bool) → (let r : Result Noted BookFault = if long then Err InputTooLong else (if among then Ok Again else (if room then Ok New else Err PageFull)) in r) ≡ Ok New → among ≡ false
new_is_absent true among room h = absurd (cc)
new_is_absent false true room h = absurd (cc)
new_is_absent false false room h = refl

again_is_among : (long among room : Bool) → (let r : Result Noted BookFault = if long then Err InputTooLong else (if among then Ok Again else (if room then Ok New else Err PageFull)) in r) ≡ Ok Again → among ≡ true
again_is_among true among room h = absurd (cc)
again_is_among false true room h = refl
again_is_among false false true h = absurd (cc)
again_is_among false false false h = absurd (cc)

-- the inputs of the pages sum to all inputs
values_sum : (book : Contents) → sum_by (λ (inputs : Inputs). length inputs) (values_of book) ≡ input_count book
values_sum [] = refl
values_sum (e ∷ es) =
    sum_by-cons (λ (inputs : Inputs). length inputs) e.1 (values_of es)
    ∙ (ap (λ n. length e.1 + n) (values_sum es) ∙ sym (sum_by-cons (λ (f : PageName × Inputs). length f.1) e es))

length_found : (o : Option Inputs) → unwrap_or (option_map (λ (inputs : Inputs). length inputs) o) 0 ≡ length (unwrap_or o [])
length_found None = refl
length_found (Some inputs) = refl

module _ (book : Contents) (page : PageName) (input : List ℕ) (lawful : IsBook book) where
  -- all inputs with those of one page exchanged
  exchanged : (inputs : Inputs) → input_count (insert_entry page_cmp book page inputs) + length (inputs_on book page) ≡ input_count book + length inputs
  unfolding inputs_on
  exchanged inputs =
      let sums = sum_by-insert_entry (λ (xs : Inputs). length xs) pages_total book page inputs lawful.rising in
      let after = values_sum (insert_entry page_cmp book page inputs) in
      let before = values_sum book in
      let found = length_found (lookup (is_at (page_cmp page)) book) in
      omega (arith, sums, after, before, found)

  pub counted_new : reply_to book page input ≡ Ok New → input_count (with_input book page input) ≡ input_count book + 1
  unfolding reply_to with_input
  counted_new is =
      let inputs = inputs_on book page in
      let none : is_among input inputs ≡ false = new_is_absent (nat_lt most_bytes (length input)) (is_among input inputs) (nat_lt (length inputs) most_inputs) is in
      let more : length (insert_key bytes_cmp inputs input) ≡ length inputs + 1 = length-insert_key bytes_cmp inputs input (is_among-by_order input inputs ∙ none) in
      let all = exchanged (insert_key bytes_cmp inputs input) in
      omega (arith, more, all)

  pub counted_again : reply_to book page input ≡ Ok Again → input_count (with_input book page input) ≡ input_count book
  unfolding reply_to with_input inputs_on
  counted_again is =
      let inputs = inputs_on book page in
      let there : is_among input inputs ≡ true = again_is_among (nat_lt most_bytes (length input)) (is_among input inputs) (nat_lt (length inputs) most_inputs) is in
      let rising : IsStrictlySortedBy bytes_cmp inputs = (exposure_found (is_at (page_cmp page)) book lawful.filled).rising in
      let same : length (insert_key bytes_cmp inputs input) ≡ length inputs = ap (λ (xs : Inputs). length xs) (insert_key-found nat_list_cmp_total inputs input rising (is_among-by_order input inputs ∙ there)) in
      let all = exchanged (insert_key bytes_cmp inputs input) in
      omega (arith, same, all)

-- each accepted input is counted once
pub counted_note : (book : Contents) (page : PageName) (input : List ℕ) (reply : Noted) → IsBook book → reply_to book page input ≡ Ok reply → input_count (with_input book page input) ≡ input_count book + (if is_new (Ok reply) then 1 else 0)
counted_note book page input New lawful is = counted_new book page input lawful is
counted_note book page input Again lawful is = let same = counted_again book page input lawful is in omega (arith, same)

pub news-push : (calls : List Call) (c : Call) → news (calls ++ c ∷ []) ≡ news calls + (if is_new c.reply then 1 else 0)
news-push calls c = sum_by_push (λ (d : Call). if is_new d.reply then 1 else 0) calls c

-- ---- events

module _ (old : Stored) (seat : ℕ) (page : PageName) (input : List ℕ) where
  -- an event of the book in a state that is unsealed, from a seat that there is
  from_seat : (s : State) → Agrees s old → old.is_sealed ≡ false → seat < old.seats → (o : Outcome) → noting s seat page input (reply_after s.calls page input) ≡ o
      → (let p : Outcome = if s.is_sealed then refuses AlreadySealed s else noting_from s seat page input in p) ≡ o
  from_seat s a unsealed seated o is =
      let opened : s.is_sealed ≡ false = sym a.is_sealed ∙ unsealed in
      let sits : nat_lt seat s.seats ≡ true = lt-ltb seat s.seats (subst (λ n. seat < n) a.seats seated) in
      ap (λ b. let p : Outcome = if b then refuses AlreadySealed s else noting_from s seat page input in p) opened
      ∙ (ap (λ b. let p : Outcome = if b then noting s seat page input (reply_after s.calls page input) else refuses (Book Stranger) s in p) sits ∙ is)

  pub note_done : (book : Contents) (reply : Noted) → old.is_sealed ≡ false → seat < old.seats → reply_to old.book page input ≡ Ok reply → book ≡ with_input old.book page input → Steps old (notes seat page input) (noted reply) (record old { book = book })
  note_done book reply unsealed seated is put s a =
      let law = notes_one_call s.calls old.book seat page input a.lawful a.shown in
      let call : Call = record { seat = seat; page = page; input = input; reply = Ok reply } in
      let t : State = record s { calls = s.calls ++ call ∷ [] } in
      let answered : reply_after s.calls page input ≡ Ok reply = sym law.0 ∙ is in
      let shows : Shows (s.calls ++ call ∷ []) book =
      subst (λ (b : Contents). Shows (s.calls ++ call ∷ []) b) (sym put)
      (subst (λ (r : Result Noted BookFault). Shows (s.calls ++ record { seat = seat; page = page; input = input; reply = r } ∷ []) (book_after old.book page input r)) is law.1) in
      let kept : IsBook book = subst IsBook (sym put) (book_taken old.book page input a.lawful (rw is refl)) in
      let count : input_count book ≡ news (s.calls ++ call ∷ []) =
      ap input_count put ∙ (counted_note old.book page input reply a.lawful is ∙ (ap (λ n. n + (if is_new (Ok reply) then 1 else 0)) a.counted ∙ sym (news-push s.calls call))) in (
        t,
        sym (from_seat s a unsealed seated (noted reply, t) (ap (noting s seat page input) answered)),
        record { sources = a.sources; current = a.current; members = a.members; next = a.next; lawful = kept; shown = shows; counted = count; seats = a.seats; is_sealed = a.is_sealed },
      )

  pub note_refused : (book : Contents) (fault : BookFault) → old.is_sealed ≡ false → seat < old.seats → book ≡ old.book → reply_to old.book page input ≡ Err fault → Steps old (notes seat page input) (refused (Book fault)) (record old { book = book })
  note_refused book fault unsealed seated same is s a =
      let law = notes_one_call s.calls old.book seat page input a.lawful a.shown in (
        s,
        sym (from_seat s a unsealed seated (refuses (Book fault) s) (ap (noting s seat page input) (sym law.0 ∙ is))),
        record { sources = a.sources; current = a.current; members = a.members; next = a.next; lawful = subst IsBook (sym same) a.lawful; shown = subst (Shows s.calls) (sym same) a.shown; counted = ap input_count same ∙ a.counted; seats = a.seats; is_sealed = a.is_sealed },
      )

  pub note_stranger : old.is_sealed ≡ false → old.seats ≤ seat → Steps old (notes seat page input) (refused (Book Stranger)) old
  note_stranger unsealed far s a =
      let opened : s.is_sealed ≡ false = sym a.is_sealed ∙ unsealed in
      let stands : nat_lt seat s.seats ≡ false = le-ltb seat s.seats (subst (λ n. n ≤ seat) a.seats far) in (
        s,
        sym (ap (λ b. let p : Outcome = if b then refuses AlreadySealed s else noting_from s seat page input in p) opened
            ∙ ap (λ b. let p : Outcome = if b then noting s seat page input (reply_after s.calls page input) else refuses (Book Stranger) s in p) stands),
        a,
      )

  pub note_sealed : old.is_sealed ≡ true → Steps old (notes seat page input) (refused AlreadySealed) old
  note_sealed closed s a =
      (s, sym (ap (λ b. let p : Outcome = if b then refuses AlreadySealed s else noting_from s seat page input in p) (sym a.is_sealed ∙ closed)), a)

module _ (old : Stored) where
  pub seal_done : (n : ℕ) → old.is_sealed ≡ false → n ≡ input_count old.book → Steps old seals (sealed n) (record old { is_sealed = true })
  seal_done n unsealed count s a =
      let t : State = record s { is_sealed = true } in (
        t,
        ap (λ m. let p : Outcome = (sealed m, t) in p) (count ∙ a.counted)
            ∙ sym (ap (λ b. let p : Outcome = if b then refuses AlreadySealed s else (sealed (news s.calls), t) in p) (sym a.is_sealed ∙ unsealed)),
        record { sources = a.sources; current = a.current; members = a.members; next = a.next; lawful = a.lawful; shown = a.shown; counted = a.counted; seats = a.seats; is_sealed = refl },
      )

  pub seal_refused : old.is_sealed ≡ true → Steps old seals (refused AlreadySealed) old
  seal_refused closed s a =
      (s, sym (ap (λ b. let p : Outcome = if b then refuses AlreadySealed s else (sealed (news s.calls), record s { is_sealed = true }) in p) (sym a.is_sealed ∙ closed)), a)
