-- What the calls of a legal list leave of a book.
use Rattle.std.proofs.Common.{◌≡◌, ℕ, ◌+◌, ◌≤◌, List, [], ◌∷◌, ◌++◌, Bool, true, false, true≢false, ◌&&◌, ◌||◌, cond, length, nat_lt, Result, Ok, Err, is_ok, refl, sym, ap, ◌∙◌, subst, arith}
use Rattle.std.proofs.lemmas.Bool.Decides.{nat_tests}
use Rattle.std.proofs.lemmas.Slice.Eq.{bytes_eq-Decides}
use Rattle.std.specs.List.{AllByRecursion}
use Rattle.std.specs.List.Sorted.{IsStrictlySortedBy}
use Rattle.std.specs.Str.{bytes_eq}
use Rattle.std.specs.BTreeMap.{is_at}
use Rattle.book_core.specs.Page.{PageName, page_cmp, page_eq}
use Rattle.book_core.specs.Book.{Contents, most_bytes, most_inputs, is_among, inputs_on, input_count, reply_to, IsBook}
use Rattle.book_core.specs.Calls.{Call, AreCallsAfter, Shows, is_new, news_on, reply_after, stands, book_after, book_of_calls}
use Rattle.book_core.specs.declared.noted.Noted.{Noted}
use Rattle.book_core.specs.declared.noted.Noted.TheVariants.{New, Again}
use Rattle.book_core.specs.declared.fault.BookFault.{BookFault}
use Rattle.book_core.specs.declared.fault.BookFault.TheVariants.{PageFull, InputTooLong}
use Rattle.book_core.proofs.Answered.{held_with, same_page, notes_one_call, shows_its_calls, shows_none}
use Rattle.book_core.proofs.Noting.{book_taken, exposure_found}
use Rattle.book_lock.specs.Counts.{news_of}
use Rattle.book_lock.specs.Sealed.{IsSealed}
use Rattle.book_lock.specs.Seen.{IsLegal, all_ok, one_if}
use Rattle.book_lock.specs.Told.{IsTold, LegalHasFirstSightings, times_new, times_held}
use Rattle.book_lock.specs.declared.call.Sight.{Sight}
use Rattle.book_lock.proofs.Counted.{count_known, count_more}
use Rattle.book_lock.proofs.Dealt.{same_times, same_stands, same_news}

-- ---- what a reply says of the input

new_absent : (long among room : Bool) → cond long (Err InputTooLong) (cond among (Ok Again) (cond room (Ok New) (Err PageFull))) ≡ Ok New → among ≡ false
new_absent true among room e = cc
new_absent false true room e = cc
new_absent false false room e = refl

again_there : (long among room : Bool) → cond long (Err InputTooLong) (cond among (Ok Again) (cond room (Ok New) (Err PageFull))) ≡ Ok Again → among ≡ true
again_there true among room e = cc
again_there false true room e = refl
again_there false false true e = cc
again_there false false false e = cc

reply_new : (book : Contents) (page : PageName) (input : List ℕ) → reply_to book page input ≡ Ok New → is_among input (inputs_on book page) ≡ false
unfolding reply_to
reply_new book page input is = new_absent (nat_lt most_bytes (length input)) (is_among input (inputs_on book page)) (nat_lt (length (inputs_on book page)) most_inputs) is

reply_again : (book : Contents) (page : PageName) (input : List ℕ) → reply_to book page input ≡ Ok Again → is_among input (inputs_on book page) ≡ true
unfolding reply_to
reply_again book page input is = again_there (nat_lt most_bytes (length input)) (is_among input (inputs_on book page)) (nat_lt (length (inputs_on book page)) most_inputs) is

-- ---- one call

both_true : (a b : Bool) → (a && b) ≡ true → (a ≡ true) × (b ≡ true)
both_true true b e = (refl, e)
both_true false b e = cc

-- the same input on the same page
same_input : (book : Contents) (page q : PageName) (input other : List ℕ) → (page_eq q page && bytes_eq other input) ≡ true → is_among other (inputs_on book q) ≡ is_among input (inputs_on book page)
same_input book page q input other e =
    let parts = both_true (page_eq q page) (bytes_eq other input) e in
    let text : other ≡ input = (bytes_eq-Decides other input).0 parts.1 in
    ap (is_among other) (same_page book page q parts.0) ∙ ap (λ x. is_among x (inputs_on book page)) text

more : (a b : Bool) → (b ≡ true → a ≡ false) → one_if (a || b) ≡ one_if a + one_if b
more true true h = let e = h refl in cc
more true false h = refl
more false true h = refl
more false false h = refl

same : (a b : Bool) → (b ≡ true → a ≡ true) → one_if (a || b) ≡ one_if a + 0
same true b h = refl
same false true h = let e = h refl in cc
same false false h = refl

-- what is held once a book gave this reply
held_after : (book : Contents) (page : PageName) (input : List ℕ) (reply : Result Noted BookFault) → reply_to book page input ≡ reply → (q : PageName) (other : List ℕ)
    → times_held (book_after book page input reply) q other ≡ times_held book q other + one_if (is_new reply && (page_eq q page && bytes_eq other input))
unfolding times_held
held_after book page input (Ok New) is q other =
    ap one_if (held_with book page q input other) ∙ more (is_among other (inputs_on book q)) (page_eq q page && bytes_eq other input) (λ e. same_input book page q input other e ∙ reply_new book page input is)
held_after book page input (Ok Again) is q other =
    ap one_if (held_with book page q input other) ∙ same (is_among other (inputs_on book q)) (page_eq q page && bytes_eq other input) (λ e. same_input book page q input other e ∙ reply_again book page input is)
held_after book page input (Err fault) is q other = omega arith

counted_after : (book : Contents) (page : PageName) (input : List ℕ) (reply : Result Noted BookFault) → IsBook book → reply_to book page input ≡ reply → input_count (book_after book page input reply) ≡ input_count book + one_if (is_new reply)
counted_after book page input (Ok New) is_book is = count_more book page input is_book (reply_new book page input is)
counted_after book page input (Ok Again) is_book is = let e = count_known book page input is_book (reply_again book page input is) in omega (arith, e)
counted_after book page input (Err fault) is_book is = omega arith

book_kept : (book : Contents) (page : PageName) (input : List ℕ) (reply : Result Noted BookFault) → IsBook book → reply_to book page input ≡ reply → IsBook (book_after book page input reply)
book_kept book page input (Ok noted) is_book is = book_taken book page input is_book (ap is_ok is)
book_kept book page input (Err fault) is_book is = is_book

-- ---- all calls

-- the book holds what it held, and what was New in these calls
record Gains (calls : List Call) (old new : Contents) : Type 0 where
  held : (page : PageName) (input : List ℕ) → times_held new page input ≡ times_held old page input + times_new page input calls
  counted : input_count new ≡ input_count old + news_of calls

gains_all : (before cs : List Call) (book : Contents) → IsBook book → Shows before book → AreCallsAfter before cs → Gains cs book (book_of_calls book cs)
unfolding times_new
gains_all before [] book is_book shows are = record { held = λ page input. omega arith; counted = omega arith }
gains_all before (c ∷ cs) book is_book shows are =
    let one = notes_one_call before book c.seat c.page c.input is_book shows in
    let is : reply_to book c.page c.input ≡ c.reply = one.0 ∙ sym are.0 in
    let after = book_after book c.page c.input c.reply in
    let shown : Shows (before ++ c ∷ []) after = subst (λ r. Shows (before ++ record { seat = c.seat; page = c.page; input = c.input; reply = r } ∷ []) (book_after book c.page c.input r)) is one.1 in
    let rest = gains_all (before ++ c ∷ []) cs after (book_kept book c.page c.input c.reply is_book is) shown are.1 in
    let count = counted_after book c.page c.input c.reply is_book is in record {
      held = λ page input. (let later = rest.held page input in let here = held_after book c.page c.input c.reply is page input in omega (arith, later, here));
      counted = (let later = rest.counted in omega (arith, later, count));
    }

opening : IsBook []
unfolding IsStrictlySortedBy
opening = record { rising = tt; filled = tt }

-- from the making of the book on
gains : (all : List Call) → IsLegal all → Gains all [] (book_of_calls [] all)
gains all legal = gains_all [] all [] opening shows_none legal.0

nothing_held : (page : PageName) (input : List ℕ) → times_held [] page input ≡ 0
unfolding times_held inputs_on
nothing_held page input = refl

held_once : (all : List Call) → IsLegal all → (page : PageName) (input : List ℕ) → times_held (book_of_calls [] all) page input ≡ times_new page input all
held_once all legal page input = let e = (gains all legal).held page input in let none = nothing_held page input in omega (arith, e, none)

none_before : (n : ℕ) → input_count [] + n ≡ n
none_before n = omega arith

-- ---- the sealed book

pub told : (n : ℕ) (seats : List Sight) (book : Contents) → IsSealed n seats book → IsTold seats book
told n seats book s =
    let shown = shows_its_calls s.all s.legal.0 in record {
      told = record {
        union = λ page input.
            ap (λ b. is_among input (inputs_on b page)) s.left ∙ shown.1.held page input ∙ sym (same_stands n s.all seats s.numbers s.callers s.seen page input);
        once = λ page input.
            same_times n s.all seats s.numbers s.callers s.seen page input ∙ sym (held_once s.all s.legal page input) ∙ ap (λ b. times_held b page input) (sym s.left);
      };
      number = ap input_count s.left ∙ (gains s.all s.legal).counted ∙ none_before (news_of s.all) ∙ sym (same_news n s.all seats s.numbers s.callers s.seen);
    }

-- ---- a legal list

few_on : (book : Contents) (page : PageName) → IsBook book → length (inputs_on book page) ≤ most_inputs
unfolding inputs_on
few_on book page is_book = (exposure_found (is_at (page_cmp page)) book is_book.filled).few

short_of : (long among room : Bool) (r : Result Noted BookFault) → r ≡ cond long (Err InputTooLong) (cond among (Ok Again) (cond room (Ok New) (Err PageFull))) → is_ok r ≡ true → long ≡ false
short_of true among room r is e = absurd (true≢false (sym e ∙ ap is_ok is))
short_of false among room r is e = refl

short_call : (before : List Call) (c : Call) → c.reply ≡ reply_after before c.page c.input → is_ok c.reply ≡ true → length c.input ≤ most_bytes
unfolding reply_after
short_call before c is e =
    let low = short_of (nat_lt most_bytes (length c.input)) (stands before c.page c.input) (nat_lt (length (news_on before c.page)) most_inputs) c.reply is e in
    grind (arith, nat_tests, low)

ok_both : (b d : Bool) → cond b d false ≡ true → (b ≡ true) × (d ≡ true)
ok_both true d e = (refl, e)
ok_both false d e = cc

all_short : (before cs : List Call) → AreCallsAfter before cs → all_ok cs ≡ true → AllByRecursion (λ (c : Call). length c.input ≤ most_bytes) cs
all_short before [] are ok = tt
all_short before (c ∷ cs) are ok =
    let both = ok_both (is_ok c.reply) (all_ok cs) ok in
    (short_call before c are.0 both.0, all_short (before ++ c ∷ []) cs are.1 both.1)

pub first_sightings : LegalHasFirstSightings
unfolding times_held
first_sightings all legal =
    let shown = shows_its_calls all legal.0 in record {
      once = λ page input. sym (held_once all legal page input) ∙ ap one_if (shown.1.held page input);
      few = λ page. subst (λ k. k ≤ most_inputs) (shown.1.counted page) (few_on (book_of_calls [] all) page shown.0);
      short = all_short [] all legal.0 legal.1;
    }
