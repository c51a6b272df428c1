-- A page that is full stays full, whatever is noted after.
use Rattle.std.proofs.Common.{◌≡◌, ℕ, ◌+◌, ◌≤◌, Bool, true, false, ◌&&◌, ◌||◌, cond, List, [], ◌∷◌, ◌++◌, append_assoc, get_or, length, length-append, nat_lt, Result, Ok, Err, is_ok, refl, sym, ap, ◌∙◌, subst, arith}
use Rattle.std.specs.Prelude.{All}
use Rattle.std.specs.Str.{bytes_eq}
use Rattle.std.proofs.lemmas.List.Elements.{All-append, All-nil, All-push}
use borrow.Author.Tests.{le-ltb, ltb-false}
use Rattle.book_core.specs.Page.{PageName, page_eq}
use Rattle.book_core.specs.Book.{Contents, most_bytes, most_inputs, reply_to}
use Rattle.book_core.specs.Calls.{Call, is_new, news_on, reply_after, stands}
use Rattle.book_core.specs.declared.noted.Noted.{Noted}
use Rattle.book_core.specs.declared.fault.BookFault.{BookFault}
use Rattle.book_core.specs.declared.noted.Noted.TheVariants.{New, Again}
use Rattle.book_core.specs.declared.fault.BookFault.TheVariants.{PageFull, InputTooLong}
use Rattle.book_lock.specs.Sealed.{IsSealed}
use Rattle.book_lock.specs.Seen.{AllKnow, IsLegal, Knows, StartsWith, one_if}
use Rattle.book_lock.specs.Told.{times_new}
use Rattle.book_lock.specs.declared.call.Sight.{Sight}
use Rattle.book_lock.proofs.Gained.{first_sightings}
use Rattle.book_lock.proofs.Notes.{replies}
use Rattle.book_share.specs.Asked.{Mention}
use Rattle.book_share.specs.Driven.{AreFull, IsFullAfter}

full_parts : (long among room : Bool) → cond long (Err InputTooLong) (cond among (Ok Again) (cond room (Ok New) (Err PageFull))) ≡ Err PageFull → (long ≡ false) × (among ≡ false) × (room ≡ false)
full_parts true among room e = cc
full_parts false true room e = cc
full_parts false false true e = cc
full_parts false false false e = (refl, refl, refl)

news_on-append : (page : PageName) (xs ys : List Call) → news_on (xs ++ ys) page ≡ news_on xs page ++ news_on ys page
unfolding news_on
news_on-append page [] ys = refl
news_on-append page (c ∷ cs) ys =
    let later = news_on-append page cs ys in
    elim (is_new c.reply && page_eq page c.page) as (λ b. cond b (c.input ∷ news_on (cs ++ ys) page) (news_on (cs ++ ys) page) ≡ cond b (c.input ∷ news_on cs page) (news_on cs page) ++ news_on ys page) [
      | true ↦ ap (λ l. c.input ∷ l) later
      | false ↦ later
    ]

times_new-append : (page : PageName) (input : List ℕ) (xs ys : List Call) → times_new page input (xs ++ ys) ≡ times_new page input xs + times_new page input ys
unfolding times_new
times_new-append page input [] ys = omega arith
times_new-append page input (x ∷ xs) ys = let later = times_new-append page input xs ys in omega (arith, later)

-- a New call of the input is one of the page
one_few : (new here same : Bool) (input : List ℕ) (rest : List (List ℕ)) (n : ℕ) → n ≤ length rest → one_if (new && (here && same)) + n ≤ length (cond (new && here) (input ∷ rest) rest)
one_few true true true input rest n h = omega (arith, h)
one_few true true false input rest n h = omega (arith, h)
one_few true false same input rest n h = omega (arith, h)
one_few false here same input rest n h = omega (arith, h)

times_few : (page : PageName) (input : List ℕ) (cs : List Call) → times_new page input cs ≤ length (news_on cs page)
unfolding times_new news_on
times_few page input [] = omega arith
times_few page input (c ∷ cs) = one_few (is_new c.reply) (page_eq page c.page) (bytes_eq input c.input) c.input (news_on cs page) (times_new page input cs) (times_few page input cs)

new_ok : (c : Call) → is_ok c.reply ≡ false → is_new c.reply ≡ false
new_ok c e = go c.reply e
  where
    go : (r : Result Noted BookFault) → is_ok r ≡ false → is_new r ≡ false
    go (Ok New) h = cc
    go (Ok Again) h = refl
    go (Err f) h = refl

-- an input that was not accepted was not New
one_none : (ok new told rest : Bool) (n : ℕ) → (ok ≡ false → new ≡ false) → (rest ≡ false → n ≡ 0) → ((ok && told) || rest) ≡ false → one_if (new && told) + n ≡ 0
one_none true new true rest n h k e = cc
one_none true true false rest n h k e = let z = k e in omega (arith, z)
one_none true false false rest n h k e = let z = k e in omega (arith, z)
one_none false true told rest n h k e = let none = h refl in cc
one_none false false told rest n h k e = let z = k e in omega (arith, z)

none_stands : (page : PageName) (input : List ℕ) (cs : List Call) → stands cs page input ≡ false → times_new page input cs ≡ 0
unfolding stands times_new
none_stands page input [] e = refl
none_stands page input (c ∷ cs) e = one_none (is_ok c.reply) (is_new c.reply) (page_eq page c.page && bytes_eq input c.input) (stands cs page input) (times_new page input cs) (new_ok c) (none_stands page input cs) e

none_is : (b : Bool) → one_if b ≡ 0 → b ≡ false
none_is true e = absurd (omega (arith, e))
none_is false e = refl

stays_full : (all seen : List Call) (page : PageName) (input : List ℕ) → IsLegal all → StartsWith all seen → reply_after seen page input ≡ Err PageFull → reply_after all page input ≡ Err PageFull
unfolding reply_after
stays_full all seen page input legal starts full =
    let rest = starts.0 in
    let is : all ≡ seen ++ rest = starts.1 in
    let parts = full_parts (nat_lt most_bytes (length input)) (stands seen page input) (nat_lt (length (news_on seen page)) most_inputs) full in
    let sightings = first_sightings all legal in
    let many : most_inputs ≤ length (news_on seen page) = ltb-false _ _ parts.2 in
    let few : length (news_on all page) ≤ most_inputs = sightings.few page in
    let both : length (news_on all page) ≡ length (news_on seen page) + length (news_on rest page) = ap (λ l. length (news_on l page)) is ∙ ap length (news_on-append page seen rest) ∙ length-append (news_on seen page) (news_on rest page) in
    let first : times_new page input seen ≡ 0 = none_stands page input seen parts.1 in
    let last : times_new page input rest ≤ length (news_on rest page) = times_few page input rest in
    let sum : times_new page input all ≡ times_new page input seen + times_new page input rest = ap (times_new page input) is ∙ times_new-append page input seen rest in
    let once : times_new page input all ≡ one_if (stands all page input) = sightings.once page input in
    let absent : stands all page input ≡ false = none_is (stands all page input) (omega (arith, once, sum, last, first, both, few, many)) in
    let room : nat_lt (length (news_on all page)) most_inputs ≡ false = le-ltb _ _ (omega (arith, both, many)) in
    rw (parts.0, absent, room) refl

-- ---- lists that begin with more

-- each legal list that begins with these calls
abbrev pub AreFullAfter : List Call → List Mention → Type 0
AreFullAfter seen refused = AreFull (λ all. StartsWith all seen) refused

starts_later : (all new old : List Call) → StartsWith all new → StartsWith new old → StartsWith all old
starts_later all new old a b = (b.0 ++ a.0, a.1 ∙ ap (λ l. l ++ a.0) b.1 ∙ append_assoc old b.0 a.0)

pub full_later : (new old : List Call) (refused : List Mention) → StartsWith new old → AreFullAfter old refused → AreFullAfter new refused
full_later new old refused more full = λ all legal starts. full all legal (starts_later all new old starts more)

pub full_none : (IsKind : List Call → Type 0) → AreFull IsKind []
full_none IsKind all legal kind = All-nil (IsFullAfter all)

-- one more
pub full_more : (new old : List Call) (refused : List Mention) (m : Mention) → StartsWith new old → IsFullAfter new m → AreFullAfter old refused → AreFullAfter new (refused ++ m ∷ [])
full_more new old refused m more now full all legal starts =
    All-push (IsFullAfter all) refused m (full_later new old refused more full all legal starts) (stays_full all new m.page m.input legal starts now)

-- ---- several seats

-- each legal list that these seats know
abbrev pub AreFullToAll : List Sight → List Mention → Type 0
AreFullToAll seats refused = AreFull (λ all. AllKnow all seats) refused

know_front : (all : List Call) (seats : List Sight) (seat : Sight) → AllKnow all (seats ++ seat ∷ []) → AllKnow all seats
know_front all [] seat know = tt
know_front all (x ∷ xs) seat know = (know.0, know_front all xs seat know.1)

know_last : (all : List Call) (seats : List Sight) (seat : Sight) → AllKnow all (seats ++ seat ∷ []) → Knows all seat
know_last all [] seat know = know.0
know_last all (x ∷ xs) seat know = know_last all xs seat know.1

pub full_to_more : (seats : List Sight) (seat : Sight) (refused others : List Mention) → AreFullToAll seats refused → AreFullAfter seat.seen others → AreFullToAll (seats ++ seat ∷ []) (refused ++ others)
full_to_more seats seat refused others first last all legal know =
    All-append (IsFullAfter all) refused others (first all legal (know_front all seats seat know)) (last all legal (know_last all seats seat know).0)

-- ---- the sealed book

-- the book refuses the input for its full page
abbrev pub IsFull : Contents → Mention → Type 0
IsFull book m = reply_to book m.page m.input ≡ Err PageFull

pub sealed_full : (n : ℕ) (seats : List Sight) (book : Contents) (refused : List Mention) → IsSealed n seats book → AreFullToAll seats refused → All (IsFull book) refused
sealed_full n seats book refused s full = λ k d within. here (get_or refused k d) (full s.all s.legal s.seen k d within)
  where
    here : (m : Mention) → IsFullAfter s.all m → IsFull book m
    here m h = ap (λ b. reply_to b m.page m.input) s.left ∙ replies s.all m.page m.input s.legal ∙ h
