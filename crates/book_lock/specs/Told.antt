-- What the seats of a book were told, and the book that is just that.
use Rattle.std.specs.Prelude.{◌≡◌, ◌≤◌, ℕ, ◌+◌, List, [], ◌∷◌, ◌++◌, Bool, true, false, ◌&&◌, length, sum_by, Err}
use Rattle.std.specs.List.{AllByRecursion}
use Rattle.std.specs.Str.{bytes_eq}
use Rattle.book_core.specs.Page.{PageName, page_eq}
use Rattle.book_core.specs.Book.{Inputs, Contents, most_bytes, most_inputs, is_among, inputs_on, input_count}
use Rattle.book_core.specs.Calls.{Call, is_new, news_on, reply_after, stands}
use Rattle.book_core.specs.declared.fault.BookFault.TheVariants.{PageFull}
use Rattle.book_lock.specs.Counts.{news_of, own}
use Rattle.book_lock.specs.Seen.{IsLegal, one_if}
use Rattle.book_lock.specs.declared.call.Sight.{Sight}

-- what all seats were told, seat after seat
abbrev pub all_told : List Sight → List Call
all_told [] = []
all_told (x ∷ xs) = own x ++ all_told xs

-- the call was of this input on this page
abbrev pub tells : PageName → List ℕ → Call → Bool
tells page input c = page_eq page c.page && bytes_eq input c.input

-- how many of the calls were New, of this input on this page
unfoldable pub times_new : PageName → List ℕ → List Call → ℕ
times_new page input [] = 0
times_new page input (c ∷ cs) = one_if (is_new c.reply && tells page input c) + times_new page input cs

-- 1 where the book has the input on the page, else 0
unfoldable pub times_held : Contents → PageName → List ℕ → ℕ
times_held book page input = one_if (is_among input (inputs_on book page))

-- The book has an input on a page exactly where one of these calls was accepted of it there. Of the calls of an input that
-- the book has, one was New; of any other, none.
pub record IsToldBook (calls : List Call) (book : Contents) : Type 0 where
  pub union : (page : PageName) (input : List ℕ) → is_among input (inputs_on book page) ≡ stands calls page input
  pub once : (page : PageName) (input : List ℕ) → times_new page input calls ≡ times_held book page input

-- the book is what all seats were told, and has as many inputs as calls were New
pub record IsTold (seats : List Sight) (book : Contents) : Type 0 where
  pub told : IsToldBook (all_told seats) book
  pub number : input_count book ≡ sum_by (λ x. news_of (own x)) seats

-- An input that was accepted on a page was New there in one call, and another in none; no page has more than 1000000 New inputs, and none is too long.
pub record HasFirstSightings (calls : List Call) : Type 0 where
  pub once : (page : PageName) (input : List ℕ) → times_new page input calls ≡ one_if (stands calls page input)
  pub few : (page : PageName) → length (news_on calls page) ≤ most_inputs
  pub short : AllByRecursion (λ (c : Call). length c.input ≤ most_bytes) calls

-- each of these calls that was on this page has its input among these
abbrev pub HoldsTold : PageName → Inputs → List Call → Type 0
HoldsTold page inputs calls = AllByRecursion (λ (c : Call). page_eq page c.page ≡ true → is_among c.input inputs ≡ true) calls

-- a page that refuses an input after a legal list has 1000000 New inputs, and not that one
abbrev pub PageFullIsFull : Type 0
PageFullIsFull =
    (calls : List Call) (page : PageName) (input : List ℕ) → IsLegal calls → reply_after calls page input ≡ Err PageFull → (length (news_on calls page) ≡ most_inputs) × (stands calls page input ≡ false)

-- the New calls of a legal list are first sightings
abbrev pub LegalHasFirstSightings : Type 0
LegalHasFirstSightings = (calls : List Call) → IsLegal calls → HasFirstSightings calls
