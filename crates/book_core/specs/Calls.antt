-- A book as the list of its calls, each with the seat that made it and the reply that it was given.
use Rattle.std.specs.Prelude.{◌≡◌, ℕ, List, [], ◌∷◌, ◌++◌, length, Bool, true, false, ◌&&◌, if◌then◌else◌, nat_lt, is_ok, Result, Ok, Err}
use Rattle.std.specs.List.{list_any}
use Rattle.std.specs.Str.{bytes_eq}
use Rattle.book_core.specs.Page.{PageName, page_eq}
use Rattle.book_core.specs.Book.{Inputs, Contents, most_inputs, most_bytes, is_among, inputs_on, reply_to, with_input, IsBook}
use Rattle.book_core.specs.declared.noted.Noted.{Noted}
use Rattle.book_core.specs.declared.noted.Noted.TheVariants.{New, Again}
use Rattle.book_core.specs.declared.fault.BookFault.{BookFault}
use Rattle.book_core.specs.declared.fault.BookFault.TheVariants.{PageFull, InputTooLong}

-- a call of a book: who noted which input on which page, and the reply
pub record Call : Type 0 where
  pub seat : ℕ
  pub page : PageName
  pub input : List ℕ
  pub reply : Result Noted BookFault

-- the input did not stand on the page before
abbrev pub is_new : Result Noted BookFault → Bool
is_new (Ok New) = true
is_new (Ok Again) = false
is_new (Err fault) = false

-- the input was accepted on the page, as New or Again
unfoldable pub stands : List Call → PageName → List ℕ → Bool
stands calls page input = list_any (λ (c : Call). is_ok c.reply && (page_eq page c.page && bytes_eq input c.input)) calls

-- the inputs that were New on the page, in the order of their calls
unfoldable pub news_on : List Call → PageName → Inputs
news_on [] page = []
news_on (c ∷ cs) page = if is_new c.reply && page_eq page c.page then c.input ∷ news_on cs page else news_on cs page

-- the reply that comes after these calls
unfoldable pub reply_after : List Call → PageName → List ℕ → Result Noted BookFault
reply_after calls page input =
    if nat_lt most_bytes (length input) then Err InputTooLong else
    (if stands calls page input then Ok Again else
    (if nat_lt (length (news_on calls page)) most_inputs then Ok New else Err PageFull))

-- each call has the reply that comes after those before it
abbrev pub AreCallsAfter : List Call → List Call → Type 0
AreCallsAfter before [] = Unit {0}
AreCallsAfter before (c ∷ cs) = (c.reply ≡ reply_after before c.page c.input) × AreCallsAfter (before ++ c ∷ []) cs

-- the calls of a book, from its making on
abbrev pub AreCalls : List Call → Type 0
AreCalls calls = AreCallsAfter [] calls

-- the book holds what these calls had accepted, and as many inputs on a page as were New there
pub record Shows (calls : List Call) (book : Contents) : Type 0 where
  pub held : (page : PageName) (input : List ℕ) → is_among input (inputs_on book page) ≡ stands calls page input
  pub counted : (page : PageName) → length (inputs_on book page) ≡ length (news_on calls page)

-- what a call with this reply leaves of the book
abbrev pub book_after : Contents → PageName → List ℕ → Result Noted BookFault → Contents
book_after book page input reply = if is_ok reply then with_input book page input else book

-- what is left of a book after these calls
abbrev pub book_of_calls : Contents → List Call → Contents
book_of_calls book [] = book
book_of_calls book (c ∷ cs) = book_of_calls (book_after book c.page c.input c.reply) cs

-- the calls of a book, from its making on, leave a book that shows them
abbrev pub ShowsItsCalls : Type 0
ShowsItsCalls = (calls : List Call) → AreCalls calls → IsBook (book_of_calls [] calls) × Shows calls (book_of_calls [] calls)

-- one more call is answered as after the calls before it, and the book then shows that call too
abbrev pub NotesOneCall : Type 0
NotesOneCall = (calls : List Call) (book : Contents) (seat : ℕ) (page : PageName) (input : List ℕ) → IsBook book → Shows calls book
    → (reply_to book page input ≡ reply_after calls page input)
    × Shows (calls ++ record { seat = seat; page = page; input = input; reply = reply_to book page input } ∷ []) (book_after book page input (reply_to book page input))
