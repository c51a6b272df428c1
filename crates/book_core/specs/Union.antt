-- The union of two books: the book of the notes of both.
use Rattle.std.specs.Prelude.{◌≡◌, ℕ, List, [], ◌∷◌, ◌||◌, Result, Ok, Err}
use Rattle.book_core.specs.Page.{PageName}
use Rattle.book_core.specs.Book.{Inputs, Contents, inputs_on, is_among, reply_to, with_input, IsBook}
use Rattle.book_core.specs.declared.noted.Noted.{Noted}
use Rattle.book_core.specs.declared.fault.BookFault.{BookFault}
use Rattle.book_core.specs.declared.fault.BookFault.TheVariants.{PageFull, WantOfMemory}

-- each page has the inputs that stand there in one of two books, and no other input
pub record IsUnion (one other both : Contents) : Type 0 where
  pub lawful : IsBook both
  pub held : (page : PageName) (input : List ℕ) → is_among input (inputs_on both page) ≡ (is_among input (inputs_on one page) || is_among input (inputs_on other page))

-- no book holds the inputs of both
abbrev pub HaveNoUnion : Contents → Contents → Type 0
HaveNoUnion one other = (both : Contents) → IsUnion one other both → ⊥

-- the union of two books; it is refused for want of memory, and with PageFull where there is none, which is where the two have more inputs of a page than a page takes
abbrev pub Unites : Contents → Contents → Result Contents BookFault → Type 0
Unites one other (Ok both) = IsUnion one other both
Unites one other (Err WantOfMemory) = Unit {0}
Unites one other (Err PageFull) = HaveNoUnion one other
Unites one other (Err fault) = ⊥

-- what comes of noting more, behind one reply
abbrev pub after_reply : Result Noted BookFault → Result Contents BookFault → Result Contents BookFault
after_reply (Ok reply) later = later
after_reply (Err fault) later = Err fault

-- the book with these inputs noted on a page, one after the other, or the first refusal
abbrev pub with_inputs : Contents → PageName → Inputs → Result Contents BookFault
with_inputs book page [] = Ok book
with_inputs book page (input ∷ inputs) = after_reply (reply_to book page input) (with_inputs (with_input book page input) page inputs)

-- the same of the inputs of each page
abbrev pub with_pages : Result Contents BookFault → Contents → Result Contents BookFault
with_pages (Err fault) es = Err fault
with_pages (Ok book) [] = Ok book
with_pages (Ok book) (e ∷ es) = with_pages (with_inputs book e.0 e.1) es
