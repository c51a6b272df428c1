-- What a book holds, and what it answers to an input.
use Rattle.std.specs.Prelude.{ℕ, ◌<◌, List, [], length, map, sum_by, Bool, if◌then◌else◌, nat_lt, unwrap_or, Result, Ok, Err, string_bytes}
use Rattle.std.specs.List.{list_any, AllByRecursion}
use Rattle.std.specs.List.Sorted.{IsStrictlySortedBy}
use Rattle.std.specs.Map.{lookup, keys_of}
use Rattle.std.specs.Str.{bytes_eq}
use Rattle.std.specs.BTreeMap.{is_at, insert_entry}
use Rattle.std.specs.BTreeSet.{insert_key}
pub use Rattle.exposures.specs.Exposure.{Inputs, IsExposure, most_inputs, most_bytes}
use Rattle.book_core.specs.Page.{PageName, bytes_cmp, page_cmp}
use Rattle.book_core.specs.declared.inputs.PageInputs.{PageInputs}
use Rattle.book_core.specs.declared.inputs.PageInputs.TheVariants.{Listed, Gathered}
use Rattle.book_core.specs.declared.noted.Noted.{Noted}
use Rattle.book_core.specs.declared.noted.Noted.TheVariants.{New, Again}
use Rattle.book_core.specs.declared.fault.BookFault.{BookFault}
use Rattle.book_core.specs.declared.fault.BookFault.TheVariants.{PageFull, InputTooLong}

-- the pages in order, each with its inputs
abbrev pub Contents : Type 0
Contents = List (PageName × Inputs)

-- whether the input is one of these
abbrev pub is_among : List ℕ → Inputs → Bool
is_among input inputs = list_any (bytes_eq input) inputs

-- the inputs on a page, none on a page that the book does not have
unfoldable pub inputs_on : Contents → PageName → Inputs
inputs_on book page = unwrap_or (lookup (is_at (page_cmp page)) book) []

-- the number of inputs on all pages
abbrev pub input_count : Contents → ℕ
input_count = sum_by (λ e. length e.1)

-- the answer to an input, on a page with these inputs
abbrev pub page_reply : Inputs → List ℕ → Result Noted BookFault
page_reply inputs input =
    if nat_lt most_bytes (length input) then Err InputTooLong else
    (if is_among input inputs then Ok Again else
    (if nat_lt (length inputs) most_inputs then Ok New else Err PageFull))

-- the answer to an input on a page
unfoldable pub reply_to : Contents → PageName → List ℕ → Result Noted BookFault
reply_to book page input = page_reply (inputs_on book page) input

-- the book with the input on the page, once
unfoldable pub with_input : Contents → PageName → List ℕ → Contents
with_input book page input = insert_entry page_cmp book page (insert_key bytes_cmp (inputs_on book page) input)

-- an exposure with an input at least
pub record IsFilled (inputs : Inputs) : Type 0 where
  pub some : 0 < length inputs
  pub lawful : IsExposure inputs

-- what a book may hold: pages in strictly rising order, each with such inputs
pub record IsBook (book : Contents) : Type 0 where
  pub rising : IsStrictlySortedBy page_cmp (keys_of book)
  pub filled : AllByRecursion (λ (e : PageName × Inputs). IsFilled e.1) book

-- the inputs that the program holds of a page, without where they lie in memory
abbrev pub inputs_view : PageInputs → Inputs
inputs_view (Listed list) = map string_bytes list.items
inputs_view (Gathered set) = map string_bytes set.keys

-- the pages of the program's map
abbrev pub contents_view : List (PageName × PageInputs) → Contents
contents_view es = map (λ e. (e.0, inputs_view e.1)) es
