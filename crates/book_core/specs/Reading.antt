-- Which book the bytes of a file stand for, and the first line at fault. A line is a JSON text (RFC 8259) and a line feed.
use Rattle.std.specs.Prelude.{ℕ, ◌+◌, ◌^◌, ◌==◌, pos, List, [], ◌∷◌, ◌++◌, length, Bool, true, false, ◌&&◌, nat_lt, if◌then◌else◌, codes, Option, Some, None, option_and_then, Result, Ok, Err}
use Rattle.std.specs.Option.{option_or}
use Rattle.std.specs.Ordering.{is_lt}
use Rattle.std.specs.List.{slice_split, list_all}
use Rattle.std.specs.Str.{bytes_eq}
use Rattle.flag_text.specs.Shape.{Shape, null, whole, text, object, Members, no_members, member}
use Rattle.flag_text.specs.Reading.{tree_of}
use Rattle.flag_text.specs.Readers.{as_text, member_of}
use Rattle.flag_text.specs.declared.fault.TextFault.{TextFault}
use Rattle.book_core.specs.Page.{PageName, bytes_cmp, page_cmp}
use Rattle.book_core.specs.Book.{Inputs, Contents, most_inputs, most_bytes}
use Rattle.book_core.specs.declared.fault.BookFileFault.{BookFileFault}
use Rattle.book_core.specs.declared.fault.BookFileFault.TheVariants.{Header, Line, Order, InputTooLong, PageFull}

-- what a line stands for: a page that begins, an input that is added to it, or neither
pub data FileLine : Type 0 where
  begins : PageName → FileLine
  adds : List ℕ → FileLine
  neither : FileLine

-- a whole number from 0 to 2^32-1
abbrev pub site_of : Shape → Option ℕ
site_of (whole (pos n)) = if nat_lt n (2 ^ 32) then Some n else None
site_of t = None

-- the text of a bucketing expression, null where there is none
abbrev pub by_of : Shape → Option (Option (List ℕ))
by_of null = Some None
by_of (text s) = Some (Some s)
by_of t = None

infixl 10 ◌>>=◌
abbrev ◌>>=◌ : {A B : Type 0} → Option A → (A → Option B) → Option B
o >>= f = option_and_then f o

-- the page that an object names; members besides these three are passed over
unfoldable pub page_of : Shape → Option PageName
page_of t = do
  flag ← option_and_then as_text (member_of (codes "flag") t)
  site ← option_and_then site_of (member_of (codes "site") t)
  by ← option_and_then by_of (member_of (codes "by") t)
  Some (record { flag = flag; site = site; by = by })

-- an object that names no page is no line of a book
abbrev pub page_line : Option PageName → FileLine
page_line None = neither
page_line (Some page) = begins page

-- a text adds an input, an object begins a page
abbrev pub shape_line : Shape → FileLine
shape_line (text s) = adds s
shape_line (object ms) = page_line (page_of (object ms))
shape_line t = neither

-- what is no JSON text is no line of a book
abbrev pub read_line : Result Shape TextFault → FileLine
read_line (Err fault) = neither
read_line (Ok t) = shape_line t

-- each line is read with its own length as the limit
unfoldable pub line_of : List ℕ → FileLine
line_of bytes = read_line (tree_of bytes (length bytes))

abbrev pub is_feed : ℕ → Bool
is_feed b = b == 10

-- the part after the last line feed, which is no line where it is empty
abbrev pub unended : List ℕ → List FileLine
unended [] = []
unended (b ∷ bs) = neither ∷ []

-- the lines of the parts between line feeds
abbrev pub lines_in : List (List ℕ) → List FileLine
lines_in [] = []
lines_in (last ∷ []) = unended last
lines_in (part ∷ next ∷ parts) = line_of part ∷ lines_in (next ∷ parts)

-- the lines of the bytes
unfoldable pub lines_of : List ℕ → List FileLine
lines_of bytes = lines_in (slice_split is_feed bytes)

-- the page that a line stands on, with the inputs that stand there before it
abbrev pub Standing : Type 0
Standing = Option (PageName × Inputs)

-- the page comes after the last one, in the order of pages
abbrev pub comes_after : Standing → PageName → Bool
comes_after None page = true
comes_after (Some last) page = is_lt (page_cmp last.0 page)

-- the input is above each of these
abbrev pub is_above : Inputs → List ℕ → Bool
is_above inputs input = list_all (λ before. is_lt (bytes_cmp before input)) inputs

-- the next line begins a page, or there is none
abbrev pub ends_page : List FileLine → Bool
ends_page [] = true
ends_page (begins page ∷ ls) = true
ends_page (adds input ∷ ls) = false
ends_page (neither ∷ ls) = false

-- what is wrong with a page on line n, with these lines after it
abbrev pub page_fault : ℕ → Standing → PageName → List FileLine → Option BookFileFault
page_fault n last page after = if ends_page after then Some (Line n) else (if comes_after last page then None else Some (Order n))

-- what is wrong with an input on line n, after these inputs of its page
abbrev pub input_fault : ℕ → Inputs → List ℕ → Option BookFileFault
input_fault n inputs input =
    if nat_lt most_bytes (length input) then Some (InputTooLong n) else
    (if is_above inputs input then (if nat_lt (length inputs) most_inputs then None else Some (PageFull n)) else Some (Order n))

-- what is wrong with the first line at fault, of the lines from number n on
abbrev pub first_fault : ℕ → Standing → List FileLine → Option BookFileFault
first_fault n last [] = None
first_fault n last (neither ∷ ls) = Some (Line n)
first_fault n last (begins page ∷ ls) = option_or (page_fault n last page ls) (first_fault (n + 1) (Some (page, [])) ls)
first_fault n None (adds input ∷ ls) = Some (Line n)
first_fault n (Some last) (adds input ∷ ls) = option_or (input_fault n last.1 input) (first_fault (n + 1) (Some (last.0, last.1 ++ input ∷ [])) ls)

-- the inputs up to the next page
abbrev pub leading : List FileLine → Inputs
leading [] = []
leading (adds input ∷ ls) = input ∷ leading ls
leading (begins page ∷ ls) = []
leading (neither ∷ ls) = []

-- the pages that begin, each with its inputs
abbrev pub pages_in : List FileLine → Contents
pages_in [] = []
pages_in (begins page ∷ ls) = (page, leading ls) ∷ pages_in ls
pages_in (adds input ∷ ls) = pages_in ls
pages_in (neither ∷ ls) = pages_in ls

-- a fault, or the book where there is none
abbrev pub unless : Option BookFileFault → Contents → Result Contents BookFileFault
unless None book = Ok book
unless (Some fault) book = Err fault

-- the book of the lines after the first
unfoldable pub lines_book : List FileLine → Result Contents BookFileFault
lines_book ls = unless (first_fault 2 None ls) (pages_in ls)

-- the number 1
abbrev pub is_one : Shape → Bool
is_one (whole (pos n)) = n == 1
is_one t = false

-- the one member "book" with the value 1
abbrev pub is_book_member : Members → Bool
is_book_member (member name t no_members) = bytes_eq name (codes "book") && is_one t
is_book_member ms = false

-- {"book":1} and no other value
abbrev pub is_book_shape : Shape → Bool
is_book_shape (object ms) = is_book_member ms
is_book_shape t = false

-- the first line of a book
abbrev pub is_header : Result Shape TextFault → Bool
is_header (Ok t) = is_book_shape t
is_header (Err fault) = false

-- a first line without its line feed is at fault itself
abbrev pub unended_fault : Bool → BookFileFault
unended_fault header = if header then Line 1 else Header

-- the book of the parts between line feeds
abbrev pub parts_book : List (List ℕ) → Result Contents BookFileFault
parts_book [] = Err Header
parts_book (first ∷ []) = Err (unended_fault (is_header (tree_of first (length first))))
parts_book (first ∷ part ∷ parts) = if is_header (tree_of first (length first)) then lines_book (lines_in (part ∷ parts)) else Err Header

-- the book of the bytes of a file, or the first line at fault
unfoldable pub book_of : List ℕ → Result Contents BookFileFault
book_of bytes = parts_book (slice_split is_feed bytes)
