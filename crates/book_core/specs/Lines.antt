-- The lines of the program, without where their texts lie in memory, and how a reader goes over them.
use Rattle.std.specs.Prelude.{◌≡◌, ℕ, ◌-◌, List, [], ◌∷◌, length, Option, Some, None, slice_get, string_bytes}
use Rattle.book_core.specs.Page.{PageName}
use Rattle.book_core.specs.Book.{Inputs, Contents}
use Rattle.book_core.specs.Reading.{FileLine, begins, adds, neither, Standing, first_fault, leading, pages_in}
use Rattle.book_core.specs.declared.line.Line.{Line}
use Rattle.book_core.specs.declared.line.Line.TheVariants.{Page, Input, Other}

abbrev pub line_view : Line → FileLine
line_view (Page page) = begins page
line_view (Input input) = adds (string_bytes input)
line_view Other = neither

-- a line that was taken, with those after it
abbrev pub with_line : Option Line → List FileLine → List FileLine
with_line None after = []
with_line (Some line) after = line_view line ∷ after

-- a page whose line was taken, with the lines after it
abbrev pub with_page : Option PageName → List FileLine → List FileLine
with_page None after = []
with_page (Some page) after = begins page ∷ after

-- the last page with its inputs
abbrev pub last_of : Contents → Standing
last_of book = slice_get book (length book - 1)

-- the inputs of a page were read from line n on, and these lines are left from line m on
pub record TakesInputs (n : ℕ) (before : List FileLine) (inputs : Inputs) (m : ℕ) (after : List FileLine) : Type 0 where
  pub led : inputs ≡ leading before
  pub same : pages_in after ≡ pages_in before
  pub fault : (page : PageName) → first_fault n (Some (page, [])) before ≡ first_fault m (Some (page, inputs)) after
