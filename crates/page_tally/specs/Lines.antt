-- The lines of the program, without where their texts lie in memory.
use Rattle.std.specs.Prelude.{List, [], ◌∷◌, Option, Some, None}
use Rattle.book_core.specs.Page.{PageName}
use Rattle.book_core.specs.Reading.{FileLine, begins, adds, neither}
use Rattle.page_tally.specs.Inputs.{input_view}
use Rattle.page_tally.specs.declared.line.Line.{Line}
use Rattle.page_tally.specs.declared.line.Line.TheVariants.{Page, Input, Other}

abbrev pub line_view : Line → FileLine
line_view (Page page) = begins page
line_view (Input input) = adds (input_view input)
line_view Other = neither

-- a line that was taken, with those after it
abbrev pub with_line : Option Line → List FileLine → List FileLine
with_line None after = []
with_line (Some line) after = line_view line ∷ after

-- a page whose line was taken, with the lines after it
abbrev pub with_page : Option PageName → List FileLine → List FileLine
with_page None after = []
with_page (Some page) after = begins page ∷ after
