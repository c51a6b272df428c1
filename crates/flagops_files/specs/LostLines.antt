-- Inputs of an old book that are looked for in a new one line by line, in private contracts alone.
use Rattle.std.specs.Prelude.{◌≡◌, ◌+◌, ◌≤◌, ℕ, Bool, List, length, Option, Some, None}
use Rattle.book_core.specs.Book.{Contents, inputs_on, is_among}
use Rattle.book_core.specs.Page.{PageName}
use Rattle.book_core.specs.Reading.{FileLine, adds, begins, leading, lines_of, neither, pages_in}
use Rattle.flagops_files.specs.Losses.{missing}

-- whether the input of a line stands on a page, where the line is that of an input
abbrev pub has_line : Contents → PageName → FileLine → Option Bool
has_line book page (adds input) = Some (is_among input (inputs_on book page))
has_line book page (begins other) = None
has_line book page neither = None

-- so many of the inputs that stand first among the bytes are missing, and the pages behind them are left
pub record IsCounted (new : Contents) (page : PageName) (bytes : List ℕ) (count : ℕ) (rest : List ℕ) : Type 0 where
  pub lost : count ≡ missing (leading (lines_of bytes)) (inputs_on new page)
  pub pages : pages_in (lines_of rest) ≡ pages_in (lines_of bytes)
  pub room : count + length rest ≤ length bytes
