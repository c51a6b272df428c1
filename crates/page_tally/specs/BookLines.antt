-- The lines of the program, without where their bytes lie in memory.
use Rattle.std.specs.Prelude.{ℕ, List, string_bytes}
use Rattle.book_core.specs.Reading.{FileLine, begins, adds, neither}
use Rattle.page_tally.specs.declared.book_line.Line.{Line}
use Rattle.page_tally.specs.declared.book_line.Line.TheVariants.{Page, Plain, Text, Other}

abbrev pub line_view : Line → FileLine
line_view (Page page) = begins page
line_view (Plain bytes) = adds bytes.now
line_view (Text text) = adds (string_bytes text)
line_view Other = neither
