-- Plain inputs that stand first among some bytes, looked through by themselves.
use Rattle.std.specs.Prelude.{◌≡◌, ℕ, List}
use Rattle.std.specs.List.{list_any}
use Rattle.book_core.specs.Book.{Inputs}
use Rattle.book_core.specs.Reading.{lines_of}
use Rattle.page_tally.specs.Foreign.{lacks}
use Rattle.page_tally.specs.Parts.{IsEndOf}
use Rattle.page_tally.specs.Runs.{with_lines}
use Rattle.page_tally.specs.declared.stretch.Stretch.{Stretch}

-- the lines that stand first among the bytes are those of these inputs, of which one does not begin with the key, or each does
pub record IsStretch (bytes key : List ℕ) (inputs : Inputs) (s : Stretch) : Type 0 where
  pub lines : lines_of bytes ≡ with_lines inputs (lines_of s.rest.now)
  pub lacks : s.lacks ≡ list_any (lacks key) inputs
  pub end : IsEndOf bytes s.rest.now

-- the same of some inputs
abbrev pub IsStretchOf : List ℕ → List ℕ → Stretch → Type 0
IsStretchOf bytes key s = (inputs : Inputs) × IsStretch bytes key inputs s
