-- Runs of inputs that are at fault in nothing.
use Rattle.std.specs.Prelude.{◌≡◌, ℕ, ◌<◌, ◌≤◌, ◌+◌, List, [], ◌∷◌, ◌++◌, map, length, true}
use Rattle.std.specs.Ordering.{is_lt}
use Rattle.book_core.specs.Book.{Inputs, most_bytes, most_inputs}
use Rattle.book_core.specs.Page.{bytes_cmp}
use Rattle.book_core.specs.Reading.{FileLine, adds}
use Rattle.page_tally.specs.Folding.{Kept, with_inputs}

-- after so many inputs, of which this is the last, each is above the one before it, finds room on the page, and has no more bytes than an input may have
abbrev pub IsRun : ℕ → List ℕ → Inputs → Type 0
IsRun count last [] = Unit {0}
IsRun count last (input ∷ inputs) = (is_lt (bytes_cmp last input) ≡ true) × (length input ≤ most_bytes) × (count < most_inputs) × IsRun (count + 1) input inputs

-- the last of them, or this one where there are none
abbrev pub last_of_run : List ℕ → Inputs → List ℕ
last_of_run last [] = last
last_of_run last (input ∷ inputs) = last_of_run input inputs

-- the lines of these inputs, and the lines after them
abbrev pub with_lines : Inputs → List FileLine → List FileLine
with_lines inputs after = map adds inputs ++ after

-- the lines of these inputs were taken and counted, and so many lines before them
pub record TakesRun (first : List ℕ) (inputs : Inputs) (before : List FileLine) (n : ℕ) (had : Kept) (end : List ℕ) (after : List FileLine) (m : ℕ) (have : Kept) : Type 0 where
  pub run : IsRun had.inputs first inputs
  pub lines : before ≡ with_lines inputs after
  pub number : m ≡ n + length inputs
  pub last : end ≡ last_of_run first inputs
  pub kept : have ≡ with_inputs had inputs
