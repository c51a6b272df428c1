-- Reading as a fold over the lines of a book: what is kept of those before decides what the next one changes.
use Rattle.std.specs.Prelude.{◌≡◌, ℕ, ◌≤◌, ◌+◌, List, [], ◌∷◌, length, set, get_or, replicate, Bool, true, nat_lt, if◌then◌else◌, Option, Some, None, option_map, IfSome, Result, Ok, Err}
use Rattle.std.specs.Ordering.{is_lt}
use Rattle.bucket_core.specs.Point.{point_of}
use Rattle.bucket_core.specs.Rule.{IsRuleTotal}
use Rattle.book_core.specs.Book.{Inputs, most_inputs, most_bytes}
use Rattle.book_core.specs.Page.{PageName, bytes_cmp, page_eq}
use Rattle.book_core.specs.Reading.{FileLine, begins, adds, neither, Standing, page_fault}
use Rattle.book_core.specs.declared.fault.BookFileFault.{BookFileFault}
use Rattle.book_core.specs.declared.fault.BookFileFault.TheVariants.{Line, Order, InputTooLong, PageFull}

-- what is kept of a page's inputs: how many there were, the number of points on which they are counted, if they are, and the counts at each point
pub record Kept : Type 0 where
  pub inputs : ℕ
  pub total : Option ℕ
  pub counts : List ℕ

-- one input more at its point
abbrev pub counted : ℕ → List ℕ → List ℕ → List ℕ
counted total counts input = set counts (point_of total input) (get_or counts (point_of total input) 0 + 1)

-- the same, where inputs are counted
abbrev pub counted_if : Option ℕ → List ℕ → List ℕ → List ℕ
counted_if None counts input = counts
counted_if (Some total) counts input = counted total counts input

-- one input more
abbrev pub with_input : Kept → List ℕ → Kept
with_input k input = record { inputs = k.inputs + 1; total = k.total; counts = counted_if k.total k.counts input }

-- each of these inputs more
abbrev pub with_inputs : Kept → Inputs → Kept
with_inputs k [] = k
with_inputs k (input ∷ inputs) = with_inputs (with_input k input) inputs

-- no input yet, of a page whose inputs are not counted; the counts are those of another page
abbrev pub passing : List ℕ → Kept
passing counts = record { inputs = 0; total = None; counts = counts }

-- no input yet, of the page whose inputs are counted
abbrev pub starting : ℕ → Kept
starting total = record { inputs = 0; total = Some total; counts = replicate total 0 }

-- a page begins: the wanted one from nothing, another leaves the counts as they are
abbrev pub begun : PageName → ℕ → PageName → List ℕ → Kept
begun wanted total page counts = if page_eq page wanted then starting total else passing counts

-- the input is above the last one
abbrev pub is_above_last : Option (List ℕ) → List ℕ → Bool
is_above_last None input = true
is_above_last (Some last) input = is_lt (bytes_cmp last input)

-- what is wrong with an input on line n, after so many inputs with this last one
abbrev pub next_fault : ℕ → Option (List ℕ) → ℕ → List ℕ → Option BookFileFault
next_fault n last count input =
    if nat_lt most_bytes (length input) then Some (InputTooLong n) else
    (if is_above_last last input then (if nat_lt count most_inputs then None else Some (PageFull n)) else Some (Order n))

-- a fault, or what comes where there is none
abbrev pub or_fault : {X : Type 0} → Option BookFileFault → Result X BookFileFault → Result X BookFileFault
or_fault None r = r
or_fault (Some fault) r = Err fault

-- a page that stands, whatever its inputs
abbrev pub standing : Option PageName → Standing
standing page = option_map (λ p. (p, [])) page

-- The counts of the wanted page after these lines, from number n on, or the first fault in them: the page that stands,
-- its last input and what is kept of its inputs are all that is known of the lines before.
abbrev pub tally_from : PageName → ℕ → Option PageName → ℕ → Option (List ℕ) → Kept → List FileLine → Result (List ℕ) BookFileFault
tally_from wanted total page n last k [] = Ok k.counts
tally_from wanted total page n last k (neither ∷ ls) = Err (Line n)
tally_from wanted total page n last k (begins next ∷ ls) =
    or_fault (page_fault n (standing page) next ls) (tally_from wanted total (Some next) (n + 1) None (begun wanted total next k.counts) ls)
tally_from wanted total None n last k (adds input ∷ ls) = Err (Line n)
tally_from wanted total (Some page) n last k (adds input ∷ ls) =
    or_fault (next_fault n last k.inputs input) (tally_from wanted total (Some page) (n + 1) (Some input) (with_input k input) ls)

-- the same where a page ends, so that nothing is kept but the counts
abbrev pub tally_after : PageName → ℕ → Option PageName → ℕ → List ℕ → List FileLine → Result (List ℕ) BookFileFault
tally_after wanted total page n counts ls = tally_from wanted total page n None (passing counts) ls

-- counts are made for each point, and none is above the number of inputs
pub record IsCounting (k : Kept) (total : ℕ) : Type 0 where
  pub allowed : IsRuleTotal total
  pub whole : length k.counts ≡ total
  pub small : (p : ℕ) → get_or k.counts p 0 ≤ k.inputs

-- no more inputs than a page takes, and the counts are such where inputs are counted
pub record IsKept (k : Kept) : Type 0 where
  pub few : k.inputs ≤ most_inputs
  pub counting : IfSome k.total (IsCounting k)
