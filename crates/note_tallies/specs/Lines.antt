-- The tally of one page of note lines that come in rising order: how many of the page's inputs fall on each point, or how many of their hashes.
use Rattle.std.specs.Prelude.{◌≡◌, ℕ, ◌+◌, List, get_or, set, replicate, Bool, true, ◌&&◌, nat_lt, if◌then◌else◌, Option, Some, None, Result, Ok, Err}
use Rattle.std.specs.Bool.{beq}
use Rattle.std.specs.Option.{option_or}
use Rattle.std.specs.Ordering.{is_le}
use Rattle.bucket_core.specs.Point.{point_of, scale}
use Rattle.book_core.specs.Page.{PageName, bytes_cmp, page_eq}
use Rattle.page_tally.specs.Folding.{is_above_last}
use Rattle.note_lines.specs.Hashed.{Hashed, IsHashed, has_hash, hashed_line}
use Rattle.note_lines.specs.Note.{Noted, IsNote, note_line}
use Rattle.note_tallies.specs.Tally.{PageTally, IsPageTally, most_at_point, most_in_all}
use Rattle.note_tallies.specs.declared.fault.LineTallyFault.{LineTallyFault}
use Rattle.note_tallies.specs.declared.fault.LineTallyFault.TheVariants.{Order, TooMany, Mixed}

-- what a line says: a note, or one without its input
pub data Said : Type 0 where
  of_input : Noted → Said
  of_hash : Hashed → Said

-- what it says is such a note
abbrev pub IsSaid : Said → Type 0
IsSaid (of_input note) = IsNote note
IsSaid (of_hash note) = IsHashed note

abbrev pub said_line : Said → List ℕ
said_line (of_input note) = note_line note
said_line (of_hash note) = hashed_line note

abbrev pub said_page : Said → PageName
said_page (of_input note) = note.page
said_page (of_hash note) = note.page

-- where it is counted: an input at the point of its hash
abbrev pub said_point : ℕ → Said → ℕ
said_point total (of_input note) = point_of total note.input
said_point total (of_hash note) = scale total note.hash

-- a page and a total; the last line of all; the first and the last line that were counted; how many were, and how many on each point
pub record Tallied : Type 0 where
  pub page : PageName
  pub total : ℕ
  pub before : Option (List ℕ)
  pub first : Option (List ℕ)
  pub last : Option (List ℕ)
  pub inputs : ℕ
  pub counts : List ℕ

-- before the first line
abbrev pub untallied : PageName → ℕ → Tallied
untallied page total = record { page = page; total = total; before = None; first = None; last = None; inputs = 0; counts = replicate total 0 }

-- a line of another page is passed over
abbrev pub passed : Tallied → List ℕ → Tallied
passed t line = record { page = t.page; total = t.total; before = Some line; first = t.first; last = t.last; inputs = t.inputs; counts = t.counts }

-- one more on a point
abbrev pub counted_at : List ℕ → ℕ → List ℕ
counted_at counts at = set counts at (get_or counts at 0 + 1)

-- a line of the page is counted at its point
abbrev pub tallied : Tallied → List ℕ → ℕ → Tallied
tallied t line at = record { page = t.page; total = t.total; before = Some line; first = option_or t.first (Some line); last = Some line; inputs = t.inputs + 1; counts = counted_at t.counts at }

-- there is room for one more, in all and on its point
abbrev pub has_room : Tallied → ℕ → Bool
has_room t at = nat_lt t.inputs most_in_all && nat_lt (get_or t.counts at 0) most_at_point

-- what a line of the page changes
abbrev pub with_point : Tallied → List ℕ → ℕ → Result Tallied LineTallyFault
with_point t line at = if has_room t at then Ok (tallied t line at) else Err TooMany

-- a line has an input as the one before it, or a hash as that
abbrev pub is_alike : Option (List ℕ) → List ℕ → Bool
is_alike None line = true
is_alike (Some before) line = beq (has_hash before) (has_hash line)

-- what a line changes; it has to be above the line before it, and of the same kind
abbrev pub with_said : Tallied → Said → Result Tallied LineTallyFault
with_said t said =
    if is_above_last t.before (said_line said) then (
    if is_alike t.before (said_line said) then (
    if page_eq (said_page said) t.page then with_point t (said_line said) (said_point t.total said) else Ok (passed t (said_line said)))
    else Err Mixed)
    else Err Order

-- the tally of the lines so far
abbrev pub finished : Tallied → PageTally
finished t = record { page = t.page; total = t.total; first = t.first; last = t.last; inputs = t.inputs; counts = t.counts }

-- the last line that was counted is not above the last line of all, and of the same kind
abbrev pub IsWithin : Option (List ℕ) → Option (List ℕ) → Type 0
IsWithin None before = Unit {0}
IsWithin (Some last) None = ⊥
IsWithin (Some last) (Some before) = (is_le (bytes_cmp last before) ≡ true) × (has_hash last ≡ has_hash before)

-- what was counted is a tally, whose last line is not above the last line of all
pub record IsTally (t : Tallied) : Type 0 where
  pub lawful : IsPageTally (finished t)
  pub within : IsWithin t.last t.before
