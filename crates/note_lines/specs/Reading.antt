-- Which note a line stands for: the one whose line it is.
use Rattle.std.specs.Prelude.{◌≡◌, ◌≢◌, ℕ, List, Option, Some, None}
use Rattle.std.specs.Option.{option_and_then}
use Rattle.flag_text.specs.Shape.{Shape, list, Items, no_items, item}
use Rattle.flag_text.specs.Readers.{as_text}
use Rattle.book_core.specs.Page.{PageName}
use Rattle.book_core.specs.Reading.{site_of, by_of}
use Rattle.note_lines.specs.Hashed.{Hashed, IsHashed, hashed_line}
use Rattle.note_lines.specs.Note.{Noted, IsNote, note_line}

-- the line is that of this note, or that of no note
abbrev pub Reads : List ℕ → Option Noted → Type 0
Reads line (Some note) = IsNote note × (line ≡ note_line note)
Reads line None = (note : Noted) → IsNote note → line ≢ note_line note

-- the same of notes without their inputs
abbrev pub ReadsHashed : List ℕ → Option Hashed → Type 0
ReadsHashed line (Some note) = IsHashed note × (line ≡ hashed_line note)
ReadsHashed line None = (note : Hashed) → IsHashed note → line ≢ hashed_line note

-- ---- for private clauses: the note that a tree stands for

infixl 10 ◌>>=◌
abbrev ◌>>=◌ : {A B : Type 0} → Option A → (A → Option B) → Option B
o >>= f = option_and_then f o

abbrev pub page_from : Shape → Shape → Shape → Option PageName
page_from flag site by = do
  flag ← as_text flag
  site ← site_of site
  by ← by_of by
  Some (record { flag = flag; site = site; by = by })

-- the page of a list of four, and its last part
abbrev pub parts_of : Items → Option (PageName × Shape)
parts_of (item flag (item site (item by (item last no_items)))) = do
  page ← page_from flag site by
  Some (page, last)
parts_of ts = None

abbrev pub page_and_last : Shape → Option (PageName × Shape)
page_and_last (list ts) = parts_of ts
page_and_last t = None

abbrev pub shape_note : Shape → Option Noted
shape_note t = do
  parts ← page_and_last t
  input ← as_text parts.1
  Some (record { page = parts.0; input = input })

abbrev pub shape_hashed : Shape → Option Hashed
shape_hashed t = do
  parts ← page_and_last t
  hash ← site_of parts.1
  Some (record { page = parts.0; hash = hash })
