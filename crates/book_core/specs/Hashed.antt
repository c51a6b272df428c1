-- A note without its input: in the place of the input that reached the operation its 32-bit hash stands, as a number.
use Rattle.std.specs.Prelude.{ℕ, ◌<◌, ◌^◌, Bool, not, nat_eq, List, [], ◌∷◌, pos, IfSome}
use Rattle.std.specs.List.{ends_with}
use Rattle.std.specs.Str.{IsUtf8}
use Rattle.flag_text.specs.Shape.{Shape, whole}
use Rattle.book_core.specs.Page.{PageName}
use Rattle.book_core.specs.Printing.{line_text}
use Rattle.murmur_core.specs.Murmur.{hash}
use Rattle.book_core.specs.Note.{Noted, parts_shape}

-- the page of the operation, and the hash
pub record Hashed : Type 0 where
  pub page : PageName
  pub hash : ℕ

-- [FLAG,SITE,BY,HASH]
abbrev pub hashed_shape : Hashed → Shape
hashed_shape note = parts_shape note.page (whole (pos note.hash))

-- the compact text of that list, and a line feed
unfoldable pub hashed_line : Hashed → List ℕ
hashed_line note = line_text (hashed_shape note)

-- its texts are texts, its site is a site, and its hash has 32 bits
pub record IsHashed (note : Hashed) : Type 0 where
  pub flag : IsUtf8 note.page.flag
  pub site : note.page.site < 2 ^ 32
  pub by : IfSome note.page.by IsUtf8
  pub hash : note.hash < 2 ^ 32

-- the hash of an input, with seed 0
abbrev pub hash_of : List ℕ → ℕ
hash_of input = hash input 0

-- a note without its input
abbrev pub hashed : Noted → Hashed
hashed note = record { page = note.page; hash = hash_of note.input }

-- no quotation mark stands before the bracket and the line feed at the end: of the lines of both kinds this is one with a hash
abbrev pub has_hash : List ℕ → Bool
has_hash line = not (ends_with nat_eq line (34 ∷ 93 ∷ 10 ∷ []))
