-- Whether a file may be a book, a tally or note lines, by the bytes that it begins with. A book begins with the line {"book":1}, a JSON
-- text (RFC 8259), a tally with the bytes {"tally":, and a note line with [.
use Rattle.std.specs.Prelude.{ℕ, ◌+◌, ◌==◌, ◌||◌, ◌&&◌, Bool, true, List, [], ◌∷◌, not, if◌then◌else◌, take, drop, Option, Some, None}
use Rattle.std.specs.List.{list_any, position}

-- no blank, no tab and no carriage return, which JSON passes over within a line
abbrev pub is_mark : ℕ → Bool
is_mark b = not ((b == 32 || b == 9) || b == 13)

abbrev pub from_place : Option ℕ → List ℕ → List ℕ
from_place None bytes = []
from_place (Some at) bytes = drop at bytes

-- the bytes from the first one on that is no blank
unfoldable pub after_blanks : List ℕ → List ℕ
after_blanks bytes = from_place (position is_mark bytes) bytes

-- a name that may be "tally", behind its first letter; what is not known speaks not against it
abbrev pub goes_on_as_tally : List ℕ → Bool
goes_on_as_tally [] = true
goes_on_as_tally (b ∷ bs) = b == 97

-- a name that may be "book" or "tally": the first letter, or an escape
abbrev pub begins_name : List ℕ → Bool
begins_name [] = true
begins_name (b ∷ bs) = (b == 98 || b == 92) || (b == 116 && goes_on_as_tally bs)

-- a member whose name may be one of them
abbrev pub begins_member : List ℕ → Bool
begins_member [] = true
begins_member (b ∷ bs) = b == 34 && begins_name bs

-- an object whose first member's name may be one of them
abbrev pub begins_object : List ℕ → Bool
begins_object [] = true
begins_object (b ∷ bs) = b == 123 && begins_member (after_blanks bs)

-- a book or a tally may begin so
unfoldable pub may_begin_record : List ℕ → Bool
may_begin_record bytes = begins_object (after_blanks bytes)

abbrev pub is_feed : ℕ → Bool
is_feed b = b == 10

abbrev pub through_place : Option ℕ → List ℕ → List ℕ
through_place None bytes = bytes
through_place (Some at) bytes = take (at + 1) bytes

-- the first line with its line feed, or all bytes where there is none
unfoldable pub first_line : List ℕ → List ℕ
first_line bytes = through_place (position is_feed bytes) bytes

-- a line ends in the bytes
abbrev pub ends_line : List ℕ → Bool
ends_line bytes = list_any is_feed bytes

-- no white space of JSON, a line feed neither
abbrev pub is_ink : ℕ → Bool
is_ink b = is_mark b && not (is_feed b)

-- the first line that is not blank begins with a list, or does not end here; what is not known speaks not against it
abbrev pub may_begin_notes : List ℕ → Bool
may_begin_notes [] = true
may_begin_notes (b ∷ bs) = if is_ink b then b == 91 || not (ends_line bs) else may_begin_notes bs

-- A book may begin so, or note lines: a line ends, and the first one that is not blank may be a note's, or others are passed over.
unfoldable pub may_note : Bool → List ℕ → Bool
may_note passing bytes = may_begin_record bytes || (ends_line bytes && (passing || may_begin_notes bytes))
