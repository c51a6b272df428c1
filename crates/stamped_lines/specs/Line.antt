-- The lines of what is written (JSON Lines, https://jsonlines.org): each ends with a line feed.
use Rattle.std.specs.Prelude.{◌==◌, ◌+◌, ◌&&◌, ℕ, Bool, List, codes, length, nat_eq, not, Option, Some, None, if◌then◌else◌}
use Rattle.std.specs.List.{position, starts_with}

abbrev pub is_feed : ℕ → Bool
is_feed byte = byte == 10

abbrev pub length_by : ℕ → Option ℕ → ℕ
length_by all None = all
length_by all (Some place) = place + 1

-- how many bytes the first line has, with its line feed: all of them where none ends
abbrev pub line_length : List ℕ → ℕ
line_length text = length_by (length text) (position is_feed text)

-- a line begins that is an object of JSON, as do all others of the text
abbrev pub is_json : Bool → List ℕ → Bool
is_json is_begun text = not is_begun && starts_with nat_eq text (codes "{")

-- how much of a text is written at once: no more than one line of those that have stamps
abbrev pub piece_length : Bool → Bool → List ℕ → ℕ
piece_length has_stamps is_begun text = if has_stamps && not (is_json is_begun text) then line_length text else length text
