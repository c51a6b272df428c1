-- What is written before a line, and what is known of a writer behind a write: whether it is amid a line, and the level of the line that was begun last.
use Rattle.std.specs.Prelude.{◌==◌, ◌&&◌, ◌||◌, ◌++◌, ℕ, Bool, List, [], ◌∷◌, codes, length, nat_eq, nat_lt, not, take, if◌then◌else◌}
use Rattle.std.specs.List.{ends_with}
use Rattle.stamped_lines.specs.Level.{level_of}
use Rattle.stamped_lines.specs.Line.{is_json, piece_length}
use Rattle.stamped_lines.specs.declared.level.Level.{Level}

-- a line begins that has a stamp
abbrev pub begins : Bool → List ℕ → Bool
begins is_begun text = not is_begun && not (is_json is_begun text) && nat_lt 0 (length text)

abbrev pub level_after : Bool → Bool → Level → List ℕ → Level
level_after has_stamps is_begun level text = if begins is_begun text then level_of (take (piece_length has_stamps is_begun text) text) level else level

-- n bytes of the text were taken
abbrev pub begun_after : Bool → List ℕ → ℕ → Bool
begun_after is_begun text n = if n == 0 then is_begun || begins is_begun text else not (ends_with nat_eq (take n text) (10 ∷ []))

-- the text of a moment (RFC 3339) and the name of a level
unfoldable pub stamp_text : List ℕ → List ℕ → List ℕ
stamp_text moment level = moment ++ (codes " " ++ (level ++ codes " "))
