-- Texts whose numbers are all whole.
use Rattle.std.specs.Prelude.{◌≡◌, ℕ, List, true, Some}
use Rattle.flag_text.specs.Grammar.{value_in}
use Rattle.spelled_numbers.specs.Floats.{has_whole_numbers}
use Rattle.json.specs.Json.{Json}

-- the numbers of a text are whole, if it is a value of JSON's
abbrev pub IsWholeText : List ℕ → Type 0
IsWholeText bytes = (j : Json) → value_in bytes ≡ Some j → has_whole_numbers j ≡ true
