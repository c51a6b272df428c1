-- What floats change.
use Rattle.std.specs.Prelude.{◌≡◌, ◌≤◌, ℕ, true, not, List, Some}
use Rattle.std.specs.List.{list_all}
use Rattle.json.specs.Json.{Json, number, string}
use Rattle.json.specs.Print.{print}
use Rattle.json.specs.Tree.{HasNumbers, depth, json_tokens}
use Rattle.flag_text.specs.Grammar.{value_in}
use Rattle.flag_text.specs.Reading.{doc_of, json_levels}
use Rattle.spelled_numbers.specs.Floats.{has_whole_numbers, spelled}
use Rattle.spelled_numbers.specs.Marks.{marks_of_text}
use Rattle.spelled_numbers.specs.Reading.{doc_with_floats}

-- A document whose numbers are all whole stands for what it always stood for.
abbrev pub FloatsChangeNothing : Type 0
FloatsChangeNothing = (bytes : List ℕ) (limit : ℕ) (j : Json) → value_in bytes ≡ Some j → has_whole_numbers j ≡ true → doc_with_floats bytes limit ≡ doc_of bytes limit

-- None of its flags has floats.
abbrev pub WholeFlagsHaveNoFloats : Type 0
WholeFlagsHaveNoFloats = (bytes : List ℕ) (j : Json) → value_in bytes ≡ Some j → has_whole_numbers j ≡ true → list_all (λ m. not m.1) (marks_of_text bytes) ≡ true

-- The text that a number of such variants stands as is its spelling.
abbrev pub NumbersKeepTheirSpelling : Type 0
NumbersKeepTheirSpelling = (s : List ℕ) → spelled (number s) ≡ string s

-- The text that a value of them stands as is that value, where it is printed as it is.
abbrev pub TextsAreTheirValues : Type 0
TextsAreTheirValues = (j : Json) → HasNumbers j → depth j ≤ json_levels → value_in (print (json_tokens j)) ≡ Some j
