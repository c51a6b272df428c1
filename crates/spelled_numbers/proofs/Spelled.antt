-- The texts of values.
use Rattle.std.proofs.Common.{◌≡◌, ℕ, ◌≤◌, List, [], ◌∷◌, Some, ap, append-nil}
use Rattle.json.specs.Json.{Json, number, string}
use Rattle.json.specs.Print.{print, print_from}
use Rattle.json.specs.Token.{Token}
use Rattle.json.specs.Tree.{HasNumbers, depth, json_tokens}
use Rattle.json.proofs.Printed.Tokens.{tokens-print}
use Rattle.json.proofs.Printed.Trees.{ArePrintable-json_tokens}
use Rattle.flag_text.specs.Grammar.{value_in}
use Rattle.flag_text.specs.Reading.{json_levels}
use Rattle.spelled_numbers.specs.Floats.{spelled}
use Rattle.spelled_numbers.proofs.Readings.{read_back}

number_text : (s : List ℕ) → print (Token.number s ∷ []) ≡ s
unfolding print_from
number_text s = append-nil s

pub number_spelled : (s : List ℕ) → spelled (number s) ≡ string s
number_spelled s = ap string (number_text s)

pub value_text : (j : Json) → HasNumbers j → depth j ≤ json_levels → value_in (print (json_tokens j)) ≡ Some j
value_text j numbers shallow = read_back (print (json_tokens j)) j (tokens-print (json_tokens j) (ArePrintable-json_tokens j numbers)) shallow
