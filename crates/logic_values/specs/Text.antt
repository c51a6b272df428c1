-- Texts (JsonLogic: `cat`, `substr`, `in`; flagd: `starts_with`, `ends_with`).
use Rattle.std.specs.Prelude.{ℕ, ◌+◌, ◌-◌, min, max, ◌==◌, ℤ, pos, negsuc, suc, Bool, true, false, ◌||◌, List, [], ◌∷◌, length, take, drop, flat_map, nat_lt, if◌then◌else◌, Option, Some, None, option_map, option_and_then, Result, Ok, Err, codes, chars, encode_utf8_all, nat_eq}
use Rattle.std.specs.List.{starts_with}
use Rattle.std.specs.Fmt.{signed_decimal}
use Rattle.flag_text.specs.Shape.{Shape, null, boolean, whole, other, text, list, object}
use Rattle.logic_values.specs.declared.fault.EvalFault.{EvalFault}
use Rattle.logic_values.specs.declared.fault.EvalFault.TheVariants.{Arithmetic, TextTooLong}
use Rattle.logic_values.specs.Number.{number_of}

abbrev pub truth_text : Bool → List ℕ
truth_text true = codes "true"
truth_text false = codes "false"

-- what a value adds to a text: null, lists and objects add nothing
abbrev pub piece : Shape → List ℕ
piece null = []
piece (boolean b) = truth_text b
piece (whole n) = signed_decimal n
piece other = []
piece (text s) = s
piece (list ts) = []
piece (object ms) = []

abbrev pub most_bytes : ℕ
most_bytes = 65536

-- a text that was made, unless it is too long
abbrev pub made : List ℕ → Result (List ℕ) EvalFault
made s = if nat_lt most_bytes (length s) then Err TextTooLong else Ok s

abbrev pub if_text : Result (List ℕ) EvalFault → Result Shape EvalFault
if_text (Ok s) = Ok (text s)
if_text (Err f) = Err f

-- `cat`
abbrev pub joined : List Shape → Result Shape EvalFault
joined vs = if_text (made (flat_map piece vs))

-- where a part of so many characters starts: from the front, or from the back where the number is negative
abbrev pub start_of : ℕ → ℤ → ℕ
start_of len (pos s) = min s len
start_of len (negsuc s) = len - suc s

-- where it ends: by its length from its start, or so many before the end where the number is negative
abbrev pub end_of : ℕ → ℕ → ℤ → ℕ
end_of len start (pos n) = min len (start + n)
end_of len start (negsuc n) = max start (len - suc n)

-- the characters, Unicode scalar values, from one place up to another
abbrev pub characters_between : List ℕ → ℕ → ℕ → List ℕ
characters_between cs start end = take (end - start) (drop start cs)

abbrev pub part_to_end : List ℕ → ℤ → List ℕ
part_to_end cs s = characters_between cs (start_of (length cs) s) (length cs)

abbrev pub part_of_length : List ℕ → ℤ → ℤ → List ℕ
part_of_length cs s n = characters_between cs (start_of (length cs) s) (end_of (length cs) (start_of (length cs) s) n)

abbrev pub part_result : Option (List ℕ) → Result Shape EvalFault
part_result None = Err Arithmetic
part_result (Some cs) = Ok (text (encode_utf8_all cs))

-- `substr`, of the text that `cat` makes of the first value; start and length are numbers
abbrev pub part : List Shape → Result Shape EvalFault
part [] = Err Arithmetic
part (v ∷ []) = Err Arithmetic
part (v ∷ s ∷ []) = part_result (option_map (part_to_end (chars (piece v))) (number_of s))
part (v ∷ s ∷ n ∷ rest) = part_result (option_and_then (λ start. option_map (part_of_length (chars (piece v)) start) (number_of n)) (number_of s))

-- the bytes occur in the text
abbrev pub occurs_in : List ℕ → List ℕ → Bool
occurs_in s [] = length s == 0
occurs_in s (b ∷ bs) = starts_with nat_eq (b ∷ bs) s || occurs_in s bs

abbrev pub both_texts : (List ℕ → List ℕ → Bool) → Shape → Shape → Bool
both_texts test (text a) (text b) = test a b
both_texts test a b = false
