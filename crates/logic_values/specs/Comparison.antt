-- Equality and order of values (JsonLogic: `==`, `===`, `<`, `<=`, `>`, `>=`).
use Rattle.std.specs.Prelude.{ℤ, Bool, true, false, not, ◌&&◌, List, [], ◌∷◌, Option, Some, None, int_lt, int_le}
use Rattle.std.specs.Ordering.{int_eq, nat_cmp, is_lt, is_le}
use Rattle.std.specs.Str.{bytes_eq}
use Rattle.std.specs.Cmp.Lexicographic.{slice_cmp}
use Rattle.flag_text.specs.Shape.{Shape, null, boolean, whole, text}
use Rattle.logic_values.specs.Number.{decimal_value, number_of, truth_number}

abbrev pub bool_eq : Bool → Bool → Bool
bool_eq true b = b
bool_eq false b = not b

-- there is a number, and it is this one
abbrev pub is_number : Option ℤ → ℤ → Bool
is_number None n = false
is_number (Some m) n = int_eq m n

-- `===`: equal values of the same kind, lists and objects never
abbrev pub is_same : Shape → Shape → Bool
is_same null null = true
is_same (boolean a) (boolean b) = bool_eq a b
is_same (whole a) (whole b) = int_eq a b
is_same (text a) (text b) = bytes_eq a b
is_same a b = false

-- `==`: the same, and a text with the number that it spells, a boolean with 0 or 1
abbrev pub is_equal : Shape → Shape → Bool
is_equal (whole a) (text b) = is_number (decimal_value b) a
is_equal (text a) (whole b) = is_number (decimal_value a) b
is_equal (boolean a) (whole b) = int_eq (truth_number a) b
is_equal (whole a) (boolean b) = int_eq a (truth_number b)
is_equal a b = is_same a b

-- the number that an order goes by: a boolean counts as 0 or 1
abbrev pub order_number : Shape → Option ℤ
order_number (boolean b) = Some (truth_number b)
order_number t = number_of t

-- both have a number, and the test passes
abbrev pub both_numbers : (ℤ → ℤ → Bool) → Option ℤ → Option ℤ → Bool
both_numbers test None n = false
both_numbers test (Some m) None = false
both_numbers test (Some m) (Some n) = test m n

-- `<`: two texts by their bytes, all else by number
abbrev pub is_less : Shape → Shape → Bool
is_less (text a) (text b) = is_lt (slice_cmp nat_cmp a b)
is_less a b = both_numbers int_lt (order_number a) (order_number b)

-- `<=`
abbrev pub is_at_most : Shape → Shape → Bool
is_at_most (text a) (text b) = is_le (slice_cmp nat_cmp a b)
is_at_most a b = both_numbers int_le (order_number a) (order_number b)

-- the test passes of each value and the next
abbrev pub is_chain : (Shape → Shape → Bool) → List Shape → Bool
is_chain test [] = true
is_chain test (a ∷ []) = true
is_chain test (a ∷ b ∷ rest) = test a b && is_chain test (b ∷ rest)
