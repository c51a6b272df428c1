-- Which values count as true (JsonLogic, "Truthy and Falsy").
use Rattle.std.specs.Prelude.{ℕ, ℤ, pos, negsuc, Bool, true, false, not, List, [], ◌∷◌, nat_lt}
use Rattle.flag_text.specs.Shape.{Shape, null, boolean, whole, other, text, list, object, Items, no_items, item}

abbrev pub is_zero : ℤ → Bool
is_zero (pos n) = not (nat_lt 0 n)
is_zero (negsuc n) = false

abbrev pub is_empty_text : List ℕ → Bool
is_empty_text [] = true
is_empty_text (b ∷ bs) = false

abbrev pub is_empty_list : Items → Bool
is_empty_list no_items = true
is_empty_list (item t ts) = false

-- `false`, null, 0, the empty text and the empty list are false; all else is true
abbrev pub is_true : Shape → Bool
is_true null = false
is_true (boolean b) = b
is_true (whole n) = not (is_zero n)
is_true other = true
is_true (text s) = not (is_empty_text s)
is_true (list ts) = not (is_empty_list ts)
is_true (object ms) = true
