-- Values and lists of names in words.
use Rattle.std.specs.Prelude.{◌++◌, ◌-◌, ℕ, List, codes, decimal, if◌then◌else◌, length, nat_eq, nat_lt, take}
use Rattle.std.specs.Fmt.{signed_decimal}
use Rattle.std.specs.List.{join_by}
use Rattle.flag_text.specs.Shape.{Shape, null, boolean, whole, other, text, list, object}
use Rattle.file_diagnostics.specs.Named.{quoted}

-- what a value is: a scalar itself, else its kind
abbrev pub value_words : Shape → List ℕ
value_words null = codes "null"
value_words (boolean b) = if b then codes "true" else codes "false"
value_words (whole n) = signed_decimal n
value_words other = codes "a number that is not whole"
value_words (text t) = quoted t
value_words (list ts) = codes "a list"
value_words (object ms) = codes "an object"

-- the most names that are listed
abbrev pub most_names : ℕ
most_names = 10

-- the first names with commas between them, and how many more there are
abbrev pub list_words : List (List ℕ) → List ℕ
list_words names =
    if nat_eq (length names) 0 then codes "none" else
    (if nat_lt most_names (length names) then join_by quoted (codes ", ") (take most_names names) ++ (codes " and " ++ (decimal (length names - most_names) ++ codes " more"))
    else join_by quoted (codes ", ") names)
