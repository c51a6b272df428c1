-- What is seen of the bytes of a file at their two ends.
use Rattle.std.specs.Prelude.{ℕ, ◌+◌, ◌==◌, nat_eq, Bool, List, [], ◌∷◌, codes, count_by, if◌then◌else◌}
use Rattle.std.specs.List.{ends_with, starts_with}
use Rattle.file_diagnostics.specs.declared.ends.Ends.{Ends}
use Rattle.file_diagnostics.specs.declared.ends.Ends.TheVariants.{Empty, Marked, Whole, Cut}

-- the code point U+FEFF in UTF-8, which some editors write before a text
abbrev pub byte_order_mark : List ℕ
byte_order_mark = 239 ∷ (187 ∷ (191 ∷ []))

abbrev pub is_feed : ℕ → Bool
is_feed b = b == 10

-- how many lines there are, with the one that has no line feed
abbrev pub lines_in : List ℕ → ℕ
lines_in bytes = count_by is_feed bytes + 1

-- the first of these that the bytes have
abbrev pub ends_of : List ℕ → Ends
ends_of [] = Empty
ends_of (b ∷ bytes) =
    if starts_with nat_eq (b ∷ bytes) byte_order_mark then Marked else
    (if ends_with nat_eq (b ∷ bytes) (codes "\n") then Whole else Cut (lines_in (b ∷ bytes)))
