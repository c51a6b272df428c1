-- Blank lines, and what stands behind blanks.
use Rattle.std.specs.Prelude.{ℕ, List, [], ◌∷◌, Bool, false, ◌||◌, ◌==◌, if◌then◌else◌}
use Rattle.std.specs.List.{list_all}

-- a space, a tab, a line feed or a carriage return: white space in JSON (RFC 8259, section 2)
abbrev pub is_white : ℕ → Bool
is_white b = (((b == 32) || (b == 9)) || (b == 10)) || (b == 13)

-- a line that has no other byte
abbrev pub is_blank : List ℕ → Bool
is_blank line = list_all is_white line

-- the first byte behind blanks begins an object, as that of a book does; that of a note line begins a list
abbrev pub begins_book : List ℕ → Bool
begins_book [] = false
begins_book (b ∷ bs) = if is_white b then begins_book bs else b == 123
