-- Blank lines.
use Rattle.std.specs.Prelude.{ℕ, List, Bool, ◌||◌, ◌==◌}
use Rattle.std.specs.List.{list_all}

-- a space, a tab, a carriage return or a line feed
abbrev pub is_white : ℕ → Bool
is_white b = (((b == 32) || (b == 9)) || (b == 13)) || (b == 10)

-- a line that has no other byte
abbrev pub is_blank : List ℕ → Bool
is_blank line = list_all is_white line
