-- What a key is.
use Rattle.std.specs.Prelude.{ℕ, Bool, not, ◌&&◌, List, length, nat_lt}
use Rattle.std.specs.List.{list_all}

-- what a field may hold of a key: visible ASCII
abbrev pub is_visible : ℕ → Bool
is_visible b = nat_lt 32 b && nat_lt b 127

-- sixteen bytes at least
abbrev pub is_key : List ℕ → Bool
is_key line = not (nat_lt (length line) 16) && list_all is_visible line
