-- What stands behind the last line of a stream, and whether there is anything at all.
use Rattle.std.specs.Prelude.{ℕ, nat_eq, nat_lt, Bool, false, List, [], ◌∷◌, length}
use Rattle.byte_streams.specs.Lines.{parts_of}

-- the last of these parts, which is no line, has bytes
abbrev pub has_rest : List (List ℕ) → Bool
has_rest [] = false
has_rest (rest ∷ []) = nat_lt 0 (length rest)
has_rest (line ∷ next ∷ parts) = has_rest (next ∷ parts)

-- bytes stand behind the last line feed: the last line has no end
abbrev pub is_torn : List ℕ → Bool
is_torn bytes = has_rest (parts_of bytes)

-- there are no bytes
abbrev pub is_empty : List ℕ → Bool
is_empty bytes = nat_eq (length bytes) 0
