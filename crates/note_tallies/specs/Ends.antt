-- Lines of text, in private contracts alone.
use Rattle.std.specs.Prelude.{◌≡◌, ◌++◌, ◌∷◌, [], ℕ, List}
use Rattle.std.specs.Str.{IsUtf8}

-- a text and a line feed
abbrev pub IsTextLine : List ℕ → Type 0
IsTextLine line = (text : List ℕ) × IsUtf8 text × (line ≡ text ++ 10 ∷ [])
