-- Which pages a book has.
use Rattle.std.specs.Prelude.{ℕ, List, [], ◌∷◌, Bool, true, false, if◌then◌else◌}
use Rattle.std.specs.Str.{bytes_eq}
use Rattle.book_core.specs.Book.{Contents, Inputs}
use Rattle.book_core.specs.Page.{PageName}

-- no input stands there
abbrev pub has_none : Inputs → Bool
has_none [] = true
has_none (input ∷ inputs) = false

-- the pages of a flag, in their order
abbrev pub pages_of : List ℕ → Contents → List PageName
pages_of flag [] = []
pages_of flag (e ∷ es) = if bytes_eq e.0.flag flag then e.0 ∷ pages_of flag es else pages_of flag es
