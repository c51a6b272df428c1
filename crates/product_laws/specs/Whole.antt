-- Documents whose numbers are all whole, by the paths of their files.
use Rattle.std.specs.Prelude.{◌≡◌, ℕ, List, [], ◌∷◌, Ok}
use Rattle.flagops_files.specs.Loading.{max_text}
use Rattle.flagops_shell.specs.Files.{Holding, load_of}
use Rattle.product_laws.specs.FloatWhole.{IsWholeText}

-- the numbers of the file at a path are whole, if it is read and is a value of JSON's
abbrev pub IsWholeAt : Holding → List ℕ → Type 0
IsWholeAt at path = (bytes : List ℕ) → load_of at path max_text ≡ Ok bytes → IsWholeText bytes

-- of the files at these paths
abbrev pub AreWholeAt : Holding → List (List ℕ) → Type 0
AreWholeAt at [] = Unit {0}
AreWholeAt at (path ∷ paths) = IsWholeAt at path × AreWholeAt at paths
