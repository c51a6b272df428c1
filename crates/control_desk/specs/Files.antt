-- What the files of a desk hold.
use Rattle.std.specs.Prelude.{◌≡◌, ℕ, List, [], ◌++◌, codes, Option, Some, None, unwrap_or}
use Rattle.flagops_shell.specs.Files.{Holding}

-- the names of the files in each folder, in the order of their bytes
abbrev pub Naming : Type 0
Naming = List ℕ → List (List ℕ)

-- the path of a file in a folder
abbrev pub path_in : List ℕ → List ℕ → List ℕ
path_in folder name = folder ++ (codes "/" ++ name)

-- the line stands behind what the file at the path held
abbrev pub Appends : Option Holding → Option Holding → List ℕ → List ℕ → Type 0
Appends None new path line = Unit {0}
Appends (Some at) None path line = ⊥
Appends (Some at) (Some after) path line = after path ≡ Some (unwrap_or (at path) [] ++ line)
