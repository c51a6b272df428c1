-- The lines that the command `drive` prints.
use Rattle.std.specs.Prelude.{ℕ, Bool, true, false, List, [], ◌∷◌, ◌++◌, codes, decimal}
use Rattle.flag_resolve.specs.Printing.{resolution_spelled}
use Rattle.flag_resolve.specs.Resolved.{Resolved}

-- a line for each resolution, whose value is printed by its spelling where that is so, as of a flag with floats
abbrev pub resolution_lines : List Bool → List Resolved → List ℕ
resolution_lines spelled [] = []
resolution_lines [] (r ∷ rs) = resolution_spelled false r ++ (codes "\n" ++ resolution_lines [] rs)
resolution_lines (b ∷ bs) (r ∷ rs) = resolution_spelled b r ++ (codes "\n" ++ resolution_lines bs rs)

-- How many inputs the book has, how many notes it accepted, how many of them were new, how many a full page refused, and how many inputs were too long: a line each; or with `--json` an object in one line, its members in the order of their names.
abbrev pub count_lines : Bool → ℕ → ℕ → ℕ → ℕ → ℕ → List ℕ
count_lines false inputs calls news full long =
    codes "inputs " ++ (decimal inputs ++ (codes "\ncalls " ++ (decimal calls ++ (codes "\nnews " ++ (decimal news ++ (codes "\nfull " ++ (decimal full ++ (codes "\nlong " ++ (decimal long ++ codes "\n")))))))))
count_lines true inputs calls news full long =
    codes "{\"calls\":" ++ (decimal calls ++ (codes ",\"full\":" ++ (decimal full ++ (codes ",\"inputs\":" ++ (decimal inputs ++ (codes ",\"long\":" ++ (decimal long ++ (codes ",\"news\":" ++ (decimal news ++ codes "}\n")))))))))

-- both
unfoldable pub drive_text : Bool → List Bool → List Resolved → ℕ → ℕ → ℕ → ℕ → ℕ → List ℕ
drive_text json spelled answers inputs calls news full long = resolution_lines spelled answers ++ count_lines json inputs calls news full long
