-- Files that are read one by one.
use Rattle.std.proofs.Common.{◌≡◌, ◌∙◌, ℕ, List, [], ◌∷◌, ◌++◌, Option, Some, None, ap, ap₂, sym}
use Rattle.std.specs.Prelude.{IfSome}
use Rattle.std.proofs.lemmas.List.{map-append}
use Rattle.flagops_shell.specs.Files.{Holding}
use Rattle.control_desk.specs.Files.{path_in}
use Rattle.control_desk.specs.Logs.{AreAt}

-- one more, which stands at its path
pub one_more : (h : Option Holding) (folder : List ℕ) (names files : List (List ℕ)) (name bytes : List ℕ)
    → AreAt h folder names files → IfSome h (λ at. Some bytes ≡ at (path_in folder name)) → AreAt h folder (names ++ name ∷ []) (files ++ bytes ∷ [])
one_more None folder names files name bytes are is = tt
one_more (Some at) folder names files name bytes are is =
    map-append Some files (bytes ∷ [])
    ∙ ap₂ (λ (xs ys : List (Option (List ℕ))). xs ++ ys) are (ap (λ (o : Option (List ℕ)). o ∷ []) is)
    ∙ sym (map-append (λ (n : List ℕ). at (path_in folder n)) names (name ∷ []))
