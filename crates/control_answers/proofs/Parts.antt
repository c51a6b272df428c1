-- The parts of a text, each put behind the one before it.
use Rattle.std.proofs.Common.{◌≡◌, ◌∙◌, ℕ, List, [], ◌∷◌, ◌++◌, refl, append_assoc}

-- as they are put
abbrev put : List ℕ → List (List ℕ) → List ℕ
put x [] = x
put x (p ∷ ps) = put (x ++ p) ps

-- as a definition has them
abbrev parts : List ℕ → List (List ℕ) → List ℕ
parts x [] = x
parts x (p ∷ ps) = x ++ parts p ps

longer : (x p : List ℕ) (ps : List (List ℕ)) → parts (x ++ p) ps ≡ x ++ parts p ps
longer x p [] = refl
longer x p (q ∷ qs) = append_assoc x p (parts q qs)

pub in_parts : (x : List ℕ) (ps : List (List ℕ)) → put x ps ≡ parts x ps
in_parts x [] = refl
in_parts x (p ∷ ps) = in_parts (x ++ p) ps ∙ longer x p ps
