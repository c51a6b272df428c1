-- Lists that only grow.
use Rattle.std.specs.Prelude.{◌≡◌, List, ◌++◌}

abbrev pub StartsWith : {X : Type 0} → List X → List X → Type 0
StartsWith {X = X} all front = (rest : List X) × (all ≡ front ++ rest)
