-- Names that are looked for and kept, each at its place (in private contracts alone).
use Rattle.std.specs.Prelude.{◌≡◌, ℕ, List, [], ◌∷◌, ◌++◌}
use Rattle.bucket_core.specs.Rule.{Numbered, AreNamed, all_named}

-- entries that have the names before have those after, in which one more entry, at the place, has this name
abbrev pub IsPlaced : List (List ℕ) → List (List ℕ) → List ℕ → ℕ → Type 0
IsPlaced before after name place = (es : Numbered) (weight : ℕ) → AreNamed before es
    → AreNamed after (es ++ (place, weight) ∷ []) × (all_named after (es ++ (place, weight) ∷ []) ≡ all_named before es ++ (name, weight) ∷ [])
