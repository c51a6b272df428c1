-- What a sink was handed.
use Rattle.std.specs.Prelude.{◌≡◌, List, [], ◌∷◌, ◌++◌, Bool, true, false}
use Rattle.std.specs.Bool.{MatchBool}
use Rattle.sync_frames.specs.Snapshots.{Numbered}

-- It took these, one after the other.
abbrev pub Took : {X : Type 0} → (X → Numbered → X → Type 0) → X → List Numbered → X → Type 0
Took took x [] y = y ≡ x
Took took x (s ∷ ss) y = (z : _) × took x s z × Took took z ss y

-- It was handed these and took all of them; or, where it is full, all but the last.
abbrev pub Handed : {X : Type 0} → (X → Numbered → X → Type 0) → (X → Numbered → X → Type 0) → X → List Numbered → Bool → X → Type 0
Handed took refused x ss false y = Took took x ss y
Handed took refused x ss true y = (taken : List Numbered) × (last : Numbered) × (z : _) × (ss ≡ taken ++ last ∷ []) × Took took x taken z × refused z last y

-- none is left where all were taken
abbrev pub NoneLeftIf : Bool → List Numbered → Type 0
NoneLeftIf all left = MatchBool all (left ≡ []) (Unit {0})
