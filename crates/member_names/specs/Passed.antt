-- What a walk of tokens passes, and that it comes upon in it.
use Rattle.std.specs.Prelude.{◌≡◌, ℕ, ◌<◌, ◌∷◌, ◌++◌, List, map, Some, None}
use Rattle.std.specs.Borrow.{Bor}
use Rattle.json.specs.Find.{as_object}
use Rattle.json.specs.Json.{Members, Parse, value}
use Rattle.json.specs.Token.{Token}
use Rattle.member_names.specs.Places.{place_of, told}
use Rattle.member_names.specs.Repeated.{member_names}
use Rattle.member_names.specs.declared.walk.Next.{Next}
use Rattle.member_names.specs.declared.walk.Next.TheVariants.{Object, Other}

-- from the old tokens to the new ones the grammar reads something of which P holds
abbrev pub Passes : {A : Type 0} → Parse A → List Token → List Token → (A → Type 0) → Type 0
Passes {A} parse old new P = (a : A) × (parse old ≡ Some (a, new)) × P a

-- an object was opened, or another value was passed
abbrev pub Begins : ℕ → List Token → List Token → Next → Type 0
Begins depth old new Object = (0 < depth) × (old ≡ Token.begin_object ∷ new)
Begins depth old new (Other place) = Passes (value depth) old new (λ j. (as_object j ≡ None) × (told place ≡ place_of j))

-- the names of these members stand behind the others
abbrev pub Leaves : Members → List (Bor (List ℕ)) → List (Bor (List ℕ)) → Type 0
Leaves ms before after = (added : List (Bor (List ℕ))) × (after ≡ before ++ added) × (map (λ n. n.now) added ≡ member_names ms)
