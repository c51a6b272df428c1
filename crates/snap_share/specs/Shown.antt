-- What the two copies of the current stamp have in common.
use Rattle.std.specs.Prelude.{◌≡◌, ℕ, List, length}

-- it is the number of the stamp, and an operation gives its own
abbrev pub TakesNumber : {X Operation : Type 0} → (Operation → ℕ) → (List X → ℕ) → (ℕ → Operation → ℕ) → Type 0
TakesNumber {X = X} {Operation = Operation} number state applied =
    ((stamp : List X) → state stamp ≡ length stamp) × ((before : ℕ) → (operation : Operation) → applied before operation ≡ number operation)
