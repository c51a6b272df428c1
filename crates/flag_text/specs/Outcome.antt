-- What a call gives, beside what its definition gives.
use Rattle.std.specs.Prelude.{◌≡◌, ◌≢◌, Result, Ok, Err}

-- what was returned, its value seen by `seen`
abbrev pub seen_as : {X Y E : Type 0} → (X → Y) → Result X E → Result Y E
seen_as seen (Ok x) = Ok (seen x)
seen_as seen (Err e) = Err e

-- What was returned, seen by `seen`, is what the definition gives, unless the fault is `want`, want of memory.
abbrev pub GivesUnless : {X Y E : Type 0} → E → (X → Y) → Result X E → Result Y E → Type 0
GivesUnless want seen (Ok x) wanted = wanted ≡ Ok (seen x)
GivesUnless want seen (Err e) wanted = e ≢ want → wanted ≡ Err e
