-- What a call that changes a value answers, with the value as it then is.
use Rattle.std.specs.Prelude.{◌≢◌, Result, Ok, Err}

-- the answer of a call that gives nothing but the changed value
abbrev pub outcome : {X Y E : Type 0} → Y → Result X E → Result Y E
outcome after (Ok done) = Ok after
outcome after (Err fault) = Err fault

-- the answer has this property, unless it is `want`, want of memory
abbrev pub Unless : {Y E : Type 0} → E → (Result Y E → Type 0) → Result Y E → Type 0
Unless want P (Ok after) = P (Ok after)
Unless want P (Err fault) = fault ≢ want → P (Err fault)
