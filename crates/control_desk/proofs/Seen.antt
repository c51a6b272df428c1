-- What is said of a value, of an outcome, and of it as it is seen.
use Rattle.std.proofs.Common.{◌≡◌, true, false, Option, Some, None, Result, Ok, Err, refl}
use Rattle.std.specs.Prelude.{OnErr, OnOk, is_err, is_some, option_map}

-- there is one where there is one to see
pub seen_alike : {X Y : Type 0} (see : X → Y) (o : Option X) → is_some o ≡ is_some (option_map see o)
seen_alike see None = refl
seen_alike see (Some x) = refl

-- what is said of all is said of this one
pub of_one : {A T E : Type 0} (P : A → Type 0) (r : Result T E) (a : A) → OnOk r ((x : A) → P x) → OnOk r (P a)
of_one P (Ok t) a all = all a
of_one P (Err e) a all = tt

-- what is said in any case is said of a fault
pub on_fault : {T E P : Type 0} (r : Result T E) → P → OnErr r P
on_fault (Ok t) p = tt
on_fault (Err e) p = p

-- what is said of a fault is so where there is one
pub at_fault : {T E P : Type 0} (r : Result T E) → is_err r ≡ true → OnErr r P → P
at_fault (Ok t) is p = absurd (cc is)
at_fault (Err e) is p = p

-- and what is said of a value where there is no fault
pub at_value : {T E P : Type 0} (r : Result T E) → is_err r ≡ false → OnOk r P → P
at_value (Ok t) is p = p
at_value (Err e) is p = absurd (cc is)

-- what holds in any case holds where there is a value
pub on_value : {T E P : Type 0} (r : Result T E) → P → OnOk r P
on_value (Ok t) p = p
on_value (Err e) p = tt
