-- What a guard takes over of keys that were set.
use Rattle.std.specs.Prelude.{◌≡◌, Bool, true, false, Option, Some, None}
use Rattle.ofrep_guards.specs.Key.{keys_view}
use Rattle.ofrep_guards.specs.declared.keys.Keys.{Keys}

-- those that were set last are held; or those that were held stay
abbrev pub TakesOver : Option Keys → Keys → Keys → Bool → Type 0
TakesOver None old new true = ⊥
TakesOver (Some later) old new true = keys_view new ≡ keys_view later
TakesOver later old new false = new ≡ old
