-- What a hand-over does, in private contracts alone.
use Rattle.std.specs.Prelude.{◌≡◌, ℕ, List, ◌++◌, Option}
use Rattle.std.specs.Io.KnownBytes.{append_known}

-- a front of what waited was handed over
pub record Moves (old_bytes new_bytes : Option (List ℕ)) (old_handed new_handed old_waiting new_waiting : List ℕ) : Type 0 where
  pub more : List ℕ
  pub bytes : new_bytes ≡ append_known old_bytes more
  pub handed : new_handed ≡ old_handed ++ more
  pub waiting : old_waiting ≡ more ++ new_waiting
