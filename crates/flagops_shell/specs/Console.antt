-- What the two outputs of a command show.
use Rattle.std.specs.Prelude.{◌≡◌, ℕ, Bool, false, List, Option}

-- the bytes of the output and of the error output, each where they are known, and whether a write to it has failed
pub record Shown : Type 0 where
  pub printed : Option (List ℕ)
  pub is_broken : Bool
  pub reported : Option (List ℕ)
  pub is_mute : Bool

-- no write to either has failed
abbrev pub IsOpen : Shown → Type 0
IsOpen s = (s.is_broken ≡ false) × (s.is_mute ≡ false)
