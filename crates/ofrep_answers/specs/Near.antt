-- A key that may be meant by one that no flag has: for people, in `errorDetails` (OpenFeature Remote Evaluation Protocol: flagNotFound).
use Rattle.std.specs.Prelude.{ℕ, nat_le, ◌&&◌, ◌++◌, List, [], ◌∷◌, codes, length, Option, Some, None, if◌then◌else◌}
use Rattle.flag_defs.specs.Document.{Definitions}
use Rattle.flag_resolve.specs.declared.code.Code.{Code}
use Rattle.flag_resolve.specs.declared.code.Code.TheVariants.{FlagNotFound}
use Rattle.near_names.specs.Near.{is_near}

-- the first key of these flags that is near
abbrev pub first_near : List ℕ → Definitions → Option (List ℕ)
first_near key [] = None
first_near key (f ∷ fs) = if is_near key f.0 then Some f.0 else first_near key fs

-- the same of a key of at most 64 bytes, among at most 1,000 flags
abbrev pub near_key : Definitions → List ℕ → Option (List ℕ)
near_key flags key = if nat_le (length key) 64 && nat_le (length flags) 1000 then first_near key flags else None

-- where no flag has the key
abbrev pub near_if : Option Code → Definitions → List ℕ → Option (List ℕ)
near_if (Some FlagNotFound) flags key = near_key flags key
near_if code flags key = None

-- what is said of a key that no flag has, where one has a near key
unfoldable pub near_details : List ℕ → List ℕ
near_details near = codes "no flag has this key; perhaps \"" ++ (near ++ codes "\" is meant")
