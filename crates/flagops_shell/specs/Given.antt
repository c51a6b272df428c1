-- What a call gives that may refuse, by which of its refusals are want of memory.
use Rattle.std.specs.Prelude.{◌≡◌, Bool, false, Result, Ok, Err}
use Rattle.flagops_shell.specs.declared.refused.Refused.{Refused}

module _ {R : Type 0} (is_want : R → Bool) where
  -- What was returned, seen by `seen`, is one of these, unless memory ran out.
  abbrev pub GivesOne : {X Y : Type 0} → (X → Y) → Result X (Refused R) → (Result Y R → Type 0) → Type 0
  GivesOne seen (Ok x) Wanted = Wanted (Ok (seen x))
  GivesOne seen (Err r) Wanted = is_want r.refusal ≡ false → Wanted (Err r.refusal)

  -- What was returned, seen by `seen`, is what the definition gives, unless memory ran out.
  abbrev pub GivesUnlessWant : {X Y : Type 0} → (X → Y) → Result X (Refused R) → Result Y R → Type 0
  GivesUnlessWant seen (Ok x) wanted = wanted ≡ Ok (seen x)
  GivesUnlessWant seen (Err r) wanted = is_want r.refusal ≡ false → wanted ≡ Err r.refusal
