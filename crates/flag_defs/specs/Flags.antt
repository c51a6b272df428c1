-- What flags are together.
use Rattle.std.specs.Prelude.{◌≡◌, ◌≢◌, ◌≤◌, length, true, Result, Ok, Err}
use Rattle.std.specs.Cmp.Lexicographic.{slice_cmp}
use Rattle.std.specs.List.{All}
use Rattle.std.specs.List.Sorted.{IsStrictlySortedBy}
use Rattle.std.specs.Map.{keys_of}
use Rattle.std.specs.Ordering.{nat_cmp}
use Rattle.flag_defs.specs.Document.{Definitions, max_flags, max_bytes, printed}
use Rattle.flag_defs.specs.Flag.{entries_view, is_definition}
use Rattle.flag_defs.specs.declared.fault.DefFault.{DefFault}
use Rattle.flag_defs.specs.declared.fault.DefFault.TheVariants.{WantOfMemory}
use Rattle.flag_defs.specs.declared.flags.Flags.{Flags}

-- The keys rise strictly, each definition can be printed and read again, and both limits are kept.
pub record AreFlags (fs : Definitions) : Type 0 where
  pub rise : IsStrictlySortedBy (slice_cmp nat_cmp) (keys_of fs)
  pub each : All (λ f. is_definition f.1 ≡ true) fs
  pub few : length fs ≤ max_flags
  pub small : length (printed fs) ≤ max_bytes

abbrev pub flags_view : Flags → Definitions
flags_view fs = entries_view fs.flags.items

-- what was returned has this property, unless memory ran out
abbrev pub HoldsUnless : (Result Definitions DefFault → Type 0) → Result Flags DefFault → Type 0
HoldsUnless P (Ok fs) = P (Ok (flags_view fs))
HoldsUnless P (Err e) = e ≢ WantOfMemory → P (Err e)
