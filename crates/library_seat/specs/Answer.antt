-- What a resolution is answered with: bytes, and what they are made of.
use Rattle.std.specs.Prelude.{ℕ, List, [], ◌++◌, length, is_some, Option, Some, None}
use Rattle.flag_defs.specs.Spelled.{value_spelled}
use Rattle.flag_resolve.specs.declared.code.Code.{Code}
use Rattle.flag_resolve.specs.declared.code.Code.TheVariants.{ProviderNotReady, InvalidContext, FlagNotFound, ParseError, General, TypeMismatch}
use Rattle.flag_resolve.specs.declared.reason.Reason.{Reason}
use Rattle.flag_resolve.specs.declared.reason.Reason.TheVariants.{Error, Disabled, Static, Default, TargetingMatch}
use Rattle.library_seat.specs.Question.{Spelled}
use Rattle.library_seat.specs.declared.answer.Details.{Details}

abbrev pub reason_number : Reason → ℕ
reason_number Static = 0
reason_number Default = 1
reason_number TargetingMatch = 2
reason_number Disabled = 3
reason_number Error = 4

-- 0 is no code
abbrev pub code_number : Option Code → ℕ
code_number None = 0
code_number (Some ProviderNotReady) = 1
code_number (Some FlagNotFound) = 2
code_number (Some ParseError) = 3
code_number (Some TypeMismatch) = 4
code_number (Some InvalidContext) = 5
code_number (Some General) = 6

abbrev pub variant_bytes : Option (List ℕ) → List ℕ
variant_bytes None = []
variant_bytes (Some name) = name

-- the value as JSON
abbrev pub value_text : Spelled → List ℕ
value_text s = value_spelled s.spelled s.resolved.value

-- the same, and then the variant's name, if there is one
abbrev pub answer_text : Spelled → List ℕ
answer_text s = value_text s ++ variant_bytes s.resolved.variant

abbrev pub details_of : Spelled → Details
details_of s = record {
  reason = reason_number s.resolved.reason;
  code = code_number s.resolved.code;
  value = length (value_text s);
  has_variant = is_some s.resolved.variant;
}
