-- The error code, the status and the text for people of an evaluation that tells no variant (OpenFeature Remote Evaluation Protocol: status codes of flag evaluation).
use Rattle.std.specs.Prelude.{ℕ, List, codes, Option, Some, None}
use Rattle.flag_resolve.specs.declared.code.Code.{Code}
use Rattle.flag_resolve.specs.declared.code.Code.TheVariants.{ProviderNotReady, InvalidContext, FlagNotFound, ParseError, General, TypeMismatch}
use Rattle.flag_resolve.specs.declared.reason.Reason.{Reason}
use Rattle.flag_resolve.specs.declared.reason.Reason.TheVariants.{Error, Disabled, Static, Default, TargetingMatch}

-- where the caller's default is given without a code there is no flag for the caller: it is disabled, or leaves it to the caller
abbrev pub code_of : Option Code → Code
code_of None = FlagNotFound
code_of (Some code) = code

-- no such flag is 404, each other failure 400
abbrev pub code_status : Code → ℕ
code_status FlagNotFound = 404
code_status ProviderNotReady = 400
code_status InvalidContext = 400
code_status ParseError = 400
code_status General = 400
code_status TypeMismatch = 400

-- why there is no flag for the caller, where there is no code
abbrev pub default_details : Reason → List ℕ
default_details Disabled = codes "the flag is disabled"
default_details Error = codes "the flag leaves it to the caller's default"
default_details Static = codes "the flag leaves it to the caller's default"
default_details Default = codes "the flag leaves it to the caller's default"
default_details TargetingMatch = codes "the flag leaves it to the caller's default"

abbrev pub code_details : Code → List ℕ
code_details ProviderNotReady = codes "no flags are loaded yet"
code_details InvalidContext = codes "the context is not an object"
code_details FlagNotFound = codes "no flag has this key"
code_details ParseError = codes "the flag's definition breaks a rule, or its targeting can't be evaluated"
code_details General = codes "the flag's targeting does not result in the name of a variant"
code_details TypeMismatch = codes "the variant's value is of another type"

-- what failed, for people
abbrev pub details_of : Option Code → Reason → List ℕ
details_of None reason = default_details reason
details_of (Some code) reason = code_details code
