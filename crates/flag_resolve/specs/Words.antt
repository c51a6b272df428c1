-- The words of OpenFeature for reasons and error codes (OpenFeature specification: types).
use Rattle.std.specs.Prelude.{ℕ, List, codes}
use Rattle.flag_resolve.specs.declared.code.Code.{Code}
use Rattle.flag_resolve.specs.declared.code.Code.TheVariants.{ProviderNotReady, InvalidContext, FlagNotFound, ParseError, General, TypeMismatch}
use Rattle.flag_resolve.specs.declared.reason.Reason.{Reason}
use Rattle.flag_resolve.specs.declared.reason.Reason.TheVariants.{Error, Disabled, Static, Default, TargetingMatch}

-- why a value was given
abbrev pub reason_word : Reason → List ℕ
reason_word Error = codes "ERROR"
reason_word Disabled = codes "DISABLED"
reason_word Static = codes "STATIC"
reason_word Default = codes "DEFAULT"
reason_word TargetingMatch = codes "TARGETING_MATCH"

-- what went wrong
abbrev pub code_word : Code → List ℕ
code_word ProviderNotReady = codes "PROVIDER_NOT_READY"
code_word InvalidContext = codes "INVALID_CONTEXT"
code_word FlagNotFound = codes "FLAG_NOT_FOUND"
code_word ParseError = codes "PARSE_ERROR"
code_word General = codes "GENERAL"
code_word TypeMismatch = codes "TYPE_MISMATCH"
