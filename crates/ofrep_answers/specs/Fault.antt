-- What is wrong with a request's body (OpenFeature Remote Evaluation Protocol: errorDetails).
use Rattle.std.specs.Prelude.{ℕ, List, codes}
use Rattle.flag_text.specs.declared.fault.TextFault.{TextFault}
use Rattle.flag_text.specs.declared.fault.TextFault.TheVariants as text_fault
use Rattle.ofrep_answers.specs.declared.fault.ContextFault.{ContextFault}
use Rattle.ofrep_answers.specs.declared.fault.ContextFault.TheVariants.{WantOfMemory, TooLarge, BodyTooDeep, NotJson, BodyNotObject, NotObject, TooDeep}

-- what is wrong, for people
abbrev pub details_of : ContextFault → List ℕ
details_of WantOfMemory = codes "out of memory"
details_of TooLarge = codes "the body is too large"
details_of BodyTooDeep = codes "the body nests deeper than 127 levels"
details_of NotJson = codes "the body is not valid JSON"
details_of BodyNotObject = codes "the body is not an object"
details_of NotObject = codes "`context` is not an object"
details_of TooDeep = codes "`context` has more than 120 levels"

-- the same fault, of a text; none is refused for a number of it that is not whole
abbrev pub of_text : TextFault → ContextFault
of_text text_fault.WantOfMemory = WantOfMemory
of_text text_fault.TooLarge = TooLarge
of_text text_fault.NotJson = NotJson
of_text text_fault.TooDeep = TooDeep
of_text text_fault.NotWhole = NotJson
