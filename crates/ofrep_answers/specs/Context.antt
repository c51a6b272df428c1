-- The evaluation context that a request's body carries (OpenFeature Remote Evaluation Protocol: evaluationRequest; OpenFeature: evaluation context).
use Rattle.std.specs.Prelude.{ℕ, List, [], ◌∷◌, codes, if◌then◌else◌, Option, Some, None, Result, Ok, Err}
use Rattle.limits.specs.Limits.{text_bytes}
use Rattle.flag_text.specs.Readers.{find_member}
use Rattle.flag_text.specs.Shape.{Shape, null, object, no_members}
use Rattle.flag_text.specs.declared.fault.TextFault.{TextFault}
use Rattle.flag_text.specs.declared.fault.TextFault.TheVariants as text_fault
use Rattle.ofrep_answers.specs.Deep.{is_too_deep}
use Rattle.spelled_numbers.specs.Levels.{without_spelling}
use Rattle.spelled_numbers.specs.Sent.{if_shallow, sent_of}
use Rattle.ofrep_answers.specs.Fault.{of_text}
use Rattle.ofrep_answers.specs.declared.fault.ContextFault.{ContextFault}
use Rattle.ofrep_answers.specs.declared.fault.ContextFault.TheVariants.{BodyNotObject, BodyTooDeep, NotJson, NotObject}

-- the most bytes of a body
abbrev pub max_body : ℕ
max_body = text_bytes

-- the context without members
abbrev pub empty_context : Shape
empty_context = object no_members

-- a tree that was read, or the fault of its text
abbrev pub read_as : Result Shape TextFault → Result Shape ContextFault
read_as (Ok t) = Ok t
read_as (Err e) = Err (of_text e)

-- null is the empty context, an object is a context with at most 120 levels
abbrev pub context_as : Shape → Result Shape ContextFault
context_as null = Ok empty_context
context_as (object ms) = read_as (if_shallow (Ok (object ms)))
context_as t = Err NotObject

-- the member `context`, absent or not
abbrev pub context_in : Option Shape → Result Shape ContextFault
context_in None = Ok empty_context
context_in (Some t) = context_as (without_spelling t)

-- the context of an object; its other members are passed over
abbrev pub context_within : Shape → Result Shape ContextFault
context_within (object ms) = context_in (find_member (codes "context") ms)
context_within t = Err BodyNotObject

-- the context of a body that was read
abbrev pub body_context : Result Shape TextFault → Result Shape ContextFault
body_context (Ok t) = context_within (without_spelling t)
body_context (Err e) = Err (of_text e)

-- why a body is not read as JSON: it nests too deep, or is no JSON text
abbrev pub no_json : List ℕ → ContextFault
no_json body = if is_too_deep body then BodyTooDeep else NotJson

-- the context of a body with some bytes, as it was read
abbrev pub whole_context : List ℕ → Result Shape TextFault → Result Shape ContextFault
whole_context body (Ok t) = body_context (Ok t)
whole_context body (Err text_fault.NotJson) = Err (no_json body)
whole_context body (Err text_fault.WantOfMemory) = Err (of_text text_fault.WantOfMemory)
whole_context body (Err text_fault.TooLarge) = Err (of_text text_fault.TooLarge)
whole_context body (Err text_fault.TooDeep) = Err (of_text text_fault.TooDeep)
whole_context body (Err text_fault.NotWhole) = Err (of_text text_fault.NotWhole)

-- the context of a body: an empty one has the empty context
abbrev pub context_of : List ℕ → Result Shape ContextFault
context_of [] = Ok empty_context
context_of (b ∷ bytes) = whole_context (b ∷ bytes) (sent_of (b ∷ bytes) max_body)
