-- What the evaluation of a flag is answered with (OpenFeature Remote Evaluation Protocol: POST /ofrep/v1/evaluate/flags/{key}).
use Rattle.std.specs.Prelude.{ℕ, Bool, List, Option, Some, None}
use Rattle.flag_resolve.specs.Resolved.{Resolved}
use Rattle.flag_text.specs.Printing.{text_of}
use Rattle.flag_text.specs.Shape.{Shape}
use Rattle.ofrep_answers.specs.Bodies.{success, success_text, failure}
use Rattle.ofrep_answers.specs.Failure.{code_of, code_status, details_of}

-- 200 where a variant is told
abbrev pub told_status : Option (List ℕ) → ℕ → ℕ
told_status None failed = failed
told_status (Some variant) failed = 200

-- 200 with a variant, and else the status of what failed
abbrev pub status_of : Resolved → ℕ
status_of r = told_status r.variant (code_status (code_of r.code))

-- the variant with its value and the reason, or what failed
abbrev pub told_body : List ℕ → Option (List ℕ) → Resolved → Shape
told_body key (Some variant) r = success key r.reason r.value variant
told_body key None r = failure (Some key) (code_of r.code) (details_of r.code r.reason)

abbrev pub body_of : List ℕ → Resolved → Shape
body_of key r = told_body key r.variant r

-- the text of the same with metadata, of which the text is given, where the value of a variant may stand as a text that is its spelling
abbrev pub told_text : Bool → List ℕ → List ℕ → Option (List ℕ) → Resolved → List ℕ
told_text spelled metadata key (Some variant) r = success_text spelled metadata key r.reason r.value variant
told_text spelled metadata key None r = text_of (failure (Some key) (code_of r.code) (details_of r.code r.reason))

abbrev pub body_text : Bool → List ℕ → List ℕ → Resolved → List ℕ
body_text spelled metadata key r = told_text spelled metadata key r.variant r
