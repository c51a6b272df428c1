-- The evaluation of flags for a request (OpenFeature Remote Evaluation Protocol: flag evaluation, bulk evaluation).
use Rattle.std.specs.Prelude.{ℕ, ◌==◌, nat_le, length, filter, Bool, List, [], ◌∷◌, ◌++◌, codes, if◌then◌else◌, is_some, Option, Some, None, option_and_then, unwrap_or}
use Rattle.std.specs.List.{flat_map}
use Rattle.std.specs.Map.{lookup}
use Rattle.std.specs.Str.{bytes_eq}
use Rattle.decimal_reads.specs.Reads.{Reading, ended_at}
use Rattle.flag_defs.specs.Document.{Definitions}
use Rattle.flag_defs.specs.Flag.{targeting_in}
use Rattle.flag_resolve.specs.Floats.{Marked, floats_in}
use Rattle.flag_resolve.specs.Resolution.{resolved_by}
use Rattle.flag_resolve.specs.Resolved.{Resolved}
use Rattle.flag_resolve.specs.declared.code.Code.{Code}
use Rattle.flag_resolve.specs.declared.code.Code.TheVariants.{ParseError}
use Rattle.flag_text.specs.Printing.{text_of}
use Rattle.flag_text.specs.Readers.{as_object}
use Rattle.flag_text.specs.Shape.{Shape, null}
use Rattle.limits.specs.Limits.{input_bytes}
use Rattle.logic_ast.specs.Expression.{Expression}
use Rattle.logic_eval.specs.Run.{Reach}
use Rattle.ofrep_answers.specs.Kind.{flag_kind}
use Rattle.ofrep_answers.specs.Bodies.{failure}
use Rattle.ofrep_answers.specs.EvaluationBody.{body_of, body_text, status_of}
use Rattle.ofrep_requests.specs.Request.{text_if}

-- What the flag of a key resolves to in the context at the moment, for a caller who takes the kind of its variants and has no default. The values of a flag
-- with floats are texts, which are their spelling.
unfoldable pub evaluation : Definitions → List ℕ → Shape → ℕ → Resolved
evaluation flags key context moment = resolved_by (Some flags) (flag_kind (lookup (bytes_eq key) flags)) null context key moment

-- sites under the flag's key, where there are some
abbrev pub under_key : List ℕ → List Reach → List (List ℕ × List Reach)
under_key key [] = []
under_key key (site ∷ sites) = (key, site ∷ sites) ∷ []

-- a note may have the hash input of the site
abbrev pub is_noted : Reach → Bool
is_noted r = nat_le (length r.input) input_bytes

-- the sites that an evaluation reached by an input of which there may be a note, under the flag's key
abbrev pub reached_at : List ℕ → List Reach → List (List ℕ × List Reach)
reached_at key sites = under_key key (filter is_noted sites)

-- the flag of a key has floats: a value of it stands as a text, which is printed as it is
abbrev pub is_spelled : List ℕ → Marked → Bool
is_spelled key flags = is_some (floats_in (Some flags) key)

-- ---- numbers that are not whole, at which the evaluation of a targeting ends

-- the number at which the evaluation of a targeting ends, in a context that is an object
abbrev pub ended_in : List ℕ → Shape → ℕ → Expression → Option Reading
ended_in key context moment e = option_and_then (λ members. ended_at e (record { context = context; flag = key; moment = moment })) (as_object context)

-- the same of the targeting of a flag, where it resolved to no variant and to this code
abbrev pub read_unless_told : Option (List ℕ) → Option Code → (Expression → Option Reading) → Option Expression → Option Reading
read_unless_told None (Some ParseError) ended targeting = option_and_then ended targeting
read_unless_told variant code ended targeting = None

-- what ended the evaluation of the flag of a key, which resolved so
abbrev pub read_by_flag : Definitions → List ℕ → Shape → ℕ → Resolved → Option Reading
read_by_flag flags key context moment r = read_unless_told r.variant r.code (ended_in key context moment) (option_and_then targeting_in (lookup (bytes_eq key) flags))

-- what is said of it
unfoldable pub read_details : Reading → List ℕ
read_details r = codes "the targeting reads `" ++ (r.way ++ (codes "`, which is " ++ (unwrap_or (text_if r.spelling) [] ++ codes ": a number that is not whole can be compared and tested, and not used otherwise")))

abbrev pub read_failure : List ℕ → Reading → Shape
read_failure key r = failure (Some key) ParseError (read_details r)

-- the body that tells an evaluation, or what the targeting reads
abbrev pub shape_told : Option Reading → List ℕ → Resolved → Shape
shape_told None key r = body_of key r
shape_told (Some read) key r = read_failure key read

-- its text, where the value of a variant may stand as its spelling, with metadata
abbrev pub text_told : Option Reading → Bool → List ℕ → List ℕ → Resolved → List ℕ
text_told None spelled metadata key r = body_text spelled metadata key r
text_told (Some read) spelled metadata key r = text_of (read_failure key read)

-- ---- every flag

-- the text of the body that every flag's answer has of one flag with its metadata: none, where there is no such flag for the caller
abbrev pub body_if_told : Option Reading → Bool → List ℕ → List ℕ → Resolved → List (List ℕ)
body_if_told read spelled metadata key r = if status_of r == 404 then [] else text_told read spelled metadata key r ∷ []

abbrev pub body_at : Marked → (List ℕ → List ℕ) → Shape → ℕ → List ℕ → Resolved → List (List ℕ)
body_at flags metadata context moment key r = body_if_told (read_by_flag flags.0 key context moment r) (is_spelled key flags) (metadata key) key r

-- the texts of the bodies of every flag with its metadata, in the order of the keys
abbrev pub bodies : (List ℕ → List ℕ) → Marked → Shape → ℕ → Definitions → List (List ℕ)
bodies metadata flags context moment = flat_map (λ f. body_at flags metadata context moment f.0 (evaluation flags.0 f.0 context moment))

-- what the evaluations of every flag reached
abbrev pub reached_in : Definitions → Shape → ℕ → Definitions → List (List ℕ × List Reach)
reached_in flags context moment = flat_map (λ f. reached_at f.0 (evaluation flags f.0 context moment).reached)
