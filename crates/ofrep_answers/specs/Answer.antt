-- The answer to a request (OpenFeature Remote Evaluation Protocol: paths, status codes, bodies; RFC 9110: 304, 404, 405, 413, Allow, ETag, HEAD, If-None-Match).
use Rattle.std.specs.Prelude.{ℕ, Bool, ◌&&◌, ◌||◌, List, [], codes, drop, length, map, Option, Some, None, option_map, option_copied, unwrap_or, Result, Ok, Err, if◌then◌else◌, string_bytes}
use Rattle.std.specs.List.{list_any}
use Rattle.std.specs.Str.{bytes_eq}
use Rattle.ofrep_requests.specs.Tag.{entity_tag, is_listed, opaque_tag}
use Rattle.flag_resolve.specs.Floats.{Marked}
use Rattle.flag_resolve.specs.Resolved.{Resolved}
use Rattle.flag_resolve.specs.declared.code.Code.{Code}
use Rattle.flag_resolve.specs.declared.code.Code.TheVariants.{ParseError, InvalidContext, FlagNotFound}
use Rattle.flag_text.specs.Printing.{text_of}
use Rattle.flag_text.specs.Shape.{Shape}
use Rattle.logic_eval.specs.Run.{Reach}
use Rattle.logic_eval.specs.Views.{reach_view}
use Rattle.decimal_reads.specs.Reads.{Reading}
use Rattle.ofrep_answers.specs.Evaluation.{bodies, evaluation, is_spelled, reached_at, reached_in, read_by_flag, text_told}
use Rattle.ofrep_answers.specs.Near.{near_details, near_if}
use Rattle.ofrep_answers.specs.Request.{Asked}
use Rattle.ofrep_answers.specs.declared.answer.Answer as program
use Rattle.ofrep_answers.specs.declared.answer.Content.{Content}
use Rattle.ofrep_answers.specs.declared.answer.Content.TheVariants as content
use Rattle.ofrep_answers.specs.declared.answer.FlagReached.{FlagReached}
use Rattle.ofrep_answers.specs.Bodies.{failure, flags_text}
use Rattle.ofrep_answers.specs.EvaluationBody.{status_of}
use Rattle.ofrep_answers.specs.Metadata.{AnswerMetadata, no_metadata}
use Rattle.ofrep_answers.specs.Failure.{code_status}
use Rattle.ofrep_answers.specs.Context.{context_of}
use Rattle.ofrep_answers.specs.Way.{details_in}
use Rattle.ofrep_answers.specs.declared.fault.ContextFault.{ContextFault}
use Rattle.ofrep_answers.specs.declared.fault.ContextFault.TheVariants.{WantOfMemory, TooLarge, BodyTooDeep, NotJson, BodyNotObject, NotObject, TooDeep}
use Rattle.ofrep_requests.specs.Request.{is_of_one_flag, key_in, method_at, one_flag_route, place_of, text_if}
use Rattle.ofrep_requests.specs.declared.place.Place.{Place}
use Rattle.ofrep_requests.specs.declared.place.Place.TheVariants.{OneFlag, EveryFlag, Health, Metrics, Nowhere}

-- nothing, a plain text, a JSON text, or what the service counts
pub data Body : Type 0 where
  nothing : Body
  plain : List ℕ → Body
  json : List ℕ → Body
  counts : Body

-- the media type of a body (RFC 8259, 11; the text format of Prometheus)
abbrev pub media_type : Body → Option (List ℕ)
media_type nothing = None
media_type (plain s) = Some (codes "text/plain; charset=utf-8")
media_type (json s) = Some (codes "application/json")
media_type counts = Some (codes "text/plain; version=0.0.4")

-- the bytes of a body; what the service counts is written by its owner
abbrev pub bytes_of : Body → List ℕ
bytes_of nothing = []
bytes_of (plain s) = s
bytes_of (json s) = s
bytes_of counts = []

-- the status, the fields Allow and ETag, the body, and the sites that the evaluations reached, by flag
pub record Answered : Type 0 where
  pub status : ℕ
  pub allow : Option (List ℕ)
  pub tag : Option (List ℕ)
  pub body : Body
  pub reached : List (List ℕ × List Reach)

-- ---- answers without an evaluation

abbrev pub bare : ℕ → Body → Answered
bare status body = record { status = status; allow = None; tag = None; body = body; reached = [] }

abbrev pub nothing_here : Answered
nothing_here = bare 404 (json (codes "{\"errorDetails\":\"nothing is served at this path\"}"))

abbrev pub not_allowed : List ℕ → Answered
not_allowed methods = record { status = 405; allow = Some methods; tag = None; body = json (codes "{\"errorDetails\":\"this path takes another method\"}"); reached = [] }

abbrev pub too_large : Answered
too_large = bare 413 (json (codes "{\"errorDetails\":\"the body is too large\"}"))

abbrev pub healthy : Answered
healthy = bare 200 (plain (codes "ok"))

-- the error code of a body without a context
abbrev pub fault_code : ContextFault → Option Code
fault_code WantOfMemory = None
fault_code TooLarge = None
fault_code BodyTooDeep = Some InvalidContext
fault_code NotJson = Some ParseError
fault_code BodyNotObject = Some InvalidContext
fault_code NotObject = Some InvalidContext
fault_code TooDeep = Some InvalidContext

abbrev pub failed : Option (List ℕ) → Option Code → List ℕ → Answered
failed key None details = too_large
failed key (Some code) details = bare (code_status code) (json (text_of (failure key code details)))

-- a body without a context: 413, or 400 with what is wrong
abbrev pub without_context : Option (List ℕ) → List ℕ → ContextFault → Answered
without_context key body fault = failed key (fault_code fault) (details_in body fault)

-- ---- one flag

abbrev pub one_told : Option Reading → Bool → List ℕ → List ℕ → Resolved → Answered
one_told read spelled metadata key r = record { status = status_of r; allow = None; tag = None; body = json (text_told read spelled metadata key r); reached = reached_at key r.reached }

-- the same, where no flag's key is near one that none has
abbrev pub one_unless_near : Option (List ℕ) → Option Reading → Bool → List ℕ → List ℕ → Resolved → Answered
one_unless_near None read spelled metadata key r = one_told read spelled metadata key r
one_unless_near (Some near) read spelled metadata key r = failed (Some key) (Some FlagNotFound) (near_details near)

-- What a resolution in a context is answered with: where no flag has the key, it is said which key is near, and where a targeting can't be evaluated,
-- which number that is not whole it reads.
abbrev pub one_resolved : AnswerMetadata → Marked → List ℕ → Shape → ℕ → Resolved → Answered
one_resolved metadata flags key context moment r = one_unless_near (near_if r.code flags.0 key) (read_by_flag flags.0 key context moment r) (is_spelled key flags) (metadata.of_flag key) key r

abbrev pub one_in : AnswerMetadata → Marked → ℕ → List ℕ → List ℕ → Result Shape ContextFault → Answered
one_in metadata flags moment key body (Ok context) = one_resolved metadata flags key context moment (evaluation flags.0 key context moment)
one_in metadata flags moment key body (Err fault) = without_context (Some key) body fault

-- what stands in a path in the place of the key, as it was sent
abbrev pub segment_of : List ℕ → List ℕ
segment_of path = if is_of_one_flag path then unwrap_or (text_if (drop (length one_flag_route) path)) path else path

-- the path has no key: no flag is found
abbrev pub no_key : List ℕ → Answered
no_key path = failed (Some (segment_of path)) (Some FlagNotFound) (codes "the path has no key that can be decoded")

abbrev pub one_flag : AnswerMetadata → Marked → ℕ → List ℕ → Option (List ℕ) → List ℕ → Answered
one_flag metadata flags moment path None body = no_key path
one_flag metadata flags moment path (Some key) body = one_in metadata flags moment key body (context_of body)

-- ---- every flag

-- one of the fields If-None-Match names the opaque tag
abbrev pub is_named : List ℕ → List (List ℕ) → Bool
is_named opaque fields = list_any (λ field. is_listed opaque field) fields

-- the body under its tag, or 304 for a caller who has it
abbrev pub tagged : List (List ℕ) → List ℕ → List (List ℕ × List Reach) → Answered
tagged fields body reached = record {
  status = if is_named (opaque_tag body) fields then 304 else 200;
  allow = None;
  tag = Some (entity_tag (opaque_tag body));
  body = if is_named (opaque_tag body) fields then nothing else json body;
  reached = reached;
}

abbrev pub every_in : AnswerMetadata → Marked → ℕ → List (List ℕ) → List ℕ → Result Shape ContextFault → Answered
every_in metadata flags moment fields body (Ok context) = tagged fields (flags_text metadata.of_all (bodies metadata.of_flag flags context moment flags.0)) (reached_in flags.0 context moment flags.0)
every_in metadata flags moment fields body (Err fault) = without_context None body fault

-- ---- every request

abbrev pub answer_at : AnswerMetadata → Marked → ℕ → Asked → Place → Answered
answer_at metadata flags moment r OneFlag = one_flag metadata flags moment r.path (key_in r.path) r.body
answer_at metadata flags moment r EveryFlag = every_in metadata flags moment r.if_none_match r.body (context_of r.body)
answer_at metadata flags moment r Health = healthy
answer_at metadata flags moment r Metrics = bare 200 counts
answer_at metadata flags moment r Nowhere = nothing_here

-- a place that takes a method takes a request of this one: HEAD where GET is taken (RFC 9110, 9.3.2)
abbrev pub takes : List ℕ → List ℕ → Bool
takes method requested = bytes_eq requested method || (bytes_eq method (codes "GET") && bytes_eq requested (codes "HEAD"))

-- the methods that it takes, as the field Allow names them
abbrev pub allow_of : List ℕ → List ℕ
allow_of method = if bytes_eq method (codes "GET") then codes "GET, HEAD" else method

-- a place takes one method, and no place takes another
abbrev pub answer_by : AnswerMetadata → Marked → ℕ → Asked → Place → Option (List ℕ) → Answered
answer_by metadata flags moment r place None = nothing_here
answer_by metadata flags moment r place (Some method) = if takes method r.method then answer_at metadata flags moment r place else not_allowed (allow_of method)

-- the answer to a request, of the flags, some of which may have floats, with this metadata, at the moment in seconds
abbrev pub answer_with : AnswerMetadata → Marked → ℕ → Asked → Answered
answer_with metadata flags moment r = answer_by metadata flags moment r (place_of r.path) (method_at (place_of r.path))

-- the same without metadata
abbrev pub answer_of : Marked → ℕ → Asked → Answered
answer_of flags moment r = answer_with no_metadata flags moment r

-- ---- of the program

abbrev pub body_view : Content → Body
body_view content.Nothing = nothing
body_view (content.Plain s) = plain s.now
body_view (content.Fixed s) = json s.now
body_view (content.Json s) = json s.items
body_view content.Counts = counts

abbrev pub reached_view : FlagReached → List ℕ × List Reach
reached_view f = (string_bytes f.flag, map reach_view f.reached.items)

-- what an answer says
abbrev pub answer_view : program.Answer → Answered
answer_view a = record {
  status = a.status;
  allow = option_copied a.allow;
  tag = option_map string_bytes a.tag;
  body = body_view a.content;
  reached = map reached_view a.reached.items;
}
