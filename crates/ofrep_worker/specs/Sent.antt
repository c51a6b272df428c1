-- The response that an answer is sent as (RFC 9110: Content-Type, Allow, ETag, field values).
use Rattle.std.specs.Prelude.{◌≡◌, ◌==◌, ◌&&◌, ℕ, Bool, true, false, List, [], ◌∷◌, ◌++◌, ◌⊎◌, codes, Option, Some, None, if◌then◌else◌}
use Rattle.std.specs.List.{list_all}
use Rattle.std.specs.Str.{bytes_eq}
use Rattle.http1.specs.Fields.{Header}
use Rattle.http_header.specs.Token.{is_value_byte}
use Rattle.http_server.specs.declared.response.Response.{Response}
use Rattle.http_server.specs.Response.{IsResponse, fields_of}
use Rattle.note_log.specs.declared.trouble.Trouble.{Trouble}
use Rattle.note_log.specs.declared.trouble.Trouble.TheVariants.{Lost, Unwritten}
use Rattle.ofrep_answers.specs.Request.{Asked}
use Rattle.ofrep_answers.specs.Answer.{Answered, Body, nothing, plain, json, counts, bytes_of, media_type}
use Rattle.ofrep_worker.specs.Counted.{EndsWithSizes}

-- a field, where there is a value that may be sent
abbrev pub field : List ℕ → Option (List ℕ) → List Header
field name None = []
field name (Some value) = if list_all is_value_byte value then (name, value) ∷ [] else []

abbrev pub fields : Answered → List Header
fields a = (field (codes "content-type") (media_type a.body) ++ field (codes "allow") a.allow) ++ field (codes "etag") a.tag

-- the body is what the service counts
abbrev pub is_counts : Body → Bool
is_counts nothing = false
is_counts (plain s) = false
is_counts (json s) = false
is_counts counts = true

-- the response is the answer; of what the service counts only the end is said
pub record Sends (a : Answered) (r : Response) : Type 0 where
  pub status : r.status ≡ a.status
  pub headers : fields_of r ≡ fields a
  pub body : is_counts a.body ≡ false → r.body.items ≡ bytes_of a.body
  pub counts : is_counts a.body ≡ true → EndsWithSizes r.body.items

abbrev pub TellsFailure : Response → Type 0
TellsFailure = IsResponse 500 ((codes "content-type", codes "application/json") ∷ []) (codes "{\"errorDetails\":\"the log can't be written\"}")

-- the response tells that the log failed, or has no body where memory runs out
abbrev pub Fails : Response → Type 0
Fails r = TellsFailure r ⊎ IsResponse 500 [] [] r

-- the response is the answer where all its notes were recorded, and else tells that they were not
abbrev pub Gives : Bool → Answered → Response → Type 0
Gives true a r = Sends a r
Gives false a r = Fails r

-- ---- whether the service is ready, while a log can't be written (RFC 9110: 503)

-- it is asked whether the service is ready, and the answer says so
abbrev pub says_ready : Asked → Answered → Bool
says_ready asked a = bytes_eq asked.path (codes "/readyz") && a.status == 200

-- why it is not, where that is asked
abbrev pub unready : Option Trouble → Asked → Answered → Option Trouble
unready trouble asked a = if says_ready asked a then trouble else None

abbrev pub unready_text : Trouble → List ℕ
unready_text Lost = codes "a log is lost, and its path can't be opened"
unready_text Unwritten = codes "a log can't be written"

abbrev pub TellsUnready : Trouble → Response → Type 0
TellsUnready trouble = IsResponse 503 ((codes "content-type", codes "text/plain; charset=utf-8") ∷ []) (unready_text trouble)

-- who asks whether the service is ready is told why it is not; else it is given as above
abbrev pub GivesIn : Option Trouble → Bool → Answered → Response → Type 0
GivesIn (Some trouble) recorded a r = TellsUnready trouble r
GivesIn None recorded a r = Gives recorded a r
