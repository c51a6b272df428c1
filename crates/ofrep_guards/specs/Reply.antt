-- What a guard's replies are sent as (Fetch standard, 3.3.2 to 3.3.4: fields of a CORS response, and which of them scripts see; RFC 9110: 200, 204, 401 and WWW-Authenticate, 403, 404, 405 and Allow, 415, 503, Vary; RFC 6750, 3: Bearer).
use Rattle.std.specs.Prelude.{◌≡◌, ◌⊎◌, ℕ, List, [], ◌∷◌, ◌++◌, codes, Option, Some, None}
use Rattle.http1.specs.Fields.{Header}
use Rattle.http_server.specs.Response.{IsResponse, fields_of}
use Rattle.http_server.specs.declared.response.Response.{Response}
use Rattle.ofrep_guards.specs.declared.reply.Reply.{Reply}
use Rattle.ofrep_guards.specs.declared.reply.Reply.TheVariants.{Forbidden, Elsewhere, Preflight, Unauthorized, Unsupported, Foreign, Stops, Leaves, OnlyPost}

-- the pages of this origin may read the response, with its field ETag; those of others are answered otherwise
abbrev pub origin_fields : List ℕ → List Header
origin_fields origin =
    (codes "access-control-allow-origin", origin) ∷ (codes "access-control-expose-headers", codes "ETag") ∷ (codes "vary", codes "Origin") ∷ []

-- where it is for a page
abbrev pub page_fields : Option (List ℕ) → List Header
page_fields None = []
page_fields (Some origin) = origin_fields origin

-- a page may ask by POST and with these fields; its browser need not ask that again for ten minutes
abbrev pub preflight_fields : List Header
preflight_fields =
    (codes "access-control-allow-methods", codes "POST") ∷ (codes "access-control-allow-headers", codes "content-type, if-none-match, authorization, x-api-key")
    ∷ (codes "access-control-max-age", codes "600") ∷ []

abbrev pub json_fields : List Header
json_fields = (codes "content-type", codes "application/json") ∷ []

-- the same, and how a key is shown
abbrev pub challenge_fields : List Header
challenge_fields = (codes "www-authenticate", codes "Bearer") ∷ (codes "content-type", codes "application/json") ∷ []

abbrev pub plain_fields : List Header
plain_fields = (codes "content-type", codes "text/plain; charset=utf-8") ∷ []

-- the one method that is taken
abbrev pub post_fields : List Header
post_fields = (codes "allow", codes "POST") ∷ (codes "content-type", codes "application/json") ∷ []

-- ---- a reply of the guard

abbrev pub status_of : Reply → ℕ
status_of Forbidden = 403
status_of Elsewhere = 404
status_of Preflight = 204
status_of Unauthorized = 401
status_of Unsupported = 415
status_of Foreign = 403
status_of Stops = 200
status_of Leaves = 503
status_of OnlyPost = 405

-- no field says to a page of an origin that is not listed that it may read the reply
abbrev pub reply_fields : Reply → Option (List ℕ) → List Header
reply_fields Forbidden page = json_fields
reply_fields Elsewhere page = json_fields
reply_fields Preflight page = page_fields page ++ preflight_fields
reply_fields Unauthorized page = page_fields page ++ challenge_fields
reply_fields Unsupported page = page_fields page ++ json_fields
reply_fields Foreign page = json_fields
reply_fields Stops page = json_fields
reply_fields Leaves page = plain_fields
reply_fields OnlyPost page = post_fields

abbrev pub reply_text : Reply → List ℕ
reply_text Forbidden = codes "{\"errorDetails\":\"the origin of this page is not listed\"}"
reply_text Elsewhere = codes "{\"errorDetails\":\"nothing is served at this path\"}"
reply_text Preflight = []
reply_text Unauthorized = codes "{\"errorDetails\":\"the request shows no key that is known\"}"
reply_text Unsupported = codes "{\"errorDetails\":\"the body is encoded, or its type is not application/json\"}"
reply_text Foreign = codes "{\"errorDetails\":\"the request names another host than this listener's, or a page of another origin\"}"
reply_text Stops = codes "{\"stops\":true}"
reply_text Leaves = codes "the service is stopping"
reply_text OnlyPost = codes "{\"errorDetails\":\"this path takes another method\"}"

-- the response is the reply; where memory runs out it has the status of the reply, and nothing else
abbrev pub Replies : Reply → Option (List ℕ) → Response → Type 0
Replies reply page response = IsResponse (status_of reply) (reply_fields reply page) (reply_text reply) response ⊎ IsResponse (status_of reply) [] [] response

-- ---- what is passed on

-- the response is the given one, and the pages of the origin may read it
pub record IsShared (origin : List ℕ) (given response : Response) : Type 0 where
  pub status : response.status ≡ given.status
  pub body : response.body ≡ given.body
  pub fields : fields_of response ≡ fields_of given ++ origin_fields origin

-- The response is the given one, which the page that it is for may read. Where memory runs out for that it tells nothing.
abbrev pub Shares : Option (List ℕ) → Response → Response → Type 0
Shares None given response = response ≡ given
Shares (Some origin) given response = IsShared origin given response ⊎ IsResponse 500 [] [] response
