-- What the replies of a desk are sent as (RFC 9110: 400, 404, 401 and WWW-Authenticate, 405 and Allow, 500, 503 and Retry-After; RFC 6750, 3: Bearer).
use Rattle.std.specs.Prelude.{◌⊎◌, ℕ, List, [], ◌∷◌, ◌++◌, codes}
use Rattle.http1.specs.Fields.{Header}
use Rattle.http_server.specs.Response.{IsResponse}
use Rattle.http_server.specs.declared.response.Response.{Response}
use Rattle.control_desk.specs.Sent.{type_field}
use Rattle.control_desk.specs.declared.giving.Media.{Media}
use Rattle.control_desk.specs.declared.giving.Media.TheVariants.{Json, Plain}
use Rattle.control_desk.specs.declared.reply.Reply.{Reply}
use Rattle.control_desk.specs.declared.reply.Reply.TheVariants.{OnlyGet, OnlyPost, Unauthorized, Unserved, NoQuery, Busy, Unreadable, Unwritten, Leaves}

abbrev pub status_of : Reply → ℕ
status_of OnlyGet = 405
status_of OnlyPost = 405
status_of Unauthorized = 401
status_of Unserved = 404
status_of NoQuery = 400
status_of Busy = 503
status_of Unreadable = 500
status_of Unwritten = 500
status_of Leaves = 503

abbrev pub media_of : Reply → Media
media_of Leaves = Plain
media_of reply = Json

-- the method that is taken, how a key is shown, when to ask again
abbrev pub more_of : Reply → List Header
more_of OnlyGet = (codes "allow", codes "GET") ∷ []
more_of OnlyPost = (codes "allow", codes "POST") ∷ []
more_of Unauthorized = (codes "www-authenticate", codes "Bearer") ∷ []
more_of Busy = (codes "retry-after", codes "1") ∷ []
more_of reply = []

abbrev pub reply_text : Reply → List ℕ
reply_text OnlyGet = codes "{\"errorDetails\":\"this path takes another method\"}"
reply_text OnlyPost = codes "{\"errorDetails\":\"this path takes another method\"}"
reply_text Unauthorized = codes "{\"errorDetails\":\"the request shows no key that is known\"}"
reply_text Unserved = codes "{\"errorDetails\":\"nothing is served at this path\"}"
reply_text NoQuery = codes "{\"errorDetails\":\"the query is not flag=KEY&site=NUMBER\"}"
reply_text Busy = codes "{\"errorDetails\":\"another call is answered just now\"}"
reply_text Unreadable = codes "{\"errorDetails\":\"the logs or the document can't be read\"}"
reply_text Unwritten = codes "{\"errorDetails\":\"the document can't be written\"}"
reply_text Leaves = codes "the service is stopping"

-- the response is the reply; where memory runs out it has the status of the reply, and nothing else
abbrev pub Replies : Reply → Response → Type 0
Replies reply response = IsResponse (status_of reply) (more_of reply ++ type_field (media_of reply)) (reply_text reply) response ⊎ IsResponse (status_of reply) [] [] response
