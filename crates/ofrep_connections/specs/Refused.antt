-- What is answered beside the service (RFC 9110, 15.5.9: 408), with its date (6.6.1).
use Rattle.std.specs.Prelude.{ℕ, List, ◌++◌, ◌==◌, codes, Option, Some, None, if◌then◌else◌}
use Rattle.http_server.specs.Refusal.{bad_request, too_many_headers, uri_too_long}
use Rattle.http_server.specs.declared.state.Refusal.{Refusal}
use Rattle.http_server.specs.declared.state.State.{State}
use Rattle.http_server.specs.declared.state.State.TheVariants.{Closing}
use Rattle.http_server.specs.declared.state.Reason.TheVariants.{Refused}

-- why the connection has refused a request
abbrev pub refusal_in : State → Option Refusal
refusal_in (Closing (Refused why)) = Some why
refusal_in _ = None

-- a status with its reason phrase, of those that are answered beside the service
abbrev pub status_text : ℕ → List ℕ
status_text status =
    if status == 408 then codes "408 Request Timeout" else
    (if status == 413 then codes "413 Payload Too Large" else
    (if status == 414 then uri_too_long else
    (if status == 431 then too_many_headers else
    (if status == 500 then codes "500 Internal Server Error" else
    (if status == 501 then codes "501 Not Implemented" else bad_request)))))

-- a response with no body, which announces the close
unfoldable pub closing_text : List ℕ → List ℕ → List ℕ
closing_text status date =
    codes "HTTP/1.1 " ++ (status ++ (codes "\r\ndate: " ++ (date ++ codes "\r\nconnection: close\r\ncontent-length: 0\r\n\r\n")))
