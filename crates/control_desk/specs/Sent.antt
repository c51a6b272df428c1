-- Fields of responses (RFC 9110: Content-Type, ETag, field values; Content Security Policy Level 3, 3.1: the field).
use Rattle.std.specs.Prelude.{ℕ, List, [], ◌∷◌, codes, decimal, if◌then◌else◌, Option, Some, None}
use Rattle.std.specs.List.{list_all}
use Rattle.http1.specs.Fields.{Header}
use Rattle.http_header.specs.FieldValue.{FieldValue}
use Rattle.http_header.specs.Token.{is_value_byte}
use Rattle.http_server.specs.Response.{IsResponse}
use Rattle.http_server.specs.declared.response.Response.{Response}
use Rattle.control_desk.specs.declared.giving.Media.{Media}
use Rattle.control_desk.specs.declared.giving.Media.TheVariants.{Html, Json, Lines, Plain}

abbrev pub media_type : Media → List ℕ
media_type Html = codes "text/html; charset=utf-8"
media_type Json = codes "application/json"
media_type Lines = codes "application/jsonl"
media_type Plain = codes "text/plain; charset=utf-8"

abbrev pub type_field : Media → List Header
type_field media = (codes "content-type", media_type media) ∷ []

-- a field, where its value may be sent
abbrev pub field : List ℕ → List ℕ → List Header
field name value = if list_all is_value_byte value then (name, value) ∷ [] else []

-- a field that was made, where there is one
abbrev pub fields_in : Option (List ℕ × FieldValue) → List Header
fields_in None = []
fields_in (Some f) = (f.0, f.1.bytes) ∷ []

-- the number of a snapshot
abbrev pub number_field : ℕ → List Header
number_field number = (codes "x-snapshot", decimal number) ∷ []

-- the console, and the policy by which a browser takes nothing else
abbrev pub IsPage : List ℕ → List ℕ → Response → Type 0
IsPage text policy = IsResponse 200 ((codes "content-security-policy", policy) ∷ type_field Html) text
