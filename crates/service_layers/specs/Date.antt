-- The date of an answer (RFC 9110, 6.6.1: Date; 5.6.7: IMF-fixdate; 5.5: field values).
use Rattle.std.specs.Prelude.{◌≡◌, ◌⊎◌, ℕ, List, [], ◌∷◌, ◌++◌, codes, Option, Some, None, if◌then◌else◌}
use Rattle.std.specs.List.{list_all}
use Rattle.http1.specs.Fields.{Header}
use Rattle.http_header.specs.FieldValue.{FieldValue}
use Rattle.http_header.specs.Token.{is_value_byte}
use Rattle.http_server.specs.Response.{IsResponse, fields_of}
use Rattle.http_server.specs.declared.response.Response.{Response}
use Rattle.httpdate.specs.Date.{date_text, unix_secs}
use Rattle.httpdate.specs.declared.date.HttpDate.{HttpDate}

-- the field Date with a text, where that may be sent
abbrev pub date_fields : List ℕ → List Header
date_fields text = if list_all is_value_byte text then (codes "date", text) ∷ [] else []

-- the field with a value, where there is one
abbrev pub fields_in : Option FieldValue → List Header
fields_in None = []
fields_in (Some value) = (codes "date", value.bytes) ∷ []

-- it shows the date of this second since 1970
abbrev pub AreOfSecond : ℕ → List Header → Type 0
AreOfSecond second fields = (date : HttpDate) × (unix_secs date ≡ second) × (fields ≡ date_fields (date_text date))

-- the response is the given one with these fields more
pub record IsDated (more : List Header) (given response : Response) : Type 0 where
  pub status : response.status ≡ given.status
  pub body : response.body ≡ given.body
  pub fields : fields_of response ≡ fields_of given ++ more

-- It is. Where memory runs out for that it tells nothing.
abbrev pub Dates : List Header → Response → Response → Type 0
Dates more given response = IsDated more given response ⊎ IsResponse 500 [] [] response
