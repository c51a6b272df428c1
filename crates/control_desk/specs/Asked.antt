-- What a desk reads of a request (RFC 9110, 10.1.2, 11.6.2 and 13.1.2: From, Authorization, If-None-Match; RFC 6750, 2.1: Bearer; RFC 3986, 3.4: query).
use denote.Ref.{Bor}
use Rattle.std.specs.Prelude.{◌≡◌, ◌⊎◌, ℕ, List, [], codes, drop, take, Option, Some, None, option_map, unwrap_or}
use Rattle.std.specs.Str.{IsUtf8}
use Rattle.http.specs.Request.{body_of, head_of}
use Rattle.http.specs.declared.request.Request.{Request}
use Rattle.http_header.specs.FieldValue.{FieldValue}
use Rattle.http_header.specs.HeaderMap.{get}
use Rattle.http_uri.specs.Uri.{uri_path, uri_query}

-- what tells who asks: the field From, or else the first bytes of the key that is shown, as X-API-Key: KEY or as Authorization: Bearer KEY
abbrev pub asker_in : Option (List ℕ) → Option (List ℕ) → Option (List ℕ) → List ℕ
asker_in (Some from) key authorization = from
asker_in None (Some key) authorization = take 4 key
asker_in None None (Some value) = take 4 (drop 7 value)
asker_in None None None = []

-- the bytes as a text, empty where they are none
abbrev pub IsTextOf : List ℕ → List ℕ → Type 0
IsTextOf bytes text = (IsUtf8 bytes × (text ≡ bytes)) ⊎ ((¬ (IsUtf8 bytes)) × (text ≡ []))

-- the method, the path, the query, the first value of the field If-None-Match, the body, and what tells who asks
pub record CallAsked : Type 0 where
  pub method : List ℕ
  pub path : List ℕ
  pub query : List ℕ
  pub held : Option (List ℕ)
  pub body : List ℕ
  pub asker : List ℕ

abbrev pub value_of : Option FieldValue → Option (List ℕ)
value_of value = option_map (λ (v : FieldValue). v.bytes) value

-- a value, without where it lies in memory
abbrev pub field_view : Option (Bor (List ℕ)) → Option (List ℕ)
field_view field = option_map (λ f. f.now) field

abbrev pub call_asked : Request (List ℕ) → CallAsked
call_asked r = record {
  method = (head_of r).method;
  path = uri_path (head_of r).uri;
  query = unwrap_or (uri_query (head_of r).uri) [];
  held = value_of (get (head_of r).headers (codes "if-none-match"));
  body = body_of r;
  asker = asker_in (value_of (get (head_of r).headers (codes "from"))) (value_of (get (head_of r).headers (codes "x-api-key"))) (value_of (get (head_of r).headers (codes "authorization")));
}
