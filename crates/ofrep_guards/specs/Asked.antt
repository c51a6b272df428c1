-- What is asked of a guard, and what it replies (Fetch standard, 3.3, CORS protocol: https://fetch.spec.whatwg.org/#http-cors-protocol; RFC 6454, 7: Origin; RFC 9110, 8.3.1, 8.4, 15.5.2 and 15.5.16: media types, codings, 401, 415).
use Rattle.std.specs.Prelude.{ℕ, ◌==◌, Bool, true, false, not, ◌&&◌, ◌||◌, List, [], ◌∷◌, codes, map, take, drop, is_some, Option, Some, None, option_map, string_bytes, if◌then◌else◌}
use Rattle.std.specs.List.{list_any}
use Rattle.std.specs.Str.{bytes_eq}
use Rattle.std.specs.Char.{to_ascii_lowercase}
use Rattle.http.specs.Request.{head_of}
use Rattle.http.specs.declared.request.Request.{Request}
use Rattle.http_header.specs.FieldValue.{FieldValue}
use Rattle.http_header.specs.HeaderMap.{get}
use Rattle.http_uri.specs.Uri.{uri_path}
use Rattle.ofrep_requests.specs.Request.{place_of}
use Rattle.ofrep_requests.specs.declared.place.Place.{Place}
use Rattle.ofrep_requests.specs.declared.place.Place.TheVariants.{OneFlag, EveryFlag, Health, Metrics, Nowhere}
use Rattle.ofrep_guards.specs.Key.{bears, is_among, keys_view, passes}
use Rattle.ofrep_guards.specs.declared.held.HeldKeys.{HeldKeys}
use Rattle.ofrep_guards.specs.declared.held.KeyRing.{KeyRing}
use Rattle.ofrep_guards.specs.declared.reply.Reply.{Reply}
use Rattle.ofrep_guards.specs.declared.reply.Reply.TheVariants.{Forbidden, Elsewhere, Preflight, Unauthorized, Unsupported}
use Rattle.ofrep_guards.specs.declared.rules.Paths.{Paths}
use Rattle.ofrep_guards.specs.declared.rules.Paths.TheVariants.{All, Evaluations}
use Rattle.ofrep_guards.specs.declared.rules.Rules as code

-- ---- media types

-- optional white space (RFC 9110, 5.6.3)
abbrev pub is_white : ℕ → Bool
is_white b = b == 32 || b == 9

-- nothing but white space, or parameters behind it
abbrev pub ends_type : List ℕ → Bool
ends_type [] = true
ends_type (b ∷ bs) = if is_white b then ends_type bs else b == 59

abbrev pub json_type : List ℕ
json_type = codes "application/json"

-- the name of JSON, in any case of letters
abbrev pub is_json_name : List ℕ → Bool
is_json_name name = bytes_eq (map to_ascii_lowercase name) json_type

-- JSON, with any parameters
abbrev pub is_json : List ℕ → Bool
is_json value = is_json_name (take 16 value) && ends_type (drop 16 value)

-- ---- requests

-- the method, the path, and the first values of the fields that a guard reads
pub record Asked : Type 0 where
  pub method : List ℕ
  pub path : List ℕ
  pub origin : Option (List ℕ)
  pub authorization : Option (List ℕ)
  pub api_key : Option (List ℕ)
  pub content_type : Option (List ℕ)
  pub content_encoding : Option (List ℕ)

abbrev pub value_of : Option FieldValue → Option (List ℕ)
value_of value = option_map (λ (v : FieldValue). v.bytes) value

abbrev pub asked_of : Request (List ℕ) → Asked
asked_of r = record {
  method = (head_of r).method;
  path = uri_path (head_of r).uri;
  origin = value_of (get (head_of r).headers (codes "origin"));
  authorization = value_of (get (head_of r).headers (codes "authorization"));
  api_key = value_of (get (head_of r).headers (codes "x-api-key"));
  content_type = value_of (get (head_of r).headers (codes "content-type"));
  content_encoding = value_of (get (head_of r).headers (codes "content-encoding"));
}

-- flags are evaluated there
abbrev pub evaluates : Place → Bool
evaluates OneFlag = true
evaluates EveryFlag = true
evaluates Health = false
evaluates Metrics = false
evaluates Nowhere = false

-- the page of another origin that an evaluation is for
abbrev pub page_of : Asked → Option (List ℕ)
page_of r = if evaluates (place_of r.path) then r.origin else None

-- ---- rules

-- the origins that are listed, the keys of which an evaluation shows one, where it needs one, and what is served
pub record Rules : Type 0 where
  pub origins : List (List ℕ)
  pub keys : Option (List (List ℕ))
  pub paths : Paths

abbrev pub rules_view : code.Rules → Rules
rules_view r = record {
  origins = map string_bytes r.origins.now;
  keys = option_map (λ (held : HeldKeys). keys_view held.keys) r.keys;
  paths = r.paths;
}

-- the keys that guards begin with, where there is a ring of them
abbrev pub first_keys : Option KeyRing → Option (List (List ℕ))
first_keys ring = option_map (λ (r : KeyRing). keys_view r.first) ring

-- an entry of the list is the origin, or stands for any
abbrev pub is_named : List ℕ → List ℕ → Bool
is_named origin entry = bytes_eq entry (codes "*") || bytes_eq entry origin

-- the request names an origin, which is not listed
abbrev pub is_foreign : List (List ℕ) → Option (List ℕ) → Bool
is_foreign listed None = false
is_foreign listed (Some origin) = not (list_any (is_named origin) listed)

-- what a place is for is served
abbrev pub serves : Paths → Place → Bool
serves All place = true
serves Evaluations place = evaluates place

-- none is needed, or the request shows one of the keys
abbrev pub is_admitted : Option (List (List ℕ)) → Asked → Bool
is_admitted None r = true
is_admitted (Some keys) r = passes (bears keys) r.authorization || passes (is_among keys) r.api_key

abbrev pub is_other_type : Option (List ℕ) → Bool
is_other_type None = false
is_other_type (Some value) = not (is_json value)

-- the body says to be encoded, or to be no JSON
abbrev pub is_unsupported : Asked → Bool
is_unsupported r = is_some r.content_encoding || is_other_type r.content_type

-- a browser asks what a page may ask
abbrev pub is_preflight : Asked → Bool
is_preflight r = bytes_eq r.method (codes "OPTIONS") && is_some r.origin

-- ---- what the guard replies, if anything

-- to a request for an evaluation
abbrev pub evaluation_reply : Rules → Asked → Option Reply
evaluation_reply rules r =
    if is_preflight r then Some Preflight else
    (if not (is_admitted rules.keys r) then Some Unauthorized else
    (if bytes_eq r.method (codes "POST") && is_unsupported r then Some Unsupported else None))

-- to a request at a place
abbrev pub place_reply : Rules → Asked → Place → Option Reply
place_reply rules r place =
    if not (serves rules.paths place) then Some Elsewhere else
    (if evaluates place then evaluation_reply rules r else None)

-- What the guard replies to a request by its rules. None: the request is passed on.
abbrev pub reply_to : Rules → Asked → Option Reply
reply_to rules r = if is_foreign rules.origins r.origin then Some Forbidden else place_reply rules r (place_of r.path)
