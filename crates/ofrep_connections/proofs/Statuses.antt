-- The number of a status, and the text that begins with it.
use Rattle.std.proofs.Common.{◌≡◌, ℕ, Bool, true, false, List, if◌then◌else◌, take, decimal, refl}
use Rattle.std.specs.Prelude.{codes}
use Rattle.std.specs.Fmt.{digits}
use Rattle.http.specs.declared.error.Error.{Error}
use Rattle.http.specs.declared.error.Error.TheVariants.{StatusCode, Method, Uri, UriParts, HeaderName, HeaderValue, MaxSizeReached, OutOfMemory}
use Rattle.http1.specs.declared.error.ReadError.{ReadError}
use Rattle.http1.specs.declared.error.ReadError.TheVariants.{Parse, BareLineFeed, TooLarge, UriTooLong, Host, Framing, Chunk, UnexpectedEof, UnexpectedResponse}
use Rattle.http1.specs.ReadError.{is_too_large, status_of}
use Rattle.http_server.specs.Refusal.{bad_request, part_status, read_status, refusal_status, too_many_headers, uri_too_long}
use Rattle.http_server.specs.declared.state.Refusal.{Refusal}
use Rattle.ofrep_connections.specs.Refused.{status_text}

-- ---- numbers

pub bad : decimal 400 ≡ codes "400"
unfolding digits
bad = refl

pub large : decimal 413 ≡ codes "413"
unfolding digits
large = refl

pub long : decimal 414 ≡ codes "414"
unfolding digits
long = refl

pub many : decimal 431 ≡ codes "431"
unfolding digits
many = refl

pub broken : decimal 500 ≡ codes "500"
unfolding digits
broken = refl

pub unknown : decimal 501 ≡ codes "501"
unfolding digits
unknown = refl

-- ---- what a text begins with

-- that of a refusal
abbrev pub refusal_code : Refusal → List ℕ
refusal_code why = take 3 (refusal_status why)

-- that of a part of a request
abbrev pub part_code : Error → List ℕ
part_code e = take 3 (part_status e)

-- that of a URI which is refused
abbrev pub uri_code : Bool → List ℕ
uri_code is_too_long = take 3 (if is_too_long then uri_too_long else bad_request)

of_size : (b : Bool) → decimal (if b then 431 else 400) ≡ take 3 (if b then too_many_headers else bad_request)
of_size true = many
of_size false = bad

pub unreadable : (e : ReadError) → decimal (status_of e) ≡ take 3 (read_status e)
unreadable UriTooLong = long
unreadable (Parse e) = of_size (is_too_large (Parse e))
unreadable BareLineFeed = bad
unreadable TooLarge = many
unreadable Host = bad
unreadable (Framing e) = bad
unreadable (Chunk e) = bad
unreadable UnexpectedEof = bad
unreadable UnexpectedResponse = bad

pub other_part : (e : Error) → (e ≡ HeaderName → ⊥) → (e ≡ MaxSizeReached → ⊥) → ((uri : _) → e ≡ Uri uri → ⊥) → decimal 400 ≡ part_code e
other_part StatusCode name size uri = bad
other_part Method name size uri = bad
other_part (Uri u) name size uri = absurd (uri u refl)
other_part (UriParts u) name size uri = bad
other_part HeaderName name size uri = absurd (name refl)
other_part HeaderValue name size uri = bad
other_part MaxSizeReached name size uri = absurd (size refl)
other_part OutOfMemory name size uri = bad

-- ---- the whole text

-- of a URI which is refused
abbrev pub uri_text : Bool → List ℕ
uri_text is_too_long = if is_too_long then uri_too_long else bad_request

of_size_text : (b : Bool) → status_text (if b then 431 else 400) ≡ (if b then too_many_headers else bad_request)
of_size_text true = refl
of_size_text false = refl

pub unreadable_text : (e : ReadError) → status_text (status_of e) ≡ read_status e
unreadable_text UriTooLong = refl
unreadable_text (Parse e) = of_size_text (is_too_large (Parse e))
unreadable_text BareLineFeed = refl
unreadable_text TooLarge = refl
unreadable_text Host = refl
unreadable_text (Framing e) = refl
unreadable_text (Chunk e) = refl
unreadable_text UnexpectedEof = refl
unreadable_text UnexpectedResponse = refl

pub other_part_text : (e : Error) → (e ≡ HeaderName → ⊥) → (e ≡ MaxSizeReached → ⊥) → ((uri : _) → e ≡ Uri uri → ⊥) → status_text 400 ≡ part_status e
other_part_text StatusCode name size uri = refl
other_part_text Method name size uri = refl
other_part_text (Uri u) name size uri = absurd (uri u refl)
other_part_text (UriParts u) name size uri = refl
other_part_text HeaderName name size uri = absurd (name refl)
other_part_text HeaderValue name size uri = refl
other_part_text MaxSizeReached name size uri = absurd (size refl)
other_part_text OutOfMemory name size uri = refl
