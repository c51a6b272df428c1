-- What an answer depends on of a request of HTTP (RFC 9110).
use Rattle.std.specs.Prelude.{ℕ, List, codes, map}
use Rattle.http.specs.Request.{body_of, head_of}
use Rattle.http.specs.declared.request.Request.{Request}
use Rattle.http_header.specs.HeaderMap.{get_all}
use Rattle.http_uri.specs.Uri.{uri_path}
use Rattle.ofrep_answers.specs.Request.{Asked}

abbrev pub asked_of : Request (List ℕ) → Asked
asked_of r = record {
  method = (head_of r).method;
  path = uri_path (head_of r).uri;
  if_none_match = map (λ value. value.bytes) (get_all (head_of r).headers (codes "if-none-match"));
  body = body_of r;
}
