-- What a line has of a request.
use Rattle.std.specs.Prelude.{◌≡◌, ℕ, List, codes, Option, Some, None, option_map}
use Rattle.http.specs.Request.{head_of}
use Rattle.http.specs.declared.request.Request.{Request}
use Rattle.http_header.specs.FieldValue.{FieldValue}
use Rattle.http_header.specs.HeaderMap.{get}
use Rattle.http_uri.specs.Uri.{uri_path}
use Rattle.service_layers.specs.Line.{Seen}
use Rattle.service_layers.specs.Trace.{trace_in}

abbrev pub value_of : Option FieldValue → Option (List ℕ)
value_of value = option_map (λ (v : FieldValue). v.bytes) value

-- the identifier that a value has, where there is one
abbrev pub trace_given : Option (List ℕ) → Option (List ℕ)
trace_given None = None
trace_given (Some value) = trace_in value

-- the identifier of the trace that a request names
abbrev pub trace_of : Request (List ℕ) → Option (List ℕ)
trace_of r = trace_given (value_of (get (head_of r).headers (codes "traceparent")))

-- it was seen of this request, which was answered with this status
pub record IsOf (r : Request (List ℕ)) (code : ℕ) (s : Seen) : Type 0 where
  pub method : s.method ≡ (head_of r).method
  pub path : s.path ≡ uri_path (head_of r).uri
  pub status : s.status ≡ code
  pub trace : s.trace ≡ trace_of r
