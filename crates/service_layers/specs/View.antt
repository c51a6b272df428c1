-- What contracts see of what was seen.
use Rattle.std.specs.Prelude.{option_map}
use Rattle.httpdate.specs.Date.{date_text}
use Rattle.service_layers.specs.Line.{Seen}
use Rattle.service_layers.specs.declared.access.Access as code

abbrev pub access_view : code.Access → Seen
access_view s = record {
  date = date_text s.date;
  millis = s.millis;
  method = s.method.now;
  path = s.path.now;
  status = s.status;
  micros = s.micros;
  trace = option_map (λ id. id.now) s.trace;
}
